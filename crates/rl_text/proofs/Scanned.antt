-- The first bad byte of a text of style Race, found byte by byte.
use Rattle.std.proofs.Common.{inl, inr, ◌≡◌, ◌≢◌, ℕ, zero, suc, ◌+◌, ◌<◌, ◌≤◌, Bool, true, false, cond, ◌&&◌, ◌||◌, eqb, List, [], ◌∷◌, length, drop, Option, Some, None, refl, sym, ap, subst, ◌∙◌, arith}
use Rattle.std.specs.Prelude.{option_map, slice_index, MatchOption}
use Rattle.std.specs.List.{prefix_len}
use Rattle.std.proofs.lemmas.List.{drop_more, drop_all}
use Rattle.std.proofs.lemmas.Bool.{or_cases, eqb-true, cond_both, or_left, or_right}
use Rattle.rl_text.specs.declared.token.Kind.{Kind}
use Rattle.rl_text.specs.declared.token.Style.TheVariants as style
use Rattle.rl_text.specs.declared.place.Place.{Place}
use Rattle.rl_text.specs.declared.place.Place.TheVariants as place
use Rattle.rl_text.specs.Names.{is_letter, is_underscore, is_name_start, is_name_byte, is_digit}
use Rattle.rl_text.specs.Pieces.{is_blank, is_newline, is_comment_byte}
use Rattle.rl_text.specs.Tokens.{IsBad}
use Rattle.rl_text.specs.Front.{is_sign, race_front, front}
use Rattle.rl_text.specs.Cursor.{HasTokens}
use Rattle.rl_text.specs.Scan.{is_plain, next_place}
use Rattle.rl_text.proofs.Cuts.{ends, fails, starts}
use Rattle.rl_text.proofs.Falls.{ReadTo, read_more, shorter}

abbrev onward : Option Place → (Place → Option ℕ) → Option ℕ
onward None go = Some 0
onward (Some p) go = option_map suc (go p)

-- the first bad byte from a place on
abbrev pub bad_from : Place → List ℕ → Option ℕ
bad_from p [] = None
bad_from p (b ∷ bytes) = onward (next_place p b) (λ q. bad_from q bytes)

abbrev pub further : ℕ → Option ℕ → Option ℕ
further n found = option_map (λ m. n + m) found

further_suc : (n : ℕ) (found : Option ℕ) → option_map suc (further n found) ≡ further (suc n) found
further_suc n None = refl
further_suc n (Some m) = ap Some (omega arith)

further_one : (found : Option ℕ) → option_map suc found ≡ further 1 found
further_one None = refl
further_one (Some m) = ap Some (omega arith)

further_none : (found : Option ℕ) → found ≡ further 0 found
further_none None = refl
further_none (Some m) = ap Some (omega arith)

further_twice : (n m : ℕ) (found : Option ℕ) → further n (further m found) ≡ further (n + m) found
further_twice n m None = refl
further_twice n m (Some k) = ap Some (omega arith)

-- after so many bytes more, the first bad byte is that of what is left
abbrev SkipsTo : Place → List ℕ → ℕ → Type 0
SkipsTo p bytes n = bad_from p bytes ≡ further n (bad_from place.Between (drop n bytes))

skips_more : (p : Place) (b : ℕ) (bytes : List ℕ) (n : ℕ) (q : Place) → next_place p b ≡ Some q → SkipsTo q bytes n → SkipsTo p (b ∷ bytes) (1 + n)
skips_more p b bytes n q e h =
    let one : 1 + n ≡ suc n = omega arith in
    rw one (ap (λ (o : Option Place). onward o (λ r. bad_from r bytes)) e ∙ ap (option_map suc) h ∙ further_suc n (bad_from place.Between (drop n bytes)))

skips_none : (p : Place) (bytes : List ℕ) → bad_from p bytes ≡ bad_from place.Between bytes → SkipsTo p bytes 0
skips_none p bytes e = e ∙ further_none (bad_from place.Between bytes)

plain_next : (b : ℕ) → is_plain b ≡ true → next_place place.Between b ≡ Some place.Between
plain_next b h = rw h refl

-- bytes that pass a test which only plain bytes pass
run : (p : ℕ → Bool) → ((b : ℕ) → p b ≡ true → is_plain b ≡ true) → (bytes : List ℕ) → SkipsTo place.Between bytes (prefix_len p bytes)
run p f [] = refl
run p f (b ∷ bytes) =
    cond_both (p b) (1 + prefix_len p bytes) 0 (SkipsTo place.Between (b ∷ bytes))
    (λ h. skips_more place.Between b bytes (prefix_len p bytes) place.Between (plain_next b (f b h)) (run p f bytes))
    (λ _. skips_none place.Between (b ∷ bytes) refl)

-- ---- a comment and a dash

in_comment_next : (b : ℕ) → is_comment_byte b ≡ true → next_place place.Comment b ≡ Some place.Comment
in_comment_next b h = rw h refl

ends_comment : (b : ℕ) (bytes : List ℕ) → is_comment_byte b ≡ false → bad_from place.Comment (b ∷ bytes) ≡ bad_from place.Between (b ∷ bytes)
ends_comment b bytes h = rw h refl

comment : (bytes : List ℕ) → SkipsTo place.Comment bytes (prefix_len is_comment_byte bytes)
comment [] = refl
comment (b ∷ bytes) =
    cond_both (is_comment_byte b) (1 + prefix_len is_comment_byte bytes) 0 (SkipsTo place.Comment (b ∷ bytes))
    (λ h. skips_more place.Comment b bytes (prefix_len is_comment_byte bytes) place.Comment (in_comment_next b h) (comment bytes))
    (λ h. skips_none place.Comment (b ∷ bytes) (ends_comment b bytes h))

no_arrow : (b : ℕ) (bytes : List ℕ) → eqb b 62 ≡ false → bad_from place.Dash (b ∷ bytes) ≡ bad_from place.Between (b ∷ bytes)
no_arrow b bytes h = rw h refl

arrow : (b : ℕ) (bytes : List ℕ) → eqb b 62 ≡ true → SkipsTo place.Dash (b ∷ bytes) 1
arrow b bytes h = rw (eqb-true b 62 h) (further_one (bad_from place.Between bytes))

dash : (bytes : List ℕ) → SkipsTo place.Dash bytes (cond (eqb (slice_index bytes 0) 62) 1 0)
dash [] = refl
dash (b ∷ bytes) =
    cond_both (eqb b 62) 1 0 (SkipsTo place.Dash (b ∷ bytes)) (arrow b bytes) (λ h. skips_none place.Dash (b ∷ bytes) (no_arrow b bytes h))

-- ---- a piece

plain_none : (b : ℕ) → is_name_start b ≡ false → is_digit b ≡ false → is_blank b ≡ false → is_newline b ≡ false → is_sign b ≡ false → is_plain b ≡ false
plain_none b s d k n g = rw (d, k, n, g) (by (is_letter b) (is_underscore b) s) where
  by : (x y : Bool) → (x || y) ≡ false → (((x || false || y) || false) || false || false) ≡ false
  by false false e = refl
  by true y e = absurd cc
  by false true e = absurd cc

name_is_plain : (b : ℕ) → is_name_byte b ≡ true → is_plain b ≡ true
name_is_plain b h = or_left (is_name_byte b || is_blank b || is_newline b) (is_sign b) (or_left (is_name_byte b || is_blank b) (is_newline b) (or_left (is_name_byte b) (is_blank b) h))

start_is_plain : (b : ℕ) → is_name_start b ≡ true → is_plain b ≡ true
start_is_plain b h = name_is_plain b (elim (or_cases (is_letter b) (is_underscore b) h) [
  | inl x ↦ or_left (is_letter b || is_digit b) (is_underscore b) (or_left (is_letter b) (is_digit b) x)
  | inr y ↦ or_right (is_letter b || is_digit b) (is_underscore b) y
])

digit_is_plain : (b : ℕ) → is_digit b ≡ true → is_plain b ≡ true
digit_is_plain b h = name_is_plain b (or_left (is_letter b || is_digit b) (is_underscore b) (or_right (is_letter b) (is_digit b) h))

blank_is_plain : (b : ℕ) → is_blank b ≡ true → is_plain b ≡ true
blank_is_plain b h = or_left (is_name_byte b || is_blank b || is_newline b) (is_sign b) (or_left (is_name_byte b || is_blank b) (is_newline b) (or_right (is_name_byte b) (is_blank b) h))

newline_is_plain : (b : ℕ) → is_newline b ≡ true → is_plain b ≡ true
newline_is_plain b h = or_left (is_name_byte b || is_blank b || is_newline b) (is_sign b) (or_right (is_name_byte b || is_blank b) (is_newline b) h)

sign_is_plain : (b : ℕ) → is_sign b ≡ true → is_plain b ≡ true
sign_is_plain b h = or_right (is_name_byte b || is_blank b || is_newline b) (is_sign b) h

-- what is found at the front of a text is skipped
abbrev SkipsFront : List ℕ → Option (Option Kind × ℕ) → Type 0
SkipsFront text None = bad_from place.Between text ≡ Some 0
SkipsFront text (Some (k, n)) = SkipsTo place.Between text n

skips_run : (p : ℕ → Bool) (b : ℕ) (bytes : List ℕ) → is_plain b ≡ true → ((c : ℕ) → p c ≡ true → is_plain c ≡ true) → SkipsTo place.Between (b ∷ bytes) (prefix_len p bytes + 1)
skips_run p b bytes h f =
    let n : prefix_len p bytes + 1 ≡ 1 + prefix_len p bytes = omega arith in
    rw n (skips_more place.Between b bytes (prefix_len p bytes) place.Between (plain_next b h) (run p f bytes))

skips_one : (b : ℕ) (bytes : List ℕ) → is_plain b ≡ true → SkipsTo place.Between (b ∷ bytes) 1
skips_one b bytes h = skips_more place.Between b bytes 0 place.Between (plain_next b h) (skips_none place.Between bytes refl)

skips_comment : (b : ℕ) (bytes : List ℕ) → eqb b 35 ≡ true → SkipsTo place.Between (b ∷ bytes) (prefix_len is_comment_byte bytes + 1)
skips_comment b bytes h =
    let n : prefix_len is_comment_byte bytes + 1 ≡ 1 + prefix_len is_comment_byte bytes = omega arith in
    rw (n, eqb-true b 35 h) (skips_more place.Between 35 bytes (prefix_len is_comment_byte bytes) place.Comment refl (comment bytes))

skips_dash : (b : ℕ) (bytes : List ℕ) → eqb b 45 ≡ true → SkipsTo place.Between (b ∷ bytes) (cond (eqb (slice_index bytes 0) 62) 2 1)
skips_dash b bytes h =
    let n : cond (eqb (slice_index bytes 0) 62) 2 1 ≡ 1 + cond (eqb (slice_index bytes 0) 62) 1 0 = cond_both (eqb (slice_index bytes 0) 62) 2 1 (λ m. m ≡ 1 + cond (eqb (slice_index bytes 0) 62) 1 0) (λ e. rw e refl) (λ e. rw e refl) in
    rw (n, eqb-true b 45 h) (skips_more place.Between 45 bytes (cond (eqb (slice_index bytes 0) 62) 1 0) place.Dash refl (dash bytes))

-- a byte that begins no piece is bad
nothing_there : (b : ℕ) (bytes : List ℕ) → is_name_start b ≡ false → is_digit b ≡ false → is_blank b ≡ false → eqb b 35 ≡ false → is_newline b ≡ false → eqb b 45 ≡ false → is_sign b ≡ false → bad_from place.Between (b ∷ bytes) ≡ Some 0
nothing_there b bytes s d k c n a g = let p : is_plain b ≡ false = plain_none b s d k n g in rw (p, c, a) (by_arrow (eqb b 62)) where
  by_arrow : (t : Bool) → onward (cond (t && false) (Some place.Between) None) (λ q. bad_from q bytes) ≡ Some 0
  by_arrow true = refl
  by_arrow false = refl

skips_front : (text : List ℕ) → text ≢ [] → SkipsFront text (race_front text)
unfolding race_front
skips_front [] h = absurd (h refl)
skips_front (b ∷ bytes) some =
    let P : Option (Option Kind × ℕ) → Type 0 = SkipsFront (b ∷ bytes) in
    cond_both (is_name_start b) _ _ P (λ h. skips_run is_name_byte b bytes (start_is_plain b h) name_is_plain) (λ s.
    cond_both (is_digit b) _ _ P (λ h. skips_run is_digit b bytes (digit_is_plain b h) digit_is_plain) (λ d.
    cond_both (is_blank b) _ _ P (λ h. skips_one b bytes (blank_is_plain b h)) (λ k.
    cond_both (eqb b 35) _ _ P (skips_comment b bytes) (λ c.
    cond_both (is_newline b) _ _ P (λ h. skips_one b bytes (newline_is_plain b h)) (λ n.
    cond_both (eqb b 45) _ _ P (skips_dash b bytes) (λ a.
    cond_both (is_sign b) _ _ P (λ h. skips_one b bytes (sign_is_plain b h)) (λ g. nothing_there b bytes s d k c n a g)))))))

-- ---- the whole text

-- what is known of a text, of which the rest is from a place on
abbrev Decided : List ℕ → ℕ → Option ℕ → Type 0
Decided text at found = MatchOption found (HasTokens style.Race text) (λ n. IsBad style.Race text (at + n))

later : (text : List ℕ) (at n : ℕ) (found : Option ℕ) → Decided text (at + n) found → Decided text at (further n found)
later text at n None d = d
later text at n (Some m) d = subst (IsBad style.Race text) (omega arith) d

by_front : (text rest : List ℕ) (at m : ℕ) (found : Option (Option Kind × ℕ)) → front style.Race rest ≡ found → rest ≢ [] → ReadTo style.Race text rest at → SkipsFront rest found
    → ((k : Option Kind) (n : ℕ) → front style.Race rest ≡ Some (k, n) → Decided text (at + n) (bad_from place.Between (drop n rest))) → Decided text at (bad_from place.Between rest)
by_front text rest at m None e some r s go = rw s (subst (IsBad style.Race text) (omega arith) (fails style.Race text rest at r.0 r.1 r.2 some e))
by_front text rest at m (Some (k, n)) e some r s go = subst (Decided text at) (sym s) (later text at n (bad_from place.Between (drop n rest)) (go k n e))

decided : (m : ℕ) (text rest : List ℕ) (at : ℕ) → length rest ≤ m → ReadTo style.Race text rest at → Decided text at (bad_from place.Between rest)
decided m text [] at h r = record { tokens = _; lexed = ends style.Race text [] at r.0 r.1 r.2 refl }
decided zero text (b ∷ rest) at h r = absurd (omega (arith, h))
decided (suc m) text (b ∷ rest) at h r =
    by_front text (b ∷ rest) at m (race_front (b ∷ rest)) refl (λ e. cc) r (skips_front (b ∷ rest) (λ e. cc))
    (λ k n e. decided m text (drop n (b ∷ rest)) (at + n) (shorter style.Race (b ∷ rest) k n m h e) (read_more style.Race text (b ∷ rest) (drop n (b ∷ rest)) at k n r e refl))

-- the first bad byte is where a text has a place at which there is no piece
scanned : (text : List ℕ) → Decided text 0 (bad_from place.Between text)
scanned text = decided (length text) text text 0 (omega arith) (_, _, starts style.Race text [] refl)

-- ---- a loop over the bytes

abbrev pub At : List ℕ → Place → ℕ → Type 0
At text p at = bad_from place.Between text ≡ further at (bad_from p (drop at text))

pub found_bad : (text : List ℕ) (p : Place) (at b : ℕ) → at < length text → b ≡ slice_index text at → next_place p b ≡ None → At text p at → IsBad style.Race text at
found_bad text p at b l e n h =
    let bytes : drop at text ≡ b ∷ drop (at + 1) text = drop_more text at 0 l ∙ ap (λ (c : ℕ). c ∷ drop (at + 1) text) (sym e) in
    let here : bad_from p (drop at text) ≡ Some 0 = ap (bad_from p) bytes ∙ ap (λ (o : Option Place). onward o (λ q. bad_from q (drop (at + 1) text))) n in
    let all : bad_from place.Between text ≡ Some (at + 0) = h ∙ ap (further at) here in
    let bad : IsBad style.Race text (0 + (at + 0)) = subst (Decided text 0) all (scanned text) in
    subst (IsBad style.Race text) (omega arith) bad

pub found_none : (text : List ℕ) (p : Place) (at : ℕ) → length text ≤ at → At text p at → HasTokens style.Race text
found_none text p at l h =
    let none : bad_from place.Between text ≡ None = h ∙ ap (λ (bytes : List ℕ). further at (bad_from p bytes)) (drop_all at text l) in
    subst (Decided text 0) none (scanned text)
