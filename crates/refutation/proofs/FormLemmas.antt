-- What is read as a form is spelled so, and what is spelled so is read.
use Rattle.std.proofs.Common.{◌≡◌, ℕ, ℤ, ◌+◌, min, Bool, true, false, cond, ◌&&◌, List, [], ◌∷◌, ◌++◌, Option, Some, None, refl, sym, ap, subst, ◌∙◌}
use Rattle.std.specs.Prelude.{codes, pos, neg_ℤ}
use Rattle.std.specs.Str.{bytes_eq}
use Rattle.std.proofs.lemmas.List.{append-nil}
use Rattle.std.proofs.lemmas.Slice.Eq.{bytes_eq-Decides}
use Rattle.rl_text.specs.declared.token.Kind.{Kind}
use Rattle.rl_text.specs.declared.token.Kind.TheVariants as kind
use Rattle.rl_text.specs.Lines.{Word}
use Rattle.rl_text.specs.Writing.{name, sign}
use Rattle.rl_text.specs.Numbers.{is_plain, number_of}
use Rattle.net_model.specs.Limits.{most_ports}
use Rattle.refutation.specs.declared.reader.form.Difference.{Difference}
use Rattle.refutation.specs.Limits.{most_bound, numbers_end}
use Rattle.refutation.specs.Forms.{Form, Header, Begin, Split, Leaf, Fact, Closed, Open, End, IsNumber, IsBound, IsDifference, IsChain, IsLine}
use Rattle.refutation.specs.FormReading.{◌>>=◌, is_name, is_number, is_symbol, is_sign, number_at, number_first, bound_first, difference_first, after_colon, chain_at, ended, split_at, fact_at, header_at, begin_at, by_word, form_at}

some_is : {A : Type 0} (x y : A) → Some x ≡ Some y → x ≡ y
some_is x y e = cc

bind_some : {A B : Type 0} (r : Option A) (f : A → Option B) (y : B) → (r >>= f) ≡ Some y → (x : A) × (r ≡ Some x) × (f x ≡ Some y)
bind_some (Some x) f y e = (x, refl, e)
bind_some None f y e = absurd cc

split : {A : Type 0} (b : Bool) (r : Option A) (y : A) → cond b r None ≡ Some y → (b ≡ true) × (r ≡ Some y)
split true r y e = (refl, e)
split false r y e = absurd cc

and_true : (a b : Bool) → (a && b) ≡ true → (a ≡ true) × (b ≡ true)
and_true true true e = (refl, refl)
and_true true false e = absurd cc
and_true false b e = absurd cc

is_name-true : (k : Kind) → is_name k ≡ true → k ≡ kind.Name
is_name-true kind.Name e = refl
is_name-true _ e = absurd cc

is_number-true : (k : Kind) → is_number k ≡ true → k ≡ kind.Number
is_number-true kind.Number e = refl
is_number-true _ e = absurd cc

is_symbol-true : (k : Kind) → is_symbol k ≡ true → k ≡ kind.Symbol
is_symbol-true kind.Symbol e = refl
is_symbol-true _ e = absurd cc

same_word : (w : Word) (k : Kind) (t : List ℕ) → w.kind ≡ k → w.bytes ≡ t → w ≡ record { kind = k; bytes = t }
same_word w k t p q = λ i. record { kind = p i; bytes = q i }

sign_is : (t : List ℕ) (w : Word) → is_sign t w ≡ true → w ≡ sign t
sign_is t w e = let h = and_true (is_symbol w.kind) (bytes_eq w.bytes t) e in same_word w kind.Symbol t (is_symbol-true w.kind h.0) ((bytes_eq-Decides w.bytes t).0 h.1)

-- ---- numbers

number_some : (limit n : ℕ) (w : Word) → number_at limit w ≡ Some n → IsNumber limit n w
unfolding number_at
number_some limit n w e =
    let s = split (is_number w.kind && is_plain w.bytes) (Some (min (number_of w.bytes) limit)) n e in
    let h = and_true (is_number w.kind) (is_plain w.bytes) s.0 in
    record { digits = w.bytes; word = same_word w kind.Number w.bytes (is_number-true w.kind h.0) refl; plain = h.1; counts = sym (some_is (min (number_of w.bytes) limit) n s.1) }

number-again : (limit n : ℕ) (w : Word) → IsNumber limit n w → number_at limit w ≡ Some n
unfolding number_at
number-again limit n w h = ap (number_at limit) h.word ∙ rw h.plain (ap (λ (m : ℕ). Some m) (sym h.counts))

-- a number in front
record HasNumber (limit n : ℕ) (ws rest : List Word) : Type 0 where
  word : Word
  words : ws ≡ word ∷ rest
  is : IsNumber limit n word

first_some : (limit : ℕ) (ws : List Word) (x : ℕ × List Word) → number_first limit ws ≡ Some x → HasNumber limit x.0 ws x.1
unfolding number_first
first_some limit [] x e = absurd cc
first_some limit (w ∷ ws) x e =
    let b = bind_some (number_at limit w) (λ n. Some (n, ws)) x e in
    subst (λ (y : ℕ × List Word). HasNumber limit y.0 (w ∷ ws) y.1) (some_is (b.0, ws) x b.2) (record { word = w; words = refl; is = number_some limit b.0 w b.1 })

first-again : (limit n : ℕ) (w : Word) (ws : List Word) → IsNumber limit n w → number_first limit (w ∷ ws) ≡ Some (n, ws)
unfolding number_first
first-again limit n w ws h = rw (number-again limit n w h) refl

-- ---- bounds

record HasBound (b : ℤ) (ws rest : List Word) : Type 0 where
  front : List Word
  words : ws ≡ front ++ rest
  is : IsBound b front

bound_some : (ws : List Word) (x : ℤ × List Word) → bound_first ws ≡ Some x → HasBound x.0 ws x.1
unfolding bound_first
bound_some [] x e = absurd cc
bound_some (w ∷ ws) x e = dash (is_sign (codes "-") w) refl e where
  Goal : ℤ × List Word → Type 0
  Goal y = HasBound y.0 (w ∷ ws) y.1

  dash : (b : Bool) → is_sign (codes "-") w ≡ b
      → cond b (number_first (most_bound + 1) ws >>= λ n. Some (neg_ℤ (pos n.0), n.1)) (number_at (most_bound + 1) w >>= λ n. Some (pos n, ws)) ≡ Some x → Goal x
  dash true is g =
      let b = bind_some (number_first (most_bound + 1) ws) (λ n. Some (neg_ℤ (pos n.0), n.1)) x g in
      let n = first_some (most_bound + 1) ws b.0 b.1 in
      let s = sign_is (codes "-") w is in
      subst Goal (some_is (neg_ℤ (pos b.0.0), b.0.1) x b.2) (record { front = w ∷ n.word ∷ []; words = ap (λ (r : List Word). w ∷ r) n.words; is = (s, (b.0.0, n.is, refl)) })
  dash false is g =
      let b = bind_some (number_at (most_bound + 1) w) (λ n. Some (pos n, ws)) x g in
      subst Goal (some_is (pos b.0, ws) x b.2) (record { front = w ∷ []; words = refl; is = (b.0, number_some (most_bound + 1) b.0 w b.1, refl) })

not_dash : (w : Word) (n : ℕ) → IsNumber (most_bound + 1) n w → is_sign (codes "-") w ≡ false
not_dash w n h = ap (is_sign (codes "-")) h.word

bound-again : (b : ℤ) (ws rest : List Word) → IsBound b ws → bound_first (ws ++ rest) ≡ Some (b, rest)
unfolding bound_first
bound-again b [] rest h = absurd h
bound-again b (w ∷ []) rest h = rw (not_dash w h.0 h.1) (rw (number-again (most_bound + 1) h.0 w h.1) (ap (λ (c : ℤ). Some (c, rest)) (sym h.2)))
bound-again b (s ∷ w ∷ []) rest h = rw h.0 (rw (first-again (most_bound + 1) h.1.0 w rest h.1.1) (ap (λ (c : ℤ). Some (c, rest)) (sym h.1.2)))
bound-again b (s ∷ w ∷ v ∷ ws) rest h = absurd h

-- ---- differences

record HasDifference (d : Difference) (ws rest : List Word) : Type 0 where
  front : List Word
  words : ws ≡ front ++ rest
  is : IsDifference d front

join_difference : (from to : ℕ) (b : ℤ) (ws u v rest : List Word) → HasNumber most_ports from ws u → HasNumber most_ports to u v → HasBound b v rest → HasDifference (record { from = from; to = to; bound = b }) ws rest
join_difference from to b ws u v rest i j w = record {
  front = i.word ∷ j.word ∷ w.front;
  words = i.words ∙ (λ k. i.word ∷ j.words k) ∙ (λ k. i.word ∷ j.word ∷ w.words k);
  is = (i.is, j.is, w.is);
}

same_difference : (y x : Difference × List Word) (ws : List Word) → Some y ≡ Some x → HasDifference y.0 ws y.1 → HasDifference x.0 ws x.1
same_difference y x ws e h = subst (λ (z : Difference × List Word). HasDifference z.0 ws z.1) (some_is y x e) h

difference_some : (ws : List Word) (x : Difference × List Word) → difference_first ws ≡ Some x → HasDifference x.0 ws x.1
unfolding difference_first
difference_some ws x e =
    let a = bind_some (number_first most_ports ws) (λ i. number_first most_ports i.1 >>= λ j. bound_first j.1 >>= λ w. Some (record { from = i.0; to = j.0; bound = w.0 }, w.1)) x e in
    let b = bind_some (number_first most_ports a.0.1) (λ j. bound_first j.1 >>= λ w. Some (record { from = a.0.0; to = j.0; bound = w.0 }, w.1)) x a.2 in
    let c = bind_some (bound_first b.0.1) (λ w. Some (record { from = a.0.0; to = b.0.0; bound = w.0 }, w.1)) x b.2 in
    same_difference (record { from = a.0.0; to = b.0.0; bound = c.0.0 }, c.0.1) x ws c.2
    (join_difference a.0.0 b.0.0 c.0.0 ws a.0.1 b.0.1 c.0.1 (first_some most_ports ws a.0 a.1) (first_some most_ports a.0.1 b.0 b.1) (bound_some b.0.1 c.0 c.1))

difference-again : (d : Difference) (ws rest : List Word) → IsDifference d ws → difference_first (ws ++ rest) ≡ Some (d, rest)
unfolding difference_first
difference-again d [] rest h = absurd h
difference-again d (i ∷ []) rest h = absurd h
difference-again d (i ∷ j ∷ ws) rest h = rw (first-again most_ports d.from i (j ∷ ws ++ rest) h.0, first-again most_ports d.to j (ws ++ rest) h.1, bound-again d.bound ws rest h.2) refl

-- ---- chains

chain_some : (ws : List Word) (chain : List ℕ) → chain_at ws ≡ Some chain → IsChain chain ws
unfolding chain_at
chain_some [] chain e = subst (λ (c : List ℕ). IsChain c []) (some_is [] chain e) tt
chain_some (w ∷ ws) chain e =
    let a = bind_some (number_at numbers_end w) (λ k. chain_at ws >>= λ chain. Some (k ∷ chain)) chain e in
    let b = bind_some (chain_at ws) (λ chain. Some (a.0 ∷ chain)) chain a.2 in
    subst (λ (c : List ℕ). IsChain c (w ∷ ws)) (some_is (a.0 ∷ b.0) chain b.2) (number_some numbers_end a.0 w a.1, chain_some ws b.0 b.1)

chain-again : (ws : List Word) (chain : List ℕ) → IsChain chain ws → chain_at ws ≡ Some chain
unfolding chain_at
chain-again [] [] h = refl
chain-again [] (k ∷ chain) h = absurd h
chain-again (w ∷ ws) [] h = absurd h
chain-again (w ∷ ws) (k ∷ chain) h = rw (number-again numbers_end k w h.0, chain-again ws chain h.1) refl

-- ---- lines

ended_some : {A : Type 0} (x y : A) (ws : List Word) → ended x ws ≡ Some y → (ws ≡ []) × (x ≡ y)
ended_some x y [] e = (refl, cc)
ended_some x y (w ∷ ws) e = absurd cc

-- one test of a chain
turn : {A : Type 0} (P : Type 0) (b : Bool) (r s : Option A) (y : A) → (b ≡ true → r ≡ Some y → P) → (s ≡ Some y → P) → cond b r s ≡ Some y → P
turn P true r s y p q e = p refl e
turn P false r s y p q e = q e

-- a line that begins with this word
abbrev Line : List ℕ → List Word → Form → Type 0
Line t ws f = IsLine (name t ∷ ws) f

-- a line of one word
one_word : (u t : List ℕ) (ws : List Word) (x f : Form) → (name t ∷ ws ≡ name u ∷ [] → Line t ws x) → t ≡ u → ended x ws ≡ Some f → Line t ws f
one_word u t ws x f is h e = let z = ended_some x f ws e in subst (Line t ws) z.1 (is (λ i. name (h i) ∷ z.0 i))

colon_some : (ws rest : List Word) → after_colon ws ≡ Some rest → ws ≡ sign (codes ":") ∷ rest
unfolding after_colon
colon_some [] rest e = absurd cc
colon_some (w ∷ ws) rest e =
    let s = split (is_sign (codes ":") w) (Some ws) rest e in
    let r = some_is ws rest s.1 in
    let c = sign_is (codes ":") w s.0 in
    λ i. c i ∷ r i

fact_line : (t : List ℕ) (d : Difference) (chain : List ℕ) (ws u v : List Word) → t ≡ codes "fact" → HasDifference d ws u → u ≡ sign (codes ":") ∷ v → IsChain chain v → Line t ws (Fact d chain)
fact_line t d chain ws u v h g c k = (g.front, v, (λ i. name (h i) ∷ g.words i) ∙ (λ i. name (codes "fact") ∷ g.front ++ c i), g.is, k)

is_fact : (t : List ℕ) (ws : List Word) (f : Form) → t ≡ codes "fact" → fact_at ws ≡ Some f → Line t ws f
unfolding fact_at
is_fact t ws f h e =
    let a = bind_some (difference_first ws) (λ d. after_colon d.1 >>= λ rest. chain_at rest >>= λ chain. Some (Fact d.0 chain)) f e in
    let b = bind_some (after_colon a.0.1) (λ rest. chain_at rest >>= λ chain. Some (Fact a.0.0 chain)) f a.2 in
    let c = bind_some (chain_at b.0) (λ chain. Some (Fact a.0.0 chain)) f b.2 in
    subst (Line t ws) (some_is (Fact a.0.0 c.0) f c.2) (fact_line t a.0.0 c.0 ws a.0.1 b.0 h (difference_some ws a.0 a.1) (colon_some a.0.1 b.0 b.1) (chain_some b.0 c.0 c.1))

split_line : (t : List ℕ) (d : Difference) (ws u : List Word) → t ≡ codes "split" → HasDifference d ws u → u ≡ [] → Line t ws (Split d)
split_line t d ws u h g z = (g.front, (λ i. name (h i) ∷ g.words i) ∙ (λ i. name (codes "split") ∷ g.front ++ z i) ∙ (λ i. name (codes "split") ∷ append-nil g.front i), g.is)

is_split : (t : List ℕ) (ws : List Word) (f : Form) → t ≡ codes "split" → split_at ws ≡ Some f → Line t ws f
unfolding split_at
is_split t ws f h e =
    let a = bind_some (difference_first ws) (λ d. ended (Split d.0) d.1) f e in
    let z = ended_some (Split a.0.0) f a.0.1 a.2 in
    subst (Line t ws) z.1 (split_line t a.0.0 ws a.0.1 h (difference_some ws a.0 a.1) z.0)

is_closed : (t : List ℕ) (ws : List Word) (f : Form) → t ≡ codes "closed" → (chain_at ws >>= (λ chain. Some (Closed chain))) ≡ Some f → Line t ws f
is_closed t ws f h e =
    let a = bind_some (chain_at ws) (λ chain. Some (Closed chain)) f e in
    subst (Line t ws) (some_is (Closed a.0) f a.2) (ws, (λ i. name (h i) ∷ ws), chain_some ws a.0 a.1)

is_header : (t : List ℕ) (ws : List Word) (f : Form) → t ≡ codes "racetree" → header_at ws ≡ Some f → Line t ws f
unfolding header_at
is_header t [] f h e = absurd cc
is_header t (w ∷ ws) f h e =
    let s = split (is_number w.kind && bytes_eq w.bytes (codes "1")) (ended Header ws) f e in
    let g = and_true (is_number w.kind) (bytes_eq w.bytes (codes "1")) s.0 in
    let z = ended_some Header f ws s.1 in
    let n = same_word w kind.Number (codes "1") (is_number-true w.kind g.0) ((bytes_eq-Decides w.bytes (codes "1")).0 g.1) in
    subst (Line t (w ∷ ws)) z.1 (λ i. name (h i) ∷ n i ∷ z.0 i)

is_begin : (t : List ℕ) (ws : List Word) (f : Form) → t ≡ codes "tree" → begin_at ws ≡ Some f → Line t ws f
unfolding begin_at
is_begin t [] f h e = absurd cc
is_begin t (w ∷ ws) f h e =
    let s = split (is_name w.kind) (ended (Begin w.bytes) ws) f e in
    let z = ended_some (Begin w.bytes) f ws s.1 in
    let n = same_word w kind.Name w.bytes (is_name-true w.kind s.0) refl in
    subst (Line t (w ∷ ws)) z.1 (λ i. name (h i) ∷ n i ∷ z.0 i)

by_word_some : (t : List ℕ) (ws : List Word) (f : Form) → by_word t ws ≡ Some f → Line t ws f
unfolding by_word
by_word_some t ws f e =
    let P = Line t ws f in
    let is = λ (u : List ℕ). (bytes_eq-Decides t u).0 in
    turn P (bytes_eq t (codes "fact")) _ _ f (λ h. is_fact t ws f (is (codes "fact") h))
    (turn P (bytes_eq t (codes "split")) _ _ f (λ h. is_split t ws f (is (codes "split") h))
    (turn P (bytes_eq t (codes "leaf")) _ _ f (λ h. one_word (codes "leaf") t ws Leaf f (λ l. l) (is (codes "leaf") h))
    (turn P (bytes_eq t (codes "closed")) _ _ f (λ h. is_closed t ws f (is (codes "closed") h))
    (turn P (bytes_eq t (codes "open")) _ _ f (λ h. one_word (codes "open") t ws Open f (λ l. l) (is (codes "open") h))
    (turn P (bytes_eq t (codes "tree")) _ _ f (λ h. is_begin t ws f (is (codes "tree") h))
    (turn P (bytes_eq t (codes "end")) _ _ f (λ h. one_word (codes "end") t ws End f (λ l. l) (is (codes "end") h))
    (turn P (bytes_eq t (codes "racetree")) _ None f (λ h. is_header t ws f (is (codes "racetree") h)) (λ n. absurd cc)))))))) e

pub form_some : (ws : List Word) (f : Form) → form_at ws ≡ Some f → IsLine ws f
unfolding form_at
form_some [] f e = absurd cc
form_some (w ∷ ws) f e =
    let s = split (is_name w.kind) (by_word w.bytes ws) f e in
    let h = same_word w kind.Name w.bytes (is_name-true w.kind s.0) refl in
    subst (λ (v : Word). IsLine (v ∷ ws) f) (sym h) (by_word_some w.bytes ws f s.1)

split-again : (d : Difference) (ws : List Word) → IsDifference d ws → split_at ws ≡ Some (Split d)
unfolding split_at
split-again d ws h = ap (λ (r : Option (Difference × List Word)). r >>= λ d. ended (Split d.0) d.1) (ap difference_first (sym (append-nil ws)) ∙ difference-again d ws [] h)

pub form_again : (ws : List Word) (f : Form) → IsLine ws f → form_at ws ≡ Some f
unfolding form_at by_word header_at begin_at split_at fact_at after_colon
form_again ws Header l = ap form_at l
form_again ws (Begin n) l = ap form_at l
form_again ws (Split d) l = ap form_at l.1 ∙ split-again d l.0 l.2
form_again ws Leaf l = ap form_at l
form_again ws (Fact d chain) l = ap form_at l.2 ∙ rw (difference-again d l.0 (sign (codes ":") ∷ l.1) l.3) (rw (chain-again l.1 chain l.4) refl)
form_again ws (Closed chain) l = ap form_at l.1 ∙ rw (chain-again l.0 chain l.2) refl
form_again ws Open l = ap form_at l
form_again ws End l = ap form_at l
