-- Names with commas between them, read in a loop.
use Rattle.std.proofs.Common.{Vec, Global, ◌≡◌, ℕ, suc, ◌<◌, Bool, true, false, cond, List, [], ◌∷◌, ◌++◌, length, Some, None, Err, refl, sym, ap, ◌∙◌, append_assoc, arith}
use Rattle.std.specs.Prelude.{codes, drop, map}
use Rattle.std.proofs.lemmas.List.{append-nil}
use denote.Bor.{Bor}
use Rattle.rl_text.specs.Lexemes.{Lexeme}
use Rattle.verilog_text.specs.Reading.{Read, ◌>>=◌, is_name, is_symbol, begins, after, name_at, bytes_at, more_names, names_at}
use Rattle.verilog_syntax.specs.declared.error.ReadError.{ReadError}
use Rattle.verilog_syntax.specs.declared.error.ReadError.TheVariants.{Syntax, NoMemory}
use Rattle.verilog_syntax.specs.Reads.{Gives}
use Rattle.verilog_syntax.proofs.Chains.{lacks, has}

-- the names that were read before, and those that are still read
abbrev pub with_front : List (List ℕ) → Read (List (List ℕ)) → Read (List (List ℕ))
with_front front read = read >>= λ x. Some (front ++ x.0, x.1)

-- what a name, or names, and the words after them are
abbrev pub seen_name : List Lexeme → Bor (List ℕ) → List ℕ × List Lexeme
seen_name after_it x = (x.now, after_it)

abbrev pub seen_names : List Lexeme → Vec (Bor (List ℕ)) Global → List (List ℕ) × List Lexeme
seen_names after_it x = (map (λ (n : Bor (List ℕ)). n.now) x.items, after_it)

none_left : (ls : List Lexeme) → begins is_symbol (codes ",") ls ≡ false → more_names ls ≡ Some ([], ls)
none_left [] h = refl
none_left (c ∷ []) h = rw h refl
none_left (c ∷ n ∷ ls) h = rw h refl

same_pair : (x y : List ℕ × List Lexeme) → Some x ≡ Some y → x ≡ y
same_pair x y e = cc

named : (l : Lexeme) (ls rest : List Lexeme) (n : List ℕ) → name_at (l ∷ ls) ≡ Some (n, rest) → (is_name l.word.kind ≡ true) × (l.word.bytes ≡ n) × (ls ≡ rest)
unfolding bytes_at
named l ls rest n e = split (is_name l.word.kind) e
  where
    split : (b : Bool) → cond {A = Read (List ℕ)} b (Some (l.word.bytes, ls)) None ≡ Some (n, rest) → (b ≡ true) × (l.word.bytes ≡ n) × (ls ≡ rest)
    split true e =
        let p = same_pair (l.word.bytes, ls) (n, rest) e in
        (refl, ap (λ (x : List ℕ × List Lexeme). x.0) p, ap (λ (x : List ℕ × List Lexeme). x.1) p)
    split false e = absurd cc

unnamed : (l : Lexeme) (ls : List Lexeme) → name_at (l ∷ ls) ≡ None → is_name l.word.kind ≡ false
unfolding bytes_at
unnamed l ls e = split (is_name l.word.kind) e
  where
    split : (b : Bool) → cond {A = Read (List ℕ)} b (Some (l.word.bytes, ls)) None ≡ None → b ≡ false
    split true e = absurd cc
    split false e = refl

one_more : (ls mid rest : List Lexeme) (n : List ℕ) → begins is_symbol (codes ",") ls ≡ true → drop 1 ls ≡ mid → name_at mid ≡ Some (n, rest) → more_names ls ≡ (more_names rest >>= (λ ns. Some (n ∷ ns.0, ns.1)))
unfolding begins bytes_at
one_more [] mid rest n h d e = absurd cc
one_more (c ∷ []) mid rest n h d e = absurd (let f : name_at [] ≡ Some (n, rest) = ap name_at d ∙ e in cc)
one_more (c ∷ l ∷ ls) mid rest n h d e =
    let g = named l ls rest n (ap name_at d ∙ e) in
    rw (h, g.0) (λ i. more_names (g.2 i) >>= (λ ns. Some (g.1 i ∷ ns.0, ns.1)))

no_more : (ls mid : List Lexeme) → begins is_symbol (codes ",") ls ≡ true → drop 1 ls ≡ mid → name_at mid ≡ None → more_names ls ≡ None
unfolding begins
no_more [] mid h d e = absurd cc
no_more (c ∷ []) mid h d e = rw h refl
no_more (c ∷ l ∷ ls) mid h d e = rw (h, unnamed l ls (ap name_at d ∙ e)) refl

regroup : (front : List (List ℕ)) (n : List ℕ) (read : Read (List (List ℕ))) → with_front front (read >>= (λ x. Some (n ∷ x.0, x.1))) ≡ with_front (front ++ n ∷ []) read
regroup front n (Some x) = ap (λ (ns : List (List ℕ)). Some (ns, x.1)) (simp append_assoc)
regroup front n None = refl

pub names_first : (n : List ℕ) (ls rest : List Lexeme) → name_at ls ≡ Some (n, rest) → with_front (n ∷ []) (more_names rest) ≡ names_at ls
unfolding names_at
names_first n ls rest e = rw e refl

pub names_none : (after_it : List Lexeme) (f : ReadError) (ls : List Lexeme) → Gives (seen_name after_it) (Err f) (name_at ls) → Gives (seen_names after_it) (Err f) (names_at ls)
unfolding names_at
names_none after_it NoMemory ls e = tt
names_none after_it Syntax ls e = rw e refl

pub names_done : (front : List (List ℕ)) (ls : List Lexeme) (total : Read (List (List ℕ))) → after is_symbol (codes ",") ls ≡ None → with_front front (more_names ls) ≡ total → total ≡ Some (front, ls)
names_done front ls total e so_far =
    sym so_far ∙ ap (with_front front) (none_left ls (lacks (codes ",") ls e)) ∙ ap (λ (ns : List (List ℕ)). Some (ns, ls)) (append-nil front)

pub names_go : (front : List (List ℕ)) (n : List ℕ) (ls mid rest : List Lexeme) (total : Read (List (List ℕ))) → after is_symbol (codes ",") ls ≡ Some mid → name_at mid ≡ Some (n, rest)
    → with_front front (more_names ls) ≡ total → with_front (front ++ n ∷ []) (more_names rest) ≡ total
names_go front n ls mid rest total e h so_far =
    let g = has (codes ",") ls mid e in
    sym (regroup front n (more_names rest)) ∙ sym (ap (with_front front) (one_more ls mid rest n g.0 g.1 h)) ∙ so_far

pub names_fail : (after_it : List Lexeme) (f : ReadError) (front : List (List ℕ)) (ls mid : List Lexeme) (total : Read (List (List ℕ))) → after is_symbol (codes ",") ls ≡ Some mid → Gives (seen_name after_it) (Err f) (name_at mid)
    → with_front front (more_names ls) ≡ total → Gives (seen_names after_it) (Err f) total
names_fail after_it NoMemory front ls mid total e h so_far = tt
names_fail after_it Syntax front ls mid total e h so_far =
    let g = has (codes ",") ls mid e in
    sym so_far ∙ ap (with_front front) (no_more ls mid g.0 g.1 h)

-- ---- what was read is taken away

drop_short : (ls mid : List Lexeme) → begins is_symbol (codes ",") ls ≡ true → drop 1 ls ≡ mid → suc (length mid) ≡ length ls
unfolding begins
drop_short [] mid h d = absurd cc
drop_short (l ∷ ls) mid h d = ap (λ (k : List Lexeme). suc (length k)) (sym d)

name_short : (ls rest : List Lexeme) (n : List ℕ) → name_at ls ≡ Some (n, rest) → suc (length rest) ≡ length ls
unfolding bytes_at
name_short [] rest n e = absurd cc
name_short (l ∷ ls) rest n e = ap (λ (k : List Lexeme). suc (length k)) (sym (named l ls rest n e).2)

pub shorter : (ls mid rest : List Lexeme) (n : List ℕ) → after is_symbol (codes ",") ls ≡ Some mid → name_at mid ≡ Some (n, rest) → length rest < length ls
shorter ls mid rest n e h =
    let g = has (codes ",") ls mid e in
    let a = drop_short ls mid g.0 g.1 in
    let b = name_short mid rest n h in
    omega (arith, a, b)
