-- Names that are distinguished by a look-up of each among the later ones.
use Rattle.std.proofs.Common.{◌≡◌, ℕ, List, [], ◌∷◌, Option, Some, None, refl, suc, sym, subst, arith}
use Rattle.std.specs.Prelude.{Bool, true, false, cond, All, is_some}
use Rattle.std.specs.Map.{lookup}
use Rattle.std.specs.Str.{bytes_eq}
use Rattle.std.proofs.lemmas.Slice.Eq.{bytes_eq-Decides}
use Rattle.std.proofs.lemmas.List.Elements.{All-cons, All-head, All-tail}
use Rattle.std.proofs.lemmas.List.Kept.{AllPairs-cons}
use Rattle.std.proofs.Common.{Decides}
use Rattle.rl_io.specs.Files.{Files, AreDistinct}

abbrev pub Entry : Type 0
Entry = List ℕ × List ℕ

abbrev pub IsApart : Entry → Entry → Type 0
IsApart f g = f.0 ≡ g.0 → ⊥

at_head : (b : Bool) (P : Type 0) (file : List ℕ) (rest : Option (List ℕ)) → Decides b P → cond b (Some file) rest ≡ None → (P → ⊥) × (rest ≡ None)
at_head true P file rest d e = absurd (cc)
at_head false P file rest d e = (λ p. let e : false ≡ true = d.1 p in cc, e)

none_named : (f : Entry) (es : Files) → lookup (bytes_eq f.0) es ≡ None → All (IsApart f) es
none_named f [] e = λ k d lt. absurd (omega arith)
none_named f (g ∷ es) e =
    let both = at_head (bytes_eq f.0 g.0) (f.0 ≡ g.0) g.1 (lookup (bytes_eq f.0) es) (bytes_eq-Decides f.0 g.0) e in
    All-cons (IsApart f) g es both.0 (none_named f es both.1)

pairs_head : (f : Entry) (es : Files) → AreDistinct (f ∷ es) → All (IsApart f) es
pairs_head f es h = λ k d lt. h 0 (suc k) d (omega arith) (omega arith)

pairs_tail : (f : Entry) (es : Files) → AreDistinct (f ∷ es) → AreDistinct es
pairs_tail f es h = λ i j d lt lj. h (suc i) (suc j) d (omega arith) (omega arith)

none_of : (held : Option (List ℕ)) → is_some held ≡ false → held ≡ None
none_of None e = refl
none_of (Some file) e = absurd (cc)

-- a first name that none of the others has
pub distinct_more : (all : Files) (f : Entry) (es : Files) → all ≡ f ∷ es → is_some (lookup (bytes_eq f.0) es) ≡ false → AreDistinct es → AreDistinct all
distinct_more all f es is e h =
    subst AreDistinct (sym is) (AllPairs-cons IsApart f es (none_named f es (none_of (lookup (bytes_eq f.0) es) e)) h)

pub distinct_rest : (all : Files) (f : Entry) (es : Files) → all ≡ f ∷ es → AreDistinct all → AreDistinct es
distinct_rest all f es is h = pairs_tail f es (subst AreDistinct is h)

one_named : (b : Bool) (P : Type 0) (file : List ℕ) (rest : Option (List ℕ)) (was : List ℕ) → Decides b P → cond b (Some file) rest ≡ Some was → (P → ⊥) → rest ≡ Some was
one_named true P file rest was d e ne = absurd (ne (d.0 refl))
one_named false P file rest was d e ne = e

named : (f : Entry) (es : Files) (file : List ℕ) → lookup (bytes_eq f.0) es ≡ Some file → All (IsApart f) es → ⊥
named f [] file e all = absurd (cc)
named f (g ∷ es) file e all =
    named f es file (one_named (bytes_eq f.0 g.0) (f.0 ≡ g.0) g.1 (lookup (bytes_eq f.0) es) file (bytes_eq-Decides f.0 g.0) e (All-head (IsApart f) g es all)) (All-tail (IsApart f) g es all)

twice : (f : Entry) (es : Files) (held : Option (List ℕ)) → lookup (bytes_eq f.0) es ≡ held → is_some held ≡ true → All (IsApart f) es → ⊥
twice f es None is e all = absurd (let no : false ≡ true = e in cc)
twice f es (Some file) is e all = named f es file is all

-- a first name that one of the others has too
pub not_distinct : (all : Files) (f : Entry) (es : Files) → all ≡ f ∷ es → is_some (lookup (bytes_eq f.0) es) ≡ true → AreDistinct all → ⊥
not_distinct all f es is e h =
    twice f es (lookup (bytes_eq f.0) es) refl e (pairs_head f es (subst AreDistinct is h))
