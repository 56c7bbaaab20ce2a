-- The names of a printing mean what was printed.
use Rattle.std.proofs.Common.{◌≡◌, ℕ, zero, suc, ◌+◌, ◌≤◌, ◌<◌, Bool, true, false, not, ◌||◌, List, [], ◌∷◌, ◌++◌, length, Some, None, refl, sym, ap, ◌∙◌, arith}
use Rattle.std.specs.Prelude.{is_some, slice_index_or}
use Rattle.std.specs.List.{list_any, list_all}
use Rattle.std.specs.Str.{bytes_eq}
use Rattle.std.proofs.lemmas.Bool.{and_parts, and_from, or_parts, or_left, or_right, not-true}
use Rattle.std.proofs.lemmas.List.{get_or_append_left}
use Rattle.std.proofs.lemmas.List.Folds.{list_any-append}
use Rattle.std.proofs.lemmas.Slice.Eq.{bytes_eq-Decides}
use Rattle.rl_text.specs.Laws.{DecimalsAreNumbers}
use Rattle.net_model.specs.Formula as f
use Rattle.net_model.specs.Formula.{Formula, Net}
use Rattle.net_model.specs.Rules.{is_let_name, are_distinct, names_of, IsOver, span}
use Rattle.net_lang.specs.Names.{place_from, place_of, named, resolved, knows}
use Rattle.net_lang.proofs.Knowing.{no_place, place_any, eq_comm}
use Rattle.net_lang.proofs.PrintedWords.{written, IsPrintable}

-- ---- distinct names

abbrev pub at : List (List ℕ) → ℕ → List ℕ
at names i = slice_index_or names i []

pub distinct_front : (xs ys : List (List ℕ)) → are_distinct (xs ++ ys) ≡ true → are_distinct xs ≡ true
distinct_front [] ys d = refl
distinct_front (x ∷ xs) ys d =
    let a = and_parts (not (list_any (bytes_eq x) (xs ++ ys))) (are_distinct (xs ++ ys)) d in
    let b = or_parts (list_any (bytes_eq x) xs) (list_any (bytes_eq x) ys) (sym (list_any-append (bytes_eq x) xs ys) ∙ not-true (list_any (bytes_eq x) (xs ++ ys)) a.0) in
    and_from (not (list_any (bytes_eq x) xs)) (are_distinct xs) (ap not b.0) (distinct_front xs ys a.1)

-- a name that occurs nowhere has no place
not_at : (x : List ℕ) (ys : List (List ℕ)) (k : ℕ) → list_any (bytes_eq x) ys ≡ false → k < length ys → bytes_eq x (at ys k) ≡ false
not_at x [] k h l = absurd (omega (arith, l))
not_at x (y ∷ ys) zero h l = (or_parts (bytes_eq x y) (list_any (bytes_eq x) ys) h).0
not_at x (y ∷ ys) (suc k) h l = not_at x ys k (or_parts (bytes_eq x y) (list_any (bytes_eq x) ys) h).1 (omega (arith, l))

or_from : (a b : Bool) → a ≡ false → b ≡ false → (a || b) ≡ false
or_from false b e g = g
or_from true b e g = absurd cc

-- of distinct names those after occur nowhere before
pub apart : (xs ys : List (List ℕ)) (k : ℕ) → are_distinct (xs ++ ys) ≡ true → k < length ys → list_any (bytes_eq (at ys k)) xs ≡ false
apart [] ys k d l = refl
apart (x ∷ xs) ys k d l =
    let a = and_parts (not (list_any (bytes_eq x) (xs ++ ys))) (are_distinct (xs ++ ys)) d in
    let b = or_parts (list_any (bytes_eq x) xs) (list_any (bytes_eq x) ys) (sym (list_any-append (bytes_eq x) xs ys) ∙ not-true (list_any (bytes_eq x) (xs ++ ys)) a.0) in
    or_from (bytes_eq (at ys k) x) (list_any (bytes_eq (at ys k)) xs) (eq_comm x (at ys k) (not_at x ys k b.1 l)) (apart xs ys k a.1 l)

distinct_behind : (xs ys : List (List ℕ)) → are_distinct (xs ++ ys) ≡ true → are_distinct ys ≡ true
distinct_behind [] ys d = d
distinct_behind (x ∷ xs) ys d = distinct_behind xs ys (and_parts (not (list_any (bytes_eq x) (xs ++ ys))) (are_distinct (xs ++ ys)) d).1

-- the first place of a name is its own
own_place : (i k : ℕ) (xs : List (List ℕ)) → are_distinct xs ≡ true → k < length xs → place_from i (at xs k) xs ≡ Some (i + k)
own_place i k [] d l = absurd (omega (arith, l))
own_place i zero (x ∷ xs) d l = rw ((bytes_eq-Decides x x).1 refl) (let z : i ≡ i + 0 = omega arith in ap (λ (n : ℕ). Some n) z)
own_place i (suc k) (x ∷ xs) d l =
    let a = and_parts (not (list_any (bytes_eq x) xs)) (are_distinct xs) d in
    let low : k < length xs = omega (arith, l) in
    let other : bytes_eq (at xs k) x ≡ false = eq_comm x (at xs k) (not_at x xs k (not-true (list_any (bytes_eq x) xs) a.0) low) in
    let z : i + 1 + k ≡ i + suc k = omega arith in
    rw other (own_place (i + 1) k xs a.1 low ∙ ap (λ (n : ℕ). Some n) z)

-- ---- the names that a line may use: those of all inputs, and of the first lets

pub record IsScope (inputs front lets : List (List ℕ)) : Type 0 where
  pub own_input : (i : ℕ) → i < length inputs → place_of (at inputs i) inputs ≡ Some i
  pub no_input : (j : ℕ) → j < length front → place_of (at lets j) inputs ≡ None
  pub own_let : (j : ℕ) → j < length front → place_of (at lets j) front ≡ Some j

pub scope : (inputs front behind : List (List ℕ)) → are_distinct (inputs ++ front) ≡ true → IsScope inputs front (front ++ behind)
scope inputs front behind d = record {
  own_input = λ i l. own_place 0 i inputs (distinct_front inputs front d) l ∙ (let z : 0 + i ≡ i = omega arith in ap (λ (n : ℕ). Some n) z);
  no_input = λ j l. ap (λ (t : List ℕ). place_of t inputs) (get_or_append_left front behind [] j l) ∙ no_place 0 (at front j) inputs (apart inputs front j d l);
  own_let = λ j l. ap (λ (t : List ℕ). place_of t front) (get_or_append_left front behind [] j l) ∙ own_place 0 j front (distinct_behind inputs front d) l ∙ (let z : 0 + j ≡ j = omega arith in ap (λ (n : ℕ). Some n) z);
}

-- what is printed resolves to what it was
pub resolves : (m : Net) (lets : List (List ℕ)) (t : Formula) → IsScope m.inputs (names_of m.lets) lets → IsOver (length m.inputs) (length (names_of m.lets)) t → IsPrintable m.inputs lets t → resolved m (written m.inputs lets t) ≡ t
resolves m lets f.Never s o p = refl
resolves m lets (f.Input n) s o p = λ i. named (s.own_input n o i) (place_of (at m.inputs n) (names_of m.lets))
resolves m lets (f.Named n) s o p = λ i. named (s.no_input n o i) (s.own_let n o i)
resolves m lets (f.Min a b) s o p = λ i. f.Min (resolves m lets a s o.0 p.0 i) (resolves m lets b s o.1 p.1 i)
resolves m lets (f.Max a b) s o p = λ i. f.Max (resolves m lets a s o.0 p.0 i) (resolves m lets b s o.1 p.1 i)
resolves m lets (f.Lt a b) s o p = λ i. f.Lt (resolves m lets a s o.0 p.0 i) (resolves m lets b s o.1 p.1 i)
resolves m lets (f.Inc a c) s o p = λ i. f.Inc (resolves m lets a s o p.0 i) (p.1.value i)

-- a name that has a place occurs somewhere
has_place : (t : List ℕ) (xs : List (List ℕ)) (i : ℕ) → place_of t xs ≡ Some i → list_any (bytes_eq t) xs ≡ true
has_place t xs i e = sym (place_any 0 t xs) ∙ ap is_some e

-- each name of what is printed is known
pub all_known : (m : Net) (lets : List (List ℕ)) (t : Formula) → IsScope m.inputs (names_of m.lets) lets → IsOver (length m.inputs) (length (names_of m.lets)) t → knows m (written m.inputs lets t) ≡ true
all_known m lets f.Never s o = refl
all_known m lets (f.Input n) s o =
    let t = at m.inputs n in
    list_any-append (bytes_eq t) m.inputs (names_of m.lets) ∙ or_left (list_any (bytes_eq t) m.inputs) (list_any (bytes_eq t) (names_of m.lets)) (has_place t m.inputs n (s.own_input n o))
all_known m lets (f.Named n) s o =
    let t = at lets n in
    list_any-append (bytes_eq t) m.inputs (names_of m.lets) ∙ or_right (list_any (bytes_eq t) m.inputs) (list_any (bytes_eq t) (names_of m.lets)) (has_place t (names_of m.lets) n (s.own_let n o))
all_known m lets (f.Min a b) s o = and_from _ _ (all_known m lets a s o.0) (all_known m lets b s o.1)
all_known m lets (f.Max a b) s o = and_from _ _ (all_known m lets a s o.0) (all_known m lets b s o.1)
all_known m lets (f.Lt a b) s o = and_from _ _ (all_known m lets a s o.0) (all_known m lets b s o.1)
all_known m lets (f.Inc a c) s o = all_known m lets a s o

-- ---- what may be printed

name_at : (p : List ℕ → Bool) (xs : List (List ℕ)) (i : ℕ) → list_all p xs ≡ true → i < length xs → p (at xs i) ≡ true
name_at p [] i h l = absurd (omega (arith, l))
name_at p (x ∷ xs) zero h l = (and_parts (p x) (list_all p xs) h).0
name_at p (x ∷ xs) (suc i) h l = name_at p xs i (and_parts (p x) (list_all p xs) h).1 (omega (arith, l))

pub printable : DecimalsAreNumbers → (inputs lets : List (List ℕ)) (k : ℕ) (spans : List ℕ) (t : Formula) → list_all is_let_name inputs ≡ true → list_all is_let_name lets ≡ true → k ≤ length lets
    → IsOver (length inputs) k t → span spans t ≤ 1000000 → IsPrintable inputs lets t
printable decimals inputs lets k spans f.Never h g low o s = tt
printable decimals inputs lets k spans (f.Input n) h g low o s = name_at is_let_name inputs n h o
printable decimals inputs lets k spans (f.Named n) h g low o s = name_at is_let_name lets n g (omega (arith, low, o))
printable decimals inputs lets k spans (f.Min a b) h g low o s = (printable decimals inputs lets k spans a h g low o.0 (omega (arith, s)), printable decimals inputs lets k spans b h g low o.1 (omega (arith, s)))
printable decimals inputs lets k spans (f.Max a b) h g low o s = (printable decimals inputs lets k spans a h g low o.0 (omega (arith, s)), printable decimals inputs lets k spans b h g low o.1 (omega (arith, s)))
printable decimals inputs lets k spans (f.Lt a b) h g low o s = (printable decimals inputs lets k spans a h g low o.0 (omega (arith, s)), printable decimals inputs lets k spans b h g low o.1 (omega (arith, s)))
printable decimals inputs lets k spans (f.Inc a c) h g low o s = (printable decimals inputs lets k spans a h g low o (omega (arith, s)), decimals c (omega (arith, s)))
