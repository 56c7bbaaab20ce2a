-- The names that a module declares, and what each means.
use Rattle.std.proofs.Common.{◌≡◌, ◌≢◌, ℕ, zero, suc, ◌+◌, ◌<◌, Bool, true, false, not, List, [], ◌∷◌, ◌++◌, length, get_or, map, Some, None, refl, sym, ap, subst, ◌∙◌, arith, append_assoc, cond}
use Rattle.std.specs.Prelude.{AllPairs, codes, slice_get, bytes_eq}
use Rattle.std.specs.List.{list_any}
use Rattle.std.proofs.lemmas.Bool.{and_parts, and_from, or_parts, or_from, not-true, both_ways, false_from_ne_true}
use Rattle.std.proofs.lemmas.List.{map-append, append-nil}
use Rattle.std.proofs.lemmas.List.Folds.{list_any-append}
use Rattle.std.proofs.lemmas.Slice.Eq.{bytes_eq-Decides}
use Rattle.circuit.specs.Circuit.{Register, Circuit}
use Rattle.circuit.specs.Names.{in_name, out_name, declared_names}
use Rattle.verilog_text.specs.Judging.{Meaning, ClockOrReset, InputAt, OutputAt, WireAt, RegAt, Entry, found}
use Rattle.circuit.specs.Tested.{all_distinct}

-- ---- distinct names

none_of : (x : List ℕ) (ys : List (List ℕ)) → ((k : ℕ) → k < length ys → x ≢ get_or ys k []) → list_any (bytes_eq x) ys ≡ false
none_of x [] h = refl
none_of x (y ∷ ys) h =
    or_from (bytes_eq x y) (list_any (bytes_eq x) ys) (false_from_ne_true (bytes_eq x y) (λ t. h zero (omega arith) ((bytes_eq-Decides x y).0 t)))
    (none_of x ys (λ k l. h (suc k) (omega arith)))

pub distinct_from_pairs : (xs : List (List ℕ)) → AllPairs (λ a b. a ≢ b) xs → all_distinct xs ≡ true
distinct_from_pairs [] h = refl
distinct_from_pairs (x ∷ xs) h =
    and_from (not (list_any (bytes_eq x) xs)) (all_distinct xs) (ap not (none_of x xs (λ k l. h zero (suc k) [] (omega arith) (omega arith))))
    (distinct_from_pairs xs (λ i j d lt le. h (suc i) (suc j) d (omega arith) (omega arith)))

pub distinct_front : (xs ys : List (List ℕ)) → all_distinct (xs ++ ys) ≡ true → all_distinct xs ≡ true
distinct_front [] ys d = refl
distinct_front (x ∷ xs) ys d =
    let a = and_parts (not (list_any (bytes_eq x) (xs ++ ys))) (all_distinct (xs ++ ys)) d in
    let b = or_parts (list_any (bytes_eq x) xs) (list_any (bytes_eq x) ys) (sym (list_any-append (bytes_eq x) xs ys) ∙ not-true (list_any (bytes_eq x) (xs ++ ys)) a.0) in
    and_from (not (list_any (bytes_eq x) xs)) (all_distinct xs) (ap not b.0) (distinct_front xs ys a.1)

pub distinct_behind : (xs ys : List (List ℕ)) → all_distinct (xs ++ ys) ≡ true → all_distinct ys ≡ true
distinct_behind [] ys d = d
distinct_behind (x ∷ xs) ys d = distinct_behind xs ys (and_parts (not (list_any (bytes_eq x) (xs ++ ys))) (all_distinct (xs ++ ys)) d).1

eq_comm : (x y : List ℕ) → bytes_eq x y ≡ false → bytes_eq y x ≡ false
eq_comm x y h = false_from_ne_true (bytes_eq y x) (λ t. both_ways (bytes_eq x y) h ((bytes_eq-Decides x y).1 (sym ((bytes_eq-Decides y x).0 t))))

-- a name that occurs nowhere has no place
not_at : (x : List ℕ) (ys : List (List ℕ)) (k : ℕ) (y : List ℕ) → list_any (bytes_eq x) ys ≡ false → slice_get ys k ≡ Some y → bytes_eq x y ≡ false
not_at x [] k y h e = absurd cc
not_at x (z ∷ ys) zero y h e = let same : z ≡ y = cc in subst (λ v. bytes_eq x v ≡ false) same (or_parts (bytes_eq x z) (list_any (bytes_eq x) ys) h).0
not_at x (z ∷ ys) (suc k) y h e = not_at x ys k y (or_parts (bytes_eq x z) (list_any (bytes_eq x) ys) h).1 e

-- of distinct names those after occur nowhere before
apart : (xs ys : List (List ℕ)) (k : ℕ) (y : List ℕ) → all_distinct (xs ++ ys) ≡ true → slice_get ys k ≡ Some y → list_any (bytes_eq y) xs ≡ false
apart [] ys k y d e = refl
apart (x ∷ xs) ys k y d e =
    let a = and_parts (not (list_any (bytes_eq x) (xs ++ ys))) (all_distinct (xs ++ ys)) d in
    let b = or_parts (list_any (bytes_eq x) xs) (list_any (bytes_eq x) ys) (sym (list_any-append (bytes_eq x) xs ys) ∙ not-true (list_any (bytes_eq x) (xs ++ ys)) a.0) in
    or_from (bytes_eq y x) (list_any (bytes_eq y) xs) (eq_comm x y (not_at x ys k y b.1 e)) (apart xs ys k y a.1 e)

-- ---- entries

abbrev pub names_in : List Entry → List (List ℕ)
names_in es = map (λ (e : Entry). e.name) es

none_found : (n : List ℕ) (es : List Entry) → list_any (bytes_eq n) (names_in es) ≡ false → found n es ≡ None
none_found n [] h = refl
none_found n (e ∷ es) h = let a = or_parts (bytes_eq n e.name) (list_any (bytes_eq n) (names_in es)) h in rw (a.0) (none_found n es a.1)

found_behind : (n : List ℕ) (es fs : List Entry) → list_any (bytes_eq n) (names_in es) ≡ false → found n (es ++ fs) ≡ found n fs
found_behind n [] fs h = refl
found_behind n (e ∷ es) fs h = let a = or_parts (bytes_eq n e.name) (list_any (bytes_eq n) (names_in es)) h in rw (a.0) (found_behind n es fs a.1)

found_front : (n : List ℕ) (es fs : List Entry) (v : Meaning) → found n es ≡ Some v → found n (es ++ fs) ≡ Some v
found_front n [] fs v h = absurd cc
found_front n (e ∷ es) fs v h = turn (bytes_eq n e.name) (found_front n es fs v) h where
  turn : (b : Bool) → (found n es ≡ Some v → found n (es ++ fs) ≡ Some v) → cond b (Some e.meaning) (found n es) ≡ Some v → cond b (Some e.meaning) (found n (es ++ fs)) ≡ Some v
  turn true f g = g
  turn false f g = f g

-- a name that is none of those before it
pub is_new : (es : List Entry) (n : List ℕ) (behind : List (List ℕ)) → all_distinct (names_in es ++ n ∷ behind) ≡ true → found n es ≡ None
is_new es n behind d = none_found n es (apart (names_in es) (n ∷ behind) 0 n d refl)

-- names, each with what it means by its place
abbrev pub entries_at : (ℕ → Meaning) → ℕ → List (List ℕ) → List Entry
entries_at f k [] = []
entries_at f k (n ∷ names) = record { name = n; meaning = f k } ∷ entries_at f (suc k) names

pub entries_more : (f : ℕ → Meaning) (k : ℕ) (names : List (List ℕ)) (n : List ℕ) → entries_at f k (names ++ n ∷ []) ≡ entries_at f k names ++ record { name = n; meaning = f (k + length names) } ∷ []
entries_more f k [] n = let z : k ≡ k + 0 = omega arith in ap (λ (j : ℕ). record { name = n; meaning = f j } ∷ []) z
entries_more f k (m ∷ names) n =
    let z : suc k + length names ≡ k + length (m ∷ names) = omega arith in
    ap (λ (es : List Entry). record { name = m; meaning = f k } ∷ es) (entries_more f (suc k) names n ∙ ap (λ (j : ℕ). entries_at f (suc k) names ++ record { name = n; meaning = f j } ∷ []) z)

pub names_at : (f : ℕ → Meaning) (k : ℕ) (names : List (List ℕ)) → names_in (entries_at f k names) ≡ names
names_at f k [] = refl
names_at f k (n ∷ names) = ap (λ (ns : List (List ℕ)). n ∷ ns) (names_at f (suc k) names)

found_own : (f : ℕ → Meaning) (k i : ℕ) (names : List (List ℕ)) (n : List ℕ) → all_distinct names ≡ true → slice_get names i ≡ Some n → found n (entries_at f k names) ≡ Some (f (k + i))
found_own f k i [] n d e = absurd cc
found_own f k zero (x ∷ names) n d e =
    let same : n ≡ x = cc in
    let z : k ≡ k + 0 = omega arith in
    rw ((bytes_eq-Decides n x).1 same) (ap (λ (j : ℕ). Some (f j)) z)
found_own f k (suc i) (x ∷ names) n d e =
    let a = and_parts (not (list_any (bytes_eq x) names)) (all_distinct names) d in
    let other : bytes_eq n x ≡ false = eq_comm x n (not_at x names i n (not-true (list_any (bytes_eq x) names) a.0) e) in
    let z : suc k + i ≡ k + suc i = omega arith in
    rw other (found_own f (suc k) i names n a.1 e ∙ ap (λ (j : ℕ). Some (f j)) z)

-- between others
found_at : (f : ℕ → Meaning) (front back : List Entry) (names : List (List ℕ)) (i : ℕ) (n : List ℕ) → all_distinct (names_in ((front ++ entries_at f 0 names) ++ back)) ≡ true → slice_get names i ≡ Some n
    → found n ((front ++ entries_at f 0 names) ++ back) ≡ Some (f i)
found_at f front back names i n d e =
    let own = entries_at f 0 names in
    let split = map-append (λ (x : Entry). x.name) (front ++ own) back in
    let inner = map-append (λ (x : Entry). x.name) front own ∙ ap (λ (ns : List (List ℕ)). names_in front ++ ns) (names_at f 0 names) in
    let first : all_distinct (names_in front ++ names) ≡ true = subst (λ (ns : List (List ℕ)). all_distinct ns ≡ true) inner (distinct_front (names_in (front ++ own)) (names_in back) (subst (λ (ns : List (List ℕ)). all_distinct ns ≡ true) split d)) in
    let z : 0 + i ≡ i = omega arith in
    found_front n (front ++ own) back (f i) (found_behind n front own (apart (names_in front) names i n first e)
    ∙ found_own f 0 i names n (distinct_behind (names_in front) names first) e ∙ ap (λ (j : ℕ). Some (f j)) z)

-- ---- the entries of some inputs, outputs, wires and registers, by their names

abbrev pub clocks : List Entry
clocks = record { name = codes "clk"; meaning = ClockOrReset } ∷ record { name = codes "rst"; meaning = ClockOrReset } ∷ []

abbrev pub entries : List (List ℕ) → List (List ℕ) → List (List ℕ) → List (List ℕ) → List Entry
entries is os ws rs = (((clocks ++ entries_at InputAt 0 is) ++ entries_at OutputAt 0 os) ++ entries_at WireAt 0 ws) ++ entries_at RegAt 0 rs

grown : (front : List Entry) (ns : List (List ℕ)) (f : ℕ → Meaning) (names : List (List ℕ)) → names_in front ≡ ns → names_in (front ++ entries_at f 0 names) ≡ ns ++ names
grown front ns f names e = map-append (λ (x : Entry). x.name) front (entries_at f 0 names) ∙ (λ i. e i ++ names_at f 0 names i)

pub entries_names : (is os ws rs : List (List ℕ)) → names_in (entries is os ws rs) ≡ codes "clk" ∷ codes "rst" ∷ (((is ++ os) ++ ws) ++ rs)
entries_names is os ws rs =
    let i = clocks ++ entries_at InputAt 0 is in
    let o = i ++ entries_at OutputAt 0 os in
    let w = o ++ entries_at WireAt 0 ws in
    grown w _ RegAt rs (grown o _ WireAt ws (grown i _ OutputAt os (grown clocks _ InputAt is refl)))

abbrev pub register_names : List Register → List (List ℕ)
register_names rs = map (λ (r : Register). r.name) rs

-- the entries of a module
abbrev pub entries_of : Circuit → List Entry
entries_of m = entries (map in_name m.inputs) (map out_name m.outputs) m.wires (register_names m.regs)

-- each name of the module means what it names
pub record IsScope (m : Circuit) (es : List Entry) : Type 0 where
  pub input : (i : ℕ) (n : List ℕ) → slice_get m.inputs i ≡ Some n → found (in_name n) es ≡ Some (InputAt i)
  pub output : (o : ℕ) (n : List ℕ) → slice_get m.outputs o ≡ Some n → found (out_name n) es ≡ Some (OutputAt o)
  pub wire : (w : ℕ) (n : List ℕ) → slice_get m.wires w ≡ Some n → found n es ≡ Some (WireAt w)
  pub reg : (r : ℕ) (g : Register) → slice_get m.regs r ≡ Some g → found g.name es ≡ Some (RegAt r)

mapped : {X Y : Type 0} (f : X → Y) (xs : List X) (i : ℕ) (x : X) → slice_get xs i ≡ Some x → slice_get (map f xs) i ≡ Some (f x)
mapped f [] i x e = absurd cc
mapped f (y ∷ xs) zero x e = let same : y ≡ x = cc in ap (λ z. Some (f z)) same
mapped f (y ∷ xs) (suc i) x e = mapped f xs i x e

-- found in the entries, which fall into these parts
in_part : (es : List Entry) (f : ℕ → Meaning) (front back : List Entry) (names : List (List ℕ)) → all_distinct (names_in es) ≡ true → es ≡ (front ++ entries_at f 0 names) ++ back
    → (i : ℕ) (n : List ℕ) → slice_get names i ≡ Some n → found n es ≡ Some (f i)
in_part es f front back names d e i n at =
    subst (λ (fs : List Entry). found n fs ≡ Some (f i)) (sym e) (found_at f front back names i n (subst (λ (fs : List Entry). all_distinct (names_in fs) ≡ true) e d) at)

pub scope : (m : Circuit) → AllPairs (λ a b. a ≢ b) (declared_names m) → IsScope m (entries_of m)
scope m pairs =
    let is = map in_name m.inputs in
    let os = map out_name m.outputs in
    let rs = register_names m.regs in
    let d : all_distinct (names_in (entries_of m)) ≡ true = subst (λ (ns : List (List ℕ)). all_distinct ns ≡ true) (sym (entries_names is os m.wires rs)) (distinct_from_pairs (declared_names m) pairs) in
    let i = entries_at InputAt 0 is in
    let o = entries_at OutputAt 0 os in
    let w = entries_at WireAt 0 m.wires in
    let r = entries_at RegAt 0 rs in
    let at_inputs : entries_of m ≡ (clocks ++ i) ++ (o ++ (w ++ r)) = in_parts clocks i o w r in
    let at_outputs : entries_of m ≡ ((clocks ++ i) ++ o) ++ (w ++ r) = append_assoc ((clocks ++ i) ++ o) w r in
    let at_wires : entries_of m ≡ (((clocks ++ i) ++ o) ++ w) ++ r = refl in
    let at_regs : entries_of m ≡ ((((clocks ++ i) ++ o) ++ w) ++ r) ++ [] = sym (append-nil (entries_of m)) in
    record {
      input = λ k n e. in_part (entries_of m) InputAt clocks (o ++ (w ++ r)) is d at_inputs k (in_name n) (mapped in_name m.inputs k n e);
      output = λ k n e. in_part (entries_of m) OutputAt (clocks ++ i) (w ++ r) os d at_outputs k (out_name n) (mapped out_name m.outputs k n e);
      wire = λ k n e. in_part (entries_of m) WireAt ((clocks ++ i) ++ o) r m.wires d at_wires k n e;
      reg = λ k g e. in_part (entries_of m) RegAt (((clocks ++ i) ++ o) ++ w) [] rs d at_regs k g.name (mapped (λ (g : Register). g.name) m.regs k g e);
    } where
      in_parts : (c i o w r : List Entry) → (((c ++ i) ++ o) ++ w) ++ r ≡ (c ++ i) ++ (o ++ (w ++ r))
      in_parts c i o w r = simp append_assoc
