-- Assumptions that can be met, and facts that show what they imply.
use Rattle.std.proofs.Common.{add-one, ◌≡◌, ℕ, ◌+◌, ◌≤◌, ◌<◌, take, List, [], ◌∷◌, ◌++◌, length, refl, sym, ap, subst, ◌∙◌, arith, Bool, true, false, ◌⊎◌, inl, inr, get_or, zero, suc}
use Rattle.std.specs.Prelude.{ℤ, pos, negsuc, neg_ℤ, ◌-ℤ◌, ◌≤ℤ◌, ◌<ℤ◌, int_le, nat_eq, nat_lt, ◌&&◌, ◌||◌, Option, Some, option_map, IfSome}
use Rattle.std.proofs.lemmas.Bool.{ne_eqb}
use Rattle.std.specs.List.{AllByRecursion}
use Rattle.std.specs.Bool.{MatchBool}
use Rattle.spike_eval.specs.Premises.{NameInputs}
use Rattle.std.proofs.lemmas.Bool.{false≢true}
use Rattle.std.proofs.lemmas.Int.{ints}
use Rattle.std.proofs.lemmas.Bool.Decides.{nat_tests}
use Rattle.net_model.specs.declared.assume.Assume.{Assume}
use Rattle.refutation.specs.declared.item.Fact.{Fact}
use Rattle.refutation.specs.Path.{MeetsAll, at, assumption, runs, sum_of}
use Rattle.refutation.specs.Cases.{Path}
use Rattle.diff_bounds.specs.Bounds.{System, Implies, IsLeast, IsSolution, integers}
use Rattle.diff_bounds.proofs.Least.{and_true, equal, int_true, chain_shows, meets_more, lt_of}
use Rattle.diff_bounds.proofs.Ending.{and_is}
use Rattle.tree_check.specs.Valid.{root, is_right, fact_says, listed}
use Rattle.tree_check.specs.Forms.{compared}
use Rattle.case_split.specs.declared.comparison.Comparison.{Comparison}
use Rattle.case_split.specs.Decided.{AreRight, IsOpen, IsPossible}
use Rattle.case_split.specs.Steps.{width, yes_assumption, no_assumption}
use Rattle.case_split.specs.Task.{IsFact}

-- zeros meet premises
zeros : ℕ → ℤ
zeros k = pos 0

zeros_meet : (premises : List Assume) → MeetsAll zeros (root premises)
unfolding zeros
zeros_meet [] = tt
zeros_meet (p ∷ premises) = (omega (arith, ints), zeros_meet premises)

pub root_is_possible : (premises : List Assume) → IsPossible (root premises)
root_is_possible premises none = none (zeros, zeros_meet premises)

pub one_more_is_possible : (path : Path) (premises : List Assume) (i j by : ℕ) (w : ℤ) → path ≡ root premises → w ≡ pos by → IsPossible (path ++ assumption i j w ∷ [])
unfolding zeros
one_more_is_possible path premises i j by w e d none = none (zeros, meets_more zeros path (assumption i j w) (subst (λ (p : Path). MeetsAll zeros p) (sym e) (zeros_meet premises)) (omega (arith, ints, d)))

-- a right fact is implied
pub fact_implies : (path : Path) (f : Fact) (i j : ℕ) (w : ℤ) → is_right path f ≡ true → fact_says f i j w ≡ true → Implies path i j w
fact_implies path f i j w right says x meets =
    let p = and_true (runs path f.from f.to f.chain) _ right in
    let sum : sum_of path f.chain ≤ℤ f.bound = grind (arith, ints, p.1) in
    let q = and_true (nat_eq f.from i && nat_eq f.to j) _ says in
    let r = and_true (nat_eq f.from i) _ q.0 in
    let bound : f.bound ≤ℤ w = grind (arith, ints, q.1) in
    let shown = chain_shows x path f.from f.to f.chain meets p.0 in
    let from = equal f.from i r.0 in
    let to = equal f.to j r.1 in
    subst (λ (i : ℕ). (x i -ℤ x j) ≤ℤ w) from (subst (λ (j : ℕ). (x f.from -ℤ x j) ≤ℤ w) to (omega (arith, ints, shown, sum, bound)))

-- one of two tests
one_of : (a b : Bool) → (a || b) ≡ true → (a ≡ true) ⊎ (b ≡ true)
one_of true b h = inl refl
one_of false b h = inr h

pub facts_imply : (path : Path) (facts : List Fact) (i j : ℕ) (w : ℤ) → AreRight path facts → listed facts i j w ≡ true → Implies path i j w
facts_imply path [] i j w right says = absurd (false≢true says)
facts_imply path (f ∷ facts) i j w right says = elim (one_of (fact_says f i j w) (listed facts i j w) says) [
  | inl h ↦ fact_implies path f i j w right.0 h
  | inr h ↦ facts_imply path facts i j w right.1 h
]

-- an order of integers, or the other
either : (a b : ℤ) → (a ≤ℤ b) ⊎ (b <ℤ a)
either a b = go (int_le a b) refl
  where
    go : (t : Bool) → int_le a b ≡ t → (a ≤ℤ b) ⊎ (b <ℤ a)
    go true h = inl (grind (arith, ints, h))
    go false h = inr (grind (arith, ints, h))

-- where neither answer is implied, both sides can be met, and no facts decide
module _ (path : Path) (c : Comparison) (none_yes : Implies path c.from c.to (width c) → ⊥) (none_no : Implies path c.to c.from (neg_ℤ (width c) -ℤ pos 1) → ⊥) where
  pub yes_is_possible : IsPossible (path ++ yes_assumption c ∷ [])
  yes_is_possible none = none_no (λ x meets. one_way (x c.from) (x c.to) (width c) (λ h. none (x, meets_more x path (yes_assumption c) meets h)))
    where
      one_way : (a b w : ℤ) → ((a -ℤ b) ≤ℤ w → ⊥) → (b -ℤ a) ≤ℤ (neg_ℤ w -ℤ pos 1)
      one_way a b w h = elim (either (a -ℤ b) w) [ inl le ↦ absurd (h le) | inr lt ↦ omega (arith, ints, lt) ]

  pub no_is_possible : IsPossible (path ++ no_assumption c ∷ [])
  no_is_possible none = none_yes (λ x meets. one_way (x c.from) (x c.to) (width c) (λ h. none (x, meets_more x path (no_assumption c) meets h)))
    where
      one_way : (a b w : ℤ) → ((b -ℤ a) ≤ℤ (neg_ℤ w -ℤ pos 1) → ⊥) → (a -ℤ b) ≤ℤ w
      one_way a b w h = elim (either (b -ℤ a) (neg_ℤ w -ℤ pos 1)) [ inl le ↦ absurd (h le) | inr lt ↦ omega (arith, ints, lt) ]

-- the numbers of a chain are those of assumptions
pub numbers_are_small : (path : Path) (i j : ℕ) (chain : List ℕ) → length path ≤ 65536 → runs path i j chain ≡ true → AllByRecursion (λ k. k < 65536) chain
numbers_are_small path i j [] few h = tt
numbers_are_small path i j (k ∷ chain) few h =
    let p = and_true (nat_lt k (length path) && nat_eq (at path k).from i) _ h in
    let q = and_true (nat_lt k (length path)) _ p.0 in
    let lt = lt_of k (length path) q.0 in
    (omega (arith, lt, few), numbers_are_small path (at path k).to j chain few p.1)

-- a fact by a least bound and its chain
module _ (n : ℕ) (path : Path) (ys : List ℕ) (i j : ℕ) (w least bound : ℤ) (chain : List ℕ)
    (solution : IsSolution n path ys) (is : IsLeast path i j (Some least)) (i_in : i < n) (j_in : j < n) where
  pub least_is_small : negsuc 63000062 ≤ℤ least
  least_is_small =
      let a = is.0 (integers ys) solution.meets in
      let b = solution.small i i_in in
      let c = solution.small j j_in in
      omega (arith, ints, a, b, c)

  module _ (sum : IsLeast path i j (option_map (sum_of path) (Some chain))) (runs_so : runs path i j chain ≡ true) (bound_is : bound ≡ least) where
    pub right_by_least : is_right path (record { from = i; to = j; bound = bound; chain = chain }) ≡ true
    right_by_least =
        let a = sum.1 least is.0 in
        and_is (runs path i j chain) _ runs_so (int_true (sum_of path chain) bound (omega (arith, ints, a, bound_is)))

    pub fact_by_least : n ≤ 64 → length path ≤ 65536 → length chain < n → least ≤ℤ w → w ≤ℤ pos 1000000 → IsFact n (record { from = i; to = j; bound = bound; chain = chain })
    fact_by_least few room short le high =
        let low = least_is_small in
        record {
          from = i_in;
          to = j_in;
          small = record {
            difference = record {
              from = omega (arith, i_in, few);
              to = omega (arith, j_in, few);
              bound = record { low = omega (arith, ints, low, bound_is); high = omega (arith, ints, le, high, bound_is) };
            };
            chain = record { few = omega (arith, short, few); small = numbers_are_small path i j chain room runs_so };
          };
        }

pub says_at_most : (i j : ℕ) (w bound : ℤ) (chain : List ℕ) → bound ≤ℤ w → fact_says (record { from = i; to = j; bound = bound; chain = chain }) i j w ≡ true
says_at_most i j w bound chain le = and_is (nat_eq i i && nat_eq j j) _ (and_is (nat_eq i i) _ (same i) (same j)) (int_true bound w le)
  where
    same : (k : ℕ) → nat_eq k k ≡ true
    same k = grind (arith, nat_tests)

-- what the kept numbers say
pub kept_says : (path : Path) (ys : List ℕ) (i j : ℕ) (w u v : ℤ) → MeetsAll (integers ys) path → u ≡ (pos (get_or ys i 0) -ℤ pos (get_or ys j 0)) → v ≡ w
    → MatchBool (int_le u v) ((x : ℕ → ℤ) × MeetsAll x path × ((x i -ℤ x j) ≤ℤ w)) ((x : ℕ → ℤ) × MeetsAll x path × (w <ℤ (x i -ℤ x j)))
kept_says path ys i j w u v meets eu ev = go (int_le u v) refl
  where
    go : (b : Bool) → int_le u v ≡ b → MatchBool b ((x : ℕ → ℤ) × MeetsAll x path × ((x i -ℤ x j) ≤ℤ w)) ((x : ℕ → ℤ) × MeetsAll x path × (w <ℤ (x i -ℤ x j)))
    go true h = (integers ys, meets, (let a : u ≤ℤ v = grind (arith, ints, h) in omega (arith, ints, a, eu, ev)))
    go false h = (integers ys, meets, (let a : v <ℤ u = grind (arith, ints, h) in omega (arith, ints, a, eu, ev)))

pub name_at : (n : ℕ) (premises : List Assume) (k : ℕ) (d : Assume) → NameInputs n premises → k < length premises → ((get_or premises k d).from < n) × ((get_or premises k d).to < n)
name_at n [] k d h lt = absurd (omega (arith, lt))
name_at n (p ∷ premises) zero d h lt = h.0
name_at n (p ∷ premises) (suc k) d h lt = name_at n premises k d h.1 (omega (arith, lt))

-- a fact, as the code makes it
module _ (old : System) (ys : List ℕ) (i j : ℕ) (w least bound : ℤ) (chain : List ℕ) (asked : System) (found : Option (List ℕ))
    (solution : IsSolution old.inputs old.assumptions ys) (is : IsLeast old.assumptions i j (Some least)) (i_in : i < old.inputs) (j_in : j < old.inputs)
    (asked_is : asked ≡ old) (found_is : found ≡ Some chain) (sum : IsLeast asked.assumptions i j (option_map (sum_of asked.assumptions) found))
    (runs_so : IfSome found (λ chain. runs asked.assumptions i j chain ≡ true)) (bound_is : bound ≡ least) where
  sum_here : IsLeast old.assumptions i j (option_map (sum_of old.assumptions) (Some chain))
  sum_here = subst (λ (s : System). IsLeast s.assumptions i j (option_map (sum_of s.assumptions) (Some chain))) asked_is
      (subst (λ (f : Option (List ℕ)). IsLeast asked.assumptions i j (option_map (sum_of asked.assumptions) f)) found_is sum)

  runs_here : runs old.assumptions i j chain ≡ true
  runs_here = subst (λ (s : System). runs s.assumptions i j chain ≡ true) asked_is
      (subst (λ (f : Option (List ℕ)). IfSome f (λ chain. runs asked.assumptions i j chain ≡ true)) found_is runs_so)

  pub right_fact : is_right old.assumptions (record { from = i; to = j; bound = bound; chain = chain }) ≡ true
  right_fact = right_by_least old.inputs old.assumptions ys i j w least bound chain solution is i_in j_in sum_here runs_here bound_is

  pub small_fact : IfSome found (λ chain. length chain < asked.inputs) → old.inputs ≤ 64 → length old.assumptions ≤ 65536 → least ≤ℤ w → w ≤ℤ pos 1000000
      → IsFact old.inputs (record { from = i; to = j; bound = bound; chain = chain })
  small_fact short few room le high =
      fact_by_least old.inputs old.assumptions ys i j w least bound chain solution is i_in j_in sum_here runs_here bound_is few room
      (subst (λ (s : System). length chain < s.inputs) asked_is (subst (λ (f : Option (List ℕ)). IfSome f (λ chain. length chain < asked.inputs)) found_is short)) le high

pub right_more : (path : Path) (facts more : List Fact) → AreRight path facts → AreRight path more → AreRight path (facts ++ more)
right_more path [] more h k = k
right_more path (f ∷ facts) more h k = (h.0, right_more path facts more h.1 k)

pub not_true : (b : Bool) → (b ≡ true → ⊥) → b ≡ false
not_true true h = absurd (h refl)
not_true false h = refl

-- numbers on one side refute the other
pub within_refutes : (path : Path) (x : ℕ → ℤ) (i j : ℕ) (w v : ℤ) → MeetsAll x path → (x i -ℤ x j) ≤ℤ w → v ≡ (neg_ℤ w -ℤ pos 1) → Implies path j i v → ⊥
within_refutes path x i j w v meets le e implied = let a = implied x meets in omega (arith, ints, a, le, e)

pub beyond_refutes : (path : Path) (x : ℕ → ℤ) (i j : ℕ) (w v : ℤ) → MeetsAll x path → w <ℤ (x i -ℤ x j) → v ≡ w → Implies path i j v → ⊥
beyond_refutes path x i j w v meets lt e implied = let a = implied x meets in omega (arith, ints, a, lt, e)

pub answered_no : (path : Path) (facts : List Fact) (i c j d : ℕ) (v : ℤ) → AreRight path facts → (i ≡ j → ⊥) → v ≡ ((pos c -ℤ pos d) -ℤ pos 1) → listed facts j i v ≡ true
    → (Implies path i j (pos d -ℤ pos c) → ⊥) → compared (listed facts) i c j d ≡ Some false
answered_no path facts i c j d v right ne e shown none =
    let p : listed facts i j (pos d -ℤ pos c) ≡ false = not_true _ (λ h. none (facts_imply path facts i j (pos d -ℤ pos c) right h)) in
    let q : listed facts j i ((pos c -ℤ pos d) -ℤ pos 1) ≡ true = subst (λ (u : ℤ). listed facts j i u ≡ true) e shown in
    rw (ne_eqb i j ne, p, q) refl

pub open_where : (path : Path) (c : Comparison) → (c.from ≡ c.to → ⊥) → (Implies path c.from c.to (width c) → ⊥) → (Implies path c.to c.from (neg_ℤ (width c) -ℤ pos 1) → ⊥)
    → IsOpen path c.from c.from_cycles c.to c.to_cycles
open_where path c ne none_yes none_no facts right =
    let p : listed facts c.from c.to (pos c.to_cycles -ℤ pos c.from_cycles) ≡ false = not_true _ (λ h. none_yes (facts_imply path facts c.from c.to (width c) right h)) in
    let e : ((pos c.from_cycles -ℤ pos c.to_cycles) -ℤ pos 1) ≡ (neg_ℤ (width c) -ℤ pos 1) = omega (arith, ints) in
    let q : listed facts c.to c.from ((pos c.from_cycles -ℤ pos c.to_cycles) -ℤ pos 1) ≡ false =
    not_true _ (λ h. none_no (subst (λ (u : ℤ). Implies path c.to c.from u) e (facts_imply path facts c.to c.from _ right h))) in
    rw (ne_eqb c.from c.to ne, p, q) refl

pub implies_same : (path : Path) (i j : ℕ) (v w : ℤ) → v ≡ w → (Implies path i j v → ⊥) → Implies path i j w → ⊥
implies_same path i j v w e none implied = none (subst (λ (u : ℤ). Implies path i j u) (sym e) implied)

-- one premise more
one_more_root : (premises : List Assume) (k : ℕ) (d : Assume) → k < length premises
    → root (take k premises) ++ assumption (get_or premises k d).from (get_or premises k d).to (pos (get_or premises k d).by) ∷ [] ≡ root (take (suc k) premises)
one_more_root [] k d lt = absurd (omega (arith, lt))
one_more_root (q ∷ premises) zero d lt = refl
one_more_root (q ∷ premises) (suc k) d lt = ap (λ (path : Path). assumption q.from q.to (pos q.by) ∷ path) (one_more_root premises k d (omega (arith, lt)))

pub root_more : (premises : List Assume) (k : ℕ) (d : Assume) (path path' : Path) (w : ℤ) → path' ≡ path ++ assumption (get_or premises k d).from (get_or premises k d).to w ∷ [] → path ≡ root (take k premises)
    → w ≡ pos (get_or premises k d).by → k < length premises → path' ≡ root (take (k + 1) premises)
root_more premises k d path path' w more so_far is lt =
    rw add-one (more ∙ (rw (so_far, is) (one_more_root premises k d lt)))
