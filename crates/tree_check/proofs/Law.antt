-- A valid tree shows two outputs to be equal, at all numbers that meet one of its paths.
use Rattle.std.proofs.Common.{◌≡◌, ℕ, ◌<◌, List, [], ◌∷◌, ◌++◌, length, subst, sym, arith, true, ◌⊎◌, inl, inr}
use Rattle.std.specs.Prelude.{ℤ, ◌-ℤ◌, ◌≤ℤ◌, nat_eq, nat_lt, ◌&&◌}
use Rattle.std.specs.List.{list_all, AllByRecursion}
use Rattle.std.proofs.lemmas.Bool.{false≢true, or_cases}
use Rattle.std.proofs.lemmas.Int.{ints}
use Rattle.std.proofs.lemmas.Bool.Decides.{nat_tests}
use Rattle.net_model.specs.declared.assume.Assume.{Assume}
use Rattle.spike_eval.specs.Causal.{numbers}
use Rattle.spike_eval.specs.Premises.{MeetsPremises, NameInputs, AreEqualOnNumbersUnder}
use Rattle.spike_eval.specs.Outputs.{output_function}
use Rattle.refutation.specs.declared.item.Item.{Item}
use Rattle.refutation.specs.declared.item.Item.TheVariants as item
use Rattle.refutation.specs.declared.item.Fact.{Fact}
use Rattle.refutation.specs.Path.{MeetsAll}
use Rattle.refutation.specs.Cases.{Path, EachOnPath, below, yes_side, no_side}
use Rattle.tree_check.specs.Valid.{Pair, is_right, fact_says, listed, names_inputs, Shows, IsValidItem, root, IsValid}
use Rattle.tree_check.proofs.Chains.{and_true, at_most, equal, shown, none_meets, one_side}
use Rattle.tree_check.proofs.Forms.{number_at, whole, IsSound, output_holds, equal_times}

abbrev pub AreEqual : Pair → List ℕ → Type 0
AreEqual pair ns = output_function pair.first pair.place (numbers ns) ≡ output_function pair.second pair.place (numbers ns)

less : (a b : ℕ) → nat_lt a b ≡ true → a < b
less a b h = grind (arith, nat_tests)

module _ (ns : List ℕ) (path : Path) (met : MeetsAll (whole ns) path) where
  abbrev IsSo : ℕ → ℕ → ℤ → Type 0
  IsSo i j w = (i < length ns) × (j < length ns) × ((whole ns i -ℤ whole ns j) ≤ℤ w)

  -- a right fact that names inputs is so
  fact_sound : (f : Fact) → is_right path f ≡ true → (nat_lt f.from (length ns) && nat_lt f.to (length ns)) ≡ true → (i j : ℕ) (w : ℤ) → fact_says f i j w ≡ true → IsSo i j w
  fact_sound f right names i j w h =
      let p = and_true (nat_eq f.from i && nat_eq f.to j) _ h in
      let q = and_true (nat_eq f.from i) _ p.0 in
      let from = equal f.from i q.0 in
      let to = equal f.to j q.1 in
      let le = at_most f.bound w p.1 in
      let m = and_true (nat_lt f.from (length ns)) _ names in
      let s = shown (whole ns) path f.chain f.from f.to f.bound met right in
      subst (λ (i : ℕ). IsSo i j w) from
      (subst (λ (j : ℕ). IsSo f.from j w) to
      (less f.from (length ns) m.0, less f.to (length ns) m.1, omega (arith, ints, le, s)))

  listed_sound : (facts : List Fact) → AllByRecursion (λ f. is_right path f ≡ true) facts → list_all (λ f. nat_lt f.from (length ns) && nat_lt f.to (length ns)) facts ≡ true → IsSound ns (listed facts)
  listed_sound [] right names i j w h = absurd (false≢true h)
  listed_sound (f ∷ facts) right names i j w h =
      let named = and_true (nat_lt f.from (length ns) && nat_lt f.to (length ns)) _ names in
      elim (or_cases (fact_says f i j w) (listed facts i j w) h) [
        | inl here ↦ fact_sound f right.0 named.0 i j w here
        | inr there ↦ listed_sound facts right.1 named.1 i j w there
      ]

  leaf_equal : (pair : Pair) (facts : List Fact) → names_inputs (length ns) (item.Leaf facts) ≡ true → Shows pair path (item.Leaf facts) → AreEqual pair ns
  leaf_equal pair facts names shows =
      let sound = listed_sound facts shows.0 names in
      equal_times ns (listed facts) sound _ _ _ _ (output_holds ns (listed facts) sound pair.first pair.place) (output_holds ns (listed facts) sound pair.second pair.place) shows.1

-- the numbers meet one of the paths
abbrev pub MeetOne : List ℕ → List Path → Type 0
MeetOne ns [] = ⊥
MeetOne ns (path ∷ paths) = MeetsAll (whole ns) path ⊎ MeetOne ns paths

later : (ns : List ℕ) (new paths : List Path) → MeetOne ns paths → MeetOne ns (new ++ paths)
later ns [] paths h = h
later ns (path ∷ new) paths h = inr (later ns new paths h)

pub trees_decide : (ns : List ℕ) (pair : Pair) → length ns ≡ length pair.first.inputs → (paths : List Path) (items : List Item) → EachOnPath (IsValidItem pair) paths items → MeetOne ns paths → AreEqual pair ns
trees_decide ns pair long [] items valid met = absurd met
trees_decide ns pair long (path ∷ paths) [] valid met = absurd valid
trees_decide ns pair long (path ∷ paths) (item.Split i j w ∷ items) valid (inl met) =
    trees_decide ns pair long (yes_side path i j w ∷ no_side path i j w ∷ paths) items valid.1
    (elim (one_side (whole ns) path i j w met) as (λ _. MeetOne ns (yes_side path i j w ∷ no_side path i j w ∷ paths)) [ inl y ↦ inl y | inr n ↦ inr (inl n) ])
trees_decide ns pair long (path ∷ paths) (item.Leaf facts ∷ items) valid (inl met) =
    leaf_equal ns path met pair facts (subst (λ (n : ℕ). names_inputs n (item.Leaf facts) ≡ true) (sym long) valid.0.0) valid.0.1
trees_decide ns pair long (path ∷ paths) (item.Closed chain ∷ items) valid (inl met) = absurd (none_meets (whole ns) path chain met valid.0.1)
trees_decide ns pair long (path ∷ paths) (item.Unsettled ∷ items) valid (inl met) = absurd valid.0.1
trees_decide ns pair long (path ∷ paths) (i ∷ items) valid (inr met) = trees_decide ns pair long (below path i ++ paths) items valid.1 (later ns (below path i) paths met)

root-met : (ns : List ℕ) (premises : List Assume) → NameInputs (length ns) premises → MeetsPremises (numbers ns) premises → MeetsAll (whole ns) (root premises)
root-met ns [] names h = tt
root-met ns (p ∷ premises) names h =
    let here = rw (number_at ns p.from names.0.0, number_at ns p.to names.0.1) at h.0 in
    (omega (arith, ints, here), root-met ns premises names.1 h.1)

pub numbers_are_equal : (premises : List Assume) (pair : Pair) (items : List Item) → NameInputs (length pair.first.inputs) premises → IsValid premises pair items →
    AreEqualOnNumbersUnder premises (length pair.first.inputs) (output_function pair.first pair.place) (output_function pair.second pair.place)
numbers_are_equal premises pair items names valid ns long met =
    trees_decide ns pair long (root premises ∷ []) items valid
    (inl (root-met ns premises (subst (λ (n : ℕ). NameInputs n premises) (sym long) names) met))
