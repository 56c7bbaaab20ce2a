-- What the decider answers.
use Rattle.std.specs.Prelude.{◌≡◌, ℕ, ◌+◌, ◌<◌, ◌≤◌, ◌^◌, List, [], ◌∷◌, length}
use Rattle.std.specs.List.{All}
use Rattle.rl_time.specs.declared.time.Time.{Time}
use Rattle.rl_time.specs.declared.time.Time.TheVariants.{At, Never}
use Rattle.net_model.specs.declared.assume.Assume.{Assume}
use Rattle.spike_eval.specs.Premises.{MeetsPremises}
use Rattle.spike_eval.specs.Outputs.{output_function}
use Rattle.refutation.specs.declared.item.Item.{Item}
use Rattle.refutation.specs.Limits.{KeepsLimits}
use Rattle.refutation.specs.Cases.{EachOnPath, OneOnPath}
use Rattle.term_store.specs.Tree.{Tree, value}
use Rattle.term_store.specs.Subterms.{join_count}
use Rattle.tree_check.specs.Valid.{Pair, IsValid, root}
use Rattle.case_split.specs.Live.{IsLive, IsDueItem, IsUnsettledItem, opened, pair_terms}
use Rattle.case_split.specs.Leaves.{AreApart, IsValidItem}
use Rattle.case_split.specs.declared.ending.Decision.{Decision}
use Rattle.case_split.specs.declared.ending.Decision.TheVariants as decision
use Rattle.case_split.specs.declared.verdict.Verdict.{Verdict}
use Rattle.case_split.specs.declared.verdict.Verdict.TheVariants as verdict

-- a number of at most 63,000,063
abbrev pub IsSmallNumber : Time → Type 0
IsSmallNumber (At y) = y ≤ 63000063
IsSmallNumber Never = ⊥

-- a number for each input: they meet the premises, and the two outputs differ at them
pub record IsDifference (premises : List Assume) (pair : Pair) (times : List Time) : Type 0 where
  pub long : length times ≡ length pair.first.inputs
  pub small : All IsSmallNumber times
  pub meet : MeetsPremises times premises
  pub differ : output_function pair.first pair.place times ≡ output_function pair.second pair.place times → ⊥

-- the same of two terms over n inputs
pub record IsTermDifference (n : ℕ) (premises : List Assume) (a b : Tree) (times : List Time) : Type 0 where
  pub long : length times ≡ n
  pub small : All IsSmallNumber times
  pub meet : MeetsPremises times premises
  pub differ : value times a ≡ value times b → ⊥

-- a tree that shows the two outputs to be equal, with at most so many items; no valid tree has fewer
pub record IsEqualTree (premises : List Assume) (pair : Pair) (budget : ℕ) (items : List Item) : Type 0 where
  pub valid : IsValid premises pair items
  pub least : (others : List Item) → IsValid premises pair others → length items ≤ length others
  pub limits : KeepsLimits items
  pub few : length items ≤ budget

-- a live tree that spends the budget: no valid tree has as few items; a budget of `2^(p+1) - 1` for p operators min, max and lt is
-- never spent
pub record IsUndecidedTree (premises : List Assume) (pair : Pair) (budget : ℕ) (items : List Item) : Type 0 where
  pub live : IsLive premises pair items
  pub within : opened items ≤ budget
  pub spent : budget < opened items + 2
  pub too_little : (others : List Item) → IsValid premises pair others → budget < length others
  pub short : budget + 1 < 2 ^ (join_count (pair_terms pair) + 1)

abbrev pub IsRight : List Assume → Pair → ℕ → Verdict → Type 0
IsRight premises pair budget (verdict.Equal tree) = IsEqualTree premises pair budget tree
IsRight premises pair budget (verdict.Different times) = IsDifference premises pair times.items
IsRight premises pair budget (verdict.Undecided tree) = IsUndecidedTree premises pair budget tree

abbrev pub IsEqual : Verdict → Type 0
IsEqual (verdict.Equal tree) = Unit {0}
IsEqual (verdict.Different times) = ⊥
IsEqual (verdict.Undecided tree) = ⊥

-- the same of two terms over n inputs, of which p subterms are min, max or lt
abbrev pub IsDecision : ℕ → List Assume → Tree → Tree → ℕ → ℕ → Decision → Type 0
IsDecision n premises a b p budget (decision.Equal items) =
    EachOnPath (IsValidItem n a b) (root premises ∷ []) items × EachOnPath (IsDueItem (a ∷ b ∷ [])) (root premises ∷ []) items
    × KeepsLimits items × (length items ≤ budget)
IsDecision n premises a b p budget (decision.Different ns) = AreApart n (root premises) a b ns.items
IsDecision n premises a b p budget (decision.Undecided items) =
    EachOnPath (IsDueItem (a ∷ b ∷ [])) (root premises ∷ []) items × OneOnPath (IsUnsettledItem (a ∷ b ∷ [])) (root premises ∷ []) items
    × (opened items ≤ budget) × (budget < opened items + 2) × (budget + 1 < 2 ^ (p + 1))
