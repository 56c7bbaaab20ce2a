-- What planting terms in a store takes and leaves.
use Rattle.std.specs.Prelude.{◌≡◌, ℕ, suc, ◌<◌, ◌≤◌, ◌+◌, true, if◌then◌else◌, List, [], ◌∷◌, length}
use Rattle.std.specs.List.{All, AllByRecursion, sum_by}
use Rattle.net_model.specs.Formula.{Formula, Equation}
use Rattle.net_model.specs.Formula as formula
use Rattle.net_model.specs.Rules.{joins, delays}
use Rattle.term_store.specs.declared.node.Term.{Term}
use Rattle.term_store.specs.declared.node.Node.{Node}
use Rattle.term_store.specs.declared.node.Node.TheVariants as node
use Rattle.term_store.specs.Tree.{Tree}
use Rattle.term_store.specs.Nodes.{Contents, holds, IsNodes}
use Rattle.term_store.specs.Trees.{tree, trees_at, plant_one, plant, IsPrefix}

-- how many nodes more there are once the node came: 0 where it is held
abbrev pub cost : List Node → Node → ℕ
cost nodes n = if holds nodes n then 0 else 1

-- the inputs of a formula are held, its delays are within bounds, and it names only the first k lets
abbrev pub IsReady : List Node → ℕ → Formula → Type 0
IsReady nodes k formula.Never = Unit {0}
IsReady nodes k (formula.Input i) = (i < 64) × (holds nodes (node.Input i) ≡ true)
IsReady nodes k (formula.Named j) = j < k
IsReady nodes k (formula.Min a b) = IsReady nodes k a × IsReady nodes k b
IsReady nodes k (formula.Max a b) = IsReady nodes k a × IsReady nodes k b
IsReady nodes k (formula.Lt a b) = IsReady nodes k a × IsReady nodes k b
IsReady nodes k (formula.Inc a c) = IsReady nodes k a × (c ≤ 1000000)

-- the first of these lets has the place k, and each is ready
abbrev pub AreReadyLets : List Node → ℕ → List Equation → Type 0
AreReadyLets nodes k [] = Unit {0}
AreReadyLets nodes k (e ∷ lets) = IsReady nodes k e.body × AreReadyLets nodes (suc k) lets

-- each output is ready, over k lets
abbrev pub AreReadyOutputs : List Node → ℕ → List Equation → Type 0
AreReadyOutputs nodes k outputs = AllByRecursion (λ e. IsReady nodes k e.body) outputs

-- the operators that are written in a formula
abbrev pub operators : Formula → ℕ
operators f = joins f + delays f

-- the operators that are written in these equations
abbrev pub all_operators : List Equation → ℕ
all_operators equations = sum_by (λ e. operators e.body) equations

-- the store has room for k nodes more, and for never beside them
pub record HasRoomBesideNever (store : Contents) (k : ℕ) : Type 0 where
  pub places : length store.nodes + cost store.nodes node.Never + k ≤ 262144
  pub memory : cost store.nodes node.Never + k ≤ store.spare

-- at most k nodes were added, beside never
pub record TakesRoomBesideNever (old new : Contents) (k : ℕ) : Type 0 where
  pub places : length new.nodes + cost new.nodes node.Never ≤ length old.nodes + cost old.nodes node.Never + k
  pub memory : old.spare + cost new.nodes node.Never ≤ new.spare + cost old.nodes node.Never + k

-- a tree was planted, and is at this place
pub record IsPlanted (old nodes : List Node) (t : Tree) (at : Term) : Type 0 where
  pub is_nodes : IsNodes nodes
  pub grown : IsPrefix old nodes
  pub nodes_are : nodes ≡ plant_one old t
  pub within : at.0 < length nodes
  pub tree_is : tree nodes at.0 ≡ t

-- two trees were planted, from left to right, and are at these places
pub record IsPairPlanted (old nodes : List Node) (a b : Tree) (first second : Term) : Type 0 where
  pub is_nodes : IsNodes nodes
  pub grown : IsPrefix old nodes
  pub nodes_are : nodes ≡ plant_one (plant_one old a) b
  pub first_within : first.0 < length nodes
  pub second_within : second.0 < length nodes
  pub first_is : tree nodes first.0 ≡ a
  pub second_is : tree nodes second.0 ≡ b

-- trees were planted in order, and are at these places
pub record ArePlanted (old nodes : List Node) (trees : List Tree) (at : List Term) : Type 0 where
  pub is_nodes : IsNodes nodes
  pub grown : IsPrefix old nodes
  pub nodes_are : nodes ≡ plant old trees
  pub within : All (λ t. t.0 < length nodes) at
  pub trees_are : trees_at nodes at ≡ trees
