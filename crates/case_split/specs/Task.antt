-- What is decided: the terms of two places of a store, under premises.
use Rattle.std.specs.Prelude.{◌≡◌, ℕ, ◌+◌, ◌<◌, ◌≤◌, ◌++◌, true, List, [], ◌∷◌, length}
use Rattle.std.specs.List.{All}
use Rattle.net_model.specs.declared.assume.Assume.{Assume}
use Rattle.spike_eval.specs.Premises.{NameInputs}
use Rattle.refutation.specs.declared.item.Fact.{Fact}
use Rattle.refutation.specs.Cases.{Path}
use Rattle.refutation.specs.Limits.{IsSmallFact}
use Rattle.term_store.specs.declared.node.Node.{Node}
use Rattle.term_store.specs.declared.node.Node.TheVariants as node
use Rattle.term_store.specs.declared.node.Term.{Term}
use Rattle.term_store.specs.Tree.{span}
use Rattle.term_store.specs.Nodes.{node_at, IsNodes}
use Rattle.term_store.specs.Reach.{IsReached}
use Rattle.term_store.specs.Places.{is_join_node}
use Rattle.term_store.specs.Trees.{tree}
use Rattle.tree_check.specs.Forms.{form_at, is_decided}
use Rattle.tree_check.specs.Valid.{root, listed}
use Rattle.case_split.specs.TermForms.{term_form}
use Rattle.case_split.specs.Decided.{AreRight, IsPossible}
use Rattle.case_split.specs.Stages.{Stage}
use Rattle.std.specs.Prelude.{if◌then◌else◌}

-- the inputs, the premises, the nodes, and the places of the two outputs
pub record Task : Type 0 where
  pub inputs : ℕ
  pub premises : List Assume
  pub nodes : List Node
  pub roots : List Term

-- how many of the nodes are min, max or lt
abbrev pub joins : List Node → ℕ
joins [] = 0
joins (n ∷ nodes) = (if is_join_node n then 1 else 0) + joins nodes

-- the nodes are those that the two places reach, and keep the rules of networks
pub record IsTask (task : Task) : Type 0 where
  pub some_inputs : 1 ≤ task.inputs
  pub few_inputs : task.inputs ≤ 64
  pub few_premises : length task.premises ≤ 128
  pub named : NameInputs task.inputs task.premises
  pub small_premises : All (λ p. p.by ≤ 1000000) task.premises
  pub is_nodes : IsNodes task.nodes
  pub two : length task.roots ≡ 2
  pub within : All (λ r. r.0 < length task.nodes) task.roots
  pub reached : (place : ℕ) → place < length task.nodes → IsReached task.nodes task.roots place
  pub short : (place : ℕ) → place < length task.nodes → span (tree task.nodes place) ≤ 1000000
  pub inputs_are : (place i : ℕ) → place < length task.nodes → node_at task.nodes place ≡ node.Input i → i < task.inputs
  pub few_joins : joins task.nodes ≤ 32768

-- the fact is one of a file of trees, and names inputs
pub record IsFact (n : ℕ) (f : Fact) : Type 0 where
  pub from : f.from < n
  pub to : f.to < n
  pub small : IsSmallFact f

-- the path begins with the premises, and can be met; its chains show the facts; and under these the first places of the nodes
-- have their forms, which are all decided
pub record IsStage (task : Task) (s : Stage) : Type 0 where
  pub premises : (rest : Path) × (s.path ≡ root task.premises ++ rest)
  pub possible : IsPossible s.path
  pub right : AreRight s.path s.facts
  pub facts : All (IsFact task.inputs) s.facts
  pub few : length s.forms ≤ length task.nodes
  pub forms : (place : ℕ) → place < length s.forms → form_at s.forms place ≡ term_form (listed s.facts) (tree task.nodes place)
  pub decided : All (λ f. is_decided f ≡ true) s.forms
