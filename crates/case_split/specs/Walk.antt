-- The walk through the cases: where a stage is, and what a place waits for.
use Rattle.std.specs.Prelude.{◌≡◌, ℕ, ◌+◌, ◌<◌, ◌≤◌, ◌++◌, [], ◌∷◌, length, drop}
use Rattle.term_store.specs.Nodes.{node_at}
use Rattle.case_split.specs.declared.comparison.Choice.{Choice}
use Rattle.case_split.specs.declared.comparison.Step.TheVariants.{Chosen}
use Rattle.case_split.specs.Decided.{IsOpen, IsPossible}
use Rattle.case_split.specs.Stages.{Stage}
use Rattle.case_split.specs.Steps.{step, yes_assumption, no_assumption}
use Rattle.case_split.specs.Task.{Task, IsStage, joins}

-- how many min, max and lt have no form yet
abbrev pub joins_left : Task → Stage → ℕ
joins_left task s = joins (drop (length s.forms) task.nodes)

-- a stage of the walk: its path has at most one assumption for each premise, and for each operator that has a form
pub record IsAt (task : Task) (s : Stage) : Type 0 where
  pub stage : IsStage task s
  pub depth : length s.path + joins_left task s ≤ 128 + joins task.nodes

-- the next place waits for a comparison that the path doesn't decide
pub record IsWaiting (task : Task) (s : Stage) (c : Choice) : Type 0 where
  pub place : length s.forms < length task.nodes
  pub step : step s.forms (node_at task.nodes (length s.forms)) ≡ Chosen c
  pub undecided : IsOpen s.path c.comparison.from c.comparison.from_cycles c.comparison.to c.comparison.to_cycles
  pub yes_possible : IsPossible (s.path ++ yes_assumption c.comparison ∷ [])
  pub no_possible : IsPossible (s.path ++ no_assumption c.comparison ∷ [])
