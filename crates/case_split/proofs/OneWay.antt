-- A single way through the cases.
use Rattle.std.proofs.Common.{◌≡◌, sym, subst, Bool, true, false}
use Rattle.std.specs.Bool.{MatchBool}
use Rattle.case_split.specs.declared.comparison.Choice.{Choice}
use Rattle.case_split.specs.Stages.{Stage, assumed}
use Rattle.case_split.specs.Steps.{yes_assumption, no_assumption}
use Rattle.case_split.specs.Task.{Task, IsTask}
use Rattle.case_split.specs.Walk.{IsAt, IsWaiting}
use Rattle.case_split.proofs.Splitting.{yes_at, no_at}

-- of the two sides of a comparison this one is taken
abbrev pub IsSide : Stage → Choice → Bool → Stage → Type 0
IsSide s c b t = MatchBool b (t ≡ assumed s (yes_assumption c.comparison) c.yes) (t ≡ assumed s (no_assumption c.comparison) c.no)

module _ (task : Task) (s t : Stage) (c : Choice) (rules : IsTask task) (at : IsAt task s) (waits : IsWaiting task s c) where
  pub side_at : (b : Bool) → IsSide s c b t → IsAt task t
  side_at true is = subst (λ (t : Stage). IsAt task t) (sym is) (yes_at task s c rules at waits)
  side_at false is = subst (λ (t : Stage). IsAt task t) (sym is) (no_at task s c rules at waits)
