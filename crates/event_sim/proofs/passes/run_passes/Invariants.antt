use Rattle.std.proofs.Common.{◌≡◌, length}
use Rattle.event_sim.specs.Orders.{numbered_order}
use Rattle.marked_steps.specs.UpToDate.{IsUpToDate}
use Rattle.event_sim.proofs.Rounds.{Running}
use Rattle.event_sim.proofs.passes.run_passes.Given as goal

abbrev pub invariant-loop : goal.invariant-loop
invariant-loop l = record {
  running : Running l.m (numbered_order (length l.m.assigns) l.order) l.fn.levels l.levels l.counter l.activations;
  up_to_date : IsUpToDate l.m l.levels l.marks;
  room : length l.marks ≡ length l.fn.marks;
}
