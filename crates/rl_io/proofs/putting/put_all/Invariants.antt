use Rattle.std.proofs.Common.{◌≡◌, length, ◌-◌, ◌≤◌, take}
use Rattle.rl_io.specs.Files.{Adds}
use Rattle.rl_io.proofs.putting.put_all.Given as goal

abbrev pub invariant-loop-done : goal.invariant-loop-done
invariant-loop-done g l = record {
  planned : g.K.Sink.plan l.sink ≡ g.K.Sink.plan l.initial.sink;
  within : l.done ≤ length l.text;
  added : Adds (g.K.Sink.written l.initial.sink) (g.K.Sink.written l.sink) (take l.done l.text);
  later : g.K.Sink.faults l.initial.sink ≤ g.K.Sink.faults l.sink;
}

abbrev pub decreases-loop-done : goal.decreases-loop-done
decreases-loop-done g l = length l.text - l.done
