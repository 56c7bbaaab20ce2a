use Rattle.std.proofs.Common.{◌≡◌, ◌+◌, ◌-◌, length, take, Ok}
use Rattle.causality.specs.Reached.{time_of}
use Rattle.causality.specs.Walk.{walked}
use Rattle.causality.proofs.Walking.{begun}
use Rattle.causality.proofs.tabulation.+walk.Given as goal

abbrev pub decreases-walk : goal.decreases-walk
decreases-walk l = length l.list.now - l.place

abbrev pub invariant-loop-step : goal.invariant-loop-step
invariant-loop-step l = record {
  front : take l.place l.list ≡ take l.place l.fn.list;
  many : length l.list ≡ length l.fn.list;
  output : l.output ≡ l.fn.output;
  rows : walked (time_of l.fn.output) l.last l.fn.rows.items (begun l.last (length l.fn.list - (l.place + 1)) (take l.place l.fn.list) l.step) ≡ Ok l.rows.items;
}
