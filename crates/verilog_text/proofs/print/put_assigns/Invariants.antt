use Rattle.std.proofs.Common.{◌≡◌, ◌++◌, take}
use Rattle.std.specs.Prelude.{flat_map}
use Rattle.verilog_text.specs.Text.{assign_line}
use Rattle.verilog_text.proofs.print.put_assigns.Given as goal

abbrev pub invariant-loop-assign : goal.invariant-loop-assign
invariant-loop-assign l = l.text.items ≡ l.fn.text.items ++ flat_map (assign_line l.m) (take l.assign-index l.m.assigns)
