use Rattle.std.proofs.Common.{◌≡◌, ◌++◌, take}
use Rattle.std.specs.Prelude.{flat_map}
use Rattle.verilog_text.specs.Text.{always_line}
use Rattle.verilog_text.proofs.print.put_always_lines.Given as goal

abbrev pub invariant-loop-reg : goal.invariant-loop-reg
invariant-loop-reg l = l.text.items ≡ l.fn.text.items ++ flat_map (always_line l.m) (take l.reg-index l.m.regs)
