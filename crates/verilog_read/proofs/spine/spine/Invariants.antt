use Rattle.verilog_text.specs.Grammar.{Expression}
use Rattle.verilog_syntax.specs.View.{expression}
use Rattle.verilog_read.specs.Joined.{IsTakenApart, IsSpine}
use Rattle.verilog_read.proofs.Spines.{left}
use Rattle.verilog_read.proofs.spine.spine.Given as goal

abbrev pub invariant-loop-rest : goal.invariant-loop-rest
invariant-loop-rest l = (e : Expression) × IsTakenApart e l.rest × IsSpine (expression l.fn.written) e l.joints.items

abbrev pub decreases-loop-rest : goal.decreases-loop-rest
decreases-loop-rest l = left l.rest
