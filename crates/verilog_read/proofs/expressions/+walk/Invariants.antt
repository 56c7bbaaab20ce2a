use Rattle.std.proofs.Common.{◌+◌, ◌*◌, length}
use Rattle.verilog_text.specs.Grammar.{Expression}
use Rattle.verilog_syntax.specs.View.{expression}
use Rattle.verilog_read.specs.Draft.{IsJudgedBy}
use Rattle.verilog_read.specs.Joined.{size, IsSpine}
use Rattle.verilog_read.proofs.expressions.+walk.Given as goal

abbrev pub decreases-judge_single : goal.decreases-judge_single
decreases-judge_single l = 2 * size (expression l.written)

abbrev pub decreases-judge_written : goal.decreases-judge_written
decreases-judge_written l = 2 * size (expression l.written) + 1

-- what is judged is an expression, to which the other parts are still to be joined
abbrev pub invariant-judge_written-loop-joint : goal.invariant-judge_written-loop-joint
invariant-judge_written-loop-joint l = (e : Expression) × IsJudgedBy l.draft e l.all × IsSpine (expression l.fn.written) e l.joints.items

abbrev pub decreases-judge_written-loop-joint : goal.decreases-judge_written-loop-joint
decreases-judge_written-loop-joint l = length l.joints.items
