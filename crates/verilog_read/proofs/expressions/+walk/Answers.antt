use Rattle.std.proofs.Common.{◌∷◌, [], length, ap, subst, arith, length-append}
use Rattle.verilog_syntax.specs.View.{expression}
use Rattle.verilog_read.specs.Draft.{IsJudgedBy}
use Rattle.verilog_read.specs.Joined.{join, IsSpine}
use Rattle.verilog_read.proofs.Spines.{spine_first, spine_shorter, spine_none}
use Rattle.verilog_read.proofs.expressions.+walk.Goals as goal

pub judge_written-judge_single-requires : goal.judge_written-judge_single-requires
judge_written-judge_single-requires t c =
    (omega (arith, spine_first (expression c.args.written) (expression c.in_ok-first.first) c.in_ok-first.joints.items c.in_ok-first.ensures.spine), c.in_ok-first.ensures.single)

pub judge_written-loop-joint-init : goal.judge_written-loop-joint-init
judge_written-loop-joint-init t c = (expression c.in_ok-first.first, c.in_ok-all.ensures, c.in_ok-first.ensures.spine)

pub judge_written-judge_written-requires : goal.judge_written-judge_written-requires
judge_written-judge_written-requires t c =
    let i = c.loop-joint.invariant in
    let w = expression c.args.written in
    (omega (arith, (spine_shorter w i.0 c.pop.new.self.items c.in-Some.joint (subst (IsSpine w i.0) c.in-Some.ensures.items i.2)).1), tt)

pub judge_written-loop-joint-smaller : goal.judge_written-loop-joint-smaller
judge_written-loop-joint-smaller t c =
    omega (arith, ap length c.in-Some.ensures.items, length-append c.pop.new.self.items (c.in-Some.joint ∷ []))

pub judge_written-loop-joint-preserved : goal.judge_written-loop-joint-preserved
judge_written-loop-joint-preserved t c =
    let i = c.loop-joint.invariant in
    let w = expression c.args.written in
    let j = c.in-Some.joint in (
      join j.is_and i.0 (expression j.part),
      c.in_ok-all-2.ensures c.args.draft.now i.0 (expression j.part) i.1 c.in_ok-part.ensures,
      (spine_shorter w i.0 c.pop.new.self.items j (subst (IsSpine w i.0) c.in-Some.ensures.items i.2)).0,
    )

pub judge_written-returns : goal.judge_written-returns
judge_written-returns t c =
    let i = c.loop-joint.invariant in
    let w = expression c.args.written in
    subst (λ e. IsJudgedBy c.args.draft.now e c.loop-joint.all) (spine_none w i.0 c.loop-joint.joints.items (λ l. c.in_default.ensures.variant.1 (omega (arith, l, c.loop-joint.joints.ok))) i.2) i.1
