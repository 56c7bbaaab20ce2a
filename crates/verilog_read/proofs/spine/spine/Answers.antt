use Rattle.std.proofs.Common.{◌<◌, sym, subst, arith}
use Rattle.verilog_syntax.specs.View.{expression}
use Rattle.verilog_read.specs.Joined.{IsTakenApart, IsSpine}
use Rattle.verilog_read.proofs.Spines.{left, left_of, spine_whole, spine_longer, single_spine}
use Rattle.verilog_read.proofs.spine.spine.Goals as goal

pub loop-rest-init : goal.loop-rest-init
loop-rest-init c =
    let w = expression c.args.written in
    (w, c.halves-rest.ensures, subst (IsSpine w w) (sym c.new-joints.ensures.items) (spine_whole w))

pub returns-in-Single-clause-spine : goal.returns-in-Single-clause-spine
returns-in-Single-clause-spine c =
    let i = c.loop-rest.invariant in
    (single_spine (expression c.args.written) i.0 c.loop-rest.joints.items c.loop-rest.rest c.in-Single.first i.1 i.2 c.in-Single.is).0

pub returns-in-Single-clause-single : goal.returns-in-Single-clause-single
returns-in-Single-clause-single c =
    let i = c.loop-rest.invariant in
    (single_spine (expression c.args.written) i.0 c.loop-rest.joints.items c.loop-rest.rest c.in-Single.first i.1 i.2 c.in-Single.is).1

pub loop-rest-smaller : goal.loop-rest-smaller
loop-rest-smaller c =
    subst (λ h. left c.halves-rest-in-Joined.result < left h) (sym c.in-Joined.is)
    (omega (arith, left_of (expression c.in-Joined.before) c.halves-rest-in-Joined.result c.halves-rest-in-Joined.ensures))

pub loop-rest-preserved : goal.loop-rest-preserved
loop-rest-preserved c =
    let i = c.loop-rest.invariant in
    let w = expression c.args.written in
    let f = expression c.in-Joined.before in (
      f,
      c.halves-rest-in-Joined.ensures,
      subst (IsSpine w f) (sym c.in_ok-push-in-Joined.ensures.items)
          (spine_longer w i.0 f c.loop-rest.joints.items c.in-Joined.joint i.2 (subst (IsTakenApart i.0) c.in-Joined.is i.1)),
    )
