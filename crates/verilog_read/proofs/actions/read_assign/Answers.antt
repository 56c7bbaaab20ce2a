use Rattle.verilog_syntax.specs.View.{expression}
use Rattle.verilog_read.proofs.Assigned.{assign_misnamed, assign_misordered, assign_unfit, assign_stands}
use Rattle.verilog_read.proofs.actions.read_assign.Goals as goal

pub returns-then-assign_misnamed : goal.returns-then-assign_misnamed
returns-then-assign_misnamed c = λ x h. assign_misnamed c.args.draft.now x h c.args.name.now (expression c.args.written) c.assign_misnamed.result (c.assign_misnamed.ensures (expression c.args.written) c.in_ok-judged.ensures) c.if-assign_misnamed.true

pub returns-then-assign_misordered : goal.returns-then-assign_misordered
returns-then-assign_misordered c = λ x h. assign_misordered c.args.draft.now x h c.args.name.now (expression c.args.written) c.assign_misnamed.result c.assign_misordered.result (c.assign_misnamed.ensures (expression c.args.written) c.in_ok-judged.ensures) c.if-assign_misnamed.false (c.assign_misordered.ensures (expression c.args.written) c.in_ok-judged.ensures) c.if-assign_misordered.true

pub returns-then-not-judged : goal.returns-then-not-judged
returns-then-not-judged c = λ x h. assign_unfit c.args.draft.now x h c.args.name.now (expression c.args.written) c.assign_misnamed.result c.assign_misordered.result c.in_ok-judged.judged.findings.fits
    (c.assign_misnamed.ensures (expression c.args.written) c.in_ok-judged.ensures) c.if-assign_misnamed.false (c.assign_misordered.ensures (expression c.args.written) c.in_ok-judged.ensures) c.if-assign_misordered.false
    c.in_ok-judged.ensures.fits c.if-not-judged.true

pub returns : goal.returns
returns c = λ x h more.
    let rule = assign_stands c.args.draft.now x h c.args.name.now (expression c.args.written) c.assign_misnamed.result c.assign_misordered.result c.in_ok-judged.judged.findings.fits
    (c.assign_misnamed.ensures (expression c.args.written) c.in_ok-judged.ensures) c.if-assign_misnamed.false (c.assign_misordered.ensures (expression c.args.written) c.in_ok-judged.ensures) c.if-assign_misordered.false
    c.in_ok-judged.ensures.fits c.if-not-judged.false in
    (rule, c.in_ok-push_assign.ensures (expression c.args.written) c.in_ok-judged.ensures.bit x h (more rule) rule)
