use Rattle.std.proofs.Common.{Bool, inl, inr, ap, subst, ◌||◌, not}
use Rattle.verilog_syntax.specs.View as v
use Rattle.verilog_read.specs.Draft.{IsJudgedBy}
use Rattle.verilog_read.proofs.Assigned.{always_misnamed, always_updated, always_unfit, always_wrong, always_stands, misnamed_is, not_true, not_false}
use Rattle.verilog_read.proofs.actions.read_always.Goals as goal
use Rattle.verilog_read.proofs.actions.read_always.Goals.{then-misnamed-via-then-misnamed, then-misnamed-via-else-misnamed+then-not-judged}

pub returns-then-misnamed : goal.returns-then-misnamed
returns-then-misnamed c = λ x h.
    let d = c.args.draft.now in let a = c.args.always in let n = v.next a.next in
    let judged = subst (λ e. IsJudgedBy d e c.in_ok-judged.judged) c.expression_of.ensures c.in_ok-judged.ensures in
    let k = c.in_ok-judged.judged.findings.known in let m = c.always_misnamed-misnamed.result in
    always_misnamed d x h a.reset.now a.zero.now a.update.now n c.get-reset.result c.get-reset.ensures (m || not k)
    (misnamed_is d a.reset.now a.update.now n m k c.always_misnamed-misnamed.ensures judged.known)
    (elim c.then-misnamed.branch [
      | then-misnamed-via-then-misnamed w ↦ ap (λ (b : Bool). b || not k) w.if-misnamed.true
      | then-misnamed-via-else-misnamed+then-not-judged w ↦ λ i. w.if-misnamed.false i || w.if-not-judged.true i
    ])

pub returns-then-is_updated : goal.returns-then-is_updated
returns-then-is_updated c = λ x h.
    let d = c.args.draft.now in let a = c.args.always in let n = v.next a.next in
    let judged = subst (λ e. IsJudgedBy d e c.in_ok-judged.judged) c.expression_of.ensures c.in_ok-judged.ensures in
    let k = c.in_ok-judged.judged.findings.known in let m = c.always_misnamed-misnamed.result in
    always_updated d x h a.reset.now a.zero.now a.update.now n c.get-reset.result c.get-reset.ensures (m || not k)
    (misnamed_is d a.reset.now a.update.now n m k c.always_misnamed-misnamed.ensures judged.known) (λ i. c.if-misnamed.false i || c.if-not-judged.false i)
    c.is_updated.result c.is_updated.ensures c.if-is_updated.true

pub returns-then-not-judged-2 : goal.returns-then-not-judged-2
returns-then-not-judged-2 c = λ x h.
    let d = c.args.draft.now in let a = c.args.always in let n = v.next a.next in
    let judged = subst (λ e. IsJudgedBy d e c.in_ok-judged.judged) c.expression_of.ensures c.in_ok-judged.ensures in
    let k = c.in_ok-judged.judged.findings.known in let m = c.always_misnamed-misnamed.result in
    elim c.then-not-judged-2.either [
      | inl w ↦ always_unfit d x h a.reset.now a.zero.now a.update.now n c.get-reset.result c.get-reset.ensures (m || not k)
          (misnamed_is d a.reset.now a.update.now n m k c.always_misnamed-misnamed.ensures judged.known) (λ i. c.if-misnamed.false i || c.if-not-judged.false i)
          c.is_updated.result c.is_updated.ensures c.if-is_updated.false c.in_ok-judged.judged.findings.fits judged.fits (not_true c.in_ok-judged.judged.findings.fits w)
      | inr w ↦ always_wrong d x h a.reset.now a.zero.now a.update.now n c.get-reset.result c.get-reset.ensures (m || not k)
          (misnamed_is d a.reset.now a.update.now n m k c.always_misnamed-misnamed.ensures judged.known) (λ i. c.if-misnamed.false i || c.if-not-judged.false i)
          c.is_updated.result c.is_updated.ensures c.if-is_updated.false c.is_update_at-is_update.result c.is_update_at-is_update.ensures w.1
    ]

pub returns : goal.returns
returns c = λ x h more.
    let d = c.args.draft.now in let a = c.args.always in let n = v.next a.next in
    let judged = subst (λ e. IsJudgedBy d e c.in_ok-judged.judged) c.expression_of.ensures c.in_ok-judged.ensures in
    let k = c.in_ok-judged.judged.findings.known in let m = c.always_misnamed-misnamed.result in
    let rule = always_stands d x h a.reset.now a.zero.now a.update.now n c.get-reset.result c.get-reset.ensures (m || not k)
    (misnamed_is d a.reset.now a.update.now n m k c.always_misnamed-misnamed.ensures judged.known) (λ i. c.if-misnamed.false i || c.if-not-judged.false i)
    c.is_updated.result c.is_updated.ensures c.if-is_updated.false c.in_ok-judged.judged.findings.fits c.is_update_at-is_update.result
    judged.fits (not_false c.in_ok-judged.judged.findings.fits c.if-not-judged-2.false) c.is_update_at-is_update.ensures c.if-not-is_update.false in
    (rule, c.push_always.ensures a.zero.now a.update.now n judged.bit x h (more rule) rule)
