use Rattle.std.proofs.Common.{◌∙◌, sym, None}
use Rattle.std.proofs.lemmas.Result.{err_from_is_err_and}
use Rattle.verilog_syntax.specs.View.{statement}
use Rattle.verilog_syntax.specs.Reads.{stage}
use Rattle.verilog_text.specs.Statements.{Start}
use Rattle.verilog_read.proofs.Reached.{begins, next_ready, goes_on, stops, faulty, opened_short}
use Rattle.verilog_read.proofs.judging.read_all.Goals as goal

-- src/judging.rt:143:22
pub judge_next-requires : goal.judge_next-requires
judge_next-requires c =
    let ls = c.args.words.now in
    let d = c.no_statements-draft.result in
    record {
      ready = next_ready ls d None Start ls (begins ls d c.statements_stay_sound.ensures.none c.no_statements-draft.ensures)
          (statement c.in_ok-first.first) c.next_statement.new.words c.in_ok-first.ensures.opens;
    }

pub loop-alloc-init : goal.loop-alloc-init
loop-alloc-init c =
    let ls = c.args.words.now in
    let d = c.no_statements-draft.result in
    goes_on ls d None Start ls (begins ls d c.statements_stay_sound.ensures.none c.no_statements-draft.ensures) c.statements_stay_sound.ensures.more
    (statement c.in_ok-first.first) c.next_statement.new.words (stage c.after-current.result) c.judge_next.new.draft c.in_ok-broken.broken
    c.in_ok-first.ensures.opens c.after-current.ensures c.in_ok-broken.ensures

pub returns-in_err-next : goal.returns-in_err-next
returns-in_err-next c =
    let p = err_from_is_err_and c.from_residual-in_err-next.result c.from_residual-in_err-next.ensures.1 in
    rw (p.1, p.2)
    (stops c.args.words.now c.loop-alloc.draft c.loop-alloc.broken (stage c.loop-alloc.current) c.loop-alloc.words c.loop-alloc.invariant
    c.args.end c.in_err-next.field-0.0 (sym c.is_finished.ensures ∙ c.loop-alloc-test.true) c.in_err-next.ensures.lacks)

pub loop-alloc-smaller : goal.loop-alloc-smaller
loop-alloc-smaller c = opened_short (stage c.loop-alloc.current) c.loop-alloc.words c.next_statement-in-loop-alloc.new.words (statement c.in_ok-next.next) c.in_ok-next.ensures.opens

pub loop-alloc-preserved : goal.loop-alloc-preserved
loop-alloc-preserved c =
    goes_on c.args.words.now c.loop-alloc.draft c.loop-alloc.broken (stage c.loop-alloc.current) c.loop-alloc.words c.loop-alloc.invariant c.statements_stay_sound.ensures.more
    (statement c.in_ok-next.next) c.next_statement-in-loop-alloc.new.words (stage c.after-current-in-loop-alloc.result) c.judge_next-in-loop-alloc.new.draft c.in_ok-broken-2.broken
    c.in_ok-next.ensures.opens c.after-current-in-loop-alloc.ensures c.in_ok-broken-2.ensures

pub returns-in-Some : goal.returns-in-Some
returns-in-Some c =
    rw (c.error_of.ensures)
    (faulty c.args.words.now c.loop-alloc.draft c.loop-alloc.broken (stage c.loop-alloc.current) c.loop-alloc.words c.loop-alloc.invariant
    c.args.end c.in-Some.fault (sym c.is_finished.ensures ∙ c.loop-alloc-test.false) c.in-Some.is)
