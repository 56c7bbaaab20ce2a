use Rattle.std.proofs.Common.{Some, map, refl, sym, ap, ◌∙◌}
use Rattle.std.proofs.lemmas.List.{map_push}
use Rattle.std.proofs.lemmas.Result.{err_from_is_err_and}
use Rattle.verilog_text.specs.Reading.{names_at}
use Rattle.verilog_syntax.proofs.NameLists.{names_first, names_none, names_done, names_go, names_fail, shorter}
use Rattle.verilog_syntax.proofs.forms.names.Goals as goal

pub returns-in_err-first : goal.returns-in_err-first
returns-in_err-first c =
    let p = err_from_is_err_and c.from_residual.result c.from_residual.ensures.1 in
    rw (p.1, p.2) (names_none c.name.new.words c.in_err-first.field-0.0 c.args.words.now c.in_err-first.ensures)

pub loop-words-init : goal.loop-words-init
loop-words-init c = rw (c.in_ok-push.ensures.items, c.new-all.ensures.items) (names_first c.in_ok-first.first.now c.args.words.now c.name.new.words c.in_ok-first.ensures)

pub returns-in_err-next : goal.returns-in_err-next
returns-in_err-next c =
    let p = err_from_is_err_and c.from_residual-in_err-next.result c.from_residual-in_err-next.ensures.1 in
    rw (p.1, p.2) (names_fail c.name-in-loop-words.new.words c.in_err-next.field-0.0 (map (λ n. n.now) c.loop-words.all.items) c.loop-words.words c.take_sign.new.words (names_at c.args.words.now)
    (c.loop-words-test.ensures.taken refl) c.in_err-next.ensures c.loop-words.invariant)

pub loop-words-smaller : goal.loop-words-smaller
loop-words-smaller c = shorter c.loop-words.words c.take_sign.new.words c.name-in-loop-words.new.words c.in_ok-next.next.now (c.loop-words-test.ensures.taken refl) c.in_ok-next.ensures

pub loop-words-preserved : goal.loop-words-preserved
loop-words-preserved c =
    rw (c.in_ok-push-2.ensures.items, map_push) (names_go (map (λ n. n.now) c.loop-words.all.items) c.in_ok-next.next.now c.loop-words.words c.take_sign.new.words c.name-in-loop-words.new.words (names_at c.args.words.now)
    (c.loop-words-test.ensures.taken refl) c.in_ok-next.ensures c.loop-words.invariant)

pub returns : goal.returns
returns c =
    let kept = c.loop-words-test.ensures.kept refl in
    names_done (map (λ n. n.now) c.loop-words.all.items) c.loop-words.words (names_at c.args.words.now) kept.0 c.loop-words.invariant
    ∙ ap (λ ls. Some (map (λ n. n.now) c.loop-words.all.items, ls)) (sym kept.1)
