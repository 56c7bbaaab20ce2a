use Rattle.std.proofs.Common.{inr}
use Rattle.rl_flow.specs.Words.{texts_of}
use Rattle.rl_flow.specs.Task.{command_of}
use Rattle.rl_flow.specs.Asked.{shelf_state}
use Rattle.rl_flow.specs.Outcome.{HasCause, IsOrGivesWay}
use Rattle.rl_flow.specs.declared.refusal.Refusal.TheVariants as why
use Rattle.rl_flow.proofs.Loads.{handed_on as error_on}
use Rattle.rl_flow.proofs.Ending.{handed_on, handed_error, words_alone, long_by, refused_by, memory_alone, answered_short, answered_right}
use Rattle.rl_flow.proofs.performing.perform.Goals as goal

pub returns-in_err-answer-clause-words : goal.returns-in_err-answer-clause-words
returns-in_err-answer-clause-words g c =
    let before = shelf_state (g.S.Shelf.contents c.args.shelf.now) (g.S.Shelf.faults c.args.shelf.now) (g.S.Shelf.given c.args.shelf.now) in
    let now = shelf_state (g.S.Shelf.contents c.answer.new.shelf) (g.S.Shelf.faults c.answer.new.shelf) (g.S.Shelf.given c.answer.new.shelf) in
    words_alone c.from_residual.result before now (command_of (texts_of c.args.words.now)) 0 0 c.in_err-answer.field-0.0 c.from_residual.ensures.1 (c.in_err-answer.ensures.cause 0 0)

pub returns-in_err-answer-clause-cause : goal.returns-in_err-answer-clause-cause
returns-in_err-answer-clause-cause g c =
    let before = shelf_state (g.S.Shelf.contents c.args.shelf.now) (g.S.Shelf.faults c.args.shelf.now) (g.S.Shelf.given c.args.shelf.now) in
    let now = shelf_state (g.S.Shelf.contents c.answer.new.shelf) (g.S.Shelf.faults c.answer.new.shelf) (g.S.Shelf.given c.answer.new.shelf) in
    let failed = g.K.Sink.faults c.args.out.now in
    error_on c.from_residual.result c.in_err-answer.field-0.0 (HasCause (command_of (texts_of c.args.words.now)) before now failed failed) c.from_residual.ensures.1
    (c.in_err-answer.ensures.cause failed failed)

pub returns-in_err-answer-clause-too_long : goal.returns-in_err-answer-clause-too_long
returns-in_err-answer-clause-too_long g c =
    λ files command n l k e long.
    let before = shelf_state (g.S.Shelf.contents c.args.shelf.now) (g.S.Shelf.faults c.args.shelf.now) (g.S.Shelf.given c.args.shelf.now) in
    let now = shelf_state (g.S.Shelf.contents c.answer.new.shelf) (g.S.Shelf.faults c.answer.new.shelf) (g.S.Shelf.given c.answer.new.shelf) in
    handed_on c.from_residual.result c.in_err-answer.field-0.0 (IsOrGivesWay (why.TooLong n l)) c.from_residual.ensures.1
    (long_by before now (command_of (texts_of c.args.words.now)) 0 0 c.in_err-answer.field-0.0 (c.in_err-answer.ensures.cause 0 0) c.in_err-answer.ensures.unwritten files command n l k e long)

pub returns-in_err-answer-clause-refused : goal.returns-in_err-answer-clause-refused
returns-in_err-answer-clause-refused g c =
    λ files command f k e bad.
    let before = shelf_state (g.S.Shelf.contents c.args.shelf.now) (g.S.Shelf.faults c.args.shelf.now) (g.S.Shelf.given c.args.shelf.now) in
    let now = shelf_state (g.S.Shelf.contents c.answer.new.shelf) (g.S.Shelf.faults c.answer.new.shelf) (g.S.Shelf.given c.answer.new.shelf) in
    handed_on c.from_residual.result c.in_err-answer.field-0.0 (IsOrGivesWay (why.Refused f)) c.from_residual.ensures.1
    (refused_by c.one_fault.ensures.one before now (command_of (texts_of c.args.words.now)) 0 0 c.in_err-answer.field-0.0 (c.in_err-answer.ensures.cause 0 0) c.in_err-answer.ensures.unwritten files command f k e bad)

pub returns-in_err-answer-clause-complete : goal.returns-in_err-answer-clause-complete
returns-in_err-answer-clause-complete g c =
    λ files command k e good quiet still.
    let before = shelf_state (g.S.Shelf.contents c.args.shelf.now) (g.S.Shelf.faults c.args.shelf.now) (g.S.Shelf.given c.args.shelf.now) in
    let now = shelf_state (g.S.Shelf.contents c.answer.new.shelf) (g.S.Shelf.faults c.answer.new.shelf) (g.S.Shelf.given c.answer.new.shelf) in
    let failed = g.K.Sink.faults c.args.out.now in
    inr (handed_error c.from_residual.result c.in_err-answer.field-0.0 why.NoMemory c.from_residual.ensures.1
    (memory_alone c.one_fault.ensures.none before now (command_of (texts_of c.args.words.now)) failed failed c.in_err-answer.field-0.0 (c.in_err-answer.ensures.cause failed failed)
    (λ x. absurd (c.in_err-answer.ensures.unwritten x)) files command k e good quiet still))

pub returns-in-Ok-clause-too_long : goal.returns-in-Ok-clause-too_long
returns-in-Ok-clause-too_long g c =
    λ files command n l k e long. absurd (answered_short (command_of (texts_of c.args.words.now)) (g.S.Shelf.contents c.args.shelf.now) _ _ c.in_ok-answer.ensures.text files command n l k e long)

pub returns-in-Ok-clause-refused : goal.returns-in-Ok-clause-refused
returns-in-Ok-clause-refused g c =
    λ files command f k e bad. absurd (answered_right c.one_fault.ensures.none (command_of (texts_of c.args.words.now)) (g.S.Shelf.contents c.args.shelf.now) _ _ c.in_ok-answer.ensures.text files command f k e bad)

pub returns-clause-too_long : goal.returns-clause-too_long
returns-clause-too_long g c =
    λ files command n l k e long. absurd (answered_short (command_of (texts_of c.args.words.now)) (g.S.Shelf.contents c.args.shelf.now) _ _ c.in_ok-answer.ensures.text files command n l k e long)

pub returns-clause-refused : goal.returns-clause-refused
returns-clause-refused g c =
    λ files command f k e bad. absurd (answered_right c.one_fault.ensures.none (command_of (texts_of c.args.words.now)) (g.S.Shelf.contents c.args.shelf.now) _ _ c.in_ok-answer.ensures.text files command f k e bad)
