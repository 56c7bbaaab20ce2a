use Rattle.std.proofs.Common.{refl, Err}
use Rattle.rl_flow.specs.Outcome.{IsAnswerOf}
use Rattle.rl_flow.specs.Answers.{MayHave}
use Rattle.rl_flow.specs.declared.refusal.Refusal.TheVariants as why
use Rattle.rl_flow.proofs.Ending.{ends_by, ends_in_memory}
use Rattle.rl_flow.proofs.running.run.Goals as goal

pub returns-in-Ok-clause-too_long : goal.returns-in-Ok-clause-too_long
returns-in-Ok-clause-too_long g c = λ files command n l k e long. absurd (c.in-Ok.ensures.too_long files command n l k e long)

pub returns-in-Ok-clause-refused : goal.returns-in-Ok-clause-refused
returns-in-Ok-clause-refused g c = λ files command f k e bad. absurd (c.in-Ok.ensures.refused files command f k e bad)

pub returns-in-Err-clause-too_long : goal.returns-in-Err-clause-too_long
returns-in-Err-clause-too_long g c =
    λ files command n l k e long. ends_by c.status-in-Err.result (g.K.Sink.written c.args.err.now) (g.K.Sink.written c.report.new.err) (g.K.Sink.faults c.args.err.now) (g.K.Sink.faults c.report.new.err)
    c.in-Err.refusal (why.TooLong n l) c.status-in-Err.ensures c.report.ensures.line (c.in-Err.ensures.too_long files command n l k e long)

pub returns-in-Err-clause-refused : goal.returns-in-Err-clause-refused
returns-in-Err-clause-refused g c =
    λ files command f k e bad. ends_by c.status-in-Err.result (g.K.Sink.written c.args.err.now) (g.K.Sink.written c.report.new.err) (g.K.Sink.faults c.args.err.now) (g.K.Sink.faults c.report.new.err)
    c.in-Err.refusal (why.Refused f) c.status-in-Err.ensures c.report.ensures.line (c.in-Err.ensures.refused files command f k e bad)

pub returns-in-Err-clause-complete : goal.returns-in-Err-clause-complete
returns-in-Err-clause-complete g c =
    λ files command k e good quiet still. ends_in_memory (Err c.in-Err.refusal) c.status-in-Err.result c.in-Err.refusal (MayHave command.task) (IsAnswerOf command.task c.status-in-Err.result) refl c.status-in-Err.ensures (c.in-Err.ensures.complete files command k e good quiet still)
