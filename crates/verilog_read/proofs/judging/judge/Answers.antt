use Rattle.std.proofs.Common.{sym, subst, ◌∙◌, refl}
use Rattle.circuit.specs.Valid.{IsValid}
use Rattle.verilog_text.specs.Judging.{module_of}
use Rattle.verilog_read.proofs.Reached.{module_is}
use Rattle.verilog_read.proofs.judging.judge.Goals as goal

pub new-requires : goal.new-requires
new-requires c =
    let w = c.in-Ok.ensures in
    subst IsValid (sym (module_is c.in-Ok.draft w.1 w.4)) (c.statements_are_valid.ensures c.args.words.now w.0 (module_of w.1) w.2 (w.1, w.3, refl))

pub returns-clause-module : goal.returns-clause-module
returns-clause-module c = let w = c.in-Ok.ensures in (w.0, w.2, (w.1, w.3, c.new.ensures ∙ module_is c.in-Ok.draft w.1 w.4))
