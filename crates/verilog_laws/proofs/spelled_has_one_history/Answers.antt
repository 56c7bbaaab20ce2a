use Rattle.verilog_laws.proofs.spelled_has_one_history.Goals as goal

pub returns : goal.returns
returns c = λ text m us x. c.one_history.ensures m us (c.spelled_is_valid.ensures text m x).ordered
