use Rattle.std.proofs.Common.{◌∙◌}
use Rattle.rl_jobs.proofs.Right.{realises, source_values}
use Rattle.rl_jobs.proofs.source.Source.module.Goals as goal

pub returns-clause-right : goal.returns-clause-right
returns-clause-right c =
    realises _ _ _ _ c.in_ok-gates.gates c.in_ok-module.module c.in_ok-gates.ensures.timed
    (source_values c.terms_have_the_networks_values.ensures.law c.the_term_has_the_tables_values.ensures c.args.self.now c.rules.ensures c.requires.sound)
    c.in_ok-module.ensures.ports.0 c.in_ok-module.ensures.ports.1 c.in_ok-module.ensures.levels c.rules-2.ensures c.in_ok-module.ensures.no_repeated_gate
    (c.in_ok-module.ensures.wires ∙ c.in_ok-gates.ensures.wires) (c.in_ok-module.ensures.bits ∙ c.in_ok-gates.ensures.bits) c.one_history.ensures
