use Rattle.rl_jobs.proofs.Lowering.{source_ports, source_terms, many_bits}
use Rattle.rl_jobs.proofs.compile.sources_can_be_lowered.Goals as goal

pub returns-clause-ports : goal.returns-clause-ports
returns-clause-ports c = source_ports c.network_names_are_ports.ensures.law c.table_names_are_ports.ensures

pub returns-clause-terms : goal.returns-clause-terms
returns-clause-terms c = source_terms c.network_terms_are_few.ensures.law c.table_terms_are_few.ensures.terms

pub returns-clause-bits : goal.returns-clause-bits
returns-clause-bits c = many_bits c.table_terms_are_few.ensures.bits
