-- Sources can be lowered.
use Rattle.std.proofs.Common.{◌≡◌, ℕ, ◌<◌, ◌≤◌, [], ◌∷◌, length, ap, subst, arith}
use Rattle.net_model.specs.Formula.{Net}
use Rattle.net_model.specs.Rules.{IsNetwork, names_of}
use Rattle.func_table.specs.Rules.{IsTable}
use Rattle.func_table.specs.Table.{Table}
use Rattle.term_store.specs.Ports.{ArePorts}
use Rattle.term_store.specs.Subterms.{AreNetworkTerms, register_bits}
use Rattle.term_store.specs.Terms.{network_trees}
use Rattle.minterm.specs.Minterms.{synthesised}
use Rattle.rl_jobs.specs.declared.fault.Fault.TheVariants as fault
use Rattle.rl_jobs.specs.declared.source.Source.{Source}
use Rattle.rl_jobs.specs.declared.source.Source.TheVariants.{OfNetwork, OfTable}
use Rattle.rl_jobs.specs.Sources.{IsRuled, inputs_of, outputs_of, terms_of}
use Rattle.rl_jobs.specs.Compiled.{NeedsManyBits}

pub source_ports : ((n : Net) → IsNetwork n → ArePorts n.inputs (names_of n.outputs)) → ((t : Table) → IsTable t → ArePorts t.inputs (t.output ∷ [])) →
    (s : Source) → IsRuled s → ArePorts (inputs_of s) (outputs_of s)
source_ports nets tables (OfNetwork n) ruled = nets n ruled
source_ports nets tables (OfTable t) ruled = tables t ruled

pub source_terms : ((n : Net) → IsNetwork n → AreNetworkTerms (length n.inputs) (network_trees n)) →
    ((t : Table) → IsTable t → AreNetworkTerms (length t.inputs) (synthesised t ∷ [])) → (s : Source) → IsRuled s → AreNetworkTerms (length (inputs_of s)) (terms_of s)
source_terms nets tables (OfNetwork n) ruled = nets n ruled
source_terms nets tables (OfTable t) ruled = tables t ruled

pub many_bits : ((t : Table) → IsTable t → register_bits (synthesised t ∷ []) ≤ 65536) →
    (s : Source) (bits : ℕ) → IsRuled s → bits ≡ register_bits (terms_of s) → 65536 < bits → NeedsManyBits s (fault.TooManyBits bits)
many_bits few (OfNetwork n) bits ruled is many = (ap fault.TooManyBits is, subst (λ (b : ℕ). 65536 < b) is many)
many_bits few (OfTable t) bits ruled is many = absurd (let at_most = few t ruled in omega arith)
