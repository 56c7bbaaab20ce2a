use Rattle.std.proofs.Common.{◌≡◌, ◌∙◌, ◌≤◌, ◌<◌, ℕ, List, Err, ap, subst}
use Rattle.std.specs.Prelude.{IfOk, OnOk}
use Rattle.term_store.specs.Tree.{Tree}
use Rattle.term_store.specs.Trees.{trees_at}
use Rattle.term_store.specs.Subterms.{register_bits}
use Rattle.gate_lower.specs.Rules as rules
use Rattle.gate_lower.specs.declared.lowering.LowerError.TheVariants.{TooManyBits}
use Rattle.gate_lower.proofs.networks.lower_network.Goals as goal

pub returns-clause-bits : goal.returns-clause-bits
returns-clause-bits c =
    let e = ap (trees_at c.build.new.self.nodes) c.deref.ensures.value ∙ c.in_ok-roots.ensures.terms in
    subst (λ (ts : List Tree). IfOk c.lower.result (λ g. rules.register_bits g ≡ register_bits ts)) e c.lower.ensures.bits

pub returns-clause-few : goal.returns-clause-few
returns-clause-few c =
    let e = ap (trees_at c.build.new.self.nodes) c.deref.ensures.value ∙ c.in_ok-roots.ensures.terms in
    subst (λ (ts : List Tree). OnOk c.lower.result (register_bits ts ≤ 65536)) e c.lower.ensures.few

pub returns-clause-too_many : goal.returns-clause-too_many
returns-clause-too_many c =
    let e = ap (trees_at c.build.new.self.nodes) c.deref.ensures.value ∙ c.in_ok-roots.ensures.terms in
    subst (λ (ts : List Tree). (bits : ℕ) → c.lower.result ≡ Err (TooManyBits bits) → (bits ≡ register_bits ts) × (65536 < bits)) e c.lower.ensures.too_many
