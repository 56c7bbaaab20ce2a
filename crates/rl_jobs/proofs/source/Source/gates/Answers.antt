use Rattle.std.proofs.Common.{◌≡◌, ◌∙◌, ◌≤◌, ℕ, List, length, sym, ap, subst}
use Rattle.std.specs.Prelude.{IfOk, OnOk}
use Rattle.term_store.specs.Tree.{Tree}
use Rattle.term_store.specs.Trees.{trees_at}
use Rattle.term_store.specs.Subterms.{AreNetworkTerms, register_bits}
use Rattle.gate_lower.specs.Rules as rules
use Rattle.rl_jobs.specs.Sources.{terms_of}
use Rattle.rl_jobs.proofs.source.Source.gates.Goals as goal

pub lower-requires-clause-terms : goal.lower-requires-clause-terms
lower-requires-clause-terms c =
    let e = ap (trees_at c.plant.new.store.nodes) c.deref.ensures.value ∙ c.in_ok-roots.ensures.terms in
    subst (λ (ts : List Tree). AreNetworkTerms (length c.inputs.result.now) ts) (sym e)
    (subst (λ (names : List (List ℕ)). AreNetworkTerms (length names) (terms_of c.args.self.now)) (sym c.inputs.ensures)
    (c.sources_can_be_lowered.ensures.terms c.args.self.now c.rules.ensures))

pub returns-clause-bits : goal.returns-clause-bits
returns-clause-bits c =
    let e = ap (trees_at c.plant.new.store.nodes) c.deref.ensures.value ∙ c.in_ok-roots.ensures.terms in
    subst (λ (ts : List Tree). IfOk c.lower.result (λ g. rules.register_bits g ≡ register_bits ts)) e c.lower.ensures.bits

pub returns-clause-few : goal.returns-clause-few
returns-clause-few c =
    let e = ap (trees_at c.plant.new.store.nodes) c.deref.ensures.value ∙ c.in_ok-roots.ensures.terms in
    subst (λ (ts : List Tree). OnOk c.lower.result (register_bits ts ≤ 65536)) e c.lower.ensures.few

pub returns-clause-too_many : goal.returns-clause-too_many
returns-clause-too_many c = λ bits is.
    let e = ap (trees_at c.plant.new.store.nodes) c.deref.ensures.value ∙ c.in_ok-roots.ensures.terms in
    let many = c.lower.ensures.too_many bits is in
    c.sources_can_be_lowered.ensures.bits c.args.self.now bits c.rules.ensures (many.0 ∙ ap register_bits e) many.1
