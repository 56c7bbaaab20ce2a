use Rattle.std.proofs.Common.{◌≡◌, ◌<◌, ◌∙◌, ◌↔◌, ap, subst, sym, length, ℕ, false, true}
use Rattle.std.specs.List.{slice_index_or}
use Rattle.net_model.specs.Formula.{Net}
use Rattle.net_model.specs.Rules.{IsNetwork, names_of}
use Rattle.term_store.specs.Terms.{network_trees}
use Rattle.term_store.specs.Reach.{IsReached}
use Rattle.term_store.specs.Extracted.{extracted}
use Rattle.term_store.proofs.ExtractedIs.{written_is, extracted_is_network, extracted_terms, extracted_lets, extracted_outputs}
use Rattle.term_store.proofs.Lets.{length_numbers}
use Rattle.term_store.specs.Extracting.{marked}
use Rattle.term_store.proofs.store.Store.extract.Goals as goal

pub write_outputs-requires-clause-numbers : goal.write_outputs-requires-clause-numbers
write_outputs-requires-clause-numbers c = ap length (c.deref-2.ensures.value ∙ c.in_ok-lets.ensures.numbers) ∙ length_numbers c.args.self.now.nodes (marked c.deref.result.now) (length c.args.self.now.nodes)

pub new-requires : goal.new-requires
new-requires c =
    let ns = c.args.self.now.nodes in
    let roots = c.args.roots.now in
    let marks : (place : ℕ) → place < length ns → (slice_index_or c.deref.result.now place false ≡ true) ↔ IsReached ns roots place =
    subst (λ ms. (place : ℕ) → place < length ns → (slice_index_or ms place false ≡ true) ↔ IsReached ns roots place) (sym c.deref.ensures.value) c.in_ok-marks.ensures.marks in
    subst IsNetwork (sym (written_is ns roots c.deref.result.now c.deref-2.result.now c.args.inputs.now _ c.args.outputs.now _ _ c.rules.ensures.rules c.requires.roots marks c.in_ok-lets.ensures.lets (c.deref-2.ensures.value ∙ c.in_ok-lets.ensures.numbers) c.in_ok-bindings.ensures.outputs c.in_ok-names.ensures))
    (extracted_is_network ns roots c.args.inputs.now c.args.outputs.now c.rules.ensures.rules c.requires.roots c.requires.one_name c.requires.ports c.requires.terms)

pub returns-clause-network : goal.returns-clause-network
returns-clause-network c =
    let ns = c.args.self.now.nodes in
    let roots = c.args.roots.now in
    let marks : (place : ℕ) → place < length ns → (slice_index_or c.deref.result.now place false ≡ true) ↔ IsReached ns roots place =
    subst (λ ms. (place : ℕ) → place < length ns → (slice_index_or ms place false ≡ true) ↔ IsReached ns roots place) (sym c.deref.ensures.value) c.in_ok-marks.ensures.marks in
    c.new.ensures ∙ written_is ns roots c.deref.result.now c.deref-2.result.now c.args.inputs.now _ c.args.outputs.now _ _ c.rules.ensures.rules c.requires.roots marks c.in_ok-lets.ensures.lets (c.deref-2.ensures.value ∙ c.in_ok-lets.ensures.numbers) c.in_ok-bindings.ensures.outputs c.in_ok-names.ensures

pub returns-clause-outputs : goal.returns-clause-outputs
returns-clause-outputs c =
    let ns = c.args.self.now.nodes in
    let roots = c.args.roots.now in
    let marks : (place : ℕ) → place < length ns → (slice_index_or c.deref.result.now place false ≡ true) ↔ IsReached ns roots place =
    subst (λ ms. (place : ℕ) → place < length ns → (slice_index_or ms place false ≡ true) ↔ IsReached ns roots place) (sym c.deref.ensures.value) c.in_ok-marks.ensures.marks in
    let is : c.new.result ≡ extracted ns roots c.args.inputs.now c.args.outputs.now = c.new.ensures ∙ written_is ns roots c.deref.result.now c.deref-2.result.now c.args.inputs.now _ c.args.outputs.now _ _ c.rules.ensures.rules c.requires.roots marks c.in_ok-lets.ensures.lets (c.deref-2.ensures.value ∙ c.in_ok-lets.ensures.numbers) c.in_ok-bindings.ensures.outputs c.in_ok-names.ensures in
    ap (λ (n : Net). names_of n.outputs) is ∙ extracted_outputs ns roots c.args.outputs.now c.requires.one_name

pub returns-clause-terms : goal.returns-clause-terms
returns-clause-terms c =
    let ns = c.args.self.now.nodes in
    let roots = c.args.roots.now in
    let marks : (place : ℕ) → place < length ns → (slice_index_or c.deref.result.now place false ≡ true) ↔ IsReached ns roots place =
    subst (λ ms. (place : ℕ) → place < length ns → (slice_index_or ms place false ≡ true) ↔ IsReached ns roots place) (sym c.deref.ensures.value) c.in_ok-marks.ensures.marks in
    let is : c.new.result ≡ extracted ns roots c.args.inputs.now c.args.outputs.now = c.new.ensures ∙ written_is ns roots c.deref.result.now c.deref-2.result.now c.args.inputs.now _ c.args.outputs.now _ _ c.rules.ensures.rules c.requires.roots marks c.in_ok-lets.ensures.lets (c.deref-2.ensures.value ∙ c.in_ok-lets.ensures.numbers) c.in_ok-bindings.ensures.outputs c.in_ok-names.ensures in
    ap network_trees is ∙ extracted_terms ns roots c.args.inputs.now c.args.outputs.now c.rules.ensures.rules c.requires.roots c.requires.one_name

pub returns-clause-lets : goal.returns-clause-lets
returns-clause-lets c =
    let ns = c.args.self.now.nodes in
    let roots = c.args.roots.now in
    let marks : (place : ℕ) → place < length ns → (slice_index_or c.deref.result.now place false ≡ true) ↔ IsReached ns roots place =
    subst (λ ms. (place : ℕ) → place < length ns → (slice_index_or ms place false ≡ true) ↔ IsReached ns roots place) (sym c.deref.ensures.value) c.in_ok-marks.ensures.marks in
    let is : c.new.result ≡ extracted ns roots c.args.inputs.now c.args.outputs.now = c.new.ensures ∙ written_is ns roots c.deref.result.now c.deref-2.result.now c.args.inputs.now _ c.args.outputs.now _ _ c.rules.ensures.rules c.requires.roots marks c.in_ok-lets.ensures.lets (c.deref-2.ensures.value ∙ c.in_ok-lets.ensures.numbers) c.in_ok-bindings.ensures.outputs c.in_ok-names.ensures in
    ap (λ (n : Net). length n.lets) is ∙ extracted_lets ns roots c.rules.ensures.rules c.requires.roots
