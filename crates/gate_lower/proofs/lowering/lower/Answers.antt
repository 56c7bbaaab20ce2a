use Rattle.std.proofs.Common.{arith, ap, sym, subst, ◌∙◌}
use Rattle.term_store.specs.Places.{reach_marks}
use Rattle.term_store.specs.Trees.{trees_at}
use Rattle.gate_lower.specs.Lowered.{marked_bits}
use Rattle.gate_lower.specs.Rules as rules
use Rattle.gate_lower.specs.Timing.{AreGatesOf}
use Rattle.gate_lower.proofs.Netlists.{is_netlist}
use Rattle.gate_lower.proofs.Netlists as netlists
use Rattle.gate_lower.specs.Valued.{HaveTermsValues}
use Rattle.gate_lower.proofs.Times.{terms_values, gates_of_terms}
use Rattle.gate_lower.proofs.Marks.{are_marks, bits_are}
use Rattle.gate_lower.proofs.lowering.lower.Goals as goal

pub build-requires-clause-valid : goal.build-requires-clause-valid
build-requires-clause-valid c =
    let nodes = c.args.store.now.nodes in
    let roots = c.args.roots.now in
    let marks = reach_marks nodes roots in
    let right = c.places_count_subterms.ensures nodes roots c.rules.ensures.rules c.requires.roots in
    let closed = c.reached_places_are_closed.ensures nodes roots c.rules.ensures.rules c.requires.roots in
    is_netlist nodes marks roots c.args.inputs.now c.args.outputs.now c.rules.ensures.rules (are_marks nodes roots marks _ c.requires.terms closed) c.requires.ports c.requires.one_each
    c.requires.roots closed.roots_marked (omega (arith, right.joins, c.requires.terms.few_joins))
    (omega (arith, ap (marked_bits nodes) c.in_ok-plan.ensures.marks, c.bits-bits.ensures.bits, c.if-bits-gt-MOST_BITS.false))

pub returns-clause-timed : goal.returns-clause-timed
returns-clause-timed c =
    let nodes = c.args.store.now.nodes in
    let roots = c.args.roots.now in
    let marks = reach_marks nodes roots in
    let closed = c.reached_places_are_closed.ensures nodes roots c.rules.ensures.rules c.requires.roots in
    subst (AreGatesOf c.args.inputs.now c.args.outputs.now (trees_at nodes roots)) (sym c.in_ok-build.ensures.gates)
    (gates_of_terms nodes marks roots c.args.inputs.now c.args.outputs.now c.rules.ensures.rules (are_marks nodes roots marks _ c.requires.terms closed)
    (λ p lt. c.terms_follow_nodes.ensures nodes p c.rules.ensures.rules lt) c.requires.one_each c.requires.roots closed.roots_marked)

pub returns-clause-terms : goal.returns-clause-terms
returns-clause-terms c =
    let nodes = c.args.store.now.nodes in
    let roots = c.args.roots.now in
    let marks = reach_marks nodes roots in
    let closed = c.reached_places_are_closed.ensures nodes roots c.rules.ensures.rules c.requires.roots in
    subst (HaveTermsValues nodes roots) (sym c.in_ok-build.ensures.gates)
    (λ x. terms_values nodes marks roots c.args.inputs.now c.args.outputs.now c.rules.ensures.rules (are_marks nodes roots marks _ c.requires.terms closed)
    (λ p lt. c.terms_follow_nodes.ensures nodes p c.rules.ensures.rules lt) x)

pub returns-clause-bits : goal.returns-clause-bits
returns-clause-bits c =
    let nodes = c.args.store.now.nodes in
    let roots = c.args.roots.now in
    let marks = reach_marks nodes roots in
    let right = c.places_count_subterms.ensures nodes roots c.rules.ensures.rules c.requires.roots in
    ap rules.register_bits c.in_ok-build.ensures.gates ∙ (netlists.bits_are nodes marks c.args.inputs.now c.args.outputs.now roots ∙ bits_are nodes roots marks right)
