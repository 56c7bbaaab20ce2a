use Rattle.std.proofs.Common.{◌≡◌, ◌∙◌, ap, sym, subst, arith, length, get_or, inl, inr}
use Rattle.term_store.specs.Nodes.{IsNodeOver}
use Rattle.gate_lower.proofs.Places.{length_listed, at_listed}
use Rattle.gate_lower.specs.Lowered.{delay_number, gate_number, node_line}
use Rattle.gate_lower.specs.declared.gates.Line.TheVariants as line
use Rattle.gate_lower.proofs.plan.Plan.line.Goals as goal

pub index-requires : goal.index-requires
index-requires c =
    let nodes = c.args.store.now.nodes in
    let over = subst (IsNodeOver c.args.term.0) (sym c.in-Inc.ensures.at) (c.rules.ensures.rules.lower c.args.term.0 c.requires.within) in
    omega (arith, over.0, c.requires.within, ap length c.requires.plan.delay_numbers, length_listed (delay_number nodes c.args.self.now.marks.items) (length nodes))

pub index-requires-in-Min : goal.index-requires-in-Min
index-requires-in-Min c =
    let nodes = c.args.store.now.nodes in
    omega (arith, c.requires.within, ap length c.requires.plan.gate_numbers, length_listed (gate_number nodes c.args.self.now.marks.items) (length nodes))

pub returns-in-Inc : goal.returns-in-Inc
returns-in-Inc c =
    let nodes = c.args.store.now.nodes in
    let marks = c.args.self.now.marks.items in
    let over = subst (IsNodeOver c.args.term.0) (sym c.in-Inc.ensures.at) (c.rules.ensures.rules.lower c.args.term.0 c.requires.within) in
    let n = c.index.ensures ∙ (ap (λ xs. get_or xs c.in-Inc.of.0 c.index.result.now) c.requires.plan.delay_numbers
    ∙ at_listed (delay_number nodes marks) (length nodes) c.in-Inc.of.0 c.index.result.now (omega (arith, over.0, c.requires.within))) in
    record { line = ap (λ k. line.Tap k c.in-Inc.by) n ∙ ap (node_line nodes marks c.args.term.0) c.in-Inc.ensures.at }

pub returns-in-Min : goal.returns-in-Min
returns-in-Min c =
    let nodes = c.args.store.now.nodes in
    let marks = c.args.self.now.marks.items in
    let p = c.args.term.0 in
    let n = c.index-in-Min.ensures ∙ (ap (λ xs. get_or xs p c.index-in-Min.result.now) c.requires.plan.gate_numbers
    ∙ at_listed (gate_number nodes marks) (length nodes) p c.index-in-Min.result.now c.requires.within) in
    let is : node_line nodes marks p c.node.result ≡ line.Gate (gate_number nodes marks p) = elim c.in-Min.is [
      | inl m ↦ ap (node_line nodes marks p) m.2
      | inr r ↦ elim r [
        | inl m ↦ ap (node_line nodes marks p) m.2
        | inr m ↦ ap (node_line nodes marks p) m.2
      ]
    ] in
    record { line = ap line.Gate n ∙ (sym is ∙ ap (node_line nodes marks p) c.node.ensures.at) }
