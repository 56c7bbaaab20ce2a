use Rattle.std.proofs.Common.{sym, ◌∙◌}
use Rattle.term_store.specs.Trees.{tree}
use Rattle.simplify.proofs.Noted.{first_of_min, second_of_min}
use Rattle.simplify.proofs.chains.past_min.Goals as goal

pub returns-then-is_same : goal.returns-then-is_same
returns-then-is_same c =
    let ns = c.args.store.now.nodes in
    first_of_min ns c.args.ends.now c.args.b.0 (tree ns c.args.a.0) (tree ns c.in-Some.x.0) (tree ns c.in-Some.y.0) c.requires.ends c.requires.b c.in-Some.ensures.2 (sym c.is_same.ensures ∙ c.if-is_same.true)

pub returns-then-is_same-2 : goal.returns-then-is_same-2
returns-then-is_same-2 c =
    let ns = c.args.store.now.nodes in
    second_of_min ns c.args.ends.now c.args.b.0 (tree ns c.args.a.0) (tree ns c.in-Some.x.0) (tree ns c.in-Some.y.0) c.requires.ends c.requires.b c.in-Some.ensures.2
    (sym c.is_same.ensures ∙ c.if-is_same.false) (sym c.is_same-else-is_same.ensures ∙ c.if-is_same-2.true)
