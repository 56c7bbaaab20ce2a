use Rattle.std.proofs.Common.{◌≡◌, ◌∙◌, ◌++◌, ◌∷◌, [], sym, subst}
use Rattle.term_store.specs.Nodes.{IsNodes}
use Rattle.term_store.proofs.Push.{with_new, with_eq, place_new, place_eq, push_nodes}
use Rattle.term_store.proofs.store.put_last.Goals as goal

pub returns-in-Ok-clause-ok : goal.returns-in-Ok-clause-ok
returns-in-Ok-clause-ok c =
    let ns = c.args.nodes.now.keys in
    let n = c.args.node in
    let e : c.insert_full.new.self.keys ≡ ns ++ n ∷ [] = c.in-Ok.ensures.keys ∙ with_eq ns n ∙ with_new ns n c.requires.new in
    (e, subst IsNodes (sym e) (push_nodes ns n c.requires.held c.requires.new c.requires.over c.requires.room))

pub returns-in-Ok-clause-last : goal.returns-in-Ok-clause-last
returns-in-Ok-clause-last c =
    let ns = c.args.nodes.now.keys in
    let n = c.args.node in
    c.in-Ok.place-is ∙ c.in-Ok.ensures.index ∙ place_eq ns n ∙ place_new ns n c.requires.new

pub returns-in-Ok-clause-place : goal.returns-in-Ok-clause-place
returns-in-Ok-clause-place c = c.in-Ok.place-is ∙ c.in-Ok.ensures.index ∙ place_eq c.args.nodes.now.keys c.args.node
