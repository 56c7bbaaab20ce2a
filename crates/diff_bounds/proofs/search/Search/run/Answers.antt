use Rattle.std.proofs.Common.{◌∙◌}
use Rattle.std.proofs.lemmas.List.{with_items_is}
use Rattle.diff_bounds.proofs.Kept.{searched}
use Rattle.diff_bounds.proofs.search.Search.run.Goals as goal

pub returns : goal.returns
returns c =
    let s = c.args.self.now in
    let ds = c.settle.auto.distances ∙ c.deref_mut.ensures.len in
    let vs = c.settle.auto.vias ∙ c.deref_mut-2.ensures.len in
    let ts = c.settle.auto.turns ∙ c.deref_mut-3.ensures.len in
    let xs = c.settle.auto.reached ∙ c.deref_mut-4.ensures.len in
    searched c.args.n c.args.edges.now c.args.kept.now _ c.settle.new.distances c.settle.new.vias c.settle.new.turns c.settle.new.reached c.args.question.target c.args.question.limit c.args.question.stop c.args.question.asked c.args.question.enough
    (with_items_is s.distances c.settle.new.distances ds) (with_items_is s.vias c.settle.new.vias vs) (with_items_is s.turns c.settle.new.turns ts) (with_items_is s.reached c.settle.new.reached xs)
    (ds ∙ s.distances.ok.0 ∙ c.requires.sized.distances) (vs ∙ s.vias.ok.0 ∙ c.requires.sized.vias) (ts ∙ s.turns.ok.0 ∙ c.requires.sized.turns) (xs ∙ s.reached.ok.0 ∙ c.requires.sized.reached)
    c.settle.ensures.ended c.settle.ensures.running
