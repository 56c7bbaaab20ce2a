use Rattle.std.proofs.Common.{◌≡◌, ◌+◌, [], ◌∷◌, ◌++◌, length, get_or, arith, refl, subst, sym, ap, ◌∙◌, true}
use Rattle.refutation.specs.Path.{is_negative}
use Rattle.diff_bounds.specs.Search.{of}
use Rattle.diff_bounds.proofs.Least.{negative, mended_list}
use Rattle.diff_bounds.proofs.Kept.{are_met, pressed_solution, chain_with}
use Rattle.diff_bounds.proofs.Early.{found_all}
use Rattle.diff_bounds.proofs.judging.mend.Goals as goal

pub returns-then-distance-by-clause-negative : goal.returns-then-distance-by-clause-negative
returns-then-distance-by-clause-negative c =
    let edges = c.args.edges.now in
    let y = of c.args.kept.now in
    let d = of c.run.new.self.distances.items in
    let low = c.if-distance-by.true in
    let at = c.distance.ensures in
    let way = c.in_ok-follow.ensures in
    let is = chain_with c.new-chain.result _ c.follow.new.chain (length edges) way.0.chain c.new-chain.ensures c.in_ok-push.ensures way.1 in
    subst (λ chain. is_negative (edges ++ c.args.edge ∷ []) chain ≡ true) (sym is)
    (negative c.args.n edges y d c.args.edge.from c.args.edge.to c.args.by c.args.edge.bound c.run.ensures.running.1.1.here c.requires.by (omega (arith, low, at)) way.0)

pub returns-clause-mended : goal.returns-clause-mended
returns-clause-mended c =
    let n = c.args.n in
    let edges = c.args.edges.now in
    let d = of c.run.new.self.distances.items in
    let high = c.if-distance-by.false in
    let at = c.distance.ensures in
    let long = c.requires.bounds.solution.long in
    let value = c.deref.ensures.value in
    let met = mended_list n edges (of c.args.kept.now) d c.raise.new.kept c.args.edge.from c.args.edge.to c.args.by c.args.edge.bound
    (are_met n edges c.args.kept.now c.requires.bounds)
    (found_all n edges c.args.kept.now c.run.new.self c.args.edge.from c.args.by c.args.by c.args.edge.to 0 c.requires.bounds c.run.ensures c.requires.near.to refl (omega arith) (omega (arith, high, at))) c.requires.by (omega (arith, high, at)) c.requires.near.from c.requires.near.to
    (λ k h. c.raise.ensures k (omega (arith, h, long)) ∙ ap (λ xs. get_or c.args.kept.now k 0 + get_or xs k 0) value) in
    pressed_solution n edges c.args.edge c.raise.new.kept c.press.new.numbers (c.raise.auto.kept ∙ long) (c.press.auto.numbers ∙ c.raise.auto.kept ∙ long)
    c.requires.bounds.near c.requires.near met c.press.ensures.zero c.press.ensures.small c.press.ensures.keeps
