use Rattle.std.proofs.Common.{◌≡◌, ◌<◌, ◌∙◌, ap, ℤ, length, arith, refl, subst, sym, Some, true}
use Rattle.refutation.specs.Path.{runs, sum_of}
use Rattle.diff_bounds.specs.Bounds.{IsLeast}
use Rattle.diff_bounds.specs.Search.{of}
use Rattle.diff_bounds.proofs.Unbounded.{least_none}
use Rattle.diff_bounds.proofs.Kept.{are_met, chain_is}
use Rattle.diff_bounds.proofs.Early.{found_all, least_of_way}
use Rattle.diff_bounds.proofs.asking.shortest.Goals as goal

pub returns-then-distance-ge-FAR-clause-least : goal.returns-then-distance-ge-FAR-clause-least
returns-then-distance-ge-FAR-clause-least c =
    let high = c.if-distance-ge-FAR.true in
    let at = c.distance.ensures in
    least_none c.args.n c.args.edges.now (of c.args.kept.now) (of c.run.new.self.distances.items) c.args.i c.args.j 200000000
    (are_met c.args.n c.args.edges.now c.args.kept.now c.requires.bounds) c.requires.bounds.few c.requires.bounds.solution.small c.requires.j_in (omega arith)
    (found_all c.args.n c.args.edges.now c.args.kept.now c.run.new.self c.args.j 200000000 200000000 c.args.i 0 c.requires.bounds c.run.ensures c.requires.i_in refl (omega arith) (omega (arith, high, at)))
    (omega (arith, high, at))

pub returns-clause-least : goal.returns-clause-least
returns-clause-least c =
    let way = c.in_ok-follow.ensures in
    let is = chain_is c.new-chain.result c.follow.new.chain way.0.chain c.new-chain.ensures way.1 in
    subst (λ (w : ℤ). IsLeast c.args.edges.now c.args.i c.args.j (Some w)) (sym (ap (sum_of c.args.edges.now) is ∙ way.0.sum))
    (least_of_way c.args.n c.args.edges.now c.args.kept.now c.run.new.self c.args.j 200000000 200000000 c.args.i 0 c.requires.bounds c.run.ensures c.requires.i_in refl (omega arith)
    (let high = c.if-distance-ge-FAR.false in let at = c.distance.ensures in omega (arith, high, at)) way.0)

pub returns-clause-runs : goal.returns-clause-runs
returns-clause-runs c =
    let way = c.in_ok-follow.ensures in
    let is = chain_is c.new-chain.result c.follow.new.chain way.0.chain c.new-chain.ensures way.1 in
    subst (λ chain. runs c.args.edges.now c.args.i c.args.j chain ≡ true) (sym is) way.0.runs

pub returns-clause-short : goal.returns-clause-short
returns-clause-short c =
    let way = c.in_ok-follow.ensures in
    let is = chain_is c.new-chain.result c.follow.new.chain way.0.chain c.new-chain.ensures way.1 in
    subst (λ chain. length chain < c.args.n) (sym is) way.0.short
