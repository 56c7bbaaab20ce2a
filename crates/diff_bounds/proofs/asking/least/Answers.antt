use Rattle.std.proofs.Common.{◌≡◌, ℤ, arith, refl, subst, Some, to_z, of_z, w64}
use Rattle.std.specs.Prelude.{◌-ℤ◌}
use Rattle.std.proofs.lemmas.Int.{ints}
use Rattle.diff_bounds.specs.Bounds.{IsLeast}
use Rattle.diff_bounds.specs.Search.{of, raised}
use Rattle.diff_bounds.proofs.Unbounded.{least_none}
use Rattle.diff_bounds.proofs.Kept.{are_met}
use Rattle.diff_bounds.proofs.Early.{found_all, least_found}
use Rattle.diff_bounds.proofs.asking.least.Goals as goal

pub returns-then-distance-lt-FAR-clause-least : goal.returns-then-distance-lt-FAR-clause-least
returns-then-distance-lt-FAR-clause-least c =
    let n = c.args.n in
    let edges = c.args.edges.now in
    let i = c.args.i in
    let j = c.args.j in
    let y = of c.args.kept.now in
    let d = of c.run.new.self.distances.items in
    let low = c.if-distance-lt-FAR.true in
    let at = c.distance-distance.ensures in
    let z = c.run.ensures.running.1.1.here in
    let is : (raised y d i -ℤ raised y d j) ≡ to_z w64 (of_z w64 c.difference.result) =
    let e = c.difference.ensures in
    let yi = c.requires.bounds.solution.small i c.requires.i_in in
    let yj = c.requires.bounds.solution.small j c.requires.j_in in
    omega (arith, ints, e, z, yi, yj, low, at) in
    subst (λ (w : ℤ). IsLeast edges i j (Some w)) is
    (least_found n edges c.args.kept.now c.run.new.self j 200000000 200000000 i 0 c.requires.bounds c.run.ensures c.requires.i_in refl (omega arith) (omega (arith, low, at)))

pub returns-else-distance-lt-FAR-clause-least : goal.returns-else-distance-lt-FAR-clause-least
returns-else-distance-lt-FAR-clause-least c =
    let high = c.if-distance-lt-FAR.false in
    let at = c.distance-distance.ensures in
    least_none c.args.n c.args.edges.now (of c.args.kept.now) (of c.run.new.self.distances.items) c.args.i c.args.j 200000000
    (are_met c.args.n c.args.edges.now c.args.kept.now c.requires.bounds) c.requires.bounds.few c.requires.bounds.solution.small c.requires.j_in (omega arith)
    (found_all c.args.n c.args.edges.now c.args.kept.now c.run.new.self c.args.j 200000000 200000000 c.args.i 0 c.requires.bounds c.run.ensures c.requires.i_in refl (omega arith) (omega (arith, high, at)))
    (omega (arith, high, at))
