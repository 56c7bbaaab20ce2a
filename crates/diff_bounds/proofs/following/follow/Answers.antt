use Rattle.std.proofs.Common.{◌≡◌, ◌<◌, ℕ, get_or, ap, sym, subst}
use Rattle.refutation.specs.Path.{at}
use Rattle.diff_bounds.specs.Search.{of}
use Rattle.diff_bounds.proofs.Steps.{has_step, way_begins, way_goes_on, way_ends}
use Rattle.diff_bounds.proofs.Kept.{are_met}
use Rattle.diff_bounds.proofs.Early.{settled_asked}
use Rattle.diff_bounds.proofs.following.follow.Goals as goal

pub loop-at-init : goal.loop-at-init
loop-at-init c =
    record {
      inside = c.requires.asked;
      low = c.requires.low;
      way = way_begins c.args.edges.now (of c.args.kept.now) (of c.args.search.now.distances.items) (of c.args.search.now.turns.items) c.args.chain.now c.args.question.asked;
    }

pub loop-at-preserved : goal.loop-at-preserved
loop-at-preserved c =
    let n = c.args.n in
    let edges = c.args.edges.now in
    let y = of c.args.kept.now in
    let d = of c.args.search.now.distances.items in
    let v = of c.args.search.now.vias.items in
    let t = of c.args.search.now.turns.items in
    let l = c.loop-at.at in
    let run = c.requires.searched.running in
    let met = are_met n edges c.args.kept.now c.requires.bounds in
    let step = has_step n edges y d v t run.0 c.args.question.target c.args.question.limit run.1.0 0 l met run.1.1 c.loop-at.invariant.inside c.loop-at.invariant.low c.loop-at-test.true in
    let e = get_or c.as_slice-vias.result.now l 0 in
    let via : v l ≡ e = ap (λ xs. get_or xs l 0) (sym c.as_slice-vias.ensures.value) in
    record {
      inside = subst (λ (e : ℕ). (at edges e).to < n) via step.0.to;
      low = subst (λ (e : ℕ). d (at edges e).to < c.args.question.limit) via step.1;
      way = way_goes_on n edges y d v t c.args.chain.now c.loop-at.chain c.push.new.self c.args.question.asked l e step.0 via c.in_ok-push.ensures c.loop-at.invariant.way;
    }

pub returns : goal.returns
returns c =
    way_ends c.args.n c.args.edges.now (of c.args.kept.now) (of c.args.search.now.distances.items) (of c.args.search.now.turns.items) c.args.chain.now c.loop-at.chain c.args.question.asked
    c.loop-at.at c.args.question.target c.loop-at-test.false
    (settled_asked c.args.n c.args.edges.now c.args.kept.now c.args.search.now c.args.question.target c.args.question.limit c.args.question.stop c.args.question.asked c.args.question.enough c.requires.bounds c.requires.searched c.requires.asked c.requires.all c.requires.whole c.requires.low)
    c.loop-at.invariant.way
