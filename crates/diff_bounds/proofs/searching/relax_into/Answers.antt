use Rattle.std.proofs.Common.{◌≡◌, ◌<◌, ◌+◌, ◌-◌, ℕ, refl, length, get_or, arith, sym, subst, ap}
use Rattle.refutation.specs.Path.{at}
use Rattle.diff_bounds.specs.Search.{of, IsLast, IsRunning, IsRelaxed}
use Rattle.diff_bounds.proofs.Running.{relaxed, passed, room_kept, end_same}
use Rattle.diff_bounds.proofs.searching.relax_into.Goals as goal

pub loop-left-init : goal.loop-left-init
loop-left-init c =
    let edges = c.args.edges.now in
    let h = get_or c.as_slice.result.now c.args.k 0 in
    let is : get_or c.args.ends.now.to.lasts.items c.args.k 0 ≡ h = ap (λ xs. get_or xs c.args.k 0) (sym c.as_slice.ensures.value) in
    let last : IsLast (λ a. a.to) edges c.args.k (length edges) h = subst (λ (h : ℕ). IsLast (λ a. a.to) edges c.args.k (length edges) h) is (c.requires.listed.to.lasts c.args.k c.requires.there) in
    record {
      within = last.before;
      leads = last.leads;
      height = refl;
      room = c.requires.room;
      is_open = c.requires.is_open;
      keeps = λ turn target limit r.
          passed (length c.args.kept.now) edges (of c.args.kept.now) (of c.args.distances.now) (of c.args.vias.now) (of c.args.turns.now) turn target limit c.args.k (length edges) h r last;
    }

pub loop-left-preserved : goal.loop-left-preserved
loop-left-preserved c =
    let n = length c.args.kept.now in
    let edges = c.args.edges.now in
    let y = of c.args.kept.now in
    let t = of c.args.turns.now in
    let left = c.loop-left.left in
    let e = left - 1 in
    let some = c.loop-left-test.true in
    let next : e + 1 ≡ left = omega (arith, some) in
    let within = c.loop-left.invariant.within in
    let inside : e < length edges = omega (arith, some, within) in
    let to = c.loop-left.invariant.leads e next in
    let h = get_or c.as_slice-earlier.result.now e 0 in
    let is : get_or c.args.ends.now.to.earlier.items e 0 ≡ h = ap (λ xs. get_or xs e 0) (sym c.as_slice-earlier.ensures.value) in
    let last : IsLast (λ a. a.to) edges c.args.k e h =
    subst (λ (k : ℕ). IsLast (λ a. a.to) edges k e h) to (subst (λ (h : ℕ). IsLast (λ a. a.to) edges (at edges e).to e h) is (c.requires.listed.to.earlier e inside)) in
    let looked : IsRelaxed y c.loop-left.distances c.loop-left.vias c.visit-total.new.distances c.visit-total.new.vias (at edges e) e = c.visit-total.ensures.relaxed in
    record {
      within = let le = last.before in omega (arith, le, inside);
      leads = last.leads;
      height = let h = c.loop-left.invariant.height in let s = end_same n edges y c.loop-left.distances c.loop-left.vias c.visit-total.new.distances c.visit-total.new.vias e c.args.k c.requires.met inside to looked in omega (arith, h, s);
      room = λ l hl. room_kept y c.loop-left.distances c.loop-left.vias c.visit-total.new.distances c.visit-total.new.vias (at edges e) e 4000000000 l looked (c.loop-left.invariant.room l hl);
      is_open = c.visit-total.ensures.is_open;
      keeps = λ turn target limit r.
          passed n edges y (of c.visit-total.new.distances) (of c.visit-total.new.vias) t turn target limit c.args.k e h
          (relaxed n edges y t c.loop-left.distances c.loop-left.vias c.visit-total.new.distances c.visit-total.new.vias turn target limit c.args.k e c.requires.met
          (subst (λ (e : ℕ). IsRunning n edges y (of c.loop-left.distances) (of c.loop-left.vias) t turn target limit c.args.k e) (sym next) (c.loop-left.invariant.keeps turn target limit r))
          c.requires.settled inside to looked) last;
    }

pub returns-clause-running : goal.returns-clause-running
returns-clause-running c turn target limit r =
    let none = c.loop-left-test.false in
    let is : c.loop-left.left ≡ 0 = omega (arith, none) in
    subst (λ (e : ℕ). IsRunning (length c.args.kept.now) c.args.edges.now (of c.args.kept.now) (of c.loop-left.distances) (of c.loop-left.vias) (of c.args.turns.now) turn target limit c.args.k e) is
    (c.loop-left.invariant.keeps turn target limit r)
