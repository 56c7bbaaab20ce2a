use Rattle.std.proofs.Common.{◌≡◌, ◌<◌, ◌+◌, ◌-◌, ℕ, length, get_or, arith, sym, subst, ap, inr}
use Rattle.refutation.specs.Path.{at}
use Rattle.diff_bounds.specs.Search.{of, IsLast}
use Rattle.diff_bounds.proofs.Lifting.{lead_more}
use Rattle.diff_bounds.proofs.leading.lead.Goals as goal

pub loop-left-init : goal.loop-left-init
loop-left-init c =
    let edges = c.args.edges.now in
    let h = get_or c.as_slice.result.now c.args.k 0 in
    let is : get_or c.args.ends.now.from.lasts.items c.args.k 0 ≡ h = ap (λ xs. get_or xs c.args.k 0) (sym c.as_slice.ensures.value) in
    let last : IsLast (λ a. a.from) edges c.args.k (length edges) h = subst (λ (h : ℕ). IsLast (λ a. a.from) edges c.args.k (length edges) h) is (c.requires.listed.from.lasts c.args.k c.requires.there) in
    record {
      within = last.before;
      begins = last.leads;
      most = omega arith;
      lead = λ f le lt q. inr (last.others f le lt q);
    }

pub loop-left-preserved : goal.loop-left-preserved
loop-left-preserved c =
    let edges = c.args.edges.now in
    let y = of c.args.kept.now in
    let left = c.loop-left.left in
    let e = left - 1 in
    let some = c.loop-left-test.true in
    let next : e + 1 ≡ left = omega (arith, some) in
    let within = c.loop-left.invariant.within in
    let inside : e < length edges = omega (arith, some, within) in
    let from = c.loop-left.invariant.begins e next in
    let h = get_or c.as_slice-earlier.result.now e 0 in
    let is : get_or c.args.ends.now.from.earlier.items e 0 ≡ h = ap (λ xs. get_or xs e 0) (sym c.as_slice-earlier.ensures.value) in
    let last : IsLast (λ a. a.from) edges c.args.k e h =
    subst (λ (k : ℕ). IsLast (λ a. a.from) edges k e h) from (subst (λ (h : ℕ). IsLast (λ a. a.from) edges (at edges e).from e h) is (c.requires.listed.from.earlier e inside)) in
    record {
      within = let le = last.before in omega (arith, le, inside);
      begins = last.leads;
      most = let m = c.loop-left.invariant.most in let q = c.min-least.ensures in omega (arith, m, q);
      lead = lead_more edges y c.args.k e h c.loop-left.least c.min-least.result c.slack.result inside from last (let q = c.min-least.ensures in omega (arith, q)) (let q = c.min-least.ensures in omega (arith, q)) c.slack.ensures.slack
          (λ f le lt q. c.loop-left.invariant.lead f (omega (arith, le, next)) lt q);
    }
