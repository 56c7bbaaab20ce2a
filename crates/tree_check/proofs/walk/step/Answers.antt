use Rattle.std.proofs.Common.{◌≡◌, ◌∷◌, arith, subst, ℤ, to_z, of_z, w64}
use Rattle.std.proofs.lemmas.Int.{ints}
use Rattle.refutation.specs.Cases.{yes_side, no_side}
use Rattle.tree_check.proofs.walk.step.Goals as goal

pub returns-in_ok-split-in-Split : goal.returns-in_ok-split-in-Split
returns-in_ok-split-in-Split c path paths e =
    let limits = rw c.in-Split.is at c.requires.limits in
    let same : to_z w64 (of_z w64 c.in-Split.w) ≡ c.in-Split.w = omega (arith, ints, limits.bound.low, limits.bound.high) in
    rw c.in-Split.is
    (subst (λ (w : ℤ). c.split.new.self ≡ yes_side path c.in-Split.i c.in-Split.j w ∷ no_side path c.in-Split.i c.in-Split.j w ∷ paths) same (c.in_ok-split-in-Split.ensures path paths e))
