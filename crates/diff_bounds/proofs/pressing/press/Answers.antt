use Rattle.std.proofs.Common.{◌≡◌, ◌<◌, ◌-◌, length, get_or, arith}
use Rattle.diff_bounds.proofs.Gaps.{IsEach, lower_every, above_few}
use Rattle.diff_bounds.proofs.pressing.press.Goals as goal

pub loop-next-init : goal.loop-next-init
loop-next-init c =
    let ys = c.args.numbers.now in
    let zs = c.lower_all.new.numbers in
    let long : length zs ≡ length ys = c.lower_all.auto.numbers in
    let by = c.least_of-least.result in
    let each : IsEach (λ y. y - by) ys zs = record { long = long; is = c.lower_all.ensures } in
    let k = c.least_of-least.ensures.there in
    let is : get_or zs k.0 0 ≡ get_or ys k.0 0 - by = c.lower_all.ensures k.0 k.1 in
    let same = k.2 in
    let zero : get_or zs k.0 0 ≡ 0 = omega (arith, is, same) in
    let inside : k.0 < length zs = let h = k.1 in omega (arith, h, long) in
    let few = above_few 0 zs k.0 inside (omega (arith, zero)) in
    let most = c.requires.few in
    record {
      zero = (k.0, inside, zero);
      small = omega (arith, few, most, long);
      keeps = λ edges near m. lower_every by ys zs edges c.least_of-least.ensures.least each near m;
    }
