use Rattle.std.proofs.Common.{◌≡◌, ◌-◌, arith}
use Rattle.diff_bounds.specs.Pressing.{pressed}
use Rattle.diff_bounds.proofs.Gaps.{IsEach, press_by, fewer}
use Rattle.diff_bounds.proofs.pressing.press_gap.Goals as goal

pub returns-clause-fewer : goal.returns-clause-fewer
returns-clause-fewer c =
    let by = c.saturating_sub-by.result in
    let is : by ≡ (c.args.next - c.args.floor) - 1000001 = c.saturating_sub-by.ensures in
    let each : IsEach (pressed c.args.floor by) c.args.numbers.now c.lower_above.new.numbers = record { long = c.lower_above.auto.numbers; is = c.lower_above.ensures } in
    let k = c.requires.there in
    let higher = c.requires.higher in
    let less = fewer c.args.floor by c.args.next c.args.numbers.now c.lower_above.new.numbers k.0 higher (omega (arith, is, higher)) k.1 k.2 c.requires.least each in
    omega (arith, less)

pub returns-clause-keeps : goal.returns-clause-keeps
returns-clause-keeps c edges =
    let by = c.saturating_sub-by.result in
    let is : by ≡ (c.args.next - c.args.floor) - 1000001 = c.saturating_sub-by.ensures in
    let each : IsEach (pressed c.args.floor by) c.args.numbers.now c.lower_above.new.numbers = record { long = c.lower_above.auto.numbers; is = c.lower_above.ensures } in
    press_by c.args.floor by c.args.next c.args.numbers.now c.lower_above.new.numbers edges is c.requires.higher c.requires.least each
