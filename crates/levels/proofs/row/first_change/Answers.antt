use Rattle.std.proofs.Common.{◌≡◌, ◌/◌, ◌%◌, arith}
use Rattle.levels.proofs.Words.{same_on}
use Rattle.levels.proofs.row.first_change.Goals as goal

pub returns-then-bit-lt64-clause-none : goal.returns-then-bit-lt64-clause-none
returns-then-bit-lt64-clause-none c =
    same_on c.args.words.now c.args.start c.args.from (c.args.from / 64) (c.args.from % 64) c.first_bit-bit.result (λ j ge lt. absurd (omega arith))
    (λ i ge lt. c.changes.ensures i (omega (arith, c.first_bit-bit.ensures.high)) (c.first_bit-bit.ensures.none i ge lt))

pub loop-place-init : goal.loop-place-init
loop-place-init c =
    let full : c.first_bit-bit.result ≡ 64 = omega (arith, c.first_bit-bit.ensures.high, c.if-bit-lt64.false) in
    λ j ge lt. same_on c.args.words.now c.args.start c.args.from (c.args.from / 64) (c.args.from % 64) c.first_bit-bit.result (λ j ge lt. absurd (omega arith))
    (λ i ge lt. c.changes.ensures i (omega (arith, c.first_bit-bit.ensures.high)) (c.first_bit-bit.ensures.none i ge lt)) j ge (omega arith)

pub returns-then-bit-lt64-2-clause-none : goal.returns-then-bit-lt64-2-clause-none
returns-then-bit-lt64-2-clause-none c =
    same_on c.args.words.now c.args.start c.args.from c.loop-place.place 0 c.first_bit-bit-in-loop-place.result (λ j ge lt. c.loop-place.invariant j ge (omega arith))
    (λ i ge lt. c.changes-in-loop-place.ensures i (omega (arith, c.first_bit-bit-in-loop-place.ensures.high)) (c.first_bit-bit-in-loop-place.ensures.none i ge lt))

pub loop-place-preserved : goal.loop-place-preserved
loop-place-preserved c =
    let full : c.first_bit-bit-in-loop-place.result ≡ 64 = omega (arith, c.first_bit-bit-in-loop-place.ensures.high, c.if-bit-lt64-2.false) in
    λ j ge lt. same_on c.args.words.now c.args.start c.args.from c.loop-place.place 0 c.first_bit-bit-in-loop-place.result (λ j ge lt. c.loop-place.invariant j ge (omega arith))
    (λ i ge lt. c.changes-in-loop-place.ensures i (omega (arith, c.first_bit-bit-in-loop-place.ensures.high)) (c.first_bit-bit-in-loop-place.ensures.none i ge lt)) j ge (omega arith)
