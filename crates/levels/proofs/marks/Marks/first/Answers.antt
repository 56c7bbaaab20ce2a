use Rattle.std.proofs.Common.{◌≡◌, ◌/◌, ◌%◌, get_or, arith, ap, sym, ◌∙◌}
use Rattle.std.proofs.lemmas.List.{get_or_read}
use Rattle.std.specs.Int.{bit_at}
use Rattle.levels.proofs.Bits.{none_at_start, none_on, marked_at}
use Rattle.levels.proofs.marks.Marks.first.Goals as goal

pub returns-then-bit-lt64-clause-none : goal.returns-then-bit-lt64-clause-none
returns-then-bit-lt64-clause-none c =
    let words = c.args.self.now in
    let word : c.index.result.now ≡ get_or words (c.args.from / 64) 0 =
    get_or_read c.self.inside.words.items (c.args.from / 64) _ (omega (arith, c.self.inside.words.ok.0)) c.index.ensures 0 ∙ ap (λ z. get_or z (c.args.from / 64) 0) c.self.view_is in
    none_on words c.args.from (c.args.from / 64) (c.args.from % 64) c.first_bit-bit.result (none_at_start words c.args.from)
    (λ j ge lt. ap (λ z. bit_at z j) (sym word) ∙ c.first_bit-bit.ensures.none j ge lt) c.first_bit-bit.ensures.high

pub returns-then-bit-lt64-clause-found : goal.returns-then-bit-lt64-clause-found
returns-then-bit-lt64-clause-found c =
    let words = c.args.self.now in
    let word : c.index.result.now ≡ get_or words (c.args.from / 64) 0 =
    get_or_read c.self.inside.words.items (c.args.from / 64) _ (omega (arith, c.self.inside.words.ok.0)) c.index.ensures 0 ∙ ap (λ z. get_or z (c.args.from / 64) 0) c.self.view_is in
    λ _. marked_at words (c.args.from / 64) c.first_bit-bit.result c.if-bit-lt64.true
    (ap (λ z. bit_at z c.first_bit-bit.result) (sym word) ∙ c.first_bit-bit.ensures.found c.if-bit-lt64.true)

pub loop-place-init : goal.loop-place-init
loop-place-init c =
    let words = c.args.self.now in
    let word : c.index.result.now ≡ get_or words (c.args.from / 64) 0 =
    get_or_read c.self.inside.words.items (c.args.from / 64) _ (omega (arith, c.self.inside.words.ok.0)) c.index.ensures 0 ∙ ap (λ z. get_or z (c.args.from / 64) 0) c.self.view_is in
    let full : c.first_bit-bit.result ≡ 64 = omega (arith, c.first_bit-bit.ensures.high) in
    let h = none_on words c.args.from (c.args.from / 64) (c.args.from % 64) c.first_bit-bit.result (none_at_start words c.args.from)
    (λ j ge lt. ap (λ z. bit_at z j) (sym word) ∙ c.first_bit-bit.ensures.none j ge lt) c.first_bit-bit.ensures.high in
    λ k ge lt. h k ge (omega arith)

pub returns-then-bit-lt64-2-clause-none : goal.returns-then-bit-lt64-2-clause-none
returns-then-bit-lt64-2-clause-none c =
    let words = c.args.self.now in
    let word : c.index-in-loop-place.result.now ≡ get_or words c.loop-place.place 0 =
    get_or_read c.self.inside.words.items c.loop-place.place _ (omega (arith, c.self.inside.words.ok.0)) c.index-in-loop-place.ensures 0 ∙ ap (λ z. get_or z c.loop-place.place 0) c.self.view_is in
    none_on words c.args.from c.loop-place.place 0 c.first_bit-bit-in-loop-place.result (λ k ge lt. c.loop-place.invariant k ge (omega arith))
    (λ j ge lt. ap (λ z. bit_at z j) (sym word) ∙ c.first_bit-bit-in-loop-place.ensures.none j ge lt) c.first_bit-bit-in-loop-place.ensures.high

pub returns-then-bit-lt64-2-clause-found : goal.returns-then-bit-lt64-2-clause-found
returns-then-bit-lt64-2-clause-found c =
    let words = c.args.self.now in
    let word : c.index-in-loop-place.result.now ≡ get_or words c.loop-place.place 0 =
    get_or_read c.self.inside.words.items c.loop-place.place _ (omega (arith, c.self.inside.words.ok.0)) c.index-in-loop-place.ensures 0 ∙ ap (λ z. get_or z c.loop-place.place 0) c.self.view_is in
    λ _. marked_at words c.loop-place.place c.first_bit-bit-in-loop-place.result c.if-bit-lt64-2.true
    (ap (λ z. bit_at z c.first_bit-bit-in-loop-place.result) (sym word) ∙ c.first_bit-bit-in-loop-place.ensures.found c.if-bit-lt64-2.true)

pub loop-place-preserved : goal.loop-place-preserved
loop-place-preserved c =
    let words = c.args.self.now in
    let word : c.index-in-loop-place.result.now ≡ get_or words c.loop-place.place 0 =
    get_or_read c.self.inside.words.items c.loop-place.place _ (omega (arith, c.self.inside.words.ok.0)) c.index-in-loop-place.ensures 0 ∙ ap (λ z. get_or z c.loop-place.place 0) c.self.view_is in
    let full : c.first_bit-bit-in-loop-place.result ≡ 64 = omega (arith, c.first_bit-bit-in-loop-place.ensures.high) in
    let h = none_on words c.args.from c.loop-place.place 0 c.first_bit-bit-in-loop-place.result (λ k ge lt. c.loop-place.invariant k ge (omega arith))
    (λ j ge lt. ap (λ z. bit_at z j) (sym word) ∙ c.first_bit-bit-in-loop-place.ensures.none j ge lt) c.first_bit-bit-in-loop-place.ensures.high in
    λ k ge lt. h k ge (omega arith)
