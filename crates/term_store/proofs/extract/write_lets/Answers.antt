use Rattle.std.proofs.Common.{◌≡◌, ◌++◌, ◌∷◌, [], ◌∙◌, ap, refl, arith, length, vec_len}
use Rattle.std.proofs.lemmas.Grind.{common_steps}
use Rattle.term_store.specs.Extracting.{marked}
use Rattle.term_store.proofs.Lets.{length_lets, length_places, length_numbers, lets_more, numbers_more}
use Rattle.term_store.proofs.extract.write_lets.Goals as goal

pub overflow_cast-number : goal.overflow_cast-number
overflow_cast-number c =
    let few = length_places c.args.store.now.nodes (marked c.args.marks.now) c.loop-place.place in
    let count = ap length c.loop-place.invariant.lets ∙ length_lets c.args.store.now.nodes (marked c.args.marks.now) c.loop-place.place in
    omega (arith, few, count, c.requires.nodes.few, c.len-number.ensures, c.loop-place-test.true, c.len-place-end.ensures.len)

pub push_let-requires-clause-numbers : goal.push_let-requires-clause-numbers
push_let-requires-clause-numbers c = ap length (c.deref.ensures.value ∙ c.loop-place.invariant.numbers) ∙ length_numbers c.args.store.now.nodes (marked c.args.marks.now) c.loop-place.place

pub push_let-requires-clause-few : goal.push_let-requires-clause-few
push_let-requires-clause-few c =
    let few = length_places c.args.store.now.nodes (marked c.args.marks.now) c.loop-place.place in
    let count = ap length c.loop-place.invariant.lets ∙ length_lets c.args.store.now.nodes (marked c.args.marks.now) c.loop-place.place in
    omega (arith, few, count, c.requires.nodes.few, c.loop-place-test.true, c.len-place-end.ensures.len)

pub loop-place-preserved : goal.loop-place-preserved
loop-place-preserved c =
    let nodes = c.args.store.now.nodes in
    let place = c.loop-place.place in
    let before = c.loop-place.invariant in
    let pushed : c.push.new.self.items ≡ c.loop-place.numbers.items ++ c.len-number.result ∷ [] = c.in_ok-push.ensures.items in
    let len : vec_len c.loop-place.lets ≡ length c.loop-place.lets.items = grind (arith, common_steps) in
    let number = c.len-number.ensures ∙ len ∙ ap length before.lets ∙ length_lets nodes (marked c.args.marks.now) place in
    record {
      lets = lets_more nodes c.args.marks.now c.deref.result.now _ place _ _ c.requires.nodes (omega (arith, c.loop-place-test.true, c.len-place-end.ensures.len)) refl (c.deref.ensures.value ∙ before.numbers) before.lets c.in_ok-push_let.ensures.lets;
      numbers = numbers_more nodes (marked c.args.marks.now) place _ _ _ before.numbers number pushed;
    }
