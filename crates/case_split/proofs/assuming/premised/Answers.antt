use Rattle.std.proofs.Common.{◌≡◌, ◌∙◌, arith, take, get_or, to_z, of_z, w64, ◌≤◌}
use Rattle.std.specs.Prelude.{pos}
use Rattle.net_model.specs.declared.assume.Assume.{Assume}
use Rattle.std.proofs.lemmas.Int.{ints}
use Rattle.case_split.proofs.Implied.{one_more_is_possible, root_more}
use Rattle.case_split.proofs.assuming.premised.Goals as goal

pub add-requires-clause-possible : goal.add-requires-clause-possible
add-requires-clause-possible c =
    let d : Assume = record { from = 0; to = 0; by = 0 } in
    let small : (get_or c.args.premises.now c.loop-p.p-index d).by ≤ 1000000 = c.requires.small_premises c.loop-p.p-index d c.loop-p-test.true in
    let e : to_z w64 (of_z w64 c.from.result) ≡ pos (get_or c.args.premises.now c.loop-p.p-index d).by = omega (arith, ints, small) in
    one_more_is_possible c.loop-p.bounds.assumptions (take c.loop-p.p-index c.args.premises.now) _ _ (get_or c.args.premises.now c.loop-p.p-index d).by (to_z w64 (of_z w64 c.from.result)) c.loop-p.invariant.so_far e

pub loop-p-preserved : goal.loop-p-preserved
loop-p-preserved c =
    let d : Assume = record { from = 0; to = 0; by = 0 } in
    let small : (get_or c.args.premises.now c.loop-p.p-index d).by ≤ 1000000 = c.requires.small_premises c.loop-p.p-index d c.loop-p-test.true in
    let e : to_z w64 (of_z w64 c.from.result) ≡ pos (get_or c.args.premises.now c.loop-p.p-index d).by = omega (arith, ints, small) in
    record {
      inputs = c.in_ok-add.ensures.inputs ∙ c.loop-p.invariant.inputs;
      so_far = root_more c.args.premises.now c.loop-p.p-index d c.loop-p.bounds.assumptions c.add.new.bounds.assumptions _ c.in_ok-add.ensures.assumptions c.loop-p.invariant.so_far e c.loop-p-test.true;
    }
