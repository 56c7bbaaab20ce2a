use Rattle.std.proofs.Common.{◌≡◌, arith, to_z, of_z, w64, slice_index_or}
use Rattle.std.specs.Prelude.{pos, ◌-ℤ◌}
use Rattle.std.proofs.lemmas.Int.{ints}
use Rattle.case_split.proofs.Implied.{kept_says}
use Rattle.case_split.proofs.assuming.is_kept.Goals as goal

pub returns : goal.returns
returns c =
    let a = c.kept-kept.ensures.small c.args.i c.requires.i in
    let b = c.kept-kept.ensures.small c.args.j c.requires.j in
    let u = to_z w64 (of_z w64 (to_z w64 (slice_index_or c.kept-kept.result.now c.args.i 0) -ℤ to_z w64 (slice_index_or c.kept-kept.result.now c.args.j 0))) in
    let e : u ≡ (pos (slice_index_or c.kept-kept.result.now c.args.i 0) -ℤ pos (slice_index_or c.kept-kept.result.now c.args.j 0)) = omega (arith, ints, a, b) in
    let d : to_z w64 (of_z w64 c.args.w) ≡ c.args.w = omega (arith, ints) in
    kept_says c.args.bounds.now.assumptions c.kept-kept.result.now c.args.i c.args.j c.args.w u (to_z w64 (of_z w64 c.args.w)) c.kept-kept.ensures.meets e d
