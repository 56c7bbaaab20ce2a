use Rattle.std.proofs.Common.{◌≡◌, ◌∙◌, ap, sym, length}
use Rattle.std.specs.List.{range_with_len}
use Rattle.std.proofs.lemmas.List.{length-map}
use Rattle.std.proofs.lemmas.List.FromFn.{length-range_with_len}
use Rattle.levels.specs.Digits.{output_digits}
use Rattle.rl_flow.proofs.sim.lines_of.Goals as goal

pub level_lines-requires : goal.level_lines-requires
level_lines-requires c =
    let count = length c.args.m.now.outputs in
    let rows : length c.in_ok-rows.rows.items ≡ count =
    sym (length-map c.in_ok-rows.rows.items (λ row. row.items)) ∙ (ap length c.in_ok-rows.ensures.2 ∙ (length-map (range_with_len 0 count) (output_digits c.in_ok-rows.ensures.0) ∙ length-range_with_len 0 count)) in
    ap length c.deref.ensures.value ∙ (rows ∙ sym (ap length c.outputs.ensures))
