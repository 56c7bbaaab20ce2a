use Rattle.std.proofs.Common.{◌≡◌, ◌+◌, ◌^◌, ◌≤◌, length, arith, rules, sym, ap, ◌∙◌, subst}
use Rattle.std.specs.Prelude.{All, slice_index_or, List, []}
use Rattle.net_model.specs.Rules.{names_of}
use Rattle.func_table.specs.Table.{Row, Table, table}
use Rattle.func_table.specs.Rules.{IsTable}
use Rattle.func_table.specs.Function.{table_function}
use Rattle.func_table.specs.Sound.{AreSound}
use Rattle.spike_eval.specs.Outputs.{output_function}
use Rattle.causality.specs.Window.{window_lists, window_rows}
use Rattle.causality.proofs.Tabled.{cause_of, in_reach, the_rows, is_table, sound, values}
use Rattle.causality.proofs.tabulation.tabulate.Goals as goal

pub returns-in_err-rows-clause-cause : goal.returns-in_err-rows-clause-cause
returns-in_err-rows-clause-cause c =
    let n = length c.args.n.now.inputs in
    let few : (c.args.window + 2) ^ n ≤ 65536 = subst (λ k. (c.args.window + 2) ^ k ≤ 65536) (ap length c.inputs-inputs.ensures) (c.is_too_wide.ensures.narrow c.if-is_too_wide.false) in
    let cause = cause_of (output_function c.args.n.now c.args.out) c.args.window n c.in_err-rows.field-0.0 few c.in_err-rows.ensures.late in
    search rules

pub returns-then-len-gt256-clause-cause : goal.returns-then-len-gt256-clause-cause
returns-then-len-gt256-clause-cause c =
    let f = output_function c.args.n.now c.args.out in
    let n = length c.args.n.now.inputs in
    let few : (c.args.window + 2) ^ n ≤ 65536 = subst (λ k. (c.args.window + 2) ^ k ≤ 65536) (ap length c.inputs-inputs.ensures) (c.is_too_wide.ensures.narrow c.if-is_too_wide.false) in
    let causal = c.outputs_are_causal.ensures c.args.n.now c.args.out in
    let rows = the_rows f causal c.args.window n c.in_ok-rows.rows.items c.in_ok-rows.ensures.rows in
    let many = c.if-len-gt256.true in
    let len = c.len.ensures in
    (in_reach f causal c.args.window n c.in_ok-rows.rows.items few c.in_ok-rows.ensures.rows, omega (arith, many, len, c.in_ok-rows.rows.ok.0, ap length rows))

pub named-requires-clause-table : goal.named-requires-clause-table
named-requires-clause-table c =
    let f = output_function c.args.n.now c.args.out in
    let n = length c.args.n.now.inputs in
    let few : (c.args.window + 2) ^ n ≤ 65536 = subst (λ k. (c.args.window + 2) ^ k ≤ 65536) (ap length c.inputs-inputs.ensures) (c.is_too_wide.ensures.narrow c.if-is_too_wide.false) in
    let causal = c.outputs_are_causal.ensures c.args.n.now c.args.out in
    let rows = the_rows f causal c.args.window n c.in_ok-rows.rows.items c.in_ok-rows.ensures.rows in
    let reach = in_reach f causal c.args.window n c.in_ok-rows.rows.items few c.in_ok-rows.ensures.rows in
    let most = c.if-len-gt256.false in
    let len = c.len.ensures in
    let short : length (window_rows f c.args.window n) ≤ 256 = omega (arith, most, len, c.in_ok-rows.rows.ok.0, ap length rows) in
    subst (λ (rs : List Row). IsTable (table c.args.n.now.inputs (slice_index_or (names_of c.args.n.now.outputs) c.args.out []) rs)) (sym rows)
    (is_table c.args.n.now f causal c.args.window c.args.out c.rules.ensures c.requires.output reach short)

pub returns-clause-rows : goal.returns-clause-rows
returns-clause-rows c =
    let f = output_function c.args.n.now c.args.out in
    let causal = c.outputs_are_causal.ensures c.args.n.now c.args.out in
    ap (λ (t : Table). t.rows) c.in_ok-named.ensures ∙ the_rows f causal c.args.window (length c.args.n.now.inputs) c.in_ok-rows.rows.items c.in_ok-rows.ensures.rows

pub returns-clause-reach : goal.returns-clause-reach
returns-clause-reach c =
    let f = output_function c.args.n.now c.args.out in
    let n = length c.args.n.now.inputs in
    let few : (c.args.window + 2) ^ n ≤ 65536 = subst (λ k. (c.args.window + 2) ^ k ≤ 65536) (ap length c.inputs-inputs.ensures) (c.is_too_wide.ensures.narrow c.if-is_too_wide.false) in
    let causal = c.outputs_are_causal.ensures c.args.n.now c.args.out in
    in_reach f causal c.args.window n c.in_ok-rows.rows.items few c.in_ok-rows.ensures.rows

pub returns-clause-sound : goal.returns-clause-sound
returns-clause-sound c =
    let f = output_function c.args.n.now c.args.out in
    let causal = c.outputs_are_causal.ensures c.args.n.now c.args.out in
    let rows = ap (λ (t : Table). t.rows) c.in_ok-named.ensures ∙ the_rows f causal c.args.window (length c.args.n.now.inputs) c.in_ok-rows.rows.items c.in_ok-rows.ensures.rows in
    subst AreSound (sym rows) (sound f causal c.args.window (length c.args.n.now.inputs))

pub returns-clause-values : goal.returns-clause-values
returns-clause-values c =
    let f = output_function c.args.n.now c.args.out in
    let n = length c.args.n.now.inputs in
    let causal = c.outputs_are_causal.ensures c.args.n.now c.args.out in
    let rows = ap (λ (t : Table). t.rows) c.in_ok-named.ensures ∙ the_rows f causal c.args.window n c.in_ok-rows.rows.items c.in_ok-rows.ensures.rows in
    subst (λ (rs : List Row). All (λ v. table_function rs v ≡ f v) (window_lists c.args.window n)) (sym rows) (values f causal c.args.window n c.the_matching_row_decides.ensures)
