use Rattle.std.proofs.Common.{◌≡◌, sym, ◌∙◌, subst, arith, List, [], ℕ}
use Rattle.std.specs.Prelude.{slice_index_or}
use Rattle.net_model.specs.Rules.{names_of}
use Rattle.func_table.specs.Table.{table}
use Rattle.func_table.specs.Rules.{IsTable}
use Rattle.causality.proofs.Tabled.{name_there}
use Rattle.causality.proofs.tabulation.named.Goals as goal

pub new-requires : goal.new-requires
new-requires c =
    let inputs : c.in_ok-inputs.inputs.items ≡ c.args.n.now.inputs = c.in_ok-inputs.ensures ∙ c.inputs.ensures in
    let there : c.index-outputs-out.result.name ≡ slice_index_or (names_of c.args.n.now.outputs) c.args.out [] = name_there c.outputs.result.now c.args.n.now.outputs c.args.out c.index-outputs-out.result c.outputs.ensures c.index-outputs-out.is (omega arith) in
    let output : c.in_ok-output.output ≡ slice_index_or (names_of c.args.n.now.outputs) c.args.out [] = c.in_ok-output.ensures ∙ (c.name.ensures ∙ there) in
    subst (λ (o : List ℕ). IsTable (table c.in_ok-inputs.inputs.items o c.args.rows.items)) (sym output)
    (subst (λ (is : List (List ℕ)). IsTable (table is (slice_index_or (names_of c.args.n.now.outputs) c.args.out []) c.args.rows.items)) (sym inputs) c.requires.table)
