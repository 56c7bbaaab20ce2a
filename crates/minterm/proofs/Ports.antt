-- The names of a table are ports.
use Rattle.std.proofs.Common.{[], ◌∷◌, sym, ◌∙◌, arith}
use Rattle.std.specs.List.{list_all}
use Rattle.std.proofs.lemmas.Bool.{and_parts}
use Rattle.std.proofs.lemmas.List.Folds.{list_all-append}
use Rattle.net_model.specs.Rules.{is_port_name}
use Rattle.term_store.specs.Ports.{ArePorts}
use Rattle.func_table.specs.Table.{Table}
use Rattle.func_table.specs.Rules.{IsTable}

pub are_ports : (t : Table) → IsTable t → ArePorts t.inputs (t.output ∷ [])
are_ports t table =
    let names = and_parts (list_all is_port_name t.inputs) (list_all is_port_name (t.output ∷ [])) (sym (list_all-append is_port_name t.inputs (t.output ∷ [])) ∙ table.names) in
    record {
      some_input = table.some_input;
      few_inputs = omega (arith, table.few_inputs);
      some_output = omega arith;
      few_outputs = omega arith;
      input_names = names.0;
      output_names = names.1;
      distinct = table.distinct;
    }
