use Rattle.net_model.proofs.Naming.{lets_are_over, outputs_are_over}
use Rattle.net_model.proofs.print.print_network.Goals as goal

-- src/print.rt:124:5
pub put_equations-requires : goal.put_equations-requires
put_equations-requires c = lets_are_over c.args.n.now _ _ c.inputs-inputs.ensures c.lets-lets.ensures c.rules.ensures

-- src/print.rt:125:5
pub put_equations-requires-2 : goal.put_equations-requires-2
put_equations-requires-2 c = outputs_are_over c.args.n.now _ _ _ c.inputs-inputs.ensures c.lets-lets.ensures c.outputs.ensures c.rules.ensures
