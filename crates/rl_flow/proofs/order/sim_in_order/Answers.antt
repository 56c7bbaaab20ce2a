use Rattle.std.proofs.Common.{◌≡◌, length, refl}
use Rattle.circuit.specs.Meaning.{levels_from}
use Rattle.levels.specs.Digits.{output_rows}
use Rattle.rl_flow.specs.Levels.{level_lines}
use Rattle.rl_flow.proofs.order.sim_in_order.Goals as goal

pub returns-clause-text : goal.returns-clause-text
returns-clause-text c =
    let m = c.in_ok-m.m in
    let e = c.in_ok-order_lines_of.ensures in
    record {
      lines = level_lines m.outputs (output_rows (length m.outputs) e.0);
      levels = record {
        circuit = m;
        read = c.in_ok-m.ensures.circuit;
        one_for_each_input = c.in_ok-m.ensures.inputs;
        states = e.0;
        history = e.2;
        no_other = c.one_history.ensures m (levels_from c.args.times.now 0 c.args.cycles) c.rules.ensures.ordered;
        written = refl;
      };
      activations = e.1;
      run = e.3;
      written = e.4;
    }
