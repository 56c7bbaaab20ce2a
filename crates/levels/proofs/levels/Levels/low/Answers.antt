use Rattle.std.proofs.lemmas.List.{length-replicate}
use Rattle.levels.proofs.Edges.{widths_at_start}
use Rattle.levels.proofs.levels.Levels.low.Goals as goal

pub returns-clause-all : goal.returns-clause-all
returns-clause-all c = record {
  inputs = rw (c.in_ok-all_low.ensures, length-replicate, c.inputs.ensures);
  regs = rw (c.in_ok-low_rows.ensures, c.regs.ensures) (widths_at_start c.args.m.now.regs);
  rest = record {
    wires = rw (c.in_ok-all_low-2.ensures, length-replicate, c.wires.ensures);
    outs = rw (c.in_ok-all_low-3.ensures, length-replicate, c.outputs.ensures);
  };
}
