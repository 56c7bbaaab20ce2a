use Rattle.std.proofs.Common.{arith}
use Rattle.levels.proofs.Counting.{few_assigns, few_regs}
use Rattle.levels.proofs.laws.few_items.Goals as goal

pub returns : goal.returns
returns c =
    let m = c.args.m.now in
    let r = c.rules.ensures in
    omega (arith, few_assigns m r.ordered, few_regs m.regs r.widths, r.few_wires, r.few_outputs, r.few_bits)
