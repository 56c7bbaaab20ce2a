use Rattle.marked_steps.proofs.Shifting.{up_on}
use Rattle.marked_steps.proofs.inputs.set_inputs.Goals as goal

pub returns-clause-up_to_date : goal.returns-clause-up_to_date
returns-clause-up_to_date c =
    let i = c.loop-place.invariant in
    up_on c.args.m.now c.args.levels.now c.loop-place.levels c.args.marks.now c.loop-place.marks c.requires.up_to_date i.more i.seen i.regs i.wires i.outs
