use Rattle.levels.proofs.Recording.{HasStarts}
use Rattle.levels.proofs.mentions.first_bits.Given as goal

abbrev pub invariant-loop-reg : goal.invariant-loop-reg
invariant-loop-reg l = HasStarts l.regs l.starts.items l.reg-index l.start
