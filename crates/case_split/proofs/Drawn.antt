-- Times that are drawn are early.
use Rattle.std.proofs.Common.{arith}
use Rattle.rl_time.specs.declared.time.Time.{Time}
use Rattle.rl_time.specs.declared.time.Time.TheVariants.{At, Never}
use Rattle.net_model.specs.Early.{IsAtMost}
use Rattle.case_split.specs.Verdicts.{IsSmallNumber}

pub small_is_early : (t : Time) → IsSmallNumber t → IsAtMost 1000000000000 t
small_is_early (At y) h = omega (arith, h)
small_is_early Never h = absurd h
