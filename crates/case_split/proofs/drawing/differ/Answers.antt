use Rattle.std.proofs.Common.{slice_index_or}
use Rattle.case_split.proofs.Drawn.{small_is_early}
use Rattle.case_split.proofs.drawing.differ.Goals as goal

pub time-one-requires-clause-early : goal.time-one-requires-clause-early
time-one-requires-clause-early c = λ k d lt. small_is_early (slice_index_or c.args.times.now k d) (c.requires.small k d lt)

pub time-other-requires-clause-early : goal.time-other-requires-clause-early
time-other-requires-clause-early c = λ k d lt. small_is_early (slice_index_or c.args.times.now k d) (c.requires.small k d lt)
