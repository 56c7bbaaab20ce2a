use Rattle.std.proofs.Common.{slice_index, sym, ◌∙◌}
use Rattle.rl_text.proofs.Scanned.{found_bad, found_none}
use Rattle.rl_text.proofs.scan.first_bad.Goals as goal

pub returns-in-None : goal.returns-in-None
returns-in-None c =
    record { bad = found_bad c.args.text.now c.loop-at.place c.loop-at.at (slice_index c.args.text.now c.loop-at.at) c.loop-at-test.true (λ i. slice_index c.args.text.now c.loop-at.at) (sym c.next_place.ensures ∙ c.in-None.is) c.loop-at.invariant }

pub returns : goal.returns
returns c = record { bad = found_none c.args.text.now c.loop-at.place c.loop-at.at c.loop-at-test.false c.loop-at.invariant }
