use Rattle.std.proofs.Common.{◌≡◌, take}
use Rattle.case_split.specs.Gathered.{facts_in}
use Rattle.case_split.proofs.gathering.gathered.Given as goal

abbrev pub invariant-loop-cell : goal.invariant-loop-cell
invariant-loop-cell l = l.gathered ≡ facts_in l.facts (take l.cell-index l.cell-items)
