use Rattle.case_split.specs.Gathered.{AreLeastPlaces}
use Rattle.case_split.proofs.gathering.least_places.Given as goal

abbrev pub invariant-loop-place : goal.invariant-loop-place
invariant-loop-place l = AreLeastPlaces l.inputs l.facts l.place l.cells.items
