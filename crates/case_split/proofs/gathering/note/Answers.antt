use Rattle.std.proofs.Common.{ap, ◌∙◌, to_z, of_z, w32}
use Rattle.std.specs.Prelude.{int_le}
use Rattle.refutation.specs.declared.item.Fact.{Fact}
use Rattle.case_split.proofs.Cells.{noted_first, noted_less}
use Rattle.case_split.proofs.gathering.note.Goals as goal
use Rattle.case_split.proofs.gathering.note.Goals.{in-Some+else-facts-least, in_default}

pub returns : goal.returns
returns c = λ n table are. elim c.match-cells-cell.branch [
  | in-Some+else-facts-least w ↦
      noted_less n c.args.facts.now c.args.place c.args.cells.now table are c.requires.within c.index-facts-place.result c.index-facts-place.is c.from.result c.from-2.result c.from.ensures c.from-2.ensures
      w.in-Some.least w.index-facts-least.result w.in-Some.is w.index-facts-least.is
      (ap (λ (g : Fact). int_le (to_z w32 (of_z w32 g.bound)) (to_z w32 (of_z w32 c.index-facts-place.result.bound))) w.index-facts-least.is ∙ w.if-facts-least.false)
  | in_default w ↦
      noted_first n c.args.facts.now c.args.place c.args.cells.now table are c.requires.within c.index-facts-place.result c.index-facts-place.is c.from.result c.from-2.result c.from.ensures c.from-2.ensures w.in_default.is
]
