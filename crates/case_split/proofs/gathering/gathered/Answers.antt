use Rattle.std.proofs.Common.{◌<◌, ◌++◌, ◌∷◌, [], length, get_or, None, sym, ap, ◌∙◌}
use Rattle.case_split.proofs.Cells.{some_gathered, none_gathered, all_gathered}
use Rattle.case_split.proofs.gathering.gathered.Goals as goal
use Rattle.case_split.proofs.gathering.gathered.Goals.{in-Some+in_ok-copied+in_ok-push, in_default}

pub loop-cell-preserved : goal.loop-cell-preserved
loop-cell-preserved c = elim c.match-cell.branch [
  | in-Some+in_ok-copied+in_ok-push w ↦
      let within : w.in-Some.place < length c.args.facts.now =
      c.in_ok-places.ensures.before c.loop-cell.cell-index w.in-Some.place (ap (λ cells. get_or cells c.loop-cell.cell-index None) (sym c.deref-cell-items.ensures.value) ∙ w.in-Some.is) in
      w.gathered-is ∙ (w.in_ok-push.ensures
      ∙ (ap (λ f. c.loop-cell.gathered ++ f ∷ []) w.in_ok-copied.ensures
      ∙ some_gathered c.args.facts.now c.deref-cell-items.result.now c.loop-cell.cell-index w.in-Some.place w.index-facts-place.result c.loop-cell.gathered c.loop-cell-test.true w.in-Some.is within w.index-facts-place.is c.loop-cell.invariant))
  | in_default w ↦ w.gathered-is ∙ none_gathered c.args.facts.now c.deref-cell-items.result.now c.loop-cell.cell-index c.loop-cell.gathered c.loop-cell-test.true w.in_default.is c.loop-cell.invariant
]

pub returns : goal.returns
returns c =
    all_gathered c.args.inputs c.args.facts.now c.requires.few_inputs c.requires.facts c.in_ok-places.places.items c.in_ok-places.ensures c.deref-cell-items.result.now c.loop-cell.cell-index c.loop-cell.gathered
    c.deref-cell-items.ensures.value c.loop-cell-test.false c.loop-cell.invariant
