use Rattle.std.proofs.Common.{ap, sym, ◌∙◌, length, arith}
use Rattle.std.specs.Prelude.{slice_get}
use Rattle.std.proofs.lemmas.Option.{slice_get-get_or}
use Rattle.levels.proofs.Listed.{more_refl, more_on, first_above_none, first_above_on, all_above_of_first}
use Rattle.levels.proofs.readers.Readers.mark_above.Goals as goal

pub loop-item-init : goal.loop-item-init
loop-item-init c = record { more = more_refl _; first = first_above_none _ _ _; below = λ k le u. u }

pub loop-item-preserved : goal.loop-item-preserved
loop-item-preserved c = record {
  more = more_on _ _ _ c.loop-item.invariant.more c.add_above.ensures.more;
  first = first_above_on _ _ _ _ _ _ c.loop-item.invariant.first c.add_above.ensures.more (
      ap (λ z. slice_get z c.loop-item.item-index) (sym c.at-item-items.ensures)
      ∙ slice_get-get_or c.at-item-items.result.now c.loop-item.item-index 0 (omega (arith, c.loop-item-test.true))) c.add_above.ensures.marked;
  below = λ k le u. c.add_above.ensures.below k le (c.loop-item.invariant.below k le u);
}

pub returns-clause-all : goal.returns-clause-all
returns-clause-all c = all_above_of_first _ _ _ _ c.loop-item.invariant.first (
    let e = ap (λ z. length z) c.at-item-items.ensures in omega (arith, c.loop-item-test.false))
