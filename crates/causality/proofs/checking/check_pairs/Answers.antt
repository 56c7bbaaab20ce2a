use Rattle.std.proofs.Common.{◌≡◌, length, take, get_or, sym, ◌∙◌, Some, None, subst}
use Rattle.std.specs.Prelude.{slice_get, ◌==◌}
use Rattle.std.specs.List.{position}
use Rattle.std.proofs.lemmas.List.{get_or_default}
use Rattle.causality.specs.Places.{places_agree}
use Rattle.causality.specs.Faults.{IsRowFault}
use Rattle.causality.proofs.Faulting.{sound_more, pair_is, read_place}
use Rattle.causality.proofs.checking.check_pairs.Goals as goal

pub returns-in-Some-clause-fault : goal.returns-in-Some-clause-fault
returns-in-Some-clause-fault c =
    let rows = c.args.t.now.rows in
    let i = c.in-Some.earlier in
    let j = c.loop-later.later in
    let r = c.index-rows-earlier.result in
    let s = c.index-rows-later.result in
    let here = c.rows-rows.ensures in
    let at : slice_get rows j ≡ Some s = subst (λ rs. slice_get rs j ≡ Some s) here (read_place c.rows-rows.result.now j s c.loop-later-test.true c.index-rows-later.is) in
    let some : position (λ z. places_agree z s) (take j rows) ≡ Some i = subst (λ rs. position (λ z. places_agree z s) (take j rs) ≡ Some i) here (sym c.first_agreeing.ensures ∙ c.in-Some.is) in
    let same : get_or rows i r ≡ r = subst (λ rs. get_or rs i r ≡ r) here (sym c.index-rows-earlier.is) in
    let other : c.index-rows-later-in-Some.result ≡ s = c.index-rows-later-in-Some.is ∙ (get_or_default c.rows-rows.result.now j c.index-rows-later-in-Some.result s c.loop-later-test.true ∙ sym c.index-rows-later.is) in
    let outs : (r.out == s.out) ≡ (c.out.result == c.out-in-Some.result) = cc in
    subst (IsRowFault rows) (sym c.pair_fault.ensures)
    (pair_is (length c.args.t.now.inputs) rows i j r s (c.out.result == c.out-in-Some.result) c.rules.ensures.rows c.requires at c.loop-later.invariant some same outs)

pub loop-later-preserved : goal.loop-later-preserved
loop-later-preserved c =
    let rows = c.args.t.now.rows in
    let j = c.loop-later.later in
    let s = c.index-rows-later.result in
    let here = c.rows-rows.ensures in
    let at : slice_get rows j ≡ Some s = subst (λ rs. slice_get rs j ≡ Some s) here (read_place c.rows-rows.result.now j s c.loop-later-test.true c.index-rows-later.is) in
    let none : position (λ z. places_agree z s) (take j rows) ≡ None = subst (λ rs. position (λ z. places_agree z s) (take j rs) ≡ None) here (sym c.first_agreeing.ensures ∙ c.in_default.is) in
    sound_more rows j s c.requires at c.loop-later.invariant none
