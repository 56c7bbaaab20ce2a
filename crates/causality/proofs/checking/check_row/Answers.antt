use Rattle.std.proofs.Common.{◌≡◌, true, None, Some, refl, add-one}
use Rattle.std.specs.List.{list_any, position}
use Rattle.func_table.specs.Sound.{is_zero}
use Rattle.causality.specs.Places.{is_greater}
use Rattle.causality.proofs.Faulting.{acausal, in_order}
use Rattle.causality.proofs.checking.check_row.Goals as goal

pub returns-in-Some-clause-fault : goal.returns-in-Some-clause-fault
returns-in-Some-clause-fault c =
    let r = c.args.row.now in
    let z : list_any is_zero r.entries ≡ true = cc in
    let e : position (is_greater r.out) r.entries ≡ Some c.in-Some.place = cc in
    rw (add-one c.in-Some.place) ((refl, acausal r c.in-Some.place z e))

pub returns-in-None-clause-in_order : goal.returns-in-None-clause-in_order
returns-in-None-clause-in_order c =
    let r = c.args.row.now in
    let z : list_any is_zero r.entries ≡ true = cc in
    let e : position (is_greater r.out) r.entries ≡ None = cc in
    in_order r z e
