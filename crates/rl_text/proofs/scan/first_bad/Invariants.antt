use Rattle.std.proofs.Common.{◌≡◌, drop}
use Rattle.rl_text.specs.declared.place.Place.TheVariants as place
use Rattle.rl_text.proofs.Scanned.{bad_from, further}
use Rattle.rl_text.proofs.scan.first_bad.Given as goal

abbrev pub invariant-loop-at : goal.invariant-loop-at
invariant-loop-at l = bad_from place.Between l.text ≡ further l.at (bad_from l.place (drop l.at l.text))
