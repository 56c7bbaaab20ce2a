-- How the logic stores an output of a network. No meaning rests on it.
use Rattle.std.specs.Prelude.{ℕ, refl}
use Rattle.std.specs.Coded.{Coded, code_by, coded×, coded_ℕ}
use Rattle.net_model.specs.Formula.{Net}
use Rattle.net_model.specs.Code.{net_code}
use Rattle.tree_check.specs.Needed.{Asked}

abbrev pub asked_code : Coded Asked
asked_code = code_by (Net × ℕ) (coded× net_code coded_ℕ) (λ o. (o.network, o.place)) (λ p. record { network = p.0; place = p.1 }) (λ _. refl)
