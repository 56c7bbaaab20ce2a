-- How the logic stores a network's value, so that it can tell two of them apart. No meaning rests on it.
use Rattle.std.specs.Prelude.{◌≡◌, ℕ, List, refl, nat_eq, if◌then◌else◌}
use Rattle.std.specs.Coded.{Coded, code_by, coded×, coded_ℕ, coded_list}
use base.Stored.{Gv, gnil, gnum, gcons, num}
use denote.Struct.Codes.{itself}
use Rattle.net_model.specs.Formula.{Formula, Never, Input, Named, Min, Max, Lt, Inc, Equation, Net}

-- a number that distinguishes the constructors, and two parts
abbrev pub node : ℕ → Gv → Gv → Gv
node n a b = gcons (gnum n) (gcons a b)

abbrev pub to : Formula → Gv
to Never = node 0 gnil gnil
to (Input i) = node 1 (gnum i) gnil
to (Named j) = node 2 (gnum j) gnil
to (Min a b) = node 3 (to a) (to b)
to (Max a b) = node 4 (to a) (to b)
to (Lt a b) = node 5 (to a) (to b)
to (Inc a c) = node 6 (to a) (gnum c)

-- the formula of a number, with its parts as numbers and as formulas
abbrev pub made : ℕ → ℕ → ℕ → Formula → Formula → Formula
made n i c a b =
    if nat_eq n 0 then Never else (if nat_eq n 1 then Input i else (if nat_eq n 2 then Named i else (if nat_eq n 3 then Min a b
    else (if nat_eq n 4 then Max a b else (if nat_eq n 5 then Lt a b else Inc a c)))))

abbrev pub from : Gv → Formula
from (gcons (gnum n) (gcons a b)) = made n (num a) (num b) (from a) (from b)
from _ = Never

pub from-to : (x : Formula) → from (to x) ≡ x
from-to Never = refl
from-to (Input i) = refl
from-to (Named j) = refl
from-to (Min a b) = λ i. Min (from-to a i) (from-to b i)
from-to (Max a b) = λ i. Max (from-to a i) (from-to b i)
from-to (Lt a b) = λ i. Lt (from-to a i) (from-to b i)
from-to (Inc a c) = λ i. Inc (from-to a i) c

abbrev pub formula_code : Coded Formula
formula_code = code_by Gv itself to from from-to

abbrev pub equation_code : Coded Equation
equation_code =
    code_by (List ℕ × Formula) (coded× (coded_list coded_ℕ) formula_code) (λ e. (e.name, e.body)) (λ p. record { name = p.0; body = p.1 }) (λ _. refl)

abbrev pub net_code : Coded Net
net_code =
    code_by (List (List ℕ) × (List Equation × List Equation))
    (coded× (coded_list (coded_list coded_ℕ)) (coded× (coded_list equation_code) (coded_list equation_code)))
    (λ n. (n.inputs, (n.lets, n.outputs)))
    (λ p. record { inputs = p.0; lets = p.1.0; outputs = p.1.1 })
    (λ _. refl)
