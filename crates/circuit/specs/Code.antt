-- How the logic stores the value of a module: each type as numbers, lists and pairs that give it back.
use Rattle.std.specs.Prelude.{◌≡◌, ℕ, zero, suc, nat_eq, if◌then◌else◌, List, refl}
use Rattle.std.specs.Coded.{Coded, code_by, coded×, coded_ℕ, coded_list}
use base.Stored.{Gv, gnil, gnum, gcons, num}
use denote.Struct.Codes.{itself}
use Rattle.circuit.specs.declared.bit.Target.{Target}
use Rattle.circuit.specs.declared.bit.Target.TheVariants as target
use Rattle.circuit.specs.Circuit.{Logic, Zero, One, Input, Wire, Reg, Not, And, Or, Assignment, Register, Circuit, circuit}

-- a number that distinguishes the constructors, and two parts
abbrev pub node : ℕ → Gv → Gv → Gv
node n a b = gcons (gnum n) (gcons a b)

abbrev pub to_stored : Logic → Gv
to_stored Zero = node 0 gnil gnil
to_stored One = node 1 gnil gnil
to_stored (Input i) = node 2 (gnum i) gnil
to_stored (Wire w) = node 3 (gnum w) gnil
to_stored (Reg r k) = node 4 (gnum r) (gnum k)
to_stored (Not x) = node 5 (to_stored x) gnil
to_stored (And x y) = node 6 (to_stored x) (to_stored y)
to_stored (Or x y) = node 7 (to_stored x) (to_stored y)

-- the expression of a constructor's number, with its parts as numbers and as expressions
abbrev pub made : ℕ → ℕ → ℕ → Logic → Logic → Logic
made n i k x y =
    if nat_eq n 0 then Zero else (if nat_eq n 1 then One else (if nat_eq n 2 then Input i else (if nat_eq n 3 then Wire i
    else (if nat_eq n 4 then Reg i k else (if nat_eq n 5 then Not x else (if nat_eq n 6 then And x y else Or x y))))))

abbrev pub from_stored : Gv → Logic
from_stored (gcons (gnum n) (gcons a b)) = made n (num a) (num b) (from_stored a) (from_stored b)
from_stored _ = Zero

pub from_stored-to_stored : (x : Logic) → from_stored (to_stored x) ≡ x
from_stored-to_stored Zero = refl
from_stored-to_stored One = refl
from_stored-to_stored (Input i) = refl
from_stored-to_stored (Wire w) = refl
from_stored-to_stored (Reg r k) = refl
from_stored-to_stored (Not x) = λ i. Not (from_stored-to_stored x i)
from_stored-to_stored (And x y) = λ i. And (from_stored-to_stored x i) (from_stored-to_stored y i)
from_stored-to_stored (Or x y) = λ i. Or (from_stored-to_stored x i) (from_stored-to_stored y i)

abbrev pub logic_code : Coded Logic
logic_code = code_by Gv itself to_stored from_stored from_stored-to_stored

abbrev pub to_pair : Target → ℕ × ℕ
to_pair (target.Wire w) = (0, w)
to_pair (target.Out o) = (1, o)

abbrev pub from_pair : ℕ × ℕ → Target
from_pair (zero, w) = target.Wire w
from_pair (suc _, o) = target.Out o

pub from_pair-to_pair : (t : Target) → from_pair (to_pair t) ≡ t
from_pair-to_pair (target.Wire w) = refl
from_pair-to_pair (target.Out o) = refl

abbrev pub assignment_code : Coded Assignment
assignment_code =
    code_by ((ℕ × ℕ) × Logic) (coded× (coded× coded_ℕ coded_ℕ) logic_code) (λ a. (to_pair a.target, a.bit))
    (λ p. record { target = from_pair p.0; bit = p.1 })
    (λ a i. record { target = from_pair-to_pair a.target i; bit = a.bit })

abbrev pub register_code : Coded Register
register_code =
    code_by (List ℕ × (ℕ × Logic)) (coded× (coded_list coded_ℕ) (coded× coded_ℕ logic_code)) (λ r. (r.name, (r.width, r.next)))
    (λ p. record { name = p.0; width = p.1.0; next = p.1.1 })
    (λ _. refl)

abbrev pub names_code : Coded (List (List ℕ))
names_code = coded_list (coded_list coded_ℕ)

abbrev pub circuit_code : Coded Circuit
circuit_code =
    code_by (List (List ℕ) × (List (List ℕ) × (List (List ℕ) × (List Register × List Assignment))))
    (coded× names_code (coded× names_code (coded× names_code (coded× (coded_list register_code) (coded_list assignment_code)))))
    (λ m. (m.inputs, (m.outputs, (m.wires, (m.regs, m.assigns)))))
    (λ p. circuit p.0 p.1.0 p.1.1.0 p.1.1.1.0 p.1.1.1.1)
    (λ _. refl)
