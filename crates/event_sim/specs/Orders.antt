-- The numbered orders in which the assigns of a module are activated.
use Rattle.std.specs.Prelude.{ℕ, zero, suc, ◌-◌, ◌%◌, List, ◌++◌, reverse}
use Rattle.circuit.specs.Meaning.{upto}

-- where an order begins, of so many assigns: order N from 2 on at N mod that number
abbrev pub begins : ℕ → ℕ → ℕ
begins count zero = 0
begins count (suc zero) = 0
begins count (suc (suc n)) = suc (suc n) % count

-- all numbers below the count, from one on to the last, and then from 0 on
abbrev pub from_on : ℕ → ℕ → List ℕ
from_on count begin = upto begin (count - begin) ++ upto 0 begin

-- Order 0 is that of the module. Order 1 is it reversed. Order N, from 2 on, begins at assign N mod the number of assigns, goes on to
-- the last one, and then from the first one to where it began.
abbrev pub numbered_order : ℕ → ℕ → List ℕ
numbered_order count zero = upto 0 count
numbered_order count (suc zero) = reverse (upto 0 count)
numbered_order count (suc (suc n)) = from_on count (begins count (suc (suc n)))
