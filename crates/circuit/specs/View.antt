-- What the code's expressions are as values.
use Rattle.circuit.specs.declared.bit.Bit as source
use Rattle.circuit.specs.declared.bit.Bit.TheVariants as b
use Rattle.circuit.specs.Circuit.{Logic, Zero, One, Input, Wire, Reg, Not, And, Or}

-- the expression without its boxes
abbrev pub logic : source.Bit → Logic
logic b.Zero = Zero
logic b.One = One
logic (b.Input i) = Input i
logic (b.Wire w) = Wire w
logic (b.Reg r k) = Reg r k
logic (b.Not' p x) = Not (logic x)
logic (b.And' p x q y) = And (logic x) (logic y)
logic (b.Or' p x q y) = Or (logic x) (logic y)
