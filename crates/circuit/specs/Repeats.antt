-- The gates of a module, and modules in which no gate is built twice.
use Rattle.std.specs.Prelude.{◌≡◌, ℕ, ◌<◌, Bool, true, false, IsTrue, length, slice_get, Some}
use Rattle.circuit.specs.declared.bit.Target.{Target}
use Rattle.circuit.specs.declared.bit.Target.TheVariants as target
use Rattle.circuit.specs.Circuit.{Logic, Wire, Reg, Not, And, Or, Assignment, Register, Circuit}

-- a constant, an input, a wire or a register bit
abbrev pub is_operand : Logic → Bool
is_operand (Not x) = false
is_operand (And x y) = false
is_operand (Or x y) = false
is_operand _ = true

-- the module has `assign t = e;`
pub record IsAssigned (m : Circuit) (t : Target) (e : Logic) : Type 0 where
  pub place : ℕ
  pub assign : Assignment
  pub there : slice_get m.assigns place ≡ Some assign
  pub target_is : assign.target ≡ t
  pub bit_is : assign.bit ≡ e

-- register h has one bit, which takes wire w
pub record TakesWire (m : Circuit) (h w : ℕ) : Type 0 where
  pub register : Register
  pub there : slice_get m.regs h ≡ Some register
  pub one_bit : register.width ≡ 1
  pub next_is : register.next ≡ Wire w

-- wire w is `h | (p & ~q)`, and register h holds it: once p is high while q is low, it stays high
pub record IsLatch (m : Circuit) (w h : ℕ) (p q : Logic) : Type 0 where
  pub assigned : IsAssigned m (target.Wire w) (Or (Reg h 0) (And p (Not q)))
  pub held : TakesWire m h w

pub data Kind : Type 0 where
  OrGate : Kind
  AndGate : Kind
  LatchGate : Kind

-- the assign of wire w is one of this kind on p and q
abbrev pub HasKind : Circuit → ℕ → Kind → Logic → Logic → Type 0
HasKind m w OrGate p q = IsAssigned m (target.Wire w) (Or p q)
HasKind m w AndGate p q = IsAssigned m (target.Wire w) (And p q)
HasKind m w LatchGate p q = (h : ℕ) × IsLatch m w h p q

-- the gate of wire w: its kind and its two operands, in their order
pub record IsGate (m : Circuit) (w : ℕ) (kind : Kind) (p q : Logic) : Type 0 where
  pub left : IsTrue (is_operand p)
  pub right : IsTrue (is_operand q)
  pub kind_is : HasKind m w kind p q

abbrev pub EachWireHasGate : Circuit → Type 0
EachWireHasGate m = (w : ℕ) → w < length m.wires →
    (kind : Kind) × (p : Logic) × (q : Logic) × IsGate m w kind p q

abbrev pub EachOutputIsOperand : Circuit → Type 0
EachOutputIsOperand m = (o : ℕ) (e : Logic) → IsAssigned m (target.Out o) e → IsTrue (is_operand e)

-- no two wires have the same gate
abbrev pub NoGateTwice : Circuit → Type 0
NoGateTwice m = (v w : ℕ) (kind : Kind) (p q : Logic) →
    IsGate m v kind p q → IsGate m w kind p q → v ≡ w

-- register h holds the level of a latch
pub record HoldsLatch (m : Circuit) (h : ℕ) : Type 0 where
  pub wire : ℕ
  pub left_line : Logic
  pub right_line : Logic
  pub left : IsTrue (is_operand left_line)
  pub right : IsTrue (is_operand right_line)
  pub latch : IsLatch m wire h left_line right_line

-- register h holds no latch, and its bit 0 takes this expression
pub record IsDelayRegister (m : Circuit) (h : ℕ) (next : Logic) : Type 0 where
  pub register : Register
  pub there : slice_get m.regs h ≡ Some register
  pub next_is : register.next ≡ next
  pub no_latch : HoldsLatch m h → ⊥

-- no two delay registers take the same expression
abbrev pub NoDelayTwice : Circuit → Type 0
NoDelayTwice m = (h k : ℕ) (next : Logic) → IsDelayRegister m h next → IsDelayRegister m k next → h ≡ k

-- each wire is a gate, each output is a copy of an operand, and no gate and no delay register is there twice
pub record HasNoRepeatedGate (m : Circuit) : Type 0 where
  pub gates : EachWireHasGate m
  pub outputs : EachOutputIsOperand m
  pub wires : NoGateTwice m
  pub delays : NoDelayTwice m
