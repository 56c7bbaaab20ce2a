-- An expression as its first part and those that are joined to it.
use Rattle.std.specs.Prelude.{◌≡◌, ◌<◌, ℕ, suc, ◌+◌, Bool, true, false, List, [], ◌∷◌, All}
use Rattle.verilog_text.specs.Grammar.{Expression, Low, High, Name, Bit, Not, Group, And, Or}
use Rattle.verilog_syntax.specs.View.{expression}
use Rattle.verilog_read.specs.declared.joint.Joint as source
use Rattle.verilog_read.specs.declared.joint.Halves.{Halves}
use Rattle.verilog_read.specs.declared.joint.Halves.TheVariants as halves

abbrev pub is_joined : Expression → Bool
is_joined (And a b) = true
is_joined (Or a b) = true
is_joined _ = false

abbrev pub join : Bool → Expression → Expression → Expression
join true a b = And a b
join false a b = Or a b

-- the expression that begins with this part; the last part that is joined to it is the first of the list
abbrev pub joined : Expression → List source.Joint → Expression
joined e [] = e
joined e (j ∷ js) = join j.is_and (joined e js) (expression j.part)

-- how many signs and words an expression has
abbrev pub size : Expression → ℕ
size Low = 1
size High = 1
size (Name t) = 1
size (Bit t k) = 1
size (Not a) = suc (size a)
size (Group a) = suc (size a)
size (And a b) = suc (size a + size b)
size (Or a b) = suc (size a + size b)

-- these are the expression, taken apart at its last sign outside of groups
abbrev pub IsTakenApart : Expression → Halves → Type 0
IsTakenApart e (halves.Single s) = (expression s ≡ e) × (is_joined e ≡ false)
IsTakenApart e (halves.Joined a j) = e ≡ join j.is_and (expression a) (expression j.part)

-- these parts, joined to the first, are the whole; and each is smaller
pub record IsSpine (whole first : Expression) (js : List source.Joint) : Type 0 where
  pub same : joined first js ≡ whole
  pub smaller : All (λ j. size (expression j.part) < size whole) js
