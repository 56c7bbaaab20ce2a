-- The rules that each statement of a module keeps, with respect to those before it.
use Rattle.std.specs.Prelude.{ℕ, ◌+◌, ◌-◌, ◌*◌, Bool, true, false, not, ◌&&◌, ◌||◌, ◌==◌, nat_lt, nat_le, if◌then◌else◌, List, [], ◌∷◌, ◌++◌, length, map, take, drop, sum_by, Option, Some, None, is_some, slice_get, slice_set, codes, decimal, bytes_eq}
use Rattle.std.specs.List.{list_any, list_all, prefix_len}
use Rattle.circuit.specs.declared.bit.Target.{Target}
use Rattle.circuit.specs.declared.bit.Target.TheVariants as target
use Rattle.verilog_text.specs.declared.rule.Rule.{Rule}
use Rattle.verilog_text.specs.declared.rule.Rule.TheVariants as rule
use Rattle.circuit.specs.Circuit as c
use Rattle.circuit.specs.Circuit.{Logic, Assignment, Register, Circuit, circuit}
use Rattle.circuit.specs.Names.{is_port_name, is_own_name}
use Rattle.circuit.specs.Meaning.{upto}
use Rattle.verilog_text.specs.Grammar.{Expression, Low, High, Name, Bit, Not, Group, And, Or, Next, Whole, Shifted, Form, Header, Input, Output, Wire, Reg, Assign, Always, End}

-- ---- what some statements declare

-- what a declared name means: the clock or the reset; an input, an output, a wire or a register, by its place
pub data Meaning : Type 0 where
  ClockOrReset : Meaning
  InputAt : ℕ → Meaning
  OutputAt : ℕ → Meaning
  WireAt : ℕ → Meaning
  RegAt : ℕ → Meaning

-- a declared name
pub record Entry : Type 0 where
  pub name : List ℕ
  pub meaning : Meaning

-- a declared register; `next` is what bit 0 takes, once an always statement says so
pub record Declared : Type 0 where
  pub name : List ℕ
  pub width : ℕ
  pub next : Option Logic

-- What some statements are: the ports of the list that are still to be declared, every declared name, and the parts of
-- the module. Inputs and outputs are named without their prefixes.
pub record SoFar : Type 0 where
  pub to_declare : List (List ℕ)
  pub entries : List Entry
  pub inputs : List (List ℕ)
  pub outputs : List (List ℕ)
  pub wires : List (List ℕ)
  pub regs : List Declared
  pub assigns : List Assignment

abbrev pub nothing_yet : SoFar
nothing_yet = record { to_declare = []; entries = []; inputs = []; outputs = []; wires = []; regs = []; assigns = [] }

-- what a name means
abbrev pub found : List ℕ → List Entry → Option Meaning
found n [] = None
found n (e ∷ entries) = if bytes_eq n e.name then Some e.meaning else found n entries

-- the bits of all registers together
abbrev pub bits_of : List Declared → ℕ
bits_of regs = sum_by (λ r. r.width) regs

-- the number that these digits write
abbrev pub number_from : ℕ → List ℕ → ℕ
number_from n [] = n
number_from n (d ∷ digits) = number_from (n * 10 + (d - 48)) digits

abbrev pub number_of : List ℕ → ℕ
number_of digits = number_from 0 digits

-- ---- ports

abbrev pub is_clock_or_reset : List ℕ → Bool
is_clock_or_reset n = bytes_eq n (codes "clk") || bytes_eq n (codes "rst")

-- `in_` and the name of a port
abbrev pub is_input_port : List ℕ → Bool
is_input_port n = bytes_eq (take 3 n) (codes "in_") && is_port_name (drop 3 n)

-- `out_` and the name of a port
abbrev pub is_output_port : List ℕ → Bool
is_output_port n = bytes_eq (take 4 n) (codes "out_") && is_port_name (drop 4 n)

-- how many inputs these ports begin with
abbrev pub inputs_in : List (List ℕ) → ℕ
inputs_in ports = prefix_len is_input_port ports

-- the ports after the clock and the reset are inputs and then outputs
abbrev pub are_ports : List (List ℕ) → Bool
are_ports (clk ∷ rst ∷ ports) =
    bytes_eq clk (codes "clk") && bytes_eq rst (codes "rst") && list_all is_output_port (drop (inputs_in ports) ports)
are_ports _ = false

-- a number of ports of one direction that a module may have
abbrev pub is_few : ℕ → Bool
is_few n = nat_le 1 n && nat_le n 64

-- that many of the ports after the clock and the reset are inputs, and so many are the others
abbrev pub are_few : List (List ℕ) → Bool
are_few ports = is_few (inputs_in (drop 2 ports)) && is_few (length (drop 2 ports) - inputs_in (drop 2 ports))

-- the name is the first of these
abbrev pub is_next : List ℕ → List (List ℕ) → Bool
is_next n [] = false
is_next n (m ∷ names) = bytes_eq n m

-- ---- what a statement adds

abbrev pub with_entry : List ℕ → Meaning → SoFar → SoFar
with_entry n meaning x = record x { entries = x.entries ++ record { name = n; meaning = meaning } ∷ [] }

-- with a port declared; the port is the first of those to declare
abbrev pub with_input : List ℕ → SoFar → SoFar
with_input n x =
    if is_clock_or_reset n then with_entry n ClockOrReset (record x { to_declare = drop 1 x.to_declare })
    else with_entry n (InputAt (length x.inputs)) (record x { to_declare = drop 1 x.to_declare; inputs = x.inputs ++ drop 3 n ∷ [] })

abbrev pub with_output : List ℕ → SoFar → SoFar
with_output n x =
    with_entry n (OutputAt (length x.outputs)) (record x { to_declare = drop 1 x.to_declare; outputs = x.outputs ++ drop 4 n ∷ [] })

abbrev pub with_wire : List ℕ → SoFar → SoFar
with_wire n x = with_entry n (WireAt (length x.wires)) (record x { wires = x.wires ++ n ∷ [] })

abbrev pub with_reg : List ℕ → ℕ → SoFar → SoFar
with_reg n width x =
    with_entry n (RegAt (length x.regs)) (record x { regs = x.regs ++ record { name = n; width = width; next = None } ∷ [] })

-- how many bits a register has, by the last bit of its range
abbrev pub width_of : Option (List ℕ) → ℕ
width_of None = 1
width_of (Some m) = number_of m + 1

-- what a name is in an expression
abbrev pub operand : Option Meaning → Logic
operand (Some (InputAt i)) = c.Input i
operand (Some (WireAt w)) = c.Wire w
operand (Some (RegAt r)) = c.Reg r 0
operand _ = c.Zero

abbrev pub bit_operand : Option Meaning → ℕ → Logic
bit_operand (Some (RegAt r)) k = c.Reg r k
bit_operand _ k = c.Zero

-- the expression that a written one is
abbrev pub resolved : List Entry → Expression → Logic
resolved entries Low = c.Zero
resolved entries High = c.One
resolved entries (Name t) = operand (found t entries)
resolved entries (Bit t k) = bit_operand (found t entries) (number_of k)
resolved entries (Not a) = c.Not (resolved entries a)
resolved entries (Group a) = resolved entries a
resolved entries (And a b) = c.And (resolved entries a) (resolved entries b)
resolved entries (Or a b) = c.Or (resolved entries a) (resolved entries b)

-- what bit 0 takes
abbrev pub resolved_next : List Entry → Next → Logic
resolved_next entries (Whole e) = resolved entries e
resolved_next entries (Shifted r k e) = resolved entries e

abbrev pub target_of : Option Meaning → Option Target
target_of (Some (WireAt w)) = Some (target.Wire w)
target_of (Some (OutputAt o)) = Some (target.Out o)
target_of _ = None

abbrev pub with_assign : Option Target → Logic → SoFar → SoFar
with_assign None bit x = x
with_assign (Some t) bit x = record x { assigns = x.assigns ++ record { target = t; bit = bit } ∷ [] }

-- these registers, where the one at this place takes this
abbrev pub set_next : ℕ → Option Declared → Logic → List Declared → List Declared
set_next k None bit regs = regs
set_next k (Some r) bit regs = slice_set regs k (record r { next = Some bit })

abbrev pub with_next : Option Meaning → Logic → SoFar → SoFar
with_next (Some (RegAt k)) bit x = record x { regs = set_next k (slice_get x.regs k) bit x.regs }
with_next _ bit x = x

-- what the statements are with one more, which breaks no rule
abbrev pub after : SoFar → Form → SoFar
after x (Header n ports) = record nothing_yet { to_declare = ports }
after x (Input n) = with_input n x
after x (Output n) = with_output n x
after x (Wire n) = with_wire n x
after x (Reg m n) = with_reg n (width_of m) x
after x (Assign n e) = with_assign (target_of (found n x.entries)) (resolved x.entries e) x
after x (Always r z s e) = with_next (found r x.entries) (resolved_next x.entries e) x
after x End = x

-- ---- the rule Name

-- a declared name has more than 40 bytes; or it is declared already
abbrev pub is_misnamed : SoFar → List ℕ → Bool
is_misnamed x n = nat_lt 40 (length n) || is_some (found n x.entries)

-- a port is not the next of the list, or is after a wire or a register
abbrev pub is_misplaced : SoFar → List ℕ → Bool
is_misplaced x n = not (is_next n x.to_declare) || nat_lt 0 (length x.wires) || nat_lt 0 (length x.regs)

-- an input's declaration breaks the rule
abbrev pub input_misnamed : SoFar → List ℕ → Bool
input_misnamed x n = is_misnamed x n || is_misplaced x n || not (is_clock_or_reset n || is_input_port n)

abbrev pub output_misnamed : SoFar → List ℕ → Bool
output_misnamed x n = is_misnamed x n || is_misplaced x n || not (is_output_port n)

-- a wire's or a register's name is none that it may have, is declared already, or is one of the list
abbrev pub own_misnamed : SoFar → List ℕ → Bool
own_misnamed x n = is_misnamed x n || not (is_own_name n) || list_any (bytes_eq n) x.to_declare

abbrev pub is_reg : Option Meaning → Bool
is_reg (Some (RegAt r)) = true
is_reg _ = false

-- an input, a wire or a register
abbrev pub is_operand : Option Meaning → Bool
is_operand (Some (InputAt i)) = true
is_operand (Some (WireAt w)) = true
is_operand (Some (RegAt r)) = true
is_operand _ = false

-- each name of the expression is declared, and of the kind that is wanted there
abbrev pub knows : List Entry → Expression → Bool
knows entries Low = true
knows entries High = true
knows entries (Name t) = is_operand (found t entries)
knows entries (Bit t k) = is_reg (found t entries)
knows entries (Not a) = knows entries a
knows entries (Group a) = knows entries a
knows entries (And a b) = knows entries a && knows entries b
knows entries (Or a b) = knows entries a && knows entries b

abbrev pub knows_next : List Entry → Next → Bool
knows_next entries (Whole e) = knows entries e
knows_next entries (Shifted r k e) = is_reg (found r entries) && knows entries e

abbrev pub breaks_name : SoFar → Form → Bool
breaks_name x (Header n ports) = not (bytes_eq n (codes "race")) || not (are_ports ports)
breaks_name x (Input n) = input_misnamed x n
breaks_name x (Output n) = output_misnamed x n
breaks_name x (Wire n) = own_misnamed x n
breaks_name x (Reg m n) = own_misnamed x n
breaks_name x (Assign n e) = not (is_some (target_of (found n x.entries))) || not (knows x.entries e)
breaks_name x (Always r z s e) =
    not (is_reg (found r x.entries)) || not (is_reg (found s x.entries)) || not (knows_next x.entries e)
breaks_name x End = false

-- ---- the rule Order

abbrev pub same_target : Target → Target → Bool
same_target (target.Wire v) (target.Wire w) = v == w
same_target (target.Out o) (target.Out p) = o == p
same_target _ _ = false

-- an assign gives this
abbrev pub is_given : List Assignment → Target → Bool
is_given assigns t = list_any (λ a. same_target t a.target) assigns

abbrev pub is_given_wire : List Assignment → Option Meaning → Bool
is_given_wire assigns (Some (WireAt w)) = is_given assigns (target.Wire w)
is_given_wire assigns _ = true

-- each wire that the expression names is given by an assign
abbrev pub are_given : SoFar → Expression → Bool
are_given x Low = true
are_given x High = true
are_given x (Name t) = is_given_wire x.assigns (found t x.entries)
are_given x (Bit t k) = true
are_given x (Not a) = are_given x a
are_given x (Group a) = are_given x a
are_given x (And a b) = are_given x a && are_given x b
are_given x (Or a b) = are_given x a && are_given x b

abbrev pub is_assigned : List Assignment → Option Target → Bool
is_assigned assigns None = false
is_assigned assigns (Some t) = is_given assigns t

-- the register at a place
abbrev pub reg_of : List Declared → Option Meaning → Option Declared
reg_of regs (Some (RegAt r)) = slice_get regs r
reg_of regs _ = None

abbrev pub has_next : Option Declared → Bool
has_next None = false
has_next (Some r) = is_some r.next

-- a port has no declaration, a wire or an output no assign, or a register no always statement
abbrev pub is_unfinished : SoFar → Bool
is_unfinished x =
    nat_lt 0 (length x.to_declare) || not (list_all (λ w. is_given x.assigns (target.Wire w)) (upto 0 (length x.wires)))
    || not (list_all (λ o. is_given x.assigns (target.Out o)) (upto 0 (length x.outputs)))
    || not (list_all (λ r. is_some r.next) x.regs)

abbrev pub breaks_order : SoFar → Form → Bool
breaks_order x (Assign n e) = not (are_given x e) || is_assigned x.assigns (target_of (found n x.entries))
breaks_order x (Always r z s e) = has_next (reg_of x.regs (found r x.entries))
breaks_order x End = is_unfinished x
breaks_order x _ = false

-- ---- the rule Width

-- a register is named without a bit where it has one bit
abbrev pub is_one_bit : Option Declared → Bool
is_one_bit None = true
is_one_bit (Some r) = r.width == 1

-- a register is named with a bit where it has a range, and this bit
abbrev pub has_bit : ℕ → Option Declared → Bool
has_bit k None = true
has_bit k (Some r) = nat_lt 1 r.width && nat_lt k r.width

-- each register that the expression names is named as its width asks
abbrev pub fits_widths : SoFar → Expression → Bool
fits_widths x Low = true
fits_widths x High = true
fits_widths x (Name t) = is_one_bit (reg_of x.regs (found t x.entries))
fits_widths x (Bit t k) = has_bit (number_of k) (reg_of x.regs (found t x.entries))
fits_widths x (Not a) = fits_widths x a
fits_widths x (Group a) = fits_widths x a
fits_widths x (And a b) = fits_widths x a && fits_widths x b
fits_widths x (Or a b) = fits_widths x a && fits_widths x b

-- the expression that is written in what a register takes
abbrev pub expression_of : Next → Expression
expression_of (Whole e) = e
expression_of (Shifted r k e) = e

-- all of a register of one bit; and for one named n of more bits `{n[k:0], e}`, where k is the last bit but one
abbrev pub has_form : List ℕ → ℕ → Next → Bool
has_form n width (Whole e) = width == 1
has_form n width (Shifted r k e) = nat_lt 1 width && bytes_eq r n && bytes_eq k (decimal (width - 2))

-- `W'b0` for the width W
abbrev pub zero_bits : ℕ → List ℕ
zero_bits width = decimal width ++ codes "'b0"

abbrev pub is_update : Option Declared → List ℕ → List ℕ → Next → Bool
is_update None z s e = true
is_update (Some r) z s e = bytes_eq s r.name && bytes_eq z (zero_bits r.width) && has_form r.name r.width e

abbrev pub breaks_width : SoFar → Form → Bool
breaks_width x (Reg (Some m) n) = number_of m == 0
breaks_width x (Assign n e) = not (fits_widths x e)
breaks_width x (Always r z s e) =
    not (fits_widths x (expression_of e)) || not (is_update (reg_of x.regs (found r x.entries)) z s e)
breaks_width x _ = false

-- ---- the rule Limit

abbrev pub breaks_limit : SoFar → Form → Bool
breaks_limit x (Header n ports) = not (are_few ports)
breaks_limit x (Wire n) = nat_lt 65536 (length x.wires + 1)
breaks_limit x (Reg m n) = nat_lt 65536 (bits_of x.regs + width_of m)
breaks_limit x _ = false

-- ---- all rules

-- of the rules in their order, the first that is broken
abbrev pub first_of : Bool → Bool → Bool → Bool → Option Rule
first_of name order width limit =
    if name then Some rule.Name else (if order then Some rule.Order else (if width then Some rule.Width
    else (if limit then Some rule.Limit else None)))

-- the first rule that a statement breaks after these
abbrev pub first_rule : SoFar → Form → Option Rule
first_rule x f = first_of (breaks_name x f) (breaks_order x f) (breaks_width x f) (breaks_limit x f)

-- ---- the module

abbrev pub next_of : Option Logic → Logic
next_of None = c.Zero
next_of (Some bit) = bit

abbrev pub register_of : Declared → Register
register_of r = record { name = r.name; width = r.width; next = next_of r.next }

-- the module that these statements are
abbrev pub module_of : SoFar → Circuit
module_of x = circuit x.inputs x.outputs x.wires (map register_of x.regs) x.assigns
