-- The statements that a printed module consists of.
use Rattle.std.specs.Prelude.{ℕ, ◌-◌, ◌==◌, Bool, true, false, if◌then◌else◌, List, [], ◌∷◌, ◌++◌, map, Option, Some, None, slice_get, codes, decimal}
use Rattle.circuit.specs.Circuit as c
use Rattle.circuit.specs.Circuit.{Logic, Assignment, Register, Circuit}
use Rattle.circuit.specs.Names.{in_name, out_name}
use Rattle.verilog_text.specs.Text.{name_text, target_text}
use Rattle.circuit.specs.Depth.{is_compound}
use Rattle.verilog_text.specs.Grammar.{Expression, Low, High, Name, Bit, Not, Group, And, Or, Next, Whole, Shifted, Form, Header, Input, Output, Wire, Reg, Assign, Always, End}
use Rattle.verilog_text.specs.Judging.{zero_bits}

-- bit k of a register: `r` where it has one bit, else `r[k]`
abbrev pub printed_bit : Option Register → ℕ → Expression
printed_bit None k = Name []
printed_bit (Some r) k = if r.width == 1 then Name r.name else Bit r.name (decimal k)

abbrev pub grouped : Bool → Expression → Expression
grouped false e = e
grouped true e = Group e

-- an expression as it is printed
abbrev pub printed : Circuit → Logic → Expression
printed m c.Zero = Low
printed m c.One = High
printed m (c.Input i) = Name (in_name (name_text (slice_get m.inputs i)))
printed m (c.Wire w) = Name (name_text (slice_get m.wires w))
printed m (c.Reg r k) = printed_bit (slice_get m.regs r) k
printed m (c.Not x) = Not (grouped (is_compound x) (printed m x))
printed m (c.And x y) = And (grouped (is_compound x) (printed m x)) (grouped (is_compound y) (printed m y))
printed m (c.Or x y) = Or (grouped (is_compound x) (printed m x)) (grouped (is_compound y) (printed m y))

abbrev pub printed_register : Register → Form
printed_register r = if r.width == 1 then Reg None r.name else Reg (Some (decimal (r.width - 1))) r.name

abbrev pub printed_assign : Circuit → Assignment → Form
printed_assign m a = Assign (target_text m a.target) (printed m a.bit)

abbrev pub printed_next : Circuit → Register → Next
printed_next m r = if r.width == 1 then Whole (printed m r.next) else Shifted r.name (decimal (r.width - 2)) (printed m r.next)

abbrev pub printed_always : Circuit → Register → Form
printed_always m r = Always r.name (zero_bits r.width) r.name (printed_next m r)

-- `clk`, `rst`, the inputs and the outputs
abbrev pub printed_ports : Circuit → List (List ℕ)
printed_ports m = codes "clk" ∷ codes "rst" ∷ (map in_name m.inputs ++ map out_name m.outputs)

abbrev pub printed_declarations : Circuit → List Form
printed_declarations m =
    map Input (codes "clk" ∷ codes "rst" ∷ map in_name m.inputs) ++ map Output (map out_name m.outputs)
    ++ map Wire m.wires ++ map printed_register m.regs

-- the statements of the text of a module, in order
abbrev pub printed_statements : Circuit → List Form
printed_statements m =
    Header (codes "race") (printed_ports m) ∷ printed_declarations m
    ++ map (printed_assign m) m.assigns ++ map (printed_always m) m.regs ++ End ∷ []
