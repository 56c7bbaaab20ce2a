-- The text of a module.
use Rattle.std.specs.Prelude.{ℕ, ◌-◌, ◌==◌, Bool, true, false, List, [], ◌++◌, codes, decimal, if◌then◌else◌, flat_map, slice_get, Option, Some, None}
use Rattle.circuit.specs.declared.bit.Target.{Target}
use Rattle.circuit.specs.declared.bit.Target.TheVariants as target
use Rattle.circuit.specs.Circuit.{Logic, Zero, One, Input, Wire, Reg, Not, And, Or, Assignment, Register, Circuit}
use Rattle.circuit.specs.Names.{in_name, out_name}
use Rattle.circuit.specs.Depth.{is_compound}

-- the name at a place of a list
abbrev pub name_text : Option (List ℕ) → List ℕ
name_text None = []
name_text (Some name) = name

-- bit k of a register: `r` where it has one bit, else `r[k]`
abbrev pub bit_text : Register → ℕ → List ℕ
bit_text r k = if r.width == 1 then r.name else r.name ++ codes "[" ++ decimal k ++ codes "]"

-- bit k of the register at a place of a list
abbrev pub register_bit_text : Option Register → ℕ → List ℕ
register_bit_text None k = []
register_bit_text (Some r) k = bit_text r k

-- an operand, in parentheses or not
abbrev pub in_parentheses : Bool → List ℕ → List ℕ
in_parentheses false text = text
in_parentheses true text = codes "(" ++ text ++ codes ")"

-- an expression
abbrev pub logic_text : Circuit → Logic → List ℕ
logic_text m Zero = codes "1'b0"
logic_text m One = codes "1'b1"
logic_text m (Input i) = in_name (name_text (slice_get m.inputs i))
logic_text m (Wire w) = name_text (slice_get m.wires w)
logic_text m (Reg r k) = register_bit_text (slice_get m.regs r) k
logic_text m (Not x) = codes "~" ++ in_parentheses (is_compound x) (logic_text m x)
logic_text m (And x y) =
    in_parentheses (is_compound x) (logic_text m x) ++ codes " & " ++ in_parentheses (is_compound y) (logic_text m y)
logic_text m (Or x y) =
    in_parentheses (is_compound x) (logic_text m x) ++ codes " | " ++ in_parentheses (is_compound y) (logic_text m y)

-- the same where it is an operand
abbrev pub operand_text : Circuit → Logic → List ℕ
operand_text m x = in_parentheses (is_compound x) (logic_text m x)

abbrev pub target_text : Circuit → Target → List ℕ
target_text m (target.Wire w) = name_text (slice_get m.wires w)
target_text m (target.Out o) = out_name (name_text (slice_get m.outputs o))

-- text, a name and more text
abbrev pub around : List ℕ → List ℕ → List ℕ → List ℕ
around before after name = before ++ name ++ after

-- `module race(clk, rst, in_a, .., out_y, ..);`
unfoldable pub header_start : List ℕ
header_start = codes "module race(clk, rst"

unfoldable pub input_ports : Circuit → List ℕ
input_ports m = flat_map (around (codes ", in_") []) m.inputs

unfoldable pub output_ports : Circuit → List ℕ
output_ports m = flat_map (around (codes ", out_") []) m.outputs

abbrev pub header_text : Circuit → List ℕ
header_text m = header_start ++ input_ports m ++ output_ports m ++ codes ");\n"

-- the declarations: the clock and the reset, the inputs, the outputs, the wires, the registers
unfoldable pub clock_lines : List ℕ
clock_lines = codes "  input clk;\n  input rst;\n"

unfoldable pub input_lines : Circuit → List ℕ
input_lines m = flat_map (around (codes "  input in_") (codes ";\n")) m.inputs

unfoldable pub output_lines : Circuit → List ℕ
output_lines m = flat_map (around (codes "  output out_") (codes ";\n")) m.outputs

unfoldable pub wire_lines : Circuit → List ℕ
wire_lines m = flat_map (around (codes "  wire ") (codes ";\n")) m.wires

-- `reg r;` or, for more than one bit, `reg [M:0] r;` with M the last bit
abbrev pub register_line : Register → List ℕ
register_line r =
    if r.width == 1 then codes "  reg " ++ r.name ++ codes ";\n"
    else codes "  reg [" ++ decimal (r.width - 1) ++ codes ":0] " ++ r.name ++ codes ";\n"

abbrev pub declarations_text : Circuit → List ℕ
declarations_text m =
    clock_lines ++ input_lines m ++ output_lines m ++ wire_lines m ++ flat_map register_line m.regs

-- `assign target = expression;`
abbrev pub assign_line : Circuit → Assignment → List ℕ
assign_line m a = codes "  assign " ++ target_text m a.target ++ codes " = " ++ logic_text m a.bit ++ codes ";\n"

-- what a register takes: the expression or, for more than one bit, `{r[M-1:0], expression}`
abbrev pub next_text : Circuit → Register → List ℕ
next_text m r =
    if r.width == 1 then logic_text m r.next
    else codes "{" ++ r.name ++ codes "[" ++ decimal (r.width - 2) ++ codes ":0], " ++ logic_text m r.next ++ codes "}"

-- `always @(posedge clk) if (rst) r <= W'b0; else r <= ..;`, in two halves
unfoldable pub always_start : List ℕ
always_start = codes "  always @(posedge clk) if (rst) "

abbrev pub reset_text : Register → List ℕ
reset_text r = always_start ++ r.name ++ codes " <= " ++ decimal r.width ++ codes "'b0; else "

abbrev pub update_text : Circuit → Register → List ℕ
update_text m r = r.name ++ codes " <= " ++ next_text m r ++ codes ";\n"

abbrev pub always_line : Circuit → Register → List ℕ
always_line m r = reset_text r ++ update_text m r

-- the assigns in their order, the always statements in the order of the registers, and the end
abbrev pub statements_text : Circuit → List ℕ
statements_text m =
    flat_map (assign_line m) m.assigns ++ flat_map (always_line m) m.regs ++ codes "endmodule\n"

-- the whole text
abbrev pub module_text : Circuit → List ℕ
module_text m = header_text m ++ declarations_text m ++ statements_text m
