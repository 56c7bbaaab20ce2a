-- A test that computes, and shows that a module is valid: for modules that are written out.
use Rattle.std.specs.Prelude.{ℕ, Bool, true, false, not, ◌&&◌, ◌==◌, nat_lt, nat_le, bytes_eq, List, [], ◌∷◌, length, slice_get, Option, Some, None}
use Rattle.std.specs.List.{list_any, list_all}
use Rattle.circuit.specs.declared.bit.Target.{Target}
use Rattle.circuit.specs.declared.bit.Target.TheVariants as target
use Rattle.circuit.specs.Circuit.{Logic, Zero, One, Input, Wire, Reg, Not, And, Or, Assignment, Register, Circuit, register_bits}
use Rattle.circuit.specs.Names.{is_port_name, is_own_name, declared_names}
use Rattle.circuit.specs.Meaning.{upto}

-- the same wire or output
abbrev pub target_eq : Target → Target → Bool
target_eq (target.Wire v) (target.Wire w) = v == w
target_eq (target.Out n) (target.Out o) = n == o
target_eq _ _ = false

abbrev pub is_target : Circuit → Target → Bool
is_target m (target.Wire w) = nat_lt w (length m.wires)
is_target m (target.Out o) = nat_lt o (length m.outputs)

-- the target is one of these
abbrev pub is_given : Target → List Target → Bool
is_given t given = list_any (target_eq t) given

-- every wire that the expression names is one of these
abbrev pub names_given : List Target → Logic → Bool
names_given given Zero = true
names_given given One = true
names_given given (Input i) = true
names_given given (Wire w) = is_given (target.Wire w) given
names_given given (Reg r k) = true
names_given given (Not x) = names_given given x
names_given given (And x y) = names_given given x && names_given given y
names_given given (Or x y) = names_given given x && names_given given y

-- every wire and every output is one of these
abbrev pub all_given : Circuit → List Target → Bool
all_given m given = list_all (λ w. is_given (target.Wire w) given) (upto 0 (length m.wires))
    && list_all (λ o. is_given (target.Out o) given) (upto 0 (length m.outputs))

-- after assigns to the given targets, these assigns are in order, and every wire and output has one
abbrev pub in_order : Circuit → List Target → List Assignment → Bool
in_order m given [] = all_given m given
in_order m given (a ∷ tail) =
    is_target m a.target && not (is_given a.target given) && names_given given a.bit && in_order m (a.target ∷ given) tail

-- no two are the same
abbrev pub all_distinct : List (List ℕ) → Bool
all_distinct [] = true
all_distinct (x ∷ xs) = not (list_any (bytes_eq x) xs) && all_distinct xs

-- bit k of this register, where there is one
abbrev pub has_bit : Option Register → ℕ → Bool
has_bit None k = false
has_bit (Some r) k = nat_lt k r.width

-- every input, wire and register bit that the expression names is one of the module's
abbrev pub is_in_range : Circuit → Logic → Bool
is_in_range m Zero = true
is_in_range m One = true
is_in_range m (Input i) = nat_lt i (length m.inputs)
is_in_range m (Wire w) = nat_lt w (length m.wires)
is_in_range m (Reg r k) = has_bit (slice_get m.regs r) k
is_in_range m (Not x) = is_in_range m x
is_in_range m (And x y) = is_in_range m x && is_in_range m y
is_in_range m (Or x y) = is_in_range m x && is_in_range m y

-- 1 to 64 inputs and outputs, at most 65,536 wires and register bits
abbrev pub has_few : Circuit → Bool
has_few m = nat_le 1 (length m.inputs) && (nat_le (length m.inputs) 64 && (nat_le 1 (length m.outputs) && (nat_le (length m.outputs) 64
    && (nat_le (length m.wires) 65536 && nat_le (register_bits m) 65536))))

-- every name keeps its rules, and no name is declared twice
abbrev pub has_names : Circuit → Bool
has_names m = list_all is_port_name m.inputs && (list_all is_port_name m.outputs && (list_all is_own_name m.wires
    && (list_all (λ r. is_own_name r.name) m.regs && all_distinct (declared_names m))))

-- the module is valid
abbrev pub is_valid : Circuit → Bool
is_valid m = has_few m && (has_names m && (list_all (λ r. nat_le 1 r.width) m.regs && (list_all (λ a. is_in_range m a.bit) m.assigns
    && (list_all (λ r. is_in_range m r.next) m.regs && in_order m [] m.assigns))))
