-- The gates of terms: one for each reached min, max and lt of a store, in ascending place, and one delay for each term that a reached
-- inc delays, in ascending place. Its width is the longest of these delays, and each of them is a tap of it.
use Rattle.std.specs.Prelude.{ℕ, ◌+◌, Bool, nat_lt, List, [], ◌∷◌, length, map, filter, sum_by}
use Rattle.term_store.specs.declared.node.Term.{Term}
use Rattle.term_store.specs.declared.node.Node.{Node}
use Rattle.term_store.specs.declared.node.Node.TheVariants as node
use Rattle.term_store.specs.Nodes.{node_at}
use Rattle.term_store.specs.Places.{places, reach_marks, is_join_node, is_lt_node, is_marked_with, longest_at, marked_upto}
use Rattle.gate_lower.specs.declared.gates.Line.{Line}
use Rattle.gate_lower.specs.declared.gates.Line.TheVariants as line
use Rattle.gate_lower.specs.declared.gates.Gate.{Gate}
use Rattle.gate_lower.specs.declared.gates.Gate.TheVariants as gate
use Rattle.gate_lower.specs.declared.gates.Delay.{Delay}
use Rattle.gate_lower.specs.Netlist.{Output, Netlist, netlist}

-- the place is one of a gate: its min, max or lt is reached
abbrev pub is_gate : List Node → List Bool → ℕ → Bool
is_gate nodes marks place = is_marked_with is_join_node nodes marks place

-- the place is delayed by a reached inc
abbrev pub is_delayed : List Node → List Bool → ℕ → Bool
is_delayed nodes marks place = nat_lt 0 (longest_at nodes marks place)

-- the number of the gate of a place: how many gates have lower places
abbrev pub gate_number : List Node → List Bool → ℕ → ℕ
gate_number nodes marks place = length (filter (is_gate nodes marks) (places place))

-- the number of the delay of a place: how many delays have lower places
abbrev pub delay_number : List Node → List Bool → ℕ → ℕ
delay_number nodes marks place = length (filter (is_delayed nodes marks) (places place))

abbrev pub gate_places : List Node → List Bool → List ℕ
gate_places nodes marks = filter (is_gate nodes marks) (places (length nodes))

abbrev pub delay_places : List Node → List Bool → List ℕ
delay_places nodes marks = filter (is_delayed nodes marks) (places (length nodes))

-- the line of a node, which is at this place
abbrev pub node_line : List Node → List Bool → ℕ → Node → Line
node_line nodes marks place node.Never = line.Low
node_line nodes marks place (node.Input i) = line.Input i
node_line nodes marks place (node.Inc a c) = line.Tap (delay_number nodes marks a.0) c
node_line nodes marks place (node.Min a b) = line.Gate (gate_number nodes marks place)
node_line nodes marks place (node.Max a b) = line.Gate (gate_number nodes marks place)
node_line nodes marks place (node.Lt a b) = line.Gate (gate_number nodes marks place)

-- the line of the term at a place
abbrev pub place_line : List Node → List Bool → ℕ → Line
place_line nodes marks place = node_line nodes marks place (node_at nodes place)

abbrev pub term_line : List Node → List Bool → Term → Line
term_line nodes marks t = place_line nodes marks t.0

-- the gate of a node that is a min, max or lt
abbrev pub node_gate : List Node → List Bool → Node → Gate
node_gate nodes marks (node.Min a b) = gate.Or (term_line nodes marks a) (term_line nodes marks b)
node_gate nodes marks (node.Max a b) = gate.And (term_line nodes marks a) (term_line nodes marks b)
node_gate nodes marks (node.Lt a b) = gate.Latch (term_line nodes marks a) (term_line nodes marks b)
node_gate nodes marks _ = gate.Or line.Low line.Low

abbrev pub gate_at : List Node → List Bool → ℕ → Gate
gate_at nodes marks place = node_gate nodes marks (node_at nodes place)

abbrev pub delay_at : List Node → List Bool → ℕ → Delay
delay_at nodes marks place = record { from = place_line nodes marks place; width = longest_at nodes marks place }

abbrev pub gates_of : List Node → List Bool → List Gate
gates_of nodes marks = map (gate_at nodes marks) (gate_places nodes marks)

abbrev pub delays_of : List Node → List Bool → List Delay
delays_of nodes marks = map (delay_at nodes marks) (delay_places nodes marks)

-- each output with the line of its root
abbrev pub outputs_of : List Node → List Bool → List Term → List (List ℕ) → List Output
outputs_of nodes marks roots [] = []
outputs_of nodes marks [] (n ∷ names) = []
outputs_of nodes marks (r ∷ roots) (n ∷ names) = record { name = n; line = term_line nodes marks r } ∷ outputs_of nodes marks roots names

abbrev pub marked_netlist : List Node → List Bool → List Term → List (List ℕ) → List (List ℕ) → Netlist
marked_netlist nodes marks roots inputs outputs =
    netlist inputs (outputs_of nodes marks roots outputs) (gates_of nodes marks) (delays_of nodes marks)

-- the gates of the terms at the roots, with these names of inputs and outputs
abbrev pub lowered : List Node → List Term → List (List ℕ) → List (List ℕ) → Netlist
lowered nodes roots inputs outputs = marked_netlist nodes (reach_marks nodes roots) roots inputs outputs

-- the register bits over marked places: the longest delay of each, and one for each lt
abbrev pub marked_bits : List Node → List Bool → ℕ
marked_bits nodes marks = sum_by (longest_at nodes marks) (places (length nodes)) + marked_upto is_lt_node nodes marks (length nodes)
