-- The network that the roots of a store write out: each operator that they reach is a let.
use Rattle.std.specs.Prelude.{ℕ, zero, suc, Bool, true, false, ◌&&◌, if◌then◌else◌, List, [], ◌∷◌, ◌++◌, length, map, codes, decimal}
use Rattle.net_model.specs.Formula.{Formula, Equation, Net, net}
use Rattle.net_model.specs.Formula as formula
use Rattle.term_store.specs.declared.node.Term.{Term}
use Rattle.term_store.specs.declared.node.Node.{Node}
use Rattle.term_store.specs.declared.node.Node.TheVariants.{Input, Never, Min, Max, Lt, Inc}
use Rattle.term_store.specs.Nodes.{node_at}
use Rattle.term_store.specs.Reach.{is_reached}

-- the node is a min, max, lt or inc
abbrev pub is_operator : Node → Bool
is_operator (Input i) = false
is_operator Never = false
is_operator (Min a b) = true
is_operator (Max a b) = true
is_operator (Lt a b) = true
is_operator (Inc a c) = true

-- the place becomes a let: it is reached, and an operator is there
abbrev pub becomes_let : List Node → (ℕ → Bool) → ℕ → Bool
becomes_let nodes reached place = reached place && is_operator (node_at nodes place)

-- the places below n that become lets, in ascending order
abbrev pub let_places : List Node → (ℕ → Bool) → ℕ → List ℕ
let_places nodes reached zero = []
let_places nodes reached (suc place) =
    if becomes_let nodes reached place then let_places nodes reached place ++ place ∷ [] else let_places nodes reached place

-- the number of the let that a place becomes, from 0
abbrev pub let_number : List Node → (ℕ → Bool) → ℕ → ℕ
let_number nodes reached place = length (let_places nodes reached place)

-- `_` and the number
abbrev pub let_name : ℕ → List ℕ
let_name number = codes "_" ++ decimal number

-- how a formula names a node, if an operator is the let of this number
abbrev pub named : Node → ℕ → Formula
named (Input i) number = formula.Input i
named Never number = formula.Never
named (Min a b) number = formula.Named number
named (Max a b) number = formula.Named number
named (Lt a b) number = formula.Named number
named (Inc a c) number = formula.Named number

-- how a formula names a place, where each operator is the let of its number
abbrev pub operand : List Node → (ℕ → ℕ) → Term → Formula
operand nodes number t = named (node_at nodes t.0) (number t.0)

-- the formula of a node over its operands
abbrev pub let_body : List Node → (ℕ → ℕ) → Node → Formula
let_body nodes number (Input i) = formula.Input i
let_body nodes number Never = formula.Never
let_body nodes number (Min a b) = formula.Min (operand nodes number a) (operand nodes number b)
let_body nodes number (Max a b) = formula.Max (operand nodes number a) (operand nodes number b)
let_body nodes number (Lt a b) = formula.Lt (operand nodes number a) (operand nodes number b)
let_body nodes number (Inc a c) = formula.Inc (operand nodes number a) c

-- a let or an output of this name and formula
abbrev pub equation : List ℕ → Formula → Equation
equation name body = record { name = name; body = body }

-- the let that a place becomes
abbrev pub let_at : List Node → (ℕ → Bool) → ℕ → Equation
let_at nodes reached place =
    equation (let_name (let_number nodes reached place)) (let_body nodes (let_number nodes reached) (node_at nodes place))

-- the lets of the places below n, in order
abbrev pub lets_below : List Node → (ℕ → Bool) → ℕ → List Equation
lets_below nodes reached n = map (let_at nodes reached) (let_places nodes reached n)

-- the outputs, each the operand of its root
abbrev pub root_outputs : List Node → (ℕ → ℕ) → List Term → List (List ℕ) → List Equation
root_outputs nodes number (root ∷ roots) (name ∷ names) = equation name (operand nodes number root) ∷ root_outputs nodes number roots names
root_outputs nodes number _ _ = []

-- the network of the roots, with these names of its inputs and outputs
abbrev pub extracted : List Node → List Term → List (List ℕ) → List (List ℕ) → Net
extracted nodes roots inputs outputs =
    let reached = is_reached nodes roots in
    net inputs (lets_below nodes reached (length nodes)) (root_outputs nodes (let_number nodes reached) roots outputs)
