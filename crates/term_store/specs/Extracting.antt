-- What the steps of writing a network out keep.
use Rattle.std.specs.Prelude.{ℕ, zero, suc, Bool, false, ◌&&◌, if◌then◌else◌, List, [], ◌∷◌, ◌++◌, length}
use Rattle.std.specs.List.{slice_index_or}
use Rattle.net_model.specs.Formula.{Equation}
use Rattle.term_store.specs.declared.node.Node.{Node}
use Rattle.term_store.specs.Nodes.{node_at}
use Rattle.term_store.specs.Extracted.{is_operator, let_number, let_name, let_body, equation}

-- the place is marked
abbrev pub marked : List Bool → ℕ → Bool
marked marks place = slice_index_or marks place false

-- the number that means the place
abbrev pub numbered : List ℕ → ℕ → ℕ
numbered numbers place = slice_index_or numbers place 0

-- the let numbers of the places below n, in order
abbrev pub let_numbers : List Node → (ℕ → Bool) → ℕ → List ℕ
let_numbers nodes reached zero = []
let_numbers nodes reached (suc place) = let_numbers nodes reached place ++ let_number nodes reached place ∷ []

-- the lets after a place came: where it is reached and holds an operator, its let goes last
abbrev pub with_let : List Node → List ℕ → Bool → ℕ → List Equation → List Equation
with_let nodes numbers reached place lets =
    if reached && is_operator (node_at nodes place)
    then lets ++ equation (let_name (length lets)) (let_body nodes (numbered numbers) (node_at nodes place)) ∷ []
    else lets
