-- The terms that a store holds, written out, and what it holds after a term was planted.
use Rattle.std.specs.Prelude.{◌≡◌, ℕ, ◌<◌, List, [], ◌∷◌, ◌++◌, fold, map, length}
use Rattle.term_store.specs.declared.node.Term.{Term}
use Rattle.term_store.specs.declared.node.Node.{Node}
use Rattle.term_store.specs.declared.node.Node.TheVariants as node
use Rattle.term_store.specs.Tree.{Tree, Never, Input, Min, Max, Lt, Inc}
use Rattle.term_store.specs.Terms.{tree_in}
use Rattle.term_store.specs.Nodes.{place_of, with_node}

-- the tree of a node, over the trees of the places below it
abbrev pub node_tree : List Tree → Node → Tree
node_tree trees node.Never = Never
node_tree trees (node.Input i) = Input i
node_tree trees (node.Min a b) = Min (tree_in trees a.0) (tree_in trees b.0)
node_tree trees (node.Max a b) = Max (tree_in trees a.0) (tree_in trees b.0)
node_tree trees (node.Lt a b) = Lt (tree_in trees a.0) (tree_in trees b.0)
node_tree trees (node.Inc a c) = Inc (tree_in trees a.0) c

-- these trees, and then those of the nodes over them
abbrev pub trees_from : List Tree → List Node → List Tree
trees_from trees nodes = fold (λ done n. done ++ node_tree done n ∷ []) trees nodes

-- the trees of all places, in order
abbrev pub trees : List Node → List Tree
trees nodes = trees_from [] nodes

-- the tree of a place
abbrev pub tree : List Node → ℕ → Tree
tree nodes place = tree_in (trees nodes) place

-- the trees of these places
abbrev pub trees_at : List Node → List Term → List Tree
trees_at nodes terms = map (λ t. tree nodes t.0) terms

-- a place, as the code names it
abbrev pub term : ℕ → Term
term place = record { 0 = place }

-- the place of a tree, where it is held
abbrev pub place : List Node → Tree → ℕ
place nodes Never = place_of nodes node.Never
place nodes (Input i) = place_of nodes (node.Input i)
place nodes (Min a b) = place_of nodes (node.Min (term (place nodes a)) (term (place nodes b)))
place nodes (Max a b) = place_of nodes (node.Max (term (place nodes a)) (term (place nodes b)))
place nodes (Lt a b) = place_of nodes (node.Lt (term (place nodes a)) (term (place nodes b)))
place nodes (Inc a c) = place_of nodes (node.Inc (term (place nodes a)) c)

-- the node of a tree, over the places of its operands
abbrev pub node_of : List Node → Tree → Node
node_of nodes Never = node.Never
node_of nodes (Input i) = node.Input i
node_of nodes (Min a b) = node.Min (term (place nodes a)) (term (place nodes b))
node_of nodes (Max a b) = node.Max (term (place nodes a)) (term (place nodes b))
node_of nodes (Lt a b) = node.Lt (term (place nodes a)) (term (place nodes b))
node_of nodes (Inc a c) = node.Inc (term (place nodes a)) c

-- the nodes after the root of a tree came, whose operands are held
abbrev pub with_root : List Node → Tree → List Node
with_root nodes t = with_node nodes (node_of nodes t)

-- the nodes after a tree came: its operands, left to right, and then its root
abbrev pub plant_one : List Node → Tree → List Node
plant_one nodes Never = with_root nodes Never
plant_one nodes (Input i) = with_root nodes (Input i)
plant_one nodes (Min a b) = with_root (plant_one (plant_one nodes a) b) (Min a b)
plant_one nodes (Max a b) = with_root (plant_one (plant_one nodes a) b) (Max a b)
plant_one nodes (Lt a b) = with_root (plant_one (plant_one nodes a) b) (Lt a b)
plant_one nodes (Inc a c) = with_root (plant_one nodes a) (Inc a c)

-- the nodes after the trees came, in order
abbrev pub plant : List Node → List Tree → List Node
plant nodes trees = fold plant_one nodes trees

-- the tree is at a place
abbrev pub IsHeld : List Node → Tree → Type 0
IsHeld nodes t = (place : ℕ) × (place < length nodes) × (tree nodes place ≡ t)

-- the nodes begin with the old ones
abbrev pub IsPrefix : List Node → List Node → Type 0
IsPrefix old nodes = (rest : List Node) × (nodes ≡ old ++ rest)
