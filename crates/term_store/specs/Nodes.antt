-- What contracts see of a store: its nodes in order, and how many more it takes without asking for memory.
use Rattle.std.specs.Prelude.{◌≡◌, ℕ, ◌<◌, ◌≤◌, Bool, true, false, ◌&&◌, if◌then◌else◌, ◌++◌, List, [], ◌∷◌, length, nat_eq}
use Rattle.std.specs.List.{list_any, position_or_len, slice_index_or}
use Rattle.term_store.specs.declared.node.StoreError.{StoreError}
use Rattle.term_store.specs.declared.node.StoreError.TheVariants.{Full, NoMemory}
use Rattle.term_store.specs.declared.node.Term.{Term}
use Rattle.term_store.specs.declared.node.Node.{Node}
use Rattle.term_store.specs.declared.node.Node.TheVariants.{Input, Never, Min, Max, Lt, Inc}

-- a store: its nodes in the order in which they came, and how many more it takes without asking for memory
pub record Contents : Type 0 where
  pub nodes : List Node
  pub spare : ℕ

-- whether two nodes are the same
abbrev pub same_node : Node → Node → Bool
same_node (Input i) (Input j) = nat_eq i j
same_node Never Never = true
same_node (Min a b) (Min c d) = nat_eq a.0 c.0 && nat_eq b.0 d.0
same_node (Max a b) (Max c d) = nat_eq a.0 c.0 && nat_eq b.0 d.0
same_node (Lt a b) (Lt c d) = nat_eq a.0 c.0 && nat_eq b.0 d.0
same_node (Inc a m) (Inc b n) = nat_eq a.0 b.0 && nat_eq m n
same_node a b = false

-- the node at a place
abbrev pub node_at : List Node → ℕ → Node
node_at nodes place = slice_index_or nodes place Never

-- the node is in the list
abbrev pub holds : List Node → Node → Bool
holds nodes n = list_any (same_node n) nodes

-- the first place of the node, and the length where it isn't held
abbrev pub place_of : List Node → Node → ℕ
place_of nodes n = position_or_len (same_node n) nodes

-- the nodes after a node came: where it is held they stay, and else it goes last
abbrev pub with_node : List Node → Node → List Node
with_node nodes n = if holds nodes n then nodes else nodes ++ n ∷ []

-- the node may be after m others: its operands are among them
abbrev pub IsNodeOver : ℕ → Node → Type 0
IsNodeOver m (Input i) = i < 64
IsNodeOver m Never = Unit {0}
IsNodeOver m (Min a b) = (a.0 < m) × (b.0 < m)
IsNodeOver m (Max a b) = (a.0 < m) × (b.0 < m)
IsNodeOver m (Lt a b) = (a.0 < m) × (b.0 < m)
IsNodeOver m (Inc a c) = (a.0 < m) × (1 ≤ c) × (c ≤ 1000000)

-- the nodes of a store: at most 262,144, each over those before it, and no two alike
pub record IsNodes (nodes : List Node) : Type 0 where
  pub few : length nodes ≤ 262144
  pub lower : (place : ℕ) → place < length nodes → IsNodeOver place (node_at nodes place)
  pub distinct : (i j : ℕ) → i < length nodes → j < length nodes → node_at nodes i ≡ node_at nodes j → i ≡ j

-- why a store refuses a node: it isn't held, and the store is full, or has no room left
abbrev pub IsRefusal : Contents → Node → StoreError → Type 0
IsRefusal store n Full = (holds store.nodes n ≡ false) × (length store.nodes ≡ 262144)
IsRefusal store n NoMemory = (holds store.nodes n ≡ false) × (length store.nodes < 262144) × (store.spare ≡ 0)

-- the place of a node that is held
abbrev pub IsFound : List Node → Node → Term → Type 0
IsFound nodes n t = (holds nodes n ≡ true) × (t.0 ≡ place_of nodes n) × (t.0 < length nodes) × (node_at nodes t.0 ≡ n)
