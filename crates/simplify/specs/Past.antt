-- What lt goes past at once: chains of max, or of min, that have one operand throughout.
use Rattle.std.specs.Prelude.{◌≡◌, ℕ, ◌<◌, ◌≤◌, if◌then◌else◌, List, length, Some, None}
use Rattle.std.specs.List.{slice_index_or}
use Rattle.term_store.specs.declared.node.Term.{Term}
use Rattle.term_store.specs.declared.node.Node.{Node}
use Rattle.term_store.specs.Tree.{Tree, Min, Max, Lt}
use Rattle.term_store.specs.Subterms.{same_tree}
use Rattle.term_store.specs.Trees.{tree, term}
use Rattle.simplify.specs.declared.ends.Ends.{Ends}
use Rattle.simplify.specs.Simplified.{Law}

-- what is left of a term once max of a is taken off as often as it is the whole term
abbrev pub past_max : Tree → Tree → Tree
past_max a (Max x y) = if same_tree a x then past_max a y else if same_tree a y then past_max a x else Max x y
past_max a t = t

-- what is left of a term once min of a is taken off as often as it is the whole term
abbrev pub past_min : Tree → Tree → Tree
past_min a (Min x y) = if same_tree x a then past_min a y else if same_tree y a then past_min a x else Min x y
past_min a t = t

-- law 13, as often as it fits
abbrev pub all_of_law13 : Law
all_of_law13 (Lt a b) = if same_tree (past_max a b) b then None else Some (Lt a (past_max a b))
all_of_law13 t = None

-- law 14, as often as it fits
abbrev pub all_of_law14 : Law
all_of_law14 (Lt a b) = if same_tree (past_min b a) a then None else Some (Lt (past_min b a) b)
all_of_law14 t = None

-- the tree is at the place
abbrev pub IsAt : List Node → Term → Tree → Type 0
IsAt nodes p t = (p.0 < length nodes) × (tree nodes p.0 ≡ t)

-- these are the ends of a max or a min; those of any other term are fillers
abbrev pub AreEndsOf : List Node → Tree → Ends → Type 0
AreEndsOf nodes (Max x y) ends = IsAt nodes ends.past_first (past_max x y) × IsAt nodes ends.past_second (past_max y x)
AreEndsOf nodes (Min x y) ends = IsAt nodes ends.past_first (past_min x y) × IsAt nodes ends.past_second (past_min y x)
AreEndsOf nodes t ends = Unit {0}

abbrev pub ends_at : List Ends → ℕ → Ends
ends_at ends place = slice_index_or ends place (record { past_first = term 0; past_second = term 0 })

-- these are the ends of the first places of the store
pub record AreEnds (nodes : List Node) (ends : List Ends) : Type 0 where
  pub len : length ends ≤ length nodes
  pub at : (place : ℕ) → place < length ends → AreEndsOf nodes (tree nodes place) (ends_at ends place)
