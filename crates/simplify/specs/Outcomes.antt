-- What the laws make of the nodes of a store.
use Rattle.std.specs.Prelude.{◌≡◌, ℕ, ◌<◌, length, nat_eq, Bool, false, ◌||◌, List, [], ◌∷◌, Option, Some, None, MatchOption}
use Rattle.term_store.specs.Tree.{Tree}
use Rattle.term_store.specs.Tree as t
use Rattle.term_store.specs.declared.node.Node.{Node}
use Rattle.term_store.specs.declared.node.Node.TheVariants.{Max, Min, Lt, Inc}
use Rattle.term_store.specs.Nodes.{IsNodeOver}
use Rattle.term_store.specs.Trees.{tree}
use Rattle.term_store.specs.Places.{tree_by_places}
use Rattle.simplify.specs.declared.outcome.Outcome.{Outcome}
use Rattle.simplify.specs.declared.outcome.Outcome.TheVariants.{Held, Over}
use Rattle.simplify.specs.Simplified.{Law, law1, law2, law3, law4, law5, law6, law7, law8, law9, law10, law11, law12, law15, law16, law17, law18, law19, law20, law, first_law}
use Rattle.simplify.specs.Past.{all_of_law13, all_of_law14}

-- the tree of an outcome
abbrev pub outcome_tree : List Node → Outcome → Tree
outcome_tree nodes (Held t) = tree nodes t.0
outcome_tree nodes (Over n) = tree_by_places nodes n

-- its places are below m
abbrev pub IsOutcomeOver : ℕ → Outcome → Type 0
IsOutcomeOver m (Held t) = t.0 < m
IsOutcomeOver m (Over n) = IsNodeOver m n

-- the answer says what a law makes of a tree
abbrev pub IsAnswer : List Node → Option Tree → Option Outcome → Type 0
IsAnswer nodes made answer = MatchOption answer (made ≡ None) (λ x. (made ≡ Some (outcome_tree nodes x)) × IsOutcomeOver (length nodes) x)

-- the laws of each operator, in their order; laws 13 and 14 as often as they fit
abbrev pub min_laws : List Law
min_laws = law1 ∷ law3 ∷ law10 ∷ law16 ∷ law20 ∷ []

abbrev pub max_laws : List Law
max_laws = law2 ∷ law4 ∷ law11 ∷ law17 ∷ []

abbrev pub lt_laws : List Law
lt_laws = law5 ∷ law6 ∷ law7 ∷ law12 ∷ all_of_law13 ∷ all_of_law14 ∷ law15 ∷ law18 ∷ law19 ∷ []

abbrev pub inc_laws : List Law
inc_laws = law8 ∷ law9 ∷ []

-- what the law with the lowest number that fits makes of the whole tree, laws 13 and 14 as often as they fit
unfoldable pub stride : Law
stride (t.Lt a b) = first_law lt_laws (t.Lt a b)
stride u = law u

-- the node is a max of the place and another
abbrev pub max_names : ℕ → Node → Bool
max_names a (Max x y) = nat_eq a x.0 || nat_eq a y.0
max_names a n = false

-- the node is a min of the place and another
abbrev pub min_names : ℕ → Node → Bool
min_names a (Min x y) = nat_eq a x.0 || nat_eq a y.0
min_names a n = false

-- the node is an lt of the place before another
abbrev pub lt_names : ℕ → Node → Bool
lt_names a (Lt x y) = nat_eq a x.0
lt_names a n = false

-- the node is an lt of another before the place
abbrev pub before_names : ℕ → Node → Bool
before_names a (Lt x y) = nat_eq a y.0
before_names a n = false

-- the node is an inc of the place
abbrev pub inc_names : ℕ → Node → Bool
inc_names a (Inc x c) = nat_eq a x.0
inc_names a n = false

-- the tree is no max, and so on
abbrev pub IsNoMax : Tree → Type 0
IsNoMax (t.Max a b) = ⊥
IsNoMax t = Unit {0}

abbrev pub IsNoMin : Tree → Type 0
IsNoMin (t.Min a b) = ⊥
IsNoMin t = Unit {0}

abbrev pub IsNoInc : Tree → Type 0
IsNoInc (t.Inc a c) = ⊥
IsNoInc t = Unit {0}

abbrev pub IsNoLt : Tree → Type 0
IsNoLt (t.Lt a b) = ⊥
IsNoLt t = Unit {0}
