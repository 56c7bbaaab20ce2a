-- The distinct subterms of terms, and how many of each kind there are.
use Rattle.std.specs.Prelude.{ℕ, ◌<◌, ◌≤◌, ◌+◌, max, Bool, true, false, ◌&&◌, if◌then◌else◌, nat_eq, List, [], ◌∷◌, ◌++◌, length, map, filter, flat_map, fold, sum_by}
use Rattle.std.specs.List.{list_any, AllByRecursion}
use Rattle.term_store.specs.Tree.{Tree, Never, Input, Min, Max, Lt, Inc, span}

-- the parts of a term, the term itself too, each as often as it is written
abbrev pub subterms : Tree → List Tree
subterms Never = Never ∷ []
subterms (Input i) = Input i ∷ []
subterms (Min a b) = Min a b ∷ subterms a ++ subterms b
subterms (Max a b) = Max a b ∷ subterms a ++ subterms b
subterms (Lt a b) = Lt a b ∷ subterms a ++ subterms b
subterms (Inc a c) = Inc a c ∷ subterms a

-- the parts of all these terms, each as often as it is written
abbrev pub all_subterms : List Tree → List Tree
all_subterms trees = flat_map subterms trees

-- whether two trees are the same
abbrev pub same_tree : Tree → Tree → Bool
same_tree Never Never = true
same_tree (Input i) (Input j) = nat_eq i j
same_tree (Min a b) (Min c d) = same_tree a c && same_tree b d
same_tree (Max a b) (Max c d) = same_tree a c && same_tree b d
same_tree (Lt a b) (Lt c d) = same_tree a c && same_tree b d
same_tree (Inc a m) (Inc b n) = same_tree a b && nat_eq m n
same_tree s t = false

-- the tree is in the list
abbrev pub is_among : Tree → List Tree → Bool
is_among t trees = list_any (same_tree t) trees

-- each tree of the list once
abbrev pub distinct : List Tree → List Tree
distinct [] = []
distinct (t ∷ trees) = if is_among t trees then distinct trees else t ∷ distinct trees

-- the parts of all these terms, each once
abbrev pub distinct_subterms : List Tree → List Tree
distinct_subterms trees = distinct (all_subterms trees)

-- whether the term is a min, a max or an lt
abbrev pub is_join : Tree → Bool
is_join (Min a b) = true
is_join (Max a b) = true
is_join (Lt a b) = true
is_join t = false

-- whether the term is an lt
abbrev pub is_lt : Tree → Bool
is_lt (Lt a b) = true
is_lt t = false

-- whether the term is an inc
abbrev pub is_delay : Tree → Bool
is_delay (Inc a c) = true
is_delay t = false

-- how many min, max and lt, of which no two are the same term
abbrev pub join_count : List Tree → ℕ
join_count trees = length (filter is_join (distinct_subterms trees))

-- how many inc, of which no two are the same term
abbrev pub delay_count : List Tree → ℕ
delay_count trees = length (filter is_delay (distinct_subterms trees))

-- how many lt, of which no two are the same term
abbrev pub lt_count : List Tree → ℕ
lt_count trees = length (filter is_lt (distinct_subterms trees))

-- by how many cycles s delays t; 0 where it is no inc of t
abbrev pub delay_of : Tree → Tree → ℕ
delay_of t (Inc a c) = if same_tree t a then c else 0
delay_of t s = 0

-- the most cycles by which an inc among the subterms delays t; 0 where there is none
abbrev pub longest_delay : List Tree → Tree → ℕ
longest_delay trees t = fold max 0 (map (delay_of t) (distinct_subterms trees))

-- the register bits that the terms need: a chain for each delayed term, as long as its longest delay, and one bit for each lt
abbrev pub register_bits : List Tree → ℕ
register_bits trees = sum_by (longest_delay trees) (distinct_subterms trees) + lt_count trees

-- by how many cycles a term may be delayed where inputs are by at most m: an input by m, and any other by one
abbrev pub longest_for : ℕ → Tree → ℕ
longest_for m (Input i) = m
longest_for m t = 1

-- t is an inc only where it delays no longer than that
abbrev pub IsShortDelay : ℕ → Tree → Type 0
IsShortDelay m (Inc a c) = c ≤ longest_for m a
IsShortDelay m t = Unit {0}

-- t is an input only where its place is below the count
abbrev pub IsInputBelow : ℕ → Tree → Type 0
IsInputBelow count (Input i) = i < count
IsInputBelow count t = Unit {0}

-- the terms keep the rules of a network with so many inputs
pub record AreNetworkTerms (count : ℕ) (trees : List Tree) : Type 0 where
  pub few_joins : join_count trees ≤ 16384
  pub few_delays : delay_count trees ≤ 16384
  pub short : AllByRecursion (λ t. span t ≤ 1000000) trees
  pub inputs : AllByRecursion (IsInputBelow count) (distinct_subterms trees)
