-- What the laws make of a term: its operands first, and then law by law, always the law with the lowest number that fits.
use Rattle.std.specs.Prelude.{ℕ, zero, suc, ◌+◌, Bool, true, false, ◌&&◌, ◌||◌, if◌then◌else◌, List, [], ◌∷◌, Option, Some, None}
use Rattle.std.specs.Option.{option_or}
use Rattle.term_store.specs.Tree.{Tree, Never, Input, Min, Max, Lt, Inc}
use Rattle.term_store.specs.Subterms.{same_tree}

-- how many operators, inputs and never are written in a term
abbrev pub size : Tree → ℕ
size Never = 1
size (Input i) = 1
size (Min a b) = size a + size b + 1
size (Max a b) = size a + size b + 1
size (Lt a b) = size a + size b + 1
size (Inc a c) = size a + 1

abbrev pub is_never : Tree → Bool
is_never Never = true
is_never t = false

-- the tree is a max of a and another
abbrev pub is_max_of : Tree → Tree → Bool
is_max_of a (Max x y) = same_tree a x || same_tree a y
is_max_of a t = false

-- the tree is a min of a and another
abbrev pub is_min_of : Tree → Tree → Bool
is_min_of a (Min x y) = same_tree a x || same_tree a y
is_min_of a t = false

-- the tree is lt(a, b) for some b
abbrev pub is_lt_of : Tree → Tree → Bool
is_lt_of a (Lt x y) = same_tree a x
is_lt_of a t = false

-- the tree is lt(b, a) for some b
abbrev pub is_lt_before : Tree → Tree → Bool
is_lt_before a (Lt x y) = same_tree a y
is_lt_before a t = false

-- the tree is inc(a, c) for some c
abbrev pub is_inc_of : Tree → Tree → Bool
is_inc_of a (Inc x c) = same_tree a x
is_inc_of a t = false

-- what a law makes of a tree that is its left side
abbrev pub Law : Type 0
Law = Tree → Option Tree

abbrev pub law1 : Law
law1 (Min a b) = if same_tree a b then Some a else None
law1 t = None

abbrev pub law2 : Law
law2 (Max a b) = if same_tree a b then Some a else None
law2 t = None

abbrev pub law3 : Law
law3 (Min a b) = if is_never b then Some a else if is_never a then Some b else None
law3 t = None

abbrev pub law4 : Law
law4 (Max a b) = if is_never b then Some b else if is_never a then Some a else None
law4 t = None

abbrev pub law5 : Law
law5 (Lt a b) = if same_tree a b then Some Never else None
law5 t = None

abbrev pub law6 : Law
law6 (Lt a b) = if is_never a then Some a else None
law6 t = None

abbrev pub law7 : Law
law7 (Lt a b) = if is_never b then Some a else None
law7 t = None

abbrev pub law8 : Law
law8 (Inc (Inc a c) d) = Some (Inc a (c + d))
law8 t = None

abbrev pub law9 : Law
law9 (Inc a c) = if is_never a then Some a else None
law9 t = None

abbrev pub law10 : Law
law10 (Min a b) = if is_max_of a b then Some a else if is_max_of b a then Some b else None
law10 t = None

abbrev pub law11 : Law
law11 (Max a b) = if is_min_of a b then Some a else if is_min_of b a then Some b else None
law11 t = None

abbrev pub law12 : Law
law12 (Lt a b) = if is_min_of a b then Some Never else None
law12 t = None

abbrev pub law13 : Law
law13 (Lt a (Max x y)) = if same_tree a x then Some (Lt a y) else if same_tree a y then Some (Lt a x) else None
law13 t = None

abbrev pub law14 : Law
law14 (Lt (Min x y) a) = if same_tree x a then Some (Lt y a) else if same_tree y a then Some (Lt x a) else None
law14 t = None

abbrev pub law15 : Law
law15 (Lt a b) = if is_lt_before b a then Some a else None
law15 t = None

abbrev pub law16 : Law
law16 (Min a b) = if is_lt_of a b then Some a else if is_lt_of b a then Some b else None
law16 t = None

abbrev pub law17 : Law
law17 (Max a b) = if is_lt_of a b then Some b else if is_lt_of b a then Some a else None
law17 t = None

abbrev pub law18 : Law
law18 (Lt a b) = if is_inc_of a b then Some a else None
law18 t = None

abbrev pub law19 : Law
law19 (Lt a b) = if is_inc_of b a then Some Never else None
law19 t = None

abbrev pub law20 : Law
law20 (Min (Lt b (Lt c a)) (Lt d (Lt e f))) =
    if (same_tree b c && same_tree b f) && (same_tree a d && same_tree a e) then Some (Max a b) else None
law20 t = None

-- the laws in their order
abbrev pub laws : List Law
laws = law1 ∷ law2 ∷ law3 ∷ law4 ∷ law5 ∷ law6 ∷ law7 ∷ law8 ∷ law9 ∷ law10 ∷ law11 ∷ law12 ∷ law13 ∷ law14 ∷ law15 ∷ law16 ∷ law17 ∷ law18 ∷ law19 ∷ law20 ∷ []

-- what the first law that fits makes of a tree
abbrev pub first_law : List Law → Law
first_law [] t = None
first_law (l ∷ ls) t = option_or (l t) (first_law ls t)

-- what the law with the lowest number that fits makes of the whole tree
unfoldable pub law : Law
law t = first_law laws t

-- what f makes of the value, and t where there is none
abbrev pub or_else : Option Tree → (Tree → Tree) → Tree → Tree
or_else None f t = t
or_else (Some u) f t = f u

-- law by law, n times at most, as long as one fits
abbrev pub settle : ℕ → Tree → Tree
settle zero t = t
settle (suc n) t = or_else (law t) (settle n) t

-- law by law, until none fits: each right side is smaller
abbrev pub settled : Tree → Tree
settled t = settle (size t) t

-- the operands first, and then the whole
abbrev pub simplified : Tree → Tree
simplified (Input i) = Input i
simplified Never = Never
simplified (Min a b) = settled (Min (simplified a) (simplified b))
simplified (Max a b) = settled (Max (simplified a) (simplified b))
simplified (Lt a b) = settled (Lt (simplified a) (simplified b))
simplified (Inc a c) = settled (Inc (simplified a) c)
