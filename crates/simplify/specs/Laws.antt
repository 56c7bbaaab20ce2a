-- The twenty laws: what is the left side of each, and what its right side.
-- min and max are a distributive lattice with the greatest value never (laws 1 to 4, 10 and 11); the max of min and lt (law 20) is
-- after Smith (Space-Time Algebra, ISCA 2018).
use Rattle.std.specs.Prelude.{◌≡◌, ℕ, ◌≤◌, ◌+◌, ◌⊎◌, IsTrue}
use Rattle.term_store.specs.Tree.{Tree, Never, Input, Min, Max, Lt, Inc}
use Rattle.term_store.specs.Subterms.{subterms, is_among}

-- `min(a, a)` is a
abbrev pub IsLaw1 : Tree → Tree → Type 0
IsLaw1 t u = (a : Tree) × (t ≡ Min a a) × (u ≡ a)

-- `max(a, a)` is a
abbrev pub IsLaw2 : Tree → Tree → Type 0
IsLaw2 t u = (a : Tree) × (t ≡ Max a a) × (u ≡ a)

-- `min(a, never)` and `min(never, a)` are a
abbrev pub IsLaw3 : Tree → Tree → Type 0
IsLaw3 t u = (a : Tree) × ((t ≡ Min a Never) ⊎ (t ≡ Min Never a)) × (u ≡ a)

-- `max(a, never)` and `max(never, a)` are never
abbrev pub IsLaw4 : Tree → Tree → Type 0
IsLaw4 t u = (a : Tree) × ((t ≡ Max a Never) ⊎ (t ≡ Max Never a)) × (u ≡ Never)

-- `lt(a, a)` is never
abbrev pub IsLaw5 : Tree → Tree → Type 0
IsLaw5 t u = (a : Tree) × (t ≡ Lt a a) × (u ≡ Never)

-- `lt(never, a)` is never
abbrev pub IsLaw6 : Tree → Tree → Type 0
IsLaw6 t u = (a : Tree) × (t ≡ Lt Never a) × (u ≡ Never)

-- `lt(a, never)` is a
abbrev pub IsLaw7 : Tree → Tree → Type 0
IsLaw7 t u = (a : Tree) × (t ≡ Lt a Never) × (u ≡ a)

-- `inc(inc(a, c), d)` is `inc(a, c + d)`
abbrev pub IsLaw8 : Tree → Tree → Type 0
IsLaw8 t u = (a : Tree) × (c d : ℕ) × (t ≡ Inc (Inc a c) d) × (u ≡ Inc a (c + d))

-- `inc(never, c)` is never
abbrev pub IsLaw9 : Tree → Tree → Type 0
IsLaw9 t u = (c : ℕ) × (t ≡ Inc Never c) × (u ≡ Never)

-- `min(a, max(a, b))` is a, also with the operands of either in the other order
abbrev pub IsLaw10 : Tree → Tree → Type 0
IsLaw10 t u = (a b : Tree) × ((t ≡ Min a (Max a b)) ⊎ ((t ≡ Min a (Max b a)) ⊎ ((t ≡ Min (Max a b) a) ⊎ (t ≡ Min (Max b a) a)))) × (u ≡ a)

-- `max(a, min(a, b))` is a, also with the operands of either in the other order
abbrev pub IsLaw11 : Tree → Tree → Type 0
IsLaw11 t u = (a b : Tree) × ((t ≡ Max a (Min a b)) ⊎ ((t ≡ Max a (Min b a)) ⊎ ((t ≡ Max (Min a b) a) ⊎ (t ≡ Max (Min b a) a)))) × (u ≡ a)

-- `lt(a, min(a, b))` and `lt(a, min(b, a))` are never
abbrev pub IsLaw12 : Tree → Tree → Type 0
IsLaw12 t u = (a b : Tree) × ((t ≡ Lt a (Min a b)) ⊎ (t ≡ Lt a (Min b a))) × (u ≡ Never)

-- `lt(a, max(a, b))` and `lt(a, max(b, a))` are `lt(a, b)`
abbrev pub IsLaw13 : Tree → Tree → Type 0
IsLaw13 t u = (a b : Tree) × ((t ≡ Lt a (Max a b)) ⊎ (t ≡ Lt a (Max b a))) × (u ≡ Lt a b)

-- `lt(min(a, b), a)` and `lt(min(b, a), a)` are `lt(b, a)`
abbrev pub IsLaw14 : Tree → Tree → Type 0
IsLaw14 t u = (a b : Tree) × ((t ≡ Lt (Min a b) a) ⊎ (t ≡ Lt (Min b a) a)) × (u ≡ Lt b a)

-- `lt(lt(a, b), b)` is `lt(a, b)`
abbrev pub IsLaw15 : Tree → Tree → Type 0
IsLaw15 t u = (a b : Tree) × (t ≡ Lt (Lt a b) b) × (u ≡ Lt a b)

-- `min(a, lt(a, b))` and `min(lt(a, b), a)` are a
abbrev pub IsLaw16 : Tree → Tree → Type 0
IsLaw16 t u = (a b : Tree) × ((t ≡ Min a (Lt a b)) ⊎ (t ≡ Min (Lt a b) a)) × (u ≡ a)

-- `max(a, lt(a, b))` and `max(lt(a, b), a)` are `lt(a, b)`
abbrev pub IsLaw17 : Tree → Tree → Type 0
IsLaw17 t u = (a b : Tree) × ((t ≡ Max a (Lt a b)) ⊎ (t ≡ Max (Lt a b) a)) × (u ≡ Lt a b)

-- `lt(a, inc(a, c))` is a
abbrev pub IsLaw18 : Tree → Tree → Type 0
IsLaw18 t u = (a : Tree) × (c : ℕ) × (t ≡ Lt a (Inc a c)) × (u ≡ a)

-- `lt(inc(a, c), a)` is never
abbrev pub IsLaw19 : Tree → Tree → Type 0
IsLaw19 t u = (a : Tree) × (c : ℕ) × (t ≡ Lt (Inc a c) a) × (u ≡ Never)

-- `min(lt(b, lt(b, a)), lt(a, lt(a, b)))` is `max(a, b)`
abbrev pub IsLaw20 : Tree → Tree → Type 0
IsLaw20 t u = (a b : Tree) × (t ≡ Min (Lt b (Lt b a)) (Lt a (Lt a b))) × (u ≡ Max a b)

-- t is the left side of a law, and u its right side
abbrev pub IsLaw : Tree → Tree → Type 0
IsLaw t u = IsLaw1 t u ⊎ (IsLaw2 t u ⊎ (IsLaw3 t u ⊎ (IsLaw4 t u ⊎ (IsLaw5 t u ⊎ (IsLaw6 t u ⊎ (IsLaw7 t u ⊎ (IsLaw8 t u ⊎ (IsLaw9 t u ⊎ (IsLaw10 t u ⊎ (IsLaw11 t u ⊎ (IsLaw12 t u ⊎ (IsLaw13 t u ⊎ (IsLaw14 t u ⊎ (IsLaw15 t u ⊎ (IsLaw16 t u ⊎ (IsLaw17 t u ⊎ (IsLaw18 t u ⊎ (IsLaw19 t u ⊎ IsLaw20 t u))))))))))))))))))

-- the left side of no law is at any place of the term
abbrev pub IsReduced : Tree → Type 0
IsReduced t = (s u : Tree) → IsTrue (is_among s (subterms t)) → IsLaw s u → ⊥

-- each delay is at least one cycle
abbrev pub HasDelays : Tree → Type 0
HasDelays Never = Unit {0}
HasDelays (Input i) = Unit {0}
HasDelays (Min a b) = HasDelays a × HasDelays b
HasDelays (Max a b) = HasDelays a × HasDelays b
HasDelays (Lt a b) = HasDelays a × HasDelays b
HasDelays (Inc a c) = HasDelays a × (1 ≤ c)
