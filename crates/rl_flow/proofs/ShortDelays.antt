-- The delays of a network that is made from a number are of at most three cycles.
use Rattle.std.proofs.Common.{◌≡◌, ℕ, zero, suc, ◌≤◌, ◌+◌, ◌-◌, ◌*◌, subst, arith, sym, Bool, true, false, nat_eq, length, List, [], ◌∷◌, ◌++◌, map, if◌then◌else◌}
use Rattle.std.specs.List.{AllByRecursion}
use Rattle.std.proofs.lemmas.List.{map-append}
use Rattle.std.proofs.lemmas.List.Sums.{fold-append}
use Rattle.net_model.specs.Formula.{Equation, Net}
use Rattle.net_model.specs.Rules.{IsNetwork}
use Rattle.term_store.specs.Tree.{Tree, Never, Input, Min, Max, Lt, Inc}
use Rattle.term_store.specs.Terms.{tree_in, delayed, tree_over, let_trees, network_trees}
use Rattle.term_store.specs.Subterms.{subterms, all_subterms, is_among, distinct, AreNetworkTerms, register_bits}
use Rattle.term_store.proofs.Parts.{all_subterms_cons}
use Rattle.big_input.specs.Stream.{state}
use Rattle.big_input.specs.Generated.{operand, drawn_body, let_at, lets_below, output_count, output_at, outputs_below, big_network}
use Rattle.big_input.proofs.Rules.{operand_either, kept_by_body, all_push, all_append}
use Rattle.rl_flow.proofs.DelayBits.{IsShort, few_bits}

-- each inc in the term is of at most m cycles
abbrev HasShort : ℕ → Tree → Type 0
HasShort m Never = Unit {0}
HasShort m (Input i) = Unit {0}
HasShort m (Min a b) = HasShort m a × HasShort m b
HasShort m (Max a b) = HasShort m a × HasShort m b
HasShort m (Lt a b) = HasShort m a × HasShort m b
HasShort m (Inc a c) = (c ≤ m) × HasShort m a

-- ---- its parts

parts_short : (m : ℕ) (t : Tree) → HasShort m t → AllByRecursion (IsShort m) (subterms t)
parts_short m Never h = (tt, tt)
parts_short m (Input i) h = (tt, tt)
parts_short m (Min a b) h = (tt, all_append (IsShort m) (subterms a) (subterms b) (parts_short m a h.0) (parts_short m b h.1))
parts_short m (Max a b) h = (tt, all_append (IsShort m) (subterms a) (subterms b) (parts_short m a h.0) (parts_short m b h.1))
parts_short m (Lt a b) h = (tt, all_append (IsShort m) (subterms a) (subterms b) (parts_short m a h.0) (parts_short m b h.1))
parts_short m (Inc a c) h = (h.0, parts_short m a h.1)

all_parts_short : (m : ℕ) (ts : List Tree) → AllByRecursion (HasShort m) ts → AllByRecursion (IsShort m) (all_subterms ts)
all_parts_short m [] h = tt
all_parts_short m (t ∷ ts) h =
    subst (AllByRecursion (IsShort m)) (sym (all_subterms_cons t ts)) (all_append (IsShort m) (subterms t) (all_subterms ts) (parts_short m t h.0) (all_parts_short m ts h.1))

distinct_keeps : (P : Tree → Type 0) (ts : List Tree) → AllByRecursion P ts → AllByRecursion P (distinct ts)
distinct_keeps P [] h = tt
distinct_keeps P (t ∷ ts) h = go (is_among t ts) (distinct_keeps P ts h.1)
  where
    go : (b : Bool) → AllByRecursion P (distinct ts) → AllByRecursion P (if b then distinct ts else t ∷ distinct ts)
    go true rest = rest
    go false rest = (h.0, rest)

-- ---- the trees of the lets and of the outputs

tree_short : (m : ℕ) (ts : List Tree) (j : ℕ) → AllByRecursion (HasShort m) ts → HasShort m (tree_in ts j)
tree_short m [] j h = tt
tree_short m (t ∷ ts) zero h = h.0
tree_short m (t ∷ ts) (suc j) h = tree_short m ts j h.1

delayed_short : (m : ℕ) (t : Tree) (c : ℕ) → c ≤ m → HasShort m t → HasShort m (delayed t c)
delayed_short m t c le h = go (nat_eq c 0)
  where
    go : (b : Bool) → HasShort m (if b then t else Inc t c)
    go true = h
    go false = (le, h)

operand_short : (ts : List Tree) (number : ℕ) → AllByRecursion (HasShort 3) ts → HasShort 3 (tree_over ts (operand number))
operand_short ts number h = operand_either (λ f. HasShort 3 (tree_over ts f)) number (λ lt. tt) (λ le. tree_short 3 ts (number - 8) h)

body_short : (ts : List Tree) (s place : ℕ) → AllByRecursion (HasShort 3) ts → HasShort 3 (tree_over ts (drawn_body s place))
body_short ts s place h =
    let short = λ (number : ℕ). operand_short ts number h in
    kept_by_body (λ f. HasShort 3 (tree_over ts f)) s place (
      λ a b la lb. ((short a, short b), (short a, short b), (short a, short b)),
      λ a c la lc. delayed_short 3 (tree_over ts (operand a)) c lc (short a),
    )

trees_push : (es : List Equation) (e : Equation) → let_trees (es ++ e ∷ []) ≡ let_trees es ++ tree_over (let_trees es) e.body ∷ []
trees_push es e = fold-append (λ (trees : List Tree) (x : Equation). trees ++ tree_over trees x.body ∷ []) [] es (e ∷ [])

lets_short : (n k : ℕ) → AllByRecursion (HasShort 3) (let_trees (lets_below n k))
lets_short n zero = tt
lets_short n (suc k) =
    let trees = let_trees (lets_below n k) in
    subst (AllByRecursion (HasShort 3)) (sym (trees_push (lets_below n k) (let_at n k)))
    (all_push (HasShort 3) trees (tree_over trees (let_at n k).body) (lets_short n k) (body_short trees (state n (3 * k)) k (lets_short n k)))

outputs_short : (ts : List Tree) (n j : ℕ) → AllByRecursion (HasShort 3) ts → AllByRecursion (HasShort 3) (map (λ (e : Equation). tree_over ts e.body) (outputs_below n j))
outputs_short ts n zero h = tt
outputs_short ts n (suc j) h =
    subst (AllByRecursion (HasShort 3)) (sym (map-append (λ (e : Equation). tree_over ts e.body) (outputs_below n j) (output_at n j ∷ [])))
    (all_push (HasShort 3) (map (λ (e : Equation). tree_over ts e.body) (outputs_below n j)) (tree_over ts (output_at n j).body) (outputs_short ts n j h) (tree_short 3 ts (n - output_count n + j) h))

-- ---- the register bits

pub big_bits : ((n : ℕ) → 1 ≤ n → n ≤ 16384 → IsNetwork (big_network n)) → ((n : Net) → IsNetwork n → AreNetworkTerms (length n.inputs) (network_trees n)) →
    (n : ℕ) → 1 ≤ n → n ≤ 16384 → register_bits (network_trees (big_network n)) ≤ 65536
big_bits networks terms n some few =
    let trees = network_trees (big_network n) in
    let counts = terms (big_network n) (networks n some few) in
    let short = outputs_short (let_trees (lets_below n n)) n (output_count n) (lets_short n n) in
    omega (arith, few_bits 3 trees (distinct_keeps (IsShort 3) (all_subterms trees) (all_parts_short 3 trees short)), counts.few_joins, counts.few_delays)
