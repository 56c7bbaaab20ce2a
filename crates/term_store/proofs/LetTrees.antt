-- The trees of an extracted network are those of its roots.
use Rattle.std.proofs.Common.{◌≡◌, ℕ, zero, suc, ◌<◌, ◌≤◌, refl, ap, subst, arith, sym, ◌∙◌, Bool, true, false, true≢false, ◌&&◌, nat_eq, length, List, [], ◌∷◌, ◌++◌, map, length-append, if◌then◌else◌, inl, inr}
use Rattle.std.specs.List.{All, slice_index_or}
use Rattle.std.proofs.lemmas.Bool.{cases_lt}
use Rattle.std.proofs.lemmas.Bool.Decides.{nat_tests}
use Rattle.std.proofs.lemmas.List.{get_or_append_left, get_or_push, map-append, get_or-map}
use Rattle.std.proofs.lemmas.List.Sums.{fold-append}
use Rattle.net_model.specs.Formula.{Equation}
use Rattle.net_model.specs.Rules.{names_of}
use Rattle.term_store.specs.declared.node.Term.{Term}
use Rattle.term_store.specs.declared.node.Node.{Node}
use Rattle.term_store.specs.declared.node.Node.TheVariants as node
use Rattle.term_store.specs.Tree.{Tree, Never, Min, Max, Lt, Inc}
use Rattle.term_store.specs.Terms.{tree_in, tree_over, delayed, let_trees}
use Rattle.term_store.specs.Nodes.{node_at, IsNodeOver, IsNodes}
use Rattle.term_store.specs.Trees.{node_tree, trees, tree, trees_at}
use Rattle.term_store.specs.Reach.{IsOperand}
use Rattle.term_store.specs.Extracted.{is_operator, becomes_let, let_places, let_number, named, operand, let_body, let_at, lets_below, root_outputs}
use Rattle.term_store.proofs.Distinct.{tree_is}
use Rattle.term_store.proofs.Lets.{places_yes, places_no, lets_yes, lets_no}

-- with each place that is reached, its operands are
abbrev pub KeepsOperands : List Node → (ℕ → Bool) → Type 0
KeepsOperands ns r = (place operand : ℕ) → place < length ns → r place ≡ true → IsOperand operand (node_at ns place) → r operand ≡ true

-- where a let's place is among the places of the lets
pub let_stands : (ns : List Node) (r : ℕ → Bool) (n a : ℕ) → a < n → becomes_let ns r a ≡ true → (let_number ns r a < let_number ns r n) × (slice_index_or (let_places ns r n) (let_number ns r a) 0 ≡ a)
let_stands ns r zero a h e = absurd (omega arith)
let_stands ns r (suc n) a h e = go (becomes_let ns r n) refl (λ b. let_stands ns r n a b e)
  where
    go : (b : Bool) → becomes_let ns r n ≡ b → (a < n → (let_number ns r a < let_number ns r n) × (slice_index_or (let_places ns r n) (let_number ns r a) 0 ≡ a))
        → (let_number ns r a < let_number ns r (suc n)) × (slice_index_or (let_places ns r (suc n)) (let_number ns r a) 0 ≡ a)
    go true f rest = elim (cases_lt a n) [
      | inl b ↦ let k = rest b in (
        omega (arith, k.0, ap length (places_yes ns r n f), length-append (let_places ns r n) (n ∷ [])),
        ap (λ ps. slice_index_or ps (let_number ns r a) 0) (places_yes ns r n f) ∙ get_or_append_left (let_places ns r n) (n ∷ []) 0 (let_number ns r a) k.0 ∙ k.1,
      )
      | inr b ↦ let same : n ≡ a = omega arith in
          subst (λ q. (let_number ns r q < let_number ns r (suc n)) × (slice_index_or (let_places ns r (suc n)) (let_number ns r q) 0 ≡ q)) same (
            omega (arith, ap length (places_yes ns r n f), length-append (let_places ns r n) (n ∷ [])),
            ap (λ ps. slice_index_or ps (let_number ns r n) 0) (places_yes ns r n f) ∙ get_or_push (let_places ns r n) n 0 (let_number ns r n) refl,
          )
    ]
    go false f rest = elim (cases_lt a n) [
      | inl b ↦ let k = rest b in
          (omega (arith, k.0, ap length (places_no ns r n f)), ap (λ ps. slice_index_or ps (let_number ns r a) 0) (places_no ns r n f) ∙ k.1)
      | inr b ↦ let same : n ≡ a = omega arith in absurd (true≢false (sym e ∙ sym (ap (becomes_let ns r) same) ∙ f))
    ]

-- the tree of a node, as a formula names it
named_tree : (ns : List Node) (ts : List Tree) (k : ℕ) (t : Tree) (m : Node) → node_tree (trees ns) m ≡ t → (is_operator m ≡ true → tree_in ts k ≡ t) → tree_over ts (named m k) ≡ t
named_tree ns ts k t (node.Input i) e f = e
named_tree ns ts k t node.Never e f = e
named_tree ns ts k t (node.Min a b) e f = f refl
named_tree ns ts k t (node.Max a b) e f = f refl
named_tree ns ts k t (node.Lt a b) e f = f refl
named_tree ns ts k t (node.Inc a c) e f = f refl

pub becomes_from : (ns : List Node) (r : ℕ → Bool) (p : ℕ) → r p ≡ true → is_operator (node_at ns p) ≡ true → becomes_let ns r p ≡ true
becomes_from ns r p e f = ap (λ b. b && is_operator (node_at ns p)) e ∙ f

let_tree_at : (ns : List Node) (r : ℕ → Bool) (n a : ℕ) → a < n → becomes_let ns r a ≡ true → tree_in (map (tree ns) (let_places ns r n)) (let_number ns r a) ≡ tree ns a
let_tree_at ns r n a h e = let k = let_stands ns r n a h e in
    get_or-map (tree ns) (let_places ns r n) (let_number ns r a) 0 Never k.0 ∙ ap (tree ns) k.1

-- the tree of an operand
pub operand_tree : (ns : List Node) (r : ℕ → Bool) (n : ℕ) (a : Term) → IsNodes ns → n ≤ length ns → a.0 < n → r a.0 ≡ true
    → tree_over (map (tree ns) (let_places ns r n)) (operand ns (let_number ns r) a) ≡ tree ns a.0
operand_tree ns r n a s le h e =
    named_tree ns (map (tree ns) (let_places ns r n)) (let_number ns r a.0) (tree ns a.0) (node_at ns a.0) (sym (tree_is ns a.0 s (omega arith)))
    (λ o. let_tree_at ns r n a.0 h (becomes_from ns r a.0 e o))

some_delay : (t : Tree) (c : ℕ) → 1 ≤ c → delayed t c ≡ Inc t c
some_delay t c h = let e : nat_eq c 0 ≡ false = grind (arith, nat_tests, h) in ap (λ b. if b then t else Inc t c) e

-- the tree of a let's body
body_tree : (ns : List Node) (r : ℕ → Bool) (n : ℕ) (m : Node) → IsNodes ns → n ≤ length ns → IsNodeOver n m → ((p : ℕ) → IsOperand p m → r p ≡ true)
    → tree_over (map (tree ns) (let_places ns r n)) (let_body ns (let_number ns r) m) ≡ node_tree (trees ns) m
body_tree ns r n (node.Input i) s le o k = refl
body_tree ns r n node.Never s le o k = refl
body_tree ns r n (node.Min a b) s le o k = λ i. Min (operand_tree ns r n a s le o.0 (k a.0 (inl refl)) i) (operand_tree ns r n b s le o.1 (k b.0 (inr refl)) i)
body_tree ns r n (node.Max a b) s le o k = λ i. Max (operand_tree ns r n a s le o.0 (k a.0 (inl refl)) i) (operand_tree ns r n b s le o.1 (k b.0 (inr refl)) i)
body_tree ns r n (node.Lt a b) s le o k = λ i. Lt (operand_tree ns r n a s le o.0 (k a.0 (inl refl)) i) (operand_tree ns r n b s le o.1 (k b.0 (inr refl)) i)
body_tree ns r n (node.Inc a c) s le o k =
    some_delay (tree_over (map (tree ns) (let_places ns r n)) (operand ns (let_number ns r) a)) c o.1 ∙ ap (λ (t : Tree). Inc t c) (operand_tree ns r n a s le o.0 (k a.0 refl))

let_tree_more : (es : List Equation) (e : Equation) → let_trees (es ++ e ∷ []) ≡ let_trees es ++ tree_over (let_trees es) e.body ∷ []
let_tree_more es e = fold-append (λ (ts : List Tree) (x : Equation). ts ++ tree_over ts x.body ∷ []) [] es (e ∷ [])

pub reached_place : (ns : List Node) (r : ℕ → Bool) (p : ℕ) → becomes_let ns r p ≡ true → (r p ≡ true) × (is_operator (node_at ns p) ≡ true)
reached_place ns r p e = both (r p) (is_operator (node_at ns p)) e
  where
    both : (p q : Bool) → (p && q) ≡ true → (p ≡ true) × (q ≡ true)
    both true q h = (refl, h)
    both false q h = absurd (true≢false (sym h))

-- the trees of the lets are those of their places
pub lets_trees : (ns : List Node) (r : ℕ → Bool) → IsNodes ns → KeepsOperands ns r → (n : ℕ) → n ≤ length ns → let_trees (lets_below ns r n) ≡ map (tree ns) (let_places ns r n)
lets_trees ns r s k zero le = refl
lets_trees ns r s k (suc n) le = go (becomes_let ns r n) refl (lets_trees ns r s k n (omega arith))
  where
    go : (b : Bool) → becomes_let ns r n ≡ b → let_trees (lets_below ns r n) ≡ map (tree ns) (let_places ns r n) → let_trees (lets_below ns r (suc n)) ≡ map (tree ns) (let_places ns r (suc n))
    go true e rest =
        let h : n < length ns = omega arith in
        let t : tree_over (map (tree ns) (let_places ns r n)) (let_body ns (let_number ns r) (node_at ns n)) ≡ tree ns n =
        body_tree ns r n (node_at ns n) s (omega arith) (s.lower n h) (λ p o. k n p h (reached_place ns r n e).0 o) ∙ sym (tree_is ns n s h) in
        ap let_trees (lets_yes ns r n e) ∙ let_tree_more (lets_below ns r n) (let_at ns r n)
        ∙ (λ i. rest i ++ tree_over (rest i) (let_body ns (let_number ns r) (node_at ns n)) ∷ [])
        ∙ ap (λ (u : Tree). map (tree ns) (let_places ns r n) ++ u ∷ []) t
        ∙ sym (ap (map (tree ns)) (places_yes ns r n e) ∙ map-append (tree ns) (let_places ns r n) (n ∷ []))
    go false e rest = ap let_trees (lets_no ns r n e) ∙ rest ∙ sym (ap (map (tree ns)) (places_no ns r n e))

-- the trees of the outputs are those of the roots
pub outputs_trees : (ns : List Node) (r : ℕ → Bool) (roots : List Term) (names : List (List ℕ)) → IsNodes ns → length names ≡ length roots → All (λ t. t.0 < length ns) roots → All (λ t. r t.0 ≡ true) roots
    → map (λ e. tree_over (map (tree ns) (let_places ns r (length ns))) e.body) (root_outputs ns (let_number ns r) roots names) ≡ trees_at ns roots
outputs_trees ns r [] [] s len w m = refl
outputs_trees ns r [] (name ∷ names) s len w m = refl
outputs_trees ns r (root ∷ roots) [] s len w m = absurd (omega (arith, len))
outputs_trees ns r (root ∷ roots) (name ∷ names) s len w m =
    let here = operand_tree ns r (length ns) root s (omega arith) (w 0 root (omega arith)) (m 0 root (omega arith)) in
    let rest = outputs_trees ns r roots names s (omega (arith, len)) (λ i d h. w (suc i) d (omega arith)) (λ i d h. m (suc i) d (omega arith)) in
    λ i. here i ∷ rest i

-- the names of the outputs
pub outputs_names : (ns : List Node) (f : ℕ → ℕ) (roots : List Term) (names : List (List ℕ)) → length names ≡ length roots → names_of (root_outputs ns f roots names) ≡ names
outputs_names ns f [] [] len = refl
outputs_names ns f [] (name ∷ names) len = absurd (omega (arith, len))
outputs_names ns f (root ∷ roots) [] len = refl
outputs_names ns f (root ∷ roots) (name ∷ names) len = ap (λ (xs : List (List ℕ)). name ∷ xs) (outputs_names ns f roots names (omega (arith, len)))
