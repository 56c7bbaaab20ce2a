-- The rules of networks that an extracted network's formulas keep.
use Rattle.std.proofs.Common.{◌≡◌, ℕ, zero, suc, ◌<◌, ◌≤◌, ◌+◌, refl, ap, subst, arith, sym, ◌∙◌, Bool, true, false, true≢false, length, List, [], ◌∷◌, ◌++◌, map, inl, inr}
use Rattle.std.specs.List.{All, AllByRecursion, slice_index_or}
use Rattle.std.proofs.lemmas.List.{map-append}
use Rattle.net_model.specs.Formula.{Equation}
use Rattle.net_model.specs.Rules.{IsOver, AreLets, nesting, let_spans}
use Rattle.term_store.specs.declared.node.Term.{Term}
use Rattle.term_store.specs.declared.node.Node.{Node}
use Rattle.term_store.specs.declared.node.Node.TheVariants as node
use Rattle.term_store.specs.Tree.{Tree, Never, Input, Min, Max, Lt, Inc, span}
use Rattle.term_store.specs.Terms.{let_trees}
use Rattle.term_store.specs.Subterms.{same_tree, is_among, all_subterms}
use Rattle.term_store.specs.Nodes.{node_at, IsNodeOver, IsNodes}
use Rattle.term_store.specs.Trees.{tree}
use Rattle.term_store.specs.Reach.{IsOperand}
use Rattle.term_store.specs.Extracted.{is_operator, becomes_let, let_places, let_number, named, operand, let_body, let_at, lets_below, root_outputs}
use Rattle.term_store.proofs.Parts.{same_is, IsIn, or_either, all_among}
use Rattle.term_store.proofs.Lets.{places_yes, places_no, lets_yes, lets_no, length_lets}
use Rattle.term_store.proofs.LetTrees.{KeepsOperands, let_stands, becomes_from, reached_place}
use Rattle.term_store.proofs.TermValues.{spans_from}

-- the inputs that are reached have places below the count
abbrev pub ReachesInputs : List Node → (ℕ → Bool) → ℕ → Type 0
ReachesInputs ns r count = (place i : ℕ) → place < length ns → r place ≡ true → node_at ns place ≡ node.Input i → i < count

-- operands name inputs and lets that there are
named_over : (ns : List Node) (r : ℕ → Bool) (count n k : ℕ) (m : Node) → ((i : ℕ) → m ≡ node.Input i → i < count) → (is_operator m ≡ true → k < n) → IsOver count n (named m k)
named_over ns r count n k (node.Input i) f g = f i refl
named_over ns r count n k node.Never f g = tt
named_over ns r count n k (node.Min a b) f g = g refl
named_over ns r count n k (node.Max a b) f g = g refl
named_over ns r count n k (node.Lt a b) f g = g refl
named_over ns r count n k (node.Inc a c) f g = g refl

pub operand_over : (ns : List Node) (r : ℕ → Bool) (count n : ℕ) (a : Term) → ReachesInputs ns r count → n ≤ length ns → a.0 < n → r a.0 ≡ true → IsOver count (let_number ns r n) (operand ns (let_number ns r) a)
operand_over ns r count n a inputs le h e =
    named_over ns r count (let_number ns r n) (let_number ns r a.0) (node_at ns a.0) (λ i at. inputs a.0 i (omega arith) e at)
    (λ o. (let_stands ns r n a.0 h (becomes_from ns r a.0 e o)).0)

body_over : (ns : List Node) (r : ℕ → Bool) (count n : ℕ) (m : Node) → ReachesInputs ns r count → n < length ns → r n ≡ true → node_at ns n ≡ m → IsNodeOver n m → ((p : ℕ) → IsOperand p m → r p ≡ true)
    → IsOver count (let_number ns r n) (let_body ns (let_number ns r) m)
body_over ns r count n (node.Input i) inputs h e at o k = inputs n i h e at
body_over ns r count n node.Never inputs h e at o k = tt
body_over ns r count n (node.Min a b) inputs h e at o k =
    (operand_over ns r count n a inputs (omega arith) o.0 (k a.0 (inl refl)), operand_over ns r count n b inputs (omega arith) o.1 (k b.0 (inr refl)))
body_over ns r count n (node.Max a b) inputs h e at o k =
    (operand_over ns r count n a inputs (omega arith) o.0 (k a.0 (inl refl)), operand_over ns r count n b inputs (omega arith) o.1 (k b.0 (inr refl)))
body_over ns r count n (node.Lt a b) inputs h e at o k =
    (operand_over ns r count n a inputs (omega arith) o.0 (k a.0 (inl refl)), operand_over ns r count n b inputs (omega arith) o.1 (k b.0 (inr refl)))
body_over ns r count n (node.Inc a c) inputs h e at o k = operand_over ns r count n a inputs (omega arith) o.0 (k a.0 refl)

lets_push : (i k : ℕ) (es : List Equation) (e : Equation) → AreLets i k es → IsOver i (k + length es) e.body → AreLets i k (es ++ e ∷ [])
lets_push i k [] e o h = let z : k + 0 ≡ k = omega arith in (subst (λ m. IsOver i m e.body) z h, tt)
lets_push i k (x ∷ es) e o h =
    let z : k + suc (length es) ≡ suc k + length es = omega arith in
    (o.0, lets_push i (suc k) es e o.1 (subst (λ m. IsOver i m e.body) z h))

pub lets_over : (ns : List Node) (r : ℕ → Bool) (count : ℕ) → IsNodes ns → KeepsOperands ns r → ReachesInputs ns r count → (n : ℕ) → n ≤ length ns → AreLets count 0 (lets_below ns r n)
lets_over ns r count s k inputs zero le = tt
lets_over ns r count s k inputs (suc n) le = go (becomes_let ns r n) refl (lets_over ns r count s k inputs n (omega arith))
  where
    go : (b : Bool) → becomes_let ns r n ≡ b → AreLets count 0 (lets_below ns r n) → AreLets count 0 (lets_below ns r (suc n))
    go true e rest =
        let h : n < length ns = omega arith in
        let reached = (reached_place ns r n e).0 in
        let here : IsOver count (let_number ns r n) (let_body ns (let_number ns r) (node_at ns n)) =
        body_over ns r count n (node_at ns n) inputs h reached refl (s.lower n h) (λ p o. k n p h reached o) in
        let z : let_number ns r n ≡ 0 + length (lets_below ns r n) = omega (arith, length_lets ns r n) in
        subst (AreLets count 0) (sym (lets_yes ns r n e))
        (lets_push count 0 (lets_below ns r n) (let_at ns r n) rest (subst (λ m. IsOver count m (let_body ns (let_number ns r) (node_at ns n))) z here))
    go false e rest = subst (AreLets count 0) (sym (lets_no ns r n e)) rest

pub outputs_over : (ns : List Node) (r : ℕ → Bool) (count : ℕ) (roots : List Term) (names : List (List ℕ)) → ReachesInputs ns r count → All (λ t. t.0 < length ns) roots → All (λ t. r t.0 ≡ true) roots
    → AllByRecursion (λ e. IsOver count (let_number ns r (length ns)) e.body) (root_outputs ns (let_number ns r) roots names)
outputs_over ns r count [] names inputs w m = tt
outputs_over ns r count (root ∷ roots) [] inputs w m = tt
outputs_over ns r count (root ∷ roots) (name ∷ names) inputs w m = (
  operand_over ns r count (length ns) root inputs (omega arith) (w 0 root (omega arith)) (m 0 root (omega arith)),
  outputs_over ns r count roots names inputs (λ i d h. w (suc i) d (omega arith)) (λ i d h. m (suc i) d (omega arith)),
)

-- nesting

named_flat : (m : Node) (k : ℕ) → nesting (named m k) ≡ 0
named_flat (node.Input i) k = refl
named_flat node.Never k = refl
named_flat (node.Min a b) k = refl
named_flat (node.Max a b) k = refl
named_flat (node.Lt a b) k = refl
named_flat (node.Inc a c) k = refl

body_shallow : (ns : List Node) (f : ℕ → ℕ) (m : Node) → nesting (let_body ns f m) ≤ 64
body_shallow ns f (node.Input i) = omega arith
body_shallow ns f node.Never = omega arith
body_shallow ns f (node.Min a b) = omega (arith, named_flat (node_at ns a.0) (f a.0), named_flat (node_at ns b.0) (f b.0))
body_shallow ns f (node.Max a b) = omega (arith, named_flat (node_at ns a.0) (f a.0), named_flat (node_at ns b.0) (f b.0))
body_shallow ns f (node.Lt a b) = omega (arith, named_flat (node_at ns a.0) (f a.0), named_flat (node_at ns b.0) (f b.0))
body_shallow ns f (node.Inc a c) = omega (arith, named_flat (node_at ns a.0) (f a.0))

pub shallow : (ns : List Node) (r : ℕ → Bool) (f : ℕ → ℕ) (ps : List ℕ) (roots : List Term) (names : List (List ℕ)) → AllByRecursion (λ e. nesting e.body ≤ 64) (map (let_at ns r) ps ++ root_outputs ns f roots names)
shallow ns r f [] [] names = tt
shallow ns r f [] (root ∷ roots) [] = tt
shallow ns r f [] (root ∷ roots) (name ∷ names) = (omega (arith, named_flat (node_at ns root.0) (f root.0)), shallow ns r f [] roots names)
shallow ns r f (p ∷ ps) roots names = (body_shallow ns (let_number ns r) (node_at ns p), shallow ns r f ps roots names)

-- spans

pub span_in : (s t : Tree) → IsIn s t → span s ≤ span t
span_in s Never h = omega (arith, ap span h)
span_in s (Input i) h = omega (arith, ap span h)
span_in s (Min a b) h = elim h [ inl e ↦ omega (arith, ap span e) | inr k ↦ elim k [ inl p ↦ omega (arith, span_in s a p) | inr q ↦ omega (arith, span_in s b q) ] ]
span_in s (Max a b) h = elim h [ inl e ↦ omega (arith, ap span e) | inr k ↦ elim k [ inl p ↦ omega (arith, span_in s a p) | inr q ↦ omega (arith, span_in s b q) ] ]
span_in s (Lt a b) h = elim h [ inl e ↦ omega (arith, ap span e) | inr k ↦ elim k [ inl p ↦ omega (arith, span_in s a p) | inr q ↦ omega (arith, span_in s b q) ] ]
span_in s (Inc a c) h = elim h [ inl e ↦ omega (arith, ap span e) | inr p ↦ omega (arith, span_in s a p) ]

pub short_at : (ts : List Tree) (k : ℕ) (d : Tree) → AllByRecursion (λ t. span t ≤ 1000000) ts → k < length ts → span (slice_index_or ts k d) ≤ 1000000
short_at [] k d h lt = absurd (omega arith)
short_at (t ∷ ts) zero d h lt = h.0
short_at (t ∷ ts) (suc k) d h lt = short_at ts k d h.1 (omega arith)

-- what is among the subterms of short terms is short
pub short_among : (t : Tree) (ts : List Tree) → AllByRecursion (λ t. span t ≤ 1000000) ts → is_among t (all_subterms ts) ≡ true → span t ≤ 1000000
short_among t ts h e = let f = all_among t ts Never e in omega (arith, span_in t (slice_index_or ts f.0 Never) f.2, short_at ts f.0 Never h f.1)

short_push : (spans : List ℕ) (s : ℕ) → AllByRecursion (λ s. s ≤ 1000000) spans → s ≤ 1000000 → AllByRecursion (λ s. s ≤ 1000000) (spans ++ s ∷ [])
short_push [] s h k = (k, tt)
short_push (x ∷ spans) s h k = (h.0, short_push spans s h.1 k)

pub places_short : (ns : List Node) (r : ℕ → Bool) → ((p : ℕ) → r p ≡ true → span (tree ns p) ≤ 1000000) → (n : ℕ) → AllByRecursion (λ s. s ≤ 1000000) (map span (map (tree ns) (let_places ns r n)))
places_short ns r h zero = tt
places_short ns r h (suc n) = go (becomes_let ns r n) refl (places_short ns r h n)
  where
    go : (b : Bool) → becomes_let ns r n ≡ b → AllByRecursion (λ s. s ≤ 1000000) (map span (map (tree ns) (let_places ns r n))) → AllByRecursion (λ s. s ≤ 1000000) (map span (map (tree ns) (let_places ns r (suc n))))
    go true e rest =
        let split : map span (map (tree ns) (let_places ns r (suc n))) ≡ map span (map (tree ns) (let_places ns r n)) ++ span (tree ns n) ∷ [] =
        ap (λ ps. map span (map (tree ns) ps)) (places_yes ns r n e) ∙ ap (map span) (map-append (tree ns) (let_places ns r n) (n ∷ [])) ∙ map-append span (map (tree ns) (let_places ns r n)) (tree ns n ∷ []) in
        subst (AllByRecursion (λ s. s ≤ 1000000)) (sym split) (short_push (map span (map (tree ns) (let_places ns r n))) (span (tree ns n)) rest (h n (reached_place ns r n e).0))
    go false e rest = subst (λ ps. AllByRecursion (λ s. s ≤ 1000000) (map span (map (tree ns) ps))) (sym (places_no ns r n e)) rest

pub let_spans_are : (es : List Equation) → map span (let_trees es) ≡ let_spans es
let_spans_are es = spans_from [] es

pub spans_short : (ts : List Tree) → AllByRecursion (λ t. span t ≤ 1000000) ts → AllByRecursion (λ s. s ≤ 1000000) (map span ts)
spans_short [] h = tt
spans_short (t ∷ ts) h = (h.0, spans_short ts h.1)

pub among_holds : (P : Tree → Type 0) (t : Tree) (ts : List Tree) → AllByRecursion P ts → is_among t ts ≡ true → P t
among_holds P t [] h e = absurd (true≢false (sym e))
among_holds P t (u ∷ us) h e = elim (or_either (same_tree t u) (is_among t us) e) [
  | inl k ↦ subst P (sym (same_is t u k)) h.0
  | inr k ↦ among_holds P t us h.1 k
]
