-- How many lets an extracted network has, and of which kinds.
use Rattle.std.proofs.Common.{◌≡◌, ℕ, zero, suc, ◌<◌, ◌≤◌, ◌+◌, refl, ap, subst, arith, sym, ◌∙◌, Bool, true, false, true≢false, ◌||◌, length, List, [], ◌∷◌, ◌++◌, map, filter, length-append, if◌then◌else◌, inl, inr}
use Rattle.std.specs.List.{All, IsDistinct, slice_index_or, sum_by}
use Rattle.std.proofs.lemmas.Bool.{cases_lt}
use Rattle.std.proofs.lemmas.List.{map-append}
use Rattle.std.proofs.lemmas.List.Elements.{filter-append}
use Rattle.std.proofs.lemmas.List.Sums.{sum_by-cons, sum_by-append}
use Rattle.std.proofs.lemmas.Map.Keys.{IsDistinct-push}
use Rattle.std.proofs.lemmas.Map.Made.{length-from_same_keys}
use Rattle.net_model.specs.Formula.{Equation}
use Rattle.net_model.specs.Rules.{joins, delays}
use Rattle.term_store.specs.declared.node.Term.{Term}
use Rattle.term_store.specs.declared.node.Node.{Node}
use Rattle.term_store.specs.declared.node.Node.TheVariants as node
use Rattle.term_store.specs.Tree.{Tree, Never, Input, Min, Max, Lt, Inc}
use Rattle.term_store.specs.Subterms.{same_tree, is_among, all_subterms, distinct_subterms, is_join, is_delay}
use Rattle.term_store.specs.Nodes.{node_at, IsNodes}
use Rattle.term_store.specs.Trees.{node_tree, trees, tree, trees_at, IsHeld}
use Rattle.term_store.specs.Reach.{is_reached}
use Rattle.term_store.specs.Extracted.{is_operator, becomes_let, let_places, let_number, named, let_body, let_at, lets_below, root_outputs}
use Rattle.term_store.proofs.Distinct.{tree_is, distinct_trees}
use Rattle.term_store.proofs.Put.{held_Min, held_Max, held_Lt, held_Inc}
use Rattle.term_store.proofs.Parts.{same_refl, same_is, IsIn, or_left, or_either, among_append, all_among}
use Rattle.term_store.proofs.Marks.{root_tree}
use Rattle.term_store.proofs.FewTerms.{same_laws, among_distinct, among_distinct_from, distinct_is, distinct_filter, among_filter, more_left, more_right, and_parts, and_both}
use Rattle.term_store.proofs.Lets.{places_yes, places_no, lets_yes, lets_no}
use Rattle.term_store.proofs.LetTrees.{becomes_from, reached_place}

-- the trees of the lets' places

abbrev pub place_trees : List Node → (ℕ → Bool) → ℕ → List Tree
place_trees ns r n = map (tree ns) (let_places ns r n)

pub trees_yes : (ns : List Node) (r : ℕ → Bool) (n : ℕ) → becomes_let ns r n ≡ true → place_trees ns r (suc n) ≡ place_trees ns r n ++ tree ns n ∷ []
trees_yes ns r n e = ap (map (tree ns)) (places_yes ns r n e) ∙ map-append (tree ns) (let_places ns r n) (n ∷ [])

pub trees_no : (ns : List Node) (r : ℕ → Bool) (n : ℕ) → becomes_let ns r n ≡ false → place_trees ns r (suc n) ≡ place_trees ns r n
trees_no ns r n e = ap (map (tree ns)) (places_no ns r n e)

places_among : (ns : List Node) (r : ℕ → Bool) (n p : ℕ) → p < n → becomes_let ns r p ≡ true → is_among (tree ns p) (place_trees ns r n) ≡ true
places_among ns r zero p h e = absurd (omega arith)
places_among ns r (suc n) p h e = go (becomes_let ns r n) refl (λ b. places_among ns r n p b e)
  where
    go : (b : Bool) → becomes_let ns r n ≡ b → (p < n → is_among (tree ns p) (place_trees ns r n) ≡ true) → is_among (tree ns p) (place_trees ns r (suc n)) ≡ true
    go true f rest = ap (is_among (tree ns p)) (trees_yes ns r n f) ∙ elim (cases_lt p n) [
      | inl b ↦ more_left (tree ns p) (place_trees ns r n) (tree ns n ∷ []) (rest b)
      | inr b ↦ let same : n ≡ p = omega arith in
          more_right (tree ns p) (place_trees ns r n) (tree ns n ∷ []) (subst (λ q. is_among (tree ns p) (tree ns q ∷ []) ≡ true) (sym same) (or_left (same_tree (tree ns p) (tree ns p)) false (same_refl (tree ns p))))
    ]
    go false f rest = ap (is_among (tree ns p)) (trees_no ns r n f) ∙ elim (cases_lt p n) [
      | inl b ↦ rest b
      | inr b ↦ let same : n ≡ p = omega arith in absurd (true≢false (sym e ∙ sym (ap (becomes_let ns r) same) ∙ f))
    ]

-- a place below n that becomes a let, with this tree
abbrev LetPlace : List Node → (ℕ → Bool) → ℕ → Tree → Type 0
LetPlace ns r n t = (p : ℕ) × (p < n) × (becomes_let ns r p ≡ true) × (t ≡ tree ns p)

among_places : (ns : List Node) (r : ℕ → Bool) (n : ℕ) (t : Tree) → is_among t (place_trees ns r n) ≡ true → LetPlace ns r n t
among_places ns r zero t h = absurd (true≢false (sym h))
among_places ns r (suc n) t h = go (becomes_let ns r n) refl (among_places ns r n t)
  where
    later : LetPlace ns r n t → LetPlace ns r (suc n) t
    later k = (k.0, omega (arith, k.1), k.2, k.3)

    go : (b : Bool) → becomes_let ns r n ≡ b → (is_among t (place_trees ns r n) ≡ true → LetPlace ns r n t) → LetPlace ns r (suc n) t
    go true f rest = elim (or_either (is_among t (place_trees ns r n)) (is_among t (tree ns n ∷ [])) (sym (among_append t (place_trees ns r n) (tree ns n ∷ [])) ∙ ap (is_among t) (sym (trees_yes ns r n f)) ∙ h)) [
      | inl k ↦ later (rest k)
      | inr k ↦ elim (or_either (same_tree t (tree ns n)) false k) [
        | inl e ↦ (n, omega arith, f, same_is t (tree ns n) e)
        | inr e ↦ absurd (true≢false (sym e))
      ]
    ]
    go false f rest = later (rest (ap (is_among t) (sym (trees_no ns r n f)) ∙ h))

new_tree : (ns : List Node) (r : ℕ → Bool) (n : ℕ) → IsNodes ns → n < length ns → is_among (tree ns n) (place_trees ns r n) ≡ false
new_tree ns r n s h = go (is_among (tree ns n) (place_trees ns r n)) refl
  where
    go : (b : Bool) → is_among (tree ns n) (place_trees ns r n) ≡ b → is_among (tree ns n) (place_trees ns r n) ≡ false
    go true e =
        let k = among_places ns r n (tree ns n) e in
        let same : n ≡ k.0 = distinct_trees ns s n k.0 h (omega (arith, k.1)) k.3 in
        absurd (omega (arith, k.1, same))
    go false e = e

distinct_places : (ns : List Node) (r : ℕ → Bool) → IsNodes ns → (n : ℕ) → n ≤ length ns → IsDistinct same_tree (place_trees ns r n)
unfolding IsDistinct
distinct_places ns r s zero le = tt
distinct_places ns r s (suc n) le = go (becomes_let ns r n) refl (distinct_places ns r s n (omega arith))
  where
    go : (b : Bool) → becomes_let ns r n ≡ b → IsDistinct same_tree (place_trees ns r n) → IsDistinct same_tree (place_trees ns r (suc n))
    go true f rest = subst (IsDistinct same_tree) (sym (trees_yes ns r n f)) (IsDistinct-push same_laws (place_trees ns r n) (tree ns n) rest (new_tree ns r n s (omega arith)))
    go false f rest = subst (IsDistinct same_tree) (sym (trees_no ns r n f)) rest

-- what is in a held tree is held

pub part_held : (ns : List Node) (t u : Tree) → IsNodes ns → IsHeld ns u → IsIn t u → IsHeld ns t
part_held ns t Never s h i = subst (IsHeld ns) (sym i) h
part_held ns t (Input k) s h i = subst (IsHeld ns) (sym i) h
part_held ns t (Min a b) s h i = let both = held_Min ns a b h.0 (node_at ns h.0) s h.1 refl (sym (tree_is ns h.0 s h.1) ∙ h.2) in elim i [
  | inl e ↦ subst (IsHeld ns) (sym e) h
  | inr k ↦ elim k [ inl p ↦ part_held ns t a s both.0 p | inr q ↦ part_held ns t b s both.1 q ]
]
part_held ns t (Max a b) s h i = let both = held_Max ns a b h.0 (node_at ns h.0) s h.1 refl (sym (tree_is ns h.0 s h.1) ∙ h.2) in elim i [
  | inl e ↦ subst (IsHeld ns) (sym e) h
  | inr k ↦ elim k [ inl p ↦ part_held ns t a s both.0 p | inr q ↦ part_held ns t b s both.1 q ]
]
part_held ns t (Lt a b) s h i = let both = held_Lt ns a b h.0 (node_at ns h.0) s h.1 refl (sym (tree_is ns h.0 s h.1) ∙ h.2) in elim i [
  | inl e ↦ subst (IsHeld ns) (sym e) h
  | inr k ↦ elim k [ inl p ↦ part_held ns t a s both.0 p | inr q ↦ part_held ns t b s both.1 q ]
]
part_held ns t (Inc a c) s h i = let one = held_Inc ns a c h.0 (node_at ns h.0) s h.1 refl (sym (tree_is ns h.0 s h.1) ∙ h.2) in elim i [
  | inl e ↦ subst (IsHeld ns) (sym e) h
  | inr p ↦ part_held ns t a s one p
]

-- kinds of operators

operator_node : (ts : List Tree) (m : Node) → (is_join (node_tree ts m) || is_delay (node_tree ts m)) ≡ true → is_operator m ≡ true
operator_node ts (node.Input i) e = e
operator_node ts node.Never e = e
operator_node ts (node.Min a b) e = refl
operator_node ts (node.Max a b) e = refl
operator_node ts (node.Lt a b) e = refl
operator_node ts (node.Inc a c) e = refl

abbrev pub bit : Bool → ℕ
bit b = if b then 1 else 0

one_kind : (ts : List Tree) (m : Node) → is_operator m ≡ true → bit (is_join (node_tree ts m)) + bit (is_delay (node_tree ts m)) ≡ 1
one_kind ts (node.Input i) e = absurd (true≢false (sym e))
one_kind ts node.Never e = absurd (true≢false (sym e))
one_kind ts (node.Min a b) e = refl
one_kind ts (node.Max a b) e = refl
one_kind ts (node.Lt a b) e = refl
one_kind ts (node.Inc a c) e = refl

named_joins : (m : Node) (k : ℕ) → joins (named m k) ≡ 0
named_joins (node.Input i) k = refl
named_joins node.Never k = refl
named_joins (node.Min a b) k = refl
named_joins (node.Max a b) k = refl
named_joins (node.Lt a b) k = refl
named_joins (node.Inc a c) k = refl

named_delays : (m : Node) (k : ℕ) → delays (named m k) ≡ 0
named_delays (node.Input i) k = refl
named_delays node.Never k = refl
named_delays (node.Min a b) k = refl
named_delays (node.Max a b) k = refl
named_delays (node.Lt a b) k = refl
named_delays (node.Inc a c) k = refl

body_joins : (ns : List Node) (f : ℕ → ℕ) (ts : List Tree) (m : Node) → joins (let_body ns f m) ≡ bit (is_join (node_tree ts m))
body_joins ns f ts (node.Input i) = refl
body_joins ns f ts node.Never = refl
body_joins ns f ts (node.Min a b) = omega (arith, named_joins (node_at ns a.0) (f a.0), named_joins (node_at ns b.0) (f b.0))
body_joins ns f ts (node.Max a b) = omega (arith, named_joins (node_at ns a.0) (f a.0), named_joins (node_at ns b.0) (f b.0))
body_joins ns f ts (node.Lt a b) = omega (arith, named_joins (node_at ns a.0) (f a.0), named_joins (node_at ns b.0) (f b.0))
body_joins ns f ts (node.Inc a c) = named_joins (node_at ns a.0) (f a.0)

body_delays : (ns : List Node) (f : ℕ → ℕ) (ts : List Tree) (m : Node) → delays (let_body ns f m) ≡ bit (is_delay (node_tree ts m))
body_delays ns f ts (node.Input i) = refl
body_delays ns f ts node.Never = refl
body_delays ns f ts (node.Min a b) = omega (arith, named_delays (node_at ns a.0) (f a.0), named_delays (node_at ns b.0) (f b.0))
body_delays ns f ts (node.Max a b) = omega (arith, named_delays (node_at ns a.0) (f a.0), named_delays (node_at ns b.0) (f b.0))
body_delays ns f ts (node.Lt a b) = omega (arith, named_delays (node_at ns a.0) (f a.0), named_delays (node_at ns b.0) (f b.0))
body_delays ns f ts (node.Inc a c) = omega (arith, named_delays (node_at ns a.0) (f a.0))

filter_push : (q : Tree → Bool) (ts : List Tree) (t : Tree) → length (filter q (ts ++ t ∷ [])) ≡ length (filter q ts) + bit (q t)
filter_push q ts t =
    ap length (filter-append q ts (t ∷ [])) ∙ length-append (filter q ts) (filter q (t ∷ [])) ∙ ap (λ k. length (filter q ts) + k) (one (q t))
  where
    one : (b : Bool) → length (if b then t ∷ [] else []) ≡ bit b
    one true = refl
    one false = refl

-- each let is a join or a delay
pub lets_are : (ns : List Node) (r : ℕ → Bool) → IsNodes ns → (n : ℕ) → n ≤ length ns → let_number ns r n ≡ length (filter is_join (place_trees ns r n)) + length (filter is_delay (place_trees ns r n))
lets_are ns r s zero le = refl
lets_are ns r s (suc n) le = go (becomes_let ns r n) refl (lets_are ns r s n (omega arith))
  where
    go : (b : Bool) → becomes_let ns r n ≡ b → let_number ns r n ≡ length (filter is_join (place_trees ns r n)) + length (filter is_delay (place_trees ns r n))
        → let_number ns r (suc n) ≡ length (filter is_join (place_trees ns r (suc n))) + length (filter is_delay (place_trees ns r (suc n)))
    go true e rest =
        let kind : bit (is_join (tree ns n)) + bit (is_delay (tree ns n)) ≡ 1 =
        subst (λ t. bit (is_join t) + bit (is_delay t) ≡ 1) (sym (tree_is ns n s (omega arith))) (one_kind (trees ns) (node_at ns n) (reached_place ns r n e).1) in
        omega (
          arith,
          kind,
          rest,
          ap length (places_yes ns r n e),
          length-append (let_places ns r n) (n ∷ []),
          ap (λ ts. length (filter is_join ts)) (trees_yes ns r n e),
          filter_push is_join (place_trees ns r n) (tree ns n),
          ap (λ ts. length (filter is_delay ts)) (trees_yes ns r n e),
          filter_push is_delay (place_trees ns r n) (tree ns n),
        )
    go false e rest =
        omega (arith, rest, ap length (places_no ns r n e), ap (λ ts. length (filter is_join ts)) (trees_no ns r n e), ap (λ ts. length (filter is_delay ts)) (trees_no ns r n e))

-- what the lets write

pub lets_joins : (ns : List Node) (r : ℕ → Bool) → IsNodes ns → (n : ℕ) → n ≤ length ns → sum_by (λ e. joins e.body) (lets_below ns r n) ≡ length (filter is_join (place_trees ns r n))
lets_joins ns r s zero le = refl
lets_joins ns r s (suc n) le = go (becomes_let ns r n) refl (lets_joins ns r s n (omega arith))
  where
    go : (b : Bool) → becomes_let ns r n ≡ b → sum_by (λ e. joins e.body) (lets_below ns r n) ≡ length (filter is_join (place_trees ns r n))
        → sum_by (λ e. joins e.body) (lets_below ns r (suc n)) ≡ length (filter is_join (place_trees ns r (suc n)))
    go true e rest =
        let here : joins (let_at ns r n).body ≡ bit (is_join (tree ns n)) =
        body_joins ns (let_number ns r) (trees ns) (node_at ns n) ∙ ap (λ t. bit (is_join t)) (sym (tree_is ns n s (omega arith))) in
        omega (
          arith,
          here,
          rest,
          ap (sum_by (λ (x : Equation). joins x.body)) (lets_yes ns r n e),
          sum_by-append (λ (x : Equation). joins x.body) (lets_below ns r n) (let_at ns r n ∷ []),
          sum_by-cons (λ (x : Equation). joins x.body) (let_at ns r n) [],
          ap (λ ts. length (filter is_join ts)) (trees_yes ns r n e),
          filter_push is_join (place_trees ns r n) (tree ns n),
        )
    go false e rest = ap (sum_by (λ (x : Equation). joins x.body)) (lets_no ns r n e) ∙ rest ∙ ap (λ ts. length (filter is_join ts)) (sym (trees_no ns r n e))

pub lets_delays : (ns : List Node) (r : ℕ → Bool) → IsNodes ns → (n : ℕ) → n ≤ length ns → sum_by (λ e. delays e.body) (lets_below ns r n) ≡ length (filter is_delay (place_trees ns r n))
lets_delays ns r s zero le = refl
lets_delays ns r s (suc n) le = go (becomes_let ns r n) refl (lets_delays ns r s n (omega arith))
  where
    go : (b : Bool) → becomes_let ns r n ≡ b → sum_by (λ e. delays e.body) (lets_below ns r n) ≡ length (filter is_delay (place_trees ns r n))
        → sum_by (λ e. delays e.body) (lets_below ns r (suc n)) ≡ length (filter is_delay (place_trees ns r (suc n)))
    go true e rest =
        let here : delays (let_at ns r n).body ≡ bit (is_delay (tree ns n)) =
        body_delays ns (let_number ns r) (trees ns) (node_at ns n) ∙ ap (λ t. bit (is_delay t)) (sym (tree_is ns n s (omega arith))) in
        omega (
          arith,
          here,
          rest,
          ap (sum_by (λ (x : Equation). delays x.body)) (lets_yes ns r n e),
          sum_by-append (λ (x : Equation). delays x.body) (lets_below ns r n) (let_at ns r n ∷ []),
          sum_by-cons (λ (x : Equation). delays x.body) (let_at ns r n) [],
          ap (λ ts. length (filter is_delay ts)) (trees_yes ns r n e),
          filter_push is_delay (place_trees ns r n) (tree ns n),
        )
    go false e rest = ap (sum_by (λ (x : Equation). delays x.body)) (lets_no ns r n e) ∙ rest ∙ ap (λ ts. length (filter is_delay ts)) (sym (trees_no ns r n e))

pub outputs_joins : (ns : List Node) (f : ℕ → ℕ) (roots : List Term) (names : List (List ℕ)) → sum_by (λ e. joins e.body) (root_outputs ns f roots names) ≡ 0
outputs_joins ns f [] names = refl
outputs_joins ns f (root ∷ roots) [] = refl
outputs_joins ns f (root ∷ roots) (name ∷ names) =
    omega (arith, named_joins (node_at ns root.0) (f root.0), outputs_joins ns f roots names, sum_by-cons (λ (x : Equation). joins x.body) (record { name = name; body = named (node_at ns root.0) (f root.0) }) (root_outputs ns f roots names))

pub outputs_delays : (ns : List Node) (f : ℕ → ℕ) (roots : List Term) (names : List (List ℕ)) → sum_by (λ e. delays e.body) (root_outputs ns f roots names) ≡ 0
outputs_delays ns f [] names = refl
outputs_delays ns f (root ∷ roots) [] = refl
outputs_delays ns f (root ∷ roots) (name ∷ names) =
    omega (arith, named_delays (node_at ns root.0) (f root.0), outputs_delays ns f roots names, sum_by-cons (λ (x : Equation). delays x.body) (record { name = name; body = named (node_at ns root.0) (f root.0) }) (root_outputs ns f roots names))

-- the trees of the lets are the operators among the subterms of the roots

same_bits : (p q : Bool) → (p ≡ true → q ≡ true) → (q ≡ true → p ≡ true) → p ≡ q
same_bits true q f g = sym (f refl)
same_bits false true f g = g refl
same_bits false false f g = refl

let_is_among : (ns : List Node) (roots : List Term) (t : Tree) → is_among t (place_trees ns (is_reached ns roots) (length ns)) ≡ true → is_among t (distinct_subterms (trees_at ns roots)) ≡ true
let_is_among ns roots t h =
    let k = among_places ns (is_reached ns roots) (length ns) t h in
    among_distinct t (all_subterms (trees_at ns roots)) (ap (λ u. is_among u (all_subterms (trees_at ns roots))) k.3 ∙ (reached_place ns (is_reached ns roots) k.0 k.2).0)

among_is_let : (ns : List Node) (roots : List Term) (t : Tree) → IsNodes ns → All (λ r. r.0 < length ns) roots → (is_join t || is_delay t) ≡ true → is_among t (distinct_subterms (trees_at ns roots)) ≡ true
    → is_among t (place_trees ns (is_reached ns roots) (length ns)) ≡ true
among_is_let ns roots t s w o h =
    let all = among_distinct_from t (all_subterms (trees_at ns roots)) h in
    let f = all_among t (trees_at ns roots) Never all in
    let root = slice_index_or roots f.0 (record { 0 = 0 }) in
    let lt : f.0 < length roots = omega (arith, f.1, count_of roots) in
    let here : IsIn t (tree ns root.0) = subst (IsIn t) (root_tree ns roots f.0 (record { 0 = 0 }) Never lt) f.2 in
    let held = part_held ns t (tree ns root.0) s (root.0, w f.0 (record { 0 = 0 }) lt, refl) here in
    let reached : is_reached ns roots held.0 ≡ true = ap (λ u. is_among u (all_subterms (trees_at ns roots))) held.2 ∙ all in
    let shape : node_tree (trees ns) (node_at ns held.0) ≡ t = sym (tree_is ns held.0 s held.1) ∙ held.2 in
    let operator : is_operator (node_at ns held.0) ≡ true = operator_node (trees ns) (node_at ns held.0) (subst (λ u. (is_join u || is_delay u) ≡ true) (sym shape) o) in
    subst (λ u. is_among u (place_trees ns (is_reached ns roots) (length ns)) ≡ true) held.2 (places_among ns (is_reached ns roots) (length ns) held.0 held.1 (becomes_from ns (is_reached ns roots) held.0 reached operator))
  where
    count_of : (rs : List Term) → length (trees_at ns rs) ≡ length rs
    count_of [] = refl
    count_of (r ∷ rs) = omega (arith, count_of rs)

-- there are as many of a kind
pub same_count : (ns : List Node) (roots : List Term) (q : Tree → Bool) → IsNodes ns → All (λ r. r.0 < length ns) roots → ((t : Tree) → q t ≡ true → (is_join t || is_delay t) ≡ true)
    → length (filter q (place_trees ns (is_reached ns roots) (length ns))) ≡ length (filter q (distinct_subterms (trees_at ns roots)))
same_count ns roots q s w operators =
    let places = place_trees ns (is_reached ns roots) (length ns) in
    let terms = distinct_subterms (trees_at ns roots) in
    length-from_same_keys same_laws (filter q places) (filter q terms)
    (distinct_filter q places (distinct_places ns (is_reached ns roots) s (length ns) (omega arith)))
    (distinct_filter q terms (distinct_is (all_subterms (trees_at ns roots))))
    (λ t. same_bits (is_among t (filter q places)) (is_among t (filter q terms))
    (λ h. let k = and_parts (q t) (is_among t places) (sym (among_filter q t places) ∙ h) in
    among_filter q t terms ∙ and_both (q t) (is_among t terms) k.0 (let_is_among ns roots t k.1))
    (λ h. let k = and_parts (q t) (is_among t terms) (sym (among_filter q t terms) ∙ h) in
    among_filter q t places ∙ and_both (q t) (is_among t places) k.0 (among_is_let ns roots t s w (operators t k.0) k.1)))
