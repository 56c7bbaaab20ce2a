-- The reached places are the distinct subterms of the roots' terms, each once.
use Rattle.std.proofs.Common.{◌≡◌, ℕ, zero, suc, ◌+◌, ◌≤◌, ◌<◌, Bool, true, false, true≢false, ◌&&◌, List, [], ◌∷◌, ◌++◌, length, map, filter, fold, max, refl, ap, sym, ◌∙◌, subst, arith, inl, inr, nat_eq, if◌then◌else◌}
use Rattle.std.specs.Prelude.{slice_index_or}
use Rattle.std.specs.List.{AllByRecursion, IsDistinct, sum_by, All}
use Rattle.std.proofs.Math.Nat.{le-max_left, le-max_right, max-le}
use Rattle.std.proofs.lemmas.Bool.{cases_lt, eqb-true}
use Rattle.std.proofs.lemmas.Bool.Decides.{nat_tests}
use Rattle.std.proofs.lemmas.List.{map-append, append-nil}
use Rattle.std.proofs.lemmas.List.Sums.{fold-append, sum_by-cons, sum_by-append}
use Rattle.term_store.specs.declared.node.Term.{Term}
use Rattle.term_store.specs.declared.node.Node.{Node}
use Rattle.term_store.specs.declared.node.Node.TheVariants as node
use Rattle.term_store.specs.Nodes.{node_at, IsNodeOver, IsNodes}
use Rattle.term_store.specs.Tree.{Tree, Never, Input, Min, Max, Lt, Inc}
use Rattle.term_store.specs.Trees.{tree, trees, trees_at, node_tree}
use Rattle.term_store.specs.Subterms.{all_subterms, same_tree, is_among, distinct_subterms, is_join, is_delay, is_lt, lt_count, delay_of, longest_delay, IsInputBelow}
use Rattle.term_store.specs.Reach.{is_reached, IsOperand, AreLeastClosed}
use Rattle.term_store.specs.Places.{places, reach_marks, is_marked, is_join_node, is_lt_node, is_delay_node, is_marked_with, node_delay, marked_delay, longest_at, marked_upto, CountsAreRight, MarksAreClosed, tree_by_places}
use Rattle.term_store.proofs.ListedPlaces.{map_next, at_listed, filter_next, kept, one_if, count_next}
use Rattle.term_store.proofs.Parts.{IsIn, same_refl, same_is, same_from, or_left, or_right, or_either, among_append, all_among}
use Rattle.term_store.proofs.Distinct.{tree_is, distinct_trees}
use Rattle.term_store.proofs.FewTerms.{same_sym, among_distinct, among_distinct_from, distinct_is}
use Rattle.term_store.proofs.Marks.{least_closed, root_tree, count_trees}

-- ---- the term of a place

by_places : (ns : List Node) (n : Node) → node_tree (trees ns) n ≡ tree_by_places ns n
by_places ns node.Never = refl
by_places ns (node.Input i) = refl
by_places ns (node.Min a b) = refl
by_places ns (node.Max a b) = refl
by_places ns (node.Lt a b) = refl
by_places ns (node.Inc a c) = refl

pub follows : (ns : List Node) (p : ℕ) → IsNodes ns → p < length ns → tree ns p ≡ tree_by_places ns (node_at ns p)
follows ns p rules lt = tree_is ns p rules lt ∙ by_places ns (node_at ns p)

-- ---- sums over distinct lists

record Split (x : Tree) (ys : List Tree) : Type 0 where
  front : List Tree
  back : List Tree
  is : ys ≡ front ++ x ∷ back

split_at : (x : Tree) (ys : List Tree) → is_among x ys ≡ true → Split x ys
split_at x [] h = absurd (true≢false (sym h))
split_at x (y ∷ ys) h = elim (or_either (same_tree x y) (is_among x ys) h) [
  | inl e ↦ record { front = []; back = ys; is = ap (λ z. z ∷ ys) (sym (same_is x y e)) }
  | inr e ↦ let s = split_at x ys e in record { front = y ∷ s.front; back = s.back; is = ap (λ zs. y ∷ zs) s.is }
]

-- what is among a list without one of its trees
without : (s x : Tree) (us vs : List Tree) → is_among s (us ++ x ∷ vs) ≡ true → same_tree s x ≡ false → is_among s (us ++ vs) ≡ true
without s x us vs h n =
    elim (or_either (is_among s us) (is_among s (x ∷ vs)) (sym (among_append s us (x ∷ vs)) ∙ h)) [
      | inl a ↦ among_append s us vs ∙ or_left (is_among s us) (is_among s vs) a
      | inr a ↦ elim (or_either (same_tree s x) (is_among s vs) a) [
        | inl e ↦ absurd (true≢false (sym e ∙ n))
        | inr e ↦ among_append s us vs ∙ or_right (is_among s us) (is_among s vs) e
      ]
    ]

apart_from : (x s : Tree) (xs : List Tree) → AllByRecursion (λ u. same_tree x u ≡ false) xs → is_among s xs ≡ true → same_tree s x ≡ false
apart_from x s [] h m = absurd (true≢false (sym m))
apart_from x s (y ∷ xs) h m = elim (or_either (same_tree s y) (is_among s xs) m) [
  | inl e ↦ same_sym s x ∙ (ap (same_tree x) (same_is s y e) ∙ h.0)
  | inr e ↦ apart_from x s xs h.1 e
]

pub sum_le : (f : Tree → ℕ) (xs ys : List Tree) → IsDistinct same_tree xs → ((s : Tree) → is_among s xs ≡ true → is_among s ys ≡ true) → sum_by f xs ≤ sum_by f ys
unfolding IsDistinct
sum_le f [] ys d h = omega arith
sum_le f (x ∷ xs) ys d h =
    let s = split_at x ys (h x (or_left (same_tree x x) (is_among x xs) (same_refl x))) in
    let rest = sum_le f xs (s.front ++ s.back) d.1 (λ t m. without t x s.front s.back (ap (is_among t) (sym s.is) ∙ h t (or_right (same_tree t x) (is_among t xs) m)) (apart_from x t xs d.0 m)) in
    omega (arith, sum_by-cons f x xs, ap (sum_by f) s.is, sum_by-append f s.front (x ∷ s.back), sum_by-cons f x s.back, sum_by-append f s.front s.back, rest)

pub same_sum : (f : Tree → ℕ) (xs ys : List Tree) → IsDistinct same_tree xs → IsDistinct same_tree ys → ((s : Tree) → is_among s xs ≡ true → is_among s ys ≡ true) →
    ((s : Tree) → is_among s ys ≡ true → is_among s xs ≡ true) → sum_by f xs ≡ sum_by f ys
same_sum f xs ys d e h k = omega (arith, sum_le f xs ys d h, sum_le f ys xs e k)

count_sum : (p : Tree → Bool) (xs : List Tree) → length (filter p xs) ≡ sum_by (λ t. one_if (p t)) xs
count_sum p [] = refl
count_sum p (x ∷ xs) = go (p x) refl (count_sum p xs) ∙ sym (sum_by-cons (λ t. one_if (p t)) x xs)
  where
    go : (b : Bool) → p x ≡ b → length (filter p xs) ≡ sum_by (λ t. one_if (p t)) xs → length (filter p (x ∷ xs)) ≡ one_if (p x) + sum_by (λ t. one_if (p t)) xs
    go true e rest = rw e (omega (arith, rest))
    go false e rest = rw e (omega (arith, rest))

sum_map : (f : Tree → ℕ) (g : ℕ → Tree) (xs : List ℕ) → sum_by f (map g xs) ≡ sum_by (λ i. f (g i)) xs
sum_map f g [] = refl
sum_map f g (x ∷ xs) = sum_by-cons f (g x) (map g xs) ∙ (ap (λ k. f (g x) + k) (sum_map f g xs) ∙ sym (sum_by-cons (λ i. f (g i)) x xs))

-- ---- sums over the places that pass a test

sum_kept : (f : ℕ → ℕ) (b : Bool) (n : ℕ) → sum_by f (kept b n) ≡ (if b then f n else 0)
sum_kept f true n = omega arith
sum_kept f false n = refl

pub sum_next : (f : ℕ → ℕ) (test : ℕ → Bool) (n : ℕ) → sum_by f (filter test (places (suc n))) ≡ sum_by f (filter test (places n)) + (if test n then f n else 0)
sum_next f test n = ap (sum_by f) (filter_next test n) ∙ (sum_by-append f (filter test (places n)) (kept (test n) n) ∙ ap (λ k. sum_by f (filter test (places n)) + k) (sum_kept f (test n) n))

sum_same : (f g : ℕ → ℕ) (test : ℕ → Bool) (n : ℕ) → ((k : ℕ) → k < n → test k ≡ true → f k ≡ g k) → sum_by f (filter test (places n)) ≡ sum_by g (filter test (places n))
sum_same f g test zero h = refl
sum_same f g test (suc n) h =
    sum_next f test n ∙ (ap (λ k. k + (if test n then f n else 0)) (sum_same f g test n (λ k lt t. h k (omega (arith, lt)) t))
    ∙ (ap (λ k. sum_by g (filter test (places n)) + k) (last (test n) refl) ∙ sym (sum_next g test n)))
  where
    last : (b : Bool) → test n ≡ b → (if b then f n else 0) ≡ (if b then g n else 0)
    last true e = h n (omega arith) e
    last false e = refl

-- places that don't pass count nothing
sum_all : (f : ℕ → ℕ) (test : ℕ → Bool) (n : ℕ) → ((k : ℕ) → k < n → test k ≡ false → f k ≡ 0) → sum_by f (places n) ≡ sum_by f (filter test (places n))
sum_all f test zero h = refl
sum_all f test (suc n) h =
    sum_by-append f (places n) (n ∷ []) ∙ (ap (λ k. k + sum_by f (n ∷ [])) (sum_all f test n (λ k lt t. h k (omega (arith, lt)) t))
    ∙ (ap (λ k. sum_by f (filter test (places n)) + k) (last (test n) refl) ∙ sym (sum_next f test n)))
  where
    last : (b : Bool) → test n ≡ b → sum_by f (n ∷ []) ≡ (if b then f n else 0)
    last true e = omega arith
    last false e = omega (arith, h n (omega arith) e)

-- ---- greatest numbers

le_fold : (f : Tree → ℕ) (a : ℕ) (xs : List Tree) → a ≤ fold max a (map f xs)
le_fold f a [] = omega arith
le_fold f a (x ∷ xs) = omega (arith, le-max_left a (f x), le_fold f (max a (f x)) xs)

greatest_from : (f : Tree → ℕ) (a : ℕ) (xs : List Tree) (s : Tree) → is_among s xs ≡ true → f s ≤ fold max a (map f xs)
greatest_from f a [] s h = absurd (true≢false (sym h))
greatest_from f a (x ∷ xs) s h = elim (or_either (same_tree s x) (is_among s xs) h) [
  | inl e ↦ omega (arith, ap f (same_is s x e), le-max_right a (f x), le_fold f (max a (f x)) xs)
  | inr e ↦ greatest_from f (max a (f x)) xs s e
]

least_from : (f : Tree → ℕ) (a m : ℕ) (xs : List Tree) → a ≤ m → ((s : Tree) → is_among s xs ≡ true → f s ≤ m) → fold max a (map f xs) ≤ m
least_from f a m [] le h = le
least_from f a m (x ∷ xs) le h =
    least_from f (max a (f x)) m xs (max-le le (h x (or_left (same_tree x x) (is_among x xs) (same_refl x)))) (λ s k. h s (or_right (same_tree s x) (is_among s xs) k))

fold_next : (f : ℕ → ℕ) (n : ℕ) → fold max 0 (map f (places (suc n))) ≡ max (fold max 0 (map f (places n))) (f n)
fold_next f n = ap (fold max 0) (map_next f n) ∙ fold-append max 0 (map f (places n)) (f n ∷ [])

greatest_place : (f : ℕ → ℕ) (n k : ℕ) → k < n → f k ≤ fold max 0 (map f (places n))
greatest_place f zero k lt = absurd (omega (arith, lt))
greatest_place f (suc n) k lt = elim (cases_lt k n) [
  | inl l ↦ omega (arith, greatest_place f n k l, fold_next f n, le-max_left (fold max 0 (map f (places n))) (f n))
  | inr l ↦ let e : k ≡ n = omega (arith, l, lt) in rw e (omega (arith, fold_next f n, le-max_right (fold max 0 (map f (places n))) (f n)))
]

least_place : (f : ℕ → ℕ) (n m : ℕ) → ((k : ℕ) → k < n → f k ≤ m) → fold max 0 (map f (places n)) ≤ m
least_place f zero m h = omega arith
least_place f (suc n) m h =
    let rest = least_place f n m (λ k lt. h k (omega (arith, lt))) in
    let both : max (fold max 0 (map f (places n))) (f n) ≤ m = max-le rest (h n (omega arith)) in
    omega (arith, fold_next f n, both)

-- ---- distinct lists

distinct_last : (xs : List Tree) (y : Tree) → IsDistinct same_tree xs → ((s : Tree) → is_among s xs ≡ true → same_tree s y ≡ false) → IsDistinct same_tree (xs ++ y ∷ [])
unfolding IsDistinct
distinct_last [] y d h = (tt, tt)
distinct_last (x ∷ xs) y d h =
    (apart_more xs d.0 (h x (or_left (same_tree x x) (is_among x xs) (same_refl x))), distinct_last xs y d.1 (λ s k. h s (or_right (same_tree s x) (is_among s xs) k)))
  where
    apart_more : (zs : List Tree) → AllByRecursion (λ u. same_tree x u ≡ false) zs → same_tree x y ≡ false → AllByRecursion (λ u. same_tree x u ≡ false) (zs ++ y ∷ [])
    apart_more [] a e = (e, tt)
    apart_more (z ∷ zs) a e = (a.0, apart_more zs a.1 e)

-- ---- the places of subterms

record PlaceOf (ns : List Node) (s : Tree) : Type 0 where
  at : ℕ
  below : at < length ns
  is : tree ns at ≡ s

part_place : (ns : List Node) (k r : ℕ) (s : Tree) → IsNodes ns → r < k → r < length ns → IsIn s (tree ns r) → PlaceOf ns s
part_place ns zero r s rules lt w h = absurd (omega (arith, lt))
part_place ns (suc k) r s rules lt w h =
    go (λ a l i. part_place ns k a.0 s rules (omega (arith, l, lt)) (omega (arith, l, w)) i) (node_at ns r) refl (subst (IsIn s) (tree_is ns r rules w) h)
  where
    here : s ≡ node_tree (trees ns) (node_at ns r) → PlaceOf ns s
    here e = record { at = r; below = w; is = tree_is ns r rules w ∙ sym e }

    over : (n : Node) → node_at ns r ≡ n → IsNodeOver r n
    over n e = subst (IsNodeOver r) e (rules.lower r w)

    go : ((a : Term) → a.0 < r → IsIn s (tree ns a.0) → PlaceOf ns s) → (n : Node) → node_at ns r ≡ n → IsIn s (node_tree (trees ns) n) → PlaceOf ns s
    go down node.Never e i = here (i ∙ ap (node_tree (trees ns)) (sym e))
    go down (node.Input j) e i = here (i ∙ ap (node_tree (trees ns)) (sym e))
    go down (node.Min a b) e i = elim i [ inl q ↦ here (q ∙ ap (node_tree (trees ns)) (sym e)) | inr q ↦ elim q [ inl u ↦ down a (over (node.Min a b) e).0 u | inr u ↦ down b (over (node.Min a b) e).1 u ] ]
    go down (node.Max a b) e i = elim i [ inl q ↦ here (q ∙ ap (node_tree (trees ns)) (sym e)) | inr q ↦ elim q [ inl u ↦ down a (over (node.Max a b) e).0 u | inr u ↦ down b (over (node.Max a b) e).1 u ] ]
    go down (node.Lt a b) e i = elim i [ inl q ↦ here (q ∙ ap (node_tree (trees ns)) (sym e)) | inr q ↦ elim q [ inl u ↦ down a (over (node.Lt a b) e).0 u | inr u ↦ down b (over (node.Lt a b) e).1 u ] ]
    go down (node.Inc a c) e i = elim i [ inl q ↦ here (q ∙ ap (node_tree (trees ns)) (sym e)) | inr u ↦ down a (over (node.Inc a c) e).0 u ]

module _ (ns : List Node) (roots : List Term) (rules : IsNodes ns) (within : All (λ r. r.0 < length ns) roots) where
  abbrev N : ℕ
  N = length ns

  abbrev ms : List Bool
  ms = reach_marks ns roots

  abbrev rts : List Tree
  rts = trees_at ns roots

  abbrev D : List Tree
  D = distinct_subterms rts

  mark_is : (p : ℕ) → p < N → is_marked ms p ≡ is_reached ns roots p
  mark_is p lt = at_listed (is_reached ns roots) N p false lt

  closed : AreLeastClosed ns roots
  closed = least_closed ns roots rules within

  operand_below : (p q : ℕ) (n : Node) → p < N → node_at ns p ≡ n → IsOperand q n → q < p
  operand_below p q n lt e o = go n (subst (IsNodeOver p) e (rules.lower p lt)) o
    where
      go : (n : Node) → IsNodeOver p n → IsOperand q n → q < p
      go node.Never v o = absurd o
      go (node.Input i) v o = absurd o
      go (node.Min a b) v o = elim o [ inl e ↦ omega (arith, e, v.0) | inr e ↦ omega (arith, e, v.1) ]
      go (node.Max a b) v o = elim o [ inl e ↦ omega (arith, e, v.0) | inr e ↦ omega (arith, e, v.1) ]
      go (node.Lt a b) v o = elim o [ inl e ↦ omega (arith, e, v.0) | inr e ↦ omega (arith, e, v.1) ]
      go (node.Inc a c) v o = omega (arith, o, v.0)

  operand_marked : (p q : ℕ) → p < N → is_marked ms p ≡ true → IsOperand q (node_at ns p) → is_marked ms q ≡ true
  operand_marked p q lt m o =
      mark_is q (omega (arith, operand_below p q (node_at ns p) lt refl o, lt)) ∙ closed.has_operands p q lt (sym (mark_is p lt) ∙ m) o

  all_from : (P : Tree → Type 0) (ts : List Tree) (s : Tree) → AllByRecursion P ts → is_among s ts ≡ true → P s
  all_from P [] s a h = absurd (true≢false (sym h))
  all_from P (t ∷ ts) s a h = elim (or_either (same_tree s t) (is_among s ts) h) [
    | inl e ↦ subst P (sym (same_is s t e)) a.0
    | inr e ↦ all_from P ts s a.1 e
  ]

  marked_is_among : (p : ℕ) → p < N → is_marked ms p ≡ true → is_among (tree ns p) D ≡ true
  marked_is_among p lt m = among_distinct (tree ns p) (all_subterms rts) (sym (mark_is p lt) ∙ m)

  pub marks_closed : MarksAreClosed ns roots ms
  marks_closed = record {
    roots_marked = λ k d lt. mark_is _ (within k d lt) ∙ closed.has_roots k d lt;
    operands = operand_marked;
    inputs = λ count p i terms lt m e.
        all_from (IsInputBelow count) D (Input i) terms.inputs (ap (λ t. is_among t D) (sym (ap (tree_by_places ns) e)) ∙ (ap (λ t. is_among t D) (sym (follows ns p rules lt)) ∙ marked_is_among p lt m));
  }

  -- ---- the terms of the marked places

  abbrev X : ℕ → List Tree
  X n = map (tree ns) (filter (is_marked ms) (places n))

  X_next : (n : ℕ) → X (suc n) ≡ X n ++ map (tree ns) (kept (is_marked ms n) n)
  X_next n = ap (map (tree ns)) (filter_next (is_marked ms) n) ∙ map-append (tree ns) (filter (is_marked ms) (places n)) (kept (is_marked ms n) n)

  record MarkedPlace (n : ℕ) (s : Tree) : Type 0 where
    at : ℕ
    below : at < n
    marked : is_marked ms at ≡ true
    is : tree ns at ≡ s

  from_X : (n : ℕ) (s : Tree) → is_among s (X n) ≡ true → MarkedPlace n s
  from_X zero s h = absurd (true≢false (sym h))
  from_X (suc n) s h = elim (or_either (is_among s (X n)) (is_among s (map (tree ns) (kept (is_marked ms n) n))) (sym (among_append s (X n) (map (tree ns) (kept (is_marked ms n) n))) ∙ (ap (is_among s) (sym (X_next n)) ∙ h))) [
    | inl a ↦ let p = from_X n s a in record { at = p.at; below = omega (arith, p.below); marked = p.marked; is = p.is }
    | inr a ↦ last (is_marked ms n) refl a
  ]
    where
      last : (b : Bool) → is_marked ms n ≡ b → is_among s (map (tree ns) (kept b n)) ≡ true → MarkedPlace (suc n) s
      last true e a = elim (or_either (same_tree s (tree ns n)) false a) [
        | inl f ↦ record { at = n; below = omega arith; marked = e; is = sym (same_is s (tree ns n) f) }
        | inr f ↦ absurd (true≢false (sym f))
      ]
      last false e a = absurd (true≢false (sym a))

  to_X : (n i : ℕ) → i < n → is_marked ms i ≡ true → is_among (tree ns i) (X n) ≡ true
  to_X zero i lt m = absurd (omega (arith, lt))
  to_X (suc n) i lt m = ap (is_among (tree ns i)) (X_next n) ∙ (among_append (tree ns i) (X n) (map (tree ns) (kept (is_marked ms n) n)) ∙ elim (cases_lt i n) [
    | inl l ↦ or_left (is_among (tree ns i) (X n)) _ (to_X n i l m)
    | inr l ↦
        let e : i ≡ n = omega (arith, l, lt) in
        let b : is_marked ms n ≡ true = ap (is_marked ms) (sym e) ∙ m in
        or_right (is_among (tree ns i) (X n)) _ (ap (λ c. is_among (tree ns i) (map (tree ns) (kept c n))) b ∙ or_left (same_tree (tree ns i) (tree ns n)) false (same_from (tree ns i) (tree ns n) (ap (tree ns) e)))
  ])

  X_distinct : (n : ℕ) → n ≤ N → IsDistinct same_tree (X n)
  unfolding IsDistinct
  X_distinct zero le = tt
  X_distinct (suc n) le = subst (IsDistinct same_tree) (sym (X_next n)) (last (is_marked ms n) refl (X_distinct n (omega (arith, le))))
    where
      apart : (s : Tree) → is_among s (X n) ≡ true → (b : Bool) → same_tree s (tree ns n) ≡ b → b ≡ false
      apart s a false e = refl
      apart s a true e =
          let p = from_X n s a in
          let same : p.at ≡ n = distinct_trees ns rules p.at n (omega (arith, p.below, le)) (omega (arith, le)) (p.is ∙ same_is s (tree ns n) e) in
          absurd (omega (arith, same, p.below))

      last : (b : Bool) → is_marked ms n ≡ b → IsDistinct same_tree (X n) → IsDistinct same_tree (X n ++ map (tree ns) (kept b n))
      last true e rest = distinct_last (X n) (tree ns n) rest (λ s a. apart s a (same_tree s (tree ns n)) refl)
      last false e rest = subst (IsDistinct same_tree) (sym (append-nil (X n))) rest

  reached_place : (s : Tree) → is_among s (all_subterms rts) ≡ true → PlaceOf ns s
  reached_place s h =
      let f = all_among s rts Never h in
      let w : f.0 < length roots = omega (arith, f.1, count_trees ns roots) in
      let r = slice_index_or roots f.0 (record { 0 = 0 }) in
      part_place ns (suc r.0) r.0 s rules (omega arith) (within f.0 (record { 0 = 0 }) w) (subst (IsIn s) (root_tree ns roots f.0 (record { 0 = 0 }) Never w) f.2)

  -- a distinct subterm is the term of a marked place
  marked_place : (s : Tree) → is_among s D ≡ true → MarkedPlace N s
  marked_place s h =
      let a = among_distinct_from s (all_subterms rts) h in
      let p = reached_place s a in
      record { at = p.at; below = p.below; marked = mark_is p.at p.below ∙ (ap (λ t. is_among t (all_subterms rts)) p.is ∙ a); is = p.is }

  same_as_D : (f : Tree → ℕ) → sum_by f (X N) ≡ sum_by f D
  same_as_D f = same_sum f (X N) D (X_distinct N (omega arith)) (distinct_is (all_subterms rts))
      (λ s a. let p = from_X N s a in ap (λ t. is_among t D) (sym p.is) ∙ marked_is_among p.at p.below p.marked)
      (λ s a. let p = marked_place s a in ap (λ t. is_among t (X N)) (sym p.is) ∙ to_X N p.at p.below p.marked)

  -- ---- counts

  marked_sum : (q : Node → Bool) (n : ℕ) → marked_upto q ns ms n ≡ sum_by (λ i. one_if (q (node_at ns i))) (filter (is_marked ms) (places n))
  marked_sum q zero = refl
  marked_sum q (suc n) =
      count_next (is_marked_with q ns ms) n ∙ (ap (λ k. k + one_if (is_marked_with q ns ms n)) (marked_sum q n)
      ∙ (ap (λ k. sum_by (λ i. one_if (q (node_at ns i))) (filter (is_marked ms) (places n)) + k) (last (is_marked ms n)) ∙ sym (sum_next (λ i. one_if (q (node_at ns i))) (is_marked ms) n)))
    where
      last : (b : Bool) → one_if (b && q (node_at ns n)) ≡ (if b then one_if (q (node_at ns n)) else 0)
      last true = refl
      last false = refl

  counts : (p : Tree → Bool) (q : Node → Bool) → ((n : Node) → q n ≡ p (tree_by_places ns n)) → marked_upto q ns ms N ≡ length (filter p D)
  counts p q same =
      marked_sum q N
      ∙ (sum_same (λ i. one_if (q (node_at ns i))) (λ i. one_if (p (tree ns i))) (is_marked ms) N (λ k lt m. ap one_if (same (node_at ns k) ∙ ap p (sym (follows ns k rules lt))))
      ∙ (sym (sum_map (λ t. one_if (p t)) (tree ns) (filter (is_marked ms) (places N)))
      ∙ (same_as_D (λ t. one_if (p t)) ∙ sym (count_sum p D))))

  same_join : (n : Node) → is_join_node n ≡ is_join (tree_by_places ns n)
  same_join node.Never = refl
  same_join (node.Input i) = refl
  same_join (node.Min a b) = refl
  same_join (node.Max a b) = refl
  same_join (node.Lt a b) = refl
  same_join (node.Inc a c) = refl

  same_delay : (n : Node) → is_delay_node n ≡ is_delay (tree_by_places ns n)
  same_delay node.Never = refl
  same_delay (node.Input i) = refl
  same_delay (node.Min a b) = refl
  same_delay (node.Max a b) = refl
  same_delay (node.Lt a b) = refl
  same_delay (node.Inc a c) = refl

  same_lt : (n : Node) → is_lt_node n ≡ is_lt (tree_by_places ns n)
  same_lt node.Never = refl
  same_lt (node.Input i) = refl
  same_lt (node.Min a b) = refl
  same_lt (node.Max a b) = refl
  same_lt (node.Lt a b) = refl
  same_lt (node.Inc a c) = refl

  -- ---- longest delays

  own_delay : (t : Tree) (c : ℕ) → delay_of t (Inc t c) ≡ c
  own_delay t c = ap (λ (b : Bool). if b then c else 0) (same_refl t)

  delay_among : (p q : ℕ) (b : Bool) (n : Node) → q < N → is_marked ms q ≡ b → node_at ns q ≡ n → (if b then node_delay p n else 0) ≤ longest_delay rts (tree ns p)
  delay_among p q false n lt m e = omega arith
  delay_among p q true node.Never lt m e = omega arith
  delay_among p q true (node.Input i) lt m e = omega arith
  delay_among p q true (node.Min a b) lt m e = omega arith
  delay_among p q true (node.Max a b) lt m e = omega arith
  delay_among p q true (node.Lt a b) lt m e = omega arith
  delay_among p q true (node.Inc a c) lt m e = go (nat_eq a.0 p) refl
    where
      go : (b : Bool) → nat_eq a.0 p ≡ b → (if b then c else 0) ≤ longest_delay rts (tree ns p)
      go false f = omega arith
      go true f =
          let i : tree ns q ≡ Inc (tree ns p) c = follows ns q rules lt ∙ (ap (tree_by_places ns) e ∙ ap (λ k. Inc (tree ns k) c) (eqb-true a.0 p f)) in
          let among = ap (λ t. is_among t D) (sym i) ∙ marked_is_among q lt m in
          omega (arith, greatest_from (delay_of (tree ns p)) 0 D (Inc (tree ns p) c) among, own_delay (tree ns p) c)

  node_is_inc : (q : ℕ) (n : Node) (t : Tree) (c : ℕ) → tree_by_places ns n ≡ Inc t c → (a : Term) × (n ≡ node.Inc a c) × (tree ns a.0 ≡ t)
  node_is_inc q node.Never t c e = absurd (cc)
  node_is_inc q (node.Input i) t c e = absurd (cc)
  node_is_inc q (node.Min a b) t c e = absurd (cc)
  node_is_inc q (node.Max a b) t c e = absurd (cc)
  node_is_inc q (node.Lt a b) t c e = absurd (cc)
  node_is_inc q (node.Inc a d) t c e = let f : d ≡ c = cc in (a, ap (node.Inc a) f, cc)

  nat_self : (k : ℕ) → nat_eq k k ≡ true
  nat_self k = grind (arith, nat_tests)

  among_delay : (p : ℕ) (s : Tree) → p < N → is_among s D ≡ true → delay_of (tree ns p) s ≤ longest_at ns ms p
  among_delay p Never lt h = omega arith
  among_delay p (Input i) lt h = omega arith
  among_delay p (Min a b) lt h = omega arith
  among_delay p (Max a b) lt h = omega arith
  among_delay p (Lt a b) lt h = omega arith
  among_delay p (Inc t c) lt h = go (same_tree (tree ns p) t) refl
    where
      go : (b : Bool) → same_tree (tree ns p) t ≡ b → (if b then c else 0) ≤ longest_at ns ms p
      go false f = omega arith
      go true f =
          let q = marked_place (Inc t c) h in
          let n = node_is_inc q.at (node_at ns q.at) t c (sym (follows ns q.at rules q.below) ∙ q.is) in
          let below = operand_below q.at n.0.0 (node.Inc n.0 c) q.below n.1 refl in
          let at : n.0.0 ≡ p = distinct_trees ns rules n.0.0 p (omega (arith, below, q.below)) lt (n.2 ∙ sym (same_is (tree ns p) t f)) in
          let d : marked_delay ns ms p q.at ≡ c =
          ap (λ (b : Bool). if b then node_delay p (node_at ns q.at) else 0) q.marked ∙ (ap (node_delay p) n.1 ∙ (ap (λ k. if nat_eq k p then c else 0) at ∙ ap (λ (b : Bool). if b then c else 0) (nat_self p))) in
          omega (arith, greatest_place (marked_delay ns ms p) N q.at q.below, d)

  longest_is : (p : ℕ) → p < N → longest_at ns ms p ≡ longest_delay rts (tree ns p)
  longest_is p lt =
      let le = least_place (marked_delay ns ms p) N (longest_delay rts (tree ns p)) (λ q l. delay_among p q (is_marked ms q) (node_at ns q) l refl refl) in
      let ge = least_from (delay_of (tree ns p)) 0 (longest_at ns ms p) D (omega arith) (λ s h. among_delay p s lt h) in
      omega (arith, le, ge)

  -- a place that isn't marked is not delayed
  no_delay : (p : ℕ) → p < N → is_marked ms p ≡ false → longest_at ns ms p ≡ 0
  no_delay p lt m = let le = least_place (marked_delay ns ms p) N 0 (λ q l. none q (is_marked ms q) (node_at ns q) l refl refl) in omega (arith, le)
    where
      none : (q : ℕ) (b : Bool) (n : Node) → q < N → is_marked ms q ≡ b → node_at ns q ≡ n → (if b then node_delay p n else 0) ≤ 0
      none q false n l b e = omega arith
      none q true node.Never l b e = omega arith
      none q true (node.Input i) l b e = omega arith
      none q true (node.Min x y) l b e = omega arith
      none q true (node.Max x y) l b e = omega arith
      none q true (node.Lt x y) l b e = omega arith
      none q true (node.Inc a c) l b e = go (nat_eq a.0 p) refl
        where
          go : (d : Bool) → nat_eq a.0 p ≡ d → (if d then c else 0) ≤ 0
          go false f = omega arith
          go true f =
              let o : IsOperand p (node_at ns q) = subst (IsOperand p) (sym e) (sym (eqb-true a.0 p f)) in
              absurd (true≢false (sym (operand_marked q p l b o) ∙ m))

  bits_are : sum_by (longest_at ns ms) (places N) ≡ sum_by (longest_delay rts) D
  bits_are =
      sum_all (longest_at ns ms) (is_marked ms) N no_delay
      ∙ (sum_same (longest_at ns ms) (λ i. longest_delay rts (tree ns i)) (is_marked ms) N (λ k lt m. longest_is k lt)
      ∙ (sym (sum_map (longest_delay rts) (tree ns) (filter (is_marked ms) (places N))) ∙ same_as_D (longest_delay rts)))

  pub counts_right : CountsAreRight ns roots ms
  counts_right = record {
    joins = counts is_join is_join_node same_join;
    delays = counts is_delay is_delay_node same_delay;
    lts = counts is_lt is_lt_node same_lt;
    longest = longest_is;
    bits = ap (λ k. k + lt_count rts) bits_are;
  }
