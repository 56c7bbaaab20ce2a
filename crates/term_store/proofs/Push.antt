-- A node that goes last.
use Rattle.std.proofs.Common.{◌≡◌, ℕ, ◌<◌, ◌≤◌, true, false, ap, subst, arith, sym, ◌∙◌, true≢false, not, length, List, [], ◌∷◌, ◌++◌, position, Some, None, inl, inr, if◌then◌else◌, length-append}
use Rattle.std.proofs.lemmas.Bool.{cases_lt}
use Rattle.std.proofs.lemmas.List.{get_or_append_left, get_or_push}
use Rattle.std.proofs.lemmas.List.Folds.{list_any_at, Any-from_list_any}
use Rattle.std.proofs.lemmas.List.Sums.{passes_at_first, fails_before_first, prefix_len-le-length}
use Rattle.std.specs.List.{list_any, position_or_len}
use Rattle.term_store.specs.declared.node.Node.{Node}
use Rattle.term_store.specs.declared.node.Node.TheVariants as node
use Rattle.term_store.specs.Nodes.{same_node, node_at, holds, place_of, with_node, IsNodeOver, IsNodes}
use Rattle.indexmap.specs.IndexSet.{insert_key}
use Rattle.std.proofs.lemmas.Bool.Decides.{nat_tests}
use Rattle.term_store.specs.contracts.node.NodePartialEq.TheImpl.{eq-value}
use Rattle.term_store.proofs.Same.{same_refl, same_is, eq_is}

-- a node that is at a place is held
pub held_at : (ns : List Node) (n : Node) (i : ℕ) → i < length ns → node_at ns i ≡ n → holds ns n ≡ true
held_at ns n i h e = list_any_at (same_node n) ns i node.Never h (subst (λ m. same_node n m ≡ true) (sym e) (same_refl n))

-- a list with one more
pub left_of_push : (ns : List Node) (n : Node) (i : ℕ) → i < length ns → node_at (ns ++ n ∷ []) i ≡ node_at ns i
left_of_push ns n i h = get_or_append_left ns (n ∷ []) node.Never i h

pub last_of_push : (ns : List Node) (n : Node) (i : ℕ) → length ns ≡ i → node_at (ns ++ n ∷ []) i ≡ n
last_of_push ns n i e = get_or_push ns n node.Never i e

pub within_push : (ns : List Node) (n : Node) (i : ℕ) → i < length (ns ++ n ∷ []) → i ≤ length ns
within_push ns n i h = omega (arith, length-append ns (n ∷ []))

-- a node at a place before the last is another than the new one
other_than_new : (ns : List Node) (n : Node) (i : ℕ) → holds ns n ≡ false → i < length ns → node_at ns i ≡ n → ⊥
other_than_new ns n i new h e = true≢false (sym (held_at ns n i h e) ∙ new)

pub push_lower : (ns : List Node) (n : Node) → IsNodes ns → IsNodeOver (length ns) n → (i : ℕ) → i < length (ns ++ n ∷ []) → IsNodeOver i (node_at (ns ++ n ∷ []) i)
push_lower ns n s over i h = elim (cases_lt i (length ns)) [
  | inl below ↦ subst (IsNodeOver i) (sym (left_of_push ns n i below)) (s.lower i below)
  | inr past ↦ let e : length ns ≡ i = omega (arith, within_push ns n i h) in
      subst (IsNodeOver i) (sym (last_of_push ns n i e)) (subst (λ k. IsNodeOver k n) e over)
]

pub push_distinct : (ns : List Node) (n : Node) → IsNodes ns → holds ns n ≡ false → (i j : ℕ) → i < length (ns ++ n ∷ []) → j < length (ns ++ n ∷ [])
    → node_at (ns ++ n ∷ []) i ≡ node_at (ns ++ n ∷ []) j → i ≡ j
push_distinct ns n s new i j hi hj e = elim (cases_lt i (length ns)) [
  | inl bi ↦ elim (cases_lt j (length ns)) [
    | inl bj ↦ s.distinct i j bi bj (sym (left_of_push ns n i bi) ∙ e ∙ left_of_push ns n j bj)
    | inr pj ↦ absurd (other_than_new ns n i new bi (sym (left_of_push ns n i bi) ∙ e ∙ last_of_push ns n j (omega (arith, within_push ns n j hj))))
  ]
  | inr pi ↦ elim (cases_lt j (length ns)) [
    | inl bj ↦ absurd (other_than_new ns n j new bj (sym (left_of_push ns n j bj) ∙ sym e ∙ last_of_push ns n i (omega (arith, within_push ns n i hi))))
    | inr pj ↦ omega (arith, within_push ns n i hi, within_push ns n j hj)
  ]
]

pub push_nodes : (ns : List Node) (n : Node) → IsNodes ns → holds ns n ≡ false → IsNodeOver (length ns) n → length ns < 262144 → IsNodes (ns ++ n ∷ [])
push_nodes ns n s new over room = record {
  few = omega (arith, length-append ns (n ∷ []));
  lower = push_lower ns n s over;
  distinct = push_distinct ns n s new;
}

-- what `==` of nodes computes
pub eq_at : (n : Node) → eq-value.it n ≡ same_node n
eq_at n = λ i m. eq_is n m i

-- a node that was found, with its place
pub found : (ns : List Node) (n : Node) (i : ℕ) → Some i ≡ position (eq-value.it n) ns → (i ≡ place_of ns n) × (i < length ns) × (node_at ns i ≡ n) × (holds ns n ≡ true)
found ns n i e =
    let f : Some i ≡ position (same_node n) ns = e ∙ ap (λ p. position p ns) (eq_at n) in
    elim (cases_lt (place_of ns n) (length ns)) [
      | inl h ↦ let k : i ≡ place_of ns n = grind (arith, nat_tests, f) in
          let at : node_at ns (place_of ns n) ≡ n = sym (same_is _ _ (passes_at_first (same_node n) ns node.Never h)) in
          (k, (subst (λ j. j < length ns) (sym k) h), subst (λ j. node_at ns j ≡ n) (sym k) at, held_at ns n (place_of ns n) h at)
      | inr h ↦ let k : Some i ≡ None = grind (arith, nat_tests, f) in cc
    ]

-- a new node goes last
pub with_new : (ns : List Node) (n : Node) → holds ns n ≡ false → with_node ns n ≡ ns ++ n ∷ []
with_new ns n e = ap (λ b. if b then ns else ns ++ n ∷ []) e

pub with_held : (ns : List Node) (n : Node) → holds ns n ≡ true → with_node ns n ≡ ns
with_held ns n e = ap (λ b. if b then ns else ns ++ n ∷ []) e

pub with_eq : (ns : List Node) (n : Node) → insert_key eq-value.it ns n ≡ with_node ns n
with_eq ns n = ap (λ p. if list_any p ns then ns else ns ++ n ∷ []) (eq_at n)

-- its place is then the former length
pub place_new : (ns : List Node) (n : Node) → holds ns n ≡ false → place_of ns n ≡ length ns
place_new ns n e = elim (cases_lt (place_of ns n) (length ns)) [
  | inl h ↦ absurd (other_than_new ns n (place_of ns n) e h (sym (same_is _ _ (passes_at_first (same_node n) ns node.Never h))))
  | inr h ↦ omega (arith, prefix_len-le-length (λ x. not (same_node n x)) ns)
]

pub place_eq : (ns : List Node) (n : Node) → position_or_len (eq-value.it n) ns ≡ place_of ns n
place_eq ns n = ap (λ p. position_or_len p ns) (eq_at n)

-- a node that is held is at its place
pub held_place : (ns : List Node) (n : Node) → holds ns n ≡ true → (place_of ns n < length ns) × (node_at ns (place_of ns n) ≡ n)
held_place ns n e = elim (cases_lt (place_of ns n) (length ns)) [
  | inl h ↦ (h, sym (same_is _ _ (passes_at_first (same_node n) ns node.Never h)))
  | inr h ↦ let some = Any-from_list_any (same_node n) ns e in
      absurd (true≢false (sym some.4 ∙ ap (same_node n) (sym some.3) ∙ fails_before_first (same_node n) ns some.0 some.1 (omega arith)))
]
