-- The ends of chains that are noted.
use Rattle.std.proofs.Common.{◌≡◌, ℕ, ◌<◌, refl, ap, subst, arith, sym, ◌∙◌, Bool, true, false, true≢false, if◌then◌else◌, length, List, [], ◌∷◌, ◌++◌, length-append, inl, inr}
use Rattle.std.proofs.lemmas.Bool.{cases_lt}
use Rattle.std.proofs.lemmas.List.{get_or_append_left, get_or_push}
use Rattle.term_store.specs.declared.node.Term.{Term}
use Rattle.term_store.specs.declared.node.Node.{Node}
use Rattle.term_store.specs.Tree.{Tree, Min, Max}
use Rattle.term_store.specs.Subterms.{same_tree}
use Rattle.term_store.proofs.Parts.{same_is}
use Rattle.term_store.specs.Nodes.{node_at, IsNodes}
use Rattle.term_store.specs.Trees.{tree, term, IsPrefix}
use Rattle.term_store.specs.Places.{tree_by_places}
use Rattle.term_store.proofs.Counted.{follows}
use Rattle.simplify.specs.declared.ends.Ends.{Ends}
use Rattle.simplify.specs.Outcomes.{IsNoMax, IsNoMin}
use Rattle.simplify.specs.Past.{past_max, past_min, IsAt, AreEndsOf, AreEnds, ends_at}
use Rattle.simplify.proofs.Passed.{prefix_tree, longer}

-- what is past a chain, one operator at a time

pub no_chain_max : (a t : Tree) → IsNoMax t → past_max a t ≡ t
no_chain_max a (Max x y) h = absurd h
no_chain_max a t h = refl

pub no_chain_min : (a t : Tree) → IsNoMin t → past_min a t ≡ t
no_chain_min a (Min x y) h = absurd h
no_chain_min a t h = refl

if_true : (b : Bool) (s t : Tree) → b ≡ true → (if b then s else t) ≡ s
if_true true s t e = refl
if_true false s t e = absurd (true≢false (sym e))

if_false : (b : Bool) (s t : Tree) → b ≡ false → (if b then s else t) ≡ t
if_false false s t e = refl
if_false true s t e = absurd (true≢false e)

-- the ends that are noted of a max and of a min

pub ends_of_max : (ns : List Node) (ends : List Ends) (b : ℕ) (x y : Tree) → AreEnds ns ends → b < length ends → tree ns b ≡ Max x y
    → IsAt ns (ends_at ends b).past_first (past_max x y) × IsAt ns (ends_at ends b).past_second (past_max y x)
ends_of_max ns ends b x y h lt e = subst (λ t. AreEndsOf ns t (ends_at ends b)) e (h.at b lt)

pub ends_of_min : (ns : List Node) (ends : List Ends) (b : ℕ) (x y : Tree) → AreEnds ns ends → b < length ends → tree ns b ≡ Min x y
    → IsAt ns (ends_at ends b).past_first (past_min x y) × IsAt ns (ends_at ends b).past_second (past_min y x)
ends_of_min ns ends b x y h lt e = subst (λ t. AreEndsOf ns t (ends_at ends b)) e (h.at b lt)

pub first_of_max : (ns : List Node) (ends : List Ends) (b : ℕ) (a x y : Tree) → AreEnds ns ends → b < length ends → tree ns b ≡ Max x y → same_tree a x ≡ true
    → IsAt ns (ends_at ends b).past_first (past_max a (tree ns b))
first_of_max ns ends b a x y h lt is e =
    let at = (ends_of_max ns ends b x y h lt is).0 in
    (at.0, at.1 ∙ ap (λ z. past_max z y) (sym (same_is a x e)) ∙ sym (if_true (same_tree a x) _ _ e) ∙ ap (past_max a) (sym is))

pub second_of_max : (ns : List Node) (ends : List Ends) (b : ℕ) (a x y : Tree) → AreEnds ns ends → b < length ends → tree ns b ≡ Max x y → same_tree a x ≡ false → same_tree a y ≡ true
    → IsAt ns (ends_at ends b).past_second (past_max a (tree ns b))
second_of_max ns ends b a x y h lt is d e =
    let at = (ends_of_max ns ends b x y h lt is).1 in
    (at.0, at.1 ∙ ap (λ z. past_max z x) (sym (same_is a y e)) ∙ sym (if_false (same_tree a x) _ _ d ∙ if_true (same_tree a y) _ _ e) ∙ ap (past_max a) (sym is))

pub first_of_min : (ns : List Node) (ends : List Ends) (b : ℕ) (a x y : Tree) → AreEnds ns ends → b < length ends → tree ns b ≡ Min x y → same_tree x a ≡ true
    → IsAt ns (ends_at ends b).past_first (past_min a (tree ns b))
first_of_min ns ends b a x y h lt is e =
    let at = (ends_of_min ns ends b x y h lt is).0 in
    (at.0, at.1 ∙ ap (λ z. past_min z y) (same_is x a e) ∙ sym (if_true (same_tree x a) _ _ e) ∙ ap (past_min a) (sym is))

pub second_of_min : (ns : List Node) (ends : List Ends) (b : ℕ) (a x y : Tree) → AreEnds ns ends → b < length ends → tree ns b ≡ Min x y → same_tree x a ≡ false → same_tree y a ≡ true
    → IsAt ns (ends_at ends b).past_second (past_min a (tree ns b))
second_of_min ns ends b a x y h lt is d e =
    let at = (ends_of_min ns ends b x y h lt is).1 in
    (at.0, at.1 ∙ ap (λ z. past_min z x) (same_is y a e) ∙ sym (if_false (same_tree x a) _ _ d ∙ if_true (same_tree y a) _ _ e) ∙ ap (past_min a) (sym is))

-- one place more

pub one_noted : (ns : List Node) (ends : List Ends) (next : Ends) → AreEnds ns ends → length ends < length ns → AreEndsOf ns (tree ns (length ends)) next → AreEnds ns (ends ++ next ∷ [])
one_noted ns ends next h lt here = record {
  len = omega (arith, length-append ends (next ∷ []), lt);
  at = λ k b. elim (cases_lt k (length ends)) [
    | inl l ↦ subst (AreEndsOf ns (tree ns k)) (sym (get_or_append_left ends (next ∷ []) (record { past_first = term 0; past_second = term 0 }) k l)) (h.at k l)
    | inr g ↦ let e : k ≡ length ends = omega (arith, g, b, length-append ends (next ∷ [])) in
        subst (λ j. AreEndsOf ns (tree ns j) (ends_at (ends ++ next ∷ []) j)) (sym e)
        (subst (AreEndsOf ns (tree ns (length ends))) (sym (get_or_push ends next (record { past_first = term 0; past_second = term 0 }) (length ends) refl)) here)
  ];
}

-- the ends of the node that comes next
pub next_noted : (ns : List Node) (ends : List Ends) (place : ℕ) (n : Node) (next : Ends) → IsNodes ns → AreEnds ns ends → length ends ≡ place → place < length ns → n ≡ node_at ns place
    → AreEndsOf ns (tree_by_places ns n) next → AreEnds ns (ends ++ next ∷ [])
next_noted ns ends place n next s h len lt is here =
    let at : AreEndsOf ns (tree ns place) next = subst (λ t. AreEndsOf ns t next) (ap (tree_by_places ns) is ∙ sym (follows ns place s lt)) here in
    one_noted ns ends next h (omega (arith, len, lt)) (subst (λ k. AreEndsOf ns (tree ns k) next) (sym len) at)

pub none_noted : (ns : List Node) → AreEnds ns []
none_noted ns = record { len = omega arith; at = λ k h. absurd (omega (arith, h)) }

-- nodes that grow

at_grown : (old new : List Node) (p : Term) (t : Tree) → IsPrefix old new → IsAt old p t → IsAt new p t
at_grown old new p t grown h = (omega (arith, h.0, longer old new grown), prefix_tree old new p.0 grown h.0 ∙ h.1)

ends_of_grown : (old new : List Node) (t : Tree) (ends : Ends) → IsPrefix old new → AreEndsOf old t ends → AreEndsOf new t ends
ends_of_grown old new (Max x y) ends p h = (at_grown old new ends.past_first (past_max x y) p h.0, at_grown old new ends.past_second (past_max y x) p h.1)
ends_of_grown old new (Min x y) ends p h = (at_grown old new ends.past_first (past_min x y) p h.0, at_grown old new ends.past_second (past_min y x) p h.1)
ends_of_grown old new t ends p h = tt

pub ends_grown : (old new : List Node) (ends : List Ends) → IsPrefix old new → AreEnds old ends → AreEnds new ends
ends_grown old new ends p h = record {
  len = omega (arith, h.len, longer old new p);
  at = λ k lt. ends_of_grown old new (tree new k) (ends_at ends k) p
      (subst (λ t. AreEndsOf old t (ends_at ends k)) (sym (prefix_tree old new k p (omega (arith, lt, h.len)))) (h.at k lt));
}
