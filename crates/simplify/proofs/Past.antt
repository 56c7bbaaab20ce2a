-- Going past a chain at once settles to what going past it step by step does.
use Rattle.std.proofs.Common.{◌≡◌, ℕ, ◌<◌, ◌≤◌, refl, ap, subst, arith, sym, ◌∙◌, Bool, true, false, true≢false, ◌||◌, if◌then◌else◌, [], ◌∷◌, List, Option, Some, None, inl, inr}
use Rattle.std.specs.Option.{option_or}
use Rattle.term_store.specs.Tree.{Tree, Never, Input, Min, Max, Lt, Inc, span}
use Rattle.term_store.specs.Subterms.{same_tree}
use Rattle.term_store.proofs.Parts.{same_refl, same_is, or_either}
use Rattle.simplify.specs.Simplified.{Law, size, settled, is_never, is_min_of, law, first_law, law5, law6, law7, law12, law13, law14, law15, law18, law19}
use Rattle.simplify.specs.Past.{past_max, past_min, all_of_law13, all_of_law14}
use Rattle.simplify.specs.Outcomes.{lt_laws, stride}
use Rattle.simplify.proofs.Matching.{never_is, law_step}
use Rattle.simplify.proofs.Simp.{settled_step, settled_none, input_none, never_none}

-- tests that fail

differ : (b : Bool) → (b ≡ true → ⊥) → b ≡ false
differ true h = absurd (h refl)
differ false h = refl

other_size : (s t : Tree) → (size s ≡ size t → ⊥) → same_tree s t ≡ false
other_size s t h = differ (same_tree s t) (λ e. h (ap size (same_is s t e)))

no_min_of : (a b : Tree) → size b ≤ size a → is_min_of a b ≡ false
no_min_of a (Min x y) h = differ (same_tree a x || same_tree a y) (λ e. elim (or_either (same_tree a x) (same_tree a y) e) [
  | inl p ↦ omega (arith, h, ap size (same_is a x p))
  | inr q ↦ omega (arith, h, ap size (same_is a y q))
])
no_min_of a t h = refl

-- laws before and after one that fits

skip : (b : Bool) (x : Tree) (o : Option Tree) → b ≡ false → option_or (if b then Some x else None) o ≡ o
skip false x o e = refl
skip true x o e = absurd (true≢false e)

first_fits : (b : Bool) (x : Tree) (o p : Option Tree) → b ≡ true → option_or (if b then Some x else o) p ≡ Some x
first_fits true x o p e = refl
first_fits false x o p e = absurd (true≢false (sym e))

second_fits : (b c : Bool) (x y : Tree) (p : Option Tree) → b ≡ false → c ≡ true → option_or (if b then Some x else if c then Some y else None) p ≡ Some y
second_fits false true x y p e f = refl
second_fits true c x y p e f = absurd (true≢false e)
second_fits false false x y p e f = absurd (true≢false (sym f))

none_fits : (b c : Bool) (x y : Tree) → b ≡ false → c ≡ false → (if b then Some x else if c then Some y else None) ≡ None
none_fits false false x y e f = refl
none_fits true c x y e f = absurd (true≢false e)
none_fits false true x y e f = absurd (true≢false f)

-- the laws of lt one by one
single_laws : List Law
single_laws = law5 ∷ law6 ∷ law7 ∷ law12 ∷ law13 ∷ law14 ∷ law15 ∷ law18 ∷ law19 ∷ []

single_choice : (a b : Tree) → law (Lt a b) ≡ first_law single_laws (Lt a b)
unfolding law single_laws
single_choice a b = refl

from13 : (a b : Tree) → same_tree a b ≡ false → is_never a ≡ false → is_never b ≡ false → is_min_of a b ≡ false
    → law (Lt a b) ≡ option_or (law13 (Lt a b)) (first_law (law14 ∷ law15 ∷ law18 ∷ law19 ∷ []) (Lt a b))
unfolding law
from13 a b e f g h = skip (same_tree a b) Never _ e ∙ skip (is_never a) a _ f ∙ skip (is_never b) a _ g ∙ skip (is_min_of a b) Never _ h

law_of_never : (b : Tree) → law (Lt Never b) ≡ Some Never
unfolding law
law_of_never Never = refl
law_of_never (Input i) = refl
law_of_never (Min x y) = refl
law_of_never (Max x y) = refl
law_of_never (Lt x y) = refl
law_of_never (Inc x c) = refl

never_settles : (b : Tree) → settled (Lt Never b) ≡ Never
never_settles b = settled_step (Lt Never b) Never (law_of_never b) ∙ settled_none Never never_none

-- v and u settle to the same, and u is no larger
pub record IsFar (v u : Tree) : Type 0 where
  pub same : settled v ≡ settled u
  pub no_larger : size u ≤ size v
  pub no_longer : span u ≤ span v

-- one max is taken off

left_max : (a p q : Tree) → same_tree a p ≡ true → settled (Lt a (Max p q)) ≡ settled (Lt a q)
left_max a p q e = go (is_never a) refl
  where
    go : (n : Bool) → is_never a ≡ n → settled (Lt a (Max p q)) ≡ settled (Lt a q)
    go true f = subst (λ z. settled (Lt z (Max p q)) ≡ settled (Lt z q)) (sym (never_is a f)) (never_settles (Max p q) ∙ sym (never_settles q))
    go false f = settled_step (Lt a (Max p q)) (Lt a q)
        (from13 a (Max p q) (other_size a (Max p q) (λ k. omega (arith, k, ap size (same_is a p e)))) f refl refl ∙ first_fits (same_tree a p) (Lt a q) _ _ e)

right_max : (a p q : Tree) → same_tree a p ≡ false → same_tree a q ≡ true → settled (Lt a (Max p q)) ≡ settled (Lt a p)
right_max a p q d e = go (is_never a) refl
  where
    go : (n : Bool) → is_never a ≡ n → settled (Lt a (Max p q)) ≡ settled (Lt a p)
    go true f = subst (λ z. settled (Lt z (Max p q)) ≡ settled (Lt z p)) (sym (never_is a f)) (never_settles (Max p q) ∙ sym (never_settles p))
    go false f = settled_step (Lt a (Max p q)) (Lt a p)
        (from13 a (Max p q) (other_size a (Max p q) (λ k. omega (arith, k, ap size (same_is a q e)))) f refl refl ∙ second_fits (same_tree a p) (same_tree a q) (Lt a q) (Lt a p) _ d e)

-- and all of them

pub max_far : (a b : Tree) → IsFar (Lt a b) (Lt a (past_max a b))
max_far a (Max p q) = go (same_tree a p) refl (same_tree a q) refl (max_far a p) (max_far a q)
  where
    go : (m : Bool) → same_tree a p ≡ m → (n : Bool) → same_tree a q ≡ n → IsFar (Lt a p) (Lt a (past_max a p)) → IsFar (Lt a q) (Lt a (past_max a q))
        → IsFar (Lt a (Max p q)) (Lt a (if m then past_max a q else if n then past_max a p else Max p q))
    go true e n f l r = record { same = left_max a p q e ∙ r.same; no_larger = omega (arith, r.no_larger); no_longer = omega (arith, r.no_longer) }
    go false e true f l r = record { same = right_max a p q e f ∙ l.same; no_larger = omega (arith, l.no_larger); no_longer = omega (arith, l.no_longer) }
    go false e false f l r = record { same = refl; no_larger = omega arith; no_longer = omega arith }
max_far a t = record { same = refl; no_larger = omega arith; no_longer = omega arith }

-- one min is taken off

no_law13 : (a b : Tree) → size b ≤ size a → law13 (Lt a b) ≡ None
no_law13 a (Max x y) h = none_fits (same_tree a x) (same_tree a y) (Lt a y) (Lt a x)
    (other_size a x (λ k. omega (arith, k, h))) (other_size a y (λ k. omega (arith, k, h)))
no_law13 a t h = refl

from14 : (p q b : Tree) → is_never b ≡ false → size b < size (Min p q)
    → law (Lt (Min p q) b) ≡ option_or (law14 (Lt (Min p q) b)) (first_law (law15 ∷ law18 ∷ law19 ∷ []) (Lt (Min p q) b))
from14 p q b n h =
    from13 (Min p q) b (other_size (Min p q) b (λ k. omega (arith, k, h))) refl n (no_min_of (Min p q) b (omega (arith, h)))
    ∙ ap (λ o. option_or o (first_law (law14 ∷ law15 ∷ law18 ∷ law19 ∷ []) (Lt (Min p q) b))) (no_law13 (Min p q) b (omega (arith, h)))

left_min : (b p q : Tree) → is_never b ≡ false → same_tree p b ≡ true → settled (Lt (Min p q) b) ≡ settled (Lt q b)
left_min b p q n e = settled_step (Lt (Min p q) b) (Lt q b) (from14 p q b n (omega (arith, ap size (same_is p b e))) ∙ first_fits (same_tree p b) (Lt q b) _ _ e)

right_min : (b p q : Tree) → is_never b ≡ false → same_tree p b ≡ false → same_tree q b ≡ true → settled (Lt (Min p q) b) ≡ settled (Lt p b)
right_min b p q n d e = settled_step (Lt (Min p q) b) (Lt p b)
    (from14 p q b n (omega (arith, ap size (same_is q b e))) ∙ second_fits (same_tree p b) (same_tree q b) (Lt q b) (Lt p b) _ d e)

-- and all of them

pub min_far : (b a : Tree) → is_never b ≡ false → IsFar (Lt a b) (Lt (past_min b a) b)
min_far b (Min p q) k = go (same_tree p b) refl (same_tree q b) refl (min_far b p k) (min_far b q k)
  where
    go : (m : Bool) → same_tree p b ≡ m → (n : Bool) → same_tree q b ≡ n → IsFar (Lt p b) (Lt (past_min b p) b) → IsFar (Lt q b) (Lt (past_min b q) b)
        → IsFar (Lt (Min p q) b) (Lt (if m then past_min b q else if n then past_min b p else Min p q) b)
    go true e n f l r = record { same = left_min b p q k e ∙ r.same; no_larger = omega (arith, r.no_larger); no_longer = omega (arith, r.no_longer) }
    go false e true f l r = record { same = right_min b p q k e f ∙ l.same; no_larger = omega (arith, l.no_larger); no_longer = omega (arith, l.no_longer) }
    go false e false f l r = record { same = refl; no_larger = omega arith; no_longer = omega arith }
min_far b t k = record { same = refl; no_larger = omega arith; no_longer = omega arith }

-- two answers: where the one says nothing, the other does not either
abbrev IsFarAnswer : Option Tree → Option Tree → Type 0
IsFarAnswer None None = Unit {0}
IsFarAnswer (Some v) (Some u) = IsFar v u
IsFarAnswer o p = ⊥

same_far : (o : Option Tree) → IsFarAnswer o o
same_far None = tt
same_far (Some v) = record { same = refl; no_larger = omega arith; no_longer = omega arith }

first_far : (o p q r : Option Tree) → IsFarAnswer o p → IsFarAnswer q r → IsFarAnswer (option_or o q) (option_or p r)
first_far None None q r h k = k
first_far (Some v) (Some u) q r h k = h
first_far None (Some u) q r h k = absurd h
first_far (Some v) None q r h k = absurd h

-- what all of a law makes, where the test of same trees is known
moved : (b : Bool) (v u : Tree) → b ≡ false → IsFar v u → IsFarAnswer (Some v) (if b then None else Some u)
moved false v u e h = h
moved true v u e h = absurd (true≢false e)

stays : (b : Bool) (u : Tree) → b ≡ true → IsFarAnswer None (if b then None else Some u)
stays true u e = tt
stays false u e = absurd (true≢false (sym e))

far13 : (a b : Tree) → IsFarAnswer (law13 (Lt a b)) (all_of_law13 (Lt a b))
far13 a (Max p q) = go (same_tree a p) (same_tree a q) (max_far a p) (max_far a q)
  where
    go : (m n : Bool) → IsFar (Lt a p) (Lt a (past_max a p)) → IsFar (Lt a q) (Lt a (past_max a q))
        → IsFarAnswer (if m then Some (Lt a q) else if n then Some (Lt a p) else None)
        (if same_tree (if m then past_max a q else if n then past_max a p else Max p q) (Max p q) then None else Some (Lt a (if m then past_max a q else if n then past_max a p else Max p q)))
    go true n l r = moved (same_tree (past_max a q) (Max p q)) (Lt a q) (Lt a (past_max a q)) (other_size (past_max a q) (Max p q) (λ k. omega (arith, k, r.no_larger))) r
    go false true l r = moved (same_tree (past_max a p) (Max p q)) (Lt a p) (Lt a (past_max a p)) (other_size (past_max a p) (Max p q) (λ k. omega (arith, k, l.no_larger))) l
    go false false l r = stays (same_tree (Max p q) (Max p q)) (Lt a (Max p q)) (same_refl (Max p q))
far13 a Never = tt
far13 a (Input i) = stays (same_tree (Input i) (Input i)) (Lt a (Input i)) (same_refl (Input i))
far13 a (Min x y) = stays (same_tree (Min x y) (Min x y)) (Lt a (Min x y)) (same_refl (Min x y))
far13 a (Lt x y) = stays (same_tree (Lt x y) (Lt x y)) (Lt a (Lt x y)) (same_refl (Lt x y))
far13 a (Inc x c) = stays (same_tree (Inc x c) (Inc x c)) (Lt a (Inc x c)) (same_refl (Inc x c))

far14 : (a b : Tree) → is_never b ≡ false → IsFarAnswer (law14 (Lt a b)) (all_of_law14 (Lt a b))
far14 (Min p q) b k = go (same_tree p b) (same_tree q b) (min_far b p k) (min_far b q k)
  where
    go : (m n : Bool) → IsFar (Lt p b) (Lt (past_min b p) b) → IsFar (Lt q b) (Lt (past_min b q) b)
        → IsFarAnswer (if m then Some (Lt q b) else if n then Some (Lt p b) else None)
        (if same_tree (if m then past_min b q else if n then past_min b p else Min p q) (Min p q) then None else Some (Lt (if m then past_min b q else if n then past_min b p else Min p q) b))
    go true n l r = moved (same_tree (past_min b q) (Min p q)) (Lt q b) (Lt (past_min b q) b) (other_size (past_min b q) (Min p q) (λ k. omega (arith, k, r.no_larger))) r
    go false true l r = moved (same_tree (past_min b p) (Min p q)) (Lt p b) (Lt (past_min b p) b) (other_size (past_min b p) (Min p q) (λ k. omega (arith, k, l.no_larger))) l
    go false false l r = stays (same_tree (Min p q) (Min p q)) (Lt (Min p q) b) (same_refl (Min p q))
far14 Never b k = tt
far14 (Input i) b k = stays (same_tree (Input i) (Input i)) (Lt (Input i) b) (same_refl (Input i))
far14 (Max x y) b k = stays (same_tree (Max x y) (Max x y)) (Lt (Max x y) b) (same_refl (Max x y))
far14 (Lt x y) b k = stays (same_tree (Lt x y) (Lt x y)) (Lt (Lt x y) b) (same_refl (Lt x y))
far14 (Inc x c) b k = stays (same_tree (Inc x c) (Inc x c)) (Lt (Inc x c) b) (same_refl (Inc x c))

lt_far : (a b : Tree) → IsFarAnswer (first_law single_laws (Lt a b)) (first_law lt_laws (Lt a b))
unfolding single_laws
lt_far a b = go (is_never b) refl
  where
    go : (n : Bool) → is_never b ≡ n → IsFarAnswer (first_law (law5 ∷ law6 ∷ law7 ∷ law12 ∷ law13 ∷ law14 ∷ law15 ∷ law18 ∷ law19 ∷ []) (Lt a b)) (first_law lt_laws (Lt a b))
    go true e = subst (λ z. IsFarAnswer (first_law (law5 ∷ law6 ∷ law7 ∷ law12 ∷ law13 ∷ law14 ∷ law15 ∷ law18 ∷ law19 ∷ []) (Lt a z)) (first_law lt_laws (Lt a z))) (sym (never_is b e))
        (first_far _ _ _ _ (same_far (law5 (Lt a Never))) (first_far _ _ _ _ (same_far (law6 (Lt a Never))) (same_far (Some a))))
    go false e =
        first_far _ _ _ _ (same_far (law5 (Lt a b))) (first_far _ _ _ _ (same_far (law6 (Lt a b))) (first_far _ _ _ _ (same_far (law7 (Lt a b))) (first_far _ _ _ _ (same_far (law12 (Lt a b)))
        (first_far _ _ _ _ (far13 a b) (first_far _ _ _ _ (far14 a b e) (same_far (first_law (law15 ∷ law18 ∷ law19 ∷ []) (Lt a b))))))))

stride_far : (t : Tree) → IsFarAnswer (law t) (stride t)
unfolding stride
stride_far (Lt a b) = subst (λ o. IsFarAnswer o (first_law lt_laws (Lt a b))) (sym (single_choice a b)) (lt_far a b)
stride_far Never = same_far (law Never)
stride_far (Input i) = same_far (law (Input i))
stride_far (Min a b) = same_far (law (Min a b))
stride_far (Max a b) = same_far (law (Max a b))
stride_far (Inc a c) = same_far (law (Inc a c))

-- a stride settles to the same, and is smaller
pub record IsStride (t u : Tree) : Type 0 where
  pub same : settled t ≡ settled u
  pub smaller : size u < size t
  pub no_longer : span u ≤ span t

pub stride_some : (t u : Tree) → stride t ≡ Some u → IsStride t u
stride_some t u e = go (law t) refl (subst (IsFarAnswer (law t)) e (stride_far t))
  where
    go : (o : Option Tree) → law t ≡ o → IsFarAnswer o (Some u) → IsStride t u
    go None f h = absurd h
    go (Some v) f h = let s = law_step t v f in record { same = settled_step t v f ∙ h.same; smaller = omega (arith, s.smaller, h.no_larger); no_longer = omega (arith, s.no_longer, h.no_longer) }

pub stride_none : (t : Tree) → stride t ≡ None → law t ≡ None
stride_none t e = go (law t) refl (subst (IsFarAnswer (law t)) e (stride_far t))
  where
    go : (o : Option Tree) → law t ≡ o → IsFarAnswer o None → law t ≡ None
    go None f h = f
    go (Some v) f h = absurd h

-- inputs and never fit no law
pub stride_input : (i : ℕ) → stride (Input i) ≡ None
unfolding stride
stride_input i = input_none i

pub stride_never : stride Never ≡ None
unfolding stride
stride_never = never_none

pub settled_at : (t : Tree) → stride t ≡ None → settled t ≡ t
settled_at t e = settled_none t (stride_none t e)
