-- Subterms of terms.
use Rattle.std.proofs.Common.{◌≡◌, ℕ, zero, suc, ◌<◌, refl, ap, subst, arith, sym, ◌∙◌, Bool, true, false, true≢false, ◌&&◌, ◌||◌, nat_eq, length, List, [], ◌∷◌, ◌++◌, ◌⊎◌, inl, inr}
use Rattle.std.specs.List.{slice_index_or}
use Rattle.std.proofs.lemmas.Bool.Decides.{nat_tests}
use Rattle.std.proofs.lemmas.List.Folds.{list_any-append}
use Rattle.std.proofs.lemmas.List.Concat.{flat_map-cons}
use Rattle.term_store.specs.Tree.{Tree, Never, Input, Min, Max, Lt, Inc}
use Rattle.term_store.specs.Subterms.{subterms, all_subterms, same_tree, is_among}

pub same_refl : (t : Tree) → same_tree t t ≡ true
same_refl Never = refl
same_refl (Input i) = grind (arith, nat_tests)
same_refl (Min a b) = ap (λ p. p && same_tree b b) (same_refl a) ∙ same_refl b
same_refl (Max a b) = ap (λ p. p && same_tree b b) (same_refl a) ∙ same_refl b
same_refl (Lt a b) = ap (λ p. p && same_tree b b) (same_refl a) ∙ same_refl b
same_refl (Inc a c) = ap (λ p. p && nat_eq c c) (same_refl a) ∙ nat_refl c
  where
    nat_refl : (n : ℕ) → (true && nat_eq n n) ≡ true
    nat_refl n = grind (arith, nat_tests)

pub both_are : (p q : Bool) → (p && q) ≡ true → (p ≡ true) × (q ≡ true)
both_are true q e = (refl, e)
both_are false q e = absurd (true≢false (sym e))

nat_same : (a b : ℕ) → nat_eq a b ≡ true → a ≡ b
nat_same a b e = grind (arith, nat_tests)

pub same_is : (s t : Tree) → same_tree s t ≡ true → s ≡ t
same_is Never Never e = refl
same_is (Input i) (Input j) e = ap Input (nat_same i j e)
same_is (Min a b) (Min c d) e = let h = both_are (same_tree a c) (same_tree b d) e in let p = same_is a c h.0 in let q = same_is b d h.1 in cc
same_is (Max a b) (Max c d) e = let h = both_are (same_tree a c) (same_tree b d) e in let p = same_is a c h.0 in let q = same_is b d h.1 in cc
same_is (Lt a b) (Lt c d) e = let h = both_are (same_tree a c) (same_tree b d) e in let p = same_is a c h.0 in let q = same_is b d h.1 in cc
same_is (Inc a m) (Inc b n) e = let h = both_are (same_tree a b) (nat_eq m n) e in let p = same_is a b h.0 in let q = nat_same m n h.1 in cc
same_is s t e = absurd (true≢false (sym e))

-- s is in t
abbrev pub IsIn : Tree → Tree → Type 0
IsIn s Never = s ≡ Never
IsIn s (Input i) = s ≡ Input i
IsIn s (Min a b) = (s ≡ Min a b) ⊎ (IsIn s a ⊎ IsIn s b)
IsIn s (Max a b) = (s ≡ Max a b) ⊎ (IsIn s a ⊎ IsIn s b)
IsIn s (Lt a b) = (s ≡ Lt a b) ⊎ (IsIn s a ⊎ IsIn s b)
IsIn s (Inc a c) = (s ≡ Inc a c) ⊎ IsIn s a

pub or_left : (p q : Bool) → p ≡ true → (p || q) ≡ true
or_left p q e = ap (λ b. b || q) e

pub or_right : (p q : Bool) → q ≡ true → (p || q) ≡ true
or_right true q e = refl
or_right false q e = e

pub or_either : (p q : Bool) → (p || q) ≡ true → (p ≡ true) ⊎ (q ≡ true)
or_either true q e = inl refl
or_either false q e = inr e

pub same_from : (s t : Tree) → s ≡ t → same_tree s t ≡ true
same_from s t e = subst (λ u. same_tree s u ≡ true) e (same_refl s)

pub among_append : (s : Tree) (xs ys : List Tree) → is_among s (xs ++ ys) ≡ (is_among s xs || is_among s ys)
among_append s xs ys = list_any-append (same_tree s) xs ys

pair_to : (s t : Tree) (xs ys : List Tree) → (s ≡ t) ⊎ ((is_among s xs ≡ true) ⊎ (is_among s ys ≡ true)) → is_among s (t ∷ xs ++ ys) ≡ true
pair_to s t xs ys h = elim h [
  | inl e ↦ or_left (same_tree s t) _ (same_from s t e)
  | inr k ↦ or_right (same_tree s t) _ (among_append s xs ys ∙ elim k [ inl p ↦ or_left _ _ p | inr q ↦ or_right _ _ q ])
]

pair_from : (s t : Tree) (xs ys : List Tree) → is_among s (t ∷ xs ++ ys) ≡ true → (s ≡ t) ⊎ ((is_among s xs ≡ true) ⊎ (is_among s ys ≡ true))
pair_from s t xs ys h = elim (or_either (same_tree s t) (is_among s (xs ++ ys)) h) [
  | inl e ↦ inl (same_is s t e)
  | inr k ↦ inr (or_either (is_among s xs) (is_among s ys) (sym (among_append s xs ys) ∙ k))
]

leaf_to : (s t : Tree) → s ≡ t → is_among s (t ∷ []) ≡ true
leaf_to s t e = or_left (same_tree s t) false (same_from s t e)

leaf_from : (s t : Tree) → is_among s (t ∷ []) ≡ true → s ≡ t
leaf_from s t h = elim (or_either (same_tree s t) false h) [ inl e ↦ same_is s t e | inr e ↦ absurd (true≢false (sym e)) ]

pub among_from_in : (s t : Tree) → IsIn s t → is_among s (subterms t) ≡ true
among_from_in s Never h = leaf_to s Never h
among_from_in s (Input i) h = leaf_to s (Input i) h
among_from_in s (Min a b) h = pair_to s (Min a b) (subterms a) (subterms b) (elim h [ inl e ↦ inl e | inr k ↦ inr (elim k [ inl p ↦ inl (among_from_in s a p) | inr q ↦ inr (among_from_in s b q) ]) ])
among_from_in s (Max a b) h = pair_to s (Max a b) (subterms a) (subterms b) (elim h [ inl e ↦ inl e | inr k ↦ inr (elim k [ inl p ↦ inl (among_from_in s a p) | inr q ↦ inr (among_from_in s b q) ]) ])
among_from_in s (Lt a b) h = pair_to s (Lt a b) (subterms a) (subterms b) (elim h [ inl e ↦ inl e | inr k ↦ inr (elim k [ inl p ↦ inl (among_from_in s a p) | inr q ↦ inr (among_from_in s b q) ]) ])
among_from_in s (Inc a c) h = elim h [ inl e ↦ or_left (same_tree s (Inc a c)) _ (same_from s (Inc a c) e) | inr k ↦ or_right (same_tree s (Inc a c)) _ (among_from_in s a k) ]

pub in_from_among : (s t : Tree) → is_among s (subterms t) ≡ true → IsIn s t
in_from_among s Never h = leaf_from s Never h
in_from_among s (Input i) h = leaf_from s (Input i) h
in_from_among s (Min a b) h = elim (pair_from s (Min a b) (subterms a) (subterms b) h) [
  | inl e ↦ inl e
  | inr k ↦ inr (elim k [ inl p ↦ inl (in_from_among s a p) | inr q ↦ inr (in_from_among s b q) ])
]
in_from_among s (Max a b) h = elim (pair_from s (Max a b) (subterms a) (subterms b) h) [
  | inl e ↦ inl e
  | inr k ↦ inr (elim k [ inl p ↦ inl (in_from_among s a p) | inr q ↦ inr (in_from_among s b q) ])
]
in_from_among s (Lt a b) h = elim (pair_from s (Lt a b) (subterms a) (subterms b) h) [
  | inl e ↦ inl e
  | inr k ↦ inr (elim k [ inl p ↦ inl (in_from_among s a p) | inr q ↦ inr (in_from_among s b q) ])
]
in_from_among s (Inc a c) h = elim (or_either (same_tree s (Inc a c)) (is_among s (subterms a)) h) [ inl e ↦ inl (same_is s (Inc a c) e) | inr k ↦ inr (in_from_among s a k) ]

pub all_subterms_cons : (t : Tree) (ts : List Tree) → all_subterms (t ∷ ts) ≡ subterms t ++ all_subterms ts
all_subterms_cons t ts = flat_map-cons subterms t ts

pub among_cons : (s t : Tree) (ts : List Tree) → is_among s (all_subterms (t ∷ ts)) ≡ (is_among s (subterms t) || is_among s (all_subterms ts))
among_cons s t ts = ap (is_among s) (all_subterms_cons t ts) ∙ among_append s (subterms t) (all_subterms ts)

-- what is in a tree of the list is among the subterms
pub among_all : (s : Tree) (ts : List Tree) (k : ℕ) (d : Tree) → k < length ts → IsIn s (slice_index_or ts k d) → is_among s (all_subterms ts) ≡ true
among_all s [] k d h i = absurd (omega arith)
among_all s (t ∷ ts) zero d h i = among_cons s t ts ∙ or_left _ _ (among_from_in s t i)
among_all s (t ∷ ts) (suc k) d h i = among_cons s t ts ∙ or_right (is_among s (subterms t)) _ (among_all s ts k d (omega arith) i)

-- and what is among them is in one of these
pub all_among : (s : Tree) (ts : List Tree) (d : Tree) → is_among s (all_subterms ts) ≡ true → (k : ℕ) × (k < length ts) × IsIn s (slice_index_or ts k d)
all_among s [] d h = absurd (true≢false (sym h))
all_among s (t ∷ ts) d h = elim (or_either (is_among s (subterms t)) (is_among s (all_subterms ts)) (sym (among_cons s t ts) ∙ h)) [
  | inl e ↦ (0, omega arith, in_from_among s t e)
  | inr e ↦ let r = all_among s ts d e in (suc r.0, omega (arith, r.1), r.2)
]

pub in_self : (t : Tree) → IsIn t t
in_self Never = refl
in_self (Input i) = refl
in_self (Min a b) = inl refl
in_self (Max a b) = inl refl
in_self (Lt a b) = inl refl
in_self (Inc a c) = inl refl

pub in_trans : (s t u : Tree) → IsIn s t → IsIn t u → IsIn s u
in_trans s t Never h k = subst (IsIn s) k h
in_trans s t (Input i) h k = subst (IsIn s) k h
in_trans s t (Min a b) h k = elim k [
  | inl e ↦ subst (IsIn s) e h
  | inr m ↦ inr (elim m [ inl p ↦ inl (in_trans s t a h p) | inr q ↦ inr (in_trans s t b h q) ])
]
in_trans s t (Max a b) h k = elim k [
  | inl e ↦ subst (IsIn s) e h
  | inr m ↦ inr (elim m [ inl p ↦ inl (in_trans s t a h p) | inr q ↦ inr (in_trans s t b h q) ])
]
in_trans s t (Lt a b) h k = elim k [
  | inl e ↦ subst (IsIn s) e h
  | inr m ↦ inr (elim m [ inl p ↦ inl (in_trans s t a h p) | inr q ↦ inr (in_trans s t b h q) ])
]
in_trans s t (Inc a c) h k = elim k [ inl e ↦ subst (IsIn s) e h | inr m ↦ inr (in_trans s t a h m) ]
