-- Lists of names that agree or differ.
use Rattle.std.proofs.Common.{◌≡◌, ℕ, zero, suc, ◌+◌, ◌<◌, ◌≤◌, ◌⊎◌, List, [], ◌∷◌, length, get_or, take, refl, sym, ◌∙◌, ap, subst, arith, inl, inr, Bool, true, false, Some, None}
use Rattle.std.specs.Prelude.{◌≢◌, nat_lt, slice_get}
use Rattle.std.specs.Bool.{OnTrue, OnFalse}
use Rattle.std.specs.Str.{bytes_eq}
use Rattle.std.proofs.lemmas.Bool.{cases_lt, ltb-true}
use Rattle.std.proofs.lemmas.Option.{slice_get_read, slice_get_past}
use Rattle.std.proofs.lemmas.Slice.Eq.{bytes_eq-Decides}
use Rattle.net_model.specs.Rules.{names_of}
use Rattle.refutation.specs.Trees.{names_of as tree_names}
use Rattle.rl_jobs.specs.declared.fault.Fault.{Fault}
use Rattle.rl_jobs.specs.declared.fault.Fault.TheVariants as fault
use Rattle.rl_jobs.specs.Checked.{Claim, first_of, second_of, trees_of, DifferAt, Agree, Disagree}

abbrev Names : Type 0
Names = List (List ℕ)

-- ---- the first difference

taken : (xs : Names) (n k : ℕ) → k < n → slice_get (take n xs) k ≡ slice_get xs k
taken [] zero k less = absurd (omega (arith, less))
taken [] (suc n) k less = refl
taken (x ∷ xs) zero k less = absurd (omega (arith, less))
taken (x ∷ xs) (suc n) zero less = refl
taken (x ∷ xs) (suc n) (suc k) less = taken xs n k (omega (arith, less))

same_at : (a b : Names) (n k : ℕ) → take n a ≡ take n b → k < n → slice_get a k ≡ slice_get b k
same_at a b n k e less = sym (taken a n k less) ∙ (ap (λ (z : Names). slice_get z k) e ∙ taken b n k less)

not_before : (a b : Names) (p q : ℕ) (x : DifferAt a b p) (y : DifferAt a b q) → x.before < y.before → ⊥
not_before a b p q x y less = x.differ (same_at a b y.before x.before y.same_before less)

ordered : (a b : Names) (p q : ℕ) (x : DifferAt a b p) (y : DifferAt a b q) → (x.before < y.before) ⊎ (y.before ≤ x.before) → p ≡ q
ordered a b p q x y (inl less) = absurd (not_before a b p q x y less)
ordered a b p q x y (inr le) = or_equal (cases_lt y.before x.before) where
  or_equal : (y.before < x.before) ⊎ (x.before ≤ y.before) → p ≡ q
  or_equal (inl less) = absurd (not_before a b q p y x less)
  or_equal (inr ge) = omega (arith, le, ge, x.numbered, y.numbered)

pub one_difference : (a b : Names) (p q : ℕ) → DifferAt a b p → DifferAt a b q → p ≡ q
one_difference a b p q x y = ordered a b p q x y (cases_lt x.before y.before)

pub no_difference : (a b : Names) (p : ℕ) → a ≡ b → DifferAt a b p → ⊥
no_difference a b p e x = x.differ (ap (λ (z : Names). slice_get z x.before) e)

later : (a : List ℕ) (rest b : Names) (x : List ℕ) (p : ℕ) → a ≡ x → DifferAt rest b p → DifferAt (a ∷ rest) (x ∷ b) (suc p)
later a rest b x p e d = record {
  before = suc d.before;
  numbered = (let n = d.numbered in omega (arith, n));
  same_before = (let t : take d.before rest ≡ take d.before b = d.same_before in cc);
  differ = d.differ;
}

at_first : (a b : Names) → slice_get a zero ≢ slice_get b zero → DifferAt a b 1
at_first a b h = record { before = zero; numbered = omega arith; same_before = refl; differ = h }

pub same_or_different : (a b : Names) → (a ≡ b) ⊎ ((p : ℕ) × DifferAt a b p)
same_or_different [] [] = inl refl
same_or_different [] (b ∷ bs) = inr (1, at_first [] (b ∷ bs) (λ e. cc))
same_or_different (a ∷ rest) [] = inr (1, at_first (a ∷ rest) [] (λ e. cc))
same_or_different (a ∷ rest) (b ∷ bs) = by_first (bytes_eq a b) refl (same_or_different rest bs) where
  by_first : (q : Bool) → bytes_eq a b ≡ q → (rest ≡ bs) ⊎ ((p : ℕ) × DifferAt rest bs p) → (a ∷ rest ≡ b ∷ bs) ⊎ ((p : ℕ) × DifferAt (a ∷ rest) (b ∷ bs) p)
  by_first true e (inl same) = inl (let f = (bytes_eq-Decides a b).0 e in cc)
  by_first true e (inr d) = inr (suc d.0, later a rest bs b d.0 ((bytes_eq-Decides a b).0 e) d.1)
  by_first false e others = inr (1, at_first (a ∷ rest) (b ∷ bs) (λ f. let g : a ≡ b = cc in let h = (bytes_eq-Decides a b).1 g in cc))

-- ---- the search for it

there_is : (a : Names) (p : ℕ) (x : List ℕ) → true ≡ nat_lt p (length a) → x ≡ get_or a p x → slice_get a p ≡ Some x
there_is a p x less is = slice_get_read a (length a) p x refl (ltb-true p (length a) (sym less)) is

pub found : (a : Names) (p : ℕ) (x y u v : List ℕ) (q : Bool) → u ≡ x → v ≡ y → true ≡ nat_lt p (length a) → x ≡ get_or a p x → q ≡ bytes_eq u v → OnTrue q (slice_get a p ≡ Some y)
found a p x y u v true ux vy less is e = there_is a p x less is ∙ ap (λ (z : List ℕ). Some z) (sym ux ∙ ((bytes_eq-Decides u v).0 (sym e) ∙ vy))
found a p x y u v false ux vy less is e = tt

pub not_found : (a : Names) (p : ℕ) (x y u v : List ℕ) (q : Bool) → u ≡ x → v ≡ y → true ≡ nat_lt p (length a) → x ≡ get_or a p x → q ≡ bytes_eq u v → OnFalse q (slice_get a p ≢ Some y)
not_found a p x y u v true ux vy less is e = tt
not_found a p x y u v false ux vy less is e = λ f.
    let h = there_is a p x less is in
    let same : x ≡ y = cc in
    let g = (bytes_eq-Decides u v).1 (ux ∙ (same ∙ sym vy)) in cc

pub nothing_there : (a : Names) (p : ℕ) (y : List ℕ) → length a ≤ p → slice_get a p ≡ Some y → ⊥
nothing_there a p y le e = let f = slice_get_past a p le in cc

one_more : (a b : Names) (p : ℕ) (x : List ℕ) → take p a ≡ take p b → slice_get a p ≡ Some x → slice_get b p ≡ Some x → take (suc p) a ≡ take (suc p) b
one_more [] b p x e f g = absurd (cc)
one_more (y ∷ a) [] p x e f g = absurd (cc)
one_more (y ∷ a) (z ∷ b) zero x e f g = cc
one_more (y ∷ a) (z ∷ b) (suc p) x e f g =
    let same : take p a ≡ take p b = cc in
    let first : y ≡ z = cc in
    let h : take (suc p) a ≡ take (suc p) b = one_more a b p x same f g in cc

pub goes_on : (a b : Names) (p : ℕ) (x : List ℕ) → take p a ≡ take p b → slice_get a p ≡ Some x → slice_get b p ≡ Some x → take (p + 1) a ≡ take (p + 1) b
goes_on a b p x e f g = let n : p + 1 ≡ suc p = omega arith in subst (λ k. take k a ≡ take k b) (sym n) (one_more a b p x e f g)

pub stops : (a b : Names) (p : ℕ) (x : List ℕ) → take p a ≡ take p b → slice_get a p ≡ Some x → slice_get b p ≢ Some x → DifferAt a b (p + 1)
stops a b p x e f g = record { before = p; numbered = refl; same_before = e; differ = λ h. g (sym h ∙ f) }

there : (b : Names) (p : ℕ) → p < length b → slice_get b p ≡ None → ⊥
there [] p less e = omega (arith, less)
there (x ∷ b) zero less e = cc
there (x ∷ b) (suc p) less e = there b p (omega (arith, less)) e

pub shorter : (a b : Names) (p : ℕ) → length a ≤ p → p ≤ length a → take p a ≡ take p b → length a < length b → DifferAt a b (length a + 1)
shorter a b p le ge e less = record {
  before = p;
  numbered = omega (arith, le, ge);
  same_before = e;
  differ = λ h. there b p (omega (arith, ge, less)) (sym h ∙ slice_get_past a p le);
}

take_all : (a : Names) (p : ℕ) → length a ≤ p → take p a ≡ a
take_all [] zero le = refl
take_all [] (suc p) le = refl
take_all (x ∷ a) zero le = absurd (omega (arith, le))
take_all (x ∷ a) (suc p) le = ap (λ z. x ∷ z) (take_all a p (omega (arith, le)))

pub same_whole : (a b : Names) (p : ℕ) → length a ≤ p → length b ≤ length a → take p a ≡ take p b → a ≡ b
same_whole a b p le short e = sym (take_all a p le) ∙ (e ∙ take_all b p (omega (arith, le, short)))

-- ---- networks and trees

abbrev TreesOrNot : Claim → Type 0
TreesOrNot c = (tree_names (trees_of c) ≡ names_of (first_of c).outputs) ⊎ ((p : ℕ) × DifferAt (tree_names (trees_of c)) (names_of (first_of c).outputs) p)

judge : (c : Claim) → ((first_of c).inputs ≡ (second_of c).inputs) ⊎ ((p : ℕ) × DifferAt (first_of c).inputs (second_of c).inputs p) →
    (names_of (first_of c).outputs ≡ names_of (second_of c).outputs) ⊎ ((p : ℕ) × DifferAt (names_of (first_of c).outputs) (names_of (second_of c).outputs) p) → TreesOrNot c →
    Agree c ⊎ ((f : Fault) × Disagree c f)
judge c (inr x) y z = inr (fault.InputNames x.0, inl (x.0, refl, x.1))
judge c (inl e) (inr y) z = inr (fault.OutputNames y.0, inr (inl (e, (y.0, refl, y.1))))
judge c (inl e) (inl f) (inr z) = inr (fault.TreeNames, inr (inr (e, f, refl, (λ same. no_difference (tree_names (trees_of c)) (names_of (first_of c).outputs) z.0 same z.1))))
judge c (inl e) (inl f) (inl g) = inl (record { inputs = e; outputs = f; trees = g })

-- the names agree, or disagree in some way
pub agree_or_not : (c : Claim) → Agree c ⊎ ((f : Fault) × Disagree c f)
agree_or_not c =
    judge c (same_or_different (first_of c).inputs (second_of c).inputs)
    (same_or_different (names_of (first_of c).outputs) (names_of (second_of c).outputs))
    (same_or_different (tree_names (trees_of c)) (names_of (first_of c).outputs))

pub never_both : (c : Claim) (f : Fault) → Agree c → Disagree c f → ⊥
never_both c f x (inl y) = no_difference (first_of c).inputs (second_of c).inputs y.0 x.inputs y.2
never_both c f x (inr (inl y)) = no_difference (names_of (first_of c).outputs) (names_of (second_of c).outputs) y.1.0 x.outputs y.1.2
never_both c f x (inr (inr y)) = y.3 x.trees

pub one_disagreement : (c : Claim) (f g : Fault) → Disagree c f → Disagree c g → f ≡ g
one_disagreement c f g (inl x) (inl y) =
    x.1 ∙ (ap fault.InputNames (one_difference (first_of c).inputs (second_of c).inputs x.0 y.0 x.2 y.2) ∙ sym y.1)
one_disagreement c f g (inl x) (inr (inl y)) = absurd (no_difference (first_of c).inputs (second_of c).inputs x.0 y.0 x.2)
one_disagreement c f g (inl x) (inr (inr y)) = absurd (no_difference (first_of c).inputs (second_of c).inputs x.0 y.0 x.2)
one_disagreement c f g (inr (inl x)) (inl y) = absurd (no_difference (first_of c).inputs (second_of c).inputs y.0 x.0 y.2)
one_disagreement c f g (inr (inl x)) (inr (inl y)) =
    x.1.1 ∙ (ap fault.OutputNames (one_difference (names_of (first_of c).outputs) (names_of (second_of c).outputs) x.1.0 y.1.0 x.1.2 y.1.2) ∙ sym y.1.1)
one_disagreement c f g (inr (inl x)) (inr (inr y)) = absurd (no_difference (names_of (first_of c).outputs) (names_of (second_of c).outputs) x.1.0 y.1 x.1.2)
one_disagreement c f g (inr (inr x)) (inl y) = absurd (no_difference (first_of c).inputs (second_of c).inputs y.0 x.0 y.2)
one_disagreement c f g (inr (inr x)) (inr (inl y)) = absurd (no_difference (names_of (first_of c).outputs) (names_of (second_of c).outputs) y.1.0 x.1 y.1.2)
one_disagreement c f g (inr (inr x)) (inr (inr y)) = x.2 ∙ sym y.2
