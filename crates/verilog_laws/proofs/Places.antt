-- Elements of lists by their places, after a push and after a write.
use Rattle.std.proofs.Common.{◌≡◌, ℕ, zero, suc, ◌+◌, ◌<◌, true, false, List, [], ◌∷◌, ◌++◌, length, map, Option, Some, None, refl, ap, arith, inl, inr, ◌⊎◌}
use Rattle.std.specs.Prelude.{slice_get, slice_set, is_some}

pub none_of : {X : Type 0} (o : Option X) → is_some o ≡ false → o ≡ None
none_of None h = refl
none_of (Some x) h = absurd cc

pub some_of : {X : Type 0} (o : Option X) → is_some o ≡ true → (x : X) × (o ≡ Some x)
some_of None h = absurd cc
some_of (Some x) h = (x, refl)

pub get_push : {X : Type 0} (xs : List X) (y : X) (k : ℕ) (z : X) → slice_get (xs ++ y ∷ []) k ≡ Some z →
    (slice_get xs k ≡ Some z) ⊎ ((k ≡ length xs) × (z ≡ y))
get_push [] y zero z e = inr (refl, cc)
get_push [] y (suc k) z e = absurd cc
get_push (x ∷ xs) y zero z e = inl e
get_push (x ∷ xs) y (suc k) z e = elim (get_push xs y k z e) [ inl a ↦ inl a | inr b ↦ inr (ap (λ (n : ℕ). suc n) b.0, b.1) ]

pub get_left : {X : Type 0} (xs ys : List X) (k : ℕ) (z : X) → slice_get xs k ≡ Some z → slice_get (xs ++ ys) k ≡ Some z
get_left [] ys k z e = absurd cc
get_left (x ∷ xs) ys zero z e = e
get_left (x ∷ xs) ys (suc k) z e = get_left xs ys k z e

pub get_last : {X : Type 0} (xs : List X) (y : X) → slice_get (xs ++ y ∷ []) (length xs) ≡ Some y
get_last [] y = refl
get_last (x ∷ xs) y = get_last xs y

pub get_set : {X : Type 0} (xs : List X) (i : ℕ) (v : X) (k : ℕ) (z : X) → slice_get (slice_set xs i v) k ≡ Some z →
    ((k ≡ i) × (z ≡ v)) ⊎ (slice_get xs k ≡ Some z)
get_set [] i v k z e = absurd cc
get_set (x ∷ xs) zero v zero z e = inl (refl, cc)
get_set (x ∷ xs) zero v (suc k) z e = inr e
get_set (x ∷ xs) (suc i) v zero z e = inr e
get_set (x ∷ xs) (suc i) v (suc k) z e =
    elim (get_set xs i v k z e) [ inl a ↦ inl (ap (λ (n : ℕ). suc n) a.0, a.1) | inr b ↦ inr b ]

pub get_map : {X Y : Type 0} (f : X → Y) (xs : List X) (k : ℕ) (x : X) → slice_get xs k ≡ Some x → slice_get (map f xs) k ≡ Some (f x)
get_map f [] k x e = absurd cc
get_map f (y ∷ xs) zero x e = let s : y ≡ x = cc in ap (λ z. Some (f z)) s
get_map f (y ∷ xs) (suc k) x e = get_map f xs k x e

pub get_none : {X Y : Type 0} (f : X → Y) (xs : List X) (k : ℕ) → slice_get xs k ≡ None → slice_get (map f xs) k ≡ None
get_none f [] k e = refl
get_none f (y ∷ xs) zero e = absurd cc
get_none f (y ∷ xs) (suc k) e = get_none f xs k e

pub get_within : {X : Type 0} (xs : List X) (k : ℕ) → k < length xs → (x : X) × (slice_get xs k ≡ Some x)
get_within [] k h = absurd (omega arith)
get_within (x ∷ xs) zero h = (x, refl)
get_within (x ∷ xs) (suc k) h = get_within xs k (omega arith)

pub within : {X : Type 0} (xs : List X) (k : ℕ) (x : X) → slice_get xs k ≡ Some x → k < length xs
within [] k x e = absurd cc
within (y ∷ xs) zero x e = omega arith
within (y ∷ xs) (suc k) x e = let h = within xs k x e in omega (arith, h)

pub length_more : {X : Type 0} (xs : List X) (y : X) → length (xs ++ y ∷ []) ≡ length xs + 1
length_more [] y = omega arith
length_more (x ∷ xs) y = let h = length_more xs y in omega (arith, h)
