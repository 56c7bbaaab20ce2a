-- Assumptions that those before them imply: numbers that meet the others meet them too.
use Rattle.std.proofs.Common.{◌≡◌, ℕ, zero, suc, ◌<◌, ◌≤◌, refl, ap, subst, arith, sym, List, [], ◌∷◌, ◌++◌, inl, inr, ◌⊎◌, length, take}
use Rattle.std.specs.Prelude.{ℤ}
use Rattle.std.proofs.Math.Seq.{take-length}
use Rattle.refutation.specs.declared.assumption.Assumption.{Assumption}
use Rattle.refutation.specs.Path.{Meets, MeetsAll, at}
use Rattle.diff_bounds.specs.Search.{IsHeld}

pub meets_more : (x : ℕ → ℤ) (path : List Assumption) (a : Assumption) → MeetsAll x path → Meets x a → MeetsAll x (path ++ a ∷ [])
meets_more x [] a m h = (h, tt)
meets_more x (b ∷ path) a m h = (m.0, meets_more x path a m.1 h)

take_next : (edges : List Assumption) (m : ℕ) → m < length edges → take (suc m) edges ≡ take m edges ++ at edges m ∷ []
take_next [] m h = absurd (omega arith)
take_next (a ∷ edges) zero h = refl
take_next (a ∷ edges) (suc m) h = ap (λ edges. a ∷ edges) (take_next edges m (omega arith))

-- where each is met or held, the first m are met
first_met : (x : ℕ → ℤ) (edges : List Assumption) (m : ℕ) → ((f : ℕ) → f < length edges → Meets x (at edges f) ⊎ IsHeld edges f) → m ≤ length edges → MeetsAll x (take m edges)
first_met x edges zero each le = tt
first_met x edges (suc m) each le =
    let before = first_met x edges m each (omega (arith, le)) in
    subst (λ edges. MeetsAll x edges) (sym (take_next edges m (omega (arith, le))))
    (meets_more x (take m edges) (at edges m) before (elim (each m (omega (arith, le))) [ inl met ↦ met | inr held ↦ held x before ]))

pub all_held : (x : ℕ → ℤ) (edges : List Assumption) → ((f : ℕ) → f < length edges → Meets x (at edges f) ⊎ IsHeld edges f) → MeetsAll x edges
all_held x edges each = subst (λ edges. MeetsAll x edges) (take-length edges) (first_met x edges (length edges) each (omega arith))
