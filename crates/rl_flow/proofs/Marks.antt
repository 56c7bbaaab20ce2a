-- Marks that are set one after another.
use Rattle.std.proofs.Common.{◌≡◌, ℕ, zero, suc, ◌+◌, ◌<◌, ◌≤◌, Bool, false, ◌&&◌, List, [], ◌∷◌, length, refl, set, get_or, ◌∙◌, subst, arith, inl, inr}
use Rattle.std.proofs.lemmas.Bool.{cases_lt}
use Rattle.std.proofs.lemmas.List.{get_or-set_same, get_or-set_other}
use Rattle.rl_time.specs.declared.time.Time.{Time}

-- the marks below the next place are done
pub marks_done : (old now : List Bool) (right : ℕ → Bool) (out : ℕ) (m : Bool) → out < length now → ((k : ℕ) → k < out → get_or now k false ≡ (get_or old k false && right k)) →
    m ≡ (get_or old out false && right out) → (k : ℕ) → k < out + 1 → get_or (set now out m) k false ≡ (get_or old k false && right k)
marks_done old now right out m within done here k lt = elim (cases_lt k out) [
  | inl below ↦ get_or-set_other now out k m false (λ e. absurd (omega (arith, below, e))) ∙ done k below
  | inr above ↦
      let same : out ≡ k = omega (arith, lt, above) in
      subst (λ z. get_or (set now out m) z false ≡ (get_or old z false && right z)) same (get_or-set_same now out m false within ∙ here)
]

-- the marks from the next place on wait
pub marks_wait : (old now : List Bool) (out : ℕ) (m : Bool) → ((k : ℕ) → out ≤ k → get_or now k false ≡ get_or old k false) → (k : ℕ) → out + 1 ≤ k → get_or (set now out m) k false ≡ get_or old k false
marks_wait old now out m waits k le = get_or-set_other now out k m false (λ e. absurd (omega (arith, le, e))) ∙ waits k (omega (arith, le))

-- within a list it makes no difference what would be past its end
pub same_within : (times : List Time) (k : ℕ) (d e : Time) → k < length times → get_or times k d ≡ get_or times k e
same_within [] k d e lt = absurd (omega arith)
same_within (t ∷ times) zero d e lt = refl
same_within (t ∷ times) (suc k) d e lt = same_within times k d e (omega (arith, lt))
