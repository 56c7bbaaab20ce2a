-- Inputs that keep their levels over some cycles.
use Rattle.std.proofs.Common.{◌≡◌, ℕ, suc, ◌+◌, ◌<◌, ◌≤◌, List, [], ◌∷◌, length, get_or, refl, ap, ◌∙◌, subst, inl, inr, arith}
use Rattle.std.proofs.lemmas.Bool.{cases_lt}
use Rattle.rl_time.specs.declared.time.Time.{Time}
use Rattle.rl_time.specs.declared.time.Time.TheVariants.{Never}
use Rattle.rl_time.specs.Time.{has_risen}
use Rattle.circuit.specs.Meaning.{levels_at}

-- each of the first inputs keeps the level that it has in one cycle, up to the next one
pub record AreCalm (rises : List Time) (cycle next count : ℕ) : Type 0 where
  pub later : cycle < next
  pub by : (j t : ℕ) → j < count → j < length rises → cycle ≤ t → t < next → has_risen (get_or rises j Never) t ≡ has_risen (get_or rises j Never) cycle

pub calm_on : (rises : List Time) (cycle next next' count : ℕ) (rise : Time) → AreCalm rises cycle next count → cycle < next' → next' ≤ next →
    (count < length rises → rise ≡ get_or rises count Never) → ((t : ℕ) → cycle ≤ t → t < next' → has_risen rise t ≡ has_risen rise cycle) → AreCalm rises cycle next' (count + 1)
calm_on rises cycle next next' count rise h later le is level = record {
  later = later;
  by = λ j t lt in_ low high. elim (cases_lt j count) [
    | inl w ↦ h.by j t w in_ low (omega (arith, high, le))
    | inr w ↦
        let e : count ≡ j = omega (arith, w, lt) in
        let r : rise ≡ get_or rises j Never = is (omega (arith, e, in_)) ∙ ap (λ z. get_or rises z Never) e in
        subst (λ z. has_risen z t ≡ has_risen z cycle) r (level t low high)
  ];
}

same_levels : (rises : List Time) (t u : ℕ) → ((j : ℕ) → j < length rises → has_risen (get_or rises j Never) t ≡ has_risen (get_or rises j Never) u) → levels_at rises t ≡ levels_at rises u
same_levels [] t u h = refl
same_levels (a ∷ rises) t u h = ap (λ z. z ∷ levels_at rises t) (h 0 (omega arith)) ∙ ap (λ z. has_risen a u ∷ z) (same_levels rises t u (λ j lt. h (suc j) (omega (arith, lt))))

pub calm_levels : (rises : List Time) (cycle next count : ℕ) → AreCalm rises cycle next count → length rises ≤ count → (t : ℕ) → cycle ≤ t → t < next → levels_at rises t ≡ levels_at rises cycle
calm_levels rises cycle next count h all t low high = same_levels rises t cycle (λ j lt. h.by j t (omega (arith, lt, all)) lt low high)
