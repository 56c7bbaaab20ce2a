-- A causal function is known from its values on the numbers that meet some premises.
use Rattle.std.proofs.Common.{◌≡◌, ℕ, zero, suc, ◌+◌, ◌<◌, ◌≤◌, List, [], ◌∷◌, length, refl, sym, subst, ◌∙◌, arith}
use Rattle.rl_time.specs.declared.time.Time.{Time}
use Rattle.rl_time.specs.declared.time.Time.TheVariants as time
use Rattle.rl_time.specs.Time.{time_inc}
use Rattle.net_model.specs.Value.{time_at}
use Rattle.spike_eval.specs.Causal.{IsCausal, numbers}
use Rattle.net_model.specs.declared.assume.Assume.{Assume}
use Rattle.spike_eval.specs.Premises.{IsNoLater, MeetsPremise, MeetsPremises, NameInputs, AreEqualOnNumbersUnder, AreEqualUnder}
use Rattle.spike_eval.proofs.Agreement.{Near, near}
use Rattle.spike_eval.proofs.Causality.{all_from_alike}
use Rattle.spike_eval.proofs.Numbers.{number_of, filled, filled-alike, length-filled, finite, same}

-- the sum of the numbers among the times, which no one of them is greater than
total : List Time → ℕ
total [] = 0
total (time.At a ∷ x) = a + total x
total (time.Never ∷ x) = total x

-- the time at a place after filling
filled-at : (t : ℕ) (x : List Time) (i : ℕ) → i < length x → time_at (numbers (filled t x)) i ≡ time.At (number_of (t + 1) (time_at x i))
unfolding filled
filled-at t [] i h = absurd (omega (arith, h))
filled-at t (a ∷ x) zero h = refl
filled-at t (a ∷ x) (suc i) h = filled-at t x i (omega (arith, h))

below-total : (x : List Time) (i : ℕ) → finite (time_at x i) ≤ total x
unfolding total finite
below-total [] i = omega arith
below-total (time.At a ∷ x) zero = omega arith
below-total (time.Never ∷ x) zero = omega arith
below-total (time.At a ∷ x) (suc i) = omega (arith, below-total x i)
below-total (time.Never ∷ x) (suc i) = below-total x i

-- a premise that times meet is still met with one great number in place of never
kept : (t c : ℕ) (a b : Time) → finite a ≤ t → IsNoLater a (time_inc b c) → number_of (t + 1) a ≤ number_of (t + 1) b + c
unfolding finite number_of
kept t c (time.At a) (time.At b) le h = h
kept t c (time.At a) time.Never le h = omega (arith, le)
kept t c time.Never time.Never le h = omega arith
kept t c time.Never (time.At b) le h = absurd h

still-meets : (t : ℕ) (x : List Time) (p : Assume) → total x ≤ t → (p.from < length x) × (p.to < length x) → MeetsPremise x p → MeetsPremise (numbers (filled t x)) p
still-meets t x p le names h =
    rw (filled-at t x p.from names.0, filled-at t x p.to names.1)
    (kept t p.by (time_at x p.from) (time_at x p.to) (omega (arith, below-total x p.from, le)) h)

still-meet : (t : ℕ) (x : List Time) (premises : List Assume) → total x ≤ t → NameInputs (length x) premises → MeetsPremises x premises → MeetsPremises (numbers (filled t x)) premises
still-meet t x [] le names h = tt
still-meet t x (p ∷ premises) le names h = (still-meets t x p le names.0 h.0, still-meet t x premises le names.1 h.1)

pub numbers_decide_under : (premises : List Assume) (k : ℕ) (f g : List Time → Time) → NameInputs k premises → IsCausal f → IsCausal g →
    AreEqualOnNumbersUnder premises k f g → AreEqualUnder premises k f g
numbers_decide_under premises k f g names f_causal g_causal equal x long meets =
    let t = finite (f x) + finite (g x) + total x in
    let ns = filled t x in
    let alike = all_from_alike t x (numbers ns) (filled-alike t x) in
    let names' : NameInputs (length x) premises = subst (λ (n : ℕ). NameInputs n premises) (sym long) names in
    let met = still-meet t x premises (omega arith) names' meets in
    let at_numbers : f (numbers ns) ≡ g (numbers ns) = equal ns (length-filled t x ∙ long) met in
    let f_near = near t _ _ (f_causal t x (numbers ns) alike) in
    let g_near = near t _ _ (g_causal t x (numbers ns) alike) in
    same (f x) (g x) (g (numbers ns)) t (omega arith) (omega arith) (subst (λ (v : Time). Near t (f x) v) at_numbers f_near) g_near
