-- The lets that a formula names, and the lets before one.
use Rattle.std.proofs.Common.{◌≡◌, ℕ, zero, suc, ◌+◌, ◌<◌, ◌≤◌, List, [], ◌∷◌, length, subst, arith}
use Rattle.net_model.specs.Formula.{Formula, Never, Input, Named, Min, Max, Lt, Inc, Equation}
use Rattle.net_model.specs.Rules.{IsOver, AreLets}
use Rattle.tree_check.specs.Needed.{EachName, body_at}

pub each-map : (P Q : ℕ → Type 0) (t : Formula) → ((j : ℕ) → P j → Q j) → EachName P t → EachName Q t
each-map P Q Never f h = tt
each-map P Q (Input i) f h = tt
each-map P Q (Named j) f h = f j h
each-map P Q (Min a b) f h = (each-map P Q a f h.0, each-map P Q b f h.1)
each-map P Q (Max a b) f h = (each-map P Q a f h.0, each-map P Q b f h.1)
each-map P Q (Lt a b) f h = (each-map P Q a f h.0, each-map P Q b f h.1)
each-map P Q (Inc a c) f h = each-map P Q a f h

-- a formula over the first k lets names only those
pub each-over : (P : ℕ → Type 0) (i k : ℕ) (t : Formula) → IsOver i k t → EachName P t → EachName (λ j. (j < k) × P j) t
each-over P i k Never o h = tt
each-over P i k (Input n) o h = tt
each-over P i k (Named j) o h = (o, h)
each-over P i k (Min a b) o h = (each-over P i k a o.0 h.0, each-over P i k b o.1 h.1)
each-over P i k (Max a b) o h = (each-over P i k a o.0 h.0, each-over P i k b o.1 h.1)
each-over P i k (Lt a b) o h = (each-over P i k a o.0 h.0, each-over P i k b o.1 h.1)
each-over P i k (Inc a c) o h = each-over P i k a o h

pub over-more : (i k m : ℕ) (t : Formula) → k ≤ m → IsOver i k t → IsOver i m t
over-more i k m Never le h = tt
over-more i k m (Input n) le h = h
over-more i k m (Named j) le h = omega (arith, le, h)
over-more i k m (Min a b) le h = (over-more i k m a le h.0, over-more i k m b le h.1)
over-more i k m (Max a b) le h = (over-more i k m a le h.0, over-more i k m b le h.1)
over-more i k m (Lt a b) le h = (over-more i k m a le h.0, over-more i k m b le h.1)
over-more i k m (Inc a c) le h = over-more i k m a le h

over-from : (i k p : ℕ) (lets : List Equation) → AreLets i k lets → p < length lets → IsOver i (k + p) (body_at lets p)
over-from i k p [] h lt = absurd (omega (arith, lt))
over-from i k zero (e ∷ lets) h lt = let z : k ≡ k + 0 = omega arith in subst (λ (m : ℕ). IsOver i m e.body) z h.0
over-from i k (suc p) (e ∷ lets) h lt = let z : suc k + p ≡ k + suc p = omega arith in subst (λ (m : ℕ). IsOver i m (body_at lets p)) z (over-from i (suc k) p lets h.1 (omega (arith, lt)))

-- the let at place p names only those before it
pub over-at : (i p : ℕ) (lets : List Equation) → AreLets i 0 lets → p < length lets → IsOver i p (body_at lets p)
over-at i p lets h lt = let z : 0 + p ≡ p = omega arith in subst (λ (m : ℕ). IsOver i m (body_at lets p)) z (over-from i 0 p lets h lt)
