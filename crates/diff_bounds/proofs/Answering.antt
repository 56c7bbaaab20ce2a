-- What is true of the answers to one assumption more.
use Rattle.std.proofs.Common.{◌≡◌, ℕ, ◌<◌, refl, subst, arith, List, [], ◌∷◌, length, true}
use Rattle.std.specs.Prelude.{ℤ, ◌↔◌}
use Rattle.refutation.specs.declared.assumption.Assumption.{Assumption}
use Rattle.refutation.specs.Path.{assumption, is_negative}
use Rattle.diff_bounds.specs.declared.added.Added.{Added}
use Rattle.diff_bounds.specs.declared.added.Added.TheVariants as added
use Rattle.diff_bounds.specs.Bounds.{more, CanBeMet, Implies, IsSolution}
use Rattle.diff_bounds.specs.Verdict.{IsContradiction, IsVerdict, grown}
use Rattle.diff_bounds.specs.Pressing.{IsNear}
use Rattle.diff_bounds.specs.Search.{IsBounds}
use Rattle.diff_bounds.proofs.Held.{meets_more}
use Rattle.diff_bounds.proofs.Least.{none_meets, length_more}
use Rattle.diff_bounds.proofs.Kept.{near_more, solves_fewer}
use Rattle.diff_bounds.specs.Verdict.{IfContradiction}

abbrev IsHeld : Added → Type 0
IsHeld added.Fresh = ⊥
IsHeld added.Held = Unit {0}
IsHeld (added.Contradiction chain) = ⊥

abbrev IsFresh : Added → Type 0
IsFresh added.Fresh = Unit {0}
IsFresh added.Held = ⊥
IsFresh (added.Contradiction chain) = ⊥

module _ (edges : List Assumption) (i j : ℕ) (w : ℤ) where
  pub fresh_exactly : (a : Added) → IsVerdict edges i j w a → (a ≡ added.Fresh) ↔ (CanBeMet (more edges i j w) × (Implies edges i j w → ⊥))
  fresh_exactly added.Fresh v = ((λ q. v), (λ p. refl))
  fresh_exactly added.Held v = ((λ q. absurd (subst IsHeld q tt)), (λ p. absurd (p.1 v)))
  fresh_exactly (added.Contradiction chain) v =
      ((λ q. absurd (subst IsContradiction q tt)), (λ p. absurd (none_meets p.0.0 (more edges i j w) chain p.0.1 v)))

  met_too : CanBeMet edges → Implies edges i j w → CanBeMet (more edges i j w)
  met_too met all = (met.0, meets_more met.0 edges (assumption i j w) met.1 (all met.0 met.1))

  pub held_exactly : CanBeMet edges → (a : Added) → IsVerdict edges i j w a → (a ≡ added.Held) ↔ Implies edges i j w
  held_exactly met added.Fresh v = ((λ q. absurd (subst IsFresh q tt)), (λ all. absurd (v.1 all)))
  held_exactly met added.Held v = ((λ q. v), (λ all. refl))
  held_exactly met (added.Contradiction chain) v =
      ((λ q. absurd (subst IsContradiction q tt)), (λ all. let m = met_too met all in absurd (none_meets m.0 (more edges i j w) chain m.1 v)))

  pub contradiction_exactly : CanBeMet edges → (a : Added) → IsVerdict edges i j w a → IsContradiction a ↔ (CanBeMet (more edges i j w) → ⊥)
  contradiction_exactly met added.Fresh v = ((λ q. absurd q), (λ none. absurd (none v.0)))
  contradiction_exactly met added.Held v = ((λ q. absurd q), (λ none. absurd (none (met_too met v))))
  contradiction_exactly met (added.Contradiction chain) v = ((λ q m. none_meets m.0 (more edges i j w) chain m.1 v), (λ none. tt))

  pub chain_of : (a : Added) → IsVerdict edges i j w a → IfContradiction a (λ chain. is_negative (more edges i j w) chain ≡ true)
  chain_of added.Fresh v = tt
  chain_of added.Held v = tt
  chain_of (added.Contradiction chain) v = v

  -- the kept numbers are a solution of the assumptions before too
  pub same_bounds : (n : ℕ) (ys zs : List ℕ) (a : Added) → IsBounds n edges ys → IsSolution n (grown edges i j w a) zs → IsBounds n edges zs
  same_bounds n ys zs added.Fresh b s = record { some = b.some; few = b.few; numbers = b.numbers; near = b.near; solution = solves_fewer n edges (assumption i j w ∷ []) zs s }
  same_bounds n ys zs added.Held b s = record { some = b.some; few = b.few; numbers = b.numbers; near = b.near; solution = solves_fewer n edges (assumption i j w ∷ []) zs s }
  same_bounds n ys zs (added.Contradiction chain) b s = record { some = b.some; few = b.few; numbers = b.numbers; near = b.near; solution = s }

  more_bounds : (n : ℕ) (ys zs : List ℕ) → IsBounds n edges ys → IsNear n (assumption i j w) → length edges < 65536 → IsSolution n (more edges i j w) zs → IsBounds n (more edges i j w) zs
  more_bounds n ys zs b near room s = record {
    some = b.some;
    few = b.few;
    numbers = let long = length_more edges (assumption i j w) in omega (arith, long, room);
    near = near_more n edges (assumption i j w) b.near near;
    solution = s;
  }

  pub grown_bounds : (n : ℕ) (ys zs : List ℕ) (a : Added) → IsBounds n edges ys → IsNear n (assumption i j w) → length edges < 65536
      → IsSolution n (grown edges i j w a) zs → IsBounds n (grown edges i j w a) zs
  grown_bounds n ys zs added.Fresh b near room s = more_bounds n ys zs b near room s
  grown_bounds n ys zs added.Held b near room s = more_bounds n ys zs b near room s
  grown_bounds n ys zs (added.Contradiction chain) b near room s = same_bounds n ys zs (added.Contradiction chain) b s
