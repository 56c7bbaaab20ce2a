-- What simplifying a tree leaves.
use Rattle.std.proofs.Common.{◌≡◌, ℕ, zero, suc, ◌≤◌, refl, ap, arith, ◌∙◌, Option, Some, None, List}
use Rattle.rl_time.specs.declared.time.Time.{Time}
use Rattle.rl_time.specs.Time.{time_min, time_max, time_lt, time_inc}
use Rattle.term_store.specs.Tree.{Tree, Never, Input, Min, Max, Lt, Inc, value, span}
use Rattle.simplify.specs.Laws.{HasDelays}
use Rattle.simplify.specs.Simplified.{size, law, or_else, settle, settled, simplified}
use Rattle.simplify.proofs.Stepping.{FitsNone, FitsNoneBelow, IsStep}
use Rattle.simplify.proofs.Steps.{positive}
use Rattle.simplify.proofs.Matching.{law_step}

-- u is t, simplified, and no law fits it
pub record IsSettled (t u : Tree) : Type 0 where
  pub times : HasDelays t → (x : List Time) → value x t ≡ value x u
  pub delays : HasDelays t → HasDelays u
  pub no_longer : span u ≤ span t
  pub below : FitsNoneBelow t → FitsNoneBelow u
  pub none : law u ≡ None

after : (t u v : Tree) → IsStep t u → IsSettled u v → IsSettled t v
after t u v s r = record {
  times = λ d x. s.times d x ∙ r.times (s.delays d) x;
  delays = λ d. r.delays (s.delays d);
  no_longer = omega (arith, s.no_longer, r.no_longer);
  below = λ h. r.below (s.below h);
  none = r.none;
}

pub settle_good : (n : ℕ) (t : Tree) → size t ≤ n → IsSettled t (settle n t)
settle_good zero t h = absurd (omega (arith, positive t))
settle_good (suc n) t h = go (law t) refl (λ u k. settle_good n u k)
  where
    go : (o : Option Tree) → law t ≡ o → ((u : Tree) → size u ≤ n → IsSettled u (settle n u)) → IsSettled t (or_else o (settle n) t)
    go None e rest = record { times = λ d x. refl; delays = λ d. d; no_longer = omega arith; below = λ k. k; none = e }
    go (Some u) e rest = let s = law_step t u e in after t u (settle n u) s (rest u (omega (arith, s.smaller, h)))

-- a tree that no law fits stays
pub settle_stays : (n : ℕ) (t : Tree) → law t ≡ None → settle n t ≡ t
settle_stays zero t e = refl
settle_stays (suc n) t e = ap (λ o. or_else o (settle n) t) e

reduced_of : (t : Tree) → law t ≡ None → FitsNoneBelow t → FitsNone t
reduced_of (Input i) e b = e
reduced_of Never e b = e
reduced_of (Min a c) e b = (e, b.0, b.1)
reduced_of (Max a c) e b = (e, b.0, b.1)
reduced_of (Lt a c) e b = (e, b.0, b.1)
reduced_of (Inc a c) e b = (e, b)

-- inputs and never fit no law
pub input_none : (i : ℕ) → law (Input i) ≡ None
unfolding law
input_none i = refl

pub never_none : law Never ≡ None
unfolding law
never_none = refl

-- u is t, simplified, and reduced
pub record IsSimple (t u : Tree) : Type 0 where
  pub times : HasDelays t → (x : List Time) → value x t ≡ value x u
  pub delays : HasDelays t → HasDelays u
  pub no_longer : span u ≤ span t
  pub reduced : FitsNone u

pub simp_good : (t : Tree) → IsSimple t (simplified t)
simp_good (Input i) = record { times = λ d x. refl; delays = λ d. tt; no_longer = omega arith; reduced = input_none i }
simp_good Never = record { times = λ d x. refl; delays = λ d. tt; no_longer = omega arith; reduced = never_none }
simp_good (Min a b) =
    let p = simp_good a in
    let q = simp_good b in
    let t = Min (simplified a) (simplified b) in
    let s : IsSettled t (settled t) = settle_good (size t) t (omega arith) in
    record {
      times = λ d x. (λ i. time_min (p.times d.0 x i) (q.times d.1 x i)) ∙ s.times (p.delays d.0, q.delays d.1) x;
      delays = λ d. s.delays (p.delays d.0, q.delays d.1);
      no_longer = omega (arith, p.no_longer, q.no_longer, s.no_longer);
      reduced = reduced_of (settled t) s.none (s.below (p.reduced, q.reduced));
    }
simp_good (Max a b) =
    let p = simp_good a in
    let q = simp_good b in
    let t = Max (simplified a) (simplified b) in
    let s : IsSettled t (settled t) = settle_good (size t) t (omega arith) in
    record {
      times = λ d x. (λ i. time_max (p.times d.0 x i) (q.times d.1 x i)) ∙ s.times (p.delays d.0, q.delays d.1) x;
      delays = λ d. s.delays (p.delays d.0, q.delays d.1);
      no_longer = omega (arith, p.no_longer, q.no_longer, s.no_longer);
      reduced = reduced_of (settled t) s.none (s.below (p.reduced, q.reduced));
    }
simp_good (Lt a b) =
    let p = simp_good a in
    let q = simp_good b in
    let t = Lt (simplified a) (simplified b) in
    let s : IsSettled t (settled t) = settle_good (size t) t (omega arith) in
    record {
      times = λ d x. (λ i. time_lt (p.times d.0 x i) (q.times d.1 x i)) ∙ s.times (p.delays d.0, q.delays d.1) x;
      delays = λ d. s.delays (p.delays d.0, q.delays d.1);
      no_longer = omega (arith, p.no_longer, q.no_longer, s.no_longer);
      reduced = reduced_of (settled t) s.none (s.below (p.reduced, q.reduced));
    }
simp_good (Inc a c) =
    let p = simp_good a in
    let t = Inc (simplified a) c in
    let s : IsSettled t (settled t) = settle_good (size t) t (omega arith) in
    record {
      times = λ d x. ap (λ v. time_inc v c) (p.times d.0 x) ∙ s.times (p.delays d.0, d.1) x;
      delays = λ d. s.delays (p.delays d.0, d.1);
      no_longer = omega (arith, p.no_longer, s.no_longer);
      reduced = reduced_of (settled t) s.none (s.below p.reduced);
    }

-- a reduced tree is itself
pub simp_reduced : (t : Tree) → FitsNone t → simplified t ≡ t
simp_reduced (Input i) r = refl
simp_reduced Never r = refl
simp_reduced (Min a b) r =
    let p = simp_reduced a r.1 in
    let q = simp_reduced b r.2 in
    let e : Min (simplified a) (simplified b) ≡ Min a b = cc in
    ap settled e ∙ settle_stays (size (Min a b)) (Min a b) r.0
simp_reduced (Max a b) r =
    let p = simp_reduced a r.1 in
    let q = simp_reduced b r.2 in
    let e : Max (simplified a) (simplified b) ≡ Max a b = cc in
    ap settled e ∙ settle_stays (size (Max a b)) (Max a b) r.0
simp_reduced (Lt a b) r =
    let p = simp_reduced a r.1 in
    let q = simp_reduced b r.2 in
    let e : Lt (simplified a) (simplified b) ≡ Lt a b = cc in
    ap settled e ∙ settle_stays (size (Lt a b)) (Lt a b) r.0
simp_reduced (Inc a c) r =
    let p = simp_reduced a r.1 in
    let e : Inc (simplified a) c ≡ Inc a c = cc in
    ap settled e ∙ settle_stays (size (Inc a c)) (Inc a c) r.0

-- more steps than a tree is large change nothing
settle_enough : (n m : ℕ) (t : Tree) → size t ≤ n → size t ≤ m → settle n t ≡ settle m t
settle_enough zero m t h k = absurd (omega (arith, positive t, h))
settle_enough (suc n) zero t h k = absurd (omega (arith, positive t, k))
settle_enough (suc n) (suc m) t h k = go (law t) refl (λ u p q. settle_enough n m u p q)
  where
    go : (o : Option Tree) → law t ≡ o → ((u : Tree) → size u ≤ n → size u ≤ m → settle n u ≡ settle m u) → or_else o (settle n) t ≡ or_else o (settle m) t
    go None e rest = refl
    go (Some u) e rest = let s = law_step t u e in rest u (omega (arith, s.smaller, h)) (omega (arith, s.smaller, k))

first_step : (n : ℕ) (t u : Tree) → law t ≡ Some u → settle (suc n) t ≡ settle n u
first_step n t u e = ap (λ o. or_else o (settle n) t) e

-- a step changes nothing of what a tree settles to
pub settled_step : (t u : Tree) → law t ≡ Some u → settled t ≡ settled u
settled_step t u e = go (size t) refl
  where
    go : (n : ℕ) → size t ≡ n → settled t ≡ settled u
    go zero f = absurd (omega (arith, positive t, f))
    go (suc n) f = ap (λ k. settle k t) f ∙ first_step n t u e ∙ settle_enough n (size u) u (omega (arith, (law_step t u e).smaller, f)) (omega arith)

pub settled_none : (t : Tree) → law t ≡ None → settled t ≡ t
settled_none t e = settle_stays (size t) t e
