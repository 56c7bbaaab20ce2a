-- Each law is a step.
use Rattle.std.proofs.Common.{◌≡◌, ℕ, ◌+◌, ◌≤◌, refl, subst, arith, sym, Bool, true, false, if◌then◌else◌, Some, None, inl, inr, ◌⊎◌}
use Rattle.term_store.specs.Tree.{Tree, Never, Input, Min, Max, Lt, Inc, value}
use Rattle.term_store.proofs.Parts.{IsIn, in_self}
use Rattle.simplify.specs.Laws.{IsLaw, IsLaw1, IsLaw2, IsLaw3, IsLaw4, IsLaw5, IsLaw6, IsLaw7, IsLaw8, IsLaw9, IsLaw10, IsLaw11, IsLaw12, IsLaw13, IsLaw14, IsLaw15, IsLaw16, IsLaw17, IsLaw18, IsLaw19, IsLaw20}
use Rattle.simplify.specs.Simplified.{size}
use Rattle.simplify.proofs.Stepping.{FitsNone, FitsNoneBelow, IsBelow, IsStep}
use Rattle.simplify.proofs.Times as on_times

-- what an answer says of its test
pub if_some : (b : Bool) (x u : Tree) → (if b then Some x else None) ≡ Some u → (b ≡ true) × (x ≡ u)
if_some true x u e = (refl, cc)
if_some false x u e = cc

pub if_either : (b c : Bool) (x y u : Tree) → (if b then Some x else if c then Some y else None) ≡ Some u → ((b ≡ true) × (x ≡ u)) ⊎ ((c ≡ true) × (y ≡ u))
if_either true c x y u e = inl (refl, cc)
if_either false true x y u e = inr (refl, cc)
if_either false false x y u e = cc

-- below a reduced tree
pub below_of : (t : Tree) → FitsNone t → FitsNoneBelow t
below_of (Input i) h = tt
below_of Never h = tt
below_of (Min a b) h = (h.1, h.2)
below_of (Max a b) h = (h.1, h.2)
below_of (Lt a b) h = (h.1, h.2)
below_of (Inc a c) h = h.1

pub in_of : (s t : Tree) → IsBelow s t → IsIn s t
in_of s (Input i) h = absurd h
in_of s Never h = absurd h
in_of s (Min a b) h = inr h
in_of s (Max a b) h = inr h
in_of s (Lt a b) h = inr h
in_of s (Inc a c) h = inr h

pub in_cases : (s t : Tree) → IsIn s t → (s ≡ t) ⊎ IsBelow s t
in_cases s (Input i) h = inl h
in_cases s Never h = inl h
in_cases s (Min a b) h = h
in_cases s (Max a b) h = h
in_cases s (Lt a b) h = h
in_cases s (Inc a c) h = h

pub positive : (t : Tree) → 1 ≤ size t
positive (Input i) = omega arith
positive Never = omega arith
positive (Min a b) = omega arith
positive (Max a b) = omega arith
positive (Lt a b) = omega arith
positive (Inc a c) = omega arith

step1 : (a : Tree) → IsStep (Min a a) (a)
step1 a = record {
  times = λ d x. on_times.L1 (value x a);
  delays = λ d. d.0;
  smaller = omega (arith);
  no_longer = omega arith;
  below = λ h. below_of a h.0;
  inner = λ s h. inl (in_of s a h);
  root = inl (inl (in_self a));
}

step10a : (a b : Tree) → IsStep (Min a (Max a b)) (a)
step10a a b = record {
  times = λ d x. on_times.L10 (value x a) (value x b);
  delays = λ d. d.0;
  smaller = omega (arith, positive b);
  no_longer = omega arith;
  below = λ h. below_of a h.0;
  inner = λ s h. inl (in_of s a h);
  root = inl (inl (in_self a));
}

step10b : (a b : Tree) → IsStep (Min a (Max b a)) (a)
step10b a b = record {
  times = λ d x. on_times.L10b (value x a) (value x b);
  delays = λ d. d.0;
  smaller = omega (arith, positive b);
  no_longer = omega arith;
  below = λ h. below_of a h.0;
  inner = λ s h. inl (in_of s a h);
  root = inl (inl (in_self a));
}

step10c : (a b : Tree) → IsStep (Min (Max a b) a) (a)
step10c a b = record {
  times = λ d x. on_times.L10c (value x a) (value x b);
  delays = λ d. d.1;
  smaller = omega (arith, positive b);
  no_longer = omega arith;
  below = λ h. below_of a h.1;
  inner = λ s h. inr (in_of s a h);
  root = inl (inr (in_self a));
}

step10d : (a b : Tree) → IsStep (Min (Max b a) a) (a)
step10d a b = record {
  times = λ d x. on_times.L10d (value x a) (value x b);
  delays = λ d. d.1;
  smaller = omega (arith, positive b);
  no_longer = omega arith;
  below = λ h. below_of a h.1;
  inner = λ s h. inr (in_of s a h);
  root = inl (inr (in_self a));
}

step13a : (a b : Tree) → IsStep (Lt a (Max a b)) (Lt a b)
step13a a b = record {
  times = λ d x. on_times.L13 (value x a) (value x b);
  delays = λ d. (d.0, d.1.1);
  smaller = omega (arith, positive a);
  no_longer = omega arith;
  below = λ h. (h.0, h.1.2);
  inner = λ s h. elim h [ inl p ↦ inl p | inr q ↦ inr (inr (inr q)) ];
  root = inr (inl refl);
}

step13b : (a b : Tree) → IsStep (Lt a (Max b a)) (Lt a b)
step13b a b = record {
  times = λ d x. on_times.L13b (value x a) (value x b);
  delays = λ d. (d.0, d.1.0);
  smaller = omega (arith, positive a);
  no_longer = omega arith;
  below = λ h. (h.0, h.1.1);
  inner = λ s h. elim h [ inl p ↦ inl p | inr q ↦ inr (inr (inl q)) ];
  root = inr (inl refl);
}

step14a : (a b : Tree) → IsStep (Lt (Min a b) a) (Lt b a)
step14a a b = record {
  times = λ d x. on_times.L14 (value x a) (value x b);
  delays = λ d. (d.0.1, d.1);
  smaller = omega (arith, positive a);
  no_longer = omega arith;
  below = λ h. (h.0.2, h.1);
  inner = λ s h. elim h [ inl p ↦ inl (inr (inr p)) | inr q ↦ inr q ];
  root = inr (inl refl);
}

step14b : (a b : Tree) → IsStep (Lt (Min b a) a) (Lt b a)
step14b a b = record {
  times = λ d x. on_times.L14b (value x a) (value x b);
  delays = λ d. (d.0.0, d.1);
  smaller = omega (arith, positive a);
  no_longer = omega arith;
  below = λ h. (h.0.1, h.1);
  inner = λ s h. elim h [ inl p ↦ inl (inr (inl p)) | inr q ↦ inr q ];
  root = inr (inl refl);
}

step20 : (a b : Tree) → IsStep (Min (Lt b (Lt b a)) (Lt a (Lt a b))) (Max a b)
step20 a b = record {
  times = λ d x. on_times.L20 (value x a) (value x b);
  delays = λ d. (d.0.1.1, d.0.0);
  smaller = omega (arith);
  no_longer = omega arith;
  below = λ h. (h.0.2.2, h.0.1);
  inner = λ s h. elim h [ inl p ↦ inr (inr (inl p)) | inr q ↦ inl (inr (inl q)) ];
  root = inr (inl refl);
}

step8 : (a : Tree) (c k : ℕ) → IsStep (Inc (Inc a c) k) (Inc a (c + k))
step8 a c k = record {
  times = λ d x. on_times.L8 (value x a) c k;
  delays = λ d. (d.0.0, omega (arith, d.1));
  smaller = omega arith;
  no_longer = omega arith;
  below = λ h. h.1;
  inner = λ s h. inr h;
  root = inr (inl refl);
}

step2 : (a : Tree) → IsStep (Max a a) (a)
step2 a = record {
  times = λ d x. on_times.L2 (value x a);
  delays = λ d. d.0;
  smaller = omega (arith);
  no_longer = omega arith;
  below = λ h. below_of a h.0;
  inner = λ s h. inl (in_of s a h);
  root = inl (inl (in_self a));
}

step3a : (a : Tree) → IsStep (Min a Never) (a)
step3a a = record {
  times = λ d x. on_times.L3 (value x a);
  delays = λ d. d.0;
  smaller = omega (arith);
  no_longer = omega arith;
  below = λ h. below_of a h.0;
  inner = λ s h. inl (in_of s a h);
  root = inl (inl (in_self a));
}

step3b : (a : Tree) → IsStep (Min Never a) (a)
step3b a = record {
  times = λ d x. on_times.L3b (value x a);
  delays = λ d. d.1;
  smaller = omega (arith);
  no_longer = omega arith;
  below = λ h. below_of a h.1;
  inner = λ s h. inr (in_of s a h);
  root = inl (inr (in_self a));
}

step4a : (a : Tree) → IsStep (Max a Never) (Never)
step4a a = record {
  times = λ d x. on_times.L4 (value x a);
  delays = λ d. tt;
  smaller = omega (arith, positive a);
  no_longer = omega arith;
  below = λ h. tt;
  inner = λ s h. absurd h;
  root = inr (inr refl);
}

step4b : (a : Tree) → IsStep (Max Never a) (Never)
step4b a = record {
  times = λ d x. on_times.L4b (value x a);
  delays = λ d. tt;
  smaller = omega (arith, positive a);
  no_longer = omega arith;
  below = λ h. tt;
  inner = λ s h. absurd h;
  root = inr (inr refl);
}

step5 : (a : Tree) → IsStep (Lt a a) (Never)
step5 a = record {
  times = λ d x. on_times.L5 (value x a);
  delays = λ d. tt;
  smaller = omega (arith, positive a);
  no_longer = omega arith;
  below = λ h. tt;
  inner = λ s h. absurd h;
  root = inr (inr refl);
}

step6 : (a : Tree) → IsStep (Lt Never a) (Never)
step6 a = record {
  times = λ d x. on_times.L6 (value x a);
  delays = λ d. tt;
  smaller = omega (arith, positive a);
  no_longer = omega arith;
  below = λ h. tt;
  inner = λ s h. absurd h;
  root = inr (inr refl);
}

step7 : (a : Tree) → IsStep (Lt a Never) (a)
step7 a = record {
  times = λ d x. on_times.L7 (value x a);
  delays = λ d. d.0;
  smaller = omega (arith);
  no_longer = omega arith;
  below = λ h. below_of a h.0;
  inner = λ s h. inl (in_of s a h);
  root = inl (inl (in_self a));
}

step11a : (a b : Tree) → IsStep (Max a (Min a b)) (a)
step11a a b = record {
  times = λ d x. on_times.L11 (value x a) (value x b);
  delays = λ d. d.0;
  smaller = omega (arith, positive b);
  no_longer = omega arith;
  below = λ h. below_of a h.0;
  inner = λ s h. inl (in_of s a h);
  root = inl (inl (in_self a));
}

step11b : (a b : Tree) → IsStep (Max a (Min b a)) (a)
step11b a b = record {
  times = λ d x. on_times.L11b (value x a) (value x b);
  delays = λ d. d.0;
  smaller = omega (arith, positive b);
  no_longer = omega arith;
  below = λ h. below_of a h.0;
  inner = λ s h. inl (in_of s a h);
  root = inl (inl (in_self a));
}

step11c : (a b : Tree) → IsStep (Max (Min a b) a) (a)
step11c a b = record {
  times = λ d x. on_times.L11c (value x a) (value x b);
  delays = λ d. d.1;
  smaller = omega (arith, positive b);
  no_longer = omega arith;
  below = λ h. below_of a h.1;
  inner = λ s h. inr (in_of s a h);
  root = inl (inr (in_self a));
}

step11d : (a b : Tree) → IsStep (Max (Min b a) a) (a)
step11d a b = record {
  times = λ d x. on_times.L11d (value x a) (value x b);
  delays = λ d. d.1;
  smaller = omega (arith, positive b);
  no_longer = omega arith;
  below = λ h. below_of a h.1;
  inner = λ s h. inr (in_of s a h);
  root = inl (inr (in_self a));
}

step12a : (a b : Tree) → IsStep (Lt a (Min a b)) (Never)
step12a a b = record {
  times = λ d x. on_times.L12 (value x a) (value x b);
  delays = λ d. tt;
  smaller = omega (arith, positive a, positive b);
  no_longer = omega arith;
  below = λ h. tt;
  inner = λ s h. absurd h;
  root = inr (inr refl);
}

step12b : (a b : Tree) → IsStep (Lt a (Min b a)) (Never)
step12b a b = record {
  times = λ d x. on_times.L12b (value x a) (value x b);
  delays = λ d. tt;
  smaller = omega (arith, positive a, positive b);
  no_longer = omega arith;
  below = λ h. tt;
  inner = λ s h. absurd h;
  root = inr (inr refl);
}

step15 : (a b : Tree) → IsStep (Lt (Lt a b) b) (Lt a b)
step15 a b = record {
  times = λ d x. on_times.L15 (value x a) (value x b);
  delays = λ d. d.0;
  smaller = omega (arith, positive b);
  no_longer = omega arith;
  below = λ h. (h.0.1, h.0.2);
  inner = λ s h. inl (inr h);
  root = inl (inl (in_self (Lt a b)));
}

step16a : (a b : Tree) → IsStep (Min a (Lt a b)) (a)
step16a a b = record {
  times = λ d x. on_times.L16 (value x a) (value x b);
  delays = λ d. d.0;
  smaller = omega (arith, positive b);
  no_longer = omega arith;
  below = λ h. below_of a h.0;
  inner = λ s h. inl (in_of s a h);
  root = inl (inl (in_self a));
}

step16b : (a b : Tree) → IsStep (Min (Lt a b) a) (a)
step16b a b = record {
  times = λ d x. on_times.L16b (value x a) (value x b);
  delays = λ d. d.1;
  smaller = omega (arith, positive b);
  no_longer = omega arith;
  below = λ h. below_of a h.1;
  inner = λ s h. inr (in_of s a h);
  root = inl (inr (in_self a));
}

step17a : (a b : Tree) → IsStep (Max a (Lt a b)) (Lt a b)
step17a a b = record {
  times = λ d x. on_times.L17 (value x a) (value x b);
  delays = λ d. d.1;
  smaller = omega (arith, positive a);
  no_longer = omega arith;
  below = λ h. (h.1.1, h.1.2);
  inner = λ s h. inr (inr h);
  root = inl (inr (in_self (Lt a b)));
}

step17b : (a b : Tree) → IsStep (Max (Lt a b) a) (Lt a b)
step17b a b = record {
  times = λ d x. on_times.L17b (value x a) (value x b);
  delays = λ d. d.0;
  smaller = omega (arith, positive a);
  no_longer = omega arith;
  below = λ h. (h.0.1, h.0.2);
  inner = λ s h. inl (inr h);
  root = inl (inl (in_self (Lt a b)));
}

step9 : (c : ℕ) → IsStep (Inc Never c) Never
step9 c = record { times = λ d x. refl; delays = λ d. tt; smaller = omega arith; no_longer = omega arith; below = λ h. tt; inner = λ s h. absurd h; root = inr (inr refl) }

step18 : (a : Tree) (c : ℕ) → IsStep (Lt a (Inc a c)) a
step18 a c = record { times = λ d x. on_times.L18 (value x a) c d.1.1; delays = λ d. d.0; smaller = omega arith; no_longer = omega arith; below = λ h. below_of a h.0; inner = λ s h. inl (in_of s a h); root = inl (inl (in_self a)) }

step19 : (a : Tree) (c : ℕ) → IsStep (Lt (Inc a c) a) Never
step19 a c = record { times = λ d x. on_times.L19 (value x a) c; delays = λ d. tt; smaller = omega (arith, positive a); no_longer = omega arith; below = λ h. tt; inner = λ s h. absurd h; root = inr (inr refl) }

step_at : (t v u w : Tree) → t ≡ v → u ≡ w → IsStep v w → IsStep t u
step_at t v u w e f s = subst (λ z. IsStep z u) (sym e) (subst (IsStep v) (sym f) s)

law_step1 : (t u : Tree) → IsLaw1 t u → IsStep t u
law_step1 t u l = step_at t _ u _ l.1 l.2 (step1 l.0)

law_step2 : (t u : Tree) → IsLaw2 t u → IsStep t u
law_step2 t u l = step_at t _ u _ l.1 l.2 (step2 l.0)

law_step3 : (t u : Tree) → IsLaw3 t u → IsStep t u
law_step3 t u l = elim l.1 [
  | inl e ↦ step_at t _ u _ e l.2 (step3a l.0)
  | inr e ↦ step_at t _ u _ e l.2 (step3b l.0)
]

law_step4 : (t u : Tree) → IsLaw4 t u → IsStep t u
law_step4 t u l = elim l.1 [
  | inl e ↦ step_at t _ u _ e l.2 (step4a l.0)
  | inr e ↦ step_at t _ u _ e l.2 (step4b l.0)
]

law_step5 : (t u : Tree) → IsLaw5 t u → IsStep t u
law_step5 t u l = step_at t _ u _ l.1 l.2 (step5 l.0)

law_step6 : (t u : Tree) → IsLaw6 t u → IsStep t u
law_step6 t u l = step_at t _ u _ l.1 l.2 (step6 l.0)

law_step7 : (t u : Tree) → IsLaw7 t u → IsStep t u
law_step7 t u l = step_at t _ u _ l.1 l.2 (step7 l.0)

law_step8 : (t u : Tree) → IsLaw8 t u → IsStep t u
law_step8 t u l = step_at t _ u _ l.3 l.4 (step8 l.0 l.1 l.2)

law_step9 : (t u : Tree) → IsLaw9 t u → IsStep t u
law_step9 t u l = step_at t _ u _ l.1 l.2 (step9 l.0)

law_step10 : (t u : Tree) → IsLaw10 t u → IsStep t u
law_step10 t u l = elim l.2 [
  | inl e ↦ step_at t _ u _ e l.3 (step10a l.0 l.1)
  | inr k ↦ elim k [
    | inl e ↦ step_at t _ u _ e l.3 (step10b l.0 l.1)
    | inr m ↦ elim m [
      | inl e ↦ step_at t _ u _ e l.3 (step10c l.0 l.1)
      | inr e ↦ step_at t _ u _ e l.3 (step10d l.0 l.1)
    ]
  ]
]

law_step11 : (t u : Tree) → IsLaw11 t u → IsStep t u
law_step11 t u l = elim l.2 [
  | inl e ↦ step_at t _ u _ e l.3 (step11a l.0 l.1)
  | inr k ↦ elim k [
    | inl e ↦ step_at t _ u _ e l.3 (step11b l.0 l.1)
    | inr m ↦ elim m [
      | inl e ↦ step_at t _ u _ e l.3 (step11c l.0 l.1)
      | inr e ↦ step_at t _ u _ e l.3 (step11d l.0 l.1)
    ]
  ]
]

law_step12 : (t u : Tree) → IsLaw12 t u → IsStep t u
law_step12 t u l = elim l.2 [
  | inl e ↦ step_at t _ u _ e l.3 (step12a l.0 l.1)
  | inr e ↦ step_at t _ u _ e l.3 (step12b l.0 l.1)
]

law_step13 : (t u : Tree) → IsLaw13 t u → IsStep t u
law_step13 t u l = elim l.2 [
  | inl e ↦ step_at t _ u _ e l.3 (step13a l.0 l.1)
  | inr e ↦ step_at t _ u _ e l.3 (step13b l.0 l.1)
]

law_step14 : (t u : Tree) → IsLaw14 t u → IsStep t u
law_step14 t u l = elim l.2 [
  | inl e ↦ step_at t _ u _ e l.3 (step14a l.0 l.1)
  | inr e ↦ step_at t _ u _ e l.3 (step14b l.0 l.1)
]

law_step15 : (t u : Tree) → IsLaw15 t u → IsStep t u
law_step15 t u l = step_at t _ u _ l.2 l.3 (step15 l.0 l.1)

law_step16 : (t u : Tree) → IsLaw16 t u → IsStep t u
law_step16 t u l = elim l.2 [
  | inl e ↦ step_at t _ u _ e l.3 (step16a l.0 l.1)
  | inr e ↦ step_at t _ u _ e l.3 (step16b l.0 l.1)
]

law_step17 : (t u : Tree) → IsLaw17 t u → IsStep t u
law_step17 t u l = elim l.2 [
  | inl e ↦ step_at t _ u _ e l.3 (step17a l.0 l.1)
  | inr e ↦ step_at t _ u _ e l.3 (step17b l.0 l.1)
]

law_step18 : (t u : Tree) → IsLaw18 t u → IsStep t u
law_step18 t u l = step_at t _ u _ l.2 l.3 (step18 l.0 l.1)

law_step19 : (t u : Tree) → IsLaw19 t u → IsStep t u
law_step19 t u l = step_at t _ u _ l.2 l.3 (step19 l.0 l.1)

law_step20 : (t u : Tree) → IsLaw20 t u → IsStep t u
law_step20 t u l = step_at t _ u _ l.2 l.3 (step20 l.0 l.1)

-- each law is a step
pub step_of : (t u : Tree) → IsLaw t u → IsStep t u
step_of t u l = elim l [
  | inl k ↦ law_step1 t u k
  | inr m1 ↦ elim m1 [
    | inl k ↦ law_step2 t u k
    | inr m2 ↦ elim m2 [
      | inl k ↦ law_step3 t u k
      | inr m3 ↦ elim m3 [
        | inl k ↦ law_step4 t u k
        | inr m4 ↦ elim m4 [
          | inl k ↦ law_step5 t u k
          | inr m5 ↦ elim m5 [
            | inl k ↦ law_step6 t u k
            | inr m6 ↦ elim m6 [
              | inl k ↦ law_step7 t u k
              | inr m7 ↦ elim m7 [
                | inl k ↦ law_step8 t u k
                | inr m8 ↦ elim m8 [
                  | inl k ↦ law_step9 t u k
                  | inr m9 ↦ elim m9 [
                    | inl k ↦ law_step10 t u k
                    | inr m10 ↦ elim m10 [
                      | inl k ↦ law_step11 t u k
                      | inr m11 ↦ elim m11 [
                        | inl k ↦ law_step12 t u k
                        | inr m12 ↦ elim m12 [
                          | inl k ↦ law_step13 t u k
                          | inr m13 ↦ elim m13 [
                            | inl k ↦ law_step14 t u k
                            | inr m14 ↦ elim m14 [
                              | inl k ↦ law_step15 t u k
                              | inr m15 ↦ elim m15 [
                                | inl k ↦ law_step16 t u k
                                | inr m16 ↦ elim m16 [
                                  | inl k ↦ law_step17 t u k
                                  | inr m17 ↦ elim m17 [
                                    | inl k ↦ law_step18 t u k
                                    | inr m18 ↦ elim m18 [
                                      | inl k ↦ law_step19 t u k
                                      | inr k ↦ law_step20 t u k
                                    ]
                                  ]
                                ]
                              ]
                            ]
                          ]
                        ]
                      ]
                    ]
                  ]
                ]
              ]
            ]
          ]
        ]
      ]
    ]
  ]
]
