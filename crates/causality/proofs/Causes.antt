-- The causes that a function has no table within a window.
use Rattle.std.proofs.Common.{◌≡◌, ℕ, ◌+◌, ◌^◌, ◌≤◌, ◌<◌, ◌⊎◌, inl, inr, Bool, true, false, List, [], ◌∷◌, length, map, Option, Some, None, refl, sym, ap, ◌∙◌, arith}
use Rattle.std.specs.Prelude.{◌≢◌}
use Rattle.std.specs.List.{find}
use Rattle.std.proofs.lemmas.Bool.{cases_lt}
use Rattle.rl_time.specs.declared.time.Time.{Time}
use Rattle.rl_time.specs.declared.time.Time.TheVariants.{At, Never}
use Rattle.causality.specs.declared.fault.TabError.{TabError}
use Rattle.causality.specs.declared.fault.TabError.TheVariants as error
use Rattle.causality.specs.Window.{is_late, window_lists, window_rows, first_late, IsInReach, IsCause}

one_value : (l : Option Time) (y z : ℕ) → l ≡ Some (At y) → l ≡ Some (At z) → y ≡ z
one_value l y z h k = let e : Some (At y) ≡ Some (At z) = sym h ∙ k in cc

late_or_none : (l : Option Time) (y : ℕ) → l ≡ Some (At y) → l ≡ None → ⊥
late_or_none l y h k = let e : Some (At y) ≡ None = sym h ∙ k in absurd (cc)

pub one_cause : (f : List Time → Time) (w n : ℕ) (d e : TabError) → IsCause f w n d → IsCause f w n e → d ≢ error.NoMemory → e ≢ error.NoMemory → d ≡ e
one_cause f w n error.NoMemory e h k p q = absurd (p refl)
one_cause f w n error.TooWide error.NoMemory h k p q = absurd (q refl)
one_cause f w n error.TooWide error.TooWide h k p q = refl
one_cause f w n error.TooWide (error.TooLate z) h k p q = let few = k.0 in absurd (omega (arith, h, few))
one_cause f w n error.TooWide error.TooManyRows h k p q = let few = (k.0).few_lists in absurd (omega (arith, h, few))
one_cause f w n (error.TooLate y) error.NoMemory h k p q = absurd (q refl)
one_cause f w n (error.TooLate y) error.TooWide h k p q = let few = h.0 in absurd (omega (arith, k, few))
one_cause f w n (error.TooLate y) (error.TooLate z) h k p q = ap (λ (v : ℕ). error.TooLate v) (one_value (first_late f w n) y z h.1 k.1)
one_cause f w n (error.TooLate y) error.TooManyRows h k p q = absurd (late_or_none (first_late f w n) y h.1 (k.0).none_late)
one_cause f w n error.TooManyRows error.NoMemory h k p q = absurd (q refl)
one_cause f w n error.TooManyRows error.TooWide h k p q = let few = (h.0).few_lists in absurd (omega (arith, k, few))
one_cause f w n error.TooManyRows (error.TooLate z) h k p q = absurd (late_or_none (first_late f w n) z k.1 (h.0).none_late)
one_cause f w n error.TooManyRows error.TooManyRows h k p q = refl

pub no_cause : (f : List Time → Time) (w n : ℕ) (e : TabError) → IsInReach f w n → length (window_rows f w n) ≤ 256 → IsCause f w n e → e ≡ error.NoMemory
no_cause f w n error.NoMemory reach few h = refl
no_cause f w n error.TooWide reach few h = let l = reach.few_lists in absurd (omega (arith, h, l))
no_cause f w n (error.TooLate y) reach few h = absurd (late_or_none (first_late f w n) y h.1 reach.none_late)
no_cause f w n error.TooManyRows reach few h = let m = h.1 in absurd (omega (arith, few, m))

-- ---- a table, or a cause

-- none of the times is late, or the first late one is a number
late_number : (times : List Time) → (find is_late times ≡ None) ⊎ ((y : ℕ) × (find is_late times ≡ Some (At y)))
late_number [] = inl refl
late_number (Never ∷ times) = late_number times
late_number (At y ∷ times) = by_test (is_late (At y)) refl (late_number times)
  where
    by_test : (b : Bool) → is_late (At y) ≡ b → (find is_late times ≡ None) ⊎ ((z : ℕ) × (find is_late times ≡ Some (At z))) →
        (find is_late (At y ∷ times) ≡ None) ⊎ ((z : ℕ) × (find is_late (At y ∷ times) ≡ Some (At z)))
    by_test true e later = inr (y, rw e refl)
    by_test false e later = rw e later

-- the function has a table within the window, or there is a cause that it has none
abbrev pub HasTableOrCause : (List Time → Time) → ℕ → ℕ → Type 0
HasTableOrCause f w n = (IsInReach f w n × (length (window_rows f w n) ≤ 256)) ⊎ ((e : TabError) × (e ≢ error.NoMemory) × IsCause f w n e)

within_or_many : (f : List Time → Time) (w n : ℕ) → IsInReach f w n → (256 < length (window_rows f w n)) ⊎ (length (window_rows f w n) ≤ 256) → HasTableOrCause f w n
within_or_many f w n reach (inr few) = inl (reach, few)
within_or_many f w n reach (inl many) = inr (error.TooManyRows, λ e. absurd (cc), (reach, many))

reached_or_late : (f : List Time → Time) (w n : ℕ) → (w + 2) ^ n ≤ 65536 → (first_late f w n ≡ None) ⊎ ((y : ℕ) × (first_late f w n ≡ Some (At y))) → HasTableOrCause f w n
reached_or_late f w n few (inl none) = within_or_many f w n (record { few_lists = few; none_late = none }) (cases_lt 256 (length (window_rows f w n)))
reached_or_late f w n few (inr late) = inr (error.TooLate late.0, λ e. absurd (cc), (few, late.1))

few_or_wide : (f : List Time → Time) (w n : ℕ) → (65536 < (w + 2) ^ n) ⊎ ((w + 2) ^ n ≤ 65536) → HasTableOrCause f w n
few_or_wide f w n (inr few) = reached_or_late f w n few (late_number (map f (window_lists w n)))
few_or_wide f w n (inl wide) = inr (error.TooWide, λ e. absurd (cc), wide)

pub table_or_cause : (f : List Time → Time) (w n : ℕ) → HasTableOrCause f w n
table_or_cause f w n = few_or_wide f w n (cases_lt 65536 ((w + 2) ^ n))
