-- Premises on the times of the inputs: assumptions that one input is at most some cycles later than another.
use Rattle.std.specs.Prelude.{◌≡◌, ℕ, ◌<◌, ◌≤◌, List, length}
use Rattle.std.specs.List.{AllByRecursion}
use Rattle.rl_time.specs.declared.time.Time.{Time}
use Rattle.rl_time.specs.declared.time.Time.TheVariants.{At, Never}
use Rattle.rl_time.specs.Time.{time_inc}
use Rattle.net_model.specs.Value.{time_at}
use Rattle.net_model.specs.declared.assume.Assume.{Assume}
use Rattle.spike_eval.specs.Causal.{numbers}

-- the first time is at most the second; never is greater than every number
abbrev pub IsNoLater : Time → Time → Type 0
IsNoLater (At a) (At b) = a ≤ b
IsNoLater a Never = Unit {0}
IsNoLater Never (At b) = ⊥

-- x_from is at most inc(x_to, by)
abbrev pub MeetsPremise : List Time → Assume → Type 0
MeetsPremise x p = IsNoLater (time_at x p.from) (time_inc (time_at x p.to) p.by)

abbrev pub MeetsPremises : List Time → List Assume → Type 0
MeetsPremises x premises = AllByRecursion (MeetsPremise x) premises

-- the premises name only the first n inputs
abbrev pub NameInputs : ℕ → List Assume → Type 0
NameInputs n premises = AllByRecursion (λ p. (p.from < n) × (p.to < n)) premises

-- equal on all lists of n numbers that meet the premises
abbrev pub AreEqualOnNumbersUnder : List Assume → ℕ → (List Time → Time) → (List Time → Time) → Type 0
AreEqualOnNumbersUnder premises n f g = (ns : List ℕ) → length ns ≡ n → MeetsPremises (numbers ns) premises → f (numbers ns) ≡ g (numbers ns)

-- equal on all lists of n times that meet the premises, each of which may be never
abbrev pub AreEqualUnder : List Assume → ℕ → (List Time → Time) → (List Time → Time) → Type 0
AreEqualUnder premises n f g = (x : List Time) → length x ≡ n → MeetsPremises x premises → f x ≡ g x
