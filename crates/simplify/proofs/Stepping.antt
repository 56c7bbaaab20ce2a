-- What holds of a step by a law.
use Rattle.std.proofs.Common.{◌≡◌, ℕ, ◌<◌, ◌≤◌, ◌⊎◌, List, None}
use Rattle.rl_time.specs.declared.time.Time.{Time}
use Rattle.term_store.specs.Tree.{Tree, Never, Input, Min, Max, Lt, Inc, value, span}
use Rattle.term_store.proofs.Parts.{IsIn}
use Rattle.simplify.specs.Laws.{HasDelays}
use Rattle.simplify.specs.Simplified.{size, law}

-- no law fits at any place
abbrev pub FitsNone : Tree → Type 0
FitsNone (Input i) = law (Input i) ≡ None
FitsNone Never = law Never ≡ None
FitsNone (Min a b) = (law (Min a b) ≡ None) × FitsNone a × FitsNone b
FitsNone (Max a b) = (law (Max a b) ≡ None) × FitsNone a × FitsNone b
FitsNone (Lt a b) = (law (Lt a b) ≡ None) × FitsNone a × FitsNone b
FitsNone (Inc a c) = (law (Inc a c) ≡ None) × FitsNone a

-- no law fits below the whole
abbrev pub FitsNoneBelow : Tree → Type 0
FitsNoneBelow (Input i) = Unit {0}
FitsNoneBelow Never = Unit {0}
FitsNoneBelow (Min a b) = FitsNone a × FitsNone b
FitsNoneBelow (Max a b) = FitsNone a × FitsNone b
FitsNoneBelow (Lt a b) = FitsNone a × FitsNone b
FitsNoneBelow (Inc a c) = FitsNone a

-- s is below the whole of t
abbrev pub IsBelow : Tree → Tree → Type 0
IsBelow s (Input i) = ⊥
IsBelow s Never = ⊥
IsBelow s (Min a b) = IsIn s a ⊎ IsIn s b
IsBelow s (Max a b) = IsIn s a ⊎ IsIn s b
IsBelow s (Lt a b) = IsIn s a ⊎ IsIn s b
IsBelow s (Inc a c) = IsIn s a

-- 1 for min, max and lt, and 2 for inc
abbrev pub kind : Tree → ℕ
kind (Input i) = 0
kind Never = 0
kind (Min a b) = 1
kind (Max a b) = 1
kind (Lt a b) = 1
kind (Inc a c) = 2

-- u is t, simplified by a step
pub record IsStep (t u : Tree) : Type 0 where
  pub times : HasDelays t → (x : List Time) → value x t ≡ value x u
  pub delays : HasDelays t → HasDelays u
  pub smaller : size u < size t
  pub no_longer : span u ≤ span t
  pub below : FitsNoneBelow t → FitsNoneBelow u
  -- what is below u is below t
  pub inner : (s : Tree) → IsBelow s u → IsBelow s t
  -- u is below t, or is of its kind, or is never
  pub root : IsBelow u t ⊎ ((kind u ≡ kind t) ⊎ (u ≡ Never))
