-- One activation: what it changes.
use Rattle.std.proofs.Common.{◌≡◌, ℕ, ◌<◌, Bool, List, false, refl, ap, ◌∙◌, sym, subst, arith, Option, Some, None}
use Rattle.std.specs.Prelude.{slice_get, ◌≢◌}
use Rattle.std.proofs.lemmas.List.{set-get_or, get_or-set_same}
use Rattle.circuit.specs.declared.bit.Target.{Target}
use Rattle.circuit.specs.declared.bit.Target.TheVariants as target
use Rattle.circuit.specs.Circuit.{Assignment, Circuit}
use Rattle.circuit.specs.Valid.{IsTarget}
use Rattle.circuit.specs.Meaning.{State, level, at, put, HasLevels, activate, activate_one}
use Rattle.levels.specs.Levels.{HasPlace}
use Rattle.levels.specs.Marked.{IsUnmarked}
use Rattle.marked_steps.specs.UpToDate.{IsUpToDate}

pub put_same : (s : State) (t : Target) → put s t (at s t) ≡ s
put_same s (target.Wire w) = ap (λ z. record s { wires = z }) (set-get_or s.wires w false)
put_same s (target.Out o) = ap (λ z. record s { outs = z }) (set-get_or s.outs o false)

-- a write changes the state exactly where it changes the target's level
pub at_put_is : (s : State) (t : Target) (v : Bool) → HasPlace s t → at (put s t v) t ≡ v
at_put_is s (target.Wire w) v h = get_or-set_same s.wires w v false h
at_put_is s (target.Out o) v h = get_or-set_same s.outs o v false h

option_same : (s : State) (o : Option Assignment) (a : Assignment) → o ≡ Some a → at s a.target ≡ level s a.bit → activate_one s o ≡ s
option_same s None a e w = refl
option_same s (Some b) a e w =
    let same : a ≡ b = cc in
    let w' : at s b.target ≡ level s b.bit = subst (λ (z : Assignment). at s z.target ≡ level s z.bit) same w in
    ap (λ v. put s b.target v) (sym w') ∙ put_same s b.target

option_moved : (s : State) (o : Option Assignment) (a : Assignment) → o ≡ Some a → HasPlace s a.target → (at s a.target ≢ level s a.bit) → activate_one s o ≢ s
option_moved s None a e h w q = (cc)
option_moved s (Some b) a e h w q =
    let same : a ≡ b = cc in
    let h' : HasPlace s b.target = subst (λ (z : Assignment). HasPlace s z.target) same h in
    let w' : at s b.target ≢ level s b.bit = subst (λ (z : Assignment). at s z.target ≢ level s z.bit) same w in
    w' (sym (ap (λ (z : State). at z b.target) q) ∙ at_put_is s b.target (level s b.bit) h')

pub activate_same : (m : Circuit) (s : State) (k : ℕ) (a : Assignment) → slice_get m.assigns k ≡ Some a → at s a.target ≡ level s a.bit → activate m s k ≡ s
activate_same m s k a e w = option_same s (slice_get m.assigns k) a e w

pub activate_moved : (m : Circuit) (s : State) (k : ℕ) (a : Assignment) → slice_get m.assigns k ≡ Some a → HasPlace s a.target → (at s a.target ≢ level s a.bit) → activate m s k ≢ s
activate_moved m s k a e h w = option_moved s (slice_get m.assigns k) a e h w

pub in_state : (m : Circuit) (s : State) (t : Target) → HasLevels m s → IsTarget m t → HasPlace s t
in_state m s (target.Wire w) f h = omega (arith, f.wires)
in_state m s (target.Out o) f h = omega (arith, f.outs)

unmarked_one : (s : State) (o : Option Assignment) → ((a : Assignment) → o ≡ Some a → at s a.target ≡ level s a.bit) → activate_one s o ≡ s
unmarked_one s None h = refl
unmarked_one s (Some a) h = ap (λ v. put s a.target v) (sym (h a refl)) ∙ put_same s a.target

-- an activation of an assign that isn't marked changes nothing
pub unmarked_quiet : (m : Circuit) (s : State) (words : List ℕ) (k : ℕ) → IsUpToDate m s words → IsUnmarked words k → activate m s k ≡ s
unmarked_quiet m s words k up u = unmarked_one s (slice_get m.assigns k) (λ a e. up.assigns k a e u)
