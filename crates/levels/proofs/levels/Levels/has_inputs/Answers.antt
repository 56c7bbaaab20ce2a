use Rattle.std.proofs.Common.{◌≡◌, Bool, true, false, refl, ap, ◌∙◌, Decides}
use Rattle.std.proofs.lemmas.Slice.Eq.{slice_eq-Decides}
use mathlib.Core.Bool.{beq}
use Rattle.circuit.specs.Meaning.{State}
use Rattle.levels.proofs.levels.Levels.has_inputs.Goals as goal

beq-Decides : (a b : Bool) → Decides (beq a b) (a ≡ b)
beq-Decides true true = (λ _. refl, λ _. refl)
beq-Decides true false = (λ h. absurd (cc), λ h. absurd (cc))
beq-Decides false true = (λ h. absurd (cc), λ h. absurd (cc))
beq-Decides false false = (λ _. refl, λ _. refl)

pub returns : goal.returns
returns c = λ t.
    (slice_eq-Decides beq-Decides c.args.inputs.now c.as_slice.result.now c.eq.result c.eq.ensures).0 t
    ∙ (c.as_slice.ensures.value ∙ ap (λ (s : State). s.inputs) c.self.view_is)
