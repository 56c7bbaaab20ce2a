-- Two networks that have the same names, or not.
use Rattle.std.proofs.Common.{◌≡◌, ℕ, ◌⊎◌, List, length, refl, sym, ◌∙◌, ap, inl, inr}
use Rattle.net_model.specs.Formula.{Net}
use Rattle.net_model.specs.Rules.{names_of}
use Rattle.net_lang.specs.Spelling.{SpellsNetwork}
use Rattle.rl_jobs.specs.declared.fault.Fault.{Fault}
use Rattle.rl_jobs.specs.declared.fault.Fault.TheVariants as fault
use Rattle.rl_jobs.specs.Readings.{IsReading, reads_part, reads_both, reads_staged}
use Rattle.rl_jobs.specs.Sources.{IsNoNetwork}
use Rattle.rl_jobs.specs.Checked.{DifferAt}
use Rattle.rl_jobs.specs.Pairs.{TwoTexts, SpellPair, AreNoPair, HaveSameNames, HaveOtherNames, AreNotCompared}
use Rattle.rl_jobs.proofs.Agreement.{same_or_different, one_difference, no_difference}

judge : (p : Net × Net) → (p.0.inputs ≡ p.1.inputs) ⊎ ((k : ℕ) × DifferAt p.0.inputs p.1.inputs k) →
    (names_of p.0.outputs ≡ names_of p.1.outputs) ⊎ ((k : ℕ) × DifferAt (names_of p.0.outputs) (names_of p.1.outputs) k) →
    HaveSameNames p ⊎ ((f : Fault) × HaveOtherNames p f)
judge p (inr x) y = inr (fault.InputNames x.0, inl (x.0, refl, x.1))
judge p (inl e) (inr y) = inr (fault.OutputNames y.0, inr (e, (y.0, refl, y.1)))
judge p (inl e) (inl f) = inl (record { inputs = e; outputs = f })

same_or_other : (p : Net × Net) → HaveSameNames p ⊎ ((f : Fault) × HaveOtherNames p f)
same_or_other p = judge p (same_or_different p.0.inputs p.1.inputs) (same_or_different (names_of p.0.outputs) (names_of p.1.outputs))

never_both : (p : Net × Net) (f : Fault) → HaveSameNames p → HaveOtherNames p f → ⊥
never_both p f x (inl y) = no_difference p.0.inputs p.1.inputs y.0 x.inputs y.2
never_both p f x (inr y) = no_difference (names_of p.0.outputs) (names_of p.1.outputs) y.1.0 x.outputs y.1.2

one_fault : (p : Net × Net) (f g : Fault) → HaveOtherNames p f → HaveOtherNames p g → f ≡ g
one_fault p f g (inl x) (inl y) = x.1 ∙ (ap fault.InputNames (one_difference p.0.inputs p.1.inputs x.0 y.0 x.2 y.2) ∙ sym y.1)
one_fault p f g (inl x) (inr y) = absurd (no_difference p.0.inputs p.1.inputs x.0 y.0 x.2)
one_fault p f g (inr x) (inl y) = absurd (no_difference p.0.inputs p.1.inputs y.0 x.0 y.2)
one_fault p f g (inr x) (inr y) =
    x.1.1 ∙ (ap fault.OutputNames (one_difference (names_of p.0.outputs) (names_of p.1.outputs) x.1.0 y.1.0 x.1.2 y.1.2) ∙ sym y.1.1)

reads_pair : ((file : ℕ) → IsReading SpellsNetwork (IsNoNetwork file)) → IsReading SpellPair AreNoPair
reads_pair h =
    reads_both (λ (texts : TwoTexts) n. SpellsNetwork texts.first n) (λ (texts : TwoTexts) n. SpellsNetwork texts.second n)
    (λ (texts : TwoTexts) f. IsNoNetwork 1 texts.first f) (λ (texts : TwoTexts) f. IsNoNetwork 2 texts.second f)
    (reads_part (λ (texts : TwoTexts). texts.first) SpellsNetwork (IsNoNetwork 1) (h 1)) (reads_part (λ (texts : TwoTexts). texts.second) SpellsNetwork (IsNoNetwork 2) (h 2))

pub pairs : ((file : ℕ) → IsReading SpellsNetwork (IsNoNetwork file)) → IsReading (λ texts p. SpellPair texts p × HaveSameNames p) AreNotCompared
pairs h = reads_staged SpellPair AreNoPair HaveSameNames HaveOtherNames (reads_pair h) one_fault never_both (λ texts p is. same_or_other p)
