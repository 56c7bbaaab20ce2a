-- For each task, texts have at most one fault, and one where the task can't be done.
use Rattle.std.proofs.Common.{◌≡◌, ℕ, ◌⊎◌, inl, inr, List, [], ◌∷◌, length, refl, sym, ◌∙◌}
use Rattle.std.specs.Prelude.{◌≢◌}
use Rattle.std.proofs.lemmas.Bool.{cases_eq}
use Rattle.rl_time.specs.declared.time.Time.{Time}
use Rattle.net_model.specs.Formula.{Net}
use Rattle.net_lang.specs.Spelling.{SpellsNetwork}
use Rattle.verilog_text.specs.declared.rule.Rule.{Rule}
use Rattle.circuit.specs.Circuit.{Circuit}
use Rattle.verilog_text.specs.Spelling.{SpellsModule, IsBroken}
use Rattle.rl_jobs.specs.declared.fault.Fault.{Fault}
use Rattle.rl_jobs.specs.declared.fault.Fault.TheVariants as fault
use Rattle.rl_jobs.specs.declared.source.Source.{Source}
use Rattle.rl_jobs.specs.Readings.{IsReading, reads_staged}
use Rattle.rl_jobs.specs.Sources.{SpellsSource, SpellsSoundTable, inputs_of}
use Rattle.rl_jobs.specs.Compiled.{HasFewBits, CanBeCompiled, IsNotCompiled}
use Rattle.rl_jobs.specs.Simplification.{CanBeSimplified, IsNotSimplified}
use Rattle.rl_jobs.specs.Synthesised.{CanBeSynthesised, IsNotSynthesised}
use Rattle.rl_jobs.specs.Values.{CanBeValued, IsNotValued}
use Rattle.rl_jobs.specs.Windows.{CanBeWritten, CanBeTabulated, IsNotTabulated}
use Rattle.verilog_laws.specs.Answers.{HasAnswer}
use Rattle.rl_flow.specs.Asked.{limits}
use Rattle.rl_flow.specs.Levels.{IsNoModule, HasOtherPorts, CanBeSimulated, IsNotSimulated}
use Rattle.rl_flow.specs.Task.{Task, Compile, Eval, Synth, Simplify, Tabulate, Sim, SimInOrder, Check, Compare, Big}
use Rattle.rl_jobs.specs.Checked.{ThreeTexts, three_texts, Claim, SpellClaim, Agree, CanBeChecked, AreNotChecked}
use Rattle.rl_jobs.specs.Pairs.{TwoTexts, two_texts, SpellPair, HaveSameNames, CanBeCompared, AreNotCompared}
use Rattle.rl_flow.specs.Answers.{OnNone, OnOne, OnTwo, OnThree, CanBeDone, IsCause}

-- ---- modules

same_fault : (r s : Rule) (k l : ℕ) → r ≡ s → k ≡ l → fault.Module 1 r k ≡ fault.Module 1 s l
same_fault r s k l e f = cc

module_or_fault : (bytes : List ℕ) → HasAnswer bytes → ((m : Circuit) × SpellsModule bytes m) ⊎ ((f : Fault) × IsNoModule bytes f)
module_or_fault bytes (inl x) = inl x
module_or_fault bytes (inr x) = inr (fault.Module 1 x.0 x.1, (x.0, x.1, refl, x.2))

pub reads_modules : ((text : List ℕ) (m n : Circuit) → SpellsModule text m → SpellsModule text n → m ≡ n) →
    ((text : List ℕ) (m : Circuit) (r : Rule) (line : ℕ) → SpellsModule text m → IsBroken text r line → ⊥) →
    ((text : List ℕ) (r s : Rule) (k l : ℕ) → IsBroken text r k → IsBroken text s l → (r ≡ s) × (k ≡ l)) →
    ((text : List ℕ) → HasAnswer text) → IsReading SpellsModule IsNoModule
reads_modules f g h either = record {
  one = f;
  one_fault = λ bytes a b x y.
      let same = h bytes x.0 y.0 x.1 y.1 x.3 y.3 in
      x.2 ∙ (same_fault x.0 y.0 x.1 y.1 same.0 same.1 ∙ sym y.2);
  not_both = λ bytes m a y x. g bytes m x.0 x.1 y x.3;
  some = λ bytes. module_or_fault bytes (either bytes);
}

ports_or_fault : (times : List Time) (m : Circuit) → (length m.inputs ≡ length times) ⊎ (length m.inputs ≢ length times) →
    (length times ≡ length m.inputs) ⊎ ((f : Fault) × HasOtherPorts times m f)
ports_or_fault times m (inl same) = inl (sym same)
ports_or_fault times m (inr other) = inr (fault.Inputs (length m.inputs), (refl, other))

pub simulates : IsReading SpellsModule IsNoModule → (times : List Time) →
    IsReading (λ bytes m. SpellsModule bytes m × (length times ≡ length m.inputs)) (IsNotSimulated times)
simulates h times =
    reads_staged SpellsModule IsNoModule (λ (m : Circuit). length times ≡ length m.inputs) (HasOtherPorts times) h
    (λ m f g x y. x.0 ∙ sym y.0) (λ m f same other. other.1 (sym same))
    (λ bytes m is. ports_or_fault times m (cases_eq (length m.inputs) (length times)))

-- ---- tasks

-- what follows from two facts where there is no text
pub both_of_none : (texts : List (List ℕ)) (P Q C : Type 0) → (P → Q → C) → OnNone texts P → OnNone texts Q → C
both_of_none [] P Q C f x y = f x y
both_of_none (bytes ∷ texts) P Q C f x y = absurd x

-- what follows from two properties of the only text
pub both : (texts : List (List ℕ)) (P Q : List ℕ → Type 0) (C : Type 0) → ((bytes : List ℕ) → P bytes → Q bytes → C) → OnOne texts P → OnOne texts Q → C
both [] P Q C f x y = absurd x
both (bytes ∷ []) P Q C f x y = f bytes x y
both (bytes ∷ other ∷ texts) P Q C f x y = absurd x

-- what follows from two properties of two texts
pub both_of_two : (texts : List (List ℕ)) (P Q : TwoTexts → Type 0) (C : Type 0) → ((two : TwoTexts) → P two → Q two → C) → OnTwo texts P → OnTwo texts Q → C
both_of_two [] P Q C f x y = absurd x
both_of_two (a ∷ []) P Q C f x y = absurd x
both_of_two (a ∷ b ∷ []) P Q C f x y = f (two_texts a b) x y
both_of_two (a ∷ b ∷ c ∷ texts) P Q C f x y = absurd x

-- what follows from two properties of three texts
pub both_of_three : (texts : List (List ℕ)) (P Q : ThreeTexts → Type 0) (C : Type 0) → ((three : ThreeTexts) → P three → Q three → C) → OnThree texts P → OnThree texts Q → C
both_of_three [] P Q C f x y = absurd x
both_of_three (a ∷ []) P Q C f x y = absurd x
both_of_three (a ∷ b ∷ []) P Q C f x y = absurd x
both_of_three (a ∷ b ∷ c ∷ []) P Q C f x y = f (three_texts a b c) x y
both_of_three (a ∷ b ∷ c ∷ d ∷ texts) P Q C f x y = absurd x

-- what the texts of all tasks are read as
pub record Readings : Type 0 where
  pub compiling : IsReading (λ bytes s. SpellsSource bytes s × HasFewBits s) IsNotCompiled
  pub evaluating : (times : List Time) → IsReading (λ bytes s. SpellsSource bytes s × (length times ≡ length (inputs_of s))) (IsNotValued times)
  pub synthesising : IsReading SpellsSoundTable IsNotSynthesised
  pub simplifying : IsReading SpellsNetwork IsNotSimplified
  pub tabulating : (name : List ℕ) (window : ℕ) → IsReading (λ bytes n. SpellsNetwork bytes n × CanBeWritten name window n) (IsNotTabulated name window)
  pub simulating : (times : List Time) → IsReading (λ bytes m. SpellsModule bytes m × (length times ≡ length m.inputs)) (IsNotSimulated times)
  pub checking : IsReading (λ texts c. SpellClaim texts c × Agree c) AreNotChecked
  pub pairing : IsReading (λ texts p. SpellPair texts p × HaveSameNames p) AreNotCompared

pub one_fault : Readings → (task : Task) (texts : List (List ℕ)) (f g : Fault) → IsCause task texts f → IsCause task texts g → f ≡ g
one_fault h Compile texts f g x y =
    both texts (λ b. IsNotCompiled b f) (λ b. IsNotCompiled b g) (f ≡ g) (λ b. h.compiling.one_fault b f g) x y
one_fault h (Eval times) texts f g x y =
    both texts (λ b. IsNotValued times b f) (λ b. IsNotValued times b g) (f ≡ g) (λ b. (h.evaluating times).one_fault b f g) x y
one_fault h Synth texts f g x y =
    both texts (λ b. IsNotSynthesised b f) (λ b. IsNotSynthesised b g) (f ≡ g) (λ b. h.synthesising.one_fault b f g) x y
one_fault h Simplify texts f g x y =
    both texts (λ b. IsNotSimplified b f) (λ b. IsNotSimplified b g) (f ≡ g) (λ b. h.simplifying.one_fault b f g) x y
one_fault h (Tabulate name window) texts f g x y =
    both texts (λ b. IsNotTabulated name window b f) (λ b. IsNotTabulated name window b g) (f ≡ g) (λ b. (h.tabulating name window).one_fault b f g) x y
one_fault h (Sim cycles times) texts f g x y =
    both texts (λ b. IsNotSimulated times b f) (λ b. IsNotSimulated times b g) (f ≡ g) (λ b. (h.simulating times).one_fault b f g) x y
one_fault h (SimInOrder cycles times order) texts f g x y =
    both texts (λ b. IsNotSimulated times b f) (λ b. IsNotSimulated times b g) (f ≡ g) (λ b. (h.simulating times).one_fault b f g) x y
one_fault h Check texts f g x y =
    both_of_three texts (λ t. AreNotChecked t f) (λ t. AreNotChecked t g) (f ≡ g) (λ t. h.checking.one_fault t f g) x y
one_fault h (Compare budget) texts f g x y =
    both_of_two texts (λ t. AreNotCompared t f) (λ t. AreNotCompared t g) (f ≡ g) (λ t. h.pairing.one_fault t f g) x y
one_fault h (Big n) texts f g x y = absurd x

pub no_fault : Readings → (task : Task) (texts : List (List ℕ)) (f : Fault) → CanBeDone task texts → IsCause task texts f → ⊥
no_fault h Compile texts f x y =
    both texts CanBeCompiled (λ b. IsNotCompiled b f) ⊥ (λ b can bad. h.compiling.not_both b can.0 f (can.1, can.2) bad) x y
no_fault h (Eval times) texts f x y =
    both texts (CanBeValued times) (λ b. IsNotValued times b f) ⊥ (λ b can bad. (h.evaluating times).not_both b can.0 f (can.1, can.2) bad) x y
no_fault h Synth texts f x y =
    both texts CanBeSynthesised (λ b. IsNotSynthesised b f) ⊥ (λ b can bad. h.synthesising.not_both b can.0 f can.1 bad) x y
no_fault h Simplify texts f x y =
    both texts CanBeSimplified (λ b. IsNotSimplified b f) ⊥ (λ b can bad. h.simplifying.not_both b can.0 f can.1 bad) x y
no_fault h (Tabulate name window) texts f x y =
    both texts (CanBeTabulated name window) (λ b. IsNotTabulated name window b f) ⊥ (λ b can bad. (h.tabulating name window).not_both b can.0 f (can.1, can.2) bad) x y
no_fault h (Sim cycles times) texts f x y =
    both texts (CanBeSimulated times) (λ b. IsNotSimulated times b f) ⊥ (λ b can bad. (h.simulating times).not_both b can.0 f (can.1, can.2) bad) x y
no_fault h (SimInOrder cycles times order) texts f x y =
    both texts (CanBeSimulated times) (λ b. IsNotSimulated times b f) ⊥ (λ b can bad. (h.simulating times).not_both b can.0 f (can.1, can.2) bad) x y
no_fault h Check texts f x y =
    both_of_three texts CanBeChecked (λ t. AreNotChecked t f) ⊥ (λ t can bad. h.checking.not_both t can.0 f (can.1, can.2) bad) x y
no_fault h (Compare budget) texts f x y =
    both_of_two texts CanBeCompared (λ t. AreNotCompared t f) ⊥ (λ t can bad. h.pairing.not_both t can.0 f (can.1, can.2) bad) x y
no_fault h (Big n) texts f x y = absurd y

-- what holds where there is no text
none : (texts : List (List ℕ)) (P : Type 0) → length texts ≡ 0 → P → OnNone texts P
none [] P e p = p
none (bytes ∷ texts) P e p = absurd (cc)

-- what follows for one text from what follows for each
only : (texts : List (List ℕ)) (P : List ℕ → Type 0) (Q : Fault → List ℕ → Type 0) → length texts ≡ 1 → ((bytes : List ℕ) → P bytes ⊎ ((f : Fault) × Q f bytes)) →
    OnOne texts P ⊎ ((f : Fault) × OnOne texts (Q f))
only [] P Q e either = absurd (cc)
only (bytes ∷ []) P Q e either = either bytes
only (bytes ∷ other ∷ texts) P Q e either = absurd (cc)

-- the same for two texts
two : (texts : List (List ℕ)) (P : TwoTexts → Type 0) (Q : Fault → TwoTexts → Type 0) → length texts ≡ 2 → ((t : TwoTexts) → P t ⊎ ((f : Fault) × Q f t)) →
    OnTwo texts P ⊎ ((f : Fault) × OnTwo texts (Q f))
two [] P Q e either = absurd (cc)
two (a ∷ []) P Q e either = absurd (cc)
two (a ∷ b ∷ []) P Q e either = either (two_texts a b)
two (a ∷ b ∷ c ∷ texts) P Q e either = absurd (cc)

-- the same for three texts
three : (texts : List (List ℕ)) (P : ThreeTexts → Type 0) (Q : Fault → ThreeTexts → Type 0) → length texts ≡ 3 → ((t : ThreeTexts) → P t ⊎ ((f : Fault) × Q f t)) →
    OnThree texts P ⊎ ((f : Fault) × OnThree texts (Q f))
three [] P Q e either = absurd (cc)
three (a ∷ []) P Q e either = absurd (cc)
three (a ∷ b ∷ []) P Q e either = absurd (cc)
three (a ∷ b ∷ c ∷ []) P Q e either = either (three_texts a b c)
three (a ∷ b ∷ c ∷ d ∷ texts) P Q e either = absurd (cc)

-- one thing of both properties
flat : (S : Type 0) (P Q : S → Type 0) (R : Type 0) → ((s : S) × (P s × Q s)) ⊎ R → ((s : S) × P s × Q s) ⊎ R
flat S P Q R (inl x) = let p = x.1 in inl (x.0, p.0, p.1)
flat S P Q R (inr r) = inr r

pub done_or_fault : Readings → (task : Task) (texts : List (List ℕ)) → length texts ≡ length (limits task) → CanBeDone task texts ⊎ ((f : Fault) × IsCause task texts f)
done_or_fault h Compile texts e = only texts CanBeCompiled (λ f b. IsNotCompiled b f) e (λ b. flat Source (SpellsSource b) HasFewBits ((f : Fault) × IsNotCompiled b f) (h.compiling.some b))
done_or_fault h (Eval times) texts e = only texts (CanBeValued times) (λ f b. IsNotValued times b f) e
    (λ b. flat Source (SpellsSource b) (λ s. length times ≡ length (inputs_of s)) ((f : Fault) × IsNotValued times b f) ((h.evaluating times).some b))
done_or_fault h Synth texts e = only texts CanBeSynthesised (λ f b. IsNotSynthesised b f) e h.synthesising.some
done_or_fault h Simplify texts e = only texts CanBeSimplified (λ f b. IsNotSimplified b f) e h.simplifying.some
done_or_fault h (Tabulate name window) texts e = only texts (CanBeTabulated name window) (λ f b. IsNotTabulated name window b f) e
    (λ b. flat Net (SpellsNetwork b) (CanBeWritten name window) ((f : Fault) × IsNotTabulated name window b f) ((h.tabulating name window).some b))
done_or_fault h (Sim cycles times) texts e = only texts (CanBeSimulated times) (λ f b. IsNotSimulated times b f) e
    (λ b. flat Circuit (SpellsModule b) (λ m. length times ≡ length m.inputs) ((f : Fault) × IsNotSimulated times b f) ((h.simulating times).some b))
done_or_fault h (SimInOrder cycles times order) texts e = only texts (CanBeSimulated times) (λ f b. IsNotSimulated times b f) e
    (λ b. flat Circuit (SpellsModule b) (λ m. length times ≡ length m.inputs) ((f : Fault) × IsNotSimulated times b f) ((h.simulating times).some b))
done_or_fault h Check texts e = three texts CanBeChecked (λ f t. AreNotChecked t f) e
    (λ t. flat Claim (SpellClaim t) Agree ((f : Fault) × AreNotChecked t f) (h.checking.some t))
done_or_fault h (Compare budget) texts e = two texts CanBeCompared (λ f t. AreNotCompared t f) e
    (λ t. flat (Net × Net) (SpellPair t) HaveSameNames ((f : Fault) × AreNotCompared t f) (h.pairing.some t))
done_or_fault h (Big n) texts e = inl (none texts (Unit {0}) e tt)
