-- What a task makes of the texts of its files, and why it is refused.
use Rattle.std.specs.Prelude.{◌≡◌, ℕ, List, [], ◌∷◌}
use Rattle.rl_jobs.specs.declared.fault.Fault.{Fault}
use Rattle.rl_jobs.specs.Checked.{ThreeTexts, three_texts, IsAcceptedText, IsRefusedText, CanBeChecked, AreNotChecked}
use Rattle.rl_jobs.specs.Compiled.{IsModuleText, CanBeCompiled, IsNotCompiled}
use Rattle.rl_jobs.specs.Pairs.{TwoTexts, two_texts, CanBeCompared, AreNotCompared}
use Rattle.rl_jobs.specs.Simplification.{IsSimplifiedText, CanBeSimplified, IsNotSimplified}
use Rattle.rl_jobs.specs.Synthesised.{IsSynthesisText, CanBeSynthesised, IsNotSynthesised}
use Rattle.rl_jobs.specs.Values.{IsValueText, CanBeValued, IsNotValued}
use Rattle.rl_jobs.specs.Windows.{IsWindowText, CanBeTabulated, IsNotTabulated}
use Rattle.rl_flow.specs.Counted.{big_text}
use Rattle.rl_flow.specs.Equality.{SayEqual, SayDifferent, SayUndecided, IsSaid}
use Rattle.rl_flow.specs.Levels.{IsLevelText, CanBeSimulated, IsNotSimulated}
use Rattle.rl_flow.specs.Activations.{IsOrderText}
use Rattle.rl_flow.specs.Task.{Task, Compile, Eval, Synth, Simplify, Tabulate, Sim, SimInOrder, Check, Compare, Big}
use Rattle.rl_flow.specs.declared.verdict.Verdict.{Verdict}
use Rattle.rl_flow.specs.declared.verdict.Verdict.TheVariants as verdict

-- there is no text, and this holds
abbrev pub OnNone : List (List ℕ) → Type 0 → Type 0
OnNone [] P = P
OnNone (text ∷ texts) P = ⊥

-- there is one text, with this property
abbrev pub OnOne : List (List ℕ) → (List ℕ → Type 0) → Type 0
OnOne [] P = ⊥
OnOne (text ∷ []) P = P text
OnOne (text ∷ other ∷ texts) P = ⊥

-- there are two texts, with this property
abbrev pub OnTwo : List (List ℕ) → (TwoTexts → Type 0) → Type 0
OnTwo [] P = ⊥
OnTwo (first ∷ []) P = ⊥
OnTwo (first ∷ second ∷ []) P = P (two_texts first second)
OnTwo (first ∷ second ∷ other ∷ texts) P = ⊥

-- there are three texts, with this property
abbrev pub OnThree : List (List ℕ) → (ThreeTexts → Type 0) → Type 0
OnThree [] P = ⊥
OnThree (first ∷ []) P = ⊥
OnThree (first ∷ second ∷ []) P = ⊥
OnThree (first ∷ second ∷ third ∷ []) P = P (three_texts first second third)
OnThree (first ∷ second ∷ third ∷ other ∷ texts) P = ⊥

-- ---- answers

-- the text by which a task is done: status 0
abbrev pub IsDoneText : Task → List (List ℕ) → List ℕ → Type 0
IsDoneText Compile texts answer = OnOne texts (λ bytes. IsModuleText bytes answer)
IsDoneText (Eval times) texts answer = OnOne texts (λ bytes. IsValueText times bytes answer)
IsDoneText Synth texts answer = OnOne texts (λ bytes. IsSynthesisText bytes answer)
IsDoneText Simplify texts answer = OnOne texts (λ bytes. IsSimplifiedText bytes answer)
IsDoneText (Tabulate name window) texts answer = OnOne texts (λ bytes. IsWindowText name window bytes answer)
IsDoneText (Sim cycles times) texts answer = OnOne texts (λ bytes. IsLevelText cycles times bytes answer)
IsDoneText (SimInOrder cycles times order) texts answer = OnOne texts (λ bytes. IsOrderText cycles times order bytes answer)
IsDoneText Check texts answer = OnThree texts (λ three. IsAcceptedText three answer)
IsDoneText (Compare budget) texts answer = OnTwo texts (λ two. IsSaid (SayEqual budget) two answer)
IsDoneText (Big n) texts answer = OnNone texts (answer ≡ big_text n)

-- the text by which a task is answered by no: status 1
abbrev pub IsNoText : Task → List (List ℕ) → List ℕ → Type 0
IsNoText Check texts answer = OnThree texts (λ three. IsRefusedText three answer)
IsNoText (Compare budget) texts answer = OnTwo texts (λ two. IsSaid SayDifferent two answer)
IsNoText _ texts answer = ⊥

-- the text by which a task is left undecided: status 7
abbrev pub IsUndecidedText : Task → List (List ℕ) → List ℕ → Type 0
IsUndecidedText (Compare budget) texts answer = OnTwo texts (λ two. IsSaid (SayUndecided budget) two answer)
IsUndecidedText _ texts answer = ⊥

-- the text that a task makes of the texts of its files, with this verdict
abbrev pub IsText : Task → Verdict → List (List ℕ) → List ℕ → Type 0
IsText task verdict.Done texts answer = IsDoneText task texts answer
IsText task verdict.No texts answer = IsNoText task texts answer
IsText task verdict.Undecided texts answer = IsUndecidedText task texts answer

-- a task that may be answered by no
abbrev pub MayBeNo : Task → Type 0
MayBeNo Check = Unit {0}
MayBeNo (Compare budget) = Unit {0}
MayBeNo _ = ⊥

-- a task that may be left undecided
abbrev pub MayBeOpen : Task → Type 0
MayBeOpen (Compare budget) = Unit {0}
MayBeOpen _ = ⊥

-- the verdicts that a task may have
abbrev pub MayHave : Task → Verdict → Type 0
MayHave task verdict.Done = Unit {0}
MayHave task verdict.No = MayBeNo task
MayHave task verdict.Undecided = MayBeOpen task

-- The texts fix the answer: of every task but `compare`, which may show by any tree that outputs are equal, and at any times that one
-- differs.
abbrev pub HasOneText : Task → Type 0
HasOneText (Compare budget) = ⊥
HasOneText _ = Unit {0}

-- ---- refusals

-- the texts spell what the task needs, within the limits of the task
abbrev pub CanBeDone : Task → List (List ℕ) → Type 0
CanBeDone Compile texts = OnOne texts CanBeCompiled
CanBeDone (Eval times) texts = OnOne texts (CanBeValued times)
CanBeDone Synth texts = OnOne texts CanBeSynthesised
CanBeDone Simplify texts = OnOne texts CanBeSimplified
CanBeDone (Tabulate name window) texts = OnOne texts (CanBeTabulated name window)
CanBeDone (Sim cycles times) texts = OnOne texts (CanBeSimulated times)
CanBeDone (SimInOrder cycles times order) texts = OnOne texts (CanBeSimulated times)
CanBeDone Check texts = OnThree texts CanBeChecked
CanBeDone (Compare budget) texts = OnTwo texts CanBeCompared
CanBeDone (Big n) texts = OnNone texts (Unit {0})

-- This fault of the texts keeps the task from being done. Of several faults it is the first: file by file that of its spelling, then
-- what must agree between the files and the words, then the limits of the task.
abbrev pub IsCause : Task → List (List ℕ) → Fault → Type 0
IsCause Compile texts f = OnOne texts (λ bytes. IsNotCompiled bytes f)
IsCause (Eval times) texts f = OnOne texts (λ bytes. IsNotValued times bytes f)
IsCause Synth texts f = OnOne texts (λ bytes. IsNotSynthesised bytes f)
IsCause Simplify texts f = OnOne texts (λ bytes. IsNotSimplified bytes f)
IsCause (Tabulate name window) texts f = OnOne texts (λ bytes. IsNotTabulated name window bytes f)
IsCause (Sim cycles times) texts f = OnOne texts (λ bytes. IsNotSimulated times bytes f)
IsCause (SimInOrder cycles times order) texts f = OnOne texts (λ bytes. IsNotSimulated times bytes f)
IsCause Check texts f = OnThree texts (λ three. AreNotChecked three f)
IsCause (Compare budget) texts f = OnTwo texts (λ two. AreNotCompared two f)
IsCause (Big n) texts f = ⊥
