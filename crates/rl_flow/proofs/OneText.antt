-- For each task and verdict, texts have at most one answer.
use Rattle.std.proofs.Common.{◌≡◌, ℕ, Bool, List, ◌++◌, length, sym, ◌∙◌, ap, subst}
use Rattle.rl_time.specs.declared.time.Time.{Time}
use Rattle.verilog_text.specs.Spelling.{SpellsModule}
use Rattle.circuit.specs.Circuit.{Circuit}
use Rattle.circuit.specs.Meaning.{State, IsHistory, levels_from}
use Rattle.levels.specs.Digits.{output_rows}
use Rattle.event_sim.specs.Orders.{numbered_order}
use Rattle.event_sim.specs.Runs.{IsRun}
use Rattle.rl_flow.specs.Activations.{activations_line, IsOrderText}
use Rattle.rl_jobs.specs.Readings.{IsReading}
use Rattle.rl_jobs.specs.Checked.{ThreeTexts, IsAcceptedText, IsRefusedText}
use Rattle.rl_jobs.specs.Compiled.{IsModuleText}
use Rattle.rl_jobs.specs.Simplification.{IsSimplifiedText}
use Rattle.rl_jobs.specs.Synthesised.{IsSynthesisText}
use Rattle.rl_jobs.specs.Values.{IsValueText}
use Rattle.rl_jobs.specs.Windows.{IsWindowText}
use Rattle.rl_flow.specs.Counted.{big_text}
use Rattle.rl_flow.specs.Levels.{IsNoModule, IsLevelText, level_lines}
use Rattle.rl_flow.specs.declared.verdict.Verdict.{Verdict}
use Rattle.rl_flow.specs.declared.verdict.Verdict.TheVariants as verdict
use Rattle.rl_flow.specs.Task.{Task, Compile, Eval, Synth, Simplify, Tabulate, Sim, SimInOrder, Check, Compare, Big}
use Rattle.rl_flow.specs.Answers.{HasOneText, IsText}
use Rattle.rl_flow.proofs.Judging.{both_of_none, both, both_of_three}

-- ---- sim

pub one_level_text : IsReading SpellsModule IsNoModule →
    (cycles : ℕ) (times : List Time) (bytes a b : List ℕ) → IsLevelText cycles times bytes a → IsLevelText cycles times bytes b → a ≡ b
one_level_text h cycles times bytes a b x y =
    let same : x.circuit ≡ y.circuit = h.one bytes x.circuit y.circuit x.read y.read in
    let history : IsHistory y.circuit (levels_from times 0 cycles) x.states =
    subst (λ (m : Circuit). IsHistory m (levels_from times 0 cycles) x.states) same x.history in
    let states : x.states ≡ y.states = y.no_other.only x.states history ∙ sym (y.no_other.only y.states y.history) in
    x.written
    ∙ (ap (λ (m : Circuit). level_lines m.outputs (output_rows (length m.outputs) x.states)) same
    ∙ (ap (λ (ss : List State). level_lines y.circuit.outputs (output_rows (length y.circuit.outputs) ss)) states ∙ sym y.written))

pub one_order_text : IsReading SpellsModule IsNoModule →
    ((m : Circuit) (ks : List ℕ) (us : List (List Bool)) (a b : List State) (i j : ℕ) → IsRun m ks us a i → IsRun m ks us b j → i ≡ j) →
    (cycles : ℕ) (times : List Time) (order : ℕ) (bytes a b : List ℕ) → IsOrderText cycles times order bytes a → IsOrderText cycles times order bytes b → a ≡ b
one_order_text h one cycles times order bytes a b x y =
    let same : x.levels.circuit ≡ y.levels.circuit = h.one bytes x.levels.circuit y.levels.circuit x.levels.read y.levels.read in
    let lines : x.lines ≡ y.lines = one_level_text h cycles times bytes x.lines y.lines x.levels y.levels in
    let run : IsRun y.levels.circuit (numbered_order (length y.levels.circuit.assigns) order) (levels_from times 0 cycles) x.levels.states x.activations =
    subst (λ (m : Circuit). IsRun m (numbered_order (length m.assigns) order) (levels_from times 0 cycles) x.levels.states x.activations) same x.run in
    let count : x.activations ≡ y.activations =
    one y.levels.circuit (numbered_order (length y.levels.circuit.assigns) order) (levels_from times 0 cycles) x.levels.states y.levels.states x.activations y.activations run y.run in
    x.written ∙ (ap (λ z. z ++ activations_line x.activations) lines ∙ (ap (λ n. y.lines ++ activations_line n) count ∙ sym y.written))

-- ---- tasks

-- bytes have at most one text for each task
pub record Texts : Type 0 where
  pub modules : (bytes a b : List ℕ) → IsModuleText bytes a → IsModuleText bytes b → a ≡ b
  pub values : (times : List Time) (bytes a b : List ℕ) → IsValueText times bytes a → IsValueText times bytes b → a ≡ b
  pub networks : (bytes a b : List ℕ) → IsSynthesisText bytes a → IsSynthesisText bytes b → a ≡ b
  pub simplified : (bytes a b : List ℕ) → IsSimplifiedText bytes a → IsSimplifiedText bytes b → a ≡ b
  pub windows : (name : List ℕ) (window : ℕ) (bytes a b : List ℕ) → IsWindowText name window bytes a → IsWindowText name window bytes b → a ≡ b
  pub levels : (cycles : ℕ) (times : List Time) (bytes a b : List ℕ) → IsLevelText cycles times bytes a → IsLevelText cycles times bytes b → a ≡ b
  pub orders : (cycles : ℕ) (times : List Time) (order : ℕ) (bytes a b : List ℕ) → IsOrderText cycles times order bytes a → IsOrderText cycles times order bytes b → a ≡ b
  pub accepted : (texts : ThreeTexts) (a b : List ℕ) → IsAcceptedText texts a → IsAcceptedText texts b → a ≡ b
  pub refused : (texts : ThreeTexts) (a b : List ℕ) → IsRefusedText texts a → IsRefusedText texts b → a ≡ b

pub one_text : Texts → (task : Task) (v : Verdict) (texts : List (List ℕ)) (a b : List ℕ) → HasOneText task → IsText task v texts a → IsText task v texts b → a ≡ b
one_text h Compile verdict.Done texts a b one x y =
    both texts (λ t. IsModuleText t a) (λ t. IsModuleText t b) (a ≡ b) (λ t. h.modules t a b) x y
one_text h (Eval times) verdict.Done texts a b one x y =
    both texts (λ t. IsValueText times t a) (λ t. IsValueText times t b) (a ≡ b) (λ t. h.values times t a b) x y
one_text h Synth verdict.Done texts a b one x y =
    both texts (λ t. IsSynthesisText t a) (λ t. IsSynthesisText t b) (a ≡ b) (λ t. h.networks t a b) x y
one_text h Simplify verdict.Done texts a b one x y =
    both texts (λ t. IsSimplifiedText t a) (λ t. IsSimplifiedText t b) (a ≡ b) (λ t. h.simplified t a b) x y
one_text h (Tabulate name window) verdict.Done texts a b one x y =
    both texts (λ t. IsWindowText name window t a) (λ t. IsWindowText name window t b) (a ≡ b) (λ t. h.windows name window t a b) x y
one_text h (Sim cycles times) verdict.Done texts a b one x y =
    both texts (λ t. IsLevelText cycles times t a) (λ t. IsLevelText cycles times t b) (a ≡ b) (λ t. h.levels cycles times t a b) x y
one_text h (SimInOrder cycles times order) verdict.Done texts a b one x y =
    both texts (λ t. IsOrderText cycles times order t a) (λ t. IsOrderText cycles times order t b) (a ≡ b) (λ t. h.orders cycles times order t a b) x y
one_text h Check verdict.Done texts a b one x y =
    both_of_three texts (λ t. IsAcceptedText t a) (λ t. IsAcceptedText t b) (a ≡ b) (λ t. h.accepted t a b) x y
one_text h (Compare budget) verdict.Done texts a b one x y = absurd one
one_text h (Big n) verdict.Done texts a b one x y = both_of_none texts (a ≡ big_text n) (b ≡ big_text n) (a ≡ b) (λ p q. p ∙ sym q) x y
one_text h Compile verdict.No texts a b one x y = absurd x
one_text h (Eval times) verdict.No texts a b one x y = absurd x
one_text h Synth verdict.No texts a b one x y = absurd x
one_text h Simplify verdict.No texts a b one x y = absurd x
one_text h (Tabulate name window) verdict.No texts a b one x y = absurd x
one_text h (Sim cycles times) verdict.No texts a b one x y = absurd x
one_text h (SimInOrder cycles times order) verdict.No texts a b one x y = absurd x
one_text h Check verdict.No texts a b one x y =
    both_of_three texts (λ t. IsRefusedText t a) (λ t. IsRefusedText t b) (a ≡ b) (λ t. h.refused t a b) x y
one_text h (Compare budget) verdict.No texts a b one x y = absurd one
one_text h (Big n) verdict.No texts a b one x y = absurd x
one_text h Compile verdict.Undecided texts a b one x y = absurd x
one_text h (Eval times) verdict.Undecided texts a b one x y = absurd x
one_text h Synth verdict.Undecided texts a b one x y = absurd x
one_text h Simplify verdict.Undecided texts a b one x y = absurd x
one_text h (Tabulate name window) verdict.Undecided texts a b one x y = absurd x
one_text h (Sim cycles times) verdict.Undecided texts a b one x y = absurd x
one_text h (SimInOrder cycles times order) verdict.Undecided texts a b one x y = absurd x
one_text h Check verdict.Undecided texts a b one x y = absurd x
one_text h (Compare budget) verdict.Undecided texts a b one x y = absurd one
one_text h (Big n) verdict.Undecided texts a b one x y = absurd x
