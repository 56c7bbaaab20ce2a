-- `sim` of a module that `compile` wrote.
use Rattle.std.proofs.Common.{◌≡◌, ℕ, zero, suc, ◌+◌, ◌<◌, false, List, [], ◌∷◌, length, map, refl, sym, ap, subst, ◌∙◌, arith}
use Rattle.std.specs.Prelude.{slice_index_or}
use Rattle.std.specs.List.{range_with_len}
use Rattle.std.proofs.lemmas.List.{length-map}
use Rattle.rl_time.specs.declared.time.Time.{Time}
use Rattle.rl_time.specs.Time.{has_risen}
use Rattle.net_model.specs.Formula.{Equation}
use Rattle.net_model.specs.Value.{time_at, value, let_values}
use Rattle.circuit.specs.Circuit.{Circuit}
use Rattle.circuit.specs.Meaning.{State, levels_at, levels_from}
use Rattle.verilog_text.specs.Spelling.{SpellsModule}
use Rattle.levels.specs.Digits.{digit, output_digits, output_rows}
use Rattle.rl_jobs.specs.declared.source.Source.{Source}
use Rattle.rl_jobs.specs.declared.source.Source.TheVariants.{OfNetwork, OfTable}
use Rattle.rl_jobs.specs.Readings.{IsReading}
use Rattle.rl_jobs.specs.Sources.{SpellsSource, IsNoSource, inputs_of, outputs_of, function_of}
use Rattle.rl_jobs.specs.Compiled.{RealisesSource, IsModuleText}
use Rattle.rl_flow.proofs.Counting.{level_of}
use Rattle.rl_flow.specs.declared.verdict.Verdict.{Verdict}
use Rattle.rl_flow.specs.declared.verdict.Verdict.TheVariants.{Done}
use Rattle.rl_flow.specs.Task.{Task, Sim}
use Rattle.rl_flow.specs.Levels.{level_lines, IsLevelText}
use Rattle.rl_flow.specs.Answers.{IsText, HasOneText}
use Rattle.rl_flow.specs.Joined.{digits_from, function_levels, IsSimulated}

-- the digits of an output that has the levels of its value
digits_are : (values : List Time) (cycle n : ℕ) (states : List State) (out : ℕ) → map (λ s. s.outs) states ≡ levels_from values cycle n → output_digits states out ≡ digits_from cycle n (time_at values out)
digits_are values cycle zero [] out e = refl
digits_are values cycle (suc n) [] out e = absurd (cc)
digits_are values cycle zero (s ∷ states) out e = absurd (cc)
digits_are values cycle (suc n) (s ∷ states) out e =
    let first : s.outs ≡ levels_at values cycle = cc in
    let rest : map (λ (s : State). s.outs) states ≡ levels_from values (suc cycle) n = cc in
    let here : slice_index_or s.outs out false ≡ has_risen (time_at values out) cycle = ap (λ z. slice_index_or z out false) first ∙ level_of values out cycle in
    ap (λ b. digit b ∷ output_digits states out) here
    ∙ ap (λ z. digit (has_risen (time_at values out) cycle) ∷ z) (digits_are values (suc cycle) n states out rest)

by_place : (f : Time → List ℕ) (g : ℕ → List ℕ) (a : ℕ) (values : List Time) → ((i : ℕ) → i < length values → g (a + i) ≡ f (time_at values i)) → map g (range_with_len a (length values)) ≡ map f values
by_place f g a [] h = refl
by_place f g a (v ∷ values) h =
    let first : a ≡ a + 0 = omega arith in
    let rest : (i : ℕ) → i < length values → g (a + 1 + i) ≡ f (time_at values i) = λ i lt.
    let next : a + 1 + i ≡ a + suc i = omega arith in
    ap g next ∙ h (suc i) (omega (arith, lt)) in
    ap (λ z. z ∷ map g (range_with_len (a + 1) (length values))) (ap g first ∙ h 0 (omega arith))
    ∙ ap (λ z. f v ∷ z) (by_place f g (a + 1) values rest)

rows_are : (values : List Time) (n : ℕ) (states : List State) → map (λ s. s.outs) states ≡ levels_from values 0 n → output_rows (length values) states ≡ map (digits_from 0 n) values
rows_are values n states e =
    by_place (digits_from 0 n) (output_digits states) 0 values
    (λ i lt. let here : 0 + i ≡ i = omega arith in ap (output_digits states) here ∙ digits_are values 0 n states i e)

-- there is one value for each output
one_value_each : (s : Source) (times : List Time) → length (function_of s times) ≡ length (outputs_of s)
one_value_each (OfNetwork n) times =
    length-map n.outputs (λ (e : Equation). value times (let_values times n.lets) e.body) ∙ sym (length-map n.outputs (λ (e : Equation). e.name))
one_value_each (OfTable t) times = refl

levels_are : (s : Source) (cycles : ℕ) (times : List Time) (text : List ℕ) (m : Circuit) → RealisesSource s m → SpellsModule text m → length times ≡ length (inputs_of s) →
    IsLevelText cycles times text (function_levels s cycles times)
levels_are s cycles times text m right spells e =
    let one = right.one_history times cycles in
    let values = function_of s times in
    let outs : map (λ (s : State). s.outs) one.states ≡ levels_from values 0 cycles = right.levels times cycles one.states e one.is in
    let count : length values ≡ length m.outputs = one_value_each s times ∙ sym (ap length right.outputs_are) in
    record {
      circuit = m;
      read = spells;
      one_for_each_input = e ∙ sym (ap length right.inputs_are);
      states = one.states;
      history = one.is;
      no_other = one;
      written = ap (level_lines (outputs_of s)) (sym (rows_are values cycles one.states outs))
          ∙ ap (λ k. level_lines (outputs_of s) (output_rows k one.states)) count
          ∙ ap (λ (o : List (List ℕ)). level_lines o (output_rows (length m.outputs) one.states)) (sym right.outputs_are);
    }

pub simulated : IsReading SpellsSource (IsNoSource 1) →
    ((task : Task) (v : Verdict) (texts : List (List ℕ)) (a b : List ℕ) → HasOneText task → IsText task v texts a → IsText task v texts b → a ≡ b) →
    (bytes text : List ℕ) (s : Source) (cycles : ℕ) (times : List Time) → IsModuleText bytes text → SpellsSource bytes s → length times ≡ length (inputs_of s) → IsSimulated s cycles times text
simulated reading one_text bytes text s cycles times x spells e =
    let same : x.source ≡ s = reading.one bytes x.source s x.read spells in
    let right : RealisesSource s x.compiled = subst (λ (z : Source). RealisesSource z x.compiled) same x.right in
    let answer = levels_are s cycles times text x.compiled right x.spells e in
    record {
      within = (x.short, tt);
      can = (x.compiled, x.spells, e ∙ sym (ap length right.inputs_are));
      answer = answer;
      no_other = λ other y. one_text (Sim cycles times) Done (text ∷ []) other (function_levels s cycles times) tt y answer;
    }
