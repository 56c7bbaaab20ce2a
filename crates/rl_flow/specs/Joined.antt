-- What `sim` makes of a module that `compile` wrote.
use Rattle.std.specs.Prelude.{◌≡◌, ℕ, zero, suc, List, [], ◌∷◌, map}
use Rattle.rl_time.specs.declared.time.Time.{Time}
use Rattle.rl_time.specs.Time.{has_risen}
use Rattle.levels.specs.Digits.{digit}
use Rattle.rl_jobs.specs.declared.source.Source.{Source}
use Rattle.rl_jobs.specs.Sources.{outputs_of, function_of}
use Rattle.rl_flow.specs.declared.verdict.Verdict.TheVariants.{Done}
use Rattle.rl_flow.specs.Task.{Sim}
use Rattle.rl_flow.specs.Asked.{limits, AreWithin}
use Rattle.rl_flow.specs.Levels.{level_lines}
use Rattle.rl_flow.specs.Answers.{CanBeDone, IsText}

-- the digits of a wire that rises at this time, in so many cycles from this one on
abbrev pub digits_from : ℕ → ℕ → Time → List ℕ
digits_from cycle zero t = []
digits_from cycle (suc n) t = digit (has_risen t cycle) ∷ digits_from (suc cycle) n t

-- a line for each output of a source, which is high in a cycle exactly where its value is at most the cycle
abbrev pub function_levels : Source → ℕ → List Time → List ℕ
function_levels s cycles times = level_lines (outputs_of s) (map (digits_from 0 cycles) (function_of s times))

-- the text is no longer than a module's file may be, `sim` can be done with it, and it writes the levels of the source's function
-- and nothing else
pub record IsSimulated (s : Source) (cycles : ℕ) (times : List Time) (text : List ℕ) : Type 0 where
  pub within : AreWithin (limits (Sim cycles times)) (text ∷ [])
  pub can : CanBeDone (Sim cycles times) (text ∷ [])
  pub answer : IsText (Sim cycles times) Done (text ∷ []) (function_levels s cycles times)
  pub no_other : (answer : List ℕ) → IsText (Sim cycles times) Done (text ∷ []) answer → answer ≡ function_levels s cycles times
