-- The values of a source's outputs, as they are written.
use Rattle.std.specs.Prelude.{◌≡◌, ◌≢◌, ◌⊎◌, ℕ, List, [], ◌∷◌, ◌++◌, length, codes}
use Rattle.rl_time.specs.declared.time.Time.{Time}
use Rattle.rl_time.specs.Text.{time_text}
use Rattle.rl_jobs.specs.declared.fault.Fault.{Fault}
use Rattle.rl_jobs.specs.declared.fault.Fault.TheVariants as fault
use Rattle.rl_jobs.specs.declared.source.Source.{Source}
use Rattle.rl_jobs.specs.Sources.{SpellsSource, IsNoSource, inputs_of, outputs_of, function_of}

-- a line for an output: its name, a space, its time
abbrev pub value_line : List ℕ → Time → List ℕ
value_line name t = name ++ codes " " ++ time_text t ++ codes "\n"

-- the lines of outputs of these names at these times, in order
abbrev pub value_lines : List (List ℕ) → List Time → List ℕ
value_lines [] times = []
value_lines (name ∷ names) [] = []
value_lines (name ∷ names) (t ∷ times) = value_line name t ++ value_lines names times

-- the bytes spell a source of as many inputs as there are times, and the text has the time of each output, by the source's
-- function
pub record IsValueText (times : List Time) (bytes text : List ℕ) : Type 0 where
  pub source : Source
  pub read : SpellsSource bytes source
  pub one_for_each_input : length times ≡ length (inputs_of source)
  pub written : text ≡ value_lines (outputs_of source) (function_of source times)

-- the bytes spell a source of as many inputs as there are times
abbrev pub CanBeValued : List Time → List ℕ → Type 0
CanBeValued times bytes = (s : Source) × SpellsSource bytes s × (length times ≡ length (inputs_of s))

-- the source has another number of inputs, which the fault holds
abbrev pub HasOtherInputs : List Time → Source → Fault → Type 0
HasOtherInputs times s f = (f ≡ fault.Inputs (length (inputs_of s))) × (length (inputs_of s) ≢ length times)

-- the bytes spell no source, or one of another number of inputs
abbrev pub IsNotValued : List Time → List ℕ → Fault → Type 0
IsNotValued times bytes f = IsNoSource 1 bytes f ⊎ ((s : Source) × SpellsSource bytes s × HasOtherInputs times s f)
