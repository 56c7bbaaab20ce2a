-- The levels of a module's outputs, as they are written.
use Rattle.std.specs.Prelude.{◌≡◌, ◌≢◌, ◌⊎◌, ℕ, List, [], ◌∷◌, ◌++◌, length, codes}
use Rattle.rl_time.specs.declared.time.Time.{Time}
use Rattle.verilog_text.specs.declared.rule.Rule.{Rule}
use Rattle.circuit.specs.Circuit.{Circuit}
use Rattle.circuit.specs.Meaning.{State, IsHistory, HasOneHistory, levels_from}
use Rattle.verilog_text.specs.Spelling.{SpellsModule, IsBroken}
use Rattle.levels.specs.Digits.{output_rows}
use Rattle.rl_jobs.specs.declared.fault.Fault.{Fault}
use Rattle.rl_jobs.specs.declared.fault.Fault.TheVariants as fault

-- a line for an output: its name, a space, a digit for each cycle
abbrev pub level_line : List ℕ → List ℕ → List ℕ
level_line name digits = name ++ codes " " ++ digits ++ codes "\n"

-- the lines of outputs of these names with these digits, in order
abbrev pub level_lines : List (List ℕ) → List (List ℕ) → List ℕ
level_lines [] rows = []
level_lines (name ∷ names) [] = []
level_lines (name ∷ names) (row ∷ rows) = level_line name row ++ level_lines names rows

-- The bytes spell a module of as many inputs as there are times, and the text has the levels of each output in the first cycles after
-- reset, where each input rises at its time: those of the states of the module's one history.
pub record IsLevelText (cycles : ℕ) (times : List Time) (bytes text : List ℕ) : Type 0 where
  pub circuit : Circuit
  pub read : SpellsModule bytes circuit
  pub one_for_each_input : length times ≡ length circuit.inputs
  pub states : List State
  pub history : IsHistory circuit (levels_from times 0 cycles) states
  pub no_other : HasOneHistory circuit (levels_from times 0 cycles)
  pub written : text ≡ level_lines circuit.outputs (output_rows (length circuit.outputs) states)

-- the bytes spell a module of as many inputs as there are times
abbrev pub CanBeSimulated : List Time → List ℕ → Type 0
CanBeSimulated times bytes = (m : Circuit) × SpellsModule bytes m × (length times ≡ length m.inputs)

-- the bytes spell no module: the fault is the rule that they break first, and its line
abbrev pub IsNoModule : List ℕ → Fault → Type 0
IsNoModule bytes f = (r : Rule) × (line : ℕ) × (f ≡ fault.Module 1 r line) × IsBroken bytes r line

-- the module has another number of inputs, which the fault holds
abbrev pub HasOtherPorts : List Time → Circuit → Fault → Type 0
HasOtherPorts times m f = (f ≡ fault.Inputs (length m.inputs)) × (length m.inputs ≢ length times)

-- the bytes spell no module, or one of another number of inputs
abbrev pub IsNotSimulated : List Time → List ℕ → Fault → Type 0
IsNotSimulated times bytes f = IsNoModule bytes f ⊎ ((m : Circuit) × SpellsModule bytes m × HasOtherPorts times m f)
