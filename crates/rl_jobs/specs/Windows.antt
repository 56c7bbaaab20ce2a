-- The table of a network's output within a window.
use Rattle.std.specs.Prelude.{◌≡◌, ◌≤◌, ◌⊎◌, ℕ, List, length, All, Option, Some, None}
use Rattle.std.specs.List.{position}
use Rattle.std.specs.Str.{bytes_eq}
use Rattle.rl_time.specs.declared.time.Time.{Time}
use Rattle.net_model.specs.Formula.{Net}
use Rattle.net_lang.specs.Spelling.{SpellsNetwork}
use Rattle.spike_eval.specs.Outputs.{output_function}
use Rattle.func_table.specs.Function.{table_function}
use Rattle.func_table.specs.Sound.{AreSound}
use Rattle.func_table.specs.Spelling.{SpellsTable}
use Rattle.func_table.specs.Table.{Table}
use Rattle.func_table.specs.Text.{table_text}
use Rattle.causality.specs.declared.fault.TabError.TheVariants as error
use Rattle.causality.specs.Window.{window_lists, window_rows, IsInReach, IsCause}
use Rattle.rl_jobs.specs.declared.fault.Fault.{Fault}
use Rattle.rl_jobs.specs.declared.fault.Fault.TheVariants as fault
use Rattle.rl_jobs.specs.Sources.{IsNoNetwork}

-- the place of the output of this name, from 0
abbrev pub output_place : List ℕ → Net → Option ℕ
output_place name n = position (λ e. bytes_eq e.name name) n.outputs

-- The table of a network's output of this name on times up to the window's last: the network's inputs, this output, and the row of each
-- list of such times at which the output is a number, once, in the order of the walk. At every list of the window it has the
-- network's value.
pub record IsWindowTable (name : List ℕ) (window : ℕ) (n : Net) (t : Table) : Type 0 where
  pub place : ℕ
  pub named : output_place name n ≡ Some place
  pub inputs_are : t.inputs ≡ n.inputs
  pub output_is : t.output ≡ name
  pub rows_are : t.rows ≡ window_rows (output_function n place) window (length n.inputs)
  pub in_reach : IsInReach (output_function n place) window (length n.inputs)
  pub few : length t.rows ≤ 256
  pub sound : AreSound t.rows
  pub values : All (λ v. table_function t.rows v ≡ output_function n place v) (window_lists window (length n.inputs))

-- an output has this name, the window has at most 65,536 lists of times and 256 rows, and no value is greater than 255
abbrev pub CanBeWritten : List ℕ → ℕ → Net → Type 0
CanBeWritten name window n =
    (k : ℕ) × (output_place name n ≡ Some k) × IsInReach (output_function n k) window (length n.inputs)
    × (length (window_rows (output_function n k) window (length n.inputs)) ≤ 256)

-- a function of so many times has no table within the window, and the fault says why
abbrev pub HasNoTable : (List Time → Time) → ℕ → ℕ → Fault → Type 0
HasNoTable f window inputs (fault.TooWide w) = (w ≡ window) × IsCause f window inputs error.TooWide
HasNoTable f window inputs (fault.TooLate y) = IsCause f window inputs (error.TooLate y)
HasNoTable f window inputs fault.TooManyRows = IsCause f window inputs error.TooManyRows
HasNoTable f window inputs _ = ⊥

-- no output has this name, or the one that has it has no table within the window
abbrev pub CannotBeWritten : List ℕ → ℕ → Net → Fault → Type 0
CannotBeWritten name window n f =
    ((f ≡ fault.NoOutput) × (output_place name n ≡ None))
    ⊎ ((k : ℕ) × (output_place name n ≡ Some k) × HasNoTable (output_function n k) window (length n.inputs) f)

-- the bytes spell a network, and the text is the printing of the table of its output of this name, which it spells
pub record IsWindowText (name : List ℕ) (window : ℕ) (bytes text : List ℕ) : Type 0 where
  pub network : Net
  pub read : SpellsNetwork bytes network
  pub table : Table
  pub is : IsWindowTable name window network table
  pub written : text ≡ table_text table
  pub spells : SpellsTable text table

-- the bytes spell a network, whose output of this name has a table within the window
abbrev pub CanBeTabulated : List ℕ → ℕ → List ℕ → Type 0
CanBeTabulated name window bytes = (n : Net) × SpellsNetwork bytes n × CanBeWritten name window n

-- the bytes spell no network, or one without such a table
abbrev pub IsNotTabulated : List ℕ → ℕ → List ℕ → Fault → Type 0
IsNotTabulated name window bytes f = IsNoNetwork 1 bytes f ⊎ ((n : Net) × SpellsNetwork bytes n × CannotBeWritten name window n f)
