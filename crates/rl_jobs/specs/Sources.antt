-- What the bytes of a file spell, and why they don't.
use Rattle.std.specs.Prelude.{◌≡◌, ◌⊎◌, ℕ, List, [], ◌∷◌, codes}
use Rattle.rl_time.specs.declared.time.Time.{Time}
use Rattle.rl_text.specs.declared.token.Style.TheVariants as style
use Rattle.rl_text.specs.declared.token.Kind.TheVariants as kind
use Rattle.rl_text.specs.Lines.{Word}
use Rattle.rl_text.specs.First.{BeginsWith}
use Rattle.net_lang.specs.declared.reader.rules.Rule.{Rule}
use Rattle.net_lang.specs.Outcome as net
use Rattle.net_model.specs.Rules.{IsNetwork, names_of}
use Rattle.net_lang.specs.Spelling.{SpellsNetwork}
use Rattle.net_model.specs.Value.{space_time_function}
use Rattle.func_table.specs.declared.reader.rules.Rule.{Rule as TableRule}
use Rattle.func_table.specs.Function.{table_function}
use Rattle.func_table.specs.Outcome as table
use Rattle.func_table.specs.Rules.{IsTable}
use Rattle.func_table.specs.Sound.{AreSound}
use Rattle.func_table.specs.Spelling.{SpellsTable}
use Rattle.func_table.specs.Table.{Table}
use Rattle.causality.specs.declared.fault.RowFault.{RowFault}
use Rattle.causality.specs.Faults.{IsRowFault}
use Rattle.term_store.specs.Terms.{network_trees}
use Rattle.term_store.specs.Tree.{Tree}
use Rattle.minterm.specs.Minterms.{synthesised}
use Rattle.rl_jobs.specs.declared.fault.Fault.{Fault}
use Rattle.rl_jobs.specs.declared.fault.Fault.TheVariants as fault
use Rattle.rl_jobs.specs.declared.error.JobError.{JobError}
use Rattle.rl_jobs.specs.declared.error.JobError.TheVariants as why
use Rattle.rl_jobs.specs.declared.source.Source.{Source}
use Rattle.rl_jobs.specs.declared.source.Source.TheVariants.{OfNetwork, OfTable}

-- the word `racetable`
abbrev pub table_word : Word
table_word = record { kind = kind.Name; bytes = codes "racetable" }

-- the text's first word is `racetable`, and no bad byte is before its end
abbrev pub IsTableText : List ℕ → Type 0
IsTableText bytes = BeginsWith style.Race bytes table_word

-- ---- networks

-- The bytes of the file of this number spell no network: the fault is the rule that they break first, and its line. A bad byte breaks
-- the syntax before all else.
abbrev pub IsNoNetwork : ℕ → List ℕ → Fault → Type 0
IsNoNetwork file bytes f = (r : Rule) × (line : ℕ) × (f ≡ fault.Network file r line) × net.IsCause bytes (net.error_of r line)

-- ---- tables

-- the bytes spell a table, and its rows are sound
abbrev pub SpellsSoundTable : List ℕ → Table → Type 0
SpellsSoundTable bytes t = SpellsTable bytes t × AreSound t.rows

-- the bytes of the file of this number spell no table: the fault is the rule that they break first, and its line
abbrev pub BreaksTable : ℕ → List ℕ → Fault → Type 0
BreaksTable file bytes f = (r : TableRule) × (line : ℕ) × (f ≡ fault.Table file r line) × table.IsCause bytes (table.error_of r line)

-- the rows of this file's table aren't sound: the fault is the first one of the rows
abbrev pub HasBadRows : ℕ → Table → Fault → Type 0
HasBadRows file t f = (w : RowFault) × (f ≡ fault.Rows file w) × IsRowFault t.rows w

-- the bytes of the file of this number spell no table of sound rows
abbrev pub IsNoTable : ℕ → List ℕ → Fault → Type 0
IsNoTable file bytes f = BreaksTable file bytes f ⊎ ((t : Table) × SpellsTable bytes t × HasBadRows file t f)

-- ---- networks or tables, by the first word

abbrev pub SpellsSource : List ℕ → Source → Type 0
SpellsSource bytes (OfNetwork n) = (IsTableText bytes → ⊥) × SpellsNetwork bytes n
SpellsSource bytes (OfTable t) = IsTableText bytes × SpellsSoundTable bytes t

-- the bytes of the file of this number spell neither a network nor a table of sound rows
abbrev pub IsNoSource : ℕ → List ℕ → Fault → Type 0
IsNoSource file bytes f = ((IsTableText bytes → ⊥) × IsNoNetwork file bytes f) ⊎ (IsTableText bytes × IsNoTable file bytes f)

-- the names of the inputs, in order
abbrev pub inputs_of : Source → List (List ℕ)
inputs_of (OfNetwork n) = n.inputs
inputs_of (OfTable t) = t.inputs

-- the names of the outputs, in order
abbrev pub outputs_of : Source → List (List ℕ)
outputs_of (OfNetwork n) = names_of n.outputs
outputs_of (OfTable t) = t.output ∷ []

-- the times of the outputs at times of the inputs
abbrev pub function_of : Source → List Time → List Time
function_of (OfNetwork n) x = space_time_function n x
function_of (OfTable t) x = table_function t.rows x ∷ []

-- the terms of the outputs
abbrev pub terms_of : Source → List Tree
terms_of (OfNetwork n) = network_trees n
terms_of (OfTable t) = synthesised t ∷ []

-- where the source is a table, its rows are sound
abbrev pub IsSound : Source → Type 0
IsSound (OfNetwork n) = Unit {0}
IsSound (OfTable t) = AreSound t.rows

-- the source keeps the rules of networks, or those of tables
abbrev pub IsRuled : Source → Type 0
IsRuled (OfNetwork n) = IsNetwork n
IsRuled (OfTable t) = IsTable t

-- ---- jobs

-- the job is refused for such a fault, or memory ran out
abbrev pub FailsBy : (Fault → Type 0) → JobError → Type 0
FailsBy IsBad (why.Refused f) = IsBad f
FailsBy IsBad why.NoMemory = Unit {0}
