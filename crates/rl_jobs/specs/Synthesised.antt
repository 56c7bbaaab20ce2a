-- The network of a table.
use Rattle.std.specs.Prelude.{◌≡◌, ℕ, ◌<◌, ◌+◌, List, [], ◌∷◌, length}
use Rattle.rl_time.specs.declared.time.Time.{Time}
use Rattle.net_model.specs.Formula.{Net}
use Rattle.net_lang.specs.Spelling.{SpellsNetwork}
use Rattle.net_model.specs.Text.{network_text}
use Rattle.net_model.specs.Value.{space_time_function}
use Rattle.func_table.specs.Function.{table_function}
use Rattle.func_table.specs.Table.{Table}
use Rattle.term_store.specs.declared.node.Term.{Term}
use Rattle.term_store.specs.Extracted.{extracted}
use Rattle.term_store.specs.Nodes.{IsNodes}
use Rattle.term_store.specs.Subterms.{join_count, delay_count}
use Rattle.term_store.specs.Trees.{plant, trees_at}
use Rattle.minterm.specs.Minterms.{synthesised, table_terms}
use Rattle.rl_jobs.specs.declared.fault.Fault.{Fault}
use Rattle.rl_jobs.specs.Sources.{SpellsSoundTable, IsNoTable}

-- The network of a table: each min, max, lt and inc of its term is a let, in the order in which they are planted. It has the names of
-- the table, and at all times, of one for each input, the table's value. The term is at one place of the store, so that a table has one
-- network.
pub record IsSynthesised (t : Table) (n : Net) : Type 0 where
  pub root : Term
  pub is_store : IsNodes (plant [] (table_terms t))
  pub within : root.0 < length (plant [] (table_terms t))
  pub root_is : trees_at (plant [] (table_terms t)) (root ∷ []) ≡ synthesised t ∷ []
  pub network_is : n ≡ extracted (plant [] (table_terms t)) (root ∷ []) t.inputs (t.output ∷ [])
  pub one_let_for_each : length n.lets ≡ join_count (synthesised t ∷ []) + delay_count (synthesised t ∷ [])
  pub values : (x : List Time) → length x ≡ length t.inputs → space_time_function n x ≡ table_function t.rows x ∷ []

-- the bytes spell a table of sound rows, and the text is the printing of its network, which it spells
pub record IsSynthesisText (bytes text : List ℕ) : Type 0 where
  pub table : Table
  pub read : SpellsSoundTable bytes table
  pub network : Net
  pub is : IsSynthesised table network
  pub written : text ≡ network_text network
  pub spells : SpellsNetwork text network

-- the bytes spell a table of sound rows
abbrev pub CanBeSynthesised : List ℕ → Type 0
CanBeSynthesised bytes = (t : Table) × SpellsSoundTable bytes t

-- the bytes spell no table of sound rows
abbrev pub IsNotSynthesised : List ℕ → Fault → Type 0
IsNotSynthesised bytes f = IsNoTable 1 bytes f
