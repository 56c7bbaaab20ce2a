-- What it is to compile a source rightly.
use Rattle.std.specs.Prelude.{◌≡◌, ◌⊎◌, ℕ, ◌<◌, ◌≤◌, List, [], map, length}
use Rattle.std.specs.List.{All}
use Rattle.rl_time.specs.declared.time.Time.{Time}
use Rattle.term_store.specs.declared.node.Node.{Node}
use Rattle.term_store.specs.declared.node.Term.{Term}
use Rattle.term_store.specs.Nodes.{IsNodes}
use Rattle.term_store.specs.Tree.{Tree}
use Rattle.term_store.specs.Terms.{network_trees}
use Rattle.term_store.specs.Trees.{plant, trees_at}
use Rattle.term_store.specs.Subterms.{join_count, register_bits}
use Rattle.minterm.specs.Minterms.{table_terms}
use Rattle.circuit.specs.Circuit.{Circuit}
use Rattle.circuit.specs.Circuit as circuit
use Rattle.circuit.specs.Meaning.{State, IsHistory, HasOneHistory, levels_from}
use Rattle.circuit.specs.Repeats.{HasNoRepeatedGate}
use Rattle.verilog_text.specs.Spelling.{SpellsModule}
use Rattle.verilog_text.specs.Text.{module_text}
use Rattle.gate_lower.specs.Netlist.{Netlist}
use Rattle.gate_lower.specs.Lowered.{lowered}
use Rattle.gate_lower.specs.Tapped.{tapped_module}
use Rattle.gate_lower.specs.Networks.{planted}
use Rattle.rl_jobs.specs.declared.fault.Fault.{Fault}
use Rattle.rl_jobs.specs.declared.fault.Fault.TheVariants as fault
use Rattle.rl_jobs.specs.declared.source.Source.{Source}
use Rattle.rl_jobs.specs.declared.source.Source.TheVariants.{OfNetwork, OfTable}
use Rattle.rl_jobs.specs.Sources.{SpellsSource, IsNoSource, inputs_of, outputs_of, function_of, terms_of}

-- The module does what a source of this function of the input times says, whose outputs have these terms. Its ports have the names of
-- the source, in order. For all input times and every number of cycles after reset it has exactly one history, and in it the outputs
-- have in each cycle the levels of wires that rise at the times that the function gives, of one time for each input: output k is high
-- in cycle t exactly where its value is at most t. No gate and no delay register is there twice, each distinct min, max and lt of the
-- terms has one wire, and there are exactly the register bits that the terms need.
pub record Realises (inputs outputs : List (List ℕ)) (function : List Time → List Time) (trees : List Tree) (m : Circuit) : Type 0 where
  pub inputs_are : m.inputs ≡ inputs
  pub outputs_are : m.outputs ≡ outputs
  pub one_history : (x : List Time) (cycles : ℕ) → HasOneHistory m (levels_from x 0 cycles)
  pub levels : (x : List Time) (cycles : ℕ) (states : List State) → length x ≡ length inputs → IsHistory m (levels_from x 0 cycles) states →
      map (λ s. s.outs) states ≡ levels_from (function x) 0 cycles
  pub no_repeated_gate : HasNoRepeatedGate m
  pub wires : length m.wires ≡ join_count trees
  pub bits : circuit.register_bits m ≡ register_bits trees

-- the module does what the source says
abbrev pub RealisesSource : Source → Circuit → Type 0
RealisesSource s m = Realises (inputs_of s) (outputs_of s) (function_of s) (terms_of s) m

-- the nodes of a store in which the terms of the source were planted
abbrev pub planted_source : Source → List Node
planted_source (OfNetwork n) = planted n
planted_source (OfTable t) = plant [] (table_terms t)

-- The gates are those of the source's terms, which are at these roots of the store. No two places of it have the same term, so that a
-- source has one list of gates.
pub record AreSourceGates (s : Source) (g : Netlist) : Type 0 where
  pub roots : List Term
  pub is_store : IsNodes (planted_source s)
  pub within : All (λ r. r.0 < length (planted_source s)) roots
  pub roots_are : trees_at (planted_source s) roots ≡ terms_of s
  pub gates_are : g ≡ lowered (planted_source s) roots (inputs_of s) (outputs_of s)

-- the module of a source: that of its gates, with a shift register for each delay
pub record IsCompiled (s : Source) (m : Circuit) : Type 0 where
  pub gates : Netlist
  pub lowered : AreSourceGates s gates
  pub module_is : m ≡ tapped_module gates

-- the bytes spell a source that needs no more register bits than a module may have, and the text is that of its module, which does
-- what the source says; the text spells this module and no other, and it is no longer than a module's file may be
pub record IsModuleText (bytes text : List ℕ) : Type 0 where
  pub source : Source
  pub read : SpellsSource bytes source
  pub few : register_bits (terms_of source) ≤ 65536
  pub compiled : Circuit
  pub is : IsCompiled source compiled
  pub written : text ≡ module_text compiled
  pub spells : SpellsModule text compiled
  pub no_other : (m : Circuit) → SpellsModule text m → m ≡ compiled
  pub short : length text ≤ 16777216
  pub right : RealisesSource source compiled

-- where the source is a network, it needs no more register bits than a module may have; no table needs more, by `table_terms_are_few`
abbrev pub HasFewBits : Source → Type 0
HasFewBits (OfNetwork n) = register_bits (network_trees n) ≤ 65536
HasFewBits (OfTable t) = Unit {0}

-- the bytes spell a table of sound rows, or a network that needs no more register bits than a module may have
abbrev pub CanBeCompiled : List ℕ → Type 0
CanBeCompiled bytes = (s : Source) × SpellsSource bytes s × HasFewBits s

-- the source is a network that needs more register bits than a module may have, and the fault says how many
abbrev pub NeedsManyBits : Source → Fault → Type 0
NeedsManyBits (OfNetwork n) f = (f ≡ fault.TooManyBits (register_bits (network_trees n))) × (65536 < register_bits (network_trees n))
NeedsManyBits (OfTable t) f = ⊥

-- the bytes spell no source, or a network that needs more register bits than a module may have
abbrev pub IsNotCompiled : List ℕ → Fault → Type 0
IsNotCompiled bytes f = IsNoSource 1 bytes f ⊎ ((s : Source) × SpellsSource bytes s × NeedsManyBits s f)
