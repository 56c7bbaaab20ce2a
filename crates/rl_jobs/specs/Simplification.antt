-- The simplified network of a network.
use Rattle.std.specs.Prelude.{◌≡◌, ℕ, ◌<◌, ◌≤◌, ◌+◌, List, [], map, length}
use Rattle.std.specs.List.{All, AllByRecursion}
use Rattle.rl_time.specs.declared.time.Time.{Time}
use Rattle.net_model.specs.Formula.{Net}
use Rattle.net_model.specs.Rules.{names_of}
use Rattle.net_model.specs.Text.{network_text}
use Rattle.net_model.specs.Value.{space_time_function}
use Rattle.net_lang.specs.Spelling.{SpellsNetwork}
use Rattle.term_store.specs.declared.node.Node.{Node}
use Rattle.term_store.specs.declared.node.Term.{Term}
use Rattle.term_store.specs.Compacted.{reached_trees}
use Rattle.term_store.specs.Extracted.{extracted}
use Rattle.term_store.specs.Nodes.{IsNodes}
use Rattle.term_store.specs.Subterms.{join_count, delay_count}
use Rattle.term_store.specs.Terms.{network_trees}
use Rattle.term_store.specs.Trees.{plant, trees, trees_at}
use Rattle.gate_lower.specs.Networks.{planted}
use Rattle.simplify.specs.Laws.{IsReduced}
use Rattle.simplify.specs.Simplified.{simplified}
use Rattle.rl_jobs.specs.declared.fault.Fault.{Fault}
use Rattle.rl_jobs.specs.Sources.{IsNoNetwork}

-- The order of the lets: each term that the outputs reach is simplified and planted, in the order of the network's terms, and then the
-- terms of the simplified outputs are taken, in the order in which they were planted. No two places of a store have the same term, so
-- that a network has one such order.
pub record HasOrder (n m : Net) : Type 0 where
  pub is_store : IsNodes (planted n)
  pub roots : List Term
  pub within : All (λ r. r.0 < length (planted n)) roots
  pub roots_are : trees_at (planted n) roots ≡ network_trees n
  pub later : List Node
  pub is_later : IsNodes later
  pub later_is : later ≡ plant (planted n) (map simplified (reached_trees (planted n) roots))
  pub simple : List Term
  pub simple_within : All (λ r. r.0 < length later) simple
  pub simple_are : trees_at later simple ≡ map simplified (network_trees n)
  pub left : List Node
  pub is_left : IsNodes left
  pub left_is : trees left ≡ reached_trees later simple
  pub places : List Term
  pub places_within : All (λ r. r.0 < length left) places
  pub places_are : trees_at left places ≡ map simplified (network_trees n)
  pub network_is : m ≡ extracted left places n.inputs (names_of n.outputs)

-- The simplified network of a network: it has the same names and, at all times, the same function; the terms of its outputs are the
-- simplified ones, which are reduced; each of their distinct min, max, lt and inc is one let, and these are no more than the network has.
pub record IsSimplified (n m : Net) : Type 0 where
  pub inputs_are : m.inputs ≡ n.inputs
  pub outputs_are : names_of m.outputs ≡ names_of n.outputs
  pub function_is : (x : List Time) → space_time_function m x ≡ space_time_function n x
  pub terms_are : network_trees m ≡ map simplified (network_trees n)
  pub reduced : AllByRecursion IsReduced (network_trees m)
  pub one_let_for_each : length m.lets ≡ join_count (network_trees m) + delay_count (network_trees m)
  pub no_more_joins : join_count (network_trees m) ≤ join_count (network_trees n)
  pub no_more_delays : delay_count (network_trees m) ≤ delay_count (network_trees n)
  pub order : HasOrder n m

-- the bytes spell a network, and the text is the printing of its simplified network, which it spells
pub record IsSimplifiedText (bytes text : List ℕ) : Type 0 where
  pub network : Net
  pub read : SpellsNetwork bytes network
  pub simple : Net
  pub is : IsSimplified network simple
  pub written : text ≡ network_text simple
  pub spells : SpellsNetwork text simple

-- the bytes spell a network
abbrev pub CanBeSimplified : List ℕ → Type 0
CanBeSimplified bytes = (n : Net) × SpellsNetwork bytes n

-- the bytes spell no network
abbrev pub IsNotSimplified : List ℕ → Fault → Type 0
IsNotSimplified bytes f = IsNoNetwork 1 bytes f
