-- The simplified network of a network is what was read out of the last store.
use Rattle.std.proofs.Common.{◌≡◌, ℕ, ◌<◌, ◌≤◌, ◌+◌, List, length, map, sym, ◌∙◌, ap, subst, arith}
use Rattle.std.specs.List.{All, AllByRecursion}
use Rattle.std.proofs.lemmas.List.{length-map}
use Rattle.rl_time.specs.declared.time.Time.{Time}
use Rattle.net_model.specs.Formula.{Net, Equation}
use Rattle.net_model.specs.Rules.{names_of}
use Rattle.term_store.specs.declared.node.Node.{Node}
use Rattle.term_store.specs.declared.node.Term.{Term}
use Rattle.term_store.specs.Compacted.{reached_trees}
use Rattle.term_store.specs.Extracted.{extracted}
use Rattle.term_store.specs.Laws.{HaveItsValues}
use Rattle.term_store.specs.Nodes.{IsNodes}
use Rattle.term_store.specs.Subterms.{join_count, delay_count, AreNetworkTerms}
use Rattle.term_store.specs.Terms.{network_trees, tree_over, let_trees}
use Rattle.term_store.specs.Tree.{Tree, value}
use Rattle.term_store.specs.Trees.{plant, tree, trees, trees_at}
use Rattle.gate_lower.specs.Networks.{planted}
use Rattle.simplify.specs.Laws.{IsReduced}
use Rattle.simplify.specs.Simplified.{simplified}
use Rattle.rl_jobs.specs.Simplification.{HasOrder, IsSimplified}

-- the stores of a network: as it was built, once its terms were simplified, and with nothing but these
pub record AreStages (n : Net) (built later left : List Node) (roots simple places : List Term) : Type 0 where
  pub is_built : IsNodes built
  pub built_is : built ≡ planted n
  pub roots_within : All (λ r. r.0 < length built) roots
  pub roots_are : trees_at built roots ≡ network_trees n
  pub is_later : IsNodes later
  pub later_is : later ≡ plant built (map simplified (reached_trees built roots))
  pub simple_within : All (λ r. r.0 < length later) simple
  pub simple_are : trees_at later simple ≡ map simplified (trees_at built roots)
  pub is_left : IsNodes left
  pub left_is : trees left ≡ reached_trees later simple
  pub places_within : All (λ r. r.0 < length left) places
  pub places_are : trees_at left places ≡ trees_at later simple

pub places_terms : (n : Net) (built later left : List Node) (roots simple places : List Term) → AreStages n built later left roots simple places → trees_at left places ≡ map simplified (network_trees n)
places_terms n built later left roots simple places s = s.places_are ∙ s.simple_are ∙ ap (map simplified) s.roots_are

pub one_for_each : (n : Net) (built later left : List Node) (roots simple places : List Term) → AreStages n built later left roots simple places → length (names_of n.outputs) ≡ length places
one_for_each n built later left roots simple places s =
    length-map n.outputs (λ (e : Equation). e.name)
    ∙ sym (length-map n.outputs (λ (e : Equation). tree_over (let_trees n.lets) e.body))
    ∙ sym (length-map (network_trees n) simplified)
    ∙ sym (ap length (places_terms n built later left roots simple places s))
    ∙ length-map places (λ (t : Term). tree left t.0)

order_is : (n m : Net) (built later left : List Node) (roots simple places : List Term) → AreStages n built later left roots simple places → m ≡ extracted left places n.inputs (names_of n.outputs) → HasOrder n m
order_is n m built later left roots simple places s e = record {
  is_store = subst IsNodes s.built_is s.is_built;
  roots = roots;
  within = subst (λ (ns : List Node). All (λ r. r.0 < length ns) roots) s.built_is s.roots_within;
  roots_are = subst (λ (ns : List Node). trees_at ns roots ≡ network_trees n) s.built_is s.roots_are;
  later = later;
  is_later = s.is_later;
  later_is = s.later_is ∙ ap (λ (ns : List Node). plant ns (map simplified (reached_trees ns roots))) s.built_is;
  simple = simple;
  simple_within = s.simple_within;
  simple_are = s.simple_are ∙ ap (map simplified) s.roots_are;
  left = left;
  is_left = s.is_left;
  left_is = s.left_is;
  places = places;
  places_within = s.places_within;
  places_are = places_terms n built later left roots simple places s;
  network_is = e;
}

-- what the laws of terms say of it
pub record TermLaws : Type 0 where
  pub values : (n : Net) → HaveItsValues n
  pub joins : (ts : List Tree) → join_count (map simplified ts) ≤ join_count ts
  pub delays : (ts : List Tree) → delay_count (map simplified ts) ≤ delay_count ts

pub simplified_is : TermLaws → (n m : Net) (built later left : List Node) (roots simple places : List Term) → AreStages n built later left roots simple places
    → m ≡ extracted left places n.inputs (names_of n.outputs) → m.inputs ≡ n.inputs → names_of m.outputs ≡ names_of n.outputs → network_trees m ≡ trees_at left places
    → length m.lets ≡ join_count (trees_at left places) + delay_count (trees_at left places) → AllByRecursion IsReduced (trees_at later simple)
    → ((x : List Time) → map (value x) (trees_at later simple) ≡ map (value x) (trees_at built roots)) → IsSimplified n m
simplified_is laws n m built later left roots simple places s e ins outs terms lets reduced times =
    let is : network_trees m ≡ map simplified (network_trees n) = terms ∙ places_terms n built later left roots simple places s in
    let own : network_trees m ≡ trees_at later simple = terms ∙ s.places_are in
    record {
      inputs_are = ins;
      outputs_are = outs;
      function_is = λ x. sym (laws.values m x) ∙ ap (map (value x)) own ∙ times x ∙ ap (map (value x)) s.roots_are ∙ laws.values n x;
      terms_are = is;
      reduced = subst (AllByRecursion IsReduced) (sym own) reduced;
      one_let_for_each = lets ∙ ap (λ ts. join_count ts + delay_count ts) (sym terms);
      no_more_joins = omega (arith, ap join_count is, laws.joins (network_trees n));
      no_more_delays = omega (arith, ap delay_count is, laws.delays (network_trees n));
      order = order_is n m built later left roots simple places s e;
    }
