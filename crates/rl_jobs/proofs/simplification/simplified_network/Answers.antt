use Rattle.std.proofs.Common.{◌≡◌, ◌∙◌, ◌+◌, ℕ, List, length, map, ap, subst, sym}
use Rattle.net_model.specs.Rules.{names_of}
use Rattle.term_store.specs.declared.node.Node.{Node}
use Rattle.term_store.specs.declared.node.Term.{Term}
use Rattle.term_store.specs.Compacted.{reached_trees}
use Rattle.term_store.specs.Extracted.{extracted}
use Rattle.term_store.specs.Subterms.{AreNetworkTerms, join_count, delay_count}
use Rattle.term_store.specs.Terms.{input_trees, let_trees, network_trees}
use Rattle.term_store.specs.Tree.{Tree, value}
use Rattle.term_store.specs.Trees.{plant, trees_at}
use Rattle.simplify.specs.Simplified.{simplified}
use Rattle.rl_jobs.proofs.SimpleNetwork.{AreStages, places_terms, one_for_each, simplified_is}
use Rattle.rl_jobs.proofs.simplification.simplified_network.Goals as goal

pub extract-requires-clause-one_name : goal.extract-requires-clause-one_name
extract-requires-clause-one_name c =
    let n = c.args.n.now in
    let built = c.build.new.self.nodes in
    let later = c.simplify.new.store.nodes in
    let left = c.compact.new.self.nodes in
    let roots = c.in_ok-roots.roots.items in
    let simple = c.in_ok-simple.simple.items in
    let places = c.in_ok-places.places.items in
    let first = c.deref.ensures.value in
    let second = c.deref-2.ensures.value in
    let stages : AreStages n built later left roots simple places = record {
      is_built = c.rules-2.ensures.rules;
      built_is = c.in_ok-roots.ensures.nodes ∙ ap (λ (ns : List Node). plant (plant (plant ns (input_trees (length n.inputs))) (let_trees n.lets)) (network_trees n)) c.in_ok-store.ensures.empty;
      roots_within = c.in_ok-roots.ensures.within;
      roots_are = c.in_ok-roots.ensures.terms;
      is_later = c.rules-3.ensures.rules;
      later_is = c.in_ok-simple.ensures.nodes ∙ ap (λ (rs : List Term). plant built (map simplified (reached_trees built rs))) first;
      simple_within = c.in_ok-simple.ensures.within;
      simple_are = c.in_ok-simple.ensures.terms ∙ ap (λ (rs : List Term). map simplified (trees_at built rs)) first;
      is_left = c.rules-4.ensures.rules;
      left_is = c.in_ok-places.ensures.nodes ∙ ap (reached_trees later) second;
      places_within = c.in_ok-places.ensures.within;
      places_are = c.in_ok-places.ensures.terms ∙ ap (trees_at later) second;
    } in
    ap length (c.deref-4.ensures.value ∙ c.in_ok-outputs.ensures.names ∙ ap names_of c.outputs.ensures) ∙ one_for_each n built later left roots simple places stages ∙ ap length (sym c.deref-3.ensures.value)

pub extract-requires-clause-terms : goal.extract-requires-clause-terms
extract-requires-clause-terms c =
    let n = c.args.n.now in
    let built = c.build.new.self.nodes in
    let later = c.simplify.new.store.nodes in
    let left = c.compact.new.self.nodes in
    let roots = c.in_ok-roots.roots.items in
    let simple = c.in_ok-simple.simple.items in
    let places = c.in_ok-places.places.items in
    let first = c.deref.ensures.value in
    let second = c.deref-2.ensures.value in
    let stages : AreStages n built later left roots simple places = record {
      is_built = c.rules-2.ensures.rules;
      built_is = c.in_ok-roots.ensures.nodes ∙ ap (λ (ns : List Node). plant (plant (plant ns (input_trees (length n.inputs))) (let_trees n.lets)) (network_trees n)) c.in_ok-store.ensures.empty;
      roots_within = c.in_ok-roots.ensures.within;
      roots_are = c.in_ok-roots.ensures.terms;
      is_later = c.rules-3.ensures.rules;
      later_is = c.in_ok-simple.ensures.nodes ∙ ap (λ (rs : List Term). plant built (map simplified (reached_trees built rs))) first;
      simple_within = c.in_ok-simple.ensures.within;
      simple_are = c.in_ok-simple.ensures.terms ∙ ap (λ (rs : List Term). map simplified (trees_at built rs)) first;
      is_left = c.rules-4.ensures.rules;
      left_is = c.in_ok-places.ensures.nodes ∙ ap (reached_trees later) second;
      places_within = c.in_ok-places.ensures.within;
      places_are = c.in_ok-places.ensures.terms ∙ ap (trees_at later) second;
    } in
    let terms : trees_at left c.deref-3.result.now ≡ map simplified (network_trees n) = ap (trees_at left) c.deref-3.ensures.value ∙ places_terms n built later left roots simple places stages in
    subst (λ (ts : List Tree). AreNetworkTerms (length c.inputs.result.now) ts) (sym terms)
    (c.simplified_terms_are_few.ensures.network_terms (length c.inputs.result.now) (network_trees n)
    (subst (λ (ins : List (List ℕ)). AreNetworkTerms (length ins) (network_trees n)) (sym c.inputs.ensures) (c.network_terms_are_few.ensures.law n c.rules.ensures)))

pub returns : goal.returns
returns c =
    let n = c.args.n.now in
    let built = c.build.new.self.nodes in
    let later = c.simplify.new.store.nodes in
    let left = c.compact.new.self.nodes in
    let roots = c.in_ok-roots.roots.items in
    let simple = c.in_ok-simple.simple.items in
    let places = c.in_ok-places.places.items in
    let first = c.deref.ensures.value in
    let second = c.deref-2.ensures.value in
    let stages : AreStages n built later left roots simple places = record {
      is_built = c.rules-2.ensures.rules;
      built_is = c.in_ok-roots.ensures.nodes ∙ ap (λ (ns : List Node). plant (plant (plant ns (input_trees (length n.inputs))) (let_trees n.lets)) (network_trees n)) c.in_ok-store.ensures.empty;
      roots_within = c.in_ok-roots.ensures.within;
      roots_are = c.in_ok-roots.ensures.terms;
      is_later = c.rules-3.ensures.rules;
      later_is = c.in_ok-simple.ensures.nodes ∙ ap (λ (rs : List Term). plant built (map simplified (reached_trees built rs))) first;
      simple_within = c.in_ok-simple.ensures.within;
      simple_are = c.in_ok-simple.ensures.terms ∙ ap (λ (rs : List Term). map simplified (trees_at built rs)) first;
      is_left = c.rules-4.ensures.rules;
      left_is = c.in_ok-places.ensures.nodes ∙ ap (reached_trees later) second;
      places_within = c.in_ok-places.ensures.within;
      places_are = c.in_ok-places.ensures.terms ∙ ap (trees_at later) second;
    } in
    let m = c.in_ok-network.network in
    let out = c.in_ok-network.ensures in
    let third = c.deref-3.ensures.value in
    let names = c.deref-4.ensures.value ∙ c.in_ok-outputs.ensures.names ∙ ap names_of c.outputs.ensures in
    let is : m ≡ extracted left places n.inputs (names_of n.outputs) =
    out.network ∙ ap (λ (ps : List Term). extracted left ps c.inputs.result.now c.deref-4.result.now) third ∙ ap (λ (ins : List (List ℕ)). extracted left places ins c.deref-4.result.now) c.inputs.ensures
    ∙ ap (extracted left places n.inputs) names in
    record {
      network = simplified_is (record { values = c.terms_have_the_networks_values.ensures.law; joins = c.simplified_terms_are_few.ensures.joins; delays = c.simplified_terms_are_few.ensures.delays })
          n m built later left roots simple places stages is (out.inputs ∙ c.inputs.ensures) (out.outputs ∙ names) (out.terms ∙ ap (trees_at left) third)
          (out.lets ∙ ap (λ (ps : List Term). join_count (trees_at left ps) + delay_count (trees_at left ps)) third)
          c.in_ok-simple.ensures.reduced
          (λ x. c.in_ok-simple.ensures.values x ∙ ap (λ (rs : List Term). map (value x) (trees_at built rs)) first);
    }
