-- What an extracted network is.
use Rattle.std.proofs.Common.{◌≡◌, ℕ, ◌<◌, ◌≤◌, ◌+◌, refl, ap, subst, arith, sym, ◌∙◌, Bool, true, false, length, List, [], ◌∷◌, ◌++◌, map, append_assoc, ◌↔◌}
use Rattle.std.specs.List.{All, AllByRecursion, slice_index_or, list_all}
use Rattle.std.proofs.lemmas.List.Sums.{sum_by-append}
use Rattle.net_model.specs.Formula.{Equation, Net, net}
use Rattle.net_model.specs.Rules.{is_let_name, are_distinct, names_of, joins, delays, IsNetwork, IsOver, is_port_name}
use Rattle.term_store.specs.declared.node.Term.{Term}
use Rattle.term_store.specs.declared.node.Node.{Node}
use Rattle.term_store.specs.Tree.{Tree, Input, span}
use Rattle.term_store.specs.Terms.{tree_over, let_trees, network_trees}
use Rattle.term_store.specs.Subterms.{is_join, is_delay, all_subterms, join_count, delay_count, IsInputBelow, AreNetworkTerms}
use Rattle.term_store.specs.Nodes.{IsNodes}
use Rattle.term_store.specs.Trees.{node_tree, trees, tree, trees_at}
use Rattle.term_store.specs.Reach.{is_reached, IsReached}
use Rattle.term_store.specs.Ports.{ArePorts}
use Rattle.term_store.specs.Extracted.{let_places, let_number, lets_below, root_outputs, extracted}
use Rattle.term_store.specs.Extracting.{marked, numbered, let_numbers}
use Rattle.term_store.proofs.Distinct.{tree_is}
use Rattle.term_store.proofs.Parts.{or_left, or_right}
use Rattle.term_store.proofs.Marks.{least_closed}
use Rattle.term_store.proofs.FewTerms.{among_distinct}
use Rattle.term_store.proofs.TermValues.{spans_are}
use Rattle.term_store.proofs.Lets.{length_places, length_lets, numbers_at, number_agree, lets_agree, outputs_agree}
use Rattle.term_store.proofs.LetTrees.{lets_trees, outputs_trees, outputs_names}
use Rattle.term_store.proofs.LetRules.{ReachesInputs, lets_over, outputs_over, shallow, short_among, places_short, let_spans_are, spans_short, among_holds}
use Rattle.term_store.proofs.LetCounts.{lets_are, lets_joins, lets_delays, outputs_joins, outputs_delays, same_count}
use Rattle.term_store.proofs.LetNames.{names_are, names_valid, names_between, distinct_without}

-- the terms of its outputs are those of the roots
pub extracted_terms : (ns : List Node) (roots : List Term) (inputs outputs : List (List ℕ)) → IsNodes ns → All (λ t. t.0 < length ns) roots → length outputs ≡ length roots
    → network_trees (extracted ns roots inputs outputs) ≡ trees_at ns roots
extracted_terms ns roots inputs outputs s w len =
    let r = is_reached ns roots in
    let c = least_closed ns roots s w in
    ap (λ (ts : List Tree). map (λ (e : Equation). tree_over ts e.body) (root_outputs ns (let_number ns r) roots outputs)) (lets_trees ns r s c.has_operands (length ns) (omega arith))
    ∙ outputs_trees ns r roots outputs s len w c.has_roots

-- its outputs have the names
pub extracted_outputs : (ns : List Node) (roots : List Term) (outputs : List (List ℕ)) → length outputs ≡ length roots → names_of (root_outputs ns (let_number ns (is_reached ns roots)) roots outputs) ≡ outputs
extracted_outputs ns roots outputs len = outputs_names ns (let_number ns (is_reached ns roots)) roots outputs len

-- it has a let for each operator that the roots reach
pub extracted_lets : (ns : List Node) (roots : List Term) → IsNodes ns → All (λ t. t.0 < length ns) roots
    → length (lets_below ns (is_reached ns roots) (length ns)) ≡ join_count (trees_at ns roots) + delay_count (trees_at ns roots)
extracted_lets ns roots s w =
    let r = is_reached ns roots in
    omega (
      arith,
      length_lets ns r (length ns),
      lets_are ns r s (length ns) (omega arith),
      same_count ns roots is_join s w (λ t e. or_left (is_join t) (is_delay t) e),
      same_count ns roots is_delay s w (λ t e. or_right (is_join t) (is_delay t) e),
    )

input_below : (count i : ℕ) (t : Tree) → t ≡ Input i → IsInputBelow count t → i < count
input_below count i t e h = subst (IsInputBelow count) e h

reaches_inputs : (ns : List Node) (roots : List Term) (count : ℕ) → IsNodes ns → AreNetworkTerms count (trees_at ns roots) → ReachesInputs ns (is_reached ns roots) count
reaches_inputs ns roots count s rules place i h e at =
    let shape : tree ns place ≡ Input i = tree_is ns place s h ∙ ap (node_tree (trees ns)) at in
    input_below count i (tree ns place) shape (among_holds (IsInputBelow count) (tree ns place) _ rules.inputs (among_distinct (tree ns place) (all_subterms (trees_at ns roots)) e))

-- it keeps the rules of networks
pub extracted_is_network : (ns : List Node) (roots : List Term) (inputs outputs : List (List ℕ)) → IsNodes ns → All (λ t. t.0 < length ns) roots → length outputs ≡ length roots → ArePorts inputs outputs
    → AreNetworkTerms (length inputs) (trees_at ns roots) → IsNetwork (extracted ns roots inputs outputs)
extracted_is_network ns roots inputs outputs s w len ports terms =
    let r = is_reached ns roots in
    let f = let_number ns r in
    let c = least_closed ns roots s w in
    let reach = reaches_inputs ns roots (length inputs) s terms in
    let lets = lets_below ns r (length ns) in
    let outs = root_outputs ns f roots outputs in
    let few : f (length ns) ≤ 262144 = omega (arith, length_places ns r (length ns), s.few) in
    let names = names_are ns r (length ns) in
    let out_names = outputs_names ns f roots outputs len in
    let own_trees : let_trees lets ≡ map (tree ns) (let_places ns r (length ns)) = lets_trees ns r s c.has_operands (length ns) (omega arith) in
    let out_count : length outs ≡ length outputs = count_names outs outputs out_names in
    record {
      some_input = ports.some_input;
      few_inputs = ports.few_inputs;
      some_output = omega (arith, out_count, ports.some_output);
      few_outputs = omega (arith, out_count, ports.few_outputs);
      input_names = ports.input_names;
      let_names = ap (list_all is_let_name) names ∙ names_valid (f (length ns)) (omega (arith, few));
      output_names = ap (list_all is_port) out_names ∙ ports.output_names;
      distinct = ap are_distinct (append_assoc inputs (names_of lets) (names_of outs)) ∙ ap are_distinct (λ i. inputs ++ (names i ++ out_names i)) ∙ names_between inputs outputs (f (length ns)) (omega (arith, few)) ports.distinct ports.input_names ports.output_names;
      lets_over = lets_over ns r (length inputs) s c.has_operands reach (length ns) (omega arith);
      outputs_over = subst (λ k. AllByRecursion (λ e. IsOver (length inputs) k e.body) outs) (sym (length_lets ns r (length ns))) (outputs_over ns r (length inputs) roots outputs reach w c.has_roots);
      few_joins = omega (
        arith,
        sum_by-append (λ (e : Equation). joins e.body) lets outs,
        lets_joins ns r s (length ns) (omega arith),
        outputs_joins ns f roots outputs,
        same_count ns roots is_join s w (λ t e. or_left (is_join t) (is_delay t) e),
        terms.few_joins,
      );
      few_delays = omega (
        arith,
        sum_by-append (λ (e : Equation). delays e.body) lets outs,
        lets_delays ns r s (length ns) (omega arith),
        outputs_delays ns f roots outputs,
        same_count ns roots is_delay s w (λ t e. or_right (is_join t) (is_delay t) e),
        terms.few_delays,
      );
      shallow = shallow ns r f (let_places ns r (length ns)) roots outputs;
      short_lets = subst (AllByRecursion (λ s. s ≤ 1000000)) (ap (map span) (sym own_trees) ∙ let_spans_are lets) (places_short ns r (λ p e. short_among (tree ns p) (trees_at ns roots) terms.short e) (length ns));
      short_outputs = subst (AllByRecursion (λ s. s ≤ 1000000)) (ap (map span) (sym (extracted_terms ns roots inputs outputs s w len)) ∙ spans_are (extracted ns roots inputs outputs)) (spans_short (trees_at ns roots) terms.short);
    }
  where
    is_port : List ℕ → Bool
    is_port = is_port_name

    count_names : (es : List Equation) (xs : List (List ℕ)) → names_of es ≡ xs → length es ≡ length xs
    count_names es xs e = sym (mapped es) ∙ ap length e
      where
        mapped : (es : List Equation) → length (names_of es) ≡ length es
        mapped [] = refl
        mapped (e ∷ es) = omega (arith, mapped es)

-- what the code wrote, by the marks, is what is extracted

same_bool : (p q : Bool) → (p ≡ true → q ≡ true) → (q ≡ true → p ≡ true) → p ≡ q
same_bool true q f g = sym (f refl)
same_bool false true f g = g refl
same_bool false false f g = refl

pub marks_agree : (ns : List Node) (roots : List Term) (marks : List Bool) → ((place : ℕ) → place < length ns → (slice_index_or marks place false ≡ true) ↔ IsReached ns roots place)
    → (p : ℕ) → p < length ns → marked marks p ≡ is_reached ns roots p
marks_agree ns roots marks h p lt = same_bool (marked marks p) (is_reached ns roots p) (h p lt).0 (h p lt).1

pub written_is : (ns : List Node) (roots : List Term) (marks : List Bool) (numbers : List ℕ) (inputs names outputs : List (List ℕ)) (lets bindings : List Equation) → IsNodes ns → All (λ t. t.0 < length ns) roots
    → ((place : ℕ) → place < length ns → (slice_index_or marks place false ≡ true) ↔ IsReached ns roots place)
    → lets ≡ lets_below ns (marked marks) (length ns) → numbers ≡ let_numbers ns (marked marks) (length ns) → bindings ≡ root_outputs ns (numbered numbers) roots outputs → names ≡ inputs
    → net names lets bindings ≡ extracted ns roots inputs outputs
written_is ns roots marks numbers inputs names outputs lets bindings s w h el en eb ei =
    let agree = marks_agree ns roots marks h in
    let number : (p : ℕ) → p < length ns → numbered numbers p ≡ let_number ns (is_reached ns roots) p =
    λ p lt. ap (λ (xs : List ℕ). numbered xs p) en ∙ numbers_at ns (marked marks) (length ns) p lt ∙ number_agree ns (marked marks) (is_reached ns roots) (length ns) p agree (omega arith) in
    let same_lets = el ∙ lets_agree ns (marked marks) (is_reached ns roots) (length ns) s (omega arith) agree in
    let same_outputs = eb ∙ outputs_agree ns (length ns) (numbered numbers) (let_number ns (is_reached ns roots)) roots outputs w number in
    λ i. net (ei i) (same_lets i) (same_outputs i)

-- the names of a network's inputs and outputs are those of ports
pub own_ports : (n : Net) → IsNetwork n → ArePorts n.inputs (names_of n.outputs)
own_ports n rules = record {
  some_input = rules.some_input;
  few_inputs = rules.few_inputs;
  some_output = omega (arith, rules.some_output, mapped n.outputs);
  few_outputs = omega (arith, rules.few_outputs, mapped n.outputs);
  input_names = rules.input_names;
  output_names = rules.output_names;
  distinct = distinct_without n.inputs (names_of n.lets) (names_of n.outputs) (sym (ap are_distinct (append_assoc n.inputs (names_of n.lets) (names_of n.outputs))) ∙ rules.distinct);
}
  where
    mapped : (es : List Equation) → length (names_of es) ≡ length es
    mapped [] = refl
    mapped (e ∷ es) = omega (arith, mapped es)
