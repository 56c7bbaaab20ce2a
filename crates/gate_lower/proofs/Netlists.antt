-- The gates of the terms at some roots keep the rules of gates, and have as many register bits as the marked places need.
use Rattle.std.proofs.Common.{◌≡◌, ◌≢◌, ℕ, zero, suc, ◌+◌, ◌≤◌, ◌<◌, Bool, true, false, List, [], ◌∷◌, ◌++◌, length, get_or, map, refl, ap, sym, ◌∙◌, subst, arith, All, IsTrue}
use Rattle.std.specs.Prelude.{◌&&◌, nat_lt, AllPairs, filter, sum_by}
use Rattle.std.proofs.lemmas.Bool.Decides.{nat_tests}
use Rattle.std.proofs.lemmas.List.{map-append, length-map}
use Rattle.std.proofs.lemmas.List.Sums.{sum_by-append}
use Rattle.std.proofs.lemmas.Option.{get_or_from_slice_get}
use Rattle.term_store.specs.declared.node.Term.{Term}
use Rattle.term_store.specs.declared.node.Node.{Node}
use Rattle.term_store.specs.declared.node.Node.TheVariants as node
use Rattle.term_store.specs.Nodes.{node_at, IsNodes}
use Rattle.term_store.specs.Places.{places, is_marked, is_join_node, is_lt_node, is_marked_with, longest_at, marked_upto}
use Rattle.term_store.specs.Ports.{ArePorts}
use Rattle.circuit.specs.Names.{is_port_name}
use Rattle.gate_lower.specs.declared.gates.Gate.{Gate}
use Rattle.gate_lower.specs.declared.gates.Delay.{Delay}
use Rattle.gate_lower.specs.Rules.{IsLineOf, IsNetlist, latch_bits, held_bits, delay_bits, register_bits}
use Rattle.gate_lower.specs.Lowered.{is_gate, is_delayed, gate_places, node_gate, gate_at, delay_at, gates_of, delays_of, outputs_of, marked_netlist, marked_bits}
use Rattle.gate_lower.proofs.Places.{count, kept, filter_next, count_next, one_if}
use Rattle.gate_lower.proofs.Plans.{length_some}
use Rattle.gate_lower.proofs.Outputs.{names_are, output_line}
use Rattle.gate_lower.proofs.PortNames.{port_names, distinct, distinct_front, distinct_back}
use Rattle.gate_lower.proofs.Lines.{AreMarks, gate_lines, delay_lines, delay_widths, marked_line, gates_once, delays_once}

-- ---- register bits

delay_bits_append : (ds es : List Delay) → delay_bits (ds ++ es) ≡ delay_bits ds + delay_bits es
delay_bits_append [] es = omega arith
delay_bits_append (d ∷ ds) es = omega (arith, delay_bits_append ds es)

held_bits_append : (gs hs : List Gate) → held_bits (gs ++ hs) ≡ held_bits gs + held_bits hs
held_bits_append [] hs = omega arith
held_bits_append (g ∷ gs) hs = omega (arith, held_bits_append gs hs)

no_delay : (n : ℕ) → nat_lt 0 n ≡ false → n ≡ 0
no_delay n h = grind (arith, nat_tests)

module _ (nodes : List Node) (marks : List Bool) where
  last_delay : (n : ℕ) (b : Bool) → is_delayed nodes marks n ≡ b → delay_bits (map (delay_at nodes marks) (kept b n)) ≡ longest_at nodes marks n
  last_delay n true e = omega arith
  last_delay n false e = sym (no_delay (longest_at nodes marks n) e)

  some_delay_bits : (n : ℕ) → delay_bits (map (delay_at nodes marks) (filter (is_delayed nodes marks) (places n))) ≡ sum_by (longest_at nodes marks) (places n)
  some_delay_bits zero = refl
  some_delay_bits (suc n) =
      let b = is_delayed nodes marks n in
      ap (λ ps. delay_bits (map (delay_at nodes marks) ps)) (filter_next (is_delayed nodes marks) n)
      ∙ (ap delay_bits (map-append (delay_at nodes marks) (filter (is_delayed nodes marks) (places n)) (kept b n))
      ∙ (delay_bits_append (map (delay_at nodes marks) (filter (is_delayed nodes marks) (places n))) (map (delay_at nodes marks) (kept b n))
      ∙ omega (arith, some_delay_bits n, last_delay n b refl, sum_by-append (longest_at nodes marks) (places n) (n ∷ []))))

  lt_bits : (n : Node) → is_lt_node n ≡ true → latch_bits (node_gate nodes marks n) ≡ 1
  lt_bits node.Never h = absurd (cc)
  lt_bits (node.Input i) h = absurd (cc)
  lt_bits (node.Inc a c) h = absurd (cc)
  lt_bits (node.Min a b) h = absurd (cc)
  lt_bits (node.Max a b) h = absurd (cc)
  lt_bits (node.Lt a b) h = refl

  node_bits : (n : Node) → latch_bits (node_gate nodes marks n) ≡ one_if (is_lt_node n)
  node_bits node.Never = refl
  node_bits (node.Input i) = refl
  node_bits (node.Inc a c) = refl
  node_bits (node.Min a b) = refl
  node_bits (node.Max a b) = refl
  node_bits (node.Lt a b) = refl

  lt_is_join : (n : Node) → is_join_node n ≡ false → is_lt_node n ≡ false
  lt_is_join node.Never h = refl
  lt_is_join (node.Input i) h = refl
  lt_is_join (node.Inc a c) h = refl
  lt_is_join (node.Min a b) h = absurd (cc)
  lt_is_join (node.Max a b) h = absurd (cc)
  lt_is_join (node.Lt a b) h = absurd (cc)

  last_gate : (p : ℕ) (m j : Bool) → is_marked marks p ≡ m → is_join_node (node_at nodes p) ≡ j →
      held_bits (map (gate_at nodes marks) (kept (m && j) p)) ≡ one_if (m && is_lt_node (node_at nodes p))
  last_gate p false j e f = refl
  last_gate p true true e f = omega (arith, node_bits (node_at nodes p))
  last_gate p true false e f = ap one_if (sym (lt_is_join (node_at nodes p) f))

  some_held_bits : (n : ℕ) → held_bits (map (gate_at nodes marks) (filter (is_gate nodes marks) (places n))) ≡ marked_upto is_lt_node nodes marks n
  some_held_bits zero = refl
  some_held_bits (suc n) =
      let b = is_gate nodes marks n in
      ap (λ ps. held_bits (map (gate_at nodes marks) ps)) (filter_next (is_gate nodes marks) n)
      ∙ (ap held_bits (map-append (gate_at nodes marks) (filter (is_gate nodes marks) (places n)) (kept b n))
      ∙ (held_bits_append (map (gate_at nodes marks) (filter (is_gate nodes marks) (places n))) (map (gate_at nodes marks) (kept b n))
      ∙ omega (arith, some_held_bits n, last_gate n (is_marked marks n) (is_join_node (node_at nodes n)) refl refl, count_next (is_marked_with is_lt_node nodes marks) n)))

  pub bits_are : (inputs outputs : List (List ℕ)) (roots : List Term) → register_bits (marked_netlist nodes marks roots inputs outputs) ≡ marked_bits nodes marks
  bits_are inputs outputs roots = omega (arith, some_delay_bits (length nodes), some_held_bits (length nodes))

  pub gate_count : length (gates_of nodes marks) ≡ count (is_gate nodes marks) (length nodes)
  gate_count = length-map (gate_places nodes marks) (gate_at nodes marks)

  -- ---- the rules

  outputs_long : (roots : List Term) (names : List (List ℕ)) → length names ≡ length roots → length (outputs_of nodes marks roots names) ≡ length names
  outputs_long [] [] l = refl
  outputs_long [] (m ∷ names) l = absurd (omega (arith, l))
  outputs_long (x ∷ roots) [] l = refl
  outputs_long (x ∷ roots) (m ∷ names) l = ap suc (outputs_long roots names (omega (arith, l)))

  pub is_netlist : (roots : List Term) (inputs outputs : List (List ℕ)) → IsNodes nodes → AreMarks nodes marks (length inputs) → ArePorts inputs outputs → length outputs ≡ length roots →
      All (λ r. r.0 < length nodes) roots → All (λ r. is_marked marks r.0 ≡ true) roots →
      marked_upto is_join_node nodes marks (length nodes) ≤ 16384 → marked_bits nodes marks ≤ 65536 →
      IsNetlist (marked_netlist nodes marks roots inputs outputs)
  is_netlist roots inputs outputs rules closed ports one_each within marked few_gates few_bits =
      let names = names_are nodes marks roots outputs one_each in
      let long = outputs_long roots outputs one_each in
      record {
        some_input = ports.some_input;
        few_inputs = ports.few_inputs;
        some_output = omega (arith, long, ports.some_output);
        few_outputs = omega (arith, long, ports.few_outputs);
        few_gates = omega (arith, gate_count, few_gates);
        few_bits = omega (arith, bits_are inputs outputs roots, few_bits);
        good_input_names = port_names inputs ports.input_names;
        good_output_names = subst (All (λ name. IsTrue (is_port_name name))) (sym names) (port_names outputs ports.output_names);
        distinct_inputs = distinct inputs (distinct_front inputs outputs ports.distinct);
        distinct_outputs = subst (AllPairs (λ a b. a ≢ b)) (sym names) (distinct outputs (distinct_back inputs outputs ports.distinct));
        gates = λ k q e. gate_lines nodes marks (length inputs) rules closed k q e;
        delays = λ n d e. subst (λ k. IsLineOf (length inputs) k (delays_of nodes marks) d.from) (sym gate_count) (delay_lines nodes marks (length inputs) rules closed n d e);
        widths = λ n d e. delay_widths nodes marks (length inputs) rules closed n d e;
        outputs = λ o l e.
            let r = output_line nodes marks roots outputs o l e in
            let lt = length_some roots o r.0 r.1 in
            let at : get_or roots o r.0 ≡ r.0 = get_or_from_slice_get roots o r.0 r.0 r.1 in
            subst (λ k. IsLineOf (length inputs) k (delays_of nodes marks) l.line) (sym gate_count)
            (subst (IsLineOf (length inputs) (count (is_gate nodes marks) (length nodes)) (delays_of nodes marks)) (sym r.2)
            (marked_line nodes marks (length inputs) rules closed r.0.0 (subst (λ (t : Term). t.0 < length nodes) at (within o r.0 lt)) (subst (λ (t : Term). is_marked marks t.0 ≡ true) at (marked o r.0 lt))));
        gates_once = λ j k q e f. gates_once nodes marks (length inputs) rules closed j k q e f;
        delays_once = λ m n d e f g h. delays_once nodes marks (length inputs) rules closed m n d e f g h;
      }
