-- The gates of terms have a timing in which each line has the value of its term.
use Rattle.std.proofs.Common.{◌≡◌, ℕ, zero, suc, ◌<◌, Bool, true, List, [], ◌∷◌, length, map, refl, ap, sym, ◌∙◌, arith, All, inl, inr}
use Rattle.std.specs.Prelude.{slice_index_or}
use Rattle.std.proofs.lemmas.Option.{get_or_from_slice_get}
use Rattle.std.proofs.lemmas.Bool.{and_from}
use Rattle.rl_time.specs.declared.time.Time.{Time}
use Rattle.rl_time.specs.Time.{time_min, time_max, time_lt, time_inc}
use Rattle.term_store.specs.declared.node.Term.{Term}
use Rattle.term_store.specs.declared.node.Node.{Node}
use Rattle.term_store.specs.declared.node.Node.TheVariants as node
use Rattle.term_store.specs.Nodes.{node_at, IsNodes}
use Rattle.term_store.specs.Tree.{value}
use Rattle.term_store.specs.Trees.{tree, trees_at}
use Rattle.term_store.specs.Reach.{IsOperand}
use Rattle.term_store.specs.Places.{is_marked, is_join_node, tree_by_places}
use Rattle.gate_lower.specs.declared.gates.Delay.{Delay}
use Rattle.gate_lower.specs.Timing.{line_time, gate_time, IsTiming, AreGatesOf}
use Rattle.gate_lower.specs.Lowered.{is_gate, is_delayed, gate_number, delay_number, gate_places, delay_places, node_line, place_line, term_line, node_gate, outputs_of, marked_netlist}
use Rattle.gate_lower.proofs.Places.{get_kept, is_less}
use Rattle.gate_lower.proofs.Outputs.{names_are}
use Rattle.gate_lower.proofs.Lines.{AreMarks, gate_of, delay_of, delay_fits, delayed_is_marked, marked_gate, join_gate, operands_over, operand_marked}

module _ (nodes : List Node) (marks : List Bool) (inputs : ℕ) (rules : IsNodes nodes) (closed : AreMarks nodes marks inputs)
    (follows : (p : ℕ) → p < length nodes → tree nodes p ≡ tree_by_places nodes (node_at nodes p)) (x : List Time) where
  -- the time of a place, and those of the gates and the delays
  abbrev place_time : ℕ → Time
  place_time p = value x (tree nodes p)

  abbrev pub gate_times : ℕ → Time
  gate_times k = place_time (slice_index_or (gate_places nodes marks) k 0)

  abbrev pub delay_times : ℕ → Time
  delay_times n = place_time (slice_index_or (delay_places nodes marks) n 0)

  gate_time_is : (p : ℕ) → p < length nodes → is_gate nodes marks p ≡ true → gate_times (gate_number nodes marks p) ≡ place_time p
  gate_time_is p lt g = ap place_time (get_or_from_slice_get (gate_places nodes marks) (gate_number nodes marks p) p 0 (get_kept (is_gate nodes marks) (length nodes) p lt g))

  delay_time_is : (p : ℕ) → p < length nodes → is_delayed nodes marks p ≡ true → delay_times (delay_number nodes marks p) ≡ place_time p
  delay_time_is p lt d = ap place_time (get_or_from_slice_get (delay_places nodes marks) (delay_number nodes marks p) p 0 (get_kept (is_delayed nodes marks) (length nodes) p lt d))

  node_value : (p : ℕ) (n : Node) → p < length nodes → node_at nodes p ≡ n → place_time p ≡ value x (tree_by_places nodes n)
  node_value p n lt e = ap (value x) (follows p lt ∙ ap (tree_by_places nodes) e)

  -- the line of a marked place has the place's time
  node_time : (p : ℕ) (n : Node) → p < length nodes → is_marked marks p ≡ true → node_at nodes p ≡ n → line_time x gate_times delay_times (node_line nodes marks p n) ≡ place_time p
  node_time p node.Never lt m e = sym (node_value p node.Never lt e)
  node_time p (node.Input i) lt m e = sym (node_value p (node.Input i) lt e)
  node_time p (node.Inc a c) lt m e =
      let over = operands_over nodes marks inputs rules closed p (node.Inc a c) lt e in
      let fits = delay_fits nodes marks inputs rules closed p a c lt m e in
      ap (λ t. time_inc t c) (delay_time_is a.0 (omega (arith, over.0, lt)) (is_less 0 _ (omega (arith, fits, over.1)))) ∙ sym (node_value p (node.Inc a c) lt e)
  node_time p (node.Min a b) lt m e = gate_time_is p lt (and_from _ _ m (ap is_join_node e))
  node_time p (node.Max a b) lt m e = gate_time_is p lt (and_from _ _ m (ap is_join_node e))
  node_time p (node.Lt a b) lt m e = gate_time_is p lt (and_from _ _ m (ap is_join_node e))

  pub line_has_time : (p : ℕ) → p < length nodes → is_marked marks p ≡ true → line_time x gate_times delay_times (place_line nodes marks p) ≡ place_time p
  line_has_time p lt m = node_time p (node_at nodes p) lt m refl

  operand_time : (p : ℕ) (a : Term) (n : Node) → p < length nodes → is_marked marks p ≡ true → node_at nodes p ≡ n → a.0 < p → IsOperand a.0 n →
      line_time x gate_times delay_times (term_line nodes marks a) ≡ place_time a.0
  operand_time p a n lt m e below is = line_has_time a.0 (omega (arith, below, lt)) (operand_marked nodes marks inputs rules closed p a.0 n lt m e is)

  -- the gate of a place has the time of its operands
  place_gate_time : (p : ℕ) (n : Node) → p < length nodes → is_marked marks p ≡ true → node_at nodes p ≡ n → is_join_node n ≡ true →
      place_time p ≡ gate_time x gate_times delay_times (node_gate nodes marks n)
  place_gate_time p (node.Min a b) lt m e j =
      let over = operands_over nodes marks inputs rules closed p (node.Min a b) lt e in
      let f = operand_time p a (node.Min a b) lt m e over.0 (inl refl) in
      let g = operand_time p b (node.Min a b) lt m e over.1 (inr refl) in
      node_value p (node.Min a b) lt e ∙ (ap (λ s. time_min s (place_time b.0)) (sym f) ∙ ap (time_min (line_time x gate_times delay_times (term_line nodes marks a))) (sym g))
  place_gate_time p (node.Max a b) lt m e j =
      let over = operands_over nodes marks inputs rules closed p (node.Max a b) lt e in
      let f = operand_time p a (node.Max a b) lt m e over.0 (inl refl) in
      let g = operand_time p b (node.Max a b) lt m e over.1 (inr refl) in
      node_value p (node.Max a b) lt e ∙ (ap (λ s. time_max s (place_time b.0)) (sym f) ∙ ap (time_max (line_time x gate_times delay_times (term_line nodes marks a))) (sym g))
  place_gate_time p (node.Lt a b) lt m e j =
      let over = operands_over nodes marks inputs rules closed p (node.Lt a b) lt e in
      let f = operand_time p a (node.Lt a b) lt m e over.0 (inl refl) in
      let g = operand_time p b (node.Lt a b) lt m e over.1 (inr refl) in
      node_value p (node.Lt a b) lt e ∙ (ap (λ s. time_lt s (place_time b.0)) (sym f) ∙ ap (time_lt (line_time x gate_times delay_times (term_line nodes marks a))) (sym g))
  place_gate_time p node.Never lt m e j = absurd (cc)
  place_gate_time p (node.Input i) lt m e j = absurd (cc)
  place_gate_time p (node.Inc a c) lt m e j = absurd (cc)

  pub is_timing : (roots : List Term) (ins outs : List (List ℕ)) → IsTiming (marked_netlist nodes marks roots ins outs) x gate_times delay_times
  is_timing roots ins outs = record {
    each_gate = λ k q e.
        let g = gate_of nodes marks inputs rules closed k q e in
        ap gate_times g.number ∙ (gate_time_is g.place g.within g.passes
        ∙ (place_gate_time g.place (node_at nodes g.place) g.within (marked_gate nodes marks inputs rules closed g.place g.passes) refl (join_gate nodes marks inputs rules closed g.place g.passes)
        ∙ ap (gate_time x gate_times delay_times) (sym g.gate_is)));
    each_delay = λ n d e.
        let g = delay_of nodes marks inputs rules closed n d e in
        ap delay_times g.number ∙ (delay_time_is g.place g.within g.passes
        ∙ (sym (line_has_time g.place g.within (delayed_is_marked nodes marks inputs rules closed g.place g.passes)) ∙ ap (λ (z : Delay). line_time x gate_times delay_times z.from) (sym g.delay_is)));
  }

  -- each output's line has the value of its root's term
  pub outputs_timed : (roots : List Term) (names : List (List ℕ)) → length names ≡ length roots → All (λ r. r.0 < length nodes) roots → All (λ r. is_marked marks r.0 ≡ true) roots →
      map (λ o. line_time x gate_times delay_times o.line) (outputs_of nodes marks roots names) ≡ map (value x) (trees_at nodes roots)
  outputs_timed [] [] l within marked = refl
  outputs_timed [] (m ∷ names) l within marked = absurd (omega (arith, l))
  outputs_timed (r ∷ roots) [] l within marked = absurd (omega (arith, l))
  outputs_timed (r ∷ roots) (m ∷ names) l within marked =
      ap (λ t. t ∷ map (λ o. line_time x gate_times delay_times o.line) (outputs_of nodes marks roots names)) (line_has_time r.0 (within zero r (omega arith)) (marked zero r (omega arith)))
      ∙ ap (λ ts. place_time r.0 ∷ ts) (outputs_timed roots names (omega (arith, l)) (λ k d lt. within (suc k) d (omega (arith, lt))) (λ k d lt. marked (suc k) d (omega (arith, lt))))

pub terms_values : (nodes : List Node) (marks : List Bool) (roots : List Term) (ins outs : List (List ℕ)) → IsNodes nodes → AreMarks nodes marks (length ins) →
    ((p : ℕ) → p < length nodes → tree nodes p ≡ tree_by_places nodes (node_at nodes p)) → (x : List Time) →
    IsTiming (marked_netlist nodes marks roots ins outs) x (λ k. value x (tree nodes (slice_index_or (gate_places nodes marks) k 0))) (λ n. value x (tree nodes (slice_index_or (delay_places nodes marks) n 0)))
terms_values nodes marks roots ins outs rules closed follows x = is_timing nodes marks (length ins) rules closed follows x roots ins outs

pub gates_of_terms : (nodes : List Node) (marks : List Bool) (roots : List Term) (ins outs : List (List ℕ)) → IsNodes nodes → AreMarks nodes marks (length ins) →
    ((p : ℕ) → p < length nodes → tree nodes p ≡ tree_by_places nodes (node_at nodes p)) → length outs ≡ length roots →
    All (λ r. r.0 < length nodes) roots → All (λ r. is_marked marks r.0 ≡ true) roots →
    AreGatesOf ins outs (trees_at nodes roots) (marked_netlist nodes marks roots ins outs)
gates_of_terms nodes marks roots ins outs rules closed follows one_each within marked = record {
  inputs_are = refl;
  outputs_are = names_are nodes marks roots outs one_each;
  timed = λ x. (
    gate_times nodes marks (length ins) rules closed follows x,
    delay_times nodes marks (length ins) rules closed follows x,
    is_timing nodes marks (length ins) rules closed follows x roots ins outs,
    outputs_timed nodes marks (length ins) rules closed follows x roots outs one_each within marked,
  );
}
