use Rattle.std.proofs.Common.{◌≡◌, ap, sym, ◌∙◌, arith, subst, map, false, ◌-◌, length, vec_len, vec_capacity}
use Rattle.std.proofs.lemmas.List.{length-map, length-replicate}
use Rattle.rl_time.specs.Time.{has_risen}
use Rattle.circuit.specs.Circuit.{Circuit}
use Rattle.circuit.specs.Meaning.{levels_at, levels_from}
use Rattle.levels.specs.Digits.{with_digits}
use Rattle.levels.proofs.Grown.{refilled, length_from_map}
use Rattle.event_sim.specs.Standing.{edge_after}
use Rattle.event_sim.specs.Orders.{numbered_order}
use Rattle.event_sim.specs.Passes.{ArePasses}
use Rattle.event_sim.specs.Runs.{IsRun}
use Rattle.event_sim.proofs.Numbering.{order_is_round}
use Rattle.event_sim.proofs.Rounds.{some_assign}
use Rattle.event_sim.proofs.Cycles.{no_cycles, one_row_each, has_room, more_cycles, spanned}
use Rattle.event_sim.proofs.run.simulate.Goals as goal

pub loop-cycle-init : goal.loop-cycle-init
loop-cycle-init c = record {
  run = no_cycles (λ row. row.items) (λ row. vec_capacity row) c.args.m.now (numbered_order (length c.args.m.now.assigns) c.args.order) c.args.rises.now c.args.cycles
      c.in_ok-events.events c.in_ok-inputs.inputs.items c.in_ok-rows.rows.items c.in_ok-events.ensures.same_module c.in_ok-events.ensures.before_cycle_0 c.in_ok-events.ensures.low
      (ap (λ z. length z) c.in_ok-inputs.ensures ∙ length-replicate (length c.args.rises.now) false)
      (rw (sym c.outputs.ensures) c.in_ok-rows.ensures.empty) (rw (sym c.outputs.ensures) c.in_ok-rows.ensures.capacity);
  within = omega arith;
}

pub push_digits-requires-clause-one_for_each_output : goal.push_digits-requires-clause-one_for_each_output
push_digits-requires-clause-one_for_each_output c =
    let before = c.loop-cycle.invariant.run in
    rw c.deref_mut-in-loop-cycle.ensures.value (
    one_row_each (λ row. row.items) (λ row. vec_capacity row) c.args.m.now (numbered_order (length c.args.m.now.assigns) c.args.order) c.args.rises.now c.args.cycles
    c.loop-cycle.cycle c.loop-cycle.events c.loop-cycle.inputs.items c.loop-cycle.rows.items c.loop-cycle.activations before
    ∙ (ap (λ (m : Circuit). length m.outputs) (sym (c.run_passes-each.ensures.same_module ∙ (c.edge_changes-changes.ensures.same_module ∙ before.same_module))) ∙ sym c.outs.ensures.count))

pub push_digits-requires-clause-room : goal.push_digits-requires-clause-room
push_digits-requires-clause-room c =
    rw c.deref_mut-in-loop-cycle.ensures.value (
    has_room (λ row. row.items) (λ row. vec_capacity row) (λ row. vec_len row) c.args.m.now (numbered_order (length c.args.m.now.assigns) c.args.order) c.args.rises.now c.args.cycles
    c.loop-cycle.cycle c.loop-cycle.events c.loop-cycle.inputs.items c.loop-cycle.rows.items c.loop-cycle.activations
    (λ row. row.ok.0) c.loop-cycle.invariant.run c.next_cycle-next.result (omega (arith, c.next_cycle-next.ensures.later)) c.next_cycle-next.ensures.within)

pub loop-cycle-preserved : goal.loop-cycle-preserved
loop-cycle-preserved c =
    let m = c.args.m.now in
    let ks = numbered_order (length m.assigns) c.args.order in
    let rises = c.args.rises.now in
    let cycle = c.loop-cycle.cycle in
    let levels = c.loop-cycle.inputs in
    let rows = c.loop-cycle.rows in
    let before = c.loop-cycle.invariant.run in
    let edge = c.edge_changes-changes.new.self in
    let after = c.run_passes-each.new.self in
    let set : c.set_levels.new.levels ≡ levels_at rises cycle = c.set_levels.ensures ∙ ap (λ n. levels_at rises n) c.from.ensures in
    let long : levels.len ≡ length c.set_levels.new.levels =
    levels.ok.0 ∙ (before.one_level_each ∙ (sym (length-map rises (λ a. has_risen a cycle)) ∙ ap (λ z. length z) (sym set))) in
    let levels_are = refilled levels.len levels.items c.set_levels.new.levels long in
    let same : map (λ row. vec_capacity row) c.push_digits.new.rows ≡ map (λ row. vec_capacity row) rows.items =
    c.push_digits.ensures.capacity ∙ ap (λ z. map (λ row. vec_capacity row) z) c.deref_mut-in-loop-cycle.ensures.value in
    let rows_are = refilled rows.len rows.items c.push_digits.new.rows (rows.ok.0 ∙ length_from_map (λ row. vec_capacity row) rows.items c.push_digits.new.rows (sym same)) in
    let digits : map (λ row. row.items) c.push_digits.new.rows ≡ with_digits after.state.outs (c.next_cycle-next.result - cycle) 0 (map (λ row. row.items) rows.items) =
    c.push_digits.ensures.digits ∙ (ap (λ z. with_digits z (c.next_cycle-next.result - cycle) 0 (map (λ row. row.items) c.deref_mut-in-loop-cycle.result.now)) c.outs.ensures.levels
    ∙ ap (λ z. with_digits after.state.outs (c.next_cycle-next.result - cycle) 0 (map (λ row. row.items) z)) c.deref_mut-in-loop-cycle.ensures.value) in
    let state = subst (λ z. edge.state ≡ edge_after c.loop-cycle.events.circuit c.loop-cycle.events.started c.loop-cycle.events.state z) c.deref.ensures.value c.edge_changes-changes.ensures.state in
    let assigns : length edge.circuit.assigns ≡ length m.assigns = ap (λ (z : Circuit). length z.assigns) (c.edge_changes-changes.ensures.same_module ∙ before.same_module) in
    let passes = subst (λ n. ArePasses edge.circuit (numbered_order n c.args.order) edge.state after.state c.run_passes-each.result) assigns c.run_passes-each.ensures.passes in
    let run = more_cycles (λ row. row.items) (λ row. vec_capacity row) m ks rises c.args.cycles cycle c.next_cycle-next.result c.loop-cycle.events edge after levels.items _ rows.items _ c.loop-cycle.activations
    c.run_passes-each.result c.edge_changes-changes.result before c.next_cycle-next.ensures.later c.next_cycle-next.ensures.inputs c.next_cycle-next.ensures.still c.edge_changes-changes.ensures.still
    (levels_are ∙ set) c.edge_changes-changes.ensures.same_module state c.edge_changes-changes.ensures.started c.run_passes-each.ensures.same_module
    c.run_passes-each.ensures.started passes c.run_passes-each.ensures.settled c.run_passes-each.ensures.few
    (ap (λ z. map (λ row. row.items) z) rows_are ∙ digits) (ap (λ z. map (λ row. vec_capacity row) z) rows_are ∙ same) in
    record {
      run = spanned (λ row. row.items) (λ row. vec_capacity row) m ks rises c.args.cycles c.next_cycle-next.result after _ _ c.loop-cycle.activations c.run_passes-each.result
          c.from-in-loop-cycle.result (c.next_cycle-next.result - cycle) c.from-in-loop-cycle.ensures run;
      within = c.next_cycle-next.ensures.within;
    }

pub returns : goal.returns
returns c =
    let i = c.loop-cycle.invariant.run in
    let m = c.args.m.now in
    let ks = numbered_order (length m.assigns) c.args.order in
    let e : c.loop-cycle.cycle ≡ c.args.cycles = omega (arith, c.loop-cycle-test.false, c.loop-cycle.invariant.within) in
    let run : IsRun m ks (levels_from c.args.rises.now 0 c.args.cycles) i.states c.loop-cycle.activations =
    subst (λ n. IsRun m ks (levels_from c.args.rises.now 0 n) i.states c.loop-cycle.activations) e i.run in
    let round = order_is_round (length m.assigns) c.args.order (some_assign m c.rules.ensures) in (
      i.states,
      c.runs_are_histories.ensures m c.rules.ensures.ordered ks (levels_from c.args.rises.now 0 c.args.cycles) i.states c.loop-cycle.activations round run,
      i.digits,
      run,
    )
