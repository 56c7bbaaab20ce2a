use Rattle.std.proofs.Common.{◌≡◌, ap, sym, ◌∙◌, arith, subst, map, false, ◌-◌, length, vec_len, vec_capacity}
use Rattle.std.proofs.lemmas.List.{length-map, length-replicate}
use Rattle.circuit.specs.Circuit.{Circuit}
use Rattle.circuit.specs.Meaning.{levels_at, levels_from, IsHistory}
use Rattle.rl_time.specs.Time.{has_risen}
use Rattle.cycle_sim.specs.Standing.{IsStep}
use Rattle.levels.specs.Digits.{with_digits}
use Rattle.levels.proofs.Grown.{refilled, length_from_map}
use Rattle.cycle_sim.proofs.Grown.{no_cycles, one_row_each, has_room, more_cycles}
use Rattle.cycle_sim.proofs.running.simulate.Goals as goal

pub loop-cycle-init : goal.loop-cycle-init
loop-cycle-init c =
    let run = no_cycles (λ row. row.items) (λ row. vec_capacity row) c.args.m.now c.args.rises.now c.args.cycles c.in_ok-sim.sim.circuit
    c.in_ok-sim.sim.state c.in_ok-levels.levels.items c.in_ok-rows.rows.items (c.histories_grow_at_the_end.ensures.empty c.args.m.now)
    c.in_ok-sim.ensures.before_cycle_0 c.in_ok-sim.ensures.same_module
    (ap (λ z. length z) c.in_ok-levels.ensures ∙ length-replicate (length c.args.rises.now) false)
    (rw (sym c.outputs.ensures) c.in_ok-rows.ensures.empty) (rw (sym c.outputs.ensures) c.in_ok-rows.ensures.capacity) in
    record { run = run; within = omega arith }

pub push_digits-requires-clause-one_for_each_output : goal.push_digits-requires-clause-one_for_each_output
push_digits-requires-clause-one_for_each_output c =
    let before = c.loop-cycle.invariant.run in
    rw c.deref_mut-in-loop-cycle.ensures.value (
    one_row_each (λ row. row.items) (λ row. vec_capacity row) c.args.m.now c.args.rises.now c.args.cycles c.loop-cycle.cycle
    c.loop-cycle.sim.circuit c.loop-cycle.sim.state c.loop-cycle.levels.items c.loop-cycle.rows.items before
    ∙ (ap (λ (m : Circuit). length m.outputs) (sym (c.step.ensures.same_module ∙ before.same_module)) ∙ sym c.outs.ensures.count))

pub push_digits-requires-clause-room : goal.push_digits-requires-clause-room
push_digits-requires-clause-room c =
    rw c.deref_mut-in-loop-cycle.ensures.value (
    has_room (λ row. row.items) (λ row. vec_capacity row) (λ row. vec_len row) c.args.m.now c.args.rises.now c.args.cycles
    c.loop-cycle.cycle c.loop-cycle.sim.circuit c.loop-cycle.sim.state c.loop-cycle.levels.items c.loop-cycle.rows.items
    (λ row. row.ok.0) c.loop-cycle.invariant.run c.next_change-next.result (omega (arith, c.next_change-next.ensures.later)) c.next_change-next.ensures.within)

pub loop-cycle-preserved : goal.loop-cycle-preserved
loop-cycle-preserved c =
    let m = c.args.m.now in
    let rises = c.args.rises.now in
    let cycle = c.loop-cycle.cycle in
    let levels = c.loop-cycle.levels in
    let rows = c.loop-cycle.rows in
    let before = c.loop-cycle.invariant.run in
    let set : c.set_levels.new.levels ≡ levels_at rises cycle = c.set_levels.ensures ∙ ap (λ n. levels_at rises n) c.from.ensures in
    let long : levels.len ≡ length c.set_levels.new.levels =
    levels.ok.0 ∙ (before.one_level_each ∙ (sym (length-map rises (λ a. has_risen a cycle)) ∙ ap (λ z. length z) (sym set))) in
    let same : map (λ row. vec_capacity row) c.push_digits.new.rows ≡ map (λ row. vec_capacity row) rows.items =
    c.push_digits.ensures.capacity ∙ ap (λ z. map (λ row. vec_capacity row) z) c.deref_mut-in-loop-cycle.ensures.value in
    let rows_are = refilled rows.len rows.items c.push_digits.new.rows (rows.ok.0 ∙ length_from_map (λ row. vec_capacity row) rows.items c.push_digits.new.rows (sym same)) in
    let digits : map (λ row. row.items) c.push_digits.new.rows ≡ with_digits c.outs.result.now (c.next_change-next.result - cycle) 0 (map (λ row. row.items) rows.items) =
    c.push_digits.ensures.digits ∙ ap (λ z. with_digits c.outs.result.now (c.next_change-next.result - cycle) 0 (map (λ row. row.items) z)) c.deref_mut-in-loop-cycle.ensures.value in
    let levels_are = refilled levels.len levels.items c.set_levels.new.levels long in
    let step = subst (λ z. IsStep c.loop-cycle.sim.circuit c.loop-cycle.sim.state c.step.new.self.state z) c.deref.ensures.value c.step.ensures.next_cycle in
    let run = more_cycles (λ row. row.items) (λ row. vec_capacity row) m rises c.args.cycles cycle c.next_change-next.result c.loop-cycle.sim.circuit c.step.new.self.circuit
    c.loop-cycle.sim.state c.step.new.self.state levels.items _ rows.items _ c.outs.result.now before c.outs.ensures.levels
    (c.histories_grow_at_the_end.ensures.grown m) c.next_change-next.ensures.later c.next_change-next.ensures.inputs c.next_change-next.ensures.quiet (levels_are ∙ set) c.step.ensures.same_module step
    (ap (λ z. map (λ row. row.items) z) rows_are ∙ digits) (ap (λ z. map (λ row. vec_capacity row) z) rows_are ∙ same) in
    record { run = run; within = c.next_change-next.ensures.within }

pub returns : goal.returns
returns c =
    let i = c.loop-cycle.invariant.run in
    let m = c.args.m.now in
    let e : c.loop-cycle.cycle ≡ c.args.cycles = omega (arith, c.loop-cycle-test.false, c.loop-cycle.invariant.within) in
    (i.states, subst (λ n. IsHistory m (levels_from c.args.rises.now 0 n) i.states) e i.ran.history, i.digits)
