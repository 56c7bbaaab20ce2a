use Rattle.std.proofs.Common.{◌≡◌, ◌∙◌, ℕ, List, Bool, true, false, ◌&&◌, length, ap, sym, subst, arith, get_or}
use Rattle.std.proofs.Math.Bool.{beq}
use Rattle.std.proofs.lemmas.List.{length-map, length-replicate}
use Rattle.rl_time.specs.Time.{has_risen}
use Rattle.net_model.specs.Value.{time_at}
use Rattle.circuit.specs.Meaning.{IsHistory, levels_at, levels_from}
use Rattle.cycle_sim.specs.Standing.{IsStep, output_level}
use Rattle.rl_flow.specs.Compared.{count_below, agrees}
use Rattle.rl_flow.proofs.Histories.{none_compared, more_compared, rewritten, count_same}
use Rattle.rl_flow.proofs.comparing.compare.Goals as goal

pub loop-cycle-init : goal.loop-cycle-init
loop-cycle-init c =
    let expected = c.args.expected.now in
    none_compared c.args.m.now c.in_ok-sim.sim.circuit c.args.rises.now expected c.in_ok-sim.sim.state c.in_ok-levels.levels.items c.in_ok-agree.agree.items
    (c.histories_grow_at_the_end.ensures.empty c.args.m.now) c.in_ok-sim.ensures.before_cycle_0 c.in_ok-sim.ensures.same_module
    (ap (λ z. length z) c.in_ok-levels.ensures ∙ length-replicate (length c.args.rises.now) false) c.in_ok-agree.ensures
    (ap (λ z. length z) c.in_ok-agree.ensures ∙ length-replicate (length expected) true)

pub loop-cycle-preserved : goal.loop-cycle-preserved
loop-cycle-preserved c =
    let rises = c.args.rises.now in
    let expected = c.args.expected.now in
    let cycle = c.loop-cycle.cycle in
    let levels = c.loop-cycle.levels in
    let agree = c.loop-cycle.agree in
    let before = c.loop-cycle.invariant in
    let state = c.step.new.self.state in
    let set_to : c.set_levels.new.levels ≡ levels_at rises cycle = c.set_levels.ensures ∙ ap (λ n. levels_at rises n) c.from.ensures in
    let one_each : length (levels_at rises cycle) ≡ length rises = length-map rises (λ a. has_risen a cycle) in
    let long : levels.len ≡ length c.set_levels.new.levels = levels.ok.0 ∙ (before.one_level_each ∙ (sym one_each ∙ ap (λ z. length z) (sym set_to))) in
    let levels_are = rewritten levels.len levels.items c.set_levels.new.levels long ∙ set_to in
    let old : c.deref_mut-in-loop-cycle.result.now ≡ agree.items = c.deref_mut-in-loop-cycle.ensures.value in
    let count : length c.compare_levels.new.marks ≡ length agree.items = c.compare_levels.ensures.count ∙ ap (λ z. length z) old in
    let marks_are = rewritten agree.len agree.items c.compare_levels.new.marks (agree.ok.0 ∙ sym count) in
    let step = subst (λ (z : List Bool). IsStep c.loop-cycle.sim.circuit c.loop-cycle.sim.state state z) c.deref.ensures.value c.step.ensures.next_cycle in
    more_compared c.args.m.now c.loop-cycle.sim.circuit c.step.new.self.circuit rises expected cycle c.loop-cycle.sim.state state levels.items _ agree.items _ before
    (c.histories_grow_at_the_end.ensures.grown c.args.m.now) (c.levels_grow_at_the_end.ensures rises cycle) c.step.ensures.same_module step levels_are
    (ap (λ z. length z) levels_are ∙ one_each) c.step.ensures.in_a_cycle (ap (λ z. length z) marks_are ∙ count)
    (λ out lt.
    ap (λ z. get_or z out false) marks_are
    ∙ c.compare_levels.ensures.marks out lt
    ∙ ap (λ (z : List Bool). get_or z out false && beq (output_level state out) (has_risen (time_at expected out) c.from-in-loop-cycle.result)) old
    ∙ ap (λ z. get_or agree.items out false && beq (output_level state out) (has_risen (time_at expected out) z)) c.from-in-loop-cycle.ensures)

pub returns : goal.returns
returns c =
    let i = c.loop-cycle.invariant in
    let m = c.args.m.now in
    let expected = c.args.expected.now in
    let items = c.loop-cycle.agree.items in
    let e : c.loop-cycle.cycle ≡ c.args.cycles = omega (arith, c.loop-cycle-test.false, c.loop-cycle.auto.cycle-end) in (
      i.states,
      subst (λ n. IsHistory m (levels_from c.args.rises.now 0 n) i.states) e i.ran.history,
      c.count_high.ensures
          ∙ ap (λ (z : List (List ℕ)). count_below (output_level c.loop-cycle.sim.state) (length z)) c.outputs.ensures
          ∙ ap (λ z. count_below (output_level z) (length m.outputs)) i.ran.last,
      c.count_marks.ensures
          ∙ ap (λ (z : List Bool). count_below (λ k. get_or z k false) (length z)) c.deref-2.ensures.value
          ∙ ap (count_below (λ k. get_or items k false)) i.one_mark_each
          ∙ count_same (λ k. get_or items k false) (agrees i.states expected) (length expected) i.marked
          ∙ ap (count_below (agrees i.states expected)) c.requires.one_for_each_output,
    )
