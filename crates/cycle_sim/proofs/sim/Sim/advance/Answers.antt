use Rattle.std.proofs.Common.{◌≡◌, ◌∙◌, ℕ, ◌+◌, ◌*◌, ◌<◌, ◌≤◌, refl, ap, sym, subst, length, arith}
use Rattle.std.specs.List.{length_refill}
use Rattle.circuit.specs.Circuit.{Circuit}
use Rattle.cycle_sim.specs.Standing.{Standing}
use Rattle.levels.specs.Levels.{HasAllLevels}
use Rattle.levels.proofs.Edges.{edge_keeps}
use Rattle.cycle_sim.specs.declared.sim.Sim.TheInside.{Inside}
use Rattle.levels.specs.Marked.{IsUnmarked}
use Rattle.levels.specs.Operands.{AreReaders, HasTaps}
use Rattle.cycle_sim.specs.Operations.{IsPlan}
use Rattle.cycle_sim.proofs.Quiet.{levels_after, levels_under}
use Rattle.cycle_sim.proofs.sim.Sim.advance.Goals as goal
use Rattle.cycle_sim.proofs.sim.Sim.advance.Goals.{then-self, else-self}

-- what the clock edge leaves, where there is one
record Kept (m : Circuit) (sim : Inside) : Type 0 where
  circuit : sim.module.now ≡ m
  levels : HasAllLevels m sim.levels
  readers : AreReaders m sim.readers.starts.items sim.readers.lists
  taps : HasTaps sim.readers.lists sim.readers.tapped
  program : IsPlan m sim.program
  room : length m.assigns + length m.regs ≤ 64 * length sim.marks
  moving_room : length m.regs ≤ 64 * length sim.moving
  next_room : length sim.firsts.items ≡ length m.regs
  none : (r : ℕ) → r < length m.regs → IsUnmarked sim.moving r

pub settle-self-inside-requires-clause-levels : goal.settle-self-inside-requires-clause-levels
settle-self-inside-requires-clause-levels c =
    let m = c.self.inside.module.now in
    let levels : HasAllLevels m c.if-self.self-inside.levels =
    elim c.if-self.branch [
      | then-self w ↦ subst (λ (x : Inside). HasAllLevels m x.levels) (sym w.self-inside-is)
          (subst (λ s. HasAllLevels m s) (sym w.clock_edge-changed.ensures.state) (edge_keeps m c.self.inside.levels c.self.invariant.levels))
      | else-self w ↦ subst (λ (x : Inside). HasAllLevels m x.levels) (sym w.self-inside-is) c.self.invariant.levels
    ] in
    let long : length c.args.inputs.now ≡ length m.inputs = c.requires ∙ ap (λ (s : Standing). length s.circuit.inputs) (sym c.self.view_is) in
    levels_under m c.if-self.self-inside.levels c.set_inputs.new.levels c.args.inputs.now levels long c.set_inputs.ensures.state

pub invariant_of-self : goal.invariant_of-self
invariant_of-self c =
    let m = c.self.inside.module.now in
    let firsts = c.self.inside.firsts in
    let i = c.self.invariant in
    let kept : Kept m c.if-self.self-inside =
    elim c.if-self.branch [
      | then-self w ↦ subst (λ x. Kept m x) (sym w.self-inside-is) (record {
        circuit = refl;
        levels = subst (λ s. HasAllLevels m s) (sym w.clock_edge-changed.ensures.state) (edge_keeps m c.self.inside.levels i.levels);
        readers = i.readers;
        taps = i.taps;
        program = i.program;
        room = omega (arith, i.room, w.clock_edge-changed.ensures.room);
        moving_room = omega (arith, i.moving_room, w.clock_edge-changed.ensures.moving_room);
        next_room = sym (length_refill firsts.len firsts.items w.clock_edge-changed.new.firsts firsts.ok.0) ∙ (firsts.ok.0 ∙ i.next_room);
        none = w.clock_edge-changed.ensures.none;
      })
      | else-self w ↦ subst (λ x. Kept m x) (sym w.self-inside-is) (record {
        circuit = refl;
        levels = i.levels;
        readers = i.readers;
        taps = i.taps;
        program = i.program;
        room = i.room;
        moving_room = i.moving_room;
        next_room = i.next_room;
        none = i.none;
      })
    ] in
    let long : length c.args.inputs.now ≡ length m.inputs = c.requires ∙ ap (λ (s : Standing). length s.circuit.inputs) (sym c.self.view_is) in
    let s = c.if-self.self-inside in
    rw kept.circuit (record {
      levels = levels_after m s.levels c.set_inputs.new.levels c.settle-self-inside.new.levels c.args.inputs.now kept.levels long c.set_inputs.ensures.state c.settle-self-inside.ensures.settled
          c.settle-self-inside.ensures.inputs c.settle-self-inside.ensures.regs;
      readers = kept.readers;
      taps = kept.taps;
      program = subst (λ z. IsPlan m z) (sym c.settle-self-inside.ensures.same_plan) kept.program;
      room = omega (arith, kept.room, c.set_inputs.ensures.room, c.settle-self-inside.ensures.room);
      moving_room = kept.moving_room;
      next_room = kept.next_room;
      none = kept.none;
      up_to_date = c.settle-self-inside.ensures.up_to_date;
      at_start = λ e. absurd (cc);
      settled = λ e. c.settle-self-inside.ensures.settled;
      rests = λ e. (refl, c.is_quiet-self-inside.ensures e);
    })
