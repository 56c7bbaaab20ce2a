use Rattle.std.proofs.Common.{◌+◌, false, length, ap, ◌∙◌, arith}
use Rattle.std.proofs.lemmas.List.{length-replicate}
use Rattle.std.proofs.lemmas.Option.{slice_get_within}
use Rattle.circuit.specs.Meaning.{State}
use Rattle.levels.proofs.Listed.{marked_unmarked}
use Rattle.cycle_sim.proofs.sim.Sim.new.Goals as goal

pub invariant_of-result : goal.invariant_of-result
invariant_of-result c =
    let m = c.args.m.now in
    let a = ap (λ z. length z) c.assigns-assigns.ensures in
    let r = ap (λ z. length z) c.regs-regs.ensures in
    record {
      levels = c.in_ok-low.ensures.all;
      readers = c.in_ok-readers_of.ensures.readers;
      taps = c.in_ok-readers_of.ensures.taps;
      program = c.in_ok-compile.ensures;
      room = omega (arith, a, r, c.in_ok-all.ensures.room);
      moving_room = omega (arith, r, c.in_ok-none.ensures.room);
      next_room = ap (λ z. length z) c.in_ok-all_low.ensures ∙ (length-replicate (length c.regs-regs.result.now) false ∙ r);
      none = λ k lt. c.in_ok-none.ensures.none k;
      up_to_date = record {
        assigns = λ k x there u.
            let lt = slice_get_within m.assigns k x there in
            absurd (marked_unmarked c.in_ok-all.field-0 k (c.in_ok-all.ensures.all k (omega (arith, a))) u);
        regs = λ k q row there here u.
            let lt = slice_get_within m.regs k q there in
            absurd (marked_unmarked c.in_ok-all.field-0 (length m.assigns + k) (c.in_ok-all.ensures.all (length m.assigns + k) (omega (arith, a, r))) u);
      };
      at_start = λ e. ap (λ (z : State). z.regs) c.in_ok-low.ensures.low;
      settled = λ e. absurd (cc);
      rests = λ e. absurd (cc);
    }
