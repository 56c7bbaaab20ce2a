use Rattle.std.proofs.Common.{◌∙◌, arith, ap, sym, length, get_or}
use Rattle.std.specs.Prelude.{nat_lt}
use Rattle.term_store.specs.Places.{longest_at}
use Rattle.gate_lower.specs.Lowered.{is_delayed, delay_at}
use Rattle.gate_lower.proofs.Places.{length_listed, at_listed, more_kept, same_kept, is_less, is_no_less}
use Rattle.gate_lower.proofs.Plans.{same_delay}
use Rattle.gate_lower.proofs.lowering.delays.Goals as goal
use Rattle.gate_lower.proofs.lowering.delays.Goals.{then-width-gt0+in_ok-push, else-width-gt0}

pub index-width-requires : goal.index-width-requires
index-width-requires c =
    let nodes = c.args.store.now.nodes in
    omega (arith, c.loop-place-test.true, c.len-place-end.ensures.len, ap length c.requires.plan.longest, length_listed (longest_at nodes c.args.plan.now.marks.items) (length nodes))

pub loop-place-preserved : goal.loop-place-preserved
loop-place-preserved c =
    let nodes = c.args.store.now.nodes in
    let marks = c.args.plan.now.marks.items in
    let p = c.loop-place.place in
    let width = c.index-width.ensures ∙ (ap (λ xs. get_or xs p c.index-width.result.now) c.requires.plan.longest
    ∙ at_listed (longest_at nodes marks) (length nodes) p c.index-width.result.now (omega (arith, c.loop-place-test.true, c.len-place-end.ensures.len))) in
    elim c.if-width-gt0.branch [
      | then-width-gt0+in_ok-push w ↦
          ap (λ v. v.items) w.delays-is ∙ more_kept (delay_at nodes marks) (is_delayed nodes marks) p _ _ _ c.loop-place.invariant
          (ap (nat_lt 0) (sym width) ∙ is_less 0 _ w.if-width-gt0.true) w.in_ok-push.ensures.items
          (same_delay _ _ _ _ w.line-from.ensures.line width)
      | else-width-gt0 w ↦
          same_kept (delay_at nodes marks) (is_delayed nodes marks) p _ _ c.loop-place.invariant
          (ap (nat_lt 0) (sym width) ∙ is_no_less 0 _ (λ lt. omega (arith, lt, w.if-width-gt0.false))) (ap (λ v. v.items) w.delays-is)
    ]
