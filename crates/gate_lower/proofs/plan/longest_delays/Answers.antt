use Rattle.std.proofs.Common.{◌≡◌, ◌∙◌, ◌+◌, suc, map, length, ap, arith}
use Rattle.term_store.specs.Places.{places, longest_upto}
use Rattle.gate_lower.specs.Planned.{raised}
use Rattle.gate_lower.proofs.Plans.{raised_delays, same_delays, no_delays}
use Rattle.gate_lower.proofs.plan.longest_delays.Goals as goal
use Rattle.gate_lower.proofs.plan.longest_delays.Goals.{then-marks-place, else-marks-place}

pub loop-place-init : goal.loop-place-init
loop-place-init c = no_delays c.args.store.now.nodes c.args.marks.now _ (c.in_ok-longest.ensures.len ∙ c.len-len.ensures.len) c.in_ok-longest.ensures.zero

pub loop-place-preserved : goal.loop-place-preserved
loop-place-preserved c =
    let n = c.loop-place.place in
    let nodes = c.args.store.now.nodes in
    let marks = c.args.marks.now in
    let s : suc n ≡ n + 1 = omega arith in
    elim c.if-marks-place.branch [
      | then-marks-place w ↦
          ap (λ v. v.items) w.longest-is ∙ (w.raise.ensures.raised ∙ (ap (λ m. raised m c.loop-place.longest.items) w.node.ensures.at
          ∙ (raised_delays nodes marks n _ c.loop-place.invariant w.if-marks-place.true ∙ ap (λ k. map (longest_upto nodes marks k) (places (length nodes))) s)))
      | else-marks-place w ↦
          ap (λ v. v.items) w.longest-is ∙ (same_delays nodes marks n _ c.loop-place.invariant w.if-marks-place.false ∙ ap (λ k. map (longest_upto nodes marks k) (places (length nodes))) s)
    ]
