use Rattle.std.proofs.Common.{◌≡◌, ◌∙◌, ap, arith, length, map}
use Rattle.gate_lower.specs.Lowered.{gate_number}
use Rattle.gate_lower.specs.Planned.{count_positive}
use Rattle.term_store.specs.Places.{places, longest_at}
use Rattle.gate_lower.proofs.Places.{length_listed}
use Rattle.gate_lower.proofs.Plans.{marks_are, counted_all}
use Rattle.gate_lower.proofs.plan.make_plan.Goals as goal

pub delay_numbers-requires : goal.delay_numbers-requires
delay_numbers-requires c =
    let nodes = c.args.store.now.nodes in
    let l : length c.in_ok-longest.longest.items ≡ length nodes = ap length c.in_ok-longest.ensures.longest ∙ length_listed (longest_at nodes c.deref.result.now) (length nodes) in
    record { few = omega (arith, l, ap length c.deref-3.ensures.value, c.rules.ensures.rules.few) }

pub returns-clause-marks : goal.returns-clause-marks
returns-clause-marks c = marks_are c.args.store.now.nodes c.args.roots.now _ c.in_ok-marks.ensures.len c.in_ok-marks.ensures.marks

pub returns-clause-plan : goal.returns-clause-plan
returns-clause-plan c =
    let nodes = c.args.store.now.nodes in
    let longest = c.in_ok-longest.ensures.longest ∙ ap (λ m. map (longest_at nodes m) (places (length nodes))) c.deref.ensures.value in
    record {
      marks = c.in_ok-marks.ensures.len;
      longest = longest;
      gate_numbers = c.in_ok-gate_numbers.ensures.numbers ∙ ap (λ m. map (gate_number nodes m) (places (length nodes))) c.deref-2.ensures.value;
      delay_numbers = c.in_ok-delay_numbers.ensures.numbers ∙ (ap (λ xs. map (count_positive xs) (places (length xs))) c.deref-3.ensures.value ∙ counted_all nodes c.in_ok-marks.marks.items c.in_ok-longest.longest.items longest);
    }
