use Rattle.std.proofs.Common.{◌<◌, ℕ, subst, sym, ◌∙◌}
use Rattle.case_split.proofs.Splitting.{split_from, split_to, split_from_cycles, split_to_cycles}
use Rattle.case_split.proofs.OneWay.{side_at}
use Rattle.case_split.proofs.ways.go_on.Goals as goal

pub take-requires-clause-from : goal.take-requires-clause-from
take-requires-clause-from c =
    let same = c.in_ok-choice.ensures.inputs ∙ c.way.invariant.inputs in
    subst (λ (n : ℕ). c.in-Some.choice.comparison.from < n) (sym same) (split_from c.args.question.now c.advance.new.stages.now c.in-Some.choice c.rules.ensures c.in_ok-choice.ensures.at (rw c.in-Some.is at c.in_ok-choice.ensures.next))

pub take-requires-clause-to : goal.take-requires-clause-to
take-requires-clause-to c =
    let same = c.in_ok-choice.ensures.inputs ∙ c.way.invariant.inputs in
    subst (λ (n : ℕ). c.in-Some.choice.comparison.to < n) (sym same) (split_to c.args.question.now c.advance.new.stages.now c.in-Some.choice c.rules.ensures c.in_ok-choice.ensures.at (rw c.in-Some.is at c.in_ok-choice.ensures.next))

pub take-requires-clause-from_cycles : goal.take-requires-clause-from_cycles
take-requires-clause-from_cycles c =
    split_from_cycles c.args.question.now c.advance.new.stages.now c.in-Some.choice c.rules.ensures c.in_ok-choice.ensures.at (rw c.in-Some.is at c.in_ok-choice.ensures.next)

pub take-requires-clause-to_cycles : goal.take-requires-clause-to_cycles
take-requires-clause-to_cycles c =
    split_to_cycles c.args.question.now c.advance.new.stages.now c.in-Some.choice c.rules.ensures c.in_ok-choice.ensures.at (rw c.in-Some.is at c.in_ok-choice.ensures.next)

pub way-preserved : goal.way-preserved
way-preserved c =
    let e = c.in_ok-choice.ensures in
    let waits = rw c.in-Some.is at e.next in
    record {
      at = side_at c.args.question.now c.advance.new.stages.now c.take.new.self.now c.in-Some.choice c.rules.ensures e.at waits _ c.in_ok-take-in-Some.ensures.now;
      inputs = c.take.ensures.inputs ∙ (e.inputs ∙ c.way.invariant.inputs);
      same = c.take.ensures.inputs ∙ (e.inputs ∙ c.way.invariant.same);
    }
