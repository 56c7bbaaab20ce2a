use Rattle.std.proofs.Common.{sym, subst}
use Rattle.refutation.specs.Cases.{Path}
use Rattle.case_split.specs.Decided.{AreRight}
use Rattle.case_split.proofs.Judged.{answered, right_append, at_some, at_none, side_bound, possible_at, last_at}
use Rattle.case_split.proofs.leaf.is_so.Goals as goal

pub returns-in-Some-clause-yes : goal.returns-in-Some-clause-yes
returns-in-Some-clause-yes c =
    let after = c.in_ok-answer.ensures.facts in
    answered c.in-Some.answer c.args.stages.now.now.path c.answer.new.self.now.path c.answer.new.self.now.facts c.args.comparison.from c.args.comparison.from_cycles c.args.comparison.to c.args.comparison.to_cycles
    (subst (λ (p : Path). AreRight p c.answer.new.self.now.facts) (sym c.answer.ensures.path)
    (subst (AreRight c.args.stages.now.now.path) (sym after.1) (right_append c.args.stages.now.now.path c.args.stages.now.now.facts after.0 c.requires.right after.2)))
    c.answer.ensures.path (at_some _ _ c.in_ok-answer.field-0 c.in-Some.answer c.in-Some.is c.in_ok-answer.ensures.answer)

pub assume-requires-clause-possible : goal.assume-requires-clause-possible
assume-requires-clause-possible c =
    possible_at c.args.stages.now.now.path c.answer.new.self.now.path c.args.comparison.to c.args.comparison.from _ _ c.answer.ensures.path
    (side_bound c.from.result c.from-2.result c.args.comparison.from_cycles c.args.comparison.to_cycles c.from.ensures c.from-2.ensures c.requires.from_cycles c.requires.to_cycles)
    (at_none _ _ c.in_ok-answer.field-0 c.in_default.is c.in_ok-answer.ensures.sides).1

pub returns-clause-yes : goal.returns-clause-yes
returns-clause-yes c = λ x m.
    last_at x c.answer.new.self.now.path c.assume.new.self.now.path c.args.comparison.to c.args.comparison.from c.args.comparison.from_cycles c.args.comparison.to_cycles _ c.in_ok-assume.ensures.path
    (side_bound c.from.result c.from-2.result c.args.comparison.from_cycles c.args.comparison.to_cycles c.from.ensures c.from-2.ensures c.requires.from_cycles c.requires.to_cycles) m
