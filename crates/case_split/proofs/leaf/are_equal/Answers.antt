use Rattle.std.proofs.lemmas.Bool.{MatchBool-at_true, MatchBool-at_false}
use Rattle.std.proofs.lemmas.Result.{on_ok_weaker}
use Rattle.case_split.proofs.Judged.{no_first, second_answer, after_twice}
use Rattle.case_split.proofs.leaf.are_equal.Goals as goal

pub returns-then-not-branch-clause-equal : goal.returns-then-not-branch-clause-equal
returns-then-not-branch-clause-equal c = λ x m.
    no_first x c.args.f c.args.g c.in-Plus-Plus.i c.in-Plus-Plus.c c.in-Plus-Plus.j c.in-Plus-Plus.d c.comparison.result c.in-Plus-Plus.is-0 c.in-Plus-Plus.is-1 c.comparison.ensures
    (MatchBool-at_false _ _ c.if-not-branch.true c.in_ok-is_so-in-Plus-Plus.ensures.yes x m)

pub returns-else-not-branch-clause-facts : goal.returns-else-not-branch-clause-facts
returns-else-not-branch-clause-facts c =
    let yes = MatchBool-at_true _ _ c.if-not-branch.false c.in_ok-is_so-in-Plus-Plus.ensures.yes in
    on_ok_weaker c.is_so-in-Plus-Plus.result
    (after_twice c.args.stages.now.now.path c.is_so.new.stages.now.path c.args.stages.now.inputs c.is_so.new.stages.inputs c.args.stages.now.now.facts c.is_so.new.stages.now.facts c.is_so-in-Plus-Plus.new.stages.now.facts
    yes.0 c.is_so.ensures.inputs c.in_ok-is_so-in-Plus-Plus.ensures.facts)
    c.is_so-in-Plus-Plus.ensures.facts

pub returns-else-not-branch-clause-equal : goal.returns-else-not-branch-clause-equal
returns-else-not-branch-clause-equal c =
    let yes = MatchBool-at_true _ _ c.if-not-branch.false c.in_ok-is_so-in-Plus-Plus.ensures.yes in
    second_answer c.is_so-in-Plus-Plus.result c.args.stages.now.now.path c.is_so.new.stages.now.path c.is_so-in-Plus-Plus.new.stages.now.path c.is_so.new.stages.inputs c.args.f c.args.g c.in-Plus-Plus.i c.in-Plus-Plus.c c.in-Plus-Plus.j c.in-Plus-Plus.d
    c.comparison.result c.comparison-in-Plus-Plus.result c.in-Plus-Plus.is-0 c.in-Plus-Plus.is-1 c.comparison.ensures c.comparison-in-Plus-Plus.ensures
    c.is_so.new.stages.now.facts c.is_so-in-Plus-Plus.new.stages.now.facts yes.1 c.is_so-in-Plus-Plus.ensures.facts c.is_so-in-Plus-Plus.ensures.yes
