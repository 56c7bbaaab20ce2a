use Rattle.std.proofs.Common.{subst, sym, List, arith}
use Rattle.std.specs.Prelude.{pos, neg_ℤ, ◌-ℤ◌}
use Rattle.std.proofs.lemmas.Int.{ints}
use Rattle.refutation.specs.declared.item.Fact.{Fact}
use Rattle.refutation.specs.Path.{MeetsAll}
use Rattle.case_split.specs.Decided.{AreRight}
use Rattle.case_split.specs.Stages.{Stages}
use Rattle.case_split.specs.Steps.{width}
use Rattle.case_split.proofs.Implied.{right_more, within_refutes, beyond_refutes, answered_no, open_where, implies_same, yes_is_possible, no_is_possible}
use Rattle.case_split.proofs.stages.Stages.answer.Goals as goal

pub returns-then-branch-2-clause-answer : goal.returns-then-branch-2-clause-answer
returns-then-branch-2-clause-answer c =
    let path = c.args.self.now.now.path in
    let f = c.in_ok-shows-2.ensures.facts in
    let right : AreRight path c.shows-else-is_kept.new.self.now.facts =
    subst (λ (fs : List Fact). AreRight path fs) (sym f.1) (right_more path c.args.self.now.now.facts f.0 c.requires.right f.2) in
    let kept = c.if-is_kept.ensures in
    let meets = subst (λ (s : Stages). MeetsAll kept.0 s.now.path) c.self.view_is kept.1 in
    answered_no path c.shows-else-is_kept.new.self.now.facts c.args.comparison.from c.args.comparison.from_cycles c.args.comparison.to c.args.comparison.to_cycles _ right c.if-comparison.false
    (omega (arith, ints)) (rw c.if-branch-2.true at c.in_ok-shows-2.ensures.shown)
    (beyond_refutes path kept.0 c.args.comparison.from c.args.comparison.to _ (pos c.args.comparison.to_cycles -ℤ pos c.args.comparison.from_cycles) meets kept.2 (omega (arith, ints)))

pub returns-else-branch-clause-answer : goal.returns-else-branch-clause-answer
returns-else-branch-clause-answer c =
    let path = c.args.self.now.now.path in
    let kept = c.if-is_kept.ensures in
    let meets = subst (λ (s : Stages). MeetsAll kept.0 s.now.path) c.self.view_is kept.1 in
    open_where path c.args.comparison c.if-comparison.false
    (implies_same path c.args.comparison.from c.args.comparison.to _ (width c.args.comparison) (omega (arith, ints)) (rw c.if-branch.false at c.in_ok-shows.ensures.shown))
    (within_refutes path kept.0 c.args.comparison.from c.args.comparison.to _ (neg_ℤ (width c.args.comparison) -ℤ pos 1) meets kept.2 (omega (arith, ints)))

pub returns-else-branch-clause-sides : goal.returns-else-branch-clause-sides
returns-else-branch-clause-sides c =
    let path = c.args.self.now.now.path in
    let kept = c.if-is_kept.ensures in
    let meets = subst (λ (s : Stages). MeetsAll kept.0 s.now.path) c.self.view_is kept.1 in
    let none_yes = implies_same path c.args.comparison.from c.args.comparison.to _ (width c.args.comparison) (omega (arith, ints)) (rw c.if-branch.false at c.in_ok-shows.ensures.shown) in
    let none_no = within_refutes path kept.0 c.args.comparison.from c.args.comparison.to _ (neg_ℤ (width c.args.comparison) -ℤ pos 1) meets kept.2 (omega (arith, ints)) in
    (yes_is_possible path c.args.comparison none_yes none_no, no_is_possible path c.args.comparison none_yes none_no)

pub returns-else-branch-2-clause-answer : goal.returns-else-branch-2-clause-answer
returns-else-branch-2-clause-answer c =
    let path = c.args.self.now.now.path in
    let kept = c.if-is_kept.ensures in
    let meets = subst (λ (s : Stages). MeetsAll kept.0 s.now.path) c.self.view_is kept.1 in
    open_where path c.args.comparison c.if-comparison.false
    (beyond_refutes path kept.0 c.args.comparison.from c.args.comparison.to _ (width c.args.comparison) meets kept.2 (omega (arith, ints)))
    (implies_same path c.args.comparison.to c.args.comparison.from _ (neg_ℤ (width c.args.comparison) -ℤ pos 1) (omega (arith, ints)) (rw c.if-branch-2.false at c.in_ok-shows-2.ensures.shown))

pub returns-else-branch-2-clause-sides : goal.returns-else-branch-2-clause-sides
returns-else-branch-2-clause-sides c =
    let path = c.args.self.now.now.path in
    let kept = c.if-is_kept.ensures in
    let meets = subst (λ (s : Stages). MeetsAll kept.0 s.now.path) c.self.view_is kept.1 in
    let none_yes = beyond_refutes path kept.0 c.args.comparison.from c.args.comparison.to _ (width c.args.comparison) meets kept.2 (omega (arith, ints)) in
    let none_no = implies_same path c.args.comparison.to c.args.comparison.from _ (neg_ℤ (width c.args.comparison) -ℤ pos 1) (omega (arith, ints)) (rw c.if-branch-2.false at c.in_ok-shows-2.ensures.shown) in
    (yes_is_possible path c.args.comparison none_yes none_no, no_is_possible path c.args.comparison none_yes none_no)
