use Rattle.std.proofs.Common.{◌≡◌, ◌∙◌, ◌++◌, [], drop, arith}
use Rattle.std.specs.Bool.{MatchBool}
use Rattle.refutation.specs.Cases.{below}
use Rattle.tree_check.specs.Valid.{outputs}
use Rattle.tree_check.proofs.Walks.{flaw_of_outputs, past_all, past_to}
use Rattle.tree_check.proofs.walk.walk.Goals as goal

pub returns-then-not-branch : goal.returns-then-not-branch
returns-then-not-branch c =
    let none = flaw_of_outputs c.loop-item.one c.loop-item.other c.args.first.now c.args.second.now c.args.out c.path.result.now c.item-item.result c.loop-item.invariant.one c.loop-item.invariant.other c.in_default.ensures.flaw in
    let stepped : MatchBool c.in_ok-step.field-0 (c.step.new.stack ≡ below c.path.result.now c.item-item.result ++ drop 1 c.loop-item.stack) (below c.path.result.now c.item-item.result ++ drop 1 c.loop-item.stack ≡ []) =
    c.in_ok-step.ensures c.path.result.now (drop 1 c.loop-item.stack) c.path.ensures.first in
    let ended = rw c.if-not-branch.true at stepped in
    past_all (outputs c.args.first.now c.args.second.now c.args.out) c.loop-item.stack c.path.result.now (drop 1 c.loop-item.stack) c.loop-item.place c.loop-item.item-index c.args.items.now c.item-item.result
    c.path.ensures.first c.loop-item-test.true c.item-item.is none ended ∙ c.loop-item.invariant.rest

pub loop-item-preserved : goal.loop-item-preserved
loop-item-preserved c =
    let none = flaw_of_outputs c.loop-item.one c.loop-item.other c.args.first.now c.args.second.now c.args.out c.path.result.now c.item-item.result c.loop-item.invariant.one c.loop-item.invariant.other c.in_default.ensures.flaw in
    let stepped : MatchBool c.in_ok-step.field-0 (c.step.new.stack ≡ below c.path.result.now c.item-item.result ++ drop 1 c.loop-item.stack) (below c.path.result.now c.item-item.result ++ drop 1 c.loop-item.stack ≡ []) =
    c.in_ok-step.ensures c.path.result.now (drop 1 c.loop-item.stack) c.path.ensures.first in
    let more = rw c.if-not-branch.false at stepped in
    let here = c.loop-item.invariant.here in
    record {
      here = omega (arith, here);
      older = c.item_flaw.ensures.stamp;
      one = c.item_flaw.ensures.same_first ∙ c.loop-item.invariant.one;
      other = c.item_flaw.ensures.same_second ∙ c.loop-item.invariant.other;
      rest = past_to (outputs c.args.first.now c.args.second.now c.args.out) c.loop-item.stack c.path.result.now (drop 1 c.loop-item.stack) c.loop-item.place c.loop-item.item-index c.args.items.now c.item-item.result
          c.path.ensures.first c.loop-item-test.true c.item-item.is none c.step.new.stack more ∙ c.loop-item.invariant.rest;
    }
