use Rattle.std.proofs.Common.{◌∙◌, ◌<◌, ◌≤◌, ℕ, ap, subst, sym, arith, List, [], ◌∷◌, length}
use Rattle.std.specs.List.{AllByRecursion}
use Rattle.case_split.specs.Decided.{IsPossible}
use Rattle.refutation.specs.declared.item.Item.{Item}
use Rattle.tree_check.specs.Valid.{root}
use Rattle.case_split.specs.declared.ending.Decision.TheVariants as decision
use Rattle.case_split.specs.Leaves.{IsWhole}
use Rattle.case_split.specs.Live.{opened}
use Rattle.case_split.specs.Stages.{Stage, Stages}
use Rattle.case_split.specs.Task.{Task, IsTask}
use Rattle.case_split.proofs.Splitting.{split_from, split_to, split_from_cycles, split_to_cycles}
use Rattle.case_split.proofs.Walking.{IsWalk, output_term, walk_begins_there, walk_advances}
use Rattle.case_split.proofs.Unsettled.{Decides, walk_equal, walk_differs, walk_undecided, all_possible, all_have_room, ending_of, walk_after, leaf_opens_none, walk_split_is, split_opens_two}
use Rattle.case_split.proofs.walk.settle.Goals as goal

pub walk-init : goal.walk-init
walk-init c =
    let task = c.new-question.result in
    let rules : IsTask task = subst (λ (t : Task). IsTask t) (sym c.new-question.ensures) c.requires.task in
    let s = c.in_ok-stages.stages in
    let here = ap (λ (s : Stages). s.now) c.in_ok-stages.ensures ∙ sym (ap (λ (t : Task). record { path = root t.premises; facts = []; forms = [] }) c.new-question.ensures) in
    record {
      inputs = ap (λ (s : Stages). s.inputs) c.in_ok-stages.ensures ∙ sym (ap (λ (t : Task). t.inputs) c.new-question.ensures);
      walk = subst (λ (i : List Item). IsWalk task i (s.now ∷ s.later)) (sym c.new-items.ensures)
          (subst (λ (ss : List Stage). IsWalk task [] (s.now ∷ ss)) (sym (ap (λ (s : Stages). s.later) c.in_ok-stages.ensures)) (walk_begins_there task s.now rules here));
      opened = ap (λ (i : List Item). opened i) (sym c.new-items.ensures);
      within = c.requires.some;
    }

pub returns-then-opened-budget : goal.returns-then-opened-budget
returns-then-opened-budget c =
    let task = c.new-question.result in
    let rules : IsTask task = subst (λ (t : Task). IsTask t) (sym c.new-question.ensures) c.requires.task in
    let e = c.in_ok-choice.ensures in
    let walk : IsWalk task c.walk.items (c.advance.new.stages.now ∷ c.walk.stages.later) = walk_advances task c.walk.items c.walk.stages.now c.advance.new.stages.now c.walk.stages.later c.walk.invariant.walk e.at e.path e.fewer in
    let waits = rw c.in-Some-2.is at e.next in
    let within = c.walk.invariant.opened in
    let later = ap (λ (ss : List Stage). length ss) e.later in
    subst (λ (t : Task). Decides t c.args.budget (decision.Undecided c.in_ok-left_open-in-Some-2.field-0)) c.new-question.ensures
    (subst (λ (i : List Item). Decides task c.args.budget (decision.Undecided i)) (sym c.in_ok-left_open-in-Some-2.ensures)
    (walk_undecided task c.walk.items c.advance.new.stages.now c.walk.stages.later c.in-Some-2.choice c.args.budget rules walk waits (omega arith) (omega arith) _ (omega (arith, later))))

pub split_on-requires-clause-from_cycles : goal.split_on-requires-clause-from_cycles
split_on-requires-clause-from_cycles c =
    let task = c.new-question.result in
    let rules : IsTask task = subst (λ (t : Task). IsTask t) (sym c.new-question.ensures) c.requires.task in
    split_from_cycles task c.advance.new.stages.now c.in-Some-2.choice rules c.in_ok-choice.ensures.at (rw c.in-Some-2.is at c.in_ok-choice.ensures.next)

pub split_on-requires-clause-to_cycles : goal.split_on-requires-clause-to_cycles
split_on-requires-clause-to_cycles c =
    let task = c.new-question.result in
    let rules : IsTask task = subst (λ (t : Task). IsTask t) (sym c.new-question.ensures) c.requires.task in
    split_to_cycles task c.advance.new.stages.now c.in-Some-2.choice rules c.in_ok-choice.ensures.at (rw c.in-Some-2.is at c.in_ok-choice.ensures.next)

pub split-requires-clause-from_cycles : goal.split-requires-clause-from_cycles
split-requires-clause-from_cycles c =
    let task = c.new-question.result in
    let rules : IsTask task = subst (λ (t : Task). IsTask t) (sym c.new-question.ensures) c.requires.task in
    split_from_cycles task c.advance.new.stages.now c.in-Some-2.choice rules c.in_ok-choice.ensures.at (rw c.in-Some-2.is at c.in_ok-choice.ensures.next)

pub split-requires-clause-to_cycles : goal.split-requires-clause-to_cycles
split-requires-clause-to_cycles c =
    let task = c.new-question.result in
    let rules : IsTask task = subst (λ (t : Task). IsTask t) (sym c.new-question.ensures) c.requires.task in
    split_to_cycles task c.advance.new.stages.now c.in-Some-2.choice rules c.in_ok-choice.ensures.at (rw c.in-Some-2.is at c.in_ok-choice.ensures.next)

pub split-requires-clause-from : goal.split-requires-clause-from
split-requires-clause-from c =
    let task = c.new-question.result in
    let rules : IsTask task = subst (λ (t : Task). IsTask t) (sym c.new-question.ensures) c.requires.task in
    let same = c.in_ok-choice.ensures.inputs ∙ c.walk.invariant.inputs in
    subst (λ (n : ℕ). c.in-Some-2.choice.comparison.from < n) (sym same) (split_from task c.advance.new.stages.now c.in-Some-2.choice rules c.in_ok-choice.ensures.at (rw c.in-Some-2.is at c.in_ok-choice.ensures.next))

pub split-requires-clause-to : goal.split-requires-clause-to
split-requires-clause-to c =
    let task = c.new-question.result in
    let rules : IsTask task = subst (λ (t : Task). IsTask t) (sym c.new-question.ensures) c.requires.task in
    let same = c.in_ok-choice.ensures.inputs ∙ c.walk.invariant.inputs in
    subst (λ (n : ℕ). c.in-Some-2.choice.comparison.to < n) (sym same) (split_to task c.advance.new.stages.now c.in-Some-2.choice rules c.in_ok-choice.ensures.at (rw c.in-Some-2.is at c.in_ok-choice.ensures.next))

pub walk-preserved-in-Some-2 : goal.walk-preserved-in-Some-2
walk-preserved-in-Some-2 c =
    let task = c.new-question.result in
    let rules : IsTask task = subst (λ (t : Task). IsTask t) (sym c.new-question.ensures) c.requires.task in
    let e = c.in_ok-choice.ensures in
    let walk : IsWalk task c.walk.items (c.advance.new.stages.now ∷ c.walk.stages.later) = walk_advances task c.walk.items c.walk.stages.now c.advance.new.stages.now c.walk.stages.later c.walk.invariant.walk e.at e.path e.fewer in
    let waits = rw c.in-Some-2.is at e.next in
    let two = split_opens_two c.walk.items c.push.new.self _ _ _ _ c.split_on.ensures c.in_ok-push-in-Some-2.ensures in
    let so_far = c.walk.invariant.opened in
    record {
      inputs = c.split.ensures.inputs ∙ (e.inputs ∙ c.walk.invariant.inputs);
      walk = walk_split_is task c.walk.items c.push.new.self c.advance.new.stages.now c.split.new.self.now c.walk.stages.later c.split.new.self.later c.advance.new.stages.later c.in-Some-2.choice _ rules walk waits
          c.split_on.ensures c.in_ok-push-in-Some-2.ensures c.in_ok-split-in-Some-2.ensures.now c.in_ok-split-in-Some-2.ensures.later e.later;
      opened = omega (arith, two, so_far);
      within = omega arith;
    }

pub returns-in-Different : goal.returns-in-Different
returns-in-Different c =
    let task = c.new-question.result in
    let rules : IsTask task = subst (λ (t : Task). IsTask t) (sym c.new-question.ensures) c.requires.task in
    let e = c.in_ok-choice.ensures in
    let roots = ap (λ (t : Task). t.roots) c.new-question.ensures in
    let whole : IsWhole task c.advance.new.stages c.args.first c.args.second = record {
      is_task = rules;
      roots = roots;
      inputs = sym (e.inputs ∙ c.walk.invariant.inputs);
      stage = e.at.stage;
      whole = rw c.in-None.is at e.next;
    } in
    let apart = ending_of task c.args.first c.args.second c.advance.new.stages.now.path _ _ roots (c.in_ok-numbers-in-None.ensures.ending task whole) c.in-Different.is in
    subst (λ (t : Task). Decides t c.args.budget (decision.Different c.in-Different.numbers)) c.new-question.ensures
    (walk_differs task c.advance.new.stages.now (output_term task 0) (output_term task 1) c.in-Different.numbers.items e.at.stage apart)

pub back-requires-clause-possible : goal.back-requires-clause-possible
back-requires-clause-possible c =
    let same = c.in_ok-numbers-in-None.ensures.later ∙ c.in_ok-choice.ensures.later in
    subst (λ (ss : List Stage). AllByRecursion (λ s. IsPossible s.path) ss) (sym same) (all_possible c.new-question.result c.walk.stages.later c.walk.invariant.walk.at.1)

pub back-requires-clause-room : goal.back-requires-clause-room
back-requires-clause-room c =
    let rules : IsTask c.new-question.result = subst (λ (t : Task). IsTask t) (sym c.new-question.ensures) c.requires.task in
    let same = c.in_ok-numbers-in-None.ensures.later ∙ c.in_ok-choice.ensures.later in
    subst (λ (ss : List Stage). AllByRecursion (λ s. length s.path ≤ 65536) ss) (sym same) (all_have_room c.new-question.result c.walk.stages.later rules c.walk.invariant.walk.at.1)

pub returns-then-not-branch : goal.returns-then-not-branch
returns-then-not-branch c =
    let task = c.new-question.result in
    let rules : IsTask task = subst (λ (t : Task). IsTask t) (sym c.new-question.ensures) c.requires.task in
    let e = c.in_ok-choice.ensures in
    let roots = ap (λ (t : Task). t.roots) c.new-question.ensures in
    let whole : IsWhole task c.advance.new.stages c.args.first c.args.second = record {
      is_task = rules;
      roots = roots;
      inputs = sym (e.inputs ∙ c.walk.invariant.inputs);
      stage = e.at.stage;
      whole = rw c.in-None.is at e.next;
    } in
    let walk : IsWalk task c.walk.items (c.advance.new.stages.now ∷ c.walk.stages.later) = walk_advances task c.walk.items c.walk.stages.now c.advance.new.stages.now c.walk.stages.later c.walk.invariant.walk e.at e.path e.fewer in
    let end = ending_of task c.args.first c.args.second c.advance.new.stages.now.path _ _ roots (c.in_ok-numbers-in-None.ensures.ending task whole) c.in-Equal.is in
    let same = c.in_ok-numbers-in-None.ensures.later ∙ e.later in
    let after = walk_after task c.walk.items c.push-in-Equal.new.self c.advance.new.stages.now c.walk.stages.later c.judge.new.stages.later c.in-Equal.facts walk end c.in_ok-push-in-Equal.ensures same in
    let none = rw c.if-not-branch.true at c.in_ok-back-in-Equal.ensures.next in
    let opens = leaf_opens_none c.walk.items c.push-in-Equal.new.self c.in-Equal.facts c.in_ok-push-in-Equal.ensures in
    let so_far = c.walk.invariant.opened in
    subst (λ (t : Task). Decides t c.args.budget (decision.Equal c.push-in-Equal.new.self)) c.new-question.ensures
    (walk_equal task c.push-in-Equal.new.self c.args.budget (subst (λ (ss : List Stage). IsWalk task c.push-in-Equal.new.self ss) none after) (omega (arith, opens, so_far)) c.requires.few)

pub walk-preserved : goal.walk-preserved
walk-preserved c =
    let task = c.new-question.result in
    let rules : IsTask task = subst (λ (t : Task). IsTask t) (sym c.new-question.ensures) c.requires.task in
    let e = c.in_ok-choice.ensures in
    let roots = ap (λ (t : Task). t.roots) c.new-question.ensures in
    let whole : IsWhole task c.advance.new.stages c.args.first c.args.second = record {
      is_task = rules;
      roots = roots;
      inputs = sym (e.inputs ∙ c.walk.invariant.inputs);
      stage = e.at.stage;
      whole = rw c.in-None.is at e.next;
    } in
    let walk : IsWalk task c.walk.items (c.advance.new.stages.now ∷ c.walk.stages.later) = walk_advances task c.walk.items c.walk.stages.now c.advance.new.stages.now c.walk.stages.later c.walk.invariant.walk e.at e.path e.fewer in
    let end = ending_of task c.args.first c.args.second c.advance.new.stages.now.path _ _ roots (c.in_ok-numbers-in-None.ensures.ending task whole) c.in-Equal.is in
    let same = c.in_ok-numbers-in-None.ensures.later ∙ e.later in
    let after = walk_after task c.walk.items c.push-in-Equal.new.self c.advance.new.stages.now c.walk.stages.later c.judge.new.stages.later c.in-Equal.facts walk end c.in_ok-push-in-Equal.ensures same in
    let some = rw c.if-not-branch.false at c.in_ok-back-in-Equal.ensures.next in
    let opens = leaf_opens_none c.walk.items c.push-in-Equal.new.self c.in-Equal.facts c.in_ok-push-in-Equal.ensures in
    let so_far = c.walk.invariant.opened in
    record {
      inputs = c.back.ensures.inputs ∙ (c.judge.ensures.inputs ∙ (e.inputs ∙ c.walk.invariant.inputs));
      walk = subst (λ (ss : List Stage). IsWalk task c.push-in-Equal.new.self ss) some after;
      opened = omega (arith, opens, so_far);
      within = omega arith;
    }
