use Rattle.std.proofs.Common.{subst, sym, ◌∙◌}
use Rattle.term_store.specs.Trees.{tree}
use Rattle.case_split.specs.declared.ending.Ending.{Ending}
use Rattle.case_split.specs.Leaves.{IsWhole, IsEnding}
use Rattle.case_split.proofs.Unsettled.{walk_differs}
use Rattle.case_split.proofs.ways.difference_on_a_way.Goals as goal

pub returns-in-Different-clause-found : goal.returns-in-Different-clause-found
returns-in-Different-clause-found c =
    let task = c.args.question.now in
    let s = c.go_on.new.stages.now in
    let a = tree task.nodes c.args.first.0 in
    let b = tree task.nodes c.args.second.0 in
    let whole : IsWhole task c.go_on.new.stages c.args.first c.args.second = record {
      is_task = c.rules.ensures;
      roots = c.requires.roots;
      inputs = sym (c.go_on.ensures.inputs ∙ c.requires.inputs);
      stage = c.in_ok-go_on.ensures.at.stage;
      whole = c.in_ok-go_on.ensures.whole;
    } in
    let apart = subst (λ (e : Ending). IsEnding task.inputs s.path a b e) c.in-Different.is (c.in_ok-numbers.ensures.ending task whole) in
    walk_differs task s a b c.in-Different.numbers.items c.in_ok-go_on.ensures.at.stage apart
