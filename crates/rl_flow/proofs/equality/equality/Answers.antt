use Rattle.std.proofs.Common.{◌≡◌, subst, sym, List}
use Rattle.refutation.specs.declared.tree.NamedTree.{NamedTree}
use Rattle.refutation.specs.Trees.{AreTrees}
use Rattle.refutation.specs.Spelling.{SpellsTrees}
use Rattle.refutation.specs.Text.{trees_text}
use Rattle.rl_flow.proofs.Equal.{are_trees, second_has, shown_by, equal_text, differs_at}
use Rattle.rl_flow.proofs.equality.equality.Goals as goal

pub print_tree-requires : goal.print_tree-requires
print_tree-requires c =
    subst AreTrees (sym c.deref.ensures.value)
    (are_trees c.in_ok-first.first c.in_ok-first.second c.args.budget c.in-Equal.trees.items c.rules.ensures
    (shown_by c.in_ok-first.first c.in_ok-first.second c.args.budget c.in_ok-trees.field-0 c.in-Equal.trees c.in-Equal.is c.in_ok-trees.ensures.compared))

pub returns-in-Equal-clause-text : goal.returns-in-Equal-clause-text
returns-in-Equal-clause-text c =
    equal_text c.valid_trees_show_equality.ensures c.args.first.now c.args.second.now c.in_ok-first.first c.in_ok-first.second c.args.budget c.in-Equal.trees.items c.done.result.verdict
    c.in_ok-print_tree-in-Equal.field-0.items c.done.result.text.items c.done.ensures.verdict (λ i. (c.done.ensures.text i).items) c.in_ok-first.ensures.pair c.in_ok-first.ensures.same
    (shown_by c.in_ok-first.first c.in_ok-first.second c.args.budget c.in_ok-trees.field-0 c.in-Equal.trees c.in-Equal.is c.in_ok-trees.ensures.compared)
    (subst (λ (ts : List NamedTree). SpellsTrees c.in_ok-print_tree-in-Equal.field-0.items ts) c.deref.ensures.value c.in_ok-print_tree-in-Equal.ensures.spells)
    (subst (λ (ts : List NamedTree). c.in_ok-print_tree-in-Equal.field-0.items ≡ trees_text ts) c.deref.ensures.value c.in_ok-print_tree-in-Equal.ensures.text)

pub difference_text-requires-clause-second_has : goal.difference_text-requires-clause-second_has
difference_text-requires-clause-second_has c =
    second_has c.in_ok-first.first c.in_ok-first.second c.in-Different.out c.in_ok-first.ensures.same
    (differs_at c.in_ok-first.first c.in_ok-first.second c.args.budget c.in_ok-trees.field-0 c.in-Different.out c.in-Different.times c.in-Different.is c.in_ok-trees.ensures.compared)
