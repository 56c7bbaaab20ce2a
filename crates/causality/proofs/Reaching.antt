-- The term of an output, in what it reaches, has the output's times.
use Rattle.std.proofs.Common.{◌≡◌, ℕ, ◌<◌, List, [], ◌∷◌, length, get_or, ap, sym, ◌∙◌, arith}
use Rattle.std.proofs.lemmas.List.{length-map, get_or-map}
use Rattle.rl_time.specs.declared.time.Time.{Time}
use Rattle.rl_time.specs.declared.time.Time.TheVariants as time
use Rattle.net_model.specs.Formula.{Net, Equation}
use Rattle.term_store.specs.declared.node.Term.{Term}
use Rattle.term_store.specs.declared.node.Node.{Node}
use Rattle.term_store.specs.Tree.{Tree, Never, value}
use Rattle.term_store.specs.Terms.{network_trees, tree_in, tree_over, let_trees}
use Rattle.term_store.specs.Trees.{tree, trees_at}
use Rattle.term_store.specs.Laws.{HaveItsValues}
use Rattle.spike_eval.specs.Outputs.{output_function}

abbrev at_term : List Node → Term → Tree
at_term nodes t = tree nodes t.0

tree_there : (nodes : List Node) (terms : List Term) (i : ℕ) (d : Term) → i < length terms → tree_in (trees_at nodes terms) i ≡ tree nodes (get_or terms i d).0
tree_there nodes terms i d lt = get_or-map (at_term nodes) terms i d Never lt

pub output_is : (n : Net) (x : List Time) (out : ℕ) (nodes part : List Node) (outputs places : List Term) (root place : Term) → HaveItsValues n → out < length n.outputs → trees_at nodes outputs ≡ network_trees n
    → root ≡ get_or outputs out root → trees_at part places ≡ trees_at nodes (root ∷ []) → place ≡ get_or places 0 place → value x (tree part place.0) ≡ output_function n out x
output_is n x out nodes part outputs places root place law lt terms root_is kept place_is =
    let many_terms : length (network_trees n) ≡ length n.outputs = length-map n.outputs (λ (e : Equation). tree_over (let_trees n.lets) e.body) in
    let many : length outputs ≡ length n.outputs = sym (length-map outputs (at_term nodes)) ∙ ap length terms ∙ many_terms in
    let one : length places ≡ 1 = sym (length-map places (at_term part)) ∙ ap length kept in
    ap (value x) (ap (at_term part) place_is ∙ sym (tree_there part places 0 place (omega (arith, one))) ∙ ap (λ ts. tree_in ts 0) kept ∙ ap (at_term nodes) root_is ∙ sym (tree_there nodes outputs out root (omega (arith, many, lt))) ∙ ap (λ ts. tree_in ts out) terms)
    ∙ sym (get_or-map (value x) (network_trees n) out Never time.Never (omega (arith, many_terms, lt))) ∙ ap (λ times. get_or times out time.Never) (law x)
