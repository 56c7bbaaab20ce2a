-- Bytes have at most one text of a simplified network.
use Rattle.std.proofs.Common.{◌≡◌, ℕ, ◌<◌, List, [], ◌∷◌, length, map, refl, sym, ◌∙◌, ap, subst, arith}
use Rattle.std.specs.List.{All}
use Rattle.net_model.specs.Formula.{Net}
use Rattle.net_model.specs.Rules.{names_of}
use Rattle.net_model.specs.Text.{network_text}
use Rattle.net_lang.specs.Spelling.{SpellsNetwork}
use Rattle.term_store.specs.declared.node.Term.{Term}
use Rattle.term_store.specs.declared.node.Node.{Node}
use Rattle.term_store.specs.declared.node.Node.TheVariants.{Never}
use Rattle.term_store.specs.Tree.{Tree}
use Rattle.term_store.specs.Terms.{tree_in, network_trees}
use Rattle.term_store.specs.Nodes.{node_at, IsNodes}
use Rattle.term_store.specs.Trees.{plant, tree, trees, node_tree, trees_at}
use Rattle.term_store.specs.Laws.{AreApart}
use Rattle.term_store.specs.Compacted.{reached_trees}
use Rattle.term_store.specs.Extracted.{extracted}
use Rattle.term_store.proofs.Distinct.{tree_is, distinct_trees, over_inj}
use Rattle.term_store.proofs.TreeLaws.{length-trees}
use Rattle.term_store.proofs.ListedPlaces.{same_list}
use Rattle.gate_lower.specs.Networks.{planted}
use Rattle.simplify.specs.Simplified.{simplified}
use Rattle.rl_jobs.specs.Readings.{IsReading}
use Rattle.rl_jobs.specs.Sources.{IsNoNetwork}
use Rattle.rl_jobs.specs.Simplification.{HasOrder, IsSimplified, IsSimplifiedText}
use Rattle.rl_jobs.proofs.OneText.{one_places}

-- stores with the same terms are the same
one_nodes : (a b : List Node) → IsNodes a → IsNodes b → trees a ≡ trees b → a ≡ b
one_nodes a b s t e =
    let len : length a ≡ length b = sym (length-trees a) ∙ ap length e ∙ length-trees b in
    same_list a b Never len (λ k h.
    let hb : k < length b = omega (arith, h, len) in
    let same : node_tree (trees a) (node_at a k) ≡ node_tree (trees a) (node_at b k) =
    sym (tree_is a k s h) ∙ ap (λ ts. tree_in ts k) e ∙ tree_is b k t hb ∙ ap (λ ts. node_tree ts (node_at b k)) (sym e) in
    over_inj (trees a) k k (node_at a k) (node_at b k) (s.lower k h) (t.lower k hb) (λ x y hx hy f. distinct_trees a s x y (omega (arith, hx, h)) (omega (arith, hy, h)) f) same)

one_order : ((nodes : List Node) → IsNodes nodes → AreApart nodes) → (n l m : Net) → HasOrder n l → HasOrder n m → l ≡ m
one_order apart n l m x y =
    let roots : x.roots ≡ y.roots = one_places (planted n) (apart (planted n) x.is_store) x.roots y.roots x.within y.within (x.roots_are ∙ sym y.roots_are) in
    let later : x.later ≡ y.later = x.later_is ∙ ap (λ rs. plant (planted n) (map simplified (reached_trees (planted n) rs))) roots ∙ sym y.later_is in
    let within : All (λ r. r.0 < length y.later) x.simple = subst (λ (ns : List Node). All (λ r. r.0 < length ns) x.simple) later x.simple_within in
    let terms : trees_at y.later x.simple ≡ map simplified (network_trees n) = subst (λ (ns : List Node). trees_at ns x.simple ≡ map simplified (network_trees n)) later x.simple_are in
    let simple : x.simple ≡ y.simple = one_places y.later (apart y.later y.is_later) x.simple y.simple within y.simple_within (terms ∙ sym y.simple_are) in
    let left_trees : trees x.left ≡ trees y.left = x.left_is ∙ ap (λ (ns : List Node). reached_trees ns x.simple) later ∙ ap (reached_trees y.later) simple ∙ sym y.left_is in
    let left : x.left ≡ y.left = one_nodes x.left y.left x.is_left y.is_left left_trees in
    let low : All (λ r. r.0 < length y.left) x.places = subst (λ (ns : List Node). All (λ r. r.0 < length ns) x.places) left x.places_within in
    let outs : trees_at y.left x.places ≡ map simplified (network_trees n) = subst (λ (ns : List Node). trees_at ns x.places ≡ map simplified (network_trees n)) left x.places_are in
    let places : x.places ≡ y.places = one_places y.left (apart y.left y.is_left) x.places y.places low y.places_within (outs ∙ sym y.places_are) in
    x.network_is ∙ ap (λ (ns : List Node). extracted ns x.places n.inputs (names_of n.outputs)) left
    ∙ ap (λ (ps : List Term). extracted y.left ps n.inputs (names_of n.outputs)) places ∙ sym y.network_is

pub one_simplified_text : ((file : ℕ) → IsReading SpellsNetwork (IsNoNetwork file)) → ((nodes : List Node) → IsNodes nodes → AreApart nodes)
    → (bytes a b : List ℕ) → IsSimplifiedText bytes a → IsSimplifiedText bytes b → a ≡ b
one_simplified_text h apart bytes a b x y =
    let same : x.network ≡ y.network = (h 1).one bytes x.network y.network x.read y.read in
    x.written
    ∙ (ap network_text (one_order apart y.network x.simple y.simple (subst (λ (n : Net). HasOrder n x.simple) same x.is.order) y.is.order) ∙ sym y.written)
