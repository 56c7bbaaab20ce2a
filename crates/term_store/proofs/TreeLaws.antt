-- The trees of a store's places.
use Rattle.std.proofs.Common.{◌≡◌, ℕ, ◌<◌, ◌+◌, refl, ap, arith, ◌∙◌, length, List, [], ◌∷◌, ◌++◌, length-append}
use Rattle.std.proofs.lemmas.List.{get_or_append_left, get_or_push}
use Rattle.std.proofs.lemmas.List.Sums.{fold-append}
use Rattle.term_store.specs.Tree.{Tree, Never}
use Rattle.term_store.specs.Terms.{tree_in}
use Rattle.term_store.specs.declared.node.Node.{Node}
use Rattle.term_store.specs.declared.node.Node.TheVariants as node
use Rattle.term_store.specs.Nodes.{IsNodeOver}
use Rattle.term_store.specs.Trees.{node_tree, trees_from, trees, tree}

-- what is there stays
pub from_prefix : (ts : List Tree) (ns : List Node) (i : ℕ) → i < length ts → tree_in (trees_from ts ns) i ≡ tree_in ts i
from_prefix ts [] i h = refl
from_prefix ts (n ∷ ns) i h =
    from_prefix (ts ++ node_tree ts n ∷ []) ns i (omega (arith, length-append ts (node_tree ts n ∷ [])))
    ∙ get_or_append_left ts (node_tree ts n ∷ []) Never i h

pub length-from : (ts : List Tree) (ns : List Node) → length (trees_from ts ns) ≡ length ts + length ns
length-from ts [] = omega arith
length-from ts (n ∷ ns) = omega (arith, length-from (ts ++ node_tree ts n ∷ []) ns, length-append ts (node_tree ts n ∷ []))

pub length-trees : (ns : List Node) → length (trees ns) ≡ length ns
length-trees ns = omega (arith, length-from [] ns)

pub trees-append : (ns ms : List Node) → trees (ns ++ ms) ≡ trees_from (trees ns) ms
trees-append ns ms = fold-append (λ done n. done ++ node_tree done n ∷ []) [] ns ms

-- more nodes change no tree that is there
pub tree_prefix : (ns ms : List Node) (i : ℕ) → i < length ns → tree (ns ++ ms) i ≡ tree ns i
tree_prefix ns ms i h = ap (λ ts. tree_in ts i) (trees-append ns ms) ∙ from_prefix (trees ns) ms i (omega (arith, length-trees ns))

-- the tree of the last node is over the trees of the others
pub tree_last : (ns : List Node) (n : Node) → tree (ns ++ n ∷ []) (length ns) ≡ node_tree (trees ns) n
tree_last ns n = ap (λ ts. tree_in ts (length ns)) (trees-append ns (n ∷ [])) ∙ get_or_push (trees ns) (node_tree (trees ns) n) Never (length ns) (length-trees ns)

-- trees that agree below a bound give a node over it one tree
pub over_agree : (m : ℕ) (ts us : List Tree) (n : Node) → IsNodeOver m n → ((i : ℕ) → i < m → tree_in ts i ≡ tree_in us i) → node_tree ts n ≡ node_tree us n
over_agree m ts us (node.Input i) over same = refl
over_agree m ts us node.Never over same = refl
over_agree m ts us (node.Min a b) over same = let p = same a.0 over.0 in let q = same b.0 over.1 in cc
over_agree m ts us (node.Max a b) over same = let p = same a.0 over.0 in let q = same b.0 over.1 in cc
over_agree m ts us (node.Lt a b) over same = let p = same a.0 over.0 in let q = same b.0 over.1 in cc
over_agree m ts us (node.Inc a c) over same = let p = same a.0 over.0 in cc
