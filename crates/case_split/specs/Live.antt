-- Trees with open items, in which every split is needed.
use Rattle.std.specs.Prelude.{◌≡◌, ℕ, pos, ◌-ℤ◌, ◌+◌, ◌*◌, ◌⊎◌, IsTrue, List, [], ◌∷◌}
use Rattle.net_model.specs.declared.assume.Assume.{Assume}
use Rattle.refutation.specs.declared.item.Item.{Item}
use Rattle.refutation.specs.declared.item.Item.TheVariants as item
use Rattle.refutation.specs.Cases.{Path, EachOnPath, OneOnPath}
use Rattle.term_store.specs.Tree.{Tree, Min, Max, Lt}
use Rattle.term_store.specs.Terms.{network_trees, tree_in}
use Rattle.term_store.specs.Subterms.{is_among, all_subterms}
use Rattle.tree_check.specs.Valid.{Pair, root}
use Rattle.case_split.specs.Decided.{IsPlus, IsOpen, IsUndecided}

-- the terms of the two outputs
abbrev pub pair_terms : Pair → List Tree
pair_terms pair = tree_in (network_trees pair.first) pair.place ∷ tree_in (network_trees pair.second) pair.place ∷ []

-- the operator chooses by whether a is at most b
abbrev pub Compares : Tree → Tree → Tree → Type 0
Compares t a b = (t ≡ Min a b) ⊎ ((t ≡ Max a b) ⊎ (t ≡ Lt b a))

-- x_i + c <= x_j + d is the comparison by which an operator of the terms chooses, its operands being decided, and the path doesn't decide it
pub record IsDue (terms : List Tree) (path : Path) (i c j d : ℕ) : Type 0 where
  pub operator : Tree
  pub a : Tree
  pub b : Tree
  pub part : IsTrue (is_among operator (all_subterms terms))
  pub compares : Compares operator a b
  pub a_is : IsPlus path a i c
  pub b_is : IsPlus path b j d
  pub undecided : IsOpen path i c j d

-- each split is due
abbrev pub IsDueItem : List Tree → Path → Item → Type 0
IsDueItem terms path (item.Split i j w) = (c d : ℕ) × (w ≡ (pos d -ℤ pos c)) × IsDue terms path i c j d
IsDueItem terms path (item.Leaf facts) = Unit {0}
IsDueItem terms path (item.Closed chain) = Unit {0}
IsDueItem terms path item.Unsettled = Unit {0}

-- an open item, where one of the terms is undecided
abbrev pub IsUnsettledItem : List Tree → Path → Item → Type 0
IsUnsettledItem terms path (item.Split i j w) = ⊥
IsUnsettledItem terms path (item.Leaf facts) = ⊥
IsUnsettledItem terms path (item.Closed chain) = ⊥
IsUnsettledItem terms path item.Unsettled = OneIsUndecided terms
  where
    OneIsUndecided : List Tree → Type 0
    OneIsUndecided [] = ⊥
    OneIsUndecided (t ∷ terms) = IsUndecided path t ⊎ OneIsUndecided terms

-- a live tree for two outputs under premises: one whole tree in preorder, each of whose splits is due, with an open item at which one of the outputs is undecided
pub record IsLive (premises : List Assume) (pair : Pair) (items : List Item) : Type 0 where
  pub splits : EachOnPath (IsDueItem (pair_terms pair)) (root premises ∷ []) items
  pub unsettled : OneOnPath (IsUnsettledItem (pair_terms pair)) (root premises ∷ []) items

abbrev pub splits : List Item → ℕ
splits [] = 0
splits (item.Split i j w ∷ items) = 1 + splits items
splits (item.Leaf facts ∷ items) = splits items
splits (item.Closed chain ∷ items) = splits items
splits (item.Unsettled ∷ items) = splits items

-- how many cases were opened: one, and two for each split
abbrev pub opened : List Item → ℕ
opened items = 1 + 2 * splits items
