-- Items that are whole trees on these paths are the preorder of trees, and the other way round.
use Rattle.std.proofs.Common.{◌≡◌, ℕ, List, [], ◌∷◌, ◌++◌, refl, sym, ap, subst, ◌∙◌, append_assoc}
use Rattle.std.proofs.lemmas.List.{append-nil}
use Rattle.refutation.specs.declared.item.Item.{Item}
use Rattle.refutation.specs.declared.item.Item.TheVariants as item
use Rattle.refutation.specs.Cases.{Path, yes_side, no_side, EachOnPath}
use Rattle.refutation.specs.Preorder.{Cases, Split, Leaf, Closed, Unsettled, preorder, OnTree}

module _ (P : Path → Item → Type 0) where
  tree-first : (path : Path) (t : Cases) (paths : List Path) (items : List Item) → OnTree P path t → EachOnPath P paths items → EachOnPath P (path ∷ paths) (preorder t ++ items)
  tree-first path (Split i j w y n) paths items h rest = (
    h.0,
    subst (λ (is : List Item). EachOnPath P (yes_side path i j w ∷ no_side path i j w ∷ paths) is) (sym (append_assoc (preorder y) (preorder n) items))
        (tree-first (yes_side path i j w) y (no_side path i j w ∷ paths) (preorder n ++ items) h.1 (tree-first (no_side path i j w) n paths items h.2 rest)),
  )
  tree-first path (Leaf facts) paths items h rest = (h, rest)
  tree-first path (Closed chain) paths items h rest = (h, rest)
  tree-first path Unsettled paths items h rest = (h, rest)

  abbrev OnTrees : List Path → List Cases → Type 0
  OnTrees [] [] = Unit {0}
  OnTrees (path ∷ paths) (t ∷ ts) = OnTree P path t × OnTrees paths ts
  OnTrees [] (t ∷ ts) = ⊥
  OnTrees (path ∷ paths) [] = ⊥

  abbrev preorders : List Cases → List Item
  preorders [] = []
  preorders (t ∷ ts) = preorder t ++ preorders ts

  abbrev Forest : List Path → List Item → Type 0
  Forest paths items = (ts : List Cases) × (items ≡ preorders ts) × OnTrees paths ts

  joined : (path : Path) (i j : ℕ) (w : _) (paths : List Path) (items : List Item) → P path (item.Split i j w) → Forest (yes_side path i j w ∷ no_side path i j w ∷ paths) items → Forest (path ∷ paths) (item.Split i j w ∷ items)
  joined path i j w paths items h f = go f.0 f.1 f.2
    where
      go : (ts : List Cases) → items ≡ preorders ts → OnTrees (yes_side path i j w ∷ no_side path i j w ∷ paths) ts → Forest (path ∷ paths) (item.Split i j w ∷ items)
      go [] e on = absurd on
      go (y ∷ []) e on = absurd on.1
      go (y ∷ n ∷ ts) e on =
          (Split i j w y n ∷ ts, ap (λ (is : List Item). item.Split i j w ∷ is) (e ∙ sym (append_assoc (preorder y) (preorder n) (preorders ts))), ((h, on.0, on.1.0), on.1.1))

  forest : (paths : List Path) (items : List Item) → EachOnPath P paths items → Forest paths items
  forest [] [] h = ([], refl, tt)
  forest [] (i ∷ items) h = absurd h
  forest (path ∷ paths) [] h = absurd h
  forest (path ∷ paths) (item.Split i j w ∷ items) h = joined path i j w paths items h.0 (forest (yes_side path i j w ∷ no_side path i j w ∷ paths) items h.1)
  forest (path ∷ paths) (item.Leaf facts ∷ items) h = let f = forest paths items h.1 in (Leaf facts ∷ f.0, ap (λ (is : List Item). item.Leaf facts ∷ is) f.1, (h.0, f.2))
  forest (path ∷ paths) (item.Closed chain ∷ items) h = let f = forest paths items h.1 in (Closed chain ∷ f.0, ap (λ (is : List Item). item.Closed chain ∷ is) f.1, (h.0, f.2))
  forest (path ∷ paths) (item.Unsettled ∷ items) h = let f = forest paths items h.1 in (Unsettled ∷ f.0, ap (λ (is : List Item). item.Unsettled ∷ is) f.1, (h.0, f.2))

  pub of-tree : (path : Path) (t : Cases) (items : List Item) → items ≡ preorder t → OnTree P path t → EachOnPath P (path ∷ []) items
  of-tree path t items e h = subst (λ (is : List Item). EachOnPath P (path ∷ []) is) (append-nil (preorder t) ∙ sym e) (tree-first path t [] [] h tt)

  pub to-tree : (path : Path) (items : List Item) → EachOnPath P (path ∷ []) items → (t : Cases) × (items ≡ preorder t) × OnTree P path t
  to-tree path items h = let f = forest (path ∷ []) items h in go f.0 f.1 f.2
    where
      go : (ts : List Cases) → items ≡ preorders ts → OnTrees (path ∷ []) ts → (t : Cases) × (items ≡ preorder t) × OnTree P path t
      go [] e on = absurd on
      go (t ∷ []) e on = (t, e ∙ append-nil (preorder t), on.0)
      go (t ∷ u ∷ ts) e on = absurd on.1
