-- The printing of trees.
use Rattle.std.specs.Prelude.{ℕ, ℤ, List, ◌∷◌, ◌++◌, flat_map, codes, decimal}
use Rattle.std.specs.Fmt.{signed_decimal}
use Rattle.refutation.specs.declared.item.Fact.{Fact}
use Rattle.refutation.specs.declared.item.Item.{Item}
use Rattle.refutation.specs.declared.item.Item.TheVariants as item
use Rattle.refutation.specs.declared.tree.NamedTree.{NamedTree}

-- each number after one space
abbrev pub chain_text : List ℕ → List ℕ
chain_text chain = flat_map (λ k. 32 ∷ decimal k) chain

-- the places of two inputs, and a bound, as `0 1 -3`
abbrev pub difference_text : ℕ → ℕ → ℤ → List ℕ
difference_text i j w = decimal i ++ codes " " ++ decimal j ++ codes " " ++ signed_decimal w

-- a line such as `fact 0 1 -1 : 1 2`
abbrev pub fact_text : Fact → List ℕ
fact_text f = codes "fact " ++ difference_text f.from f.to f.bound ++ codes " :" ++ chain_text f.chain ++ codes "\n"

abbrev pub facts_text : List Fact → List ℕ
facts_text facts = flat_map fact_text facts

abbrev pub split_text : ℕ → ℕ → ℤ → List ℕ
split_text i j w = codes "split " ++ difference_text i j w ++ codes "\n"

-- the line of a leaf, and those of its facts
abbrev pub leaf_text : List Fact → List ℕ
leaf_text facts = codes "leaf\n" ++ facts_text facts

abbrev pub closed_text : List ℕ → List ℕ
closed_text chain = codes "closed" ++ chain_text chain ++ codes "\n"

abbrev pub item_text : Item → List ℕ
item_text (item.Split i j w) = split_text i j w
item_text (item.Leaf facts) = leaf_text facts
item_text (item.Closed chain) = closed_text chain
item_text item.Unsettled = codes "open\n"

abbrev pub items_text : List Item → List ℕ
items_text items = flat_map item_text items

-- the line `tree`, the items, and the line `end`
abbrev pub tree_text : NamedTree → List ℕ
tree_text t = codes "tree " ++ t.name ++ codes "\n" ++ items_text t.tree ++ codes "end\n"

abbrev pub forest_text : List NamedTree → List ℕ
forest_text trees = flat_map tree_text trees

-- the header and the trees
unfoldable pub trees_text : List NamedTree → List ℕ
trees_text trees = codes "racetree 1\n" ++ forest_text trees
