-- The limits that trees keep.
use Rattle.std.specs.Prelude.{ℕ, ℤ, pos, neg_ℤ, ◌≤ℤ◌, ◌<◌, ◌≤◌, List, length}
use Rattle.std.specs.List.{AllByRecursion}
use Rattle.net_model.specs.Limits.{most_ports}
use Rattle.refutation.specs.declared.item.Fact.{Fact}
use Rattle.refutation.specs.declared.item.Item.{Item}
use Rattle.refutation.specs.declared.item.Item.TheVariants as item

-- the greatest bound of a split or a fact, on either side of 0, in cycles
abbrev pub most_bound : ℕ
most_bound = 100000000

-- the most numbers in a chain
abbrev pub most_numbers : ℕ
most_numbers = 64

-- each number in a chain is less
abbrev pub numbers_end : ℕ
numbers_end = 65536

-- the most facts of a leaf
abbrev pub most_facts : ℕ
most_facts = 4096

-- the most items of a tree
abbrev pub most_items : ℕ
most_items = 1000000

-- the most trees of a file
abbrev pub most_trees : ℕ
most_trees = 64

pub record IsSmallBound (w : ℤ) : Type 0 where
  pub low : neg_ℤ (pos most_bound) ≤ℤ w
  pub high : w ≤ℤ pos most_bound

pub record IsSmallChain (chain : List ℕ) : Type 0 where
  pub few : length chain ≤ most_numbers
  pub small : AllByRecursion (λ k. k < numbers_end) chain

-- the places of two inputs, and a bound
pub record IsSmallDifference (i j : ℕ) (w : ℤ) : Type 0 where
  pub from : i < most_ports
  pub to : j < most_ports
  pub bound : IsSmallBound w

pub record IsSmallFact (f : Fact) : Type 0 where
  pub difference : IsSmallDifference f.from f.to f.bound
  pub chain : IsSmallChain f.chain

pub record IsSmallLeaf (facts : List Fact) : Type 0 where
  pub few : length facts ≤ most_facts
  pub small : AllByRecursion IsSmallFact facts

abbrev pub IsSmallItem : Item → Type 0
IsSmallItem (item.Split i j w) = IsSmallDifference i j w
IsSmallItem (item.Leaf facts) = IsSmallLeaf facts
IsSmallItem (item.Closed chain) = IsSmallChain chain
IsSmallItem item.Unsettled = Unit {0}

-- the items of a tree keep the limits
pub record KeepsLimits (items : List Item) : Type 0 where
  pub few : length items ≤ most_items
  pub small : AllByRecursion IsSmallItem items
