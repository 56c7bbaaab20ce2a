-- The trees that show two outputs to be equal.
use Rattle.std.specs.Prelude.{◌≡◌, ℕ, pos, Bool, true, ◌&&◌, nat_eq, nat_lt, int_le, List, [], ◌∷◌, length, map}
use Rattle.std.specs.List.{list_any, list_all, AllByRecursion}
use Rattle.net_model.specs.Formula.{Net}
use Rattle.net_model.specs.declared.assume.Assume.{Assume}
use Rattle.refutation.specs.declared.item.Item.{Item}
use Rattle.refutation.specs.declared.item.Item.TheVariants as item
use Rattle.refutation.specs.declared.item.Fact.{Fact}
use Rattle.refutation.specs.Path.{assumption, shows, is_negative}
use Rattle.refutation.specs.Cases.{Path, EachOnPath}
use Rattle.tree_check.specs.Forms.{Known, output_form, AreEqualForms}

-- the outputs at one place of two networks
pub record Pair : Type 0 where
  pub first : Net
  pub second : Net
  pub place : ℕ

abbrev pub outputs : Net → Net → ℕ → Pair
outputs n m k = record { first = n; second = m; place = k }

-- the premises as assumptions: the path of the first item
abbrev pub root : List Assume → Path
root premises = map (λ p. assumption p.from p.to (pos p.by)) premises

-- a fact is right where its own chain shows it
abbrev pub is_right : Path → Fact → Bool
is_right path f = shows path f.chain f.from f.to f.bound

-- the fact says that x_i - x_j <= w
abbrev pub fact_says : Fact → Known
fact_says f i j w = nat_eq f.from i && nat_eq f.to j && int_le f.bound w

-- what the facts of a leaf say
abbrev pub listed : List Fact → Known
listed facts i j w = list_any (λ f. fact_says f i j w) facts

-- the item names only the first n inputs
abbrev pub names_inputs : ℕ → Item → Bool
names_inputs n (item.Split i j w) = nat_lt i n && nat_lt j n
names_inputs n (item.Leaf facts) = list_all (λ f. nat_lt f.from n && nat_lt f.to n) facts
names_inputs n (item.Closed chain) = true
names_inputs n item.Unsettled = true

-- what an item shows on its path: a leaf has only right facts, under which the two outputs have equal forms, and a
-- closed item has a contradiction. No open item may be there
abbrev pub Shows : Pair → Path → Item → Type 0
Shows pair path (item.Split i j w) = Unit {0}
Shows pair path (item.Leaf facts) =
    AllByRecursion (λ f. is_right path f ≡ true) facts
    × AreEqualForms (listed facts) (output_form (listed facts) pair.first pair.place) (output_form (listed facts) pair.second pair.place)
Shows pair path (item.Closed chain) = is_negative path chain ≡ true
Shows pair path item.Unsettled = ⊥

abbrev pub IsValidItem : Pair → Path → Item → Type 0
IsValidItem pair path item = (names_inputs (length pair.first.inputs) item ≡ true) × Shows pair path item

-- a valid tree for the two outputs under premises: one whole tree in preorder, with each item valid on its path
abbrev pub IsValid : List Assume → Pair → List Item → Type 0
IsValid premises pair items = EachOnPath (IsValidItem pair) (root premises ∷ []) items
