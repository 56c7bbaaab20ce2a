-- The rules that a line of a file of trees keeps, with respect to the lines before it.
use Rattle.std.specs.Prelude.{ℕ, pos, neg_ℤ, int_lt, ◌+◌, Bool, true, false, not, ◌||◌, if◌then◌else◌, nat_lt, nat_le, List, [], ◌∷◌, ◌++◌, length, Option, Some, None}
use Rattle.std.specs.List.{list_any}
use Rattle.std.specs.Str.{bytes_eq}
use Rattle.net_model.specs.Limits.{most_ports}
use Rattle.net_model.specs.Rules.{is_port_name}
use Rattle.refutation.specs.declared.item.Fact.{Fact as LeafFact}
use Rattle.refutation.specs.declared.item.Item.{Item}
use Rattle.refutation.specs.declared.item.Item.TheVariants as item
use Rattle.refutation.specs.declared.tree.NamedTree.{NamedTree}
use Rattle.refutation.specs.declared.reader.rules.Rule.{Rule}
use Rattle.refutation.specs.declared.reader.rules.Rule.TheVariants as rule
use Rattle.refutation.specs.declared.reader.rules.Stage.{Stage}
use Rattle.refutation.specs.declared.reader.rules.Stage.TheVariants as stage
use Rattle.refutation.specs.declared.reader.form.Difference.{Difference}
use Rattle.refutation.specs.Limits.{most_bound, most_numbers, numbers_end, most_facts, most_items, most_trees}
use Rattle.refutation.specs.Forms.{Form, Header, Begin, Split, Leaf, Fact, Closed, Open, End}

-- what some lines of a text are: what the last is, and the trees that have ended; and of the tree that is open the name,
-- the items, and the facts of the leaf that is open, which is not yet among the items
pub record SoFar : Type 0 where
  pub stage : Stage
  pub trees : List NamedTree
  pub name : List ℕ
  pub items : List Item
  pub facts : List LeafFact

abbrev pub nothing_yet : SoFar
nothing_yet = record { stage = stage.Start; trees = []; name = []; items = []; facts = [] }

-- whether an item may be next
abbrev pub is_open : Stage → Bool
is_open stage.Begun = true
is_open stage.Leaf = true
is_open stage.Item = true
is_open _ = false

-- which form a place allows
abbrev pub allows : Stage → Form → Bool
allows stage.Start Header = true
allows stage.Header (Begin n) = true
allows stage.Ended (Begin n) = true
allows s (Split d) = is_open s
allows s Leaf = is_open s
allows s (Closed chain) = is_open s
allows s Open = is_open s
allows stage.Leaf (Fact d chain) = true
allows stage.Leaf End = true
allows stage.Item End = true
allows _ _ = false

-- ---- what a line adds

-- the items with the leaf that is open, where one is
abbrev pub with_leaf : Stage → List Item → List LeafFact → List Item
with_leaf stage.Leaf items facts = items ++ item.Leaf facts ∷ []
with_leaf _ items facts = items

-- all items of the tree that is open
abbrev pub all_items : SoFar → List Item
all_items s = with_leaf s.stage s.items s.facts

abbrev pub with_item : SoFar → Item → SoFar
with_item s x = record { stage = stage.Item; trees = s.trees; name = s.name; items = all_items s ++ x ∷ []; facts = [] }

abbrev pub fact_of : Difference → List ℕ → LeafFact
fact_of d chain = record { from = d.from; to = d.to; bound = d.bound; chain = chain }

abbrev pub after : SoFar → Form → SoFar
after s Header = record { stage = stage.Header; trees = s.trees; name = s.name; items = s.items; facts = s.facts }
after s (Begin n) = record { stage = stage.Begun; trees = s.trees; name = n; items = []; facts = [] }
after s (Split d) = with_item s (item.Split d.from d.to d.bound)
after s Leaf = record { stage = stage.Leaf; trees = s.trees; name = s.name; items = all_items s; facts = [] }
after s (Fact d chain) = record { stage = s.stage; trees = s.trees; name = s.name; items = s.items; facts = s.facts ++ fact_of d chain ∷ [] }
after s (Closed chain) = with_item s (item.Closed chain)
after s Open = with_item s item.Unsettled
after s End = record { stage = stage.Ended; trees = s.trees ++ record { name = s.name; tree = all_items s } ∷ []; name = []; items = []; facts = [] }

-- ---- the rules

-- an input's place is 64 or more; or the bound is beyond 100,000,000 on either side
abbrev pub is_far : Difference → Bool
is_far d = nat_le most_ports d.from || nat_le most_ports d.to || int_lt d.bound (neg_ℤ (pos most_bound)) || int_lt (pos most_bound) d.bound

-- a number in a chain is 65,536 or more
abbrev pub is_great : List ℕ → Bool
is_great chain = list_any (λ k. nat_le numbers_end k) chain

abbrev pub breaks_range : Form → Bool
breaks_range (Split d) = is_far d
breaks_range (Fact d chain) = is_far d || is_great chain
breaks_range (Closed chain) = is_great chain
breaks_range _ = false

-- a chain has more than 64 numbers; or with this fact the leaf has more than 4,096
abbrev pub breaks_long : SoFar → Form → Bool
breaks_long s (Fact d chain) = nat_lt most_numbers (length chain) || nat_lt most_facts (length s.facts + 1)
breaks_long s (Closed chain) = nat_lt most_numbers (length chain)
breaks_long s _ = false

-- with this item the tree has more than 1,000,000
abbrev pub is_full : SoFar → Bool
is_full s = nat_lt most_items (length (all_items s) + 1)

-- with this tree there are more than 64; or no output may have its name; or an earlier tree has it
abbrev pub begin_breaks : List NamedTree → List ℕ → Bool
begin_breaks trees n = nat_lt most_trees (length trees + 1) || not (is_port_name n) || list_any (λ t. bytes_eq n t.name) trees

abbrev pub breaks_count : SoFar → Form → Bool
breaks_count s (Begin n) = begin_breaks s.trees n
breaks_count s (Split d) = is_full s
breaks_count s Leaf = is_full s
breaks_count s (Closed chain) = is_full s
breaks_count s Open = is_full s
breaks_count s _ = false

-- the rule that a line breaks first, which has a form that its place allows
abbrev pub first_rule : SoFar → Form → Option Rule
first_rule s f =
    if breaks_range f then Some rule.Range
    else (if breaks_long s f then Some rule.Long
    else (if breaks_count s f then Some rule.Count
    else None))
