-- What a text spells are the trees of a file.
use Rattle.std.proofs.Common.{◌≡◌, ℕ, ℤ, ◌+◌, ◌<◌, ◌≤◌, Bool, true, false, cond, not, ◌&&◌, ◌||◌, ltb, leb, List, [], ◌∷◌, ◌++◌, length, Some, None, refl, sym, ap, subst, ◌∙◌, arith}
use Rattle.std.specs.Prelude.{pos, neg_ℤ, int_lt}
use Rattle.std.specs.List.{list_any, list_all, AllByRecursion}
use Rattle.std.specs.Str.{bytes_eq}
use Rattle.std.proofs.lemmas.Bool.{and_parts, and_from, or_parts, not-true, ltb-false, leb-false}
use Rattle.std.proofs.lemmas.Int.{ints}
use Rattle.std.proofs.lemmas.List.{length-append, map-append}
use Rattle.std.proofs.lemmas.List.Folds.{list_all-append, list_any-append}
use Rattle.std.proofs.lemmas.Slice.Eq.{bytes_eq-Decides}
use Rattle.rl_text.specs.Lines.{Line, lines}
use Rattle.line_lang.specs.Spelling.{AllFit}
use Rattle.net_model.specs.Limits.{most_ports}
use Rattle.net_model.specs.Rules.{is_port_name, are_distinct}
use Rattle.refutation.specs.declared.item.Fact.{Fact as LeafFact}
use Rattle.refutation.specs.declared.item.Item.{Item}
use Rattle.refutation.specs.declared.item.Item.TheVariants as item
use Rattle.refutation.specs.declared.tree.NamedTree.{NamedTree}
use Rattle.refutation.specs.declared.reader.rules.Rule.TheVariants as rule
use Rattle.refutation.specs.declared.reader.rules.Stage.{Stage}
use Rattle.refutation.specs.declared.reader.rules.Stage.TheVariants as stage
use Rattle.refutation.specs.declared.reader.form.Difference.{Difference}
use Rattle.refutation.specs.Limits.{most_bound, most_numbers, numbers_end, most_facts, most_items, most_trees, IsSmallBound, IsSmallChain, IsSmallDifference, IsSmallFact, IsSmallLeaf, IsSmallItem}
use Rattle.refutation.specs.Trees.{names_of, IsTree, AreTrees}
use Rattle.refutation.specs.Forms.{Form, Header, Begin, Split, Leaf, Fact, Closed, Open, End}
use Rattle.refutation.specs.LineRules.{SoFar, nothing_yet, is_open, allows, with_leaf, all_items, with_item, fact_of, after, is_far, is_great, breaks_range, breaks_long, is_full, begin_breaks, breaks_count, first_rule}
use Rattle.refutation.specs.Spelling.{trees, may_end, SpellsTrees}

-- ---- lists

all_more : {X : Type 0} (P : X → Type 0) (xs : List X) (x : X) → AllByRecursion P xs → P x → AllByRecursion P (xs ++ x ∷ [])
all_more P [] x h p = (p, tt)
all_more P (y ∷ xs) x h p = (h.0, all_more P xs x h.1 p)

not_false : (b : Bool) → not b ≡ false → b ≡ true
not_false true e = refl
not_false false e = absurd cc

pub eq_comm : (x y : List ℕ) → bytes_eq x y ≡ false → bytes_eq y x ≡ false
eq_comm x y e = either (bytes_eq y x) refl where
  either : (b : Bool) → bytes_eq y x ≡ b → b ≡ false
  either false h = refl
  either true h = absurd (let same : x ≡ y = sym ((bytes_eq-Decides y x).0 h) in let t : bytes_eq x y ≡ true = (bytes_eq-Decides x y).1 same in let z : true ≡ false = sym t ∙ e in cc)

-- a name that is none of distinct names may be put after them
distinct_last : (xs : List (List ℕ)) (x : List ℕ) → are_distinct xs ≡ true → list_any (bytes_eq x) xs ≡ false → are_distinct (xs ++ x ∷ []) ≡ true
distinct_last [] x d n = refl
distinct_last (y ∷ ys) x d n =
    let a = and_parts (not (list_any (bytes_eq y) ys)) (are_distinct ys) d in
    let b = or_parts (bytes_eq x y) (list_any (bytes_eq x) ys) n in
    let new : list_any (bytes_eq y) (ys ++ x ∷ []) ≡ false = list_any-append (bytes_eq y) ys (x ∷ []) ∙ (λ i. not-true (list_any (bytes_eq y) ys) a.0 i || (eq_comm x y b.0 i || false)) in
    and_from (not (list_any (bytes_eq y) (ys ++ x ∷ []))) (are_distinct (ys ++ x ∷ [])) (ap not new) (distinct_last ys x a.1 b.1)

pub any_named : (ts : List NamedTree) (n : List ℕ) → list_any (λ t. bytes_eq n t.name) ts ≡ list_any (bytes_eq n) (names_of ts)
any_named [] n = refl
any_named (t ∷ ts) n = ap (λ (b : Bool). bytes_eq n t.name || b) (any_named ts n)

-- ---- what keeps the limits

small_bound : (w : ℤ) → int_lt w (neg_ℤ (pos most_bound)) ≡ false → int_lt (pos most_bound) w ≡ false → IsSmallBound w
small_bound w h k = record { low = omega (arith, ints, h); high = omega (arith, ints, k) }

small_difference : (d : Difference) → is_far d ≡ false → IsSmallDifference d.from d.to d.bound
small_difference d h =
    let low = int_lt d.bound (neg_ℤ (pos most_bound)) in
    let high = int_lt (pos most_bound) d.bound in
    let a = or_parts (leb most_ports d.from || leb most_ports d.to || low) high h in
    let b = or_parts (leb most_ports d.from || leb most_ports d.to) low a.0 in
    let c = or_parts (leb most_ports d.from) (leb most_ports d.to) b.0 in
    record { from = leb-false most_ports d.from c.0; to = leb-false most_ports d.to c.1; bound = small_bound d.bound b.1 a.1 }

small_numbers : (chain : List ℕ) → is_great chain ≡ false → AllByRecursion (λ k. k < numbers_end) chain
small_numbers [] h = tt
small_numbers (k ∷ chain) h = let p = or_parts (leb numbers_end k) (is_great chain) h in (leb-false numbers_end k p.0, small_numbers chain p.1)

small_chain : (chain : List ℕ) → is_great chain ≡ false → ltb most_numbers (length chain) ≡ false → IsSmallChain chain
small_chain chain h k = record { few = ltb-false most_numbers (length chain) k; small = small_numbers chain h }

-- ---- what is there keeps the limits

-- of the tree that is open
record IsPart (s : SoFar) : Type 0 where
  few_trees : length s.trees + 1 ≤ most_trees
  port : is_port_name s.name ≡ true
  new : list_any (bytes_eq s.name) (names_of s.trees) ≡ false
  few : length (all_items s) ≤ most_items
  small : AllByRecursion IsSmallItem s.items
  leaf : IsSmallLeaf s.facts

-- what holds at a stage
abbrev IsAt : Stage → SoFar → Type 0
IsAt stage.Start s = Unit {0}
IsAt stage.Header s = Unit {0}
IsAt stage.Begun s = IsPart s
IsAt stage.Leaf s = IsPart s
IsAt stage.Item s = IsPart s × (1 ≤ length s.items)
IsAt stage.Ended s = 1 ≤ length s.trees

record IsSound (s : SoFar) : Type 0 where
  few : length s.trees ≤ most_trees
  names : list_all is_port_name (names_of s.trees) ≡ true
  distinct : are_distinct (names_of s.trees) ≡ true
  trees : AllByRecursion IsTree s.trees
  at : IsAt s.stage s

no_leaf : IsSmallLeaf []
no_leaf = record { few = omega arith; small = tt }

is_sound_at_first : IsSound nothing_yet
is_sound_at_first = record { few = omega arith; names = refl; distinct = refl; trees = tt; at = tt }

open_part : (s : SoFar) → is_open s.stage ≡ true → IsAt s.stage s → IsPart s
open_part s e h = part s.stage refl where
  part : (g : Stage) → s.stage ≡ g → IsPart s
  part stage.Start q = absurd (let z : false ≡ true = sym (ap is_open q) ∙ e in cc)
  part stage.Header q = absurd (let z : false ≡ true = sym (ap is_open q) ∙ e in cc)
  part stage.Begun q = subst (λ (g : Stage). IsAt g s) q h
  part stage.Leaf q = subst (λ (g : Stage). IsAt g s) q h
  part stage.Item q = (subst (λ (g : Stage). IsAt g s) q h).0
  part stage.Ended q = absurd (let z : false ≡ true = sym (ap is_open q) ∙ e in cc)

-- the items with the open leaf keep the limits
small_all : (g : Stage) (items : List Item) (facts : List LeafFact) → AllByRecursion IsSmallItem items → IsSmallLeaf facts → AllByRecursion IsSmallItem (with_leaf g items facts)
small_all stage.Start items facts h k = h
small_all stage.Header items facts h k = h
small_all stage.Begun items facts h k = h
small_all stage.Leaf items facts h k = all_more IsSmallItem items (item.Leaf facts) h k
small_all stage.Item items facts h k = h
small_all stage.Ended items facts h k = h

-- an item more
item_more : (s : SoFar) (x : Item) → IsSound s → is_open s.stage ≡ true → is_full s ≡ false → IsSmallItem x → IsSound (with_item s x)
item_more s x h e f small =
    let p = open_part s e h.at in
    let room = ltb-false most_items (length (all_items s) + 1) f in
    let l = length-append (all_items s) (x ∷ []) in
    record {
      few = h.few;
      names = h.names;
      distinct = h.distinct;
      trees = h.trees;
      at = (
        record { few_trees = p.few_trees; port = p.port; new = p.new; few = omega (arith, l, room); small = all_more IsSmallItem (all_items s) x (small_all s.stage s.items s.facts p.small p.leaf) small; leaf = no_leaf },
        omega (arith, l),
      );
    }

-- a leaf more
leaf_more : (s : SoFar) → IsSound s → is_open s.stage ≡ true → is_full s ≡ false → IsSound (after s Leaf)
leaf_more s h e f =
    let p = open_part s e h.at in
    let room = ltb-false most_items (length (all_items s) + 1) f in
    let l = length-append (all_items s) (item.Leaf [] ∷ []) in
    record {
      few = h.few;
      names = h.names;
      distinct = h.distinct;
      trees = h.trees;
      at = record { few_trees = p.few_trees; port = p.port; new = p.new; few = omega (arith, l, room); small = small_all s.stage s.items s.facts p.small p.leaf; leaf = no_leaf };
    }

-- a fact more
fact_more : (s : SoFar) (d : Difference) (chain : List ℕ) → s.stage ≡ stage.Leaf → IsSound s → (is_far d || is_great chain) ≡ false → breaks_long s (Fact d chain) ≡ false → IsSound (after s (Fact d chain))
fact_more s d chain q h r k =
    let p = subst (λ (g : Stage). IsAt g s) q h.at in
    let a = or_parts (is_far d) (is_great chain) r in
    let b = or_parts (ltb most_numbers (length chain)) (ltb most_facts (length s.facts + 1)) k in
    let more = s.facts ++ fact_of d chain ∷ [] in
    let l = length-append s.facts (fact_of d chain ∷ []) in
    let room = ltb-false most_facts (length s.facts + 1) b.1 in
    let fact : IsSmallFact (fact_of d chain) = record { difference = small_difference d a.0; chain = small_chain chain a.1 b.0 } in
    let leaf : IsSmallLeaf more = record { few = omega (arith, l, room); small = all_more IsSmallFact s.facts (fact_of d chain) p.leaf.small fact } in
    let same : length (with_leaf s.stage s.items more) ≡ length (all_items s) = same_length s.stage s.items more s.facts in
    let low = p.few in
    let now = after s (Fact d chain) in
    record {
      few = h.few;
      names = h.names;
      distinct = h.distinct;
      trees = h.trees;
      at = subst (λ (g : Stage). IsAt g now) (sym q) (record { few_trees = p.few_trees; port = p.port; new = p.new; few = omega (arith, same, low); small = p.small; leaf = leaf });
    }
  where
    same_length : (g : Stage) (items : List Item) (more facts : List LeafFact) → length (with_leaf g items more) ≡ length (with_leaf g items facts)
    same_length stage.Start items more facts = refl
    same_length stage.Header items more facts = refl
    same_length stage.Begun items more facts = refl
    same_length stage.Leaf items more facts = length-append items (item.Leaf more ∷ []) ∙ sym (length-append items (item.Leaf facts ∷ []))
    same_length stage.Item items more facts = refl
    same_length stage.Ended items more facts = refl

-- a tree begins
begin_more : (s : SoFar) (n : List ℕ) → IsSound s → begin_breaks s.trees n ≡ false → IsSound (after s (Begin n))
begin_more s n h k =
    let a = or_parts (ltb most_trees (length s.trees + 1) || not (is_port_name n)) (list_any (λ t. bytes_eq n t.name) s.trees) k in
    let b = or_parts (ltb most_trees (length s.trees + 1)) (not (is_port_name n)) a.0 in
    record {
      few = h.few;
      names = h.names;
      distinct = h.distinct;
      trees = h.trees;
      at = record { few_trees = ltb-false most_trees (length s.trees + 1) b.0; port = not_false (is_port_name n) b.1; new = sym (any_named s.trees n) ∙ a.1; few = omega arith; small = tt; leaf = no_leaf };
    }

-- a tree ends
end_more : (s : SoFar) → IsPart s → 1 ≤ length (all_items s) → IsSound s → IsSound (after s End)
end_more s p some h =
    let t : NamedTree = record { name = s.name; tree = all_items s } in
    let l = length-append s.trees (t ∷ []) in
    let room = p.few_trees in
    let named : names_of (s.trees ++ t ∷ []) ≡ names_of s.trees ++ s.name ∷ [] = map-append (λ (u : NamedTree). u.name) s.trees (t ∷ []) in
    let tree : IsTree t = record { some = some; limits = record { few = p.few; small = small_all s.stage s.items s.facts p.small p.leaf } } in
    record {
      few = omega (arith, l, room);
      names = ap (list_all is_port_name) named ∙ list_all-append is_port_name (names_of s.trees) (s.name ∷ []) ∙ and_from (list_all is_port_name (names_of s.trees)) (is_port_name s.name && true) h.names (and_from (is_port_name s.name) true p.port refl);
      distinct = ap are_distinct named ∙ distinct_last (names_of s.trees) s.name h.distinct p.new;
      trees = all_more IsTree s.trees t h.trees tree;
      at = omega (arith, l);
    }

leaf_is_some : (s : SoFar) → s.stage ≡ stage.Leaf → 1 ≤ length (all_items s)
leaf_is_some s q =
    let l = length-append s.items (item.Leaf s.facts ∷ []) in
    let e : length (all_items s) ≡ length (s.items ++ item.Leaf s.facts ∷ []) = ap (λ (g : Stage). length (with_leaf g s.items s.facts)) q in
    omega (arith, l, e)

item_is_some : (s : SoFar) → s.stage ≡ stage.Item → 1 ≤ length s.items → 1 ≤ length (all_items s)
item_is_some s q h =
    let e : length (all_items s) ≡ length s.items = ap (λ (g : Stage). length (with_leaf g s.items s.facts)) q in
    omega (arith, e, h)

ended_sound : (s : SoFar) → allows s.stage End ≡ true → IsSound s → IsSound (after s End)
ended_sound s e h = by s.stage refl where
  no : {g : Stage} → s.stage ≡ g → allows g End ≡ false → IsSound (after s End)
  no q f = absurd (let z : false ≡ true = sym f ∙ ap (λ (g : Stage). allows g End) (sym q) ∙ e in cc)

  by : (g : Stage) → s.stage ≡ g → IsSound (after s End)
  by stage.Start q = no q refl
  by stage.Header q = no q refl
  by stage.Begun q = no q refl
  by stage.Leaf q = end_more s (subst (λ (g : Stage). IsAt g s) q h.at) (leaf_is_some s q) h
  by stage.Item q = let a = subst (λ (g : Stage). IsAt g s) q h.at in end_more s a.0 (item_is_some s q a.1) h
  by stage.Ended q = no q refl

at_leaf : (g : Stage) (d : Difference) (chain : List ℕ) → allows g (Fact d chain) ≡ true → g ≡ stage.Leaf
at_leaf stage.Start d chain a = absurd cc
at_leaf stage.Header d chain a = absurd cc
at_leaf stage.Begun d chain a = absurd cc
at_leaf stage.Leaf d chain a = refl
at_leaf stage.Item d chain a = absurd cc
at_leaf stage.Ended d chain a = absurd cc

-- a line more
record Kept (s : SoFar) (f : Form) : Type 0 where
  range : breaks_range f ≡ false
  long : breaks_long s f ≡ false
  count : breaks_count s f ≡ false

kept : (s : SoFar) (f : Form) → first_rule s f ≡ None → Kept s f
kept s f e = by (breaks_range f) (breaks_long s f) (breaks_count s f) refl refl refl e where
  by : (r l c : Bool) → breaks_range f ≡ r → breaks_long s f ≡ l → breaks_count s f ≡ c → cond r (Some rule.Range) (cond l (Some rule.Long) (cond c (Some rule.Count) None)) ≡ None → Kept s f
  by false false false p q o e = record { range = p; long = q; count = o }
  by true l c p q o e = absurd cc
  by false true c p q o e = absurd cc
  by false false true p q o e = absurd cc

-- the forms of items are allowed where an item may be next
pub record TakesItems (g : Stage) : Type 0 where
  pub split : (d : Difference) → allows g (Split d) ≡ is_open g
  pub leaf : allows g Leaf ≡ is_open g
  pub closed : (chain : List ℕ) → allows g (Closed chain) ≡ is_open g
  pub unsettled : allows g Open ≡ is_open g

pub takes_items : (g : Stage) → TakesItems g
takes_items stage.Start = record { split = λ d. refl; leaf = refl; closed = λ c. refl; unsettled = refl }
takes_items stage.Header = record { split = λ d. refl; leaf = refl; closed = λ c. refl; unsettled = refl }
takes_items stage.Begun = record { split = λ d. refl; leaf = refl; closed = λ c. refl; unsettled = refl }
takes_items stage.Leaf = record { split = λ d. refl; leaf = refl; closed = λ c. refl; unsettled = refl }
takes_items stage.Item = record { split = λ d. refl; leaf = refl; closed = λ c. refl; unsettled = refl }
takes_items stage.Ended = record { split = λ d. refl; leaf = refl; closed = λ c. refl; unsettled = refl }

line_more : (s : SoFar) (f : Form) → IsSound s → allows s.stage f ≡ true → Kept s f → IsSound (after s f)
line_more s Header h a k = record { few = h.few; names = h.names; distinct = h.distinct; trees = h.trees; at = tt }
line_more s (Begin n) h a k = begin_more s n h k.count
line_more s (Split d) h a k = item_more s (item.Split d.from d.to d.bound) h (sym ((takes_items s.stage).split d) ∙ a) k.count (small_difference d k.range)
line_more s Leaf h a k = leaf_more s h (sym (takes_items s.stage).leaf ∙ a) k.count
line_more s (Fact d chain) h a k = fact_more s d chain (at_leaf s.stage d chain a) h k.range k.long
line_more s (Closed chain) h a k = item_more s (item.Closed chain) h (sym ((takes_items s.stage).closed chain) ∙ a) k.count (small_chain chain k.range k.long)
line_more s Open h a k = item_more s item.Unsettled h (sym (takes_items s.stage).unsettled ∙ a) k.count tt
line_more s End h a k = ended_sound s a h

all_sound : (s last : SoFar) (ls : List Line) → IsSound s → AllFit trees s ls last → IsSound last
all_sound s last [] p a = subst IsSound a p
all_sound s last (l ∷ ls) p a = all_sound (after s a.0) last ls (line_more s a.0 p a.1.allowed (kept s a.0 a.1.keeps)) a.2

at_end : (s : SoFar) → may_end s.stage ≡ true → IsSound s → AreTrees s.trees
at_end s e h = record { some = some s.stage refl; few = h.few; names = h.names; distinct = h.distinct; trees = h.trees } where
  no : {g : Stage} → s.stage ≡ g → may_end g ≡ false → 1 ≤ length s.trees
  no q f = absurd (let z : false ≡ true = sym f ∙ ap may_end (sym q) ∙ e in cc)

  some : (g : Stage) → s.stage ≡ g → 1 ≤ length s.trees
  some stage.Start q = no q refl
  some stage.Header q = no q refl
  some stage.Begun q = no q refl
  some stage.Leaf q = no q refl
  some stage.Item q = no q refl
  some stage.Ended q = subst (λ (g : Stage). IsAt g s) q h.at

pub spelled : (text : List ℕ) (ts : List NamedTree) → SpellsTrees text ts → AreTrees ts
spelled text ts s = subst AreTrees (sym s.is) (at_end s.last s.ends (all_sound nothing_yet s.last (lines text s.tokens) is_sound_at_first s.fit))
