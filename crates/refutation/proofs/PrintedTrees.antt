-- The printing of the trees of a file spells them.
use Rattle.std.proofs.Common.{◌≡◌, ℕ, ℤ, suc, ◌+◌, ◌<◌, ◌≤◌, Bool, true, false, not, ◌||◌, List, [], ◌∷◌, ◌++◌, length, map, None, refl, sym, ap, subst, ◌∙◌, append_assoc, arith}
use Rattle.std.specs.Prelude.{pos, negsuc, neg_ℤ, int_lt, decimal, flat_map}
use Rattle.std.specs.List.{list_any, list_all, AllByRecursion}
use Rattle.std.specs.Str.{bytes_eq}
use Rattle.std.proofs.lemmas.Bool.{and_parts, or_parts, not-true, le-ltb, lt-leb}
use Rattle.std.proofs.lemmas.Int.{ints}
use Rattle.std.proofs.lemmas.List.{append-nil, length-append, map-append}
use Rattle.std.proofs.lemmas.List.Folds.{list_any-append}
use Rattle.rl_text.specs.Lines.{Word}
use Rattle.rl_text.specs.Laws.{DecimalsAreNumbers}
use Rattle.rl_text.specs.Writing.{Writes}
use Rattle.line_lang.specs.Printing.{IsOneLine, words_on, AllKeep}
use Rattle.net_model.specs.Limits.{most_ports}
use Rattle.net_model.specs.Rules.{is_port_name, are_distinct}
use Rattle.refutation.specs.declared.item.Fact.{Fact as LeafFact}
use Rattle.refutation.specs.declared.item.Item.{Item}
use Rattle.refutation.specs.declared.item.Item.TheVariants as item
use Rattle.refutation.specs.declared.tree.NamedTree.{NamedTree}
use Rattle.refutation.specs.declared.reader.rules.Stage.{Stage}
use Rattle.refutation.specs.declared.reader.rules.Stage.TheVariants as stage
use Rattle.refutation.specs.Limits.{most_bound, most_numbers, numbers_end, most_facts, most_items, most_trees, IsSmallBound, IsSmallDifference, IsSmallFact, IsSmallItem}
use Rattle.refutation.specs.Trees.{names_of, IsTree, AreTrees}
use Rattle.refutation.specs.Forms.{Form, Header, Begin, Split, Leaf, Closed, Open, End, IsNumber, IsBound, IsDifference, IsChain, IsLine}
use Rattle.refutation.specs.LineRules.{SoFar, nothing_yet, is_open, allows, all_items, with_item, after, is_far, is_great, is_full, begin_breaks, breaks_range, breaks_long, breaks_count, first_rule}
use Rattle.refutation.specs.Spelling.{trees, may_end, SpellsTrees}
use Rattle.refutation.specs.Text.{trees_text}
use Rattle.refutation.proofs.Spelled.{eq_comm, any_named, takes_items}
use Rattle.refutation.proofs.PrintedLines.{difference, fact_form, item_forms, tree_forms, forms, decimal_word, bound_words, difference_words, chain_words, spelled_form, one_line}
use Rattle.refutation.proofs.PrintedWords.{IsPrintable, writes_trees}

-- ---- lines that fit, one after the other

abbrev Keep : SoFar → List Form → SoFar → Type 0
Keep s xs last = AllKeep trees spelled_form s xs last

keep_both : (s mid last : SoFar) (xs ys : List Form) → Keep s xs mid → Keep mid ys last → Keep s (xs ++ ys) last
keep_both s mid last [] ys h k = subst (λ (x : SoFar). Keep x ys last) (sym h) k
keep_both s mid last (x ∷ xs) ys h k = (h.0, h.1, h.2, keep_both (after s x) mid last xs ys h.3 k)

no_rule : (s : SoFar) (f : Form) → breaks_range f ≡ false → breaks_long s f ≡ false → breaks_count s f ≡ false → first_rule s f ≡ None
no_rule s f a b c = rw (a, b, c) refl

keep_one : (s : SoFar) (f : Form) → IsLine (spelled_form f) f → allows s.stage f ≡ true → breaks_range f ≡ false → breaks_long s f ≡ false → breaks_count s f ≡ false → Keep s (f ∷ []) (after s f)
keep_one s f l a r g c = (l, a, no_rule s f r g c, refl)

-- ---- what is printed is read so

not_far : (i j : ℕ) (w : ℤ) → IsSmallDifference i j w → is_far (difference i j w) ≡ false
not_far i j w h = λ k. lt-leb most_ports i h.from k || lt-leb most_ports j h.to k || low w h.bound k || high w h.bound k
  where
    low : (w : ℤ) → IsSmallBound w → int_lt w (neg_ℤ (pos most_bound)) ≡ false
    low w h = by (int_lt w (neg_ℤ (pos most_bound))) refl where
      by : (b : Bool) → int_lt w (neg_ℤ (pos most_bound)) ≡ b → b ≡ false
      by false e = refl
      by true e = let l = h.low in absurd (omega (arith, ints, e, l))

    high : (w : ℤ) → IsSmallBound w → int_lt (pos most_bound) w ≡ false
    high w h = by (int_lt (pos most_bound) w) refl where
      by : (b : Bool) → int_lt (pos most_bound) w ≡ b → b ≡ false
      by false e = refl
      by true e = let l = h.high in absurd (omega (arith, ints, e, l))

not_great : (chain : List ℕ) → AllByRecursion (λ k. k < numbers_end) chain → is_great chain ≡ false
not_great [] h = refl
not_great (k ∷ chain) h = λ i. lt-leb numbers_end k h.0 i || not_great chain h.1 i

module _ (decimals : DecimalsAreNumbers) where
  is_number : (limit n : ℕ) → n ≤ limit → limit ≤ 100000001 → IsNumber limit n (decimal_word n)
  is_number limit n h k =
      let d = decimals n (omega (arith, h, k)) in
      let v = d.value in
      record { digits = decimal n; word = refl; plain = d.plain; counts = omega (arith, h, v) }

  bound_is : (w : ℤ) → IsSmallBound w → IsBound w (bound_words w)
  bound_is (pos n) h = let high = h.high in (n, is_number (most_bound + 1) n (omega (arith, ints, high)) (omega arith), refl)
  bound_is (negsuc n) h = let low = h.low in (refl, (suc n, is_number (most_bound + 1) (suc n) (omega (arith, ints, low)) (omega arith), refl))

  difference_is : (i j : ℕ) (w : ℤ) → IsSmallDifference i j w → IsDifference (difference i j w) (difference_words (difference i j w))
  difference_is i j w h =
      let from = h.from in
      let to = h.to in
      (is_number most_ports i (omega (arith, from)) (omega arith), is_number most_ports j (omega (arith, to)) (omega arith), bound_is w h.bound)

  chain_is : (chain : List ℕ) → AllByRecursion (λ k. k < numbers_end) chain → IsChain chain (chain_words chain)
  chain_is [] h = tt
  chain_is (k ∷ chain) h = let low = h.0 in (is_number numbers_end k (omega (arith, low)) (omega arith), chain_is chain h.1)

  -- ---- items

  -- from these lines on the forms fit, and with them there are these items more
  record Reaches (s : SoFar) (xs : List Form) (items : List Item) : Type 0 where
    to : SoFar
    keep : Keep s xs to
    same_trees : to.trees ≡ s.trees
    same_name : to.name ≡ s.name
    all : all_items to ≡ all_items s ++ items
    can_end : allows to.stage End ≡ true

  has_room : (s : SoFar) → length (all_items s) + 1 ≤ most_items → is_full s ≡ false
  has_room s h = le-ltb most_items (length (all_items s) + 1) h

  abbrev leaf_at : List NamedTree → List ℕ → List Item → List LeafFact → SoFar
  leaf_at ts n items facts = record { stage = stage.Leaf; trees = ts; name = n; items = items; facts = facts }

  fact_keeps : (ts : List NamedTree) (n : List ℕ) (items : List Item) (done : List LeafFact) (f : LeafFact) → length done + 1 ≤ most_facts → IsSmallFact f → Keep (leaf_at ts n items done) (fact_form f ∷ []) (leaf_at ts n items (done ++ f ∷ []))
  fact_keeps ts n items done f few h =
      let d = difference f.from f.to f.bound in
      let l : IsLine (spelled_form (fact_form f)) (fact_form f) = (difference_words d, chain_words f.chain, refl, difference_is f.from f.to f.bound h.difference, chain_is f.chain h.chain.small) in
      keep_one (leaf_at ts n items done) (fact_form f) l refl
      (λ i. not_far f.from f.to f.bound h.difference i || not_great f.chain h.chain.small i)
      (λ i. le-ltb most_numbers (length f.chain) h.chain.few i || le-ltb most_facts (length done + 1) few i)
      refl

  facts_keep : (ts : List NamedTree) (n : List ℕ) (items : List Item) (done fs : List LeafFact) → length (done ++ fs) ≤ most_facts → AllByRecursion IsSmallFact fs → Keep (leaf_at ts n items done) (map fact_form fs) (leaf_at ts n items (done ++ fs))
  facts_keep ts n items done [] few h = ap (leaf_at ts n items) (sym (append-nil done))
  facts_keep ts n items done (f ∷ fs) few h =
      let l = length-append done (f ∷ fs) in
      let more = append_assoc done (f ∷ []) fs in
      let rest = facts_keep ts n items (done ++ f ∷ []) fs (subst (λ (fs : List LeafFact). length fs ≤ most_facts) (sym more) few) h.1 in
      keep_both (leaf_at ts n items done) (leaf_at ts n items (done ++ f ∷ [])) (leaf_at ts n items (done ++ f ∷ fs)) (fact_form f ∷ []) (map fact_form fs) (fact_keeps ts n items done f (omega (arith, l, few)) h.0)
      (subst (λ (all : List LeafFact). Keep (leaf_at ts n items (done ++ f ∷ [])) (map fact_form fs) (leaf_at ts n items all)) more rest)

  one_item : (s : SoFar) (f : Form) (x : Item) → after s f ≡ with_item s x → Keep s (f ∷ []) (after s f) → Reaches s (f ∷ []) (x ∷ [])
  one_item s f x e k = record { to = with_item s x; keep = subst (Keep s (f ∷ [])) e k; same_trees = refl; same_name = refl; all = refl; can_end = refl }

  item_reaches : (s : SoFar) (x : Item) → is_open s.stage ≡ true → length (all_items s) + 1 ≤ most_items → IsSmallItem x → Reaches s (item_forms x) (x ∷ [])
  item_reaches s (item.Split i j w) o few h =
      let d = difference i j w in
      let l : IsLine (spelled_form (Split d)) (Split d) = (difference_words d, refl, difference_is i j w h) in
      one_item s (Split d) (item.Split i j w) refl (keep_one s (Split d) l ((takes_items s.stage).split d ∙ o) (not_far i j w h) refl (has_room s few))
  item_reaches s (item.Leaf facts) o few h =
      let at = leaf_at s.trees s.name (all_items s) in
      let first = keep_one s Leaf refl ((takes_items s.stage).leaf ∙ o) refl refl (has_room s few) in
      record {
        to = at facts;
        keep = keep_both s (at []) (at facts) (Leaf ∷ []) (map fact_form facts) first (facts_keep s.trees s.name (all_items s) [] facts h.few h.small);
        same_trees = refl;
        same_name = refl;
        all = refl;
        can_end = refl;
      }
  item_reaches s (item.Closed chain) o few h =
      let l : IsLine (spelled_form (Closed chain)) (Closed chain) = (chain_words chain, refl, chain_is chain h.small) in
      one_item s (Closed chain) (item.Closed chain) refl (keep_one s (Closed chain) l ((takes_items s.stage).closed chain ∙ o) (not_great chain h.small) (le-ltb most_numbers (length chain) h.few) (has_room s few))
  item_reaches s item.Unsettled o few h = one_item s Open item.Unsettled refl (keep_one s Open refl ((takes_items s.stage).unsettled ∙ o) refl refl (has_room s few))

  end_is_open : (g : Stage) → allows g End ≡ true → is_open g ≡ true
  end_is_open stage.Start e = absurd cc
  end_is_open stage.Header e = absurd cc
  end_is_open stage.Begun e = absurd cc
  end_is_open stage.Leaf e = refl
  end_is_open stage.Item e = refl
  end_is_open stage.Ended e = absurd cc

  then_reaches : (s : SoFar) (xs ys : List Form) (these those : List Item) (r : Reaches s xs these) → Reaches r.to ys those → Reaches s (xs ++ ys) (these ++ those)
  then_reaches s xs ys these those r q = record {
    to = q.to;
    keep = keep_both s r.to q.to xs ys r.keep q.keep;
    same_trees = q.same_trees ∙ r.same_trees;
    same_name = q.same_name ∙ r.same_name;
    all = q.all ∙ ap (λ (l : List Item). l ++ those) r.all ∙ append_assoc (all_items s) these those;
    can_end = q.can_end;
  }

  items_reach : (s : SoFar) (items : List Item) → allows s.stage End ≡ true → length (all_items s) + length items ≤ most_items → AllByRecursion IsSmallItem items → Reaches s (flat_map item_forms items) items
  items_reach s [] e few h = record { to = s; keep = refl; same_trees = refl; same_name = refl; all = sym (append-nil (all_items s)); can_end = e }
  items_reach s (x ∷ items) e few h =
      let r = item_reaches s x (end_is_open s.stage e) (omega (arith, few)) h.0 in
      let l = ap length r.all in
      let a = length-append (all_items s) (x ∷ []) in
      then_reaches s (item_forms x) (flat_map item_forms items) (x ∷ []) items r (items_reach r.to items r.can_end (omega (arith, few, l, a)) h.1)

  -- ---- trees

  abbrev begun_at : List NamedTree → List ℕ → SoFar
  begun_at ts n = record { stage = stage.Begun; trees = ts; name = n; items = []; facts = [] }

  abbrev ended_at : List NamedTree → SoFar
  ended_at ts = record { stage = stage.Ended; trees = ts; name = []; items = []; facts = [] }

  some_reach : (s : SoFar) (items : List Item) → is_open s.stage ≡ true → 1 ≤ length items → length (all_items s) + length items ≤ most_items → AllByRecursion IsSmallItem items → Reaches s (flat_map item_forms items) items
  some_reach s [] o some few h = absurd (omega (arith, some))
  some_reach s (x ∷ items) o some few h =
      let r = item_reaches s x o (omega (arith, few)) h.0 in
      let l = ap length r.all in
      let a = length-append (all_items s) (x ∷ []) in
      then_reaches s (item_forms x) (flat_map item_forms items) (x ∷ []) items r (items_reach r.to items r.can_end (omega (arith, few, l, a)) h.1)

  tree_keeps : (s : SoFar) (t : NamedTree) → allows s.stage (Begin t.name) ≡ true → begin_breaks s.trees t.name ≡ false → IsTree t → Keep s (tree_forms t) (ended_at (s.trees ++ t ∷ []))
  tree_keeps s t a b h =
      let at = begun_at s.trees t.name in
      let few = h.limits.few in
      let begins = keep_one s (Begin t.name) refl a refl refl b in
      let r = some_reach at t.tree refl h.some (omega (arith, few)) h.limits.small in
      let ends = keep_one r.to End refl r.can_end refl refl refl in
      let last : after r.to End ≡ ended_at (s.trees ++ t ∷ []) = λ i. ended_at (r.same_trees i ++ record { name = r.same_name i; tree = r.all i } ∷ []) in
      let items = keep_both at r.to (after r.to End) (flat_map item_forms t.tree) (End ∷ []) r.keep ends in
      subst (Keep s (tree_forms t)) last (keep_both s at (after r.to End) (Begin t.name ∷ []) (flat_map item_forms t.tree ++ End ∷ []) begins items)

  -- a name among distinct names is none of those before it
  middle_is_new : (xs : List (List ℕ)) (x : List ℕ) (ys : List (List ℕ)) → are_distinct (xs ++ x ∷ ys) ≡ true → list_any (bytes_eq x) xs ≡ false
  middle_is_new [] x ys d = refl
  middle_is_new (y ∷ xs) x ys d =
      let a = and_parts (not (list_any (bytes_eq y) (xs ++ x ∷ ys))) (are_distinct (xs ++ x ∷ ys)) d in
      let b = or_parts (list_any (bytes_eq y) xs) (list_any (bytes_eq y) (x ∷ ys)) (sym (list_any-append (bytes_eq y) xs (x ∷ ys)) ∙ not-true (list_any (bytes_eq y) (xs ++ x ∷ ys)) a.0) in
      let c = or_parts (bytes_eq y x) (list_any (bytes_eq y) ys) b.1 in
      λ i. eq_comm y x c.0 i || middle_is_new xs x ys a.1 i

  may_begin : (done : List NamedTree) (t : NamedTree) (ts : List NamedTree) → length (done ++ t ∷ ts) ≤ most_trees → are_distinct (names_of (done ++ t ∷ ts)) ≡ true → is_port_name t.name ≡ true → begin_breaks done t.name ≡ false
  may_begin done t ts few distinct port =
      let l = length-append done (t ∷ ts) in
      let names = map-append (λ (u : NamedTree). u.name) done (t ∷ ts) in
      let new = any_named done t.name ∙ middle_is_new (names_of done) t.name (names_of ts) (sym (ap are_distinct names) ∙ distinct) in
      λ i. le-ltb most_trees (length done + 1) (omega (arith, l, few)) i || not (port i) || new i

  -- from a place where a tree may begin
  trees_keep : (s : SoFar) (t : NamedTree) (ts : List NamedTree) → allows s.stage (Begin t.name) ≡ true → length (s.trees ++ t ∷ ts) ≤ most_trees → are_distinct (names_of (s.trees ++ t ∷ ts)) ≡ true → AllByRecursion (IsPrintable decimals) (t ∷ ts)
      → Keep s (flat_map tree_forms (t ∷ ts)) (ended_at (s.trees ++ t ∷ ts))
  trees_keep s t [] a few distinct h =
      let first = tree_keeps s t a (may_begin s.trees t [] few distinct h.0.port) h.0.tree in
      subst (λ (xs : List Form). Keep s xs (ended_at (s.trees ++ t ∷ []))) (sym (append-nil (tree_forms t))) first
  trees_keep s t (u ∷ ts) a few distinct h =
      let first = tree_keeps s t a (may_begin s.trees t (u ∷ ts) few distinct h.0.port) h.0.tree in
      let more = append_assoc s.trees (t ∷ []) (u ∷ ts) in
      let mid = ended_at (s.trees ++ t ∷ []) in
      let rest = trees_keep mid u ts refl (subst (λ (all : List NamedTree). length all ≤ most_trees) (sym more) few) (subst (λ (all : List NamedTree). are_distinct (names_of all) ≡ true) (sym more) distinct) h.1 in
      keep_both s mid (ended_at (s.trees ++ t ∷ u ∷ ts)) (tree_forms t) (flat_map tree_forms (u ∷ ts)) first (subst (λ (all : List NamedTree). Keep mid (flat_map tree_forms (u ∷ ts)) (ended_at all)) more rest)

  printables : (ts : List NamedTree) → list_all is_port_name (names_of ts) ≡ true → AllByRecursion IsTree ts → AllByRecursion (IsPrintable decimals) ts
  printables [] h k = tt
  printables (t ∷ ts) h k = let a = and_parts (is_port_name t.name) (list_all is_port_name (names_of ts)) h in (record { port = a.0; tree = k.0 }, printables ts a.1 k.1)

  all_keep : (ts : List NamedTree) → AreTrees ts → Keep nothing_yet (forms ts) (ended_at ts)
  all_keep [] h = let some = h.some in absurd (omega (arith, some))
  all_keep (t ∷ ts) h =
      let headed = after nothing_yet Header in
      (refl, refl, refl, trees_keep headed t ts refl h.few h.distinct (printables (t ∷ ts) h.names h.trees))

  -- what is written with the lines of forms that fit spells what they are
  pub printed : (ts : List NamedTree) → AreTrees ts → ((spelled : Form → List Word) → ((x : Form) → IsOneLine (spelled x)) → (text : List ℕ) (xs : List Form) (last : SoFar) → Writes text (words_on spelled xs) → AllKeep trees spelled nothing_yet xs last
      → may_end last.stage ≡ true → SpellsTrees text last.trees) → SpellsTrees (trees_text ts) ts
  printed ts h spell = spell spelled_form one_line (trees_text ts) (forms ts) (ended_at ts) (writes_trees decimals ts (printables ts h.names h.trees)) (all_keep ts h) refl
