-- The words of the printing of trees: those of its lines, each with a newline after it.
use Rattle.std.proofs.Common.{◌≡◌, ℕ, ℤ, suc, ◌≤◌, ◌<◌, true, not, eqb, leb, List, [], ◌∷◌, ◌++◌, map, refl, sym, ap, subst, ◌∙◌, append_assoc, arith}
use Rattle.std.specs.Prelude.{pos, negsuc, codes, decimal, flat_map}
use Rattle.std.specs.Fmt.{signed_decimal}
use Rattle.std.specs.List.{list_all, AllByRecursion}
use Rattle.std.proofs.lemmas.Bool.{and_parts}
use Rattle.std.proofs.lemmas.Bool.Decides.{nat_tests}
use Rattle.std.proofs.lemmas.List.{append-nil}
use Rattle.std.proofs.lemmas.Grind.{flat_map-append}
use Rattle.std.proofs.lemmas.Int.{ints}
use Rattle.rl_text.specs.Names.{is_digit, is_name}
use Rattle.rl_text.specs.Lines.{Word}
use Rattle.rl_text.specs.Numbers.{IsConstant}
use Rattle.rl_text.specs.Laws.{DecimalsAreNumbers}
use Rattle.rl_text.specs.Pieces.{is_number}
use Rattle.rl_text.specs.Writing.{name, sign, newline, stops, halts, Writes, Nothing, NameThen, NumberThen, SignThen, DashThen, SpaceThen, NewlineThen}
use Rattle.line_lang.specs.Printing.{words_on}
use Rattle.net_model.specs.Rules.{is_reserved, is_port_name, begins_with_underscore}
use Rattle.refutation.specs.declared.item.Fact.{Fact as LeafFact}
use Rattle.refutation.specs.declared.item.Item.{Item}
use Rattle.refutation.specs.declared.item.Item.TheVariants as item
use Rattle.refutation.specs.declared.tree.NamedTree.{NamedTree}
use Rattle.refutation.specs.Limits.{most_bound, numbers_end, IsSmallBound, IsSmallChain, IsSmallDifference, IsSmallFact, IsSmallItem}
use Rattle.refutation.specs.Trees.{IsTree}
use Rattle.refutation.specs.Forms.{Form, Header, Begin, Split, Leaf, Closed, Open, End}
use Rattle.refutation.specs.Text.{chain_text, difference_text, fact_text, facts_text, split_text, closed_text, item_text, items_text, tree_text, forest_text, trees_text}
use Rattle.refutation.proofs.PrintedLines.{difference, fact_form, item_forms, tree_forms, forms, decimal_word, bound_words, difference_words, chain_words, spelled_form}

-- in front of a text that doesn't go on with it, the text is written with these words in front of the other's
abbrev WritesOn : List ℕ → List Word → Type 0
WritesOn text vs = (rest : List ℕ) (ws : List Word) → stops rest ≡ true → Writes rest ws → Writes (text ++ rest) (vs ++ ws)

-- in front of any text, the text is written with the lines of these forms in front of the other's words
abbrev WritesLines : List ℕ → List Form → Type 0
WritesLines text xs = (rest : List ℕ) (ws : List Word) → Writes rest ws → Writes (text ++ rest) (words_on spelled_form xs ++ ws)

both : (t u : List ℕ) (xs ys : List Form) → WritesLines t xs → WritesLines u ys → WritesLines (t ++ u) (xs ++ ys)
both t u xs ys h k rest ws r =
    let all = h (u ++ rest) (words_on spelled_form ys ++ ws) (k rest ws r) in
    let words : words_on spelled_form xs ++ (words_on spelled_form ys ++ ws) ≡ words_on spelled_form (xs ++ ys) ++ ws =
    sym (append_assoc (words_on spelled_form xs) (words_on spelled_form ys) ws) ∙ ap (λ (vs : List Word). vs ++ ws) (sym (flat_map-append (λ x. spelled_form x ++ newline ∷ []) xs ys)) in
    subst (λ (x : List ℕ). Writes x (words_on spelled_form (xs ++ ys) ++ ws)) (sym (append_assoc t u rest)) (subst (Writes (t ++ (u ++ rest))) words all)

each : {X : Type 0} (text : X → List ℕ) (lines : X → List Form) (P : X → Type 0) → ((x : X) → P x → WritesLines (text x) (lines x)) → (xs : List X) → AllByRecursion P xs → WritesLines (flat_map text xs) (flat_map lines xs)
each text lines P f [] h = λ rest ws r. r
each text lines P f (x ∷ xs) h = both (text x) (flat_map text xs) (lines x) (flat_map lines xs) (f x h.0) (each text lines P f xs h.1)

-- one line
line : (t : List ℕ) (x : Form) → ((rest : List ℕ) (ws : List Word) → Writes rest ws → Writes (t ++ (10 ∷ rest)) (spelled_form x ++ (newline ∷ ws))) → WritesLines (t ++ codes "\n") (x ∷ [])
line t x f rest ws r =
    let words : spelled_form x ++ (newline ∷ ws) ≡ words_on spelled_form (x ∷ []) ++ ws =
    sym (append_assoc (spelled_form x) (newline ∷ []) ws) ∙ ap (λ (vs : List Word). vs ++ ws) (sym (append-nil (spelled_form x ++ newline ∷ []))) in
    subst (λ (y : List ℕ). Writes y (words_on spelled_form (x ∷ []) ++ ws)) (sym (append_assoc t (codes "\n") rest)) (subst (Writes (t ++ (10 ∷ rest))) words (f rest ws r))

digit_halts : (b : ℕ) → is_digit b ≡ true → not (eqb b 62) ≡ true
digit_halts b h = let p = and_parts (leb 48 b) (leb b 57) h in grind (arith, nat_tests)

digits_halt : (ds rest : List ℕ) → is_number ds ≡ true → halts (λ b. eqb b 62) (ds ++ rest) ≡ true
digits_halt [] rest h = absurd cc
digits_halt (d ∷ ds) rest h = digit_halts d (and_parts (is_digit d) (list_all is_digit ds) h).0

module _ (decimals : DecimalsAreNumbers) where
  written : (n : ℕ) → n ≤ most_bound → IsConstant n (decimal n)
  written n h = decimals n (omega (arith, h))

  writes_number : (n : ℕ) → n ≤ most_bound → WritesOn (decimal n) (decimal_word n ∷ [])
  writes_number n h rest ws s r = NumberThen (decimal n) (written n h).number s r

  -- ---- chains

  chain_stops : (chain : List ℕ) (rest : List ℕ) → stops rest ≡ true → stops (chain_text chain ++ rest) ≡ true
  chain_stops [] rest s = s
  chain_stops (k ∷ chain) rest s = refl

  writes_chain : (chain : List ℕ) → AllByRecursion (λ k. k < numbers_end) chain → WritesOn (chain_text chain) (chain_words chain)
  writes_chain [] h rest ws s r = r
  writes_chain (k ∷ chain) h rest ws s r =
      let low = h.0 in
      let more = writes_number k (omega (arith, low)) (chain_text chain ++ rest) (chain_words chain ++ ws) (chain_stops chain rest s) (writes_chain chain h.1 rest ws s r) in
      let all = SpaceThen more in
      subst (λ (x : List ℕ). Writes x (decimal_word k ∷ (chain_words chain ++ ws))) (sym (append_assoc (32 ∷ decimal k) (chain_text chain) rest)) all

  -- ---- differences

  writes_bound : (w : ℤ) → IsSmallBound w → WritesOn (signed_decimal w) (bound_words w)
  writes_bound (pos n) h rest ws s r = let high = h.high in writes_number n (omega (arith, ints, high)) rest ws s r
  writes_bound (negsuc n) h rest ws s r =
      let low = h.low in
      let d = written (suc n) (omega (arith, ints, low)) in
      DashThen (digits_halt (decimal (suc n)) rest d.number) (NumberThen (decimal (suc n)) d.number s r)

  difference_bytes : (i j w rest : List ℕ) → ((((i ++ codes " ") ++ j) ++ codes " ") ++ w) ++ rest ≡ i ++ (32 ∷ (j ++ (32 ∷ (w ++ rest))))
  difference_bytes i j w rest = simp append_assoc

  writes_difference : (i j : ℕ) (w : ℤ) → IsSmallDifference i j w → WritesOn (difference_text i j w) (difference_words (difference i j w))
  writes_difference i j w h rest ws s r =
      let from = h.from in
      let to = h.to in
      let bound = writes_bound w h.bound rest ws s r in
      let second = writes_number j (omega (arith, to)) (32 ∷ (signed_decimal w ++ rest)) (bound_words w ++ ws) refl (SpaceThen bound) in
      let first = writes_number i (omega (arith, from)) (32 ∷ (decimal j ++ (32 ∷ (signed_decimal w ++ rest)))) (decimal_word j ∷ (bound_words w ++ ws)) refl (SpaceThen second) in
      subst (λ (x : List ℕ). Writes x (difference_words (difference i j w) ++ ws)) (sym (difference_bytes (decimal i) (decimal j) (signed_decimal w) rest)) first

  -- ---- lines

  writes_split : (i j : ℕ) (w : ℤ) → IsSmallDifference i j w → WritesLines (split_text i j w) (Split (difference i j w) ∷ [])
  writes_split i j w h = line (codes "split " ++ difference_text i j w) (Split (difference i j w)) (λ rest ws r.
      let d = writes_difference i j w h (10 ∷ rest) (newline ∷ ws) refl (NewlineThen r) in
      let all = NameThen (codes "split") refl refl (SpaceThen d) in
      subst (λ (x : List ℕ). Writes x (name (codes "split") ∷ (difference_words (difference i j w) ++ (newline ∷ ws)))) (sym (append_assoc (codes "split ") (difference_text i j w) (10 ∷ rest))) all)

  fact_bytes : (d c rest : List ℕ) → (((codes "fact " ++ d) ++ codes " :") ++ c) ++ (10 ∷ rest) ≡ codes "fact" ++ (32 ∷ (d ++ (32 ∷ 58 ∷ (c ++ (10 ∷ rest)))))
  fact_bytes d c rest = simp append_assoc

  fact_words : (n s : Word) (d c ws : List Word) → (n ∷ d ++ s ∷ c) ++ ws ≡ n ∷ (d ++ (s ∷ (c ++ ws)))
  fact_words n s d c ws = simp append_assoc

  writes_fact : (f : LeafFact) → IsSmallFact f → WritesLines (fact_text f) (fact_form f ∷ [])
  writes_fact f h = line (codes "fact " ++ difference_text f.from f.to f.bound ++ codes " :" ++ chain_text f.chain) (fact_form f) (λ rest ws r.
      let d = difference f.from f.to f.bound in
      let c = writes_chain f.chain h.chain.small (10 ∷ rest) (newline ∷ ws) refl (NewlineThen r) in
      let colon = SpaceThen (SignThen 58 refl c) in
      let diff = writes_difference f.from f.to f.bound h.difference (32 ∷ 58 ∷ (chain_text f.chain ++ (10 ∷ rest))) (sign (codes ":") ∷ (chain_words f.chain ++ (newline ∷ ws))) refl colon in
      let all = NameThen (codes "fact") refl refl (SpaceThen diff) in
      subst (λ (x : List ℕ). Writes x (spelled_form (fact_form f) ++ (newline ∷ ws))) (sym (fact_bytes (difference_text f.from f.to f.bound) (chain_text f.chain) rest))
      (subst (Writes (codes "fact" ++ (32 ∷ (difference_text f.from f.to f.bound ++ (32 ∷ 58 ∷ (chain_text f.chain ++ (10 ∷ rest))))))) (sym (fact_words (name (codes "fact")) (sign (codes ":")) (difference_words d) (chain_words f.chain) (newline ∷ ws))) all))

  writes_facts : (fs : List LeafFact) → AllByRecursion IsSmallFact fs → WritesLines (facts_text fs) (map fact_form fs)
  writes_facts [] h = λ rest ws r. r
  writes_facts (f ∷ fs) h = both (fact_text f) (facts_text fs) (fact_form f ∷ []) (map fact_form fs) (writes_fact f h.0) (writes_facts fs h.1)

  writes_closed : (chain : List ℕ) → IsSmallChain chain → WritesLines (closed_text chain) (Closed chain ∷ [])
  writes_closed chain h = line (codes "closed" ++ chain_text chain) (Closed chain) (λ rest ws r.
      let c = writes_chain chain h.small (10 ∷ rest) (newline ∷ ws) refl (NewlineThen r) in
      let all = NameThen (codes "closed") refl (chain_stops chain (10 ∷ rest) refl) c in
      subst (λ (x : List ℕ). Writes x (name (codes "closed") ∷ (chain_words chain ++ (newline ∷ ws)))) (sym (append_assoc (codes "closed") (chain_text chain) (10 ∷ rest))) all)

  -- a line of one word
  writes_word : (t : List ℕ) (x : Form) → is_name t ≡ true → spelled_form x ≡ name t ∷ [] → WritesLines (t ++ codes "\n") (x ∷ [])
  writes_word t x h e = line t x (λ rest ws r. subst (λ (vs : List Word). Writes (t ++ (10 ∷ rest)) (vs ++ (newline ∷ ws))) (sym e) (NameThen t h refl (NewlineThen r)))

  writes_item : (x : Item) → IsSmallItem x → WritesLines (item_text x) (item_forms x)
  writes_item (item.Split i j w) h = writes_split i j w h
  writes_item (item.Leaf facts) h = both (codes "leaf\n") (facts_text facts) (Leaf ∷ []) (map fact_form facts) (writes_word (codes "leaf") Leaf refl refl) (writes_facts facts h.small)
  writes_item (item.Closed chain) h = writes_closed chain h
  writes_item item.Unsettled h = writes_word (codes "open") Open refl refl

  writes_begin : (n : List ℕ) → is_name n ≡ true → WritesLines ((codes "tree " ++ n) ++ codes "\n") (Begin n ∷ [])
  writes_begin n h = line (codes "tree " ++ n) (Begin n) (λ rest ws r.
      let all = NameThen (codes "tree") refl refl (SpaceThen (NameThen n h refl (NewlineThen r))) in
      subst (λ (x : List ℕ). Writes x (name (codes "tree") ∷ name n ∷ newline ∷ ws)) (sym (append_assoc (codes "tree ") n (10 ∷ rest))) all)

  port_name_is : (x : List ℕ) → is_port_name x ≡ true → is_name x ≡ true
  port_name_is x h = (and_parts (is_name x) _ (and_parts _ (not (is_reserved x)) (and_parts _ (not (begins_with_underscore x)) h).0).0).0

  -- a tree of a file, with its name
  pub record IsPrintable (t : NamedTree) : Type 0 where
    pub port : is_port_name t.name ≡ true
    pub tree : IsTree t

  writes_tree : (t : NamedTree) → IsPrintable t → WritesLines (tree_text t) (tree_forms t)
  writes_tree t h =
      let begins = writes_begin t.name (port_name_is t.name h.port) in
      let items = each item_text item_forms IsSmallItem writes_item t.tree h.tree.limits.small in
      let front = both ((codes "tree " ++ t.name) ++ codes "\n") (items_text t.tree) (Begin t.name ∷ []) (flat_map item_forms t.tree) begins items in
      both (((codes "tree " ++ t.name) ++ codes "\n") ++ items_text t.tree) (codes "end\n") (Begin t.name ∷ flat_map item_forms t.tree) (End ∷ []) front (writes_word (codes "end") End refl refl)

  writes_header : WritesLines (codes "racetree 1\n") (Header ∷ [])
  writes_header rest ws r = NameThen (codes "racetree") refl refl (SpaceThen (NumberThen (codes "1") refl refl (NewlineThen r)))

  pub writes_trees : (ts : List NamedTree) → AllByRecursion IsPrintable ts → Writes (trees_text ts) (words_on spelled_form (forms ts))
  unfolding trees_text
  writes_trees ts h =
      let all = both (codes "racetree 1\n") (forest_text ts) (Header ∷ []) (flat_map tree_forms ts) writes_header (each tree_text tree_forms IsPrintable writes_tree ts h) [] [] Nothing in
      subst (λ (x : List ℕ). Writes x (words_on spelled_form (forms ts))) (append-nil (codes "racetree 1\n" ++ forest_text ts)) (subst (Writes ((codes "racetree 1\n" ++ forest_text ts) ++ [])) (append-nil (words_on spelled_form (forms ts))) all)
