-- The minterm of a row, planted.
use Rattle.std.proofs.Common.{◌≡◌, ℕ, ◌<◌, ◌≤◌, ◌+◌, ◌-◌, ◌*◌, refl, ap, subst, arith, sym, ◌∙◌, length, List, [], ◌∷◌, ◌++◌, map, take, drop, get_or, Option, Some}
use Rattle.std.specs.List.{All, flat_map}
use Rattle.std.proofs.lemmas.List.{take_more, take_all, map-append, length-map, flat_map_more}
use Rattle.std.proofs.lemmas.List.Elements.{All-push, All-head, All-tail}
use Rattle.term_store.specs.declared.node.Term.{Term}
use Rattle.term_store.specs.declared.node.Node.{Node}
use Rattle.term_store.specs.Tree.{Tree, Input, Min, Max, Lt, Inc}
use Rattle.term_store.specs.Terms.{delayed}
use Rattle.term_store.specs.Nodes.{IsNodes}
use Rattle.term_store.specs.Trees.{tree, trees_at, with_root, plant_one, plant, IsPrefix}
use Rattle.term_store.specs.Planting.{IsPlanted, ArePlanted}
use Rattle.func_table.specs.Table.{Row}
use Rattle.minterm.specs.Minterms.{number_terms, joined, together, before_all, minterm, row_terms, dash_terms}
use Rattle.minterm.specs.Steps.{AreInputs, AreRowsPlanted, PlantingLaws, dash_places}
use Rattle.minterm.proofs.Planted.{prefix_itself, prefix_then, plant_more, all_within_more, trees_stay, held, after_delay, after_lt, one_more}
use Rattle.minterm.proofs.Entries.{one_number, input_at, dashes_are, dash_count}

pub same_inputs : (laws : PlantingLaws) (ns ms : List Node) (at : List Term) → IsPrefix ns ms → AreInputs ns at → AreInputs ms at
same_inputs laws ns ms at p i = record {
  within = all_within_more ns ms at p i.within;
  trees_are = trees_stay laws ns ms at p i.within ∙ i.trees_are;
}

pub no_rows : (ns : List Node) → IsNodes ns → AreRowsPlanted ns ns [] []
no_rows ns s = record {
  is_nodes = s;
  grown = prefix_itself ns;
  nodes_are = refl;
  within = λ k d h. absurd (omega (arith, h));
  trees_are = refl;
}

flat_more : (rows : List Row) (i : ℕ) (d : Row) → i < length rows → flat_map row_terms (take (i + 1) rows) ≡ flat_map row_terms (take i rows) ++ row_terms (get_or rows i d)
flat_more rows i d h = ap (flat_map row_terms) (take_more rows i d h) ∙ sym (flat_map_more row_terms [] (take i rows) (get_or rows i d))

minterms_more : (rows : List Row) (i : ℕ) (d : Row) → i < length rows → map minterm (take (i + 1) rows) ≡ map minterm (take i rows) ++ minterm (get_or rows i d) ∷ []
minterms_more rows i d h = ap (map minterm) (take_more rows i d h) ∙ map-append minterm (take i rows) (get_or rows i d ∷ [])

-- how many places were noted
pub how_many : (ns : List Node) (at : List Term) (ts : List Tree) → trees_at ns at ≡ ts → length at ≡ length ts
how_many ns at ts e = sym (length-map at (λ (t : Term). tree ns t.0)) ∙ ap length e

-- a row takes at most three nodes for each input
pub row_size : (ns : List Node) (row : Row) (inputs numbers dashes : List Term) → length inputs ≤ 16 → length row.entries ≡ length inputs → trees_at ns numbers ≡ number_terms row.out 0 row.entries → dashes ≡ dash_places inputs row.entries
    → 3 * length numbers + length dashes ≤ 48
row_size ns row inputs numbers dashes few l trees noted =
    omega (arith, few, l, how_many ns numbers (number_terms row.out 0 row.entries) trees, ap length noted, dash_count row.out 0 inputs row.entries l)

module _ (laws : PlantingLaws) where
  -- a number's term goes after those before it
  pub number_more : (a b c : List Node) (y : ℕ) (es : List (Option ℕ)) (k e cycles : ℕ) (f : Option ℕ) (inputs at places : List Term) (d r : Term) → k < length es → get_or es k f ≡ Some e → cycles ≡ y - e
      → length es ≡ length inputs → AreInputs a inputs → places ≡ at ++ r ∷ [] → ArePlanted a b (number_terms y 0 (take k es)) at → IsPlanted b c (delayed (tree b (get_or inputs k d).0) cycles) r
      → ArePlanted a c (number_terms y 0 (take (k + 1) es)) places
  number_more a b c y es k e cycles f inputs at places d r h is by l are pushed p q =
      let input : tree b (get_or inputs k d).0 ≡ Input k = input_at b inputs k d (same_inputs laws a b inputs p.grown are) (omega (arith, h, l)) in
      let one = one_more laws a b c (number_terms y 0 (take k es)) at (delayed (Input k) (y - e)) r p (subst (λ m. IsPlanted b c (delayed (Input k) m) r) by (subst (λ u. IsPlanted b c (delayed u cycles) r) input q)) in
      subst (ArePlanted a c (number_terms y 0 (take (k + 1) es))) (sym pushed) (subst (λ ts. ArePlanted a c ts (at ++ r ∷ [])) (sym (one_number y es k e f h is)) one)

  -- a single term
  pub alone : (ns : List Node) (terms : List Term) (d : Term) → IsNodes ns → All (λ t. t.0 < length ns) terms → 1 ≤ length terms → length terms < 2 → IsPlanted ns ns (together (trees_at ns terms)) (get_or terms 0 d)
  alone ns [] d s all some few = absurd (omega (arith, some))
  alone ns (t ∷ []) d s all some few = held laws ns (tree ns t.0) t s (All-head (λ (t : Term). t.0 < length ns) t [] all) refl
  alone ns (t ∷ u ∷ terms) d s all some few = absurd (omega (arith, few))

  -- the term that comes where all of two or more come at once
  together_planted : (a b c d e : List Node) (first : Term) (rest : List Term) (x y z r : Term) → first.0 < length a → All (λ t. t.0 < length a) rest → 1 ≤ length rest
      → IsPlanted a b (joined Max (tree a first.0) (trees_at a rest)) x → IsPlanted b c (joined Min (tree b first.0) (trees_at b rest)) y → IsPlanted c d (Inc (tree c y.0) 1) z
      → IsPlanted d e (Lt (tree d x.0) (tree d z.0)) r → IsPlanted a e (together (tree a first.0 ∷ trees_at a rest)) r
  together_planted a b c d e first [] x y z r hf hr some p q v w = absurd (omega (arith, some))
  together_planted a b c d e first (second ∷ rest) x y z r hf hr some p q v w =
      let t = tree a first.0 in
      let us = trees_at a (second ∷ rest) in
      let min : IsPlanted b c (joined Min t us) y =
      subst (λ ts. IsPlanted b c (joined Min t ts) y) (trees_stay laws a b (second ∷ rest) p.grown hr)
      (subst (λ s. IsPlanted b c (joined Min s (trees_at b (second ∷ rest))) y) (laws.places_stay a b first.0 p.grown hf) q) in
      after_lt laws a b d e (joined Max t us) (Inc (joined Min t us) 1) x z r p (after_delay laws b c d (joined Min t us) 1 y z min v) w

  pub more_together : (a b c d e : List Node) (terms : List Term) (f : Term) (x y z r : Term) → All (λ t. t.0 < length a) terms → 2 ≤ length terms
      → IsPlanted a b (joined Max (tree a (get_or terms 0 f).0) (trees_at a (take (length terms - 1) (drop 1 terms)))) x
      → IsPlanted b c (joined Min (tree b (get_or terms 0 f).0) (trees_at b (take (length terms - 1) (drop 1 terms)))) y → IsPlanted c d (Inc (tree c y.0) 1) z
      → IsPlanted d e (Lt (tree d x.0) (tree d z.0)) r → IsPlanted a e (together (trees_at a terms)) r
  more_together a b c d e [] f x y z r all some p q v w = absurd (omega (arith, some))
  more_together a b c d e (t ∷ terms) f x y z r all some p q v w =
      let rest : take (length (t ∷ terms) - 1) terms ≡ terms = take_all (length (t ∷ terms) - 1) terms (omega arith) in
      together_planted a b c d e t terms x y z r (All-head (λ (t : Term). t.0 < length a) t terms all) (All-tail (λ (t : Term). t.0 < length a) t terms all) (omega (arith, some))
      (subst (λ ts. IsPlanted a b (joined Max (tree a t.0) (trees_at a ts)) x) rest p) (subst (λ ts. IsPlanted b c (joined Min (tree b t.0) (trees_at b ts)) y) rest q) v w

  -- a term that is in the store, as far as it comes before others
  pub before_others : (a b c : List Node) (term : Term) (others : List Term) (f : Term) (y r : Term) → IsNodes a → term.0 < length a → 1 ≤ length others
      → IsPlanted a b (joined Min (tree a (get_or others 0 f).0) (trees_at a (take (length others - 1) (drop 1 others)))) y → IsPlanted b c (Lt (tree b term.0) (tree b y.0)) r
      → IsPlanted a c (before_all (tree a term.0) (trees_at a others)) r
  before_others a b c term [] f y r s h some p q = absurd (omega (arith, some))
  before_others a b c term (t ∷ others) f y r s h some p q =
      let rest : take (length (t ∷ others) - 1) others ≡ others = take_all (length (t ∷ others) - 1) others (omega arith) in
      after_lt laws a a b c (tree a term.0) (joined Min (tree a t.0) (trees_at a others)) term y r (held laws a (tree a term.0) term s h refl)
      (subst (λ ts. IsPlanted a b (joined Min (tree a t.0) (trees_at a ts)) y) rest p) q

  -- a term that was planted, as far as it comes before others
  before_planted : (a b c : List Node) (t : Tree) (us : List Tree) (x r : Term) → IsPlanted a b t x → IsPlanted b c (before_all t us) r → IsPlanted a c (before_all t us) r
  before_planted a b c t [] x r p q =
      let same : c ≡ b = q.nodes_are ∙ laws.planted_stay b t x.0 p.is_nodes p.within p.tree_is in
      record {
        is_nodes = q.is_nodes;
        grown = prefix_then a b c p.grown q.grown;
        nodes_are = same ∙ p.nodes_are;
        within = q.within;
        tree_is = q.tree_is;
      }
  before_planted a b c t (u ∷ us) x r p q =
      let there : plant_one b t ≡ b = laws.planted_stay b t x.0 p.is_nodes p.within p.tree_is in
      record {
        is_nodes = q.is_nodes;
        grown = prefix_then a b c p.grown q.grown;
        nodes_are = q.nodes_are ∙ ap behind (there ∙ p.nodes_are);
        within = q.within;
        tree_is = q.tree_is;
      }
    where
      behind : List Node → List Node
      behind ns = with_root (plant_one ns (joined Min u us)) (Lt t (joined Min u us))

  -- the whole row
  pub whole_row : (a b c d : List Node) (row : Row) (inputs numbers dashes : List Term) (x r : Term) → length row.entries ≡ length inputs → AreInputs a inputs → dashes ≡ dash_places inputs row.entries
      → ArePlanted a b (number_terms row.out 0 row.entries) numbers → IsPlanted b c (together (trees_at b numbers)) x → IsPlanted c d (before_all (tree c x.0) (trees_at c dashes)) r
      → IsPlanted (plant a (number_terms row.out 0 row.entries)) d (minterm row) r
  whole_row a b c d row inputs numbers dashes x r l are noted p q w =
      let terms = number_terms row.out 0 row.entries in
      let first : IsPlanted (plant a terms) c (together terms) x = subst (λ ns. IsPlanted ns c (together terms) x) p.nodes_are (subst (λ ts. IsPlanted b c (together ts) x) p.trees_are q) in
      let still : AreInputs c inputs = same_inputs laws a c inputs (prefix_then a b c p.grown q.grown) are in
      let others : trees_at c dashes ≡ dash_terms 0 row.entries = ap (trees_at c) noted ∙ dashes_are c inputs row.entries still l in
      before_planted (plant a terms) c d (together terms) (dash_terms 0 row.entries) x r first (subst (λ ts. IsPlanted c d (before_all (together terms) ts) r) others (subst (λ t. IsPlanted c d (before_all t (trees_at c dashes)) r) first.tree_is w))

  -- one row more
  pub row_more : (a b c : List Node) (rows : List Row) (i : ℕ) (row : Row) (at places : List Term) (r : Term) → i < length rows → row ≡ get_or rows i row → places ≡ at ++ r ∷ []
      → AreRowsPlanted a b (take i rows) at → IsPrefix b c → IsPlanted (plant b (number_terms row.out 0 row.entries)) c (minterm row) r → AreRowsPlanted a c (take (i + 1) rows) places
  row_more a b c rows i row at places r h is pushed p grown q =
      let terms : flat_map row_terms (take (i + 1) rows) ≡ flat_map row_terms (take i rows) ++ row_terms row = flat_more rows i row h ∙ ap (λ s. flat_map row_terms (take i rows) ++ row_terms s) (sym is) in
      let minterms : map minterm (take (i + 1) rows) ≡ map minterm (take i rows) ++ minterm row ∷ [] = minterms_more rows i row h ∙ ap (λ s. map minterm (take i rows) ++ minterm s ∷ []) (sym is) in
      subst (AreRowsPlanted a c (take (i + 1) rows)) (sym pushed) (record {
        is_nodes = q.is_nodes;
        grown = prefix_then a b c p.grown grown;
        nodes_are =
            q.nodes_are
            ∙ (sym (plant_more b (number_terms row.out 0 row.entries) (minterm row ∷ []))
            ∙ (ap (λ ns. plant ns (row_terms row)) p.nodes_are ∙ (sym (plant_more a (flat_map row_terms (take i rows)) (row_terms row)) ∙ ap (plant a) (sym terms))));
        within = All-push (λ (t : Term). t.0 < length c) at r (all_within_more b c at grown p.within) q.within;
        trees_are =
            map-append (λ (t : Term). tree c t.0) at (r ∷ [])
            ∙ (ap (λ us. us ++ tree c r.0 ∷ []) (trees_stay laws b c at grown p.within ∙ p.trees_are) ∙ (ap (λ u. map minterm (take i rows) ++ u ∷ []) q.tree_is ∙ sym minterms));
      })
