-- The marked places of a store, moved to a store of their own.
use Rattle.std.proofs.Common.{◌≡◌, ℕ, zero, suc, ◌<◌, ◌≤◌, ◌+◌, Bool, true, false, true≢false, refl, ap, subst, arith, sym, ◌∙◌, length, List, [], ◌∷◌, ◌++◌, length-append, map, get_or, inl, inr, ◌↔◌}
use Rattle.std.specs.Prelude.{filter}
use Rattle.std.specs.List.{All, slice_index_or}
use Rattle.std.proofs.lemmas.Grind.{common_steps}
use Rattle.std.proofs.lemmas.Bool.{cases_lt}
use Rattle.std.proofs.lemmas.List.{get_or_append_left, get_or_push, map-append, length-map}
use Rattle.term_store.specs.Tree.{Tree}
use Rattle.term_store.specs.Terms.{tree_in}
use Rattle.term_store.specs.declared.node.Term.{Term}
use Rattle.term_store.specs.declared.node.Node.{Node}
use Rattle.term_store.specs.declared.node.Node.TheVariants as node
use Rattle.term_store.specs.Nodes.{Contents, node_at, holds, place_of, with_node, IsNodeOver, IsNodes}
use Rattle.term_store.specs.Trees.{tree, trees, node_tree, term, trees_at}
use Rattle.term_store.specs.Reach.{is_reached, IsReached, IsOperand}
use Rattle.term_store.specs.Places.{places, is_marked}
use Rattle.term_store.specs.Planting.{cost}
use Rattle.term_store.specs.Compacted.{trees_where, reached_trees, new_place, moved_node, HaveOperands, AreMoved}
use Rattle.term_store.proofs.Push.{with_new, held_place, push_nodes}
use Rattle.term_store.proofs.TreeLaws.{trees-append, length-trees, tree_prefix, over_agree}
use Rattle.term_store.proofs.Distinct.{tree_is, distinct_trees}
use Rattle.term_store.proofs.Marks.{reached_operand, operand_lower, reached_from}
use Rattle.term_store.proofs.Room.{cost_new}
use Rattle.term_store.proofs.Parts.{in_self}
use Rattle.term_store.proofs.ExtractedIs.{marks_agree}
use Rattle.term_store.proofs.ListedPlaces.{kept, filter_next, filter_same}

-- each operand of the node has a new place, with the same tree
abbrev HasPlaces : List Node → List Node → List Term → Node → Type 0
HasPlaces ns old moved n = (k : ℕ) → IsOperand k n → ((new_place moved k).0 < length old) × (tree old (new_place moved k).0 ≡ tree ns k)

moved_over : (ns old : List Node) (moved : List Term) (m : ℕ) (n : Node) → IsNodeOver m n → HasPlaces ns old moved n → IsNodeOver (length old) (moved_node moved n)
moved_over ns old moved m (node.Input i) o h = o
moved_over ns old moved m node.Never o h = tt
moved_over ns old moved m (node.Min a b) o h = ((h a.0 (inl refl)).0, (h b.0 (inr refl)).0)
moved_over ns old moved m (node.Max a b) o h = ((h a.0 (inl refl)).0, (h b.0 (inr refl)).0)
moved_over ns old moved m (node.Lt a b) o h = ((h a.0 (inl refl)).0, (h b.0 (inr refl)).0)
moved_over ns old moved m (node.Inc a c) o h = ((h a.0 refl).0, o.1, o.2)

moved_tree : (ns old : List Node) (moved : List Term) (n : Node) → HasPlaces ns old moved n → node_tree (trees old) (moved_node moved n) ≡ node_tree (trees ns) n
moved_tree ns old moved (node.Input i) h = refl
moved_tree ns old moved node.Never h = refl
moved_tree ns old moved (node.Min a b) h = let p = (h a.0 (inl refl)).1 in let q = (h b.0 (inr refl)).1 in cc
moved_tree ns old moved (node.Max a b) h = let p = (h a.0 (inl refl)).1 in let q = (h b.0 (inr refl)).1 in cc
moved_tree ns old moved (node.Lt a b) h = let p = (h a.0 (inl refl)).1 in let q = (h b.0 (inr refl)).1 in cc
moved_tree ns old moved (node.Inc a c) h = let p = (h a.0 refl).1 in cc

-- a place that passes a test is among the first n
below_filter : (test : ℕ → Bool) (n p : ℕ) → p < length (filter test (places n)) → get_or (filter test (places n)) p 0 < n
below_filter test zero p h = absurd (omega (arith, h))
below_filter test (suc n) p h = elim (cases_lt p (length (filter test (places n)))) [
  | inl b ↦
      let e : get_or (filter test (places (suc n))) p 0 ≡ get_or (filter test (places n)) p 0 =
      ap (λ xs. get_or xs p 0) (filter_next test n) ∙ get_or_append_left (filter test (places n)) (kept (test n) n) 0 p b in
      omega (arith, e, below_filter test n p b)
  | inr b ↦ last (test n) refl b
]
  where
    last : (t : Bool) → test n ≡ t → length (filter test (places n)) ≤ p → get_or (filter test (places (suc n))) p 0 < suc n
    last true e b =
        let f : filter test (places (suc n)) ≡ filter test (places n) ++ n ∷ [] = filter_next test n ∙ ap (λ t. filter test (places n) ++ kept t n) e in
        let l : length (filter test (places n)) ≡ p = omega (arith, b, h, ap length f, length-append (filter test (places n)) (n ∷ [])) in
        omega (arith, ap (λ xs. get_or xs p 0) f, get_or_push (filter test (places n)) n 0 p l)
    last false e b =
        let f : filter test (places (suc n)) ≡ filter test (places n) ++ [] = filter_next test n ∙ ap (λ t. filter test (places n) ++ kept t n) e in
        absurd (omega (arith, b, h, ap length f, length-append (filter test (places n)) []))

get_mapped : (f : ℕ → Tree) (xs : List ℕ) (p : ℕ) → p < length xs → tree_in (map f xs) p ≡ f (get_or xs p 0)
get_mapped f xs p h = grind (arith, common_steps)

-- the node of a place that isn't moved yet isn't held
not_held : (ns : List Node) (ms : List Bool) (at : ℕ) (store : Contents) (moved : List Term) (n : Node) → IsNodes ns → at < length ns → AreMoved ns ms at store moved
    → node_tree (trees store.nodes) n ≡ tree ns at → holds store.nodes n ≡ false
not_held ns ms at store moved n s h m e = go (holds store.nodes n) refl
  where
    go : (b : Bool) → holds store.nodes n ≡ b → holds store.nodes n ≡ false
    go false f = f
    go true f =
        let p = place_of store.nodes n in
        let w = held_place store.nodes n f in
        let list = filter (is_marked ms) (places at) in
        let len : length store.nodes ≡ length list = sym (length-trees store.nodes) ∙ ap length m.trees_are ∙ length-map list (tree ns) in
        let within : p < length list = omega (arith, w.0, len) in
        let low = below_filter (is_marked ms) at p within in
        let same : tree ns (get_or list p 0) ≡ tree ns at =
        sym (get_mapped (tree ns) list p within) ∙ sym (ap (λ ts. tree_in ts p) m.trees_are) ∙ tree_is store.nodes p m.is_nodes w.0 ∙ ap (node_tree (trees store.nodes)) w.1 ∙ e in
        absurd (omega (arith, low, distinct_trees ns s (get_or list p 0) at (omega (arith, low, h)) h same))

operands_moved : (ns : List Node) (ms : List Bool) (at : ℕ) (store : Contents) (moved : List Term) → IsNodes ns → at < length ns → HaveOperands ns ms → is_marked ms at ≡ true → AreMoved ns ms at store moved
    → HasPlaces ns store.nodes moved (node_at ns at)
operands_moved ns ms at store moved s h c marked m k o =
    let low = operand_lower at k (node_at ns at) (s.lower at h) o in
    let on = c at k h marked o in
    (m.within k low on, m.same k low on)

-- the node of the next place may go last, and isn't held
pub next_over : (ns : List Node) (ms : List Bool) (at : ℕ) (store : Contents) (moved : List Term) → IsNodes ns → at < length ns → HaveOperands ns ms → is_marked ms at ≡ true → AreMoved ns ms at store moved
    → IsNodeOver (length store.nodes) (moved_node moved (node_at ns at))
next_over ns ms at store moved s h c marked m =
    moved_over ns store.nodes moved at (node_at ns at) (s.lower at h) (operands_moved ns ms at store moved s h c marked m)

next_tree : (ns : List Node) (ms : List Bool) (at : ℕ) (store : Contents) (moved : List Term) → IsNodes ns → at < length ns → HaveOperands ns ms → is_marked ms at ≡ true → AreMoved ns ms at store moved
    → node_tree (trees store.nodes) (moved_node moved (node_at ns at)) ≡ tree ns at
next_tree ns ms at store moved s h c marked m =
    moved_tree ns store.nodes moved (node_at ns at) (operands_moved ns ms at store moved s h c marked m) ∙ sym (tree_is ns at s h)

pub next_new : (ns : List Node) (ms : List Bool) (at : ℕ) (store : Contents) (moved : List Term) → IsNodes ns → at < length ns → HaveOperands ns ms → is_marked ms at ≡ true → AreMoved ns ms at store moved
    → holds store.nodes (moved_node moved (node_at ns at)) ≡ false
next_new ns ms at store moved s h c marked m = not_held ns ms at store moved (moved_node moved (node_at ns at)) s h m (next_tree ns ms at store moved s h c marked m)

-- the trees, once one more place was looked at
more_trees : (ns : List Node) (ms : List Bool) (at : ℕ) (b : Bool) → is_marked ms at ≡ b → trees_where ns (is_marked ms) (at + 1) ≡ trees_where ns (is_marked ms) at ++ map (tree ns) (kept b at)
more_trees ns ms at b e =
    let one : at + 1 ≡ suc at = omega arith in
    ap (trees_where ns (is_marked ms)) one ∙ ap (map (tree ns)) (filter_next (is_marked ms) at ∙ ap (λ t. filter (is_marked ms) (places at) ++ kept t at) e)
    ∙ map-append (tree ns) (filter (is_marked ms) (places at)) (kept b at)

append_nothing : {A : Type 0} (xs : List A) → xs ++ [] ≡ xs
append_nothing [] = refl
append_nothing (x ∷ xs) = ap (λ ys. x ∷ ys) (append_nothing xs)

-- the place isn't marked
pub passed_over : (ns : List Node) (ms : List Bool) (at : ℕ) (store : Contents) (moved : List Term) (t : Term) → is_marked ms at ≡ false → AreMoved ns ms at store moved → AreMoved ns ms (at + 1) store (moved ++ t ∷ [])
passed_over ns ms at store moved t off m =
    let left : (k : ℕ) → k < at + 1 → is_marked ms k ≡ true → k < at = λ k h on. elim (cases_lt k at) [
      | inl b ↦ b
      | inr b ↦ let e : k ≡ at = omega (arith, h, b) in absurd (true≢false (sym on ∙ ap (is_marked ms) e ∙ off))
    ] in
    let stays : (k : ℕ) → k < at → new_place (moved ++ t ∷ []) k ≡ new_place moved k = λ k h. get_or_append_left moved (t ∷ []) (term 0) k (omega (arith, h, m.len)) in
    record {
      is_nodes = m.is_nodes;
      len = omega (arith, length-append moved (t ∷ []), m.len);
      trees_are = m.trees_are ∙ sym (append_nothing (trees_where ns (is_marked ms) at)) ∙ sym (more_trees ns ms at false off);
      within = λ k h on. let b = left k h on in subst (λ (q : Term). q.0 < length store.nodes) (sym (stays k b)) (m.within k b on);
      same = λ k h on. let b = left k h on in ap (λ (q : Term). tree store.nodes q.0) (stays k b) ∙ m.same k b on;
      few = omega (arith, m.few);
      room = omega (arith, m.room);
    }

-- the place is marked, and its node went last
pub taken : (ns : List Node) (ms : List Bool) (at : ℕ) (old new : Contents) (moved : List Term) (t : Term) → IsNodes ns → at < length ns → HaveOperands ns ms → is_marked ms at ≡ true → AreMoved ns ms at old moved
    → new.nodes ≡ with_node old.nodes (moved_node moved (node_at ns at)) → t.0 < length new.nodes → node_at new.nodes t.0 ≡ moved_node moved (node_at ns at)
    → old.spare ≤ new.spare + cost old.nodes (moved_node moved (node_at ns at)) → AreMoved ns ms (at + 1) new (moved ++ t ∷ [])
taken ns ms at old new moved t s h c on m w tw ta room =
    let n = moved_node moved (node_at ns at) in
    let fresh = next_new ns ms at old moved s h c on m in
    let grown : new.nodes ≡ old.nodes ++ n ∷ [] = w ∙ with_new old.nodes n fresh in
    let over = next_over ns ms at old moved s h c on m in
    let is : IsNodes new.nodes = subst IsNodes (sym grown) (push_nodes old.nodes n m.is_nodes fresh over (omega (arith, m.few, h, s.few))) in
    let stays : (k : ℕ) → k < at → new_place (moved ++ t ∷ []) k ≡ new_place moved k = λ k b. get_or_append_left moved (t ∷ []) (term 0) k (omega (arith, b, m.len)) in
    let last : new_place (moved ++ t ∷ []) at ≡ t = get_or_push moved t (term 0) at m.len in
    let tree_stays : (i : ℕ) → i < length old.nodes → tree new.nodes i ≡ tree old.nodes i = λ i b. ap (λ ns. tree ns i) grown ∙ tree_prefix old.nodes (n ∷ []) i b in
    let held_trees : tree new.nodes t.0 ≡ tree ns at =
    tree_is new.nodes t.0 is tw ∙ ap (node_tree (trees new.nodes)) ta ∙ over_agree (length old.nodes) (trees new.nodes) (trees old.nodes) n over tree_stays ∙ next_tree ns ms at old moved s h c on m in
    record {
      is_nodes = is;
      len = omega (arith, length-append moved (t ∷ []), m.len);
      trees_are =
          ap trees grown ∙ trees-append old.nodes (n ∷ []) ∙ ap (λ x. trees old.nodes ++ x ∷ []) (next_tree ns ms at old moved s h c on m)
          ∙ ap (λ xs. xs ++ tree ns at ∷ []) m.trees_are ∙ sym (more_trees ns ms at true on);
      within = λ k b k_on. elim (cases_lt k at) [
        | inl lt ↦ subst (λ (q : Term). q.0 < length new.nodes) (sym (stays k lt)) (omega (arith, m.within k lt k_on, ap length grown, length-append old.nodes (n ∷ [])))
        | inr ge ↦ let e : k ≡ at = omega (arith, b, ge) in subst (λ (q : Term). q.0 < length new.nodes) (sym (ap (new_place (moved ++ t ∷ [])) e ∙ last)) tw
      ];
      same = λ k b k_on. elim (cases_lt k at) [
        | inl lt ↦ ap (λ (q : Term). tree new.nodes q.0) (stays k lt) ∙ tree_stays (new_place moved k).0 (m.within k lt k_on) ∙ m.same k lt k_on
        | inr ge ↦ let e : k ≡ at = omega (arith, b, ge) in ap (λ (q : Term). tree new.nodes q.0) (ap (new_place (moved ++ t ∷ [])) e ∙ last) ∙ held_trees ∙ ap (tree ns) (sym e)
      ];
      few = omega (arith, ap length grown, length-append old.nodes (n ∷ []), m.few);
      room = omega (arith, room, cost_new old.nodes n fresh, m.room);
    }

-- nothing is moved at first
pub none_moved : (ns : List Node) (ms : List Bool) (store : Contents) → store.nodes ≡ [] → IsNodes store.nodes → length ns ≤ store.spare → AreMoved ns ms 0 store []
none_moved ns ms store e s room = record {
  is_nodes = s;
  len = refl;
  trees_are = ap trees e;
  within = λ k h on. absurd (omega (arith, h));
  same = λ k h on. absurd (omega (arith, h));
  few = omega (arith, ap length e);
  room = omega (arith, room);
}

-- the marks of what is reached have the operands of each among them
pub reached_have_operands : (ns : List Node) (roots : List Term) (ms : List Bool) → IsNodes ns → length ms ≡ length ns
    → ((place : ℕ) → place < length ns → (slice_index_or ms place false ≡ true) ↔ IsReached ns roots place) → HaveOperands ns ms
reached_have_operands ns roots ms s len h place operand w on o =
    let low : operand < length ns = omega (arith, w, operand_lower place operand (node_at ns place) (s.lower place w) o) in
    (h operand low).1 (reached_operand ns roots place operand s w ((h place w).0 on) o)

-- all places are moved that the roots reach
pub all_moved : (ns : List Node) (roots : List Term) (ms : List Bool) (store : Contents) (moved : List Term)
    → ((place : ℕ) → place < length ns → (slice_index_or ms place false ≡ true) ↔ IsReached ns roots place) → AreMoved ns ms (length ns) store moved → trees store.nodes ≡ reached_trees ns roots
all_moved ns roots ms store moved h m =
    m.trees_are ∙ ap (map (tree ns)) (filter_same (is_marked ms) (is_reached ns roots) (length ns) (marks_agree ns roots ms h))

-- a root is marked
root_marked : (ns : List Node) (roots : List Term) (ms : List Bool) (k : ℕ) (d : Term) → All (λ t. t.0 < length ns) roots
    → ((place : ℕ) → place < length ns → (slice_index_or ms place false ≡ true) ↔ IsReached ns roots place) → k < length roots → is_marked ms (slice_index_or roots k d).0 ≡ true
root_marked ns roots ms k d w h lt =
    (h (slice_index_or roots k d).0 (w k d lt)).1 (reached_from ns roots (slice_index_or roots k d).0 k d lt (in_self (tree ns (slice_index_or roots k d).0)))

-- the roots' new places, with the same trees
pub roots_moved : (ns new : List Node) (roots : List Term) (moved places : List Term) → places ≡ map (λ t. new_place moved t.0) roots
    → ((k : ℕ) (d : Term) → k < length roots → tree new (new_place moved (slice_index_or roots k d).0).0 ≡ tree ns (slice_index_or roots k d).0) → trees_at new places ≡ trees_at ns roots
roots_moved ns new roots moved places e same = ap (trees_at new) e ∙ go roots same
  where
    go : (rs : List Term) → ((k : ℕ) (d : Term) → k < length rs → tree new (new_place moved (slice_index_or rs k d).0).0 ≡ tree ns (slice_index_or rs k d).0)
        → trees_at new (map (λ t. new_place moved t.0) rs) ≡ trees_at ns rs
    go [] h = refl
    go (r ∷ rs) h = let first = h 0 r (omega arith) in let rest = go rs (λ k d lt. h (suc k) d (omega (arith, lt))) in cc

-- the roots' new places are in the new store
pub roots_within : (ns : List Node) (roots : List Term) (ms : List Bool) (store : Contents) (moved places : List Term) → All (λ t. t.0 < length ns) roots
    → ((place : ℕ) → place < length ns → (slice_index_or ms place false ≡ true) ↔ IsReached ns roots place) → AreMoved ns ms (length ns) store moved → places ≡ map (λ t. new_place moved t.0) roots
    → All (λ t. t.0 < length store.nodes) places
roots_within ns roots ms store moved places w h m e = subst (All (λ t. t.0 < length store.nodes)) (sym e) (λ k d lt.
    let low : k < length roots = omega (arith, lt, length-map roots (λ (t : Term). new_place moved t.0)) in
    let at : slice_index_or (map (λ (t : Term). new_place moved t.0) roots) k d ≡ new_place moved (slice_index_or roots k d).0 = mapped roots k d low in
    subst (λ (t : Term). t.0 < length store.nodes) (sym at) (m.within (slice_index_or roots k d).0 (w k d low) (root_marked ns roots ms k d w h low)))
  where
    mapped : (rs : List Term) (k : ℕ) (d : Term) → k < length rs → slice_index_or (map (λ (t : Term). new_place moved t.0) rs) k d ≡ new_place moved (slice_index_or rs k d).0
    mapped rs k d lt = grind (arith, common_steps)

pub roots_same : (ns : List Node) (roots : List Term) (ms : List Bool) (store : Contents) (moved places : List Term) → All (λ t. t.0 < length ns) roots
    → ((place : ℕ) → place < length ns → (slice_index_or ms place false ≡ true) ↔ IsReached ns roots place) → AreMoved ns ms (length ns) store moved → places ≡ map (λ t. new_place moved t.0) roots
    → trees_at store.nodes places ≡ trees_at ns roots
roots_same ns roots ms store moved places w h m e =
    roots_moved ns store.nodes roots moved places e (λ k d lt. m.same (slice_index_or roots k d).0 (w k d lt) (root_marked ns roots ms k d w h lt))
