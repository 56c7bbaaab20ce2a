-- The marked places of a store, simplified in order.
use Rattle.std.proofs.Common.{◌≡◌, ℕ, zero, suc, ◌<◌, ◌≤◌, ◌+◌, Bool, true, false, refl, ap, subst, arith, sym, ◌∙◌, length, List, [], ◌∷◌, ◌++◌, length-append, map, inl, inr, ◌↔◌}
use Rattle.std.specs.List.{All, AllByRecursion, slice_index_or}
use Rattle.std.proofs.lemmas.Bool.{cases_lt}
use Rattle.std.proofs.lemmas.Grind.{common_steps}
use Rattle.std.proofs.lemmas.List.Sums.{fold-append}
use Rattle.std.specs.Prelude.{filter}
use Rattle.std.proofs.lemmas.List.{get_or_append_left, get_or_push, length-map, map-append}
use Rattle.rl_time.specs.declared.time.Time.{Time}
use Rattle.term_store.specs.declared.node.Term.{Term}
use Rattle.term_store.specs.declared.node.Node.{Node}
use Rattle.term_store.specs.declared.node.Node.TheVariants as node
use Rattle.term_store.specs.Tree.{Tree, Never, Input, Min, Max, Lt, Inc, value, span}
use Rattle.term_store.specs.Nodes.{Contents, node_at, IsNodeOver, IsNodes}
use Rattle.term_store.specs.Trees.{tree, trees_at, term, plant, plant_one, IsPrefix}
use Rattle.term_store.specs.Reach.{is_reached, IsReached, IsOperand}
use Rattle.term_store.specs.Compacted.{trees_where, reached_trees}
use Rattle.term_store.specs.Places.{places, is_marked, tree_by_places}
use Rattle.term_store.specs.Room.{HasRoom, TakesRoom}
use Rattle.term_store.proofs.Counted.{follows}
use Rattle.term_store.proofs.ExtractedIs.{marks_agree}
use Rattle.term_store.proofs.ListedPlaces.{kept, filter_next, filter_same}
use Rattle.term_store.proofs.Marks.{operand_lower, reached_in, reached_from}
use Rattle.term_store.proofs.Moved.{reached_have_operands}
use Rattle.term_store.proofs.Parts.{IsIn, in_self}
use Rattle.term_store.proofs.TreeLaws.{tree_prefix}
use Rattle.simplify.specs.Laws.{HasDelays}
use Rattle.simplify.specs.Simplified.{settled, simplified}
use Rattle.simplify.specs.Passing.{AreMarked, AreSimplified, HasSimplified}
use Rattle.term_store.specs.Compacted.{new_place, moved_node}
use Rattle.simplify.proofs.Simp.{settled_none, input_none, never_none, simp_good}

-- a node over simplified operands

pub after_over : (ns : List Node) (became : List Term) (m : ℕ) (n : Node) → IsNodeOver m n → HasSimplified ns became n → IsNodeOver (length ns) (moved_node became n)
after_over ns became m (node.Input i) o h = o
after_over ns became m node.Never o h = tt
after_over ns became m (node.Min a b) o h = ((h a.0 (inl refl)).0, (h b.0 (inr refl)).0)
after_over ns became m (node.Max a b) o h = ((h a.0 (inl refl)).0, (h b.0 (inr refl)).0)
after_over ns became m (node.Lt a b) o h = ((h a.0 (inl refl)).0, (h b.0 (inr refl)).0)
after_over ns became m (node.Inc a c) o h = ((h a.0 refl).0, o.1, o.2)

pub after_tree : (ns : List Node) (became : List Term) (n : Node) → HasSimplified ns became n → settled (tree_by_places ns (moved_node became n)) ≡ simplified (tree_by_places ns n)
after_tree ns became (node.Input i) h = settled_none (Input i) (input_none i)
after_tree ns became node.Never h = settled_none Never never_none
after_tree ns became (node.Min a b) h = ap settled (λ i. Min ((h a.0 (inl refl)).1 i) ((h b.0 (inr refl)).1 i))
after_tree ns became (node.Max a b) h = ap settled (λ i. Max ((h a.0 (inl refl)).1 i) ((h b.0 (inr refl)).1 i))
after_tree ns became (node.Lt a b) h = ap settled (λ i. Lt ((h a.0 (inl refl)).1 i) ((h b.0 (inr refl)).1 i))
after_tree ns became (node.Inc a c) h = ap settled (ap (λ t. Inc t c) (h a.0 refl).1)

operand_span : (ns : List Node) (became : List Term) (n : Node) (k : ℕ) → HasSimplified ns became n → IsOperand k n → span (tree ns (new_place became k).0) ≤ span (tree ns k)
operand_span ns became n k h o = omega (arith, ap span (h k o).1, (simp_good (tree ns k)).no_longer)

pub after_span : (ns : List Node) (became : List Term) (n : Node) → HasSimplified ns became n → span (tree_by_places ns (moved_node became n)) ≤ span (tree_by_places ns n)
after_span ns became (node.Input i) h = omega arith
after_span ns became node.Never h = omega arith
after_span ns became (node.Min a b) h = omega (arith, operand_span ns became (node.Min a b) a.0 h (inl refl), operand_span ns became (node.Min a b) b.0 h (inr refl))
after_span ns became (node.Max a b) h = omega (arith, operand_span ns became (node.Max a b) a.0 h (inl refl), operand_span ns became (node.Max a b) b.0 h (inr refl))
after_span ns became (node.Lt a b) h = omega (arith, operand_span ns became (node.Lt a b) a.0 h (inl refl), operand_span ns became (node.Lt a b) b.0 h (inr refl))
after_span ns became (node.Inc a c) h = omega (arith, operand_span ns became (node.Inc a c) a.0 h refl)

-- nodes that grow

pub longer : (old new : List Node) → IsPrefix old new → length old ≤ length new
longer old new p = omega (arith, ap length p.1, length-append old p.0)

pub prefix_tree : (old new : List Node) (k : ℕ) → IsPrefix old new → k < length old → tree new k ≡ tree old k
prefix_tree old new k p h = ap (λ ns. tree ns k) p.1 ∙ tree_prefix old p.0 k h

prefix_node : (old new : List Node) (k : ℕ) → IsPrefix old new → k < length old → node_at new k ≡ node_at old k
prefix_node old new k p h = ap (λ ns. node_at ns k) p.1 ∙ get_or_append_left old p.0 node.Never k h

pub prefix_refl : (ns : List Node) → IsPrefix ns ns
prefix_refl ns = ([], sym (nothing_more ns))
  where
    nothing_more : (xs : List Node) → xs ++ [] ≡ xs
    nothing_more [] = refl
    nothing_more (x ∷ xs) = ap (λ ys. x ∷ ys) (nothing_more xs)

pub prefix_trans : (a b c : List Node) → IsPrefix a b → IsPrefix b c → IsPrefix a c
prefix_trans a b c p q = (p.0 ++ q.0, q.1 ∙ ap (λ xs. xs ++ q.0) p.1 ∙ assoc a p.0 q.0)
  where
    assoc : (xs ys zs : List Node) → (xs ++ ys) ++ zs ≡ xs ++ (ys ++ zs)
    assoc [] ys zs = refl
    assoc (x ∷ xs) ys zs = ap (λ l. x ∷ l) (assoc xs ys zs)

pub marked_grown : (old new : List Node) (marks : List Bool) → IsPrefix old new → AreMarked old marks → AreMarked new marks
marked_grown old new marks p m = record {
  len = omega (arith, m.len, longer old new p);
  operands = λ place operand h on o. m.operands place operand h on (subst (IsOperand operand) (prefix_node old new place p (omega (arith, h, m.len))) o);
  short = λ place h on. omega (arith, ap span (prefix_tree old new place p (omega (arith, h, m.len))), m.short place h on);
}

-- the operands of a marked place are simplified
pub operands_simplified : (ns : List Node) (marks : List Bool) (place : ℕ) (became : List Term) → IsNodes ns → place < length marks → is_marked marks place ≡ true → AreMarked ns marks → AreSimplified ns marks place became
    → HasSimplified ns became (node_at ns place)
operands_simplified ns marks place became s h on m p = λ k o.
    (let low : k < place = operand_lower place k (node_at ns place) (s.lower place (omega (arith, h, m.len))) o in
    let k_on = m.operands place k h on o in
    (p.within k low k_on, p.same k low k_on))

pub node_over : (ns : List Node) (marks : List Bool) (place : ℕ) (became : List Term) → IsNodes ns → place < length marks → AreMarked ns marks → AreSimplified ns marks place became → IsNodeOver (length became) (node_at ns place)
node_over ns marks place became s h m p = subst (λ k. IsNodeOver k (node_at ns place)) (sym p.len) (s.lower place (omega (arith, h, m.len)))

pub node_short : (ns : List Node) (marks : List Bool) (place : ℕ) → IsNodes ns → place < length marks → is_marked marks place ≡ true → AreMarked ns marks → span (tree_by_places ns (node_at ns place)) ≤ 1000000
node_short ns marks place s h on m = omega (arith, ap span (follows ns place s (omega (arith, h, m.len))), m.short place h on)

pub place_tree : (ns : List Node) (place : ℕ) (marks : List Bool) → IsNodes ns → place < length marks → AreMarked ns marks → tree ns place ≡ tree_by_places ns (node_at ns place)
place_tree ns place marks s h m = follows ns place s (omega (arith, h, m.len))

-- one place more
pub one_passed : (old new : List Node) (marks : List Bool) (place : ℕ) (became : List Term) (t : Term) → place < length marks → AreMarked old marks → AreSimplified old marks place became → IsPrefix old new
    → (is_marked marks place ≡ true → (t.0 < length new) × (tree new t.0 ≡ simplified (tree old place))) → AreSimplified new marks (place + 1) (became ++ t ∷ [])
one_passed old new marks place became t h m p grown here =
    let stays : (k : ℕ) → k < place → new_place (became ++ t ∷ []) k ≡ new_place became k = λ k b. get_or_append_left became (t ∷ []) (term 0) k (omega (arith, b, p.len)) in
    let last : new_place (became ++ t ∷ []) place ≡ t = get_or_push became t (term 0) place p.len in
    let on_at : (k : ℕ) → k ≡ place → is_marked marks k ≡ true → is_marked marks place ≡ true = λ k e on. ap (is_marked marks) (sym e) ∙ on in
    record {
      len = omega (arith, length-append became (t ∷ []), p.len);
      within = λ k b on. elim (cases_lt k place) [
        | inl lt ↦ subst (λ (q : Term). q.0 < length new) (sym (stays k lt)) (omega (arith, p.within k lt on, longer old new grown))
        | inr ge ↦ let e : k ≡ place = omega (arith, b, ge) in subst (λ (q : Term). q.0 < length new) (sym (ap (new_place (became ++ t ∷ [])) e ∙ last)) (here (on_at k e on)).0
      ];
      same = λ k b on. elim (cases_lt k place) [
        | inl lt ↦ ap (λ (q : Term). tree new q.0) (stays k lt) ∙ prefix_tree old new (new_place became k).0 grown (p.within k lt on) ∙ p.same k lt on
            ∙ ap simplified (sym (prefix_tree old new k grown (omega (arith, lt, h, m.len))))
        | inr ge ↦ let e : k ≡ place = omega (arith, b, ge) in
            ap (λ (q : Term). tree new q.0) (ap (new_place (became ++ t ∷ [])) e ∙ last) ∙ (here (on_at k e on)).1
            ∙ ap simplified (sym (prefix_tree old new place grown (omega (arith, h, m.len))) ∙ ap (tree new) (sym e))
      ];
    }

pub none_passed : (ns : List Node) (marks : List Bool) → AreSimplified ns marks 0 []
none_passed ns marks = record { len = refl; within = λ k h on. absurd (omega (arith, h)); same = λ k h on. absurd (omega (arith, h)) }

-- what the roots reach is no later than they

span_in : (s t : Tree) → IsIn s t → span s ≤ span t
span_in s Never h = omega (arith, ap span h)
span_in s (Input i) h = omega (arith, ap span h)
span_in s (Min a b) h = elim h [ inl e ↦ omega (arith, ap span e) | inr k ↦ elim k [ inl p ↦ omega (arith, span_in s a p) | inr q ↦ omega (arith, span_in s b q) ] ]
span_in s (Max a b) h = elim h [ inl e ↦ omega (arith, ap span e) | inr k ↦ elim k [ inl p ↦ omega (arith, span_in s a p) | inr q ↦ omega (arith, span_in s b q) ] ]
span_in s (Lt a b) h = elim h [ inl e ↦ omega (arith, ap span e) | inr k ↦ elim k [ inl p ↦ omega (arith, span_in s a p) | inr q ↦ omega (arith, span_in s b q) ] ]
span_in s (Inc a c) h = elim h [ inl e ↦ omega (arith, ap span e) | inr p ↦ omega (arith, span_in s a p) ]

short_at : (ns : List Node) (roots : List Term) (k : ℕ) (d : Term) → AllByRecursion (λ t. span t ≤ 1000000) (trees_at ns roots) → k < length roots → span (tree ns (slice_index_or roots k d).0) ≤ 1000000
short_at ns [] k d a h = absurd (omega (arith, h))
short_at ns (r ∷ roots) zero d a h = a.0
short_at ns (r ∷ roots) (suc k) d a h = short_at ns roots k d a.1 (omega (arith, h))

pub reached_marked : (ns : List Node) (roots : List Term) (marks : List Bool) → IsNodes ns → length marks ≡ length ns → AllByRecursion (λ t. span t ≤ 1000000) (trees_at ns roots)
    → ((place : ℕ) → place < length ns → (slice_index_or marks place false ≡ true) ↔ IsReached ns roots place) → AreMarked ns marks
reached_marked ns roots marks s len short h =
    let closed = reached_have_operands ns roots marks s len h in
    record {
      len = omega (arith, len);
      operands = λ place operand w on o. closed place operand (omega (arith, w, len)) on o;
      short = λ place w on.
          (let f = reached_in ns roots place (term 0) ((h place (omega (arith, w, len))).0 on) in
          omega (arith, span_in (tree ns place) (tree ns (slice_index_or roots f.0 (term 0)).0) f.2, short_at ns roots f.0 (term 0) short f.1));
    }

root_marked : (ns : List Node) (roots : List Term) (marks : List Bool) (k : ℕ) (d : Term) → All (λ t. t.0 < length ns) roots
    → ((place : ℕ) → place < length ns → (slice_index_or marks place false ≡ true) ↔ IsReached ns roots place) → k < length roots → is_marked marks (slice_index_or roots k d).0 ≡ true
root_marked ns roots marks k d w h lt =
    (h (slice_index_or roots k d).0 (w k d lt)).1 (reached_from ns roots (slice_index_or roots k d).0 k d lt (in_self (tree ns (slice_index_or roots k d).0)))

-- the roots are simplified

pub roots_within : (ns new : List Node) (roots : List Term) (marks : List Bool) (became places : List Term) → All (λ t. t.0 < length ns) roots → length marks ≡ length ns
    → ((place : ℕ) → place < length ns → (slice_index_or marks place false ≡ true) ↔ IsReached ns roots place) → AreSimplified new marks (length marks) became → places ≡ map (λ t. new_place became t.0) roots
    → All (λ t. t.0 < length new) places
roots_within ns new roots marks became places w len h p e = subst (All (λ t. t.0 < length new)) (sym e) (λ k d lt.
    let low : k < length roots = omega (arith, lt, length-map roots (λ (t : Term). new_place became t.0)) in
    let at = mapped roots k d low in
    subst (λ (t : Term). t.0 < length new) (sym at) (p.within (slice_index_or roots k d).0 (omega (arith, w k d low, len)) (root_marked ns roots marks k d w h low)))
  where
    mapped : (rs : List Term) (k : ℕ) (d : Term) → k < length rs → slice_index_or (map (λ (t : Term). new_place became t.0) rs) k d ≡ new_place became (slice_index_or rs k d).0
    mapped rs k d lt = grind (arith, common_steps)

pub roots_simplified : (ns new : List Node) (roots : List Term) (marks : List Bool) (became places : List Term) → All (λ t. t.0 < length ns) roots → length marks ≡ length ns → IsPrefix ns new
    → ((place : ℕ) → place < length ns → (slice_index_or marks place false ≡ true) ↔ IsReached ns roots place) → AreSimplified new marks (length marks) became → places ≡ map (λ t. new_place became t.0) roots
    → trees_at new places ≡ map simplified (trees_at ns roots)
roots_simplified ns new roots marks became places w len grown h p e =
    ap (trees_at new) e ∙ go roots (λ k d lt.
    (let r = (slice_index_or roots k d).0 in
    p.same r (omega (arith, w k d lt, len)) (root_marked ns roots marks k d w h lt) ∙ ap simplified (prefix_tree ns new r grown (w k d lt))))
  where
    go : (rs : List Term) → ((k : ℕ) (d : Term) → k < length rs → tree new (new_place became (slice_index_or rs k d).0).0 ≡ simplified (tree ns (slice_index_or rs k d).0))
        → trees_at new (map (λ t. new_place became t.0) rs) ≡ map simplified (trees_at ns rs)
    go [] hs = refl
    go (r ∷ rs) hs = let first = hs 0 r (omega arith) in let rest = go rs (λ k d lt. hs (suc k) d (omega (arith, lt))) in cc

-- a store's terms have delays of at least one cycle, so simplifying keeps their times

node_delays : (ns : List Node) (m : ℕ) (n : Node) → IsNodeOver m n → ((k : ℕ) → k < m → HasDelays (tree ns k)) → HasDelays (tree_by_places ns n)
node_delays ns m (node.Input i) o h = tt
node_delays ns m node.Never o h = tt
node_delays ns m (node.Min a b) o h = (h a.0 o.0, h b.0 o.1)
node_delays ns m (node.Max a b) o h = (h a.0 o.0, h b.0 o.1)
node_delays ns m (node.Lt a b) o h = (h a.0 o.0, h b.0 o.1)
node_delays ns m (node.Inc a c) o h = (h a.0 o.0, o.1)

delays_below : (ns : List Node) (n place : ℕ) → IsNodes ns → place < n → place < length ns → HasDelays (tree ns place)
delays_below ns zero place s b h = absurd (omega (arith, b))
delays_below ns (suc n) place s b h =
    subst HasDelays (sym (follows ns place s h)) (node_delays ns place (node_at ns place) (s.lower place h) (λ k lt. delays_below ns n k s (omega (arith, lt, b)) (omega (arith, lt, h))))

pub values_kept : (ns : List Node) (roots : List Term) (x : List Time) → IsNodes ns → All (λ t. t.0 < length ns) roots → map (value x) (map simplified (trees_at ns roots)) ≡ map (value x) (trees_at ns roots)
values_kept ns roots x s w = go roots w
  where
    go : (rs : List Term) → All (λ t. t.0 < length ns) rs → map (value x) (map simplified (trees_at ns rs)) ≡ map (value x) (trees_at ns rs)
    go [] a = refl
    go (r ∷ rs) a =
        let low : r.0 < length ns = a 0 r (omega arith) in
        let first : value x (tree ns r.0) ≡ value x (simplified (tree ns r.0)) = (simp_good (tree ns r.0)).times (delays_below ns (suc r.0) r.0 s (omega arith) low) x in
        let rest = go rs (λ k d lt. a (suc k) d (omega (arith, lt))) in cc

pub room_more : (a b c : Contents) (k : ℕ) → TakesRoom a b k → TakesRoom b c 1 → TakesRoom a c (k + 1)
room_more a b c k p q = record { places = omega (arith, p.places, q.places); memory = omega (arith, p.memory, q.memory) }

pub room_left : (a b : Contents) (k m : ℕ) → k < m → HasRoom a m → TakesRoom a b k → HasRoom b 1
room_left a b k m lt r t = record { places = omega (arith, lt, r.places, t.places); memory = omega (arith, lt, r.memory, t.memory) }

-- what was planted, once one place more was passed
planted_so_far : (ns : List Node) (m : ℕ → Bool) (place : ℕ) → plant ns (map simplified (trees_where ns m (suc place))) ≡ plant (plant ns (map simplified (trees_where ns m place))) (map simplified (map (tree ns) (kept (m place) place)))
planted_so_far ns m place =
    ap (λ xs. plant ns (map simplified (map (tree ns) xs))) (filter_next m place)
    ∙ ap (λ xs. plant ns (map simplified xs)) (map-append (tree ns) (filter m (places place)) (kept (m place) place))
    ∙ ap (plant ns) (map-append simplified (trees_where ns m place) (map (tree ns) (kept (m place) place)))
    ∙ fold-append plant_one ns (map simplified (trees_where ns m place)) (map simplified (map (tree ns) (kept (m place) place)))

pub planted_more : (ns old new : List Node) (marks : List Bool) (place : ℕ) → place < length ns → IsPrefix ns old → old ≡ plant ns (map simplified (trees_where ns (is_marked marks) place))
    → (is_marked marks place ≡ true → new ≡ plant_one old (simplified (tree old place))) → (is_marked marks place ≡ false → new ≡ old) → new ≡ plant ns (map simplified (trees_where ns (is_marked marks) (place + 1)))
planted_more ns old new marks place h grown before on off = go (is_marked marks place) refl ∙ sym (ap (λ k. plant ns (map simplified (trees_where ns (is_marked marks) k))) (let e : place + 1 ≡ suc place = omega arith in e))
  where
    go : (b : Bool) → is_marked marks place ≡ b → new ≡ plant ns (map simplified (trees_where ns (is_marked marks) (suc place)))
    go true e =
        on e ∙ ap (λ t. plant_one old (simplified t)) (prefix_tree ns old place grown h) ∙ ap (λ xs. plant_one xs (simplified (tree ns place))) before
        ∙ sym (planted_so_far ns (is_marked marks) place ∙ ap (λ b. plant (plant ns (map simplified (trees_where ns (is_marked marks) place))) (map simplified (map (tree ns) (kept b place)))) e)
    go false e =
        off e ∙ before
        ∙ sym (planted_so_far ns (is_marked marks) place ∙ ap (λ b. plant (plant ns (map simplified (trees_where ns (is_marked marks) place))) (map simplified (map (tree ns) (kept b place)))) e)

pub marked_trees : (ns : List Node) (roots : List Term) (marks : List Bool) → length marks ≡ length ns → ((place : ℕ) → place < length ns → (slice_index_or marks place false ≡ true) ↔ IsReached ns roots place)
    → trees_where ns (is_marked marks) (length marks) ≡ reached_trees ns roots
marked_trees ns roots marks len h =
    ap (trees_where ns (is_marked marks)) len ∙ ap (map (tree ns)) (filter_same (is_marked marks) (is_reached ns roots) (length ns) (marks_agree ns roots marks h))
