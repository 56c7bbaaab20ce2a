-- Planting one tree after another.
use Rattle.std.proofs.Common.{◌≡◌, ℕ, zero, suc, ◌<◌, ◌≤◌, ◌+◌, refl, ap, subst, arith, sym, ◌∙◌, length, List, [], ◌∷◌, ◌++◌, map, take, add-one, true, inl, inr}
use Rattle.std.specs.List.{All, slice_index_or}
use Rattle.std.proofs.lemmas.Grind.{common_steps}
use Rattle.std.proofs.lemmas.Bool.{cases_lt}
use Rattle.std.proofs.lemmas.List.{take_more, map-append}
use Rattle.std.proofs.lemmas.List.Sums.{fold_more, fold-append, sum_by_more, sum_by-take-le}
use Rattle.net_model.specs.Formula.{Formula, Equation}
use Rattle.term_store.specs.declared.node.Term.{Term}
use Rattle.term_store.specs.declared.node.Node.{Node}
use Rattle.term_store.specs.declared.node.Node.TheVariants as node
use Rattle.term_store.specs.Tree.{Tree, Input}
use Rattle.term_store.specs.Terms.{tree_over, let_trees, input_trees}
use Rattle.term_store.specs.Nodes.{Contents, IsNodes, with_node, node_at, holds}
use Rattle.term_store.specs.Trees.{tree, plant_one, plant, IsPrefix, trees_at}
use Rattle.term_store.specs.Planting.{cost, operators, all_operators, HasRoomBesideNever, TakesRoomBesideNever, IsReady, AreReadyLets, AreReadyOutputs, IsPlanted, ArePlanted}
use Rattle.term_store.proofs.Put.{put_leaf, within_more, same_trees, prefix_then}
use Rattle.term_store.proofs.Room.{room_after, room_then, holds_it, holds_with}
use Rattle.term_store.proofs.Ready.{ready_more}

trees-append : (ns : List Node) (rs : List Term) (r : Term) → trees_at ns (rs ++ r ∷ []) ≡ trees_at ns rs ++ tree ns r.0 ∷ []
trees-append ns rs r = grind (arith, common_steps)

all-push : (m : ℕ) (rs : List Term) (r : Term) → All (λ t. t.0 < m) rs → r.0 < m → All (λ t. t.0 < m) (rs ++ r ∷ [])
all-push m rs r all h = grind (arith, common_steps)

-- one tree more
pub run_more : (ns ms ls : List Node) (ts : List Tree) (rs : List Term) (t : Tree) (r : Term) → ArePlanted ns ms ts rs → IsPlanted ms ls t r
    → ArePlanted ns ls (ts ++ t ∷ []) (rs ++ r ∷ [])
run_more ns ms ls ts rs t r p q = record {
  is_nodes = q.is_nodes;
  grown = prefix_then ns ms ls p.grown q.grown;
  nodes_are = q.nodes_are ∙ ap (λ xs. plant_one xs t) p.nodes_are ∙ sym (fold-append plant_one ns ts (t ∷ []));
  within = all-push (length ls) rs r (λ i d h. within_more ms ls _ q.grown (p.within i d h)) q.within;
  trees_are = trees-append ls rs r ∙ ap (λ xs. xs ++ tree ls r.0 ∷ []) (same_trees ms ls rs q.grown p.within ∙ p.trees_are) ∙ ap (λ u. ts ++ u ∷ []) q.tree_is;
}

-- the lets before a place, and the one there
let_more : (bs : List Equation) (i : ℕ) (d : Equation) → i < length bs → let_trees (take (i + 1) bs) ≡ let_trees (take i bs) ++ tree_over (let_trees (take i bs)) (slice_index_or bs i d).body ∷ []
let_more bs i d h = fold_more (λ done b. done ++ tree_over done b.body ∷ []) [] bs i d h

pub operators_more : (bs : List Equation) (i : ℕ) (d : Equation) → i < length bs → all_operators (take (i + 1) bs) ≡ all_operators (take i bs) + operators (slice_index_or bs i d).body
operators_more bs i d h = sum_by_more (λ b. operators b.body) bs i d h

-- what is left for the body at a place
pub room_for_body : (old mid : Contents) (bs : List Equation) (i : ℕ) (d : Equation) (f : Formula) → i < length bs → d ≡ slice_index_or bs i d → f ≡ d.body → HasRoomBesideNever old (all_operators bs) → TakesRoomBesideNever old mid (all_operators (take i bs))
    → HasRoomBesideNever mid (operators f)
room_for_body old mid bs i d f h at e room takes =
    let more = operators_more bs i d h in
    let o : operators f ≡ operators (slice_index_or bs i d).body = ap operators e ∙ ap (λ (b : Equation). operators b.body) at in
    room_after old mid (all_operators (take i bs)) (operators f) (all_operators bs) (omega (arith, more, o, sum_by-take-le (λ b. operators b.body) bs (i + 1))) room takes

-- one body more was planted
pub room_body : (old mid new : Contents) (bs : List Equation) (i : ℕ) (d : Equation) (f : Formula) → i < length bs → d ≡ slice_index_or bs i d → f ≡ d.body → TakesRoomBesideNever old mid (all_operators (take i bs)) → TakesRoomBesideNever mid new (operators f)
    → TakesRoomBesideNever old new (all_operators (take (i + 1) bs))
room_body old mid new bs i d f h at e p q =
    let o : operators f ≡ operators (slice_index_or bs i d).body = ap operators e ∙ ap (λ (b : Equation). operators b.body) at in
    let count : all_operators (take i bs) + operators f ≡ all_operators (take (i + 1) bs) = omega (arith, operators_more bs i d h, o) in
    subst (TakesRoomBesideNever old new) count (room_then old mid new (all_operators (take i bs)) (operators f) p q)

ready_from : (ns : List Node) (k : ℕ) (bs : List Equation) (i : ℕ) (d : Equation) → AreReadyLets ns k bs → i < length bs → IsReady ns (k + i) (slice_index_or bs i d).body
ready_from ns k [] i d r h = absurd (omega arith)
ready_from ns k (b ∷ bs) zero d r h = let e : k ≡ k + 0 = omega arith in subst (λ m. IsReady ns m b.body) e r.0
ready_from ns k (b ∷ bs) (suc i) d r h =
    let e : suc k + i ≡ k + suc i = omega arith in
    subst (λ m. IsReady ns m (slice_index_or bs i d).body) e (ready_from ns (suc k) bs i d r.1 (omega arith))

-- the let at a place is ready, once those before it are planted
pub ready_let : (ns ms : List Node) (bs : List Equation) (i k : ℕ) (d : Equation) (f : Formula) → i < length bs → d ≡ slice_index_or bs i d → f ≡ d.body → k ≡ i → IsPrefix ns ms → AreReadyLets ns 0 bs → IsReady ms k f
ready_let ns ms bs i k d f h at e len p r =
    let z : 0 + i ≡ i = omega arith in
    let here : IsReady ns i (slice_index_or bs i d).body = subst (λ m. IsReady ns m (slice_index_or bs i d).body) z (ready_from ns 0 bs i d r h) in
    let o : (slice_index_or bs i d).body ≡ f = ap (λ (b : Equation). b.body) (sym at) ∙ sym e in
    ready_more ns ms k f p (subst (λ m. IsReady ns m f) (sym len) (subst (IsReady ns i) o here))

ready_each : (ns : List Node) (k : ℕ) (bs : List Equation) (i : ℕ) (d : Equation) → AreReadyOutputs ns k bs → i < length bs → IsReady ns k (slice_index_or bs i d).body
ready_each ns k [] i d r h = absurd (omega arith)
ready_each ns k (b ∷ bs) zero d r h = r.0
ready_each ns k (b ∷ bs) (suc i) d r h = ready_each ns k bs i d r.1 (omega arith)

-- the output at a place is ready
pub ready_output : (ns ms : List Node) (bs : List Equation) (i k : ℕ) (d : Equation) (f : Formula) → i < length bs → d ≡ slice_index_or bs i d → f ≡ d.body → IsPrefix ns ms → AreReadyOutputs ns k bs → IsReady ms k f
ready_output ns ms bs i k d f h at e p r =
    let o : (slice_index_or bs i d).body ≡ f = ap (λ (b : Equation). b.body) (sym at) ∙ sym e in
    ready_more ns ms k f p (subst (IsReady ns k) o (ready_each ns k bs i d r h))

-- one let more
pub run_let : (ns ms ls : List Node) (bs : List Equation) (i : ℕ) (d : Equation) (f : Formula) (rs us vs : List Term) (r : Term) → i < length bs → d ≡ slice_index_or bs i d → f ≡ d.body → us ≡ rs → vs ≡ rs ++ r ∷ []
    → ArePlanted ns ms (let_trees (take i bs)) rs → IsPlanted ms ls (tree_over (trees_at ms us) f) r
    → ArePlanted ns ls (let_trees (take (i + 1) bs)) vs
run_let ns ms ls bs i d f rs us vs r h at e u v p q =
    let q1 = subst (λ ts. IsPlanted ms ls (tree_over ts f) r) (ap (trees_at ms) u ∙ p.trees_are) q in
    let run = run_more ns ms ls _ rs _ r p q1 in
    let o : (slice_index_or bs i d).body ≡ f = ap (λ (b : Equation). b.body) (sym at) ∙ sym e in
    let m : let_trees (take (i + 1) bs) ≡ let_trees (take i bs) ++ tree_over (let_trees (take i bs)) f ∷ [] =
    let_more bs i d h ∙ ap (λ g. let_trees (take i bs) ++ tree_over (let_trees (take i bs)) g ∷ []) o in
    subst (ArePlanted ns ls (let_trees (take (i + 1) bs))) (sym v) (subst (λ ts. ArePlanted ns ls ts (rs ++ r ∷ [])) (sym m) run)

map_more : (f : Equation → Tree) (bs : List Equation) (i : ℕ) (d : Equation) → i < length bs → map f (take (i + 1) bs) ≡ map f (take i bs) ++ f (slice_index_or bs i d) ∷ []
map_more f bs i d h = ap (map f) (take_more bs i d h) ∙ map-append f (take i bs) (slice_index_or bs i d ∷ [])

-- one output more
pub run_output : (ns ms ls : List Node) (bs : List Equation) (i : ℕ) (d : Equation) (f : Formula) (lets rs vs : List Term) (r : Term) → i < length bs → d ≡ slice_index_or bs i d → f ≡ d.body → All (λ t. t.0 < length ns) lets → vs ≡ rs ++ r ∷ []
    → ArePlanted ns ms (map (λ b. tree_over (trees_at ns lets) b.body) (take i bs)) rs → IsPlanted ms ls (tree_over (trees_at ms lets) f) r
    → ArePlanted ns ls (map (λ b. tree_over (trees_at ns lets) b.body) (take (i + 1) bs)) vs
run_output ns ms ls bs i d f lets rs vs r h at e all v p q =
    let g : Equation → Tree = λ b. tree_over (trees_at ns lets) b.body in
    let q1 = subst (λ ts. IsPlanted ms ls (tree_over ts f) r) (same_trees ns ms lets p.grown all) q in
    let run = run_more ns ms ls _ rs _ r p q1 in
    let o : (slice_index_or bs i d).body ≡ f = ap (λ (b : Equation). b.body) (sym at) ∙ sym e in
    let m : map g (take (i + 1) bs) ≡ map g (take i bs) ++ tree_over (trees_at ns lets) f ∷ [] = map_more g bs i d h ∙ ap (λ b. map g (take i bs) ++ tree_over (trees_at ns lets) b ∷ []) o in
    subst (ArePlanted ns ls (map g (take (i + 1) bs))) (sym v) (subst (λ ts. ArePlanted ns ls ts (rs ++ r ∷ [])) (sym m) run)

pub input_one_more : (i : ℕ) → input_trees (i + 1) ≡ input_trees i ++ Input i ∷ []
input_one_more i = ap input_trees (add-one i)

-- one input more
pub inputs_more : (ns ms ls : List Node) (i : ℕ) → ms ≡ plant ns (input_trees i) → ls ≡ with_node ms (node.Input i) → ls ≡ plant ns (input_trees (i + 1))
inputs_more ns ms ls i p e =
    e ∙ ap (λ xs. with_node xs (node.Input i)) p ∙ sym (fold-append plant_one ns (input_trees i) (Input i ∷ [])) ∙ ap (plant ns) (sym (input_one_more i))

pub held_more : (ms ls : List Node) (i : ℕ) → ls ≡ with_node ms (node.Input i) → ((j : ℕ) → j < i → holds ms (node.Input j) ≡ true) → (j : ℕ) → j < i + 1 → holds ls (node.Input j) ≡ true
held_more ms ls i e all j h = elim (cases_lt j i) [
  | inl b ↦ ap (λ xs. holds xs (node.Input j)) e ∙ holds_with ms (node.Input i) (node.Input j) (all j b)
  | inr b ↦ let same : j ≡ i = omega arith in ap (λ xs. holds xs (node.Input j)) e ∙ ap (λ k. holds (with_node ms (node.Input i)) (node.Input k)) same ∙ holds_it ms (node.Input i)
]

pub input_planted : (ms ls : List Node) (i : ℕ) (r : Term) → IsNodes ms → i < 64 → length ms + cost ms (node.Input i) ≤ 262144 → ls ≡ with_node ms (node.Input i) → r.0 < length ls → node_at ls r.0 ≡ node.Input i → IsPlanted ms ls (Input i) r
input_planted ms ls i r s small room e within at = put_leaf ms ls (node.Input i) (Input i) r s small room e within at refl refl
