-- How much room planting takes.
use Rattle.std.proofs.Common.{◌≡◌, ℕ, ◌≤◌, ◌+◌, Bool, true, false, refl, ap, arith, ◌∙◌, length, List, [], ◌∷◌, ◌++◌, length-append, ◌||◌, if◌then◌else◌}
use Rattle.std.specs.List.{list_any}
use Rattle.std.proofs.lemmas.List.Folds.{list_any-append}
use Rattle.term_store.specs.declared.node.Node.{Node}
use Rattle.term_store.specs.declared.node.Node.TheVariants as node
use Rattle.term_store.specs.Nodes.{Contents, same_node, holds, with_node, IsNodes}
use Rattle.term_store.specs.Planting.{cost, HasRoomBesideNever, TakesRoomBesideNever}
use Rattle.term_store.proofs.Same.{same_refl}
use Rattle.term_store.proofs.Push.{with_new, with_held}

pub cost_held : (ns : List Node) (n : Node) → holds ns n ≡ true → cost ns n ≡ 0
cost_held ns n e = ap (λ b. if b then 0 else 1) e

pub cost_new : (ns : List Node) (n : Node) → holds ns n ≡ false → cost ns n ≡ 1
cost_new ns n e = ap (λ b. if b then 0 else 1) e

bit : (b : Bool) → (if b then 0 else 1) ≤ 1
bit true = omega arith
bit false = omega arith

pub cost_small : (ns : List Node) (n : Node) → cost ns n ≤ 1
cost_small ns n = bit (holds ns n)

-- how long the nodes are once a node came
pub length_with : (ns : List Node) (n : Node) → length (with_node ns n) ≡ length ns + cost ns n
length_with ns n = go (holds ns n) refl
  where
    go : (b : Bool) → holds ns n ≡ b → length (with_node ns n) ≡ length ns + cost ns n
    go true e = omega (arith, ap length (with_held ns n e), cost_held ns n e)
    go false e = omega (arith, ap length (with_new ns n e), length-append ns (n ∷ []), cost_new ns n e)

-- what is held stays so
pub holds_append : (ns ms : List Node) (n : Node) → holds ns n ≡ true → holds (ns ++ ms) n ≡ true
holds_append ns ms n e = list_any-append (same_node n) ns ms ∙ ap (λ b. b || list_any (same_node n) ms) e

pub holds_with : (ns : List Node) (m n : Node) → holds ns n ≡ true → holds (with_node ns m) n ≡ true
holds_with ns m n e = go (holds ns m) refl
  where
    go : (b : Bool) → holds ns m ≡ b → holds (with_node ns m) n ≡ true
    go true h = ap (λ xs. holds xs n) (with_held ns m h) ∙ e
    go false h = ap (λ xs. holds xs n) (with_new ns m h) ∙ holds_append ns (m ∷ []) n e

-- a node that came is held
pub holds_it : (ns : List Node) (n : Node) → holds (with_node ns n) n ≡ true
holds_it ns n = go (holds ns n) refl
  where
    last : (xs : List Node) → list_any (same_node n) (xs ++ n ∷ []) ≡ true
    last [] = ap (λ b. b || false) (same_refl n)
    last (x ∷ xs) = list_any-append (same_node n) (x ∷ xs) (n ∷ []) ∙ ap (λ b. list_any (same_node n) (x ∷ xs) || (b || false)) (same_refl n) ∙ or_true (list_any (same_node n) (x ∷ xs))
      where
        or_true : (b : Bool) → (b || true) ≡ true
        or_true true = refl
        or_true false = refl

    go : (b : Bool) → holds ns n ≡ b → holds (with_node ns n) n ≡ true
    go true h = ap (λ xs. holds xs n) (with_held ns n h) ∙ h
    go false h = ap (λ xs. holds xs n) (with_new ns n h) ∙ last ns

-- never costs no more once a node came
pub cost_with : (ns : List Node) (m n : Node) → cost (with_node ns m) n ≤ cost ns n
cost_with ns m n = go (holds ns n) refl
  where
    go : (b : Bool) → holds ns n ≡ b → cost (with_node ns m) n ≤ cost ns n
    go true e = omega (arith, cost_held _ n (holds_with ns m n e))
    go false e = omega (arith, cost_new ns n e, cost_small (with_node ns m) n)

pub no_room : (s : Contents) → TakesRoomBesideNever s s 0
no_room s = record { places = omega arith; memory = omega arith }

-- one node came
pub room_one : (old new : Contents) (n : Node) → new.nodes ≡ with_node old.nodes n → old.spare ≤ new.spare + cost old.nodes n → TakesRoomBesideNever old new 1
room_one old new n e h = let one = cost_small old.nodes n in
    let less = cost_with old.nodes n node.Never in
    let c : cost new.nodes node.Never ≡ cost (with_node old.nodes n) node.Never = ap (λ ns. cost ns node.Never) e in
    record {
      places = omega (arith, ap length e, length_with old.nodes n, one, less, c);
      memory = omega (arith, h, one, less, c);
    }

-- one after the other
pub room_then : (a b c : Contents) (j k : ℕ) → TakesRoomBesideNever a b j → TakesRoomBesideNever b c k → TakesRoomBesideNever a c (j + k)
room_then a b c j k p q = record { places = omega (arith, p.places, q.places); memory = omega (arith, p.memory, q.memory) }

-- what is left
pub room_after : (a b : Contents) (j k m : ℕ) → j + k ≤ m → HasRoomBesideNever a m → TakesRoomBesideNever a b j → HasRoomBesideNever b k
room_after a b j k m le r t = record { places = omega (arith, le, r.places, t.places); memory = omega (arith, le, r.memory, t.memory) }

-- what a node takes is there
pub place_for : (s : Contents) (n : Node) (k : ℕ) → 1 ≤ k → HasRoomBesideNever s k → length s.nodes + cost s.nodes n ≤ 262144
place_for s n k h r = omega (arith, h, r.places, cost_small s.nodes n)

pub place_held : (ns : List Node) (n : Node) → IsNodes ns → holds ns n ≡ true → length ns + cost ns n ≤ 262144
place_held ns n s e = omega (arith, cost_held ns n e, s.few)

pub memory_for : (s : Contents) (n : Node) (k : ℕ) → 1 ≤ k → HasRoomBesideNever s k → cost s.nodes n ≤ s.spare
memory_for s n k h r = omega (arith, h, r.memory, cost_small s.nodes n)
