-- The arms of planting a formula.
use Rattle.std.proofs.Common.{◌≡◌, ℕ, ◌<◌, ◌≤◌, ◌+◌, ap, subst, arith, sym, length, List}
use Rattle.net_model.specs.Formula.{Formula}
use Rattle.net_model.specs.Formula as formula
use Rattle.term_store.specs.declared.node.Term.{Term}
use Rattle.term_store.specs.declared.node.Node.{Node}
use Rattle.term_store.specs.declared.node.Node.TheVariants as node
use Rattle.term_store.specs.Terms.{tree_over}
use Rattle.term_store.specs.Nodes.{Contents, node_at, with_node}
use Rattle.term_store.specs.Trees.{trees_at}
use Rattle.term_store.specs.Planting.{operators, cost, HasRoomBesideNever, TakesRoomBesideNever, IsPlanted, IsPairPlanted}
use Rattle.term_store.proofs.Put.{put_Min, put_Max, put_Lt, put_delay}
use Rattle.term_store.proofs.Room.{room_after, place_for, room_then, room_one}

-- a pair that was planted, by the formulas that it is of
same_pair : (old mid : Contents) (lets : List Term) (a b da db : Formula) (x y : Term) → da ≡ a → db ≡ b
    → IsPairPlanted old.nodes mid.nodes (tree_over (trees_at old.nodes lets) da) (tree_over (trees_at old.nodes lets) db) x y
    → IsPairPlanted old.nodes mid.nodes (tree_over (trees_at old.nodes lets) a) (tree_over (trees_at old.nodes lets) b) x y
same_pair old mid lets a b da db x y ea eb p =
    subst (λ d. IsPairPlanted old.nodes mid.nodes (tree_over (trees_at old.nodes lets) a) (tree_over (trees_at old.nodes lets) d) x y) eb
    (subst (λ d. IsPairPlanted old.nodes mid.nodes (tree_over (trees_at old.nodes lets) d) (tree_over (trees_at old.nodes lets) db) x y) ea p)

-- a node more has its place once the operands are planted
place_after : (old mid : Contents) (k : ℕ) (m : ℕ) (n : Node) → m ≡ k + 1 → HasRoomBesideNever old m → TakesRoomBesideNever old mid k → length mid.nodes + cost mid.nodes n ≤ 262144
place_after old mid k m n e room takes = place_for mid n 1 (omega arith) (room_after old mid k 1 m (omega (arith, e)) room takes)

pub arm_Min : (old mid : Contents) (ms : List Node) (lets : List Term) (f a b da db : Formula) (x y r : Term) → f ≡ formula.Min a b → da ≡ a → db ≡ b → HasRoomBesideNever old (operators f)
    → IsPairPlanted old.nodes mid.nodes (tree_over (trees_at old.nodes lets) da) (tree_over (trees_at old.nodes lets) db) x y → TakesRoomBesideNever old mid (operators da + operators db)
    → ms ≡ with_node mid.nodes (node.Min x y) → r.0 < length ms → node_at ms r.0 ≡ node.Min x y → IsPlanted old.nodes ms (tree_over (trees_at old.nodes lets) f) r
arm_Min old mid ms lets f a b da db x y r ef ea eb room p takes e within at =
    let count : operators f ≡ operators da + operators db + 1 = omega (arith, ap operators ef, ap operators ea, ap operators eb) in
    let free = place_after old mid (operators da + operators db) (operators f) (node.Min x y) count room takes in
    subst (λ g. IsPlanted old.nodes ms (tree_over (trees_at old.nodes lets) g) r) (sym ef)
    (put_Min old.nodes mid.nodes ms _ _ x y r (same_pair old mid lets a b da db x y ea eb p) free e within at)

pub arm_Max : (old mid : Contents) (ms : List Node) (lets : List Term) (f a b da db : Formula) (x y r : Term) → f ≡ formula.Max a b → da ≡ a → db ≡ b → HasRoomBesideNever old (operators f)
    → IsPairPlanted old.nodes mid.nodes (tree_over (trees_at old.nodes lets) da) (tree_over (trees_at old.nodes lets) db) x y → TakesRoomBesideNever old mid (operators da + operators db)
    → ms ≡ with_node mid.nodes (node.Max x y) → r.0 < length ms → node_at ms r.0 ≡ node.Max x y → IsPlanted old.nodes ms (tree_over (trees_at old.nodes lets) f) r
arm_Max old mid ms lets f a b da db x y r ef ea eb room p takes e within at =
    let count : operators f ≡ operators da + operators db + 1 = omega (arith, ap operators ef, ap operators ea, ap operators eb) in
    let free = place_after old mid (operators da + operators db) (operators f) (node.Max x y) count room takes in
    subst (λ g. IsPlanted old.nodes ms (tree_over (trees_at old.nodes lets) g) r) (sym ef)
    (put_Max old.nodes mid.nodes ms _ _ x y r (same_pair old mid lets a b da db x y ea eb p) free e within at)

pub arm_Lt : (old mid : Contents) (ms : List Node) (lets : List Term) (f a b da db : Formula) (x y r : Term) → f ≡ formula.Lt a b → da ≡ a → db ≡ b → HasRoomBesideNever old (operators f)
    → IsPairPlanted old.nodes mid.nodes (tree_over (trees_at old.nodes lets) da) (tree_over (trees_at old.nodes lets) db) x y → TakesRoomBesideNever old mid (operators da + operators db)
    → ms ≡ with_node mid.nodes (node.Lt x y) → r.0 < length ms → node_at ms r.0 ≡ node.Lt x y → IsPlanted old.nodes ms (tree_over (trees_at old.nodes lets) f) r
arm_Lt old mid ms lets f a b da db x y r ef ea eb room p takes e within at =
    let count : operators f ≡ operators da + operators db + 1 = omega (arith, ap operators ef, ap operators ea, ap operators eb) in
    let free = place_after old mid (operators da + operators db) (operators f) (node.Lt x y) count room takes in
    subst (λ g. IsPlanted old.nodes ms (tree_over (trees_at old.nodes lets) g) r) (sym ef)
    (put_Lt old.nodes mid.nodes ms _ _ x y r (same_pair old mid lets a b da db x y ea eb p) free e within at)

pub arm_Inc : (old mid : Contents) (ms : List Node) (lets : List Term) (f a da : Formula) (c : ℕ) (x r : Term) → f ≡ formula.Inc a c → da ≡ a → (c ≡ 0 → ⊥) → c ≤ 1000000 → HasRoomBesideNever old (operators f)
    → IsPlanted old.nodes mid.nodes (tree_over (trees_at old.nodes lets) da) x → TakesRoomBesideNever old mid (operators da)
    → ms ≡ with_node mid.nodes (node.Inc x c) → r.0 < length ms → node_at ms r.0 ≡ node.Inc x c → IsPlanted old.nodes ms (tree_over (trees_at old.nodes lets) f) r
arm_Inc old mid ms lets f a da c x r ef ea pos hi room p takes e within at =
    let count : operators f ≡ operators da + 1 = omega (arith, ap operators ef, ap operators ea) in
    let free = place_after old mid (operators da) (operators f) (node.Inc x c) count room takes in
    let p2 = subst (λ d. IsPlanted old.nodes mid.nodes (tree_over (trees_at old.nodes lets) d) x) ea p in
    subst (λ g. IsPlanted old.nodes ms (tree_over (trees_at old.nodes lets) g) r) (sym ef) (put_delay old.nodes mid.nodes ms _ c x r p2 pos hi free e within at)

pub room_Inc : (old mid new : Contents) (f a da : Formula) (c : ℕ) (n : Node) → f ≡ formula.Inc a c → da ≡ a → TakesRoomBesideNever old mid (operators da) → new.nodes ≡ with_node mid.nodes n → mid.spare ≤ new.spare + cost mid.nodes n
    → TakesRoomBesideNever old new (operators f)
room_Inc old mid new f a da c n ef ea takes e h =
    let count : operators da + 1 ≡ operators f = omega (arith, ap operators ef, ap operators ea) in
    subst (TakesRoomBesideNever old new) count (room_then old mid new (operators da) 1 takes (room_one mid new n e h))
