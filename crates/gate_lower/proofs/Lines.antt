-- The lines of marked places: each names what is there, and no two places have the same.
use Rattle.std.proofs.Common.{◌≡◌, ℕ, zero, suc, ◌≤◌, ◌<◌, Bool, true, false, List, length, map, max, refl, ap, sym, ◌∙◌, subst, arith, Some, inl, inr}
use Rattle.std.specs.Prelude.{nat_lt, nat_eq, slice_get, fold, if◌then◌else◌, ◌⊎◌}
use Rattle.std.proofs.Math.Nat.{le-max_left, le-max_right}
use Rattle.std.proofs.lemmas.Bool.{and_parts, and_from, cases_lt, eqb-true}
use Rattle.std.proofs.lemmas.Bool.Decides.{nat_tests}
use Rattle.term_store.specs.declared.node.Term.{Term}
use Rattle.term_store.specs.declared.node.Node.{Node}
use Rattle.term_store.specs.declared.node.Node.TheVariants as node
use Rattle.term_store.specs.Nodes.{node_at, IsNodeOver, IsNodes}
use Rattle.term_store.specs.Trees.{term}
use Rattle.term_store.specs.Reach.{IsOperand}
use Rattle.term_store.specs.Places.{places, is_marked, is_join_node, marked_delay, node_delay, longest_at}
use Rattle.gate_lower.specs.declared.gates.Line.TheVariants as line
use Rattle.gate_lower.specs.declared.gates.Gate.{Gate}
use Rattle.gate_lower.specs.declared.gates.Delay.{Delay}
use Rattle.gate_lower.specs.Rules.{IsLineOf, HasLinesOf}
use Rattle.gate_lower.specs.Lowered.{is_gate, is_delayed, gate_number, delay_number, gate_places, delay_places, node_line, place_line, term_line, node_gate, gate_at, delay_at, gates_of, delays_of}
use Rattle.gate_lower.proofs.Places.{count, count_below, count_apart, get_kept, is_kept, get_map, get_mapped, is_less}
use Rattle.gate_lower.proofs.Plans.{fold_next}

-- what marks tell: each marked place has its operands marked, and its input is one that is there
pub record AreMarks (nodes : List Node) (marks : List Bool) (inputs : ℕ) : Type 0 where
  pub operands : (p q : ℕ) → p < length nodes → is_marked marks p ≡ true → IsOperand q (node_at nodes p) → is_marked marks q ≡ true
  pub inputs_below : (p i : ℕ) → p < length nodes → is_marked marks p ≡ true → node_at nodes p ≡ node.Input i → i < inputs

-- each of some numbers is at most the greatest
at_most_greatest : (f : ℕ → ℕ) (n k : ℕ) → k < n → f k ≤ fold max 0 (map f (places n))
at_most_greatest f zero k lt = absurd (omega (arith, lt))
at_most_greatest f (suc n) k lt = elim (cases_lt k n) [
  | inl l ↦ omega (arith, at_most_greatest f n k l, fold_next f n, le-max_left (fold max 0 (map f (places n))) (f n))
  | inr l ↦ let e : k ≡ n = omega (arith, l, lt) in rw e (omega (arith, fold_next f n, le-max_right (fold max 0 (map f (places n))) (f n)))
]

-- the greatest is positive only where one of them is
record SomePositive (f : ℕ → ℕ) (n : ℕ) : Type 0 where
  at : ℕ
  below : at < n
  positive : 0 < f at

max_positive : (a b : ℕ) → 0 < max a b → (0 < a) ⊎ (0 < b)
max_positive zero b h = inr (omega (arith, h))
max_positive (suc a) b h = inl (omega arith)

some_positive : (f : ℕ → ℕ) (n : ℕ) → 0 < fold max 0 (map f (places n)) → SomePositive f n
some_positive f zero h = absurd (omega (arith, h))
some_positive f (suc n) h = elim (max_positive (fold max 0 (map f (places n))) (f n) (omega (arith, h, fold_next f n))) [
  | inl l ↦ let s = some_positive f n l in record { at = s.at; below = omega (arith, s.below); positive = s.positive }
  | inr l ↦ record { at = n; below = omega arith; positive = l }
]

from_less : (n : ℕ) → nat_lt 0 n ≡ true → 0 < n
from_less n h = grind (arith, nat_tests)

module _ (nodes : List Node) (marks : List Bool) (inputs : ℕ) (rules : IsNodes nodes) (closed : AreMarks nodes marks inputs) where
  -- ---- delayed places

  delays_it : (p q : ℕ) (b : Bool) (n : Node) → is_marked marks q ≡ b → node_at nodes q ≡ n → 0 < (if b then node_delay p n else 0) → (b ≡ true) × IsOperand p n
  delays_it p q false n e f h = absurd (omega (arith, h))
  delays_it p q true (node.Input i) e f h = absurd (omega (arith, h))
  delays_it p q true node.Never e f h = absurd (omega (arith, h))
  delays_it p q true (node.Min a b) e f h = absurd (omega (arith, h))
  delays_it p q true (node.Max a b) e f h = absurd (omega (arith, h))
  delays_it p q true (node.Lt a b) e f h = absurd (omega (arith, h))
  delays_it p q true (node.Inc a c) e f h = (refl, same a.0 (nat_eq a.0 p) refl h)
    where
      same : (i : ℕ) (b : Bool) → nat_eq i p ≡ b → 0 < (if b then c else 0) → p ≡ i
      same i true g h = sym (eqb-true i p g)
      same i false g h = absurd (omega (arith, h))

  -- a delayed place is marked
  pub delayed_is_marked : (p : ℕ) → is_delayed nodes marks p ≡ true → is_marked marks p ≡ true
  delayed_is_marked p h =
      let s = some_positive (marked_delay nodes marks p) (length nodes) (from_less (longest_at nodes marks p) h) in
      let d = delays_it p s.at (is_marked marks s.at) (node_at nodes s.at) refl refl s.positive in
      closed.operands s.at p s.below d.0 d.1

  own_delay : (p c : ℕ) (b : Bool) → nat_eq p p ≡ b → (if b then c else 0) ≡ c
  own_delay p c true e = refl
  own_delay p c false e = absurd (grind (arith, nat_tests))

  -- the delay of a marked inc is at most the longest of its operand
  pub delay_fits : (p : ℕ) (a : Term) (c : ℕ) → p < length nodes → is_marked marks p ≡ true → node_at nodes p ≡ node.Inc a c → c ≤ longest_at nodes marks a.0
  delay_fits p a c lt m e =
      let d : marked_delay nodes marks a.0 p ≡ c =
      ap (λ (b : Bool). if b then node_delay a.0 (node_at nodes p) else 0) m ∙ (ap (node_delay a.0) e ∙ own_delay a.0 c (nat_eq a.0 a.0) refl) in
      omega (arith, d, at_most_greatest (marked_delay nodes marks a.0) (length nodes) p lt)

  -- ---- each line names what is there

  pub operands_over : (p : ℕ) (n : Node) → p < length nodes → node_at nodes p ≡ n → IsNodeOver p n
  operands_over p n lt e = subst (IsNodeOver p) e (rules.lower p lt)

  pub operand_marked : (p q : ℕ) (n : Node) → p < length nodes → is_marked marks p ≡ true → node_at nodes p ≡ n → IsOperand q n → is_marked marks q ≡ true
  operand_marked p q n lt m e o = closed.operands p q lt m (subst (IsOperand q) (sym e) o)

  tap_there : (p : ℕ) (a : Term) (c : ℕ) → p < length nodes → is_marked marks p ≡ true → node_at nodes p ≡ node.Inc a c → IsLineOf inputs 0 (delays_of nodes marks) (line.Tap (delay_number nodes marks a.0) c)
  tap_there p a c lt m e =
      let over = operands_over p (node.Inc a c) lt e in
      let fits = delay_fits p a c lt m e in
      let kept = get_kept (is_delayed nodes marks) (length nodes) a.0 (omega (arith, over.0, lt)) (is_less 0 _ (omega (arith, fits, over.1))) in
      (delay_at nodes marks a.0, get_mapped (delay_at nodes marks) (delay_places nodes marks) (delay_number nodes marks a.0) a.0 kept, over.1, fits)

  -- the line of a marked place: where it is a gate, one of the first k
  line_there : (p k : ℕ) (n : Node) → p < length nodes → is_marked marks p ≡ true → node_at nodes p ≡ n → (is_gate nodes marks p ≡ true → gate_number nodes marks p < k) →
      IsLineOf inputs k (delays_of nodes marks) (node_line nodes marks p n)
  line_there p k (node.Input i) lt m e h = closed.inputs_below p i lt m e
  line_there p k node.Never lt m e h = tt
  line_there p k (node.Inc a c) lt m e h = tap_there p a c lt m e
  line_there p k (node.Min a b) lt m e h = h (and_from _ _ m (ap is_join_node e))
  line_there p k (node.Max a b) lt m e h = h (and_from _ _ m (ap is_join_node e))
  line_there p k (node.Lt a b) lt m e h = h (and_from _ _ m (ap is_join_node e))

  pub marked_line : (p : ℕ) → p < length nodes → is_marked marks p ≡ true → IsLineOf inputs (count (is_gate nodes marks) (length nodes)) (delays_of nodes marks) (place_line nodes marks p)
  marked_line p lt m = line_there p (count (is_gate nodes marks) (length nodes)) (node_at nodes p) lt m refl (λ g. count_below (is_gate nodes marks) p (length nodes) lt g)

  -- an operand's line is low, an input, a tap or an earlier gate
  operand_line : (p q : ℕ) → p < length nodes → q < p → is_marked marks q ≡ true → IsLineOf inputs (gate_number nodes marks p) (delays_of nodes marks) (place_line nodes marks q)
  operand_line p q lt below m = line_there q (gate_number nodes marks p) (node_at nodes q) (omega (arith, below, lt)) m refl (λ g. count_below (is_gate nodes marks) q p below g)

  gate_there : (p : ℕ) (n : Node) → p < length nodes → is_marked marks p ≡ true → node_at nodes p ≡ n → HasLinesOf inputs (gate_number nodes marks p) (delays_of nodes marks) (node_gate nodes marks n)
  gate_there p (node.Input i) lt m e = (tt, tt)
  gate_there p node.Never lt m e = (tt, tt)
  gate_there p (node.Inc a c) lt m e = (tt, tt)
  gate_there p (node.Min a b) lt m e =
      let over = operands_over p (node.Min a b) lt e in
      (operand_line p a.0 lt over.0 (operand_marked p a.0 (node.Min a b) lt m e (inl refl)), operand_line p b.0 lt over.1 (operand_marked p b.0 (node.Min a b) lt m e (inr refl)))
  gate_there p (node.Max a b) lt m e =
      let over = operands_over p (node.Max a b) lt e in
      (operand_line p a.0 lt over.0 (operand_marked p a.0 (node.Max a b) lt m e (inl refl)), operand_line p b.0 lt over.1 (operand_marked p b.0 (node.Max a b) lt m e (inr refl)))
  gate_there p (node.Lt a b) lt m e =
      let over = operands_over p (node.Lt a b) lt e in
      (operand_line p a.0 lt over.0 (operand_marked p a.0 (node.Lt a b) lt m e (inl refl)), operand_line p b.0 lt over.1 (operand_marked p b.0 (node.Lt a b) lt m e (inr refl)))

  -- gate k is that of a place which has k gates before it
  pub record IsGateOf (k : ℕ) (q : Gate) : Type 0 where
    pub place : ℕ
    pub within : place < length nodes
    pub passes : is_gate nodes marks place ≡ true
    pub number : k ≡ gate_number nodes marks place
    pub gate_is : q ≡ gate_at nodes marks place

  pub gate_of : (k : ℕ) (q : Gate) → slice_get (gates_of nodes marks) k ≡ Some q → IsGateOf k q
  gate_of k q e =
      let m = get_map (gate_at nodes marks) (gate_places nodes marks) k q e in
      let i = is_kept (is_gate nodes marks) (length nodes) k m.0 m.1 in
      record { place = m.0; within = i.within; passes = i.passes; number = i.number; gate_is = m.2 }

  pub record IsDelayOf (n : ℕ) (d : Delay) : Type 0 where
    pub place : ℕ
    pub within : place < length nodes
    pub passes : is_delayed nodes marks place ≡ true
    pub number : n ≡ delay_number nodes marks place
    pub delay_is : d ≡ delay_at nodes marks place

  pub delay_of : (n : ℕ) (d : Delay) → slice_get (delays_of nodes marks) n ≡ Some d → IsDelayOf n d
  delay_of n d e =
      let m = get_map (delay_at nodes marks) (delay_places nodes marks) n d e in
      let i = is_kept (is_delayed nodes marks) (length nodes) n m.0 m.1 in
      record { place = m.0; within = i.within; passes = i.passes; number = i.number; delay_is = m.2 }

  pub marked_gate : (p : ℕ) → is_gate nodes marks p ≡ true → is_marked marks p ≡ true
  marked_gate p h = (and_parts (is_marked marks p) (is_join_node (node_at nodes p)) h).0

  pub join_gate : (p : ℕ) → is_gate nodes marks p ≡ true → is_join_node (node_at nodes p) ≡ true
  join_gate p h = (and_parts (is_marked marks p) (is_join_node (node_at nodes p)) h).1

  pub gate_lines : (k : ℕ) (q : Gate) → slice_get (gates_of nodes marks) k ≡ Some q → HasLinesOf inputs k (delays_of nodes marks) q
  gate_lines k q e =
      let g = gate_of k q e in
      subst (λ j. HasLinesOf inputs j (delays_of nodes marks) q) (sym g.number)
      (subst (HasLinesOf inputs (gate_number nodes marks g.place) (delays_of nodes marks)) (sym g.gate_is) (gate_there g.place (node_at nodes g.place) g.within (marked_gate g.place g.passes) refl))

  -- ---- no two places have the same line

  same_term : (a b : Term) → a.0 ≡ b.0 → a ≡ b
  same_term a b e = ap term e

  -- two nodes that are no gates have the same line only where they are the same
  same_leaf : (p q : ℕ) (n m : Node) → p < length nodes → q < length nodes → is_marked marks p ≡ true → is_marked marks q ≡ true → node_at nodes p ≡ n → node_at nodes q ≡ m →
      is_join_node n ≡ false → is_join_node m ≡ false → node_line nodes marks p n ≡ node_line nodes marks q m → n ≡ m
  same_leaf p q node.Never node.Never lp lq mp mq ep eq jn jm h = refl
  same_leaf p q (node.Input i) (node.Input j) lp lq mp mq ep eq jn jm h = let e : i ≡ j = cc in ap node.Input e
  same_leaf p q (node.Inc a c) (node.Inc b d) lp lq mp mq ep eq jn jm h =
      let e : delay_number nodes marks a.0 ≡ delay_number nodes marks b.0 = cc in
      let f : c ≡ d = cc in
      let oa = operands_over p (node.Inc a c) lp ep in
      let ob = operands_over q (node.Inc b d) lq eq in
      let same = count_apart (is_delayed nodes marks) a.0 b.0 (is_less 0 _ (omega (arith, oa.1, delay_fits p a c lp mp ep))) (is_less 0 _ (omega (arith, ob.1, delay_fits q b d lq mq eq))) e in
      ap (λ t. node.Inc t c) (same_term a b same) ∙ ap (node.Inc b) f
  same_leaf p q node.Never (node.Input j) lp lq mp mq ep eq jn jm h = absurd (cc)
  same_leaf p q node.Never (node.Inc b d) lp lq mp mq ep eq jn jm h = absurd (cc)
  same_leaf p q (node.Input i) node.Never lp lq mp mq ep eq jn jm h = absurd (cc)
  same_leaf p q (node.Input i) (node.Inc b d) lp lq mp mq ep eq jn jm h = absurd (cc)
  same_leaf p q (node.Inc a c) node.Never lp lq mp mq ep eq jn jm h = absurd (cc)
  same_leaf p q (node.Inc a c) (node.Input j) lp lq mp mq ep eq jn jm h = absurd (cc)
  same_leaf p q (node.Min a b) m lp lq mp mq ep eq jn jm h = absurd (cc)
  same_leaf p q (node.Max a b) m lp lq mp mq ep eq jn jm h = absurd (cc)
  same_leaf p q (node.Lt a b) m lp lq mp mq ep eq jn jm h = absurd (cc)
  same_leaf p q n (node.Min a b) lp lq mp mq ep eq jn jm h = absurd (cc)
  same_leaf p q n (node.Max a b) lp lq mp mq ep eq jn jm h = absurd (cc)
  same_leaf p q n (node.Lt a b) lp lq mp mq ep eq jn jm h = absurd (cc)

  join_line : (p : ℕ) (n : Node) → is_join_node n ≡ true → node_line nodes marks p n ≡ line.Gate (gate_number nodes marks p)
  join_line p node.Never j = absurd (cc)
  join_line p (node.Input i) j = absurd (cc)
  join_line p (node.Inc a c) j = absurd (cc)
  join_line p (node.Min a b) j = refl
  join_line p (node.Max a b) j = refl
  join_line p (node.Lt a b) j = refl

  leaf_line : (p k : ℕ) (n : Node) → is_join_node n ≡ false → node_line nodes marks p n ≡ line.Gate k → ⊥
  leaf_line p k node.Never j h = absurd (cc)
  leaf_line p k (node.Input i) j h = absurd (cc)
  leaf_line p k (node.Inc a c) j h = absurd (cc)
  leaf_line p k (node.Min a b) j h = absurd (cc)
  leaf_line p k (node.Max a b) j h = absurd (cc)
  leaf_line p k (node.Lt a b) j h = absurd (cc)

  same_by : (p q : ℕ) (b c : Bool) → p < length nodes → q < length nodes → is_marked marks p ≡ true → is_marked marks q ≡ true →
      is_join_node (node_at nodes p) ≡ b → is_join_node (node_at nodes q) ≡ c → place_line nodes marks p ≡ place_line nodes marks q → p ≡ q
  same_by p q false false lp lq mp mq jp jq h =
      rules.distinct p q lp lq (same_leaf p q (node_at nodes p) (node_at nodes q) lp lq mp mq refl refl jp jq h)
  same_by p q true true lp lq mp mq jp jq h =
      let g : line.Gate (gate_number nodes marks p) ≡ line.Gate (gate_number nodes marks q) = sym (join_line p (node_at nodes p) jp) ∙ (h ∙ join_line q (node_at nodes q) jq) in
      let e : gate_number nodes marks p ≡ gate_number nodes marks q = cc in
      count_apart (is_gate nodes marks) p q (and_from _ _ mp jp) (and_from _ _ mq jq) e
  same_by p q true false lp lq mp mq jp jq h = absurd (leaf_line q _ (node_at nodes q) jq (sym h ∙ join_line p (node_at nodes p) jp))
  same_by p q false true lp lq mp mq jp jq h = absurd (leaf_line p _ (node_at nodes p) jp (h ∙ join_line q (node_at nodes q) jq))

  pub same_place : (p q : ℕ) → p < length nodes → q < length nodes → is_marked marks p ≡ true → is_marked marks q ≡ true → place_line nodes marks p ≡ place_line nodes marks q → p ≡ q
  same_place p q lp lq mp mq h = same_by p q (is_join_node (node_at nodes p)) (is_join_node (node_at nodes q)) lp lq mp mq refl refl h

  -- ---- no gate occurs twice, and no delay

  same_operand : (p q : ℕ) (n m : Node) (a b : Term) → p < length nodes → q < length nodes → is_marked marks p ≡ true → is_marked marks q ≡ true → node_at nodes p ≡ n → node_at nodes q ≡ m →
      a.0 < p → b.0 < q → IsOperand a.0 n → IsOperand b.0 m → term_line nodes marks a ≡ term_line nodes marks b → a ≡ b
  same_operand p q n m a b lp lq mp mq ep eq oa ob ia ib h =
      same_term a b (same_place a.0 b.0 (omega (arith, oa, lp)) (omega (arith, ob, lq)) (operand_marked p a.0 n lp mp ep ia) (operand_marked q b.0 m lq mq eq ib) h)

  same_node_of : (p q : ℕ) (n m : Node) → p < length nodes → q < length nodes → is_marked marks p ≡ true → is_marked marks q ≡ true → node_at nodes p ≡ n → node_at nodes q ≡ m →
      is_join_node n ≡ true → is_join_node m ≡ true → node_gate nodes marks n ≡ node_gate nodes marks m → n ≡ m
  same_node_of p q (node.Min a b) (node.Min c d) lp lq mp mq ep eq jn jm h =
      let on = operands_over p (node.Min a b) lp ep in
      let om = operands_over q (node.Min c d) lq eq in
      let e = same_operand p q (node.Min a b) (node.Min c d) a c lp lq mp mq ep eq on.0 om.0 (inl refl) (inl refl) (cc) in
      let f = same_operand p q (node.Min a b) (node.Min c d) b d lp lq mp mq ep eq on.1 om.1 (inr refl) (inr refl) (cc) in
      ap (λ t. node.Min t b) e ∙ ap (node.Min c) f
  same_node_of p q (node.Max a b) (node.Max c d) lp lq mp mq ep eq jn jm h =
      let on = operands_over p (node.Max a b) lp ep in
      let om = operands_over q (node.Max c d) lq eq in
      let e = same_operand p q (node.Max a b) (node.Max c d) a c lp lq mp mq ep eq on.0 om.0 (inl refl) (inl refl) (cc) in
      let f = same_operand p q (node.Max a b) (node.Max c d) b d lp lq mp mq ep eq on.1 om.1 (inr refl) (inr refl) (cc) in
      ap (λ t. node.Max t b) e ∙ ap (node.Max c) f
  same_node_of p q (node.Lt a b) (node.Lt c d) lp lq mp mq ep eq jn jm h =
      let on = operands_over p (node.Lt a b) lp ep in
      let om = operands_over q (node.Lt c d) lq eq in
      let e = same_operand p q (node.Lt a b) (node.Lt c d) a c lp lq mp mq ep eq on.0 om.0 (inl refl) (inl refl) (cc) in
      let f = same_operand p q (node.Lt a b) (node.Lt c d) b d lp lq mp mq ep eq on.1 om.1 (inr refl) (inr refl) (cc) in
      ap (λ t. node.Lt t b) e ∙ ap (node.Lt c) f
  same_node_of p q (node.Min a b) (node.Max c d) lp lq mp mq ep eq jn jm h = absurd (cc)
  same_node_of p q (node.Min a b) (node.Lt c d) lp lq mp mq ep eq jn jm h = absurd (cc)
  same_node_of p q (node.Max a b) (node.Min c d) lp lq mp mq ep eq jn jm h = absurd (cc)
  same_node_of p q (node.Max a b) (node.Lt c d) lp lq mp mq ep eq jn jm h = absurd (cc)
  same_node_of p q (node.Lt a b) (node.Min c d) lp lq mp mq ep eq jn jm h = absurd (cc)
  same_node_of p q (node.Lt a b) (node.Max c d) lp lq mp mq ep eq jn jm h = absurd (cc)
  same_node_of p q node.Never m lp lq mp mq ep eq jn jm h = absurd (cc)
  same_node_of p q (node.Input i) m lp lq mp mq ep eq jn jm h = absurd (cc)
  same_node_of p q (node.Inc a c) m lp lq mp mq ep eq jn jm h = absurd (cc)
  same_node_of p q n node.Never lp lq mp mq ep eq jn jm h = absurd (cc)
  same_node_of p q n (node.Input i) lp lq mp mq ep eq jn jm h = absurd (cc)
  same_node_of p q n (node.Inc a c) lp lq mp mq ep eq jn jm h = absurd (cc)

  pub gates_once : (j k : ℕ) (q : Gate) → slice_get (gates_of nodes marks) j ≡ Some q → slice_get (gates_of nodes marks) k ≡ Some q → j ≡ k
  gates_once j k q e f =
      let a = gate_of j q e in
      let b = gate_of k q f in
      let n = same_node_of a.place b.place (node_at nodes a.place) (node_at nodes b.place) a.within b.within (marked_gate a.place a.passes) (marked_gate b.place b.passes) refl refl
      (join_gate a.place a.passes) (join_gate b.place b.passes) (sym a.gate_is ∙ b.gate_is) in
      a.number ∙ (ap (gate_number nodes marks) (rules.distinct a.place b.place a.within b.within n) ∙ sym b.number)

  pub delays_once : (m n : ℕ) (d e : Delay) → slice_get (delays_of nodes marks) m ≡ Some d → slice_get (delays_of nodes marks) n ≡ Some e → d.from ≡ e.from → m ≡ n
  delays_once m n d e f g h =
      let a = delay_of m d f in
      let b = delay_of n e g in
      let l : place_line nodes marks a.place ≡ place_line nodes marks b.place = ap (λ (z : Delay). z.from) (sym a.delay_is) ∙ (h ∙ ap (λ (z : Delay). z.from) b.delay_is) in
      let same = same_place a.place b.place a.within b.within (delayed_is_marked a.place a.passes) (delayed_is_marked b.place b.passes) l in
      a.number ∙ (ap (delay_number nodes marks) same ∙ sym b.number)

  pub delay_lines : (n : ℕ) (d : Delay) → slice_get (delays_of nodes marks) n ≡ Some d → IsLineOf inputs (count (is_gate nodes marks) (length nodes)) (delays_of nodes marks) d.from
  delay_lines n d e =
      let a = delay_of n d e in
      subst (IsLineOf inputs (count (is_gate nodes marks) (length nodes)) (delays_of nodes marks)) (ap (λ (z : Delay). z.from) (sym a.delay_is)) (marked_line a.place a.within (delayed_is_marked a.place a.passes))

  pub delay_widths : (n : ℕ) (d : Delay) → slice_get (delays_of nodes marks) n ≡ Some d → 1 ≤ d.width
  delay_widths n d e =
      let a = delay_of n d e in
      omega (arith, from_less (longest_at nodes marks a.place) a.passes, ap (λ (z : Delay). z.width) a.delay_is)
