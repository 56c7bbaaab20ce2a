-- The marks of what roots reach.
use Rattle.std.proofs.Common.{◌≡◌, ℕ, zero, suc, ◌<◌, ◌≤◌, ◌+◌, refl, subst, arith, sym, ap, ◌∙◌, Bool, true, false, ◌||◌, eqb, length, List, [], ◌∷◌, ◌++◌, ◌-◌, take, slice_set, ◌⊎◌, inl, inr}
use Rattle.std.specs.List.{All, slice_index_or}
use Rattle.std.proofs.lemmas.List.{take_more}
use Rattle.std.proofs.lemmas.List.Folds.{list_any-append}
use Rattle.std.proofs.lemmas.Bool.Decides.{eqb_tells}
use Rattle.std.proofs.lemmas.Grind.{common_steps}
use Rattle.std.proofs.lemmas.Bool.{cases_lt, or_cases, or_left, or_right, eqb-true, eq-eqb}
use Rattle.term_store.specs.Tree.{Tree, Never, Input, Min, Max, Lt, Inc}
use Rattle.term_store.specs.declared.node.Term.{Term}
use Rattle.term_store.specs.declared.node.Node.{Node}
use Rattle.term_store.specs.declared.node.Node.TheVariants as node
use Rattle.term_store.specs.Nodes.{node_at, IsNodeOver, IsNodes}
use Rattle.term_store.specs.Trees.{tree, trees, node_tree, term, trees_at}
use Rattle.term_store.specs.Reach.{is_root, IsOperand, IsReached, AreLeastClosed}
use Rattle.term_store.proofs.Parts.{IsIn, in_self, in_trans, among_all, all_among}
use Rattle.term_store.proofs.Distinct.{tree_is, distinct_trees}

abbrev pub marked : List Bool → ℕ → Type 0
marked ms k = slice_index_or ms k false ≡ true

-- the marks after the first roots
pub record AreRootMarks (len : ℕ) (roots : List Term) (n : ℕ) (ms : List Bool) : Type 0 where
  pub len_is : length ms ≡ len
  pub marks : (k : ℕ) → k < len → slice_index_or ms k false ≡ is_root (take n roots) k

-- the marks, once the places from `at` on have marked their operands
pub record AreMarks (ns : List Node) (roots : List Term) (at : ℕ) (ms : List Bool) : Type 0 where
  pub len : length ms ≡ length ns
  pub sound : (k : ℕ) → k < length ns → marked ms k → IsReached ns roots k
  pub roots_marked : (k : ℕ) (r : Term) → k < length roots → marked ms (slice_index_or roots k r).0
  pub closed : (j k : ℕ) → at ≤ j → j < length ns → marked ms j → IsOperand k (node_at ns j) → marked ms k

operand_in : (ns : List Node) (k : ℕ) (n : Node) → IsOperand k n → IsIn (tree ns k) (node_tree (trees ns) n)
operand_in ns k (node.Input i) h = absurd h
operand_in ns k node.Never h = absurd h
operand_in ns k (node.Min a b) h = inr (elim h [ inl e ↦ inl (subst (λ i. IsIn (tree ns k) (tree ns i)) e (in_self (tree ns k))) | inr e ↦ inr (subst (λ i. IsIn (tree ns k) (tree ns i)) e (in_self (tree ns k))) ])
operand_in ns k (node.Max a b) h = inr (elim h [ inl e ↦ inl (subst (λ i. IsIn (tree ns k) (tree ns i)) e (in_self (tree ns k))) | inr e ↦ inr (subst (λ i. IsIn (tree ns k) (tree ns i)) e (in_self (tree ns k))) ])
operand_in ns k (node.Lt a b) h = inr (elim h [ inl e ↦ inl (subst (λ i. IsIn (tree ns k) (tree ns i)) e (in_self (tree ns k))) | inr e ↦ inr (subst (λ i. IsIn (tree ns k) (tree ns i)) e (in_self (tree ns k))) ])
operand_in ns k (node.Inc a c) h = inr (subst (λ i. IsIn (tree ns k) (tree ns i)) h (in_self (tree ns k)))

-- a root's tree, among those of the roots
pub root_tree : (ns : List Node) (roots : List Term) (k : ℕ) (r : Term) (d : Tree) → k < length roots → slice_index_or (trees_at ns roots) k d ≡ tree ns (slice_index_or roots k r).0
root_tree ns roots k r d h = grind (arith, common_steps)

pub count_trees : (ns : List Node) (roots : List Term) → length (trees_at ns roots) ≡ length roots
count_trees ns roots = grind (arith, common_steps)

-- what is in a root's tree is reached
pub reached_from : (ns : List Node) (roots : List Term) (place k : ℕ) (r : Term) → k < length roots → IsIn (tree ns place) (tree ns (slice_index_or roots k r).0) → IsReached ns roots place
reached_from ns roots place k r h i =
    among_all (tree ns place) (trees_at ns roots) k Never (omega (arith, h, count_trees ns roots)) (subst (IsIn (tree ns place)) (sym (root_tree ns roots k r Never h)) i)

-- and what is reached is in one
pub reached_in : (ns : List Node) (roots : List Term) (place : ℕ) (r : Term) → IsReached ns roots place → (k : ℕ) × (k < length roots) × IsIn (tree ns place) (tree ns (slice_index_or roots k r).0)
reached_in ns roots place r h =
    let f = all_among (tree ns place) (trees_at ns roots) Never h in
    let w : f.0 < length roots = omega (arith, f.1, count_trees ns roots) in
    (f.0, w, subst (IsIn (tree ns place)) (root_tree ns roots f.0 r Never w) f.2)

-- an operand of what is reached is reached
pub reached_operand : (ns : List Node) (roots : List Term) (j k : ℕ) → IsNodes ns → j < length ns → IsReached ns roots j → IsOperand k (node_at ns j) → IsReached ns roots k
reached_operand ns roots j k s h r o =
    let i : IsIn (tree ns k) (tree ns j) = subst (IsIn (tree ns k)) (sym (tree_is ns j s h)) (operand_in ns k (node_at ns j) o) in
    let f = reached_in ns roots j (term 0) r in
    reached_from ns roots k f.0 (term 0) f.1 (in_trans (tree ns k) (tree ns j) (tree ns (slice_index_or roots f.0 (term 0)).0) i f.2)

-- the place is marked
abbrev On : (ℕ → Bool) → ℕ → Type 0
On ms k = ms k ≡ true

-- closed marks are complete
abbrev Closed : List Node → (ℕ → Bool) → Type 0
Closed ns ms = (j k : ℕ) → j < length ns → On ms j → IsOperand k (node_at ns j) → On ms k

in_Min : (ns : List Node) (ms : ℕ → Bool) (a b : Tree) (r i : ℕ) (n : Node) → IsNodes ns → Closed ns ms → r < length ns → On ms r → node_at ns r ≡ n → node_tree (trees ns) n ≡ Min a b
    → ((q : ℕ) → q < length ns → tree ns q ≡ a → On ms q → IsIn (tree ns i) a → On ms i) → ((q : ℕ) → q < length ns → tree ns q ≡ b → On ms q → IsIn (tree ns i) b → On ms i)
    → (IsIn (tree ns i) a ⊎ IsIn (tree ns i) b) → On ms i
in_Min ns ms a b r i (node.Min x y) s c h m at f pa pb k =
    let o : IsNodeOver r (node.Min x y) = subst (IsNodeOver r) at (s.lower r h) in
    let ea : tree ns x.0 ≡ a = cc in
    let eb : tree ns y.0 ≡ b = cc in
    elim k [
      | inl p ↦ pa x.0 (omega (arith, o.0)) ea (c r x.0 h m (subst (IsOperand x.0) (sym at) (inl refl))) p
      | inr p ↦ pb y.0 (omega (arith, o.1)) eb (c r y.0 h m (subst (IsOperand y.0) (sym at) (inr refl))) p
    ]
in_Min ns ms a b r i n s c h m at f pa pb k = cc

in_Max : (ns : List Node) (ms : ℕ → Bool) (a b : Tree) (r i : ℕ) (n : Node) → IsNodes ns → Closed ns ms → r < length ns → On ms r → node_at ns r ≡ n → node_tree (trees ns) n ≡ Max a b
    → ((q : ℕ) → q < length ns → tree ns q ≡ a → On ms q → IsIn (tree ns i) a → On ms i) → ((q : ℕ) → q < length ns → tree ns q ≡ b → On ms q → IsIn (tree ns i) b → On ms i)
    → (IsIn (tree ns i) a ⊎ IsIn (tree ns i) b) → On ms i
in_Max ns ms a b r i (node.Max x y) s c h m at f pa pb k =
    let o : IsNodeOver r (node.Max x y) = subst (IsNodeOver r) at (s.lower r h) in
    let ea : tree ns x.0 ≡ a = cc in
    let eb : tree ns y.0 ≡ b = cc in
    elim k [
      | inl p ↦ pa x.0 (omega (arith, o.0)) ea (c r x.0 h m (subst (IsOperand x.0) (sym at) (inl refl))) p
      | inr p ↦ pb y.0 (omega (arith, o.1)) eb (c r y.0 h m (subst (IsOperand y.0) (sym at) (inr refl))) p
    ]
in_Max ns ms a b r i n s c h m at f pa pb k = cc

in_Lt : (ns : List Node) (ms : ℕ → Bool) (a b : Tree) (r i : ℕ) (n : Node) → IsNodes ns → Closed ns ms → r < length ns → On ms r → node_at ns r ≡ n → node_tree (trees ns) n ≡ Lt a b
    → ((q : ℕ) → q < length ns → tree ns q ≡ a → On ms q → IsIn (tree ns i) a → On ms i) → ((q : ℕ) → q < length ns → tree ns q ≡ b → On ms q → IsIn (tree ns i) b → On ms i)
    → (IsIn (tree ns i) a ⊎ IsIn (tree ns i) b) → On ms i
in_Lt ns ms a b r i (node.Lt x y) s c h m at f pa pb k =
    let o : IsNodeOver r (node.Lt x y) = subst (IsNodeOver r) at (s.lower r h) in
    let ea : tree ns x.0 ≡ a = cc in
    let eb : tree ns y.0 ≡ b = cc in
    elim k [
      | inl p ↦ pa x.0 (omega (arith, o.0)) ea (c r x.0 h m (subst (IsOperand x.0) (sym at) (inl refl))) p
      | inr p ↦ pb y.0 (omega (arith, o.1)) eb (c r y.0 h m (subst (IsOperand y.0) (sym at) (inr refl))) p
    ]
in_Lt ns ms a b r i n s c h m at f pa pb k = cc

in_Inc : (ns : List Node) (ms : ℕ → Bool) (a : Tree) (d r i : ℕ) (n : Node) → IsNodes ns → Closed ns ms → r < length ns → On ms r → node_at ns r ≡ n → node_tree (trees ns) n ≡ Inc a d
    → ((q : ℕ) → q < length ns → tree ns q ≡ a → On ms q → IsIn (tree ns i) a → On ms i) → IsIn (tree ns i) a → On ms i
in_Inc ns ms a d r i (node.Inc x e) s c h m at f pa k =
    let o : IsNodeOver r (node.Inc x e) = subst (IsNodeOver r) at (s.lower r h) in
    let ea : tree ns x.0 ≡ a = cc in
    pa x.0 (omega (arith, o.0)) ea (c r x.0 h m (subst (IsOperand x.0) (sym at) refl)) k
in_Inc ns ms a d r i n s c h m at f pa k = cc

same_place : (ns : List Node) (ms : ℕ → Bool) (r i : ℕ) (t : Tree) → IsNodes ns → r < length ns → i < length ns → tree ns r ≡ t → tree ns i ≡ t → On ms r → On ms i
same_place ns ms r i t s h hi e f m = subst (On ms) (distinct_trees ns s r i h hi (e ∙ sym f)) m

pub complete : (ns : List Node) (ms : ℕ → Bool) (t : Tree) (r i : ℕ) → IsNodes ns → Closed ns ms → r < length ns → i < length ns → tree ns r ≡ t → On ms r → IsIn (tree ns i) t → On ms i
complete ns ms (Input k) r i s c h hi e m g = same_place ns ms r i (Input k) s h hi e g m
complete ns ms Never r i s c h hi e m g = same_place ns ms r i Never s h hi e g m
complete ns ms (Min a b) r i s c h hi e m g = elim g [
  | inl f ↦ same_place ns ms r i (Min a b) s h hi e f m
  | inr k ↦ in_Min ns ms a b r i (node_at ns r) s c h m refl (sym (tree_is ns r s h) ∙ e)
      (λ q hq eq mq gq. complete ns ms a q i s c hq hi eq mq gq) (λ q hq eq mq gq. complete ns ms b q i s c hq hi eq mq gq) k
]
complete ns ms (Max a b) r i s c h hi e m g = elim g [
  | inl f ↦ same_place ns ms r i (Max a b) s h hi e f m
  | inr k ↦ in_Max ns ms a b r i (node_at ns r) s c h m refl (sym (tree_is ns r s h) ∙ e)
      (λ q hq eq mq gq. complete ns ms a q i s c hq hi eq mq gq) (λ q hq eq mq gq. complete ns ms b q i s c hq hi eq mq gq) k
]
complete ns ms (Lt a b) r i s c h hi e m g = elim g [
  | inl f ↦ same_place ns ms r i (Lt a b) s h hi e f m
  | inr k ↦ in_Lt ns ms a b r i (node_at ns r) s c h m refl (sym (tree_is ns r s h) ∙ e)
      (λ q hq eq mq gq. complete ns ms a q i s c hq hi eq mq gq) (λ q hq eq mq gq. complete ns ms b q i s c hq hi eq mq gq) k
]
complete ns ms (Inc a d) r i s c h hi e m g = elim g [
  | inl f ↦ same_place ns ms r i (Inc a d) s h hi e f m
  | inr k ↦ in_Inc ns ms a d r i (node_at ns r) s c h m refl (sym (tree_is ns r s h) ∙ e) (λ q hq eq mq gq. complete ns ms a q i s c hq hi eq mq gq) k
]

-- what one write marks
set_new : (ms : List Bool) (r : ℕ) → r < length ms → marked (slice_set ms r true) r
set_new ms r h = grind (arith, common_steps)

pub operand_lower : (m k : ℕ) (n : Node) → IsNodeOver m n → IsOperand k n → k < m
operand_lower m k (node.Input i) o h = absurd h
operand_lower m k node.Never o h = absurd h
operand_lower m k (node.Min a b) o h = elim h [ inl e ↦ omega (arith, o.0) | inr e ↦ omega (arith, o.1) ]
operand_lower m k (node.Max a b) o h = elim h [ inl e ↦ omega (arith, o.0) | inr e ↦ omega (arith, o.1) ]
operand_lower m k (node.Lt a b) o h = elim h [ inl e ↦ omega (arith, o.0) | inr e ↦ omega (arith, o.1) ]
operand_lower m k (node.Inc a c) o h = omega (arith, o.0)

or_nothing : (b : Bool) → (b || false) ≡ b
or_nothing true = refl
or_nothing false = refl

root_last : (xs : List Term) (r : Term) (k : ℕ) → is_root (xs ++ r ∷ []) k ≡ (is_root xs k || eqb r.0 k)
root_last xs r k = list_any-append (λ (x : Term). eqb x.0 k) xs (r ∷ []) ∙ ap (λ b. is_root xs k || b) (or_nothing (eqb r.0 k))

-- a place after one more is marked
set_marks : (ms : List Bool) (r k : ℕ) (b : Bool) → r < length ms → slice_index_or ms k false ≡ b → slice_index_or (slice_set ms r true) k false ≡ (b || eqb r k)
set_marks ms r k b h e = elim (eqb_tells r k) [
  | inl t ↦ subst (marked (slice_set ms r true)) t.1 (set_new ms r h) ∙ sym (or_right b (eqb r k) t.0)
  | inr f ↦ (let n = f.1 in let same : slice_index_or (slice_set ms r true) k false ≡ slice_index_or ms k false = grind (arith, common_steps) in same ∙ e ∙ sym (ap (λ x. b || x) f.0 ∙ or_nothing b))
]

-- one root more
pub root_more : (len : ℕ) (roots : List Term) (ms : List Bool) (i : ℕ) (d : Term) → i < length roots → (slice_index_or roots i d).0 < len → AreRootMarks len roots i ms
    → AreRootMarks len roots (i + 1) (slice_set ms (slice_index_or roots i d).0 true)
root_more len roots ms i d h w p =
    let r = slice_index_or roots i d in
    let wm : r.0 < length ms = omega (arith, w, p.len_is) in
    record {
      len_is = grind (arith, common_steps, p.len_is);
      marks = λ k hk. set_marks ms r.0 k (is_root (take i roots) k) wm (p.marks k hk) ∙ sym (ap (λ rs. is_root rs k) (take_more roots i d h) ∙ root_last (take i roots) r k);
    }

root_at : (roots : List Term) (k : ℕ) → is_root roots k ≡ true → (i : ℕ) × (i < length roots) × ((slice_index_or roots i (term 0)).0 ≡ k)
root_at [] k h = absurd cc
root_at (r ∷ roots) k h = elim (or_cases (eqb r.0 k) (is_root roots k) h) [
  | inl e ↦ (0, omega arith, eqb-true r.0 k e)
  | inr g ↦ let f = root_at roots k g in (suc f.0, omega (arith, f.1), f.2)
]

is_root_at : (roots : List Term) (i : ℕ) (d : Term) → i < length roots → is_root roots (slice_index_or roots i d).0 ≡ true
is_root_at [] i d h = absurd (omega (arith, h))
is_root_at (r ∷ roots) zero d h = or_left (eqb r.0 r.0) (is_root roots r.0) (eq-eqb r.0 r.0 refl)
is_root_at (r ∷ roots) (suc i) d h = or_right (eqb r.0 (slice_index_or roots i d).0) (is_root roots (slice_index_or roots i d).0) (is_root_at roots i d (omega (arith, h)))

-- only the roots are marked, and no place has marked its operands
pub marks_begin : (ns : List Node) (roots : List Term) (len : ℕ) (ms : List Bool) → len ≡ length ns → All (λ t. t.0 < length ns) roots → length ms ≡ len → ((k : ℕ) → k < len → slice_index_or ms k false ≡ is_root roots k)
    → AreMarks ns roots len ms
marks_begin ns roots len ms e w l is = record {
  len = l ∙ e;
  sound = λ k hk m. let f = root_at roots k (sym (is k (omega (arith, hk, e))) ∙ m) in reached_from ns roots k f.0 (term 0) f.1 (subst (λ j. IsIn (tree ns k) (tree ns j)) (sym f.2) (in_self (tree ns k)));
  roots_marked = λ k r h. is (slice_index_or roots k r).0 (let b = w k r h in omega (arith, b, e)) ∙ is_root_at roots k r h;
  closed = λ j k low hj m o. absurd (omega (arith, low, hj, e));
}

-- the operands of one place more
pub operands_more : (ns : List Node) (roots : List Term) (at : ℕ) (ms ks : List Bool) (n : Node) → IsNodes ns → 0 < at → at ≤ length ns → AreMarks ns roots at ms → marked ms (at - 1) → n ≡ node_at ns (at - 1) → length ks ≡ length ms
    → ((k : ℕ) → (marked ks k → marked ms k ⊎ IsOperand k n) × (marked ms k ⊎ IsOperand k n → marked ks k)) → AreMarks ns roots (at - 1) ks
operands_more ns roots at ms ks n s pos le p m e len w =
    let j : at - 1 < length ns = omega arith in
    let op : (k : ℕ) → IsOperand k n → IsOperand k (node_at ns (at - 1)) = λ (k : ℕ). λ (o : IsOperand k n). subst (IsOperand k) e o in
    record {
      len = len ∙ p.len;
      sound = λ k hk q. elim ((w k).0 q) [
        | inl o ↦ p.sound k hk o
        | inr o ↦ reached_operand ns roots (at - 1) k s j (p.sound (at - 1) j m) (op k o)
      ];
      roots_marked = λ k r h. (w _).1 (inl (p.roots_marked k r h));
      closed = λ i k h hi q o. elim (cases_lt i at) [
        | inl b ↦ (let f : i ≡ at - 1 = omega arith in (w k).1 (inr (subst (IsOperand k) (sym e) (subst (λ x. IsOperand k (node_at ns x)) f o))))
        | inr b ↦ elim ((w i).0 q) [
          | inl old ↦ (w k).1 (inl (p.closed i k b hi old o))
          | inr new ↦ absurd (omega (arith, b, operand_lower (at - 1) i n (subst (IsNodeOver (at - 1)) (sym e) (s.lower (at - 1) j)) new))
        ]
      ];
    }

-- what is reached is in each closed set of marks
pub reached_is_marked : (ns : List Node) (roots : List Term) (ms : ℕ → Bool) → IsNodes ns → All (λ t. t.0 < length ns) roots → All (λ t. ms t.0 ≡ true) roots → Closed ns ms
    → (i : ℕ) → i < length ns → IsReached ns roots i → ms i ≡ true
reached_is_marked ns roots ms s w m c i h r =
    let f = reached_in ns roots i (term 0) r in
    let q = slice_index_or roots f.0 (term 0) in
    complete ns ms (tree ns q.0) q.0 i s c (w f.0 (term 0) f.1) h refl (m f.0 (term 0) f.1) f.2

-- the marks are complete
pub marks_are : (ns : List Node) (roots : List Term) (ms : List Bool) → IsNodes ns → All (λ t. t.0 < length ns) roots → AreMarks ns roots 0 ms → (i : ℕ) → i < length ns
    → (marked ms i → IsReached ns roots i) × (IsReached ns roots i → marked ms i)
marks_are ns roots ms s w p i h =
    (p.sound i h, reached_is_marked ns roots (λ k. slice_index_or ms k false) s w (λ k d hk. p.roots_marked k d hk) (λ j k hj q o. p.closed j k (omega arith) hj q o) i h)

pub least_closed : (ns : List Node) (roots : List Term) → IsNodes ns → All (λ t. t.0 < length ns) roots → AreLeastClosed ns roots
least_closed ns roots s w = record {
  has_roots = λ k d h. reached_from ns roots (slice_index_or roots k d).0 k d h (in_self (tree ns (slice_index_or roots k d).0));
  has_operands = λ j k h r o. reached_operand ns roots j k s h r o;
  least = λ ms c i h r. reached_is_marked ns roots ms s w c.has_roots c.has_operands i h r;
}
