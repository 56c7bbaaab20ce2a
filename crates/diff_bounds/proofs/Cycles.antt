-- Assumptions can be met, or a cycle is negative. A table of the shortest sums is made, one assumption after another.
use Rattle.std.proofs.Common.{◌≡◌, ℕ, zero, suc, ◌<◌, refl, ap, subst, arith, sym, List, [], ◌∷◌, ◌++◌, map, length, Option, Some, None, inl, inr, ◌⊎◌, Bool, true, false, cond, int_lt}
use Rattle.std.specs.Prelude.{ℤ, pos, negsuc, ◌+ℤ◌, ◌-ℤ◌, ◌≤ℤ◌, nat_lt, nat_eq, ◌&&◌, int_le}
use Rattle.std.specs.Int.{int_min}
use Rattle.std.proofs.lemmas.Int.{ints, clamps}
use Rattle.std.proofs.lemmas.Bool.{false≢true}
use Rattle.std.proofs.lemmas.Bool.Decides.{nat_tests}
use Rattle.refutation.specs.declared.assumption.Assumption.{Assumption}
use Rattle.refutation.specs.Path.{Meets, MeetsAll, at, runs, sum_of, is_negative}
use Rattle.diff_bounds.specs.Bounds.{CanBeMet, HasNoNegativeCycle, IsLeast, IsShortest}
use Rattle.diff_bounds.proofs.Ending.{all_of, met_at, and_is, chain_step}
use Rattle.diff_bounds.proofs.Least.{and_true, equal, int_true, lt_of, lt_is, chain_shows, none_meets}

-- the sum is at most v; where there is none, it isn't
abbrev pub AtMost : Option ℤ → ℤ → Type 0
AtMost None v = ⊥
AtMost (Some w) v = w ≤ℤ v

min_is : (a b : ℤ) → (int_min a b ≡ a) ⊎ (int_min a b ≡ b)
min_is a b = elim (int_lt b a) as (λ c. (cond c b a ≡ a) ⊎ (cond c b a ≡ b)) [ true ↦ inr refl | false ↦ inl refl ]

abbrev lesser : Option ℤ → Option ℤ → Option ℤ
lesser None p = p
lesser (Some a) None = Some a
lesser (Some a) (Some b) = Some (int_min a b)

-- by way of an assumption with the bound w
abbrev through : Option ℤ → ℤ → Option ℤ → Option ℤ
through (Some a) w (Some b) = Some ((a +ℤ w) +ℤ b)
through o w p = None

looser : (o : Option ℤ) (u v : ℤ) → u ≤ℤ v → AtMost o u → AtMost o v
looser None u v h k = k
looser (Some a) u v h k = omega (arith, ints)

lesser_left : (o p : Option ℤ) (v : ℤ) → AtMost o v → AtMost (lesser o p) v
lesser_left None p v h = absurd h
lesser_left (Some a) None v h = h
lesser_left (Some a) (Some b) v h = omega (arith, ints, clamps)

lesser_right : (o p : Option ℤ) (v : ℤ) → AtMost p v → AtMost (lesser o p) v
lesser_right None p v h = h
lesser_right (Some a) None v h = absurd h
lesser_right (Some a) (Some b) v h = omega (arith, ints, clamps)

lesser_out : (o p : Option ℤ) (v : ℤ) → AtMost (lesser o p) v → AtMost o v ⊎ AtMost p v
lesser_out None p v h = inr h
lesser_out (Some a) None v h = inl h
lesser_out (Some a) (Some b) v h = elim (min_is a b) [ inl e ↦ inl (subst (λ m. m ≤ℤ v) e h) | inr e ↦ inr (subst (λ m. m ≤ℤ v) e h) ]

through_in : (o p : Option ℤ) (w a b : ℤ) → AtMost o a → AtMost p b → AtMost (through o w p) ((a +ℤ w) +ℤ b)
through_in (Some c) (Some d) w a b h k = omega (arith, ints)
through_in None p w a b h k = absurd h
through_in (Some c) None w a b h k = absurd k

through_out : (o p : Option ℤ) (w v : ℤ) → AtMost (through o w p) v → (a : ℤ) × (b : ℤ) × AtMost o a × AtMost p b × (((a +ℤ w) +ℤ b) ≤ℤ v)
through_out (Some a) (Some b) w v h = (a, b, omega (arith, ints), omega (arith, ints), h)
through_out None p w v h = absurd h
through_out (Some c) None w v h = absurd h

-- a chain from k to l with a sum of at most v
abbrev pub Within : List Assumption → ℕ → ℕ → ℤ → Type 0
Within edges k l v = (chain : List ℕ) × (runs edges k l chain ≡ true) × (sum_of edges chain ≤ℤ v)

-- the sums of shortest chains
pub record IsTable (edges : List Assumption) (T : ℕ → ℕ → Option ℤ) : Type 0 where
  pub here : (k : ℕ) → AtMost (T k k) (pos 0)
  pub shown : (k l : ℕ) (v : ℤ) → AtMost (T k l) v → Within edges k l v
  pub closed : (f : ℕ) → f < length edges → (l : ℕ) (v : ℤ) → AtMost (T (at edges f).to l) v → AtMost (T (at edges f).from l) ((at edges f).bound +ℤ v)

-- numbers after one more in front
shift : (a : Assumption) (edges : List Assumption) (i j : ℕ) (chain : List ℕ) → runs edges i j chain ≡ true
    → (runs (a ∷ edges) i j (map suc chain) ≡ true) × (sum_of (a ∷ edges) (map suc chain) ≡ sum_of edges chain)
shift a edges i j [] h = (h, refl)
shift a edges i j (k ∷ chain) h =
    let p = and_true (nat_lt k (length edges) && nat_eq (at edges k).from i) _ h in
    let q = and_true (nat_lt k (length edges)) _ p.0 in
    let lt = lt_of k (length edges) q.0 in
    let rest = shift a edges (at edges k).to j chain p.1 in (
      and_is (nat_lt (suc k) (length (a ∷ edges)) && nat_eq (at (a ∷ edges) (suc k)).from i) _
          (and_is (nat_lt (suc k) (length (a ∷ edges))) _ (lt_is (suc k) (length (a ∷ edges)) (omega (arith, lt))) q.1) rest.0,
      ap (λ s. (at edges k).bound +ℤ s) rest.1,
    )

shift_negative : (a : Assumption) (edges : List Assumption) (chain : List ℕ) → is_negative edges chain ≡ true → is_negative (a ∷ edges) (map suc chain) ≡ true
shift_negative a edges [] h = absurd (false≢true h)
shift_negative a edges (k ∷ chain) h =
    let i = (at edges k).from in
    let p = and_true (runs edges i i (k ∷ chain)) _ h in
    let s = shift a edges i i (k ∷ chain) p.0 in
    and_is (runs (a ∷ edges) i i (map suc (k ∷ chain))) _ s.0 (subst (λ s. int_le s (negsuc 0) ≡ true) (sym s.1) p.1)

append_runs : (edges : List Assumption) (i k j : ℕ) (c d : List ℕ) → runs edges i k c ≡ true → runs edges k j d ≡ true → runs edges i j (c ++ d) ≡ true
append_runs edges i k j [] d h g = subst (λ (i : ℕ). runs edges i j d ≡ true) (sym (equal i k h)) g
append_runs edges i k j (e ∷ c) d h g =
    let p = and_true (nat_lt e (length edges) && nat_eq (at edges e).from i) _ h in
    and_is (nat_lt e (length edges) && nat_eq (at edges e).from i) _ p.0 (append_runs edges (at edges e).to k j c d p.1 g)

append_sum : (edges : List Assumption) (c d : List ℕ) → sum_of edges (c ++ d) ≡ (sum_of edges c +ℤ sum_of edges d)
append_sum edges [] d = omega (arith, ints)
append_sum edges (e ∷ c) d = let h = append_sum edges c d in omega (arith, ints, h)

same : (i : ℕ) → nat_eq i i ≡ true
same i = grind (arith, nat_tests)

-- y, or what the sum and t allow, where that is less
abbrev lowered : Option ℤ → ℤ → ℤ → ℤ
lowered None t y = y
lowered (Some w) t y = int_min y (w +ℤ t)

lowered_le : (o : Option ℤ) (t y : ℤ) → lowered o t y ≤ℤ y
lowered_le None t y = omega (arith, ints)
lowered_le (Some w) t y = omega (arith, ints, clamps)

lowered_at : (o : Option ℤ) (v t y : ℤ) → AtMost o v → lowered o t y ≤ℤ (v +ℤ t)
lowered_at None v t y h = absurd h
lowered_at (Some w) v t y h = omega (arith, ints, clamps)

lowered_is : (o : Option ℤ) (t y : ℤ) → (lowered o t y ≡ y) ⊎ ((w : ℤ) × AtMost o w × (lowered o t y ≡ w +ℤ t))
lowered_is None t y = inl refl
lowered_is (Some w) t y = elim (min_is y (w +ℤ t)) [
  | inl e ↦ inl e
  | inr e ↦ inr (w, omega (arith, ints), e)
]

-- a solution is mended for x_i - x_j <= w, where that closes no negative chain
mend : (edges : List Assumption) (T : ℕ → ℕ → Option ℤ) (y : ℕ → ℤ) (i j : ℕ) (w : ℤ) → IsTable edges T → MeetsAll y edges
    → ((v : ℤ) → AtMost (T j i) v → pos 0 ≤ℤ (v +ℤ w)) → (z : ℕ → ℤ) × MeetsAll z edges × ((z i -ℤ z j) ≤ℤ w)
mend edges T y i j w c meets free =
    let t = w +ℤ y j in
    let z : ℕ → ℤ = λ k. lowered (T k i) t (y k) in
    let zi : z i ≤ℤ (pos 0 +ℤ t) = lowered_at (T i i) (pos 0) t (y i) (c.here i) in (
      z,
      all_of z edges (λ f h. keeps f h (lowered_is (T (at edges f).to i) t (y (at edges f).to))),
      elim (lowered_is (T j i) t (y j)) [
        | inl e ↦ omega (arith, ints, e, zi)
        | inr v ↦ omega (arith, ints, v.2, zi, free v.0 v.1)
      ],
    )
  where
    keeps : (f : ℕ) → f < length edges → (lowered (T (at edges f).to i) (w +ℤ y j) (y (at edges f).to) ≡ y (at edges f).to)
        ⊎ ((u : ℤ) × AtMost (T (at edges f).to i) u × (lowered (T (at edges f).to i) (w +ℤ y j) (y (at edges f).to) ≡ u +ℤ (w +ℤ y j)))
        → Meets (λ k. lowered (T k i) (w +ℤ y j) (y k)) (at edges f)
    keeps f h (inl e) = let m = met_at y edges f h meets in omega (arith, ints, e, m, lowered_le (T (at edges f).from i) (w +ℤ y j) (y (at edges f).from))
    keeps f h (inr u) = omega (arith, ints, u.2, lowered_at (T (at edges f).from i) ((at edges f).bound +ℤ u.0) (w +ℤ y j) (y (at edges f).from) (c.closed f h i u.0 u.1))

-- the table with the assumption a in front
module _ (a : Assumption) (edges : List Assumption) (T : ℕ → ℕ → Option ℤ) (c : IsTable edges T)
    (free : (v : ℤ) → AtMost (T a.to a.from) v → pos 0 ≤ℤ (v +ℤ a.bound)) where
  abbrev wider : ℕ → ℕ → Option ℤ
  wider k l = lesser (T k l) (through (T k a.from) a.bound (T a.to l))

  old : (k l : ℕ) (v : ℤ) → AtMost (T k l) v → AtMost (wider k l) v
  old k l v h = lesser_left (T k l) (through (T k a.from) a.bound (T a.to l)) v h

  new : (k l : ℕ) (p q v : ℤ) → AtMost (T k a.from) p → AtMost (T a.to l) q → ((p +ℤ a.bound) +ℤ q) ≤ℤ v → AtMost (wider k l) v
  new k l p q v h g e = lesser_right (T k l) (through (T k a.from) a.bound (T a.to l)) v
      (looser (through (T k a.from) a.bound (T a.to l)) ((p +ℤ a.bound) +ℤ q) v e (through_in (T k a.from) (T a.to l) a.bound p q h g))

  abbrev By : ℕ → ℕ → ℤ → Type 0
  By k l v = (p : ℤ) × (q : ℤ) × AtMost (T k a.from) p × AtMost (T a.to l) q × (((p +ℤ a.bound) +ℤ q) ≤ℤ v)

  ways : (k l : ℕ) (v : ℤ) → AtMost (wider k l) v → AtMost (T k l) v ⊎ By k l v
  ways k l v h = elim (lesser_out (T k l) (through (T k a.from) a.bound (T a.to l)) v h) [
    | inl g ↦ inl g
    | inr g ↦ inr (through_out (T k a.from) (T a.to l) a.bound v g)
  ]

  shown_old : (k l : ℕ) (v : ℤ) → Within edges k l v → Within (a ∷ edges) k l v
  shown_old k l v h = let s = shift a edges k l h.0 h.1 in (map suc h.0, s.0, subst (λ s. s ≤ℤ v) (sym s.1) h.2)

  shown_new : (k l : ℕ) (v : ℤ) → By k l v → Within (a ∷ edges) k l v
  shown_new k l v h =
      let b = shown_old k a.from h.0 (c.shown k a.from h.0 h.2) in
      let d = shown_old a.to l h.1 (c.shown a.to l h.1 h.3) in
      let e = h.4 in
      let sb = b.2 in
      let sd = d.2 in
      let sum = append_sum (a ∷ edges) b.0 (0 ∷ d.0) in (
        b.0 ++ (0 ∷ d.0),
        append_runs (a ∷ edges) k a.from l b.0 (0 ∷ d.0) b.1 (chain_step (a ∷ edges) a.from l 0 d.0 (omega arith) refl d.1),
        omega (arith, ints, sum, sb, sd, e),
      )

  closed_at : (f : ℕ) → f < length (a ∷ edges) → (l : ℕ) (v : ℤ) → AtMost (wider (at (a ∷ edges) f).to l) v → AtMost (wider (at (a ∷ edges) f).from l) ((at (a ∷ edges) f).bound +ℤ v)
  closed_at zero h l v p = elim (ways a.to l v p) [
    | inl x ↦ new a.from l (pos 0) v (a.bound +ℤ v) (c.here a.from) x (omega (arith, ints))
    | inr x ↦ new a.from l (pos 0) x.1 (a.bound +ℤ v) (c.here a.from) x.3 (let e = x.4 in let g = free x.0 x.2 in omega (arith, ints, e, g))
  ]
  closed_at (suc f) h l v p = elim (ways (at edges f).to l v p) [
    | inl x ↦ old (at edges f).from l ((at edges f).bound +ℤ v) (c.closed f (omega (arith, h)) l v x)
    | inr x ↦ new (at edges f).from l ((at edges f).bound +ℤ x.0) x.1 ((at edges f).bound +ℤ v) (c.closed f (omega (arith, h)) a.from x.0 x.2) x.3 (let e = x.4 in omega (arith, ints, e))
  ]

  pub widened : IsTable (a ∷ edges) wider
  widened = record {
    here = λ k. old k k (pos 0) (c.here k);
    shown = λ k l v h. elim (ways k l v h) [ inl x ↦ shown_old k l v (c.shown k l v x) | inr x ↦ shown_new k l v x ];
    closed = closed_at;
  }

-- a solution and a table
pub record IsSolved (edges : List Assumption) : Type 0 where
  pub x : ℕ → ℤ
  pub meets : MeetsAll x edges
  pub sums : ℕ → ℕ → Option ℤ
  pub table : IsTable edges sums

abbrev pub IsRefuted : List Assumption → Type 0
IsRefuted edges = (chain : List ℕ) × (is_negative edges chain ≡ true)

abbrev start : Bool → Option ℤ
start true = Some (pos 0)
start false = None

begun : (b : Bool) (v : ℤ) → AtMost (start b) v → (b ≡ true) × (pos 0 ≤ℤ v)
begun true v h = (refl, h)
begun false v h = absurd h

started : (b : Bool) → b ≡ true → AtMost (start b) (pos 0)
started true h = omega (arith, ints)
started false h = absurd (false≢true h)

none_yet : IsSolved []
none_yet = record {
  x = λ k. pos 0;
  meets = tt;
  sums = λ k l. start (nat_eq k l);
  table = record {
    here = λ k. started (nat_eq k k) (same k);
    shown = λ k l v h. let b = begun (nat_eq k l) v h in ([], b.0, b.1);
    closed = λ f h l v p. absurd (omega (arith, h));
  };
}

-- a sum, and whether it and w are together negative
sign : (o : Option ℤ) (w : ℤ) → ((v : ℤ) × AtMost o v × ((v +ℤ w) ≤ℤ negsuc 0)) ⊎ ((v : ℤ) → AtMost o v → pos 0 ≤ℤ (v +ℤ w))
sign None w = inr (λ v h. absurd h)
sign (Some d) w = elim (below (d +ℤ w)) [
  | inl n ↦ inl (d, omega (arith, ints), n)
  | inr p ↦ inr (λ v h. omega (arith, ints, p, h))
]
  where
    below : (v : ℤ) → (v ≤ℤ negsuc 0) ⊎ (pos 0 ≤ℤ v)
    below (pos n) = inr (omega (arith, ints))
    below (negsuc n) = inl (omega (arith, ints))

closes : (a : Assumption) (edges : List Assumption) (v : ℤ) → Within edges a.to a.from v → (v +ℤ a.bound) ≤ℤ negsuc 0 → IsRefuted (a ∷ edges)
closes a edges v way n =
    let s = shift a edges a.to a.from way.0 way.1 in
    let sum = s.1 in
    let le = way.2 in (
      0 ∷ map suc way.0,
      and_is (runs (a ∷ edges) a.from a.from (0 ∷ map suc way.0)) _ (chain_step (a ∷ edges) a.from a.from 0 (map suc way.0) (omega arith) refl s.0)
          (int_true (sum_of (a ∷ edges) (0 ∷ map suc way.0)) (negsuc 0) (omega (arith, ints, sum, le, n))),
    )

pub solved : (edges : List Assumption) → IsSolved edges ⊎ IsRefuted edges
solved [] = inl none_yet
solved (a ∷ edges) = elim (solved edges) [
  | inr r ↦ inr (map suc r.0, shift_negative a edges r.0 r.1)
  | inl s ↦ elim (sign (s.sums a.to a.from) a.bound) [
    | inl n ↦ inr (closes a edges n.0 (s.table.shown a.to a.from n.0 n.1) n.2)
    | inr free ↦
        let m = mend edges s.sums s.x a.from a.to a.bound s.table s.meets free in
        inl (record { x = m.0; meets = (m.2, m.1); sums = wider a edges s.sums s.table free; table = widened a edges s.sums s.table free })
  ]
]

-- each chain's sum is at least the table's
along : (edges : List Assumption) (T : ℕ → ℕ → Option ℤ) (i j : ℕ) (chain : List ℕ) → IsTable edges T → runs edges i j chain ≡ true → AtMost (T i j) (sum_of edges chain)
along edges T i j [] c h = subst (λ (j : ℕ). AtMost (T i j) (pos 0)) (equal i j h) (c.here i)
along edges T i j (k ∷ chain) c h =
    let p = and_true (nat_lt k (length edges) && nat_eq (at edges k).from i) _ h in
    let q = and_true (nat_lt k (length edges)) _ p.0 in
    subst (λ (i : ℕ). AtMost (T i j) ((at edges k).bound +ℤ sum_of edges chain)) (equal (at edges k).from i q.1)
    (c.closed k (lt_of k (length edges) q.0) j (sum_of edges chain) (along edges T (at edges k).to j chain c p.1))

shortest_is : (edges : List Assumption) (T : ℕ → ℕ → Option ℤ) (i j : ℕ) → IsTable edges T → IsShortest edges i j (T i j)
shortest_is edges T i j c = go (T i j) refl
  where
    go : (o : Option ℤ) → T i j ≡ o → IsShortest edges i j o
    go None e = λ chain h. subst (λ o. AtMost o (sum_of edges chain)) e (along edges T i j chain c h)
    go (Some w) e =
        let at_least : (chain : List ℕ) → runs edges i j chain ≡ true → w ≤ℤ sum_of edges chain = λ chain h. subst (λ o. AtMost o (sum_of edges chain)) e (along edges T i j chain c h) in
        let way = c.shown i j w (subst (λ o. AtMost o w) (sym e) (omega (arith, ints))) in
        let low = at_least way.0 way.1 in
        let high = way.2 in
        ((way.0, way.1, omega (arith, ints, low, high)), at_least)

pub least_is : (edges : List Assumption) (T : ℕ → ℕ → Option ℤ) (y : ℕ → ℤ) (i j : ℕ) → IsTable edges T → MeetsAll y edges → IsLeast edges i j (T i j)
least_is edges T y i j c meets = go (T i j) refl
  where
    go : (o : Option ℤ) → T i j ≡ o → IsLeast edges i j o
    go None e = λ w all.
        let m = mend edges T y j i ((pos 0 -ℤ w) -ℤ pos 1) c meets (λ v h. absurd (subst (λ o. AtMost o v) e h)) in
        let a = all m.0 m.1 in
        let b = m.2 in
        omega (arith, ints, a, b)
    go (Some w) e =
        let at : (v : ℤ) → AtMost (T i j) v → w ≤ℤ v = λ v h. subst (λ o. AtMost o v) e h in
        let way = c.shown i j w (subst (λ o. AtMost o w) (sym e) (omega (arith, ints))) in (
          λ x m. let s = chain_shows x edges i j way.0 m way.1 in let le = way.2 in omega (arith, ints, s, le),
          λ v all.
              let m = mend edges T y j i (pos 0 -ℤ w) c meets (λ u h. let k = at u h in omega (arith, ints, k)) in
              let a = all m.0 m.1 in
              let b = m.2 in
              omega (arith, ints, a, b),
        )

least_once : (edges : List Assumption) (i j : ℕ) (o p : Option ℤ) → IsLeast edges i j o → IsLeast edges i j p → o ≡ p
least_once edges i j None None h k = refl
least_once edges i j None (Some w) h k = absurd (h w k.0)
least_once edges i j (Some v) None h k = absurd (k v h.0)
least_once edges i j (Some v) (Some w) h k = let a = h.1 w k.0 in let b = k.1 v h.0 in ap Some (omega (arith, ints, a, b))

shortest_once : (edges : List Assumption) (i j : ℕ) (o p : Option ℤ) → IsShortest edges i j o → IsShortest edges i j p → o ≡ p
shortest_once edges i j None None h k = refl
shortest_once edges i j None (Some w) h k = absurd (h k.0.0 k.0.1)
shortest_once edges i j (Some v) None h k = absurd (k h.0.0 h.0.1)
shortest_once edges i j (Some v) (Some w) h k =
    let a = h.1 k.0.0 k.0.1 in let b = k.1 h.0.0 h.0.1 in let c = h.0.2 in let d = k.0.2 in ap Some (omega (arith, ints, a, b, c, d))

pub met_exactly : (edges : List Assumption) → (CanBeMet edges → HasNoNegativeCycle edges) × (HasNoNegativeCycle edges → CanBeMet edges)
met_exactly edges = ((λ m chain n. none_meets m.0 edges chain m.1 n), (λ free. elim (solved edges) [ inl s ↦ (s.x, s.meets) | inr r ↦ absurd (free r.0 r.1) ]))

pub least_exactly : (edges : List Assumption) (i j : ℕ) (o : Option ℤ) → CanBeMet edges → (IsLeast edges i j o → IsShortest edges i j o) × (IsShortest edges i j o → IsLeast edges i j o)
least_exactly edges i j o met = elim (solved edges) [
  | inr r ↦ absurd (none_meets met.0 edges r.0 met.1 r.1)
  | inl s ↦
      let short = shortest_is edges s.sums i j s.table in
      let least = least_is edges s.sums s.x i j s.table s.meets in (
        (λ h. subst (λ o. IsShortest edges i j o) (least_once edges i j (s.sums i j) o least h) short),
        (λ h. subst (λ o. IsLeast edges i j o) (shortest_once edges i j (s.sums i j) o short h) least),
      )
]
