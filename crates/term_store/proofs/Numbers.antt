-- The numbers of a store's steps are those of the terms' times.
use Rattle.std.proofs.Common.{◌≡◌, ℕ, zero, suc, ◌<◌, ◌≤◌, ◌+◌, ◌*◌, refl, ap, subst, arith, sym, ◌∙◌, Bool, true, false, cond, ltb, length, List, [], ◌∷◌, ◌++◌, take, length-append, inl, inr}
use Rattle.std.specs.List.{All}
use Rattle.std.specs.Prelude.{slice_set}
use Rattle.std.proofs.lemmas.Bool.Decides.{nat_tests}
use Rattle.std.proofs.lemmas.Bool.{cases_lt}
use Rattle.std.proofs.lemmas.List.{length-map, map-append, take_more, take_all, get_or_append_left, get_or_push}
use Rattle.std.proofs.lemmas.Grind.{common_steps}
use Rattle.rl_time.specs.declared.time.Time.{Time}
use Rattle.rl_time.specs.declared.time.Time.TheVariants as time
use Rattle.rl_time.specs.Time.{time_min, time_max, time_lt, time_inc}
use Rattle.net_model.specs.Value.{time_at}
use Rattle.net_model.specs.Early.{IsAtMost, AreEarly}
use Rattle.term_store.specs.declared.node.Node.{Node}
use Rattle.term_store.specs.declared.node.Node.TheVariants as node
use Rattle.term_store.specs.declared.step.Operator.{Operator}
use Rattle.term_store.specs.declared.step.Operator.TheVariants.{Min, Max, Lt, Inc}
use Rattle.term_store.specs.declared.step.Step.{Step}
use Rattle.term_store.specs.declared.step.Step.TheVariants as step
use Rattle.term_store.specs.Nodes.{node_at, IsNodeOver, IsNodes}
use Rattle.term_store.specs.Tree.{value}
use Rattle.term_store.specs.Trees.{tree}
use Rattle.term_store.specs.Places.{tree_by_places}
use Rattle.term_store.specs.Steps.{operation_node, step_node, step_nodes, step_at, IsStepOver, AreSteps, number, never, time_of, number_at, answer, step_number}
use Rattle.term_store.proofs.Counted.{follows}

-- ---- no term is so late that its number would be that of never

at_most-le : (a : Time) (m n : ℕ) → m ≤ n → IsAtMost m a → IsAtMost n a
at_most-le time.Never m n le h = tt
at_most-le (time.At a) m n le h = omega (arith, le, h)

min-at_most : (a b : Time) (n : ℕ) → IsAtMost n a → IsAtMost n b → IsAtMost n (time_min a b)
min-at_most time.Never b n p q = q
min-at_most (time.At a) time.Never n p q = p
min-at_most (time.At a) (time.At b) n p q = omega (arith, p, q)

max-at_most : (a b : Time) (n : ℕ) → IsAtMost n a → IsAtMost n b → IsAtMost n (time_max a b)
max-at_most time.Never b n p q = tt
max-at_most (time.At a) time.Never n p q = tt
max-at_most (time.At a) (time.At b) n p q = omega (arith, p, q)

kept : (test : Bool) (a n : ℕ) → a ≤ n → IsAtMost n (cond test (time.At a) time.Never)
kept true a n h = h
kept false a n h = tt

lt-at_most : (a b : Time) (n : ℕ) → IsAtMost n a → IsAtMost n (time_lt a b)
lt-at_most time.Never b n p = tt
lt-at_most (time.At a) time.Never n p = p
lt-at_most (time.At a) (time.At b) n p = kept (ltb a b) a n p

inc-at_most : (a : Time) (n c : ℕ) → IsAtMost n a → IsAtMost (n + c) (time_inc a c)
inc-at_most time.Never n c p = tt
inc-at_most (time.At a) n c p = omega (arith, p)

input-at_most : (x : List Time) (i n : ℕ) → All (IsAtMost n) x → IsAtMost n (time_at x i)
input-at_most [] i n h = tt
input-at_most (a ∷ x) zero n h = h 0 a (omega arith)
input-at_most (a ∷ x) (suc i) n h = input-at_most x i n (λ k d lt. h (suc k) d (omega (arith, lt)))

-- how late the term of a place can be
abbrev pub latest : ℕ → ℕ
latest place = 1000000000000 + 1000000 * place

late_node : (ns : List Node) (x : List Time) (k : ℕ) (n : Node) → AreEarly x → IsNodeOver k n → ((i : ℕ) → i < k → IsAtMost (latest i) (value x (tree ns i))) → IsAtMost (latest k) (value x (tree_by_places ns n))
late_node ns x k node.Never early over low = tt
late_node ns x k (node.Input i) early over low = at_most-le (time_at x i) 1000000000000 (latest k) (omega arith) (input-at_most x i 1000000000000 early)
late_node ns x k (node.Min a b) early over low =
    min-at_most (value x (tree ns a.0)) (value x (tree ns b.0)) (latest k)
    (at_most-le (value x (tree ns a.0)) (latest a.0) (latest k) (omega (arith, over.0)) (low a.0 over.0))
    (at_most-le (value x (tree ns b.0)) (latest b.0) (latest k) (omega (arith, over.1)) (low b.0 over.1))
late_node ns x k (node.Max a b) early over low =
    max-at_most (value x (tree ns a.0)) (value x (tree ns b.0)) (latest k)
    (at_most-le (value x (tree ns a.0)) (latest a.0) (latest k) (omega (arith, over.0)) (low a.0 over.0))
    (at_most-le (value x (tree ns b.0)) (latest b.0) (latest k) (omega (arith, over.1)) (low b.0 over.1))
late_node ns x k (node.Lt a b) early over low =
    lt-at_most (value x (tree ns a.0)) (value x (tree ns b.0)) (latest k)
    (at_most-le (value x (tree ns a.0)) (latest a.0) (latest k) (omega (arith, over.0)) (low a.0 over.0))
late_node ns x k (node.Inc a c) early over low =
    at_most-le (time_inc (value x (tree ns a.0)) c) (latest a.0 + c) (latest k) (omega (arith, over.0, over.2))
    (inc-at_most (value x (tree ns a.0)) (latest a.0) c (low a.0 over.0))

late_below : (ns : List Node) (x : List Time) → IsNodes ns → AreEarly x → (bound k : ℕ) → k < bound → k < length ns → IsAtMost (latest k) (value x (tree ns k))
late_below ns x s early zero k b lt = absurd (omega (arith, b))
late_below ns x s early (suc bound) k b lt =
    subst (λ t. IsAtMost (latest k) (value x t)) (sym (follows ns k s lt))
    (late_node ns x k (node_at ns k) early (s.lower k lt) (λ i low. late_below ns x s early bound i (omega (arith, b, low)) (omega (arith, low, lt))))

pub late : (ns : List Node) (x : List Time) (k : ℕ) → IsNodes ns → AreEarly x → k < length ns → IsAtMost (latest k) (value x (tree ns k))
late ns x k s early lt = late_below ns x s early (suc k) k (omega arith) lt

-- ---- numbers for times

-- a time that isn't late comes back from its number
back : (t : Time) (n : ℕ) → n < never → IsAtMost n t → time_of (number t) ≡ t
back time.Never n small h = refl
back (time.At a) n small h = grind (arith, nat_tests, small, h)

min_number : (s t : Time) (n : ℕ) → n < never → IsAtMost n s → IsAtMost n t → answer Min (number s) (number t) 0 ≡ number (time_min s t)
min_number time.Never time.Never n small p q = refl
min_number time.Never (time.At b) n small p q = omega (arith, small, q)
min_number (time.At a) time.Never n small p q = omega (arith, small, p)
min_number (time.At a) (time.At b) n small p q = refl

max_number : (s t : Time) (n : ℕ) → n < never → IsAtMost n s → IsAtMost n t → answer Max (number s) (number t) 0 ≡ number (time_max s t)
max_number time.Never time.Never n small p q = refl
max_number time.Never (time.At b) n small p q = omega (arith, small, q)
max_number (time.At a) time.Never n small p q = omega (arith, small, p)
max_number (time.At a) (time.At b) n small p q = refl

lt_number : (s t : Time) (n : ℕ) → n < never → IsAtMost n s → IsAtMost n t → answer Lt (number s) (number t) 0 ≡ number (time_lt s t)
lt_number time.Never time.Never n small p q = refl
lt_number time.Never (time.At b) n small p q = grind (arith, nat_tests, small, q)
lt_number (time.At a) time.Never n small p q = grind (arith, nat_tests, small, p)
lt_number (time.At a) (time.At b) n small p q = grind (arith, nat_tests)

inc_number : (s : Time) (n c q : ℕ) → n + c < never → IsAtMost n s → answer Inc (number s) q c ≡ number (time_inc s c)
inc_number time.Never n c q small p = omega arith
inc_number (time.At a) n c q small p = omega (arith, small, p)

-- ---- the walk

-- the first so many numbers are those of the terms' times
abbrev pub AreNumbers : List Time → List Node → ℕ → List ℕ → Type 0
AreNumbers x ns n numbers = (place : ℕ) → place < n → number_at numbers place ≡ number (value x (tree ns place))

-- the node of a step's place
node_of_step : (steps : List Step) (k : ℕ) → k < length steps → node_at (step_nodes steps) k ≡ step_node (step_at steps k)
node_of_step steps k lt = grind (arith, common_steps)

-- an operation gives the number of its node's time
operation_is : (ns : List Node) (x : List Time) (n k : ℕ) (o : Operator) (a b by p q : ℕ) → n + 1000000 < never → IsAtMost n (value x (tree ns a)) → IsAtMost n (value x (tree ns b))
    → p ≡ number (value x (tree ns a)) → q ≡ number (value x (tree ns b)) → IsNodeOver k (operation_node o a b by) → answer o p q by ≡ number (value x (tree_by_places ns (operation_node o a b by)))
operation_is ns x n k Min a b by p q small low high first second over =
    (λ i. answer Min (first i) (second i) by) ∙ min_number (value x (tree ns a)) (value x (tree ns b)) n (omega (arith, small)) low high
operation_is ns x n k Max a b by p q small low high first second over =
    (λ i. answer Max (first i) (second i) by) ∙ max_number (value x (tree ns a)) (value x (tree ns b)) n (omega (arith, small)) low high
operation_is ns x n k Lt a b by p q small low high first second over =
    (λ i. answer Lt (first i) (second i) by) ∙ lt_number (value x (tree ns a)) (value x (tree ns b)) n (omega (arith, small)) low high
operation_is ns x n k Inc a b by p q small low high first second over =
    ap (λ m. answer Inc m q by) first ∙ inc_number (value x (tree ns a)) n by q (omega (arith, small, over.2)) low

-- a step gives the number of its node's time
step_is : (steps : List Step) (x : List Time) (k : ℕ) (numbers : List ℕ) (s : Step) → AreSteps steps → AreEarly x → k < length steps → AreNumbers x (step_nodes steps) k numbers
    → IsStepOver k s → IsNodeOver k (step_node s) → step_number x numbers s ≡ number (value x (tree_by_places (step_nodes steps) (step_node s)))
step_is steps x k numbers step.Never are early lt before over node_over = refl
step_is steps x k numbers (step.Input i) are early lt before over node_over = refl
step_is steps x k numbers (step.Operation o) are early lt before over node_over =
    let ns = step_nodes steps in
    let few : k < 262144 = omega (arith, lt, are.nodes.few, length-map steps step_node) in
    let low : (i : ℕ) → i < k → IsAtMost (latest k) (value x (tree ns i)) = λ i b.
    at_most-le (value x (tree ns i)) (latest i) (latest k) (omega (arith, b)) (late ns x i are.nodes early (omega (arith, b, lt, length-map steps step_node)))
    in
    operation_is ns x (latest k) k o.operator o.first o.second o.by (number_at numbers o.first) (number_at numbers o.second) (omega (arith, few)) (low o.first over.0) (low o.second over.1)
    (before o.first over.0) (before o.second over.1) node_over

-- the numbers, once one more was written
pub one_more : (steps : List Step) (x : List Time) (k : ℕ) (numbers after : List ℕ) (n : ℕ) → AreSteps steps → AreEarly x → k < length steps → length numbers ≡ length steps
    → AreNumbers x (step_nodes steps) k numbers → n ≡ step_number x numbers (step_at steps k) → after ≡ slice_set numbers k n → AreNumbers x (step_nodes steps) (k + 1) after
one_more steps x k numbers after n are early lt len before e set place low = elim (cases_lt place k) [
  | inl b ↦ old_number numbers after place k n b set ∙ before place b
  | inr b ↦
      let here : place ≡ k = omega (arith, low, b) in
      let ns = step_nodes steps in
      let within : k < length ns = omega (arith, lt, length-map steps step_node) in
      let over : IsNodeOver k (step_node (step_at steps k)) = subst (IsNodeOver k) (node_of_step steps k lt) (are.nodes.lower k within) in
      let is = step_is steps x k numbers (step_at steps k) are early lt before (are.lower k lt) over in
      let at : value x (tree ns k) ≡ value x (tree_by_places ns (step_node (step_at steps k))) = ap (value x) (follows ns k are.nodes within ∙ ap (tree_by_places ns) (node_of_step steps k lt)) in
      ap (number_at after) here ∙ new_number numbers after k n (omega (arith, lt, len)) set ∙ e ∙ is ∙ ap number (sym at) ∙ sym (ap (λ p. number (value x (tree ns p))) here)
]
  where
    old_number : (numbers after : List ℕ) (place k n : ℕ) → place < k → after ≡ slice_set numbers k n → number_at after place ≡ number_at numbers place
    old_number numbers after place k n b e = grind (arith, common_steps)

    new_number : (numbers after : List ℕ) (k n : ℕ) → k < length numbers → after ≡ slice_set numbers k n → number_at after k ≡ n
    new_number numbers after k n b e = grind (arith, common_steps)

-- what is read of the numbers is the term's time
pub time_is : (steps : List Step) (x : List Time) (k n : ℕ) (numbers : List ℕ) (t : Time) → AreSteps steps → AreEarly x → k < length steps → AreNumbers x (step_nodes steps) (k + 1) numbers
    → n ≡ number_at numbers k → t ≡ time_of n → t ≡ value x (tree (step_nodes steps) k)
time_is steps x k n numbers t are early lt h e read =
    let within : k < length (step_nodes steps) = omega (arith, lt, length-map steps step_node) in
    let few : k < 262144 = omega (arith, within, are.nodes.few) in
    read ∙ ap time_of (e ∙ h k (omega arith)) ∙ back (value x (tree (step_nodes steps) k)) (latest k) (omega (arith, few)) (late (step_nodes steps) x k are.nodes early within)

-- ---- the steps

-- the steps of the first nodes, each over those before it
abbrev pub AreFirstSteps : List Step → List Node → ℕ → Type 0
AreFirstSteps steps ns n = (length steps ≡ n) × (step_nodes steps ≡ take n ns) × ((place : ℕ) → place < length steps → IsStepOver place (step_at steps place))

pub step_more : (steps : List Step) (ns : List Node) (n : ℕ) (after : List Step) (s : Step) → IsNodes ns → n < length ns → AreFirstSteps steps ns n → step_node s ≡ node_at ns n
    → ((m : ℕ) → IsNodeOver m (node_at ns n) → IsStepOver m s) → after ≡ steps ++ s ∷ [] → AreFirstSteps after ns (n + 1)
step_more steps ns n after s are lt h is over e =
    let len : length after ≡ n + 1 = omega (arith, ap length e, length-append steps (s ∷ []), h.0) in
    let nodes : step_nodes after ≡ take (n + 1) ns = ap step_nodes e ∙ map-append step_node steps (s ∷ []) ∙ (λ i. h.1 i ++ is i ∷ []) ∙ sym (take_more ns n node.Never lt) in
    let lower : (place : ℕ) → place < length after → IsStepOver place (step_at after place) = λ place low. subst (λ (steps : List Step). IsStepOver place (step_at steps place)) (sym e)
    (elim (cases_lt place (length steps)) [
      | inl b ↦ subst (IsStepOver place) (sym (get_or_append_left steps (s ∷ []) step.Never place b)) (h.2 place b)
      | inr b ↦
          let here : place ≡ n = omega (arith, b, low, len, h.0) in
          subst (IsStepOver place) (sym (get_or_push steps s step.Never place (sym (here ∙ sym h.0)))) (over place (subst (λ k. IsNodeOver k (node_at ns n)) (sym here) (are.lower n lt)))
    ])
    in
    (len, nodes, lower)

-- all steps, once as many are there as nodes
pub all_steps : (steps : List Step) (ns : List Node) (n : ℕ) → length ns ≤ n → AreFirstSteps steps ns n → step_nodes steps ≡ ns
all_steps steps ns n le h = h.1 ∙ take_all n ns le

pub are_steps : (steps : List Step) (ns : List Node) (n : ℕ) → IsNodes ns → length ns ≤ n → AreFirstSteps steps ns n → AreSteps steps
are_steps steps ns n are le h = record {
  nodes = subst IsNodes (sym (all_steps steps ns n le h)) are;
  lower = h.2;
}
