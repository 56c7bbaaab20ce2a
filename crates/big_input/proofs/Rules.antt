-- The rules of networks that the formulas of the lets and the outputs keep.
use Rattle.std.proofs.Common.{◌≡◌, ℕ, zero, suc, ◌+◌, ◌-◌, ◌*◌, ◌<◌, ◌≤◌, refl, ap, subst, arith, sym, ◌∙◌, Bool, true, false, nat_lt, nat_eq, if◌then◌else◌, length, List, [], ◌∷◌, ◌++◌, codes, map, length-append}
use Rattle.std.specs.List.{AllByRecursion, slice_index_or, sum_by, list_all}
use Rattle.std.proofs.lemmas.Bool.{leb-true}
use Rattle.std.proofs.lemmas.List.{map-append}
use Rattle.std.proofs.lemmas.List.Sums.{fold-append, sum_by-append, sum_by-cons}
use Rattle.net_model.specs.Formula.{Formula, Input, Named, Min, Max, Lt, Inc, Equation}
use Rattle.net_model.specs.Rules.{joins, delays, nesting, span, let_spans, IsOver, AreLets, IsNetwork, names_of, are_distinct, is_let_name, is_port_name}
use Rattle.big_input.specs.Stream.{state, draw}
use Rattle.big_input.specs.Generated.{names_below, operand, drawn_operand, drawn_body, let_at, lets_below, output_count, output_at, outputs_below, big_network}
use Rattle.big_input.proofs.Names.{let_names, port_names, all_distinct}

-- ---- a let's formula

-- a rule of formulas that each kind of let keeps
abbrev pub KeptByEach : (Formula → Type 0) → ℕ → ℕ → Type 0
KeptByEach P s place = ((a b : ℕ) → a < 8 + place → b < 8 + place → P (Min (operand a) (operand b)) × P (Max (operand a) (operand b)) × P (Lt (operand a) (operand b)))
    × ((a c : ℕ) → a < 8 + place → c ≤ 3 → P (Inc (operand a) c))

drawn_below : (s k m : ℕ) → 1 ≤ m → draw s k m < m
drawn_below s k m le = omega arith

pub kept_by_body : (P : Formula → Type 0) (s place : ℕ) → KeptByEach P s place → P (drawn_body s place)
kept_by_body P s place h =
    let first = drawn_below s 1 (8 + place) (omega arith) in
    let second = drawn_below s 2 (8 + place) (omega arith) in
    let cycles : 1 + draw s 2 3 ≤ 3 = omega (arith, drawn_below s 2 3 (omega arith)) in
    let pair = h.0 (draw s 1 (8 + place)) (draw s 2 (8 + place)) first second in
    go (nat_eq (draw s 0 4) 0) (nat_eq (draw s 0 4) 1) (nat_eq (draw s 0 4) 2) pair.0 pair.1 pair.2 (h.1 (draw s 1 (8 + place)) (1 + draw s 2 3) first cycles)
  where
    go : (p q r : Bool) → P (Min (drawn_operand s 1 place) (drawn_operand s 2 place)) → P (Max (drawn_operand s 1 place) (drawn_operand s 2 place)) → P (Lt (drawn_operand s 1 place) (drawn_operand s 2 place))
        → P (Inc (drawn_operand s 1 place) (1 + draw s 2 3))
        → P (if p then Min (drawn_operand s 1 place) (drawn_operand s 2 place) else if q then Max (drawn_operand s 1 place) (drawn_operand s 2 place) else if r then Lt (drawn_operand s 1 place) (drawn_operand s 2 place) else Inc (drawn_operand s 1 place) (1 + draw s 2 3))
    go true q r a b c d = a
    go false true r a b c d = b
    go false false true a b c d = c
    go false false false a b c d = d

-- an operand is an input or an earlier let
pub operand_either : (P : Formula → Type 0) (number : ℕ) → (number < 8 → P (Input number)) → (8 ≤ number → P (Named (number - 8))) → P (operand number)
operand_either P number f g = go (nat_lt number 8) refl
  where
    go : (b : Bool) → nat_lt number 8 ≡ b → P (if b then Input number else Named (number - 8))
    go true e = f (omega (arith, leb-true (suc number) 8 e))
    go false e = g (grind (arith))

operand_over : (number place : ℕ) → number < 8 + place → IsOver 8 place (operand number)
operand_over number place lt = operand_either (IsOver 8 place) number (λ h. h) (λ h. omega (arith, lt, h))

operand_joins : (number : ℕ) → joins (operand number) ≡ 0
operand_joins number = operand_either (λ f. joins f ≡ 0) number (λ h. refl) (λ h. refl)

operand_delays : (number : ℕ) → delays (operand number) ≡ 0
operand_delays number = operand_either (λ f. delays f ≡ 0) number (λ h. refl) (λ h. refl)

operand_nesting : (number : ℕ) → nesting (operand number) ≡ 0
operand_nesting number = operand_either (λ f. nesting f ≡ 0) number (λ h. refl) (λ h. refl)

pub body_over : (s place : ℕ) → IsOver 8 place (drawn_body s place)
body_over s place =
    kept_by_body (IsOver 8 place) s place (
      λ a b la lb. (
        (operand_over a place la, operand_over b place lb),
        (operand_over a place la, operand_over b place lb),
        (operand_over a place la, operand_over b place lb),
      ),
      λ a c la lc. operand_over a place la,
    )

-- it writes one operator
record IsSmall (f : Formula) : Type 0 where
  pub joins_few : joins f ≤ 1
  pub delays_few : delays f ≤ 1
  pub shallow : nesting f ≤ 64

pair_small : (a b : ℕ) → IsSmall (Min (operand a) (operand b)) × IsSmall (Max (operand a) (operand b)) × IsSmall (Lt (operand a) (operand b))
pair_small a b =
    let ja = operand_joins a in
    let jb = operand_joins b in
    let da = operand_delays a in
    let db = operand_delays b in
    let na = operand_nesting a in
    let nb = operand_nesting b in (
      record { joins_few = omega (arith, ja, jb); delays_few = omega (arith, da, db); shallow = omega (arith, na, nb) },
      record { joins_few = omega (arith, ja, jb); delays_few = omega (arith, da, db); shallow = omega (arith, na, nb) },
      record { joins_few = omega (arith, ja, jb); delays_few = omega (arith, da, db); shallow = omega (arith, na, nb) },
    )

body_small : (s place : ℕ) → IsSmall (drawn_body s place)
body_small s place =
    kept_by_body IsSmall s place (
      λ a b la lb. pair_small a b,
      λ a c la lc. record { joins_few = omega (arith, operand_joins a); delays_few = omega (arith, operand_delays a); shallow = omega (arith, operand_nesting a) },
    )

-- ---- all lets

pub length_lets : (n k : ℕ) → length (lets_below n k) ≡ k
length_lets n zero = refl
length_lets n (suc k) = omega (arith, length-append (lets_below n k) (let_at n k ∷ []), length_lets n k)

lets_push : (i k : ℕ) (es : List Equation) (e : Equation) → AreLets i k es → IsOver i (k + length es) e.body → AreLets i k (es ++ e ∷ [])
lets_push i k [] e o h = let z : k + 0 ≡ k = omega arith in (subst (λ m. IsOver i m e.body) z h, tt)
lets_push i k (x ∷ es) e o h =
    let z : k + suc (length es) ≡ suc k + length es = omega arith in
    (o.0, lets_push i (suc k) es e o.1 (subst (λ m. IsOver i m e.body) z h))

lets_over : (n k : ℕ) → AreLets 8 0 (lets_below n k)
lets_over n zero = tt
lets_over n (suc k) =
    let z : k ≡ 0 + length (lets_below n k) = omega (arith, length_lets n k) in
    lets_push 8 0 (lets_below n k) (let_at n k) (lets_over n k) (subst (λ m. IsOver 8 m (let_at n k).body) z (body_over (state n (3 * k)) k))

pub all_push : {A : Type 0} (P : A → Type 0) (xs : List A) (x : A) → AllByRecursion P xs → P x → AllByRecursion P (xs ++ x ∷ [])
all_push P [] x h k = (k, tt)
all_push P (y ∷ xs) x h k = (h.0, all_push P xs x h.1 k)

pub all_append : {A : Type 0} (P : A → Type 0) (xs ys : List A) → AllByRecursion P xs → AllByRecursion P ys → AllByRecursion P (xs ++ ys)
all_append P [] ys h k = k
all_append P (x ∷ xs) ys h k = (h.0, all_append P xs ys h.1 k)

lets_small : (n k : ℕ) → AllByRecursion (λ e. IsSmall e.body) (lets_below n k)
lets_small n zero = tt
lets_small n (suc k) = all_push (λ (e : Equation). IsSmall e.body) (lets_below n k) (let_at n k) (lets_small n k) (body_small (state n (3 * k)) k)

-- ---- the outputs

outputs_small : (n j : ℕ) → AllByRecursion (λ e. IsSmall e.body) (outputs_below n j)
outputs_small n zero = tt
outputs_small n (suc j) =
    all_push (λ (e : Equation). IsSmall e.body) (outputs_below n j) (output_at n j) (outputs_small n j)
    (record { joins_few = omega arith; delays_few = omega arith; shallow = omega arith })

pub length_outputs : (n j : ℕ) → length (outputs_below n j) ≡ j
length_outputs n zero = refl
length_outputs n (suc j) = omega (arith, length-append (outputs_below n j) (output_at n j ∷ []), length_outputs n j)

outputs_over : (n j : ℕ) → j ≤ output_count n → AllByRecursion (λ e. IsOver 8 n e.body) (outputs_below n j)
outputs_over n zero le = tt
outputs_over n (suc j) le =
    all_push (λ (e : Equation). IsOver 8 n e.body) (outputs_below n j) (output_at n j) (outputs_over n j (omega arith)) (omega arith)

-- ---- counts

sum_few : (f : Formula → ℕ) (es : List Equation) → AllByRecursion (λ (e : Equation). f e.body ≤ 1) es → sum_by (λ e. f e.body) es ≤ length es
sum_few f [] h = omega arith
sum_few f (e ∷ es) h = omega (arith, sum_by-cons (λ (x : Equation). f x.body) e es, h.0, sum_few f es h.1)

sum_none : (f : Formula → ℕ) (n j : ℕ) → ((k : ℕ) → f (Named k) ≡ 0) → sum_by (λ e. f e.body) (outputs_below n j) ≡ 0
sum_none f n zero h = refl
sum_none f n (suc j) h =
    omega (
      arith,
      sum_by-append (λ (x : Equation). f x.body) (outputs_below n j) (output_at n j ∷ []),
      sum_by-cons (λ (x : Equation). f x.body) (output_at n j) [],
      h (n - output_count n + j),
      sum_none f n j h,
    )

all_weaker : (P Q : Equation → Type 0) (es : List Equation) → ((e : Equation) → P e → Q e) → AllByRecursion P es → AllByRecursion Q es
all_weaker P Q [] h all = tt
all_weaker P Q (e ∷ es) h all = (h e all.0, all_weaker P Q es h all.1)

few_joins : (n : ℕ) → sum_by (λ e. joins e.body) (lets_below n n ++ outputs_below n (output_count n)) ≤ n
few_joins n =
    omega (
      arith,
      sum_by-append (λ (x : Equation). joins x.body) (lets_below n n) (outputs_below n (output_count n)),
      sum_few joins (lets_below n n) (all_weaker (λ (e : Equation). IsSmall e.body) (λ (e : Equation). joins e.body ≤ 1) (lets_below n n) (λ e h. h.joins_few) (lets_small n n)),
      sum_none joins n (output_count n) (λ k. refl),
      length_lets n n,
    )

few_delays : (n : ℕ) → sum_by (λ e. delays e.body) (lets_below n n ++ outputs_below n (output_count n)) ≤ n
few_delays n =
    omega (
      arith,
      sum_by-append (λ (x : Equation). delays x.body) (lets_below n n) (outputs_below n (output_count n)),
      sum_few delays (lets_below n n) (all_weaker (λ (e : Equation). IsSmall e.body) (λ (e : Equation). delays e.body ≤ 1) (lets_below n n) (λ e h. h.delays_few) (lets_small n n)),
      sum_none delays n (output_count n) (λ k. refl),
      length_lets n n,
    )

-- ---- spans

span_at : (m : ℕ) (spans : List ℕ) (j : ℕ) → AllByRecursion (λ s. s ≤ m) spans → slice_index_or spans j 0 ≤ m
span_at m [] j h = omega arith
span_at m (s ∷ spans) zero h = h.0
span_at m (s ∷ spans) (suc j) h = span_at m spans j h.1

operand_span : (m : ℕ) (spans : List ℕ) (number : ℕ) → AllByRecursion (λ s. s ≤ m) spans → span spans (operand number) ≤ m
operand_span m spans number h = operand_either (λ f. span spans f ≤ m) number (λ lt. omega arith) (λ le. span_at m spans (number - 8) h)

body_span : (m : ℕ) (spans : List ℕ) (s place : ℕ) → AllByRecursion (λ s. s ≤ m) spans → span spans (drawn_body s place) ≤ m + 3
body_span m spans s place h =
    kept_by_body (λ f. span spans f ≤ m + 3) s place (
      λ a b la lb. (
        omega (arith, operand_span m spans a h, operand_span m spans b h),
        omega (arith, operand_span m spans a h, operand_span m spans b h),
        omega (arith, operand_span m spans a h, operand_span m spans b h),
      ),
      λ a c la lc. omega (arith, operand_span m spans a h, lc),
    )

spans_push : (es : List Equation) (e : Equation) → let_spans (es ++ e ∷ []) ≡ let_spans es ++ span (let_spans es) e.body ∷ []
spans_push es e = fold-append (λ (spans : List ℕ) (x : Equation). spans ++ span spans x.body ∷ []) [] es (e ∷ [])

all_more : (l m : ℕ) (spans : List ℕ) → l ≤ m → AllByRecursion (λ s. s ≤ l) spans → AllByRecursion (λ s. s ≤ m) spans
all_more l m [] le h = tt
all_more l m (s ∷ spans) le h = (omega (arith, h.0, le), all_more l m spans le h.1)

lets_short : (n k : ℕ) → AllByRecursion (λ s. s ≤ 3 * k) (let_spans (lets_below n k))
lets_short n zero = tt
lets_short n (suc k) =
    let spans = let_spans (lets_below n k) in
    let before = lets_short n k in
    subst (AllByRecursion (λ s. s ≤ 3 * suc k)) (sym (spans_push (lets_below n k) (let_at n k)))
    (all_push (λ s. s ≤ 3 * suc k) spans (span spans (let_at n k).body) (all_more (3 * k) (3 * suc k) spans (omega arith) before)
    (omega (arith, body_span (3 * k) spans (state n (3 * k)) k before)))

outputs_short : (m n j : ℕ) (spans : List ℕ) → AllByRecursion (λ s. s ≤ m) spans → AllByRecursion (λ s. s ≤ m) (map (λ (e : Equation). span spans e.body) (outputs_below n j))
outputs_short m n zero spans h = tt
outputs_short m n (suc j) spans h =
    subst (AllByRecursion (λ s. s ≤ m)) (sym (map-append (λ (e : Equation). span spans e.body) (outputs_below n j) (output_at n j ∷ [])))
    (all_push (λ s. s ≤ m) (map (λ (e : Equation). span spans e.body) (outputs_below n j)) (span spans (output_at n j).body) (outputs_short m n j spans h) (span_at m spans (n - output_count n + j) h))

-- ---- names

names_of_lets : (n k : ℕ) → names_of (lets_below n k) ≡ names_below (codes "n") k
names_of_lets n zero = refl
names_of_lets n (suc k) = map-append (λ (e : Equation). e.name) (lets_below n k) (let_at n k ∷ []) ∙ ap (λ xs. xs ++ (let_at n k).name ∷ []) (names_of_lets n k)

names_of_outputs : (n j : ℕ) → names_of (outputs_below n j) ≡ names_below (codes "y") j
names_of_outputs n zero = refl
names_of_outputs n (suc j) = map-append (λ (e : Equation). e.name) (outputs_below n j) (output_at n j ∷ []) ∙ ap (λ xs. xs ++ (output_at n j).name ∷ []) (names_of_outputs n j)

-- ---- the network

pub is_network : (n : ℕ) → 1 ≤ n → n ≤ 16384 → IsNetwork (big_network n)
is_network n some few = record {
  some_input = omega arith;
  few_inputs = omega arith;
  some_output = omega (arith, length_outputs n (output_count n));
  few_outputs = omega (arith, length_outputs n (output_count n));
  input_names = port_names 105 8 refl (omega arith);
  let_names = ap (λ xs. list_all is_let_name xs) (names_of_lets n n) ∙ let_names 110 n refl (omega arith);
  output_names = ap (λ xs. list_all is_port_name xs) (names_of_outputs n (output_count n)) ∙ port_names 121 (output_count n) refl (omega arith);
  distinct = ap are_distinct (λ i. names_below (codes "i") 8 ++ names_of_lets n n i ++ names_of_outputs n (output_count n) i) ∙ all_distinct 8 n (output_count n) (omega arith) (omega arith) (omega arith);
  lets_over = lets_over n n;
  outputs_over = subst (λ k. AllByRecursion (λ (e : Equation). IsOver 8 k e.body) (outputs_below n (output_count n))) (sym (length_lets n n)) (outputs_over n (output_count n) (omega arith));
  few_joins = omega (arith, few_joins n, few);
  few_delays = omega (arith, few_delays n, few);
  shallow = all_append (λ (e : Equation). nesting e.body ≤ 64) (lets_below n n) (outputs_below n (output_count n))
      (all_weaker (λ (e : Equation). IsSmall e.body) (λ (e : Equation). nesting e.body ≤ 64) (lets_below n n) (λ e h. h.shallow) (lets_small n n))
      (all_weaker (λ (e : Equation). IsSmall e.body) (λ (e : Equation). nesting e.body ≤ 64) (outputs_below n (output_count n)) (λ e h. h.shallow) (outputs_small n (output_count n)));
  short_lets = all_more (3 * n) 1000000 (let_spans (lets_below n n)) (omega (arith, few)) (lets_short n n);
  short_outputs = outputs_short 1000000 n (output_count n) (let_spans (lets_below n n)) (all_more (3 * n) 1000000 (let_spans (lets_below n n)) (omega (arith, few)) (lets_short n n));
}
