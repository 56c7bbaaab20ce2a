-- No value is later than the latest input by more than its span, so the sums of a network stay within 64 bits.
use Rattle.std.proofs.Common.{◌≡◌, ℕ, zero, suc, ◌+◌, ◌≤◌, ◌<◌, ◌^◌, Bool, true, false, cond, ltb, List, [], ◌∷◌, ◌++◌, length, take, drop, get_or, map, sym, ap, subst, ◌∙◌, arith, drop-cons}
use Rattle.std.specs.Prelude.{slice_index_or, fold}
use Rattle.std.specs.List.{All, AllByRecursion}
use Rattle.std.proofs.lemmas.List.{take-append-drop}
use Rattle.std.proofs.lemmas.List.Sums.{fold-append}
use Rattle.std.proofs.lemmas.List.Elements.{All-from_recursion, recursion_from_All}
use Rattle.rl_time.specs.declared.time.Time.{Time}
use Rattle.rl_time.specs.declared.time.Time.TheVariants as time
use Rattle.rl_time.specs.Time.{time_min, time_max, time_lt, time_inc, HasRoom}
use Rattle.net_model.specs.Formula.{Formula, Never, Input, Named, Min, Max, Lt, Inc, Equation}
use Rattle.net_model.specs.Rules.{span, let_spans}
use Rattle.net_model.specs.Value.{time_at, value, let_values}
use Rattle.net_model.specs.Early.{IsAtMost, AreEarly}
use Rattle.spike_eval.specs.Room.{FormulaHasRoom}

-- the latest time of an input
abbrev pub latest : ℕ
latest = 1000000000000

abbrev pub AreShort : List ℕ → Type 0
AreShort spans = AllByRecursion (λ s. s ≤ 1000000) spans

at_most-le : (a : Time) (m n : ℕ) → m ≤ n → IsAtMost m a → IsAtMost n a
at_most-le time.Never m n le h = tt
at_most-le (time.At a) m n le h = omega (arith, le, h)

min-at_most : (a b : Time) (n : ℕ) → IsAtMost n a → IsAtMost n b → IsAtMost n (time_min a b)
min-at_most time.Never b n p q = q
min-at_most (time.At a) time.Never n p q = p
min-at_most (time.At a) (time.At b) n p q = omega (arith, p, q)

max-at_most : (a b : Time) (n : ℕ) → IsAtMost n a → IsAtMost n b → IsAtMost n (time_max a b)
max-at_most time.Never b n p q = tt
max-at_most (time.At a) time.Never n p q = tt
max-at_most (time.At a) (time.At b) n p q = omega (arith, p, q)

kept : (test : Bool) (a n : ℕ) → a ≤ n → IsAtMost n (cond test (time.At a) time.Never)
kept true a n h = h
kept false a n h = tt

lt-at_most : (a b : Time) (n : ℕ) → IsAtMost n a → IsAtMost n (time_lt a b)
lt-at_most time.Never b n p = tt
lt-at_most (time.At a) time.Never n p = p
lt-at_most (time.At a) (time.At b) n p = kept (ltb a b) a n p

inc-at_most : (a : Time) (n c : ℕ) → IsAtMost n a → IsAtMost (n + c) (time_inc a c)
inc-at_most time.Never n c p = tt
inc-at_most (time.At a) n c p = omega (arith, p)

input-at_most : (x : List Time) (i : ℕ) → AllByRecursion (IsAtMost latest) x → IsAtMost latest (time_at x i)
input-at_most [] i h = tt
input-at_most (a ∷ x) zero h = h.0
input-at_most (a ∷ x) (suc i) h = input-at_most x i h.1

-- each time is at most its span later than the latest input
abbrev pub AreLate : List ℕ → List Time → Type 0
AreLate [] [] = Unit {0}
AreLate (s ∷ spans) (t ∷ times) = IsAtMost (latest + s) t × AreLate spans times
AreLate [] (t ∷ times) = ⊥
AreLate (s ∷ spans) [] = ⊥

let-at_most : (spans : List ℕ) (times : List Time) (j : ℕ) → AreLate spans times → IsAtMost (latest + slice_index_or spans j 0) (time_at times j)
let-at_most [] [] j h = tt
let-at_most [] (t ∷ times) j h = absurd h
let-at_most (s ∷ spans) [] j h = absurd h
let-at_most (s ∷ spans) (t ∷ times) zero h = h.0
let-at_most (s ∷ spans) (t ∷ times) (suc j) h = let-at_most spans times j h.1

late-push : (spans : List ℕ) (times : List Time) (s : ℕ) (t : Time) → AreLate spans times → IsAtMost (latest + s) t → AreLate (spans ++ s ∷ []) (times ++ t ∷ [])
late-push [] [] s t h p = (p, tt)
late-push [] (u ∷ times) s t h p = absurd h
late-push (r ∷ spans) [] s t h p = absurd h
late-push (r ∷ spans) (u ∷ times) s t h p = (h.0, late-push spans times s t h.1 p)

has_room : (a : Time) (n c : ℕ) → IsAtMost n a → n + c < 2 ^ 64 → HasRoom a c
has_room time.Never n c p h = tt
has_room (time.At a) n c p h = omega (arith, p, h)

module _ (x : List Time) (early : AllByRecursion (IsAtMost latest) x) where
  module _ (spans : List ℕ) (times : List Time) (late : AreLate spans times) where
    value-at_most : (t : Formula) → IsAtMost (latest + span spans t) (value x times t)
    value-at_most Never = tt
    value-at_most (Input i) = at_most-le (time_at x i) latest (latest + 0) (omega arith) (input-at_most x i early)
    value-at_most (Named j) = let-at_most spans times j late
    value-at_most (Min a b) = min-at_most (value x times a) (value x times b) (latest + span spans (Min a b)) (at_most-le _ (latest + span spans a) _ (omega arith) (value-at_most a)) (at_most-le _ (latest + span spans b) _ (omega arith) (value-at_most b))
    value-at_most (Max a b) = max-at_most (value x times a) (value x times b) (latest + span spans (Max a b)) (at_most-le _ (latest + span spans a) _ (omega arith) (value-at_most a)) (at_most-le _ (latest + span spans b) _ (omega arith) (value-at_most b))
    value-at_most (Lt a b) = lt-at_most (value x times a) (value x times b) (latest + span spans (Lt a b)) (at_most-le _ (latest + span spans a) _ (omega arith) (value-at_most a))
    value-at_most (Inc a c) = at_most-le _ (latest + span spans a + c) _ (omega arith) (inc-at_most (value x times a) (latest + span spans a) c (value-at_most a))

    formula_has_room : (t : Formula) → span spans t ≤ 1000000 → FormulaHasRoom x times t
    formula_has_room Never h = tt
    formula_has_room (Input i) h = tt
    formula_has_room (Named j) h = tt
    formula_has_room (Min a b) h = (formula_has_room a (omega (arith, h)), formula_has_room b (omega (arith, h)))
    formula_has_room (Max a b) h = (formula_has_room a (omega (arith, h)), formula_has_room b (omega (arith, h)))
    formula_has_room (Lt a b) h = (formula_has_room a (omega (arith, h)), formula_has_room b (omega (arith, h)))
    formula_has_room (Inc a c) h = (formula_has_room a (omega (arith, h)), has_room (value x times a) (latest + span spans a) c (value-at_most a) (omega (arith, h)))

    each_has_room : (es : List Equation) → AreShort (map (λ e. span spans e.body) es) → AllByRecursion (λ e. FormulaHasRoom x times e.body) es
    each_has_room [] h = tt
    each_has_room (e ∷ es) h = (formula_has_room e.body h.0, each_has_room es h.1)

  late_lets : (spans : List ℕ) (times : List Time) → AreLate spans times → (es : List Equation) →
      AreLate (fold (λ spans e. spans ++ span spans e.body ∷ []) spans es) (fold (λ times e. times ++ value x times e.body ∷ []) times es)
  late_lets spans times late [] = late
  late_lets spans times late (e ∷ es) =
      late_lets (spans ++ span spans e.body ∷ []) (times ++ value x times e.body ∷ [])
      (late-push spans times _ _ late (value-at_most spans times late e.body)) es

last_is_short : (spans : List ℕ) (s : ℕ) → AreShort (spans ++ s ∷ []) → s ≤ 1000000
last_is_short [] s h = h.0
last_is_short (r ∷ spans) s h = last_is_short spans s h.1

front_is_short : (spans : List ℕ) (s : ℕ) → AreShort (spans ++ s ∷ []) → AreShort spans
front_is_short [] s h = tt
front_is_short (r ∷ spans) s h = (h.0, front_is_short spans s h.1)

first_are_short : (spans : List ℕ) (es : List Equation) → AreShort (fold (λ spans e. spans ++ span spans e.body ∷ []) spans es) → AreShort spans
first_are_short spans [] h = h
first_are_short spans (e ∷ es) h = front_is_short spans (span spans e.body) (first_are_short (spans ++ span spans e.body ∷ []) es h)

pub let_is_short : (before after : List Equation) (e : Equation) → AreShort (let_spans (before ++ e ∷ after)) → span (let_spans before) e.body ≤ 1000000
let_is_short before after e h =
    let split = fold-append (λ (spans : List ℕ) (e : Equation). spans ++ span spans e.body ∷ []) [] before (e ∷ after) in
    last_is_short (let_spans before) _ (first_are_short _ after (subst AreShort split h))

-- the let at place i has room at the times of the lets before it
pub let_has_room : (x : List Time) (lets : List Equation) (i : ℕ) (e : Equation) → i < length lets → e ≡ get_or lets i e → AreEarly x → AreShort (let_spans lets) →
    FormulaHasRoom x (let_values x (take i lets)) e.body
let_has_room x lets i e lt is early short =
    let here : drop i lets ≡ e ∷ drop (suc i) lets = drop-cons lets i e lt ∙ ap (λ (d : Equation). d ∷ drop (suc i) lets) (sym is) in
    let split : lets ≡ take i lets ++ e ∷ drop (suc i) lets = sym (take-append-drop i lets) ∙ ap (λ (es : List Equation). take i lets ++ es) here in
    let early' = recursion_from_All (IsAtMost latest) x early in
    formula_has_room x early' (let_spans (take i lets)) (let_values x (take i lets)) (late_lets x early' [] [] tt (take i lets)) e.body
    (let_is_short (take i lets) (drop (suc i) lets) e (subst (λ (es : List Equation). AreShort (let_spans es)) split short))

-- each output has room at the times of the lets
pub outputs_have_room : (x : List Time) (lets outputs : List Equation) → AreEarly x → AreShort (map (λ e. span (let_spans lets) e.body) outputs) →
    All (λ e. FormulaHasRoom x (let_values x lets) e.body) outputs
outputs_have_room x lets outputs early short =
    let early' = recursion_from_All (IsAtMost latest) x early in
    All-from_recursion (λ (e : Equation). FormulaHasRoom x (let_values x lets) e.body) outputs
    (each_has_room x early' (let_spans lets) (let_values x lets) (late_lets x early' [] [] tt lets) outputs short)
