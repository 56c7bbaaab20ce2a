-- A simulation beside the times that are expected, with one more cycle, and what it shows in the end.
use Rattle.std.proofs.Common.{◌≡◌, ℕ, zero, suc, ◌+◌, ◌<◌, ◌≤◌, refl, ap, ◌∙◌, sym, subst, arith, Bool, true, false, ◌&&◌, length, List, [], ◌∷◌, ◌++◌, replicate, take, drop, length-append, Option, None, if◌then◌else◌}
use Rattle.std.specs.Prelude.{slice_index_or, IsSome}
use Rattle.std.proofs.Math.Bool.{beq}
use Rattle.rl_time.specs.declared.time.Time.{Time}
use Rattle.rl_time.specs.Time.{has_risen}
use Rattle.net_model.specs.Value.{time_at}
use Rattle.circuit.specs.Circuit.{Circuit}
use Rattle.circuit.specs.Meaning.{State, levels_at, levels_from}
use Rattle.cycle_sim.specs.Standing.{output_level, IsStep, Ran, RanOn}
use Rattle.rl_flow.specs.Compared.{count_below, has_levels, agrees}

-- after some cycles: the steps so far have made a history, and each output is marked where it agrees with its time
pub record HaveCompared (m : Circuit) (rises expected : List Time) (cycle : ℕ) (circuit : Circuit) (state : Option State) (levels marks : List Bool) : Type 0 where
  pub states : List State
  pub ran : Ran m (levels_from rises 0 cycle) states state
  pub count : length states ≡ cycle
  pub same_module : circuit ≡ m
  pub one_level_each : length levels ≡ length rises
  pub one_mark_each : length marks ≡ length expected
  pub marked : (out : ℕ) → out < length expected → slice_index_or marks out false ≡ agrees states expected out
  pub in_a_cycle : 1 ≤ cycle → IsSome state

all_marked : (n out : ℕ) → out < n → slice_index_or (replicate n true) out false ≡ true
all_marked zero out lt = absurd (omega arith)
all_marked (suc n) zero lt = refl
all_marked (suc n) (suc out) lt = all_marked n out (omega arith)

-- before cycle 0
pub none_compared : (m circuit : Circuit) (rises expected : List Time) (state : Option State) (levels marks : List Bool) → Ran m [] [] None → state ≡ None → circuit ≡ m →
    length levels ≡ length rises → marks ≡ replicate (length expected) true → length marks ≡ length expected → HaveCompared m rises expected 0 circuit state levels marks
none_compared m circuit rises expected state levels marks ran none same one_level marks_are one_mark = record {
  states = [];
  ran = subst (λ (s : Option State). Ran m [] [] s) (sym none) ran;
  count = refl;
  same_module = same;
  one_level_each = one_level;
  one_mark_each = one_mark;
  marked = λ out lt. ap (λ z. slice_index_or z out false) marks_are ∙ all_marked (length expected) out lt;
  in_a_cycle = λ le. absurd (omega arith);
}

and_assoc : (p q r : Bool) → (p && (q && r)) ≡ ((p && q) && r)
and_assoc true q r = refl
and_assoc false q r = refl

and_true : (p : Bool) → (p && true) ≡ p
and_true true = refl
and_true false = refl

-- one state more
levels_more : (cycle : ℕ) (states : List State) (s : State) (t : Time) (out : ℕ) →
    has_levels cycle (states ++ s ∷ []) t out ≡ (has_levels cycle states t out && beq (slice_index_or s.outs out false) (has_risen t (cycle + length states)))
levels_more cycle [] s t out =
    let here : cycle ≡ cycle + 0 = omega arith in
    and_true _ ∙ ap (λ z. beq (slice_index_or s.outs out false) (has_risen t z)) here
levels_more cycle (x ∷ states) s t out =
    let first = beq (slice_index_or x.outs out false) (has_risen t cycle) in
    let here : suc cycle + length states ≡ cycle + suc (length states) = omega arith in
    ap (λ z. first && z) (levels_more (suc cycle) states s t out)
    ∙ and_assoc first (has_levels (suc cycle) states t out) (beq (slice_index_or s.outs out false) (has_risen t (suc cycle + length states)))
    ∙ ap (λ z. (first && has_levels (suc cycle) states t out) && beq (slice_index_or s.outs out false) (has_risen t z)) here

-- one cycle more
pub more_compared : (m circuit circuit' : Circuit) (rises expected : List Time) (cycle : ℕ) (state state' : Option State) (levels levels' marks marks' : List Bool) →
    HaveCompared m rises expected cycle circuit state levels marks →
    ((us : List (List Bool)) (states : List State) (inputs : List Bool) (before after : Option State) → Ran m us states before → IsStep m before after inputs → RanOn m us states inputs after) →
    levels_from rises 0 (cycle + 1) ≡ levels_from rises 0 cycle ++ levels_at rises cycle ∷ [] →
    circuit' ≡ circuit → IsStep circuit state state' levels' → levels' ≡ levels_at rises cycle → length levels' ≡ length rises → IsSome state' → length marks' ≡ length marks →
    ((out : ℕ) → out < length expected → slice_index_or marks' out false ≡ (slice_index_or marks out false && beq (output_level state' out) (has_risen (time_at expected out) cycle))) →
    HaveCompared m rises expected (cycle + 1) circuit' state' levels' marks'
more_compared m circuit circuit' rises expected cycle state state' levels levels' marks marks' before grow levels_grow same step levels_are one_level some one_mark marks_are =
    let stepped : IsStep m state state' (levels_at rises cycle) = subst (λ (z : List Bool). IsStep m state state' z) levels_are (subst (λ (z : Circuit). IsStep z state state' levels') before.same_module step) in
    let on = grow (levels_from rises 0 cycle) before.states (levels_at rises cycle) state state' before.ran stepped in
    let s = on.0 in
    let now : cycle ≡ 0 + length before.states = omega (arith, before.count) in
    record {
      states = before.states ++ s ∷ [];
      ran = subst (λ (us : List (List Bool)). Ran m us (before.states ++ s ∷ []) state') (sym levels_grow) on.2;
      count = omega (arith, length-append before.states (s ∷ []), before.count);
      same_module = same ∙ before.same_module;
      one_level_each = one_level;
      one_mark_each = one_mark ∙ before.one_mark_each;
      marked = λ out lt.
          marks_are out lt
          ∙ ap (λ z. z && beq (output_level state' out) (has_risen (time_at expected out) cycle)) (before.marked out lt)
          ∙ ap (λ z. agrees before.states expected out && beq (output_level z out) (has_risen (time_at expected out) cycle)) on.1
          ∙ ap (λ z. agrees before.states expected out && beq (slice_index_or s.outs out false) (has_risen (time_at expected out) z)) now
          ∙ sym (levels_more 0 before.states s (time_at expected out) out);
      in_a_cycle = λ le. some;
    }

-- ---- counts

pub count_same : (p q : ℕ → Bool) (n : ℕ) → ((k : ℕ) → k < n → p k ≡ q k) → count_below p n ≡ count_below q n
count_same p q zero h = refl
count_same p q (suc n) h =
    ap (λ (b : Bool). if b then count_below p n + 1 else count_below p n) (h n (omega arith))
    ∙ ap (λ z. if q n then z + 1 else z) (count_same p q n (λ k lt. h k (omega arith)))

-- a Vec's items after a call that writes them all
pub rewritten : {X : Type 0} (n : ℕ) (old new : List X) → n ≡ length new → take n (new ++ drop (length new) old) ≡ new
rewritten n old new e = ap (λ k. take k (new ++ drop (length new) old)) e ∙ front new (drop (length new) old)
  where
    front : {X : Type 0} (xs ys : List X) → take (length xs) (xs ++ ys) ≡ xs
    front [] ys = refl
    front (x ∷ xs) ys = ap (λ z. x ∷ z) (front xs ys)
