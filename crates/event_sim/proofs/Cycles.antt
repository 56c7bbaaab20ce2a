-- Runs, cycle by cycle.
use Rattle.std.proofs.Common.{◌≡◌, ℕ, ◌+◌, ◌*◌, ◌<◌, ◌≤◌, Bool, true, false, List, [], ◌∷◌, ◌++◌, length, get_or, map, replicate, refl, ap, ◌∙◌, sym, subst, inl, inr, arith, append_assoc, ◌-◌, suc, zero}
use Rattle.std.proofs.lemmas.List.{length-map, length-replicate, length-append, replicate_more}
use Rattle.std.proofs.lemmas.Bool.{cases_lt}
use Rattle.std.proofs.Math.Nat.{mul-suc, mul-le-mul_right}
use Rattle.rl_time.specs.declared.time.Time.{Time}
use Rattle.rl_time.specs.Time.{has_risen}
use Rattle.circuit.specs.Circuit.{Circuit}
use Rattle.circuit.specs.Valid.{IsOrdered}
use Rattle.circuit.specs.Meaning.{State, HasLevels, IsSettled, Follows, IsHistory, levels_at, levels_from}
use Rattle.circuit.proofs.Settling.{Keeps}
use Rattle.levels.specs.Levels.{all_low}
use Rattle.levels.specs.Digits.{output_rows, with_digits}
use Rattle.levels.proofs.Grown.{levels_on, row_length, row_room, empty_are, rows_on}
use Rattle.event_sim.specs.Standing.{Standing, edge_after}
use Rattle.event_sim.specs.Passes.{IsRound, passes, ArePasses}
use Rattle.event_sim.specs.Runs.{RunsFrom, IsRun}
use Rattle.event_sim.proofs.Rounds.{quiet_settled, settled_quiet, passes_keep}
use Rattle.circuit.proofs.Settling.{keep_fits}

-- ---- runs are histories

keep : (m : Circuit) (ks : List ℕ) (s s' : State) (n : ℕ) → ArePasses m ks s s' n → Keeps s s'
keep m ks s s' n p = subst (λ z. Keeps s z) (sym p.state) (passes_keep m ks p.changing s)

passes_settled : (m : Circuit) → IsOrdered m → (ks : List ℕ) (s s' : State) (n : ℕ) → IsRound (length m.assigns) ks → HasLevels m s → ArePasses m ks s s' n → IsSettled m s'
passes_settled m ord ks s s' n round fits p =
    subst (λ z. IsSettled m z) (sym p.state)
    (quiet_settled m ord (passes m ks p.changing s) ks (keep_fits m s (passes m ks p.changing s) (passes_keep m ks p.changing s) fits) round p.rests.still)

run_follows : (m : Circuit) → IsOrdered m → (ks : List ℕ) (s : State) (us : List (List Bool)) (states : List State) (count : ℕ) → IsRound (length m.assigns) ks →
    HasLevels m s → RunsFrom m ks true s us states count → Follows m s us states
run_follows m ord ks s [] [] count round fits run = tt
run_follows m ord ks s [] (x ∷ states) count round fits run = absurd run
run_follows m ord ks s (u ∷ us) [] count round fits run = absurd run
run_follows m ord ks s (u ∷ us) (x ∷ states) count round fits (n, rest, total, first, more) =
    let settled = passes_settled m ord ks (edge_after m true s u) x n round (record { wires = fits.wires; outs = fits.outs }) first in
    let k = keep m ks (edge_after m true s u) x n first in (
      record { settled = settled; inputs_are = sym k.inputs; regs_are = sym k.regs },
      run_follows m ord ks x us states rest round (record { wires = settled.wires; outs = settled.outs }) more,
    )

pub run_history : (m : Circuit) → IsOrdered m → (ks : List ℕ) (us : List (List Bool)) (states : List State) (count : ℕ) → IsRound (length m.assigns) ks →
    IsRun m ks us states count → IsHistory m us states
run_history m ord ks [] [] count round run = tt
run_history m ord ks [] (x ∷ states) count round run = absurd run
run_history m ord ks (u ∷ us) [] count round run = absurd run
run_history m ord ks (u ∷ us) (x ∷ states) count round (n, rest, total, first, more) =
    let low : HasLevels m (edge_after m false (all_low m) u) = record { wires = length-replicate (length m.wires) false; outs = length-replicate (length m.outputs) false } in
    let settled = passes_settled m ord ks (edge_after m false (all_low m) u) x n round low first in
    let k = keep m ks (edge_after m false (all_low m) u) x n first in (
      record { settled = settled; inputs_are = sym k.inputs; regs_are = sym k.regs },
      run_follows m ord ks x us states rest round (record { wires = settled.wires; outs = settled.outs }) more,
    )

-- ---- one more cycle

-- from a state, through these states, to here
abbrev pub EndsAt : Bool → State → List State → Bool → State → Type 0
EndsAt started s [] started' s' = (started ≡ started') × (s ≡ s')
EndsAt started s (x ∷ states) started' s' = EndsAt true x states started' s'

ends_on : (started : Bool) (s : State) (states : List State) (x : State) → EndsAt started s (states ++ x ∷ []) true x
ends_on started s [] x = (refl, refl)
ends_on started s (y ∷ states) x = ends_on true y states x

runs_on : (m : Circuit) (ks : List ℕ) (started : Bool) (s : State) (us : List (List Bool)) (states : List State) (count : ℕ) (here : Bool) (now : State) (u : List Bool) (x : State) (n : ℕ) →
    RunsFrom m ks started s us states count → EndsAt started s states here now → ArePasses m ks (edge_after m here now u) x n →
    RunsFrom m ks started s (us ++ u ∷ []) (states ++ x ∷ []) (count + n)
runs_on m ks started s [] [] count here now u x n run (e, f) p =
    (n, 0, omega (arith, run), subst (λ z. ArePasses m ks (edge_after m z s u) x n) (sym e) (subst (λ z. ArePasses m ks (edge_after m here z u) x n) (sym f) p), refl)
runs_on m ks started s [] (y ∷ states) count here now u x n run ends p = absurd run
runs_on m ks started s (v ∷ us) [] count here now u x n run ends p = absurd run
runs_on m ks started s (v ∷ us) (y ∷ states) count here now u x n (k, rest, total, first, more) ends p =
    (k, rest + n, omega (arith, total), first, runs_on m ks true y us states rest here now u x n more ends p)

-- so many cycles of a run: the rows are the digits of its states, and each has room for all cycles
pub record HaveRun {V : Type 0} (items : V → List ℕ) (room : V → ℕ) (m : Circuit) (ks : List ℕ) (rises : List Time) (cycles cycle : ℕ)
    (here : Standing) (levels : List Bool) (rows : List V) (count : ℕ) : Type 0 where
  pub states : List State
  pub run : IsRun m ks (levels_from rises 0 cycle) states count
  pub ends : EndsAt false (all_low m) states here.started here.state
  pub settled : here.started ≡ true → IsSettled here.circuit here.state
  pub long : length states ≡ cycle
  pub same_module : here.circuit ≡ m
  pub one_level_each : length levels ≡ length rises
  pub digits : map (λ row. items row) rows ≡ output_rows (length m.outputs) states
  pub capacity : map (λ row. room row) rows ≡ replicate (length m.outputs) cycles
  pub few : count ≤ cycle * 17196781632

pub no_cycles : {V : Type 0} (items : V → List ℕ) (room : V → ℕ) (m : Circuit) (ks : List ℕ) (rises : List Time) (cycles : ℕ) (here : Standing) (levels : List Bool) (rows : List V) →
    here.circuit ≡ m → here.started ≡ false → here.state ≡ all_low m → length levels ≡ length rises → map (λ row. items row) rows ≡ replicate (length m.outputs) [] →
    map (λ row. room row) rows ≡ replicate (length m.outputs) cycles → HaveRun items room m ks rises cycles 0 here levels rows 0
no_cycles items room m ks rises cycles here levels rows same off low long empty capacity = record {
  states = [];
  run = refl;
  ends = (sym off, sym low);
  settled = λ on. absurd (cc);
  long = refl;
  same_module = same;
  one_level_each = long;
  digits = empty ∙ empty_are (length m.outputs);
  capacity = capacity;
  few = omega arith;
}

pub one_row_each : {V : Type 0} (items : V → List ℕ) (room : V → ℕ) (m : Circuit) (ks : List ℕ) (rises : List Time) (cycles cycle : ℕ) (here : Standing) (levels : List Bool) (rows : List V) (count : ℕ) →
    HaveRun items room m ks rises cycles cycle here levels rows count → length rows ≡ length m.outputs
one_row_each items room m ks rises cycles cycle here levels rows count h =
    sym (length-map rows (λ row. room row)) ∙ (ap (λ z. length z) h.capacity ∙ length-replicate (length m.outputs) cycles)

-- a row has room for the digits up to any cycle before the last one is done
pub has_room : {V : Type 0} (items : V → List ℕ) (room len : V → ℕ) (m : Circuit) (ks : List ℕ) (rises : List Time) (cycles cycle : ℕ) (here : Standing) (levels : List Bool) (rows : List V) (count : ℕ) →
    ((v : V) → len v ≡ length (items v)) → HaveRun items room m ks rises cycles cycle here levels rows count → (next : ℕ) → cycle ≤ next → next ≤ cycles → (k : ℕ) (d : V) → k < length rows →
    len (get_or rows k d) + (next - cycle) ≤ room (get_or rows k d)
has_room items room len m ks rises cycles cycle here levels rows count same h next low lt k d within = omega (
  arith,
  same (get_or rows k d),
  row_length items rows h.states 0 (length m.outputs) k d h.digits within,
  row_room room rows (length m.outputs) cycles k d h.capacity within,
  h.long,
  low,
  lt,
)

-- ---- cycles in which nothing changes

ends_many : (started : Bool) (s : State) (states : List State) (x : State) (n : ℕ) → EndsAt started s (states ++ replicate (suc n) x) true x
ends_many started s [] x zero = (refl, refl)
ends_many started s [] x (suc n) = ends_many true x [] x n
ends_many started s (y ∷ states) x n = ends_many true y states x n

more_states : (states : List State) (x : State) (n : ℕ) → (states ++ replicate n x) ++ x ∷ [] ≡ states ++ replicate (suc n) x
more_states states x n =
    append_assoc states (replicate n x) (x ∷ []) ∙ ap (λ z. states ++ z) (replicate_more n x ∙ (let e : n + 1 ≡ suc n = omega arith in ap (λ k. replicate k x) e))

-- passes from the state itself, while the inputs keep their levels
pub record Stays (m : Circuit) (ks : List ℕ) (rises : List Time) (cycle next : ℕ) (x : State) (n : ℕ) : Type 0 where
  pub inputs : (t : ℕ) → cycle ≤ t → t < next → levels_at rises t ≡ levels_at rises cycle
  pub still : cycle + 1 < next → ArePasses m ks (edge_after m true x (levels_at rises cycle)) x n

many_more : (m : Circuit) (ks : List ℕ) (rises : List Time) (cycle next : ℕ) (states : List State) (x : State) (count n : ℕ) → Stays m ks rises cycle next x n →
    IsRun m ks (levels_from rises 0 (cycle + 1)) (states ++ x ∷ []) (count + n) → (k : ℕ) → cycle + suc k ≤ next →
    IsRun m ks (levels_from rises 0 (cycle + suc k)) (states ++ replicate (suc k) x) (count + n * suc k)
many_more m ks rises cycle next states x count n stays first zero le =
    let one : n * 1 ≡ n = omega arith in
    subst (λ z. IsRun m ks (levels_from rises 0 (cycle + 1)) (states ++ x ∷ []) (count + z)) (sym one) first
many_more m ks rises cycle next states x count n stays first (suc k) le =
    let t = cycle + suc k in
    let before = many_more m ks rises cycle next states x count n stays first k (omega (arith, le)) in
    let passes : ArePasses m ks (edge_after m true x (levels_at rises t)) x n =
    subst (λ z. ArePasses m ks (edge_after m true x z) x n) (sym (stays.inputs t (omega arith) (omega (arith, le)))) (stays.still (omega (arith, le))) in
    let more = runs_on m ks false (all_low m) (levels_from rises 0 t) (states ++ replicate (suc k) x) (count + n * suc k) true x (levels_at rises t) x n before
    (ends_many false (all_low m) states x k) passes in
    let us : levels_from rises 0 t ++ levels_at rises t ∷ [] ≡ levels_from rises 0 (cycle + suc (suc k)) =
    sym (levels_on rises t) ∙ (let e : t + 1 ≡ cycle + suc (suc k) = omega arith in ap (levels_from rises 0) e) in
    let total : count + n * suc k + n ≡ count + n * suc (suc k) = let e = mul-suc n (suc k) in omega (arith, e) in
    subst (λ z. IsRun m ks z (states ++ replicate (suc (suc k)) x) (count + n * suc (suc k))) us
    (subst (λ z. IsRun m ks (levels_from rises 0 t ++ levels_at rises t ∷ []) z (count + n * suc (suc k))) (more_states states x (suc k))
    (subst (λ z. IsRun m ks (levels_from rises 0 t ++ levels_at rises t ∷ []) ((states ++ replicate (suc k) x) ++ x ∷ []) z) total more))

-- passes from a settled state leave it
still_there : (m : Circuit) (ks : List ℕ) (s old x : State) (n : ℕ) → s ≡ old → IsSettled m old → ArePasses m ks s x n → x ≡ old
still_there m ks s old x n e settled p =
    let none : p.changing ≡ 0 = elim (cases_lt 0 p.changing) [
      | inl w ↦ absurd (p.rests.first 0 w (settled_quiet m s ks (subst (λ z. IsSettled m z) (sym e) settled)))
      | inr w ↦ omega (arith, w)
    ] in
    p.state ∙ (ap (λ k. passes m ks k s) none ∙ e)

pub few_on : (count n cycle next : ℕ) → count ≤ cycle * 17196781632 → n ≤ 17196781632 → cycle < next → count + n * (next - cycle) ≤ next * 17196781632
few_on count n cycle next few small later =
    let le : n * (next - cycle) ≤ 17196781632 * (next - cycle) = mul-le-mul_right (next - cycle) small in
    omega (arith, le, few, later)

pub more_cycles : {V : Type 0} (items : V → List ℕ) (room : V → ℕ) (m : Circuit) (ks : List ℕ) (rises : List Time) (cycles cycle next : ℕ) (here edge after : Standing) (levels levels' : List Bool) (rows rows' : List V) (count n : ℕ) (changes : Bool) →
    HaveRun items room m ks rises cycles cycle here levels rows count → cycle < next → ((t : ℕ) → cycle ≤ t → t < next → levels_at rises t ≡ levels_at rises cycle) →
    (cycle + 1 < next → changes ≡ false) → (changes ≡ false → (here.started ≡ true) × (edge.state ≡ here.state)) → levels' ≡ levels_at rises cycle →
    edge.circuit ≡ here.circuit → edge.state ≡ edge_after here.circuit here.started here.state levels' → edge.started ≡ true →
    after.circuit ≡ edge.circuit → after.started ≡ edge.started → ArePasses edge.circuit ks edge.state after.state n → IsSettled edge.circuit after.state → n ≤ 17196781632 →
    map (λ row. items row) rows' ≡ with_digits after.state.outs (next - cycle) 0 (map (λ row. items row) rows) → map (λ row. room row) rows' ≡ map (λ row. room row) rows →
    HaveRun items room m ks rises cycles next after levels' rows' (count + n * (next - cycle))
more_cycles items room m ks rises cycles cycle next here edge after levels levels' rows rows' count n changes h later calm long_only still at ec es eo ac ao p settled few digits capacity =
    let module_is : edge.circuit ≡ m = ec ∙ h.same_module in
    let x = after.state in
    let p1 : ArePasses m ks edge.state x n = subst (λ z. ArePasses z ks edge.state x n) module_is p in
    let state : edge.state ≡ edge_after m here.started here.state (levels_at rises cycle) =
    es ∙ (ap (λ z. edge_after z here.started here.state levels') h.same_module ∙ ap (λ z. edge_after m here.started here.state z) at) in
    let p2 : ArePasses m ks (edge_after m here.started here.state (levels_at rises cycle)) x n = subst (λ z. ArePasses m ks z x n) state p1 in
    let run = runs_on m ks false (all_low m) (levels_from rises 0 cycle) h.states count here.started here.state (levels_at rises cycle) x n h.run h.ends p2 in
    let first : IsRun m ks (levels_from rises 0 (cycle + 1)) (h.states ++ x ∷ []) (count + n) = subst (λ z. IsRun m ks z (h.states ++ x ∷ []) (count + n)) (sym (levels_on rises cycle)) run in
    let stays : Stays m ks rises cycle next x n = record {
      inputs = calm;
      still = λ far.
          let s = still (long_only far) in
          let old_settled : IsSettled m here.state = subst (λ z. IsSettled z here.state) h.same_module (h.settled s.0) in
          let same : x ≡ here.state = still_there m ks edge.state here.state x n s.1 old_settled p1 in
          let moved : edge_after m here.started here.state (levels_at rises cycle) ≡ edge_after m true x (levels_at rises cycle) =
          ap (λ z. edge_after m z here.state (levels_at rises cycle)) s.0 ∙ ap (λ z. edge_after m true z (levels_at rises cycle)) (sym same) in
          subst (λ z. ArePasses m ks z x n) moved p2;
    } in
    let k = next - cycle - 1 in
    let size : suc k ≡ next - cycle = omega (arith, later) in
    let end : cycle + suc k ≡ next = omega (arith, later) in
    let all = many_more m ks rises cycle next h.states x count n stays first k (omega (arith, end)) in
    record {
      states = h.states ++ replicate (next - cycle) x;
      run = subst (λ z. IsRun m ks (levels_from rises 0 next) (h.states ++ replicate z x) (count + n * z)) size
          (subst (λ z. IsRun m ks (levels_from rises 0 z) (h.states ++ replicate (suc k) x) (count + n * suc k)) end all);
      ends = subst (λ z. EndsAt false (all_low m) (h.states ++ replicate z x) after.started x) size
          (subst (λ z. EndsAt false (all_low m) (h.states ++ replicate (suc k) x) z x) (sym (ao ∙ eo)) (ends_many false (all_low m) h.states x k));
      settled = λ on. subst (λ z. IsSettled z x) (sym ac) settled;
      long = omega (arith, length-append h.states (replicate (next - cycle) x), length-replicate (next - cycle) x, h.long, later);
      same_module = ac ∙ module_is;
      one_level_each = ap (λ z. length z) at ∙ length-map rises (λ a. has_risen a cycle);
      digits = digits ∙ (ap (λ z. with_digits x.outs (next - cycle) 0 z) h.digits ∙ rows_on (length m.outputs) h.states x (next - cycle));
      capacity = capacity ∙ h.capacity;
      few = few_on count n cycle next h.few few later;
    }

pub spanned : {V : Type 0} (items : V → List ℕ) (room : V → ℕ) (m : Circuit) (ks : List ℕ) (rises : List Time) (cycles next : ℕ) (here : Standing) (levels : List Bool) (rows : List V) (count n a b : ℕ) →
    a ≡ b → HaveRun items room m ks rises cycles next here levels rows (count + n * b) → HaveRun items room m ks rises cycles next here levels rows (count + n * a)
spanned items room m ks rises cycles next here levels rows count n a b e h = subst (λ z. HaveRun items room m ks rises cycles next here levels rows (count + n * z)) (sym e) h
