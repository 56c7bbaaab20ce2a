-- A cycle after which nothing changes.
use Rattle.std.proofs.Common.{◌≡◌, ℕ, zero, suc, ◌+◌, ◌<◌, Bool, true, false, List, [], ◌∷◌, length, get_or, take, replicate, refl, ap, ◌∙◌, sym, subst, arith, Some, None, if◌then◌else◌, map, IsSome}
use Rattle.std.proofs.lemmas.Option.{slice_get_within, slice_get-get_or}
use Rattle.circuit.specs.Circuit.{Circuit}
use Rattle.circuit.specs.Meaning.{State, level, IsSettled, IsNext, Follows}
use Rattle.levels.specs.Levels.{HasAllLevels}
use Rattle.cycle_sim.specs.Standing.{Standing, IsStep}
use Rattle.levels.specs.Marked.{IsUnmarked}
use Rattle.marked_steps.specs.UpToDate.{IsUpToDate}
use Rattle.marked_steps.proofs.Shifting.{rows_by, count_rows, take_same}

-- no register is marked: the state comes after itself
pub quiet_next : (m : Circuit) (s : State) (words : List ℕ) → HasAllLevels m s → IsUpToDate m s words → IsSettled m s →
    ((r : ℕ) → r < length m.regs → IsUnmarked words (length m.assigns + r)) → IsNext m s s s.inputs
quiet_next m s words levels up settled none = record {
  settled = settled;
  inputs_are = refl;
  regs_are =
      let count = count_rows m.regs s.regs levels.regs in
      rows_by s m.regs s.regs s.regs count count (λ r q there.
      let lt = slice_get_within m.regs r q there in
      let e : get_or s.regs r [] ≡ replicate q.width (level s q.next) =
      up.regs r q (get_or s.regs r []) there (slice_get-get_or s.regs r [] (omega arith)) (none r lt) in
      e ∙ (sym (take_same q.width (level s q.next)) ∙ ap (λ z. take q.width (level s q.next ∷ z)) (sym e)));
}

pub quiet_view : (v : Standing) (m : Circuit) (started : Bool) (levels s : State) → (let w : Standing = record { circuit = m; state = if started then Some levels else None } in w ≡ v) →
    started ≡ true → IsNext m levels levels levels.inputs → v.state ≡ Some s → IsNext v.circuit s s s.inputs
quiet_view v m started levels s view on next is =
    let c : m ≡ v.circuit = ap (λ (z : Standing). z.circuit) view in
    let b : (if started then Some levels else None) ≡ v.state = ap (λ (z : Standing). z.state) view in
    let t : (if started then Some levels else None) ≡ Some levels = ap (λ z. if z then Some levels else None) on in
    let e : Some levels ≡ Some s = sym t ∙ (b ∙ is) in
    let same : levels ≡ s = cc in
    subst (λ z. IsNext z s s s.inputs) c (subst (λ (z : State). IsNext m z z z.inputs) same next)

-- levels under new inputs
pub levels_under : (m : Circuit) (s s' : State) (inputs : List Bool) → HasAllLevels m s → length inputs ≡ length m.inputs → s' ≡ record s { inputs = inputs } → HasAllLevels m s'
levels_under m s s' inputs h long e = subst (λ z. HasAllLevels m z) (sym e) (record { inputs = long; regs = h.regs; rest = record { wires = h.rest.wires; outs = h.rest.outs } })

-- levels under new inputs, settled
pub levels_after : (m : Circuit) (s s' s'' : State) (inputs : List Bool) → HasAllLevels m s → length inputs ≡ length m.inputs → s' ≡ record s { inputs = inputs } →
    IsSettled m s'' → s''.inputs ≡ s'.inputs → s''.regs ≡ s'.regs → HasAllLevels m s''
levels_after m s s' s'' inputs h long e settled i r = record {
  inputs = ap (λ z. length z) (i ∙ ap (λ (z : State). z.inputs) e) ∙ long;
  regs = ap (λ z. map (λ row. length row) z) (r ∙ ap (λ (z : State). z.regs) e) ∙ h.regs;
  rest = record { wires = settled.wires; outs = settled.outs };
}

pub quiet_repeats : (m : Circuit) (s : State) (n : ℕ) → IsNext m s s s.inputs → Follows m s (replicate n s.inputs) (replicate n s)
quiet_repeats m s zero h = tt
quiet_repeats m s (suc n) h = (h, quiet_repeats m s n h)

-- a quiet simulation under the levels that its inputs have
pub quiet_step : (v : Standing) (m : Circuit) (started : Bool) (levels : State) (inputs : List Bool) → (let w : Standing = record { circuit = m; state = if started then Some levels else None } in w ≡ v) →
    started ≡ true → IsNext m levels levels levels.inputs → inputs ≡ levels.inputs → IsStep v.circuit v.state v.state inputs × IsSome v.state
quiet_step v m started levels inputs view on next same =
    let w : Standing = record { circuit = m; state = Some levels } in
    let t : w ≡ v = ap (λ z. let u : Standing = record { circuit = m; state = if z then Some levels else None } in u) (sym on) ∙ view in
    let step : IsNext m levels levels inputs = subst (λ z. IsNext m levels levels z) (sym same) next in
    subst (λ (z : Standing). IsStep z.circuit z.state z.state inputs × IsSome z.state) t (step, refl)

-- the state of a simulation that is in a cycle
pub levels_are : (v : Standing) (m : Circuit) (started : Bool) (levels s : State) → (let w : Standing = record { circuit = m; state = if started then Some levels else None } in w ≡ v) →
    v.state ≡ Some s → levels ≡ s
levels_are v m true levels s view is = let b : Some levels ≡ v.state = ap (λ (z : Standing). z.state) view in cc
levels_are v m false levels s view is = let b : None ≡ v.state = ap (λ (z : Standing). z.state) view in cc
