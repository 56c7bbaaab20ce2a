-- Levels written to their places, and taken from them.
use Rattle.std.proofs.Common.{◌≡◌, ℕ, ◌+◌, ◌<◌, ◌≤◌, Bool, false, List, [], length, get_or, set, take, drop, refl, ap, ◌∙◌, sym, subst, inl, inr, arith, Some, get_or-set_same, get_or-set_other}
use Rattle.std.specs.Prelude.{slice_get}
use Rattle.std.proofs.lemmas.List.{length-set, same_lists, get_or_default, get_or-take, get_or-drop, length-drop, length-take-le}
use Rattle.std.proofs.lemmas.Bool.{cases_lt}
use Rattle.circuit.specs.Meaning.{State}
use Rattle.cycle_sim.specs.declared.operation.Places.{Places}
use Rattle.cycle_sim.specs.declared.operation.Tap.{Tap}
use Rattle.cycle_sim.specs.Operations.{at, free_place, AreLaid}

-- the first taps are made
pub record Loading (taps : List Tap) (s : State) (old values : List Bool) (count : ℕ) : Type 0 where
  pub long : length values ≡ length old
  pub tapped : (j : ℕ) (t : Tap) → j < count → slice_get taps j ≡ Some t → at values t.to ≡ get_or (get_or s.regs t.reg []) t.bit false
  pub rest : (p : ℕ) → ((j : ℕ) (t : Tap) → slice_get taps j ≡ Some t → p < t.to) → at values p ≡ at old p

pub loading_none : (taps : List Tap) (s : State) (old : List Bool) → Loading taps s old old 0
loading_none taps s old = record { long = refl; tapped = λ j t lt. absurd (omega arith); rest = λ p h. refl }

pub loading_on : (taps : List Tap) (s : State) (old values : List Bool) (k : ℕ) (t : Tap) →
    ((i j : ℕ) (u w : Tap) → slice_get taps i ≡ Some u → slice_get taps j ≡ Some w → u.to ≡ w.to → i ≡ j) →
    slice_get taps k ≡ Some t → t.to < length old → Loading taps s old values k →
    Loading taps s old (set values t.to (get_or (get_or s.regs t.reg []) t.bit false)) (k + 1)
loading_on taps s old values k t own there lt h =
    let v = get_or (get_or s.regs t.reg []) t.bit false in
    let same : at (set values t.to v) t.to ≡ v = get_or-set_same values t.to v false (omega (arith, lt, h.long)) in
    record {
      long = length-set values t.to v ∙ h.long;
      tapped = λ j u below here. elim (cases_lt j k) [
        | inl g ↦
            get_or-set_other values t.to u.to v false (λ e. let i = own j k u t here there e in absurd (omega arith))
            ∙ h.tapped j u g here
        | inr g ↦
            let i : j ≡ k = omega arith in
            let w : slice_get taps k ≡ Some u = subst (λ z. slice_get taps z ≡ Some u) i here in
            let e : t ≡ u = cc in
            subst (λ (z : Tap). at (set values t.to v) z.to ≡ get_or (get_or s.regs z.reg []) z.bit false) e same
      ];
      rest = λ p low. get_or-set_other values t.to p v false (λ e. let a = low k t there in absurd (omega (arith, e, a))) ∙ h.rest p low;
    }

-- a part of the values has the levels that it begins with
pub part_is : (values row : List Bool) (from count : ℕ) → from + count ≤ length values → length row ≡ count →
    ((i : ℕ) → i < count → at values (from + i) ≡ get_or row i false) → take count (drop from values) ≡ row
part_is values row from count room long same =
    let n : length (take count (drop from values)) ≡ count = length-take-le count (drop from values) (omega (arith, length-drop from values)) in
    same_lists (take count (drop from values)) row (n ∙ sym long) (λ k d lt.
    let l : k < count = omega (arith, n, lt) in
    get_or-take count (drop from values) k d l
    ∙ (get_or-drop from values k d ∙ (get_or_default values (from + k) d false (omega (arith, l, room)) ∙ (same k l ∙ get_or_default row k false d (omega (arith, l, long))))))

-- levels whose wires and outputs are taken from the places of a state are those of the state
pub stored : (places : Places) (s before after : State) (values : List Bool) (wires outs c d : ℕ) → wires ≡ 1 + places.inputs → outs ≡ 1 + places.inputs + places.wires →
    c ≡ places.wires → d ≡ places.outs → free_place places ≤ length values → AreLaid places s values → s.inputs ≡ before.inputs → s.regs ≡ before.regs →
    after ≡ record before { wires = take c (drop wires values); outs = take d (drop outs values) } → after ≡ s
stored places s before after values wires outs c d ew eo ec ed room laid inputs regs is =
    let w = part_is values s.wires (1 + places.inputs) places.wires (omega (arith, room)) laid.wire_count laid.wires in
    let o = part_is values s.outs (1 + places.inputs + places.wires) places.outs (omega (arith, room)) laid.out_count laid.outs in
    let w' : take c (drop wires values) ≡ s.wires = ap (λ z. take z (drop wires values)) ec ∙ (ap (λ z. take places.wires (drop z values)) ew ∙ w) in
    let o' : take d (drop outs values) ≡ s.outs = ap (λ z. take z (drop outs values)) ed ∙ (ap (λ z. take places.outs (drop z values)) eo ∙ o) in
    is ∙ (λ i. record { inputs = sym inputs i; regs = sym regs i; wires = w' i; outs = o' i })
