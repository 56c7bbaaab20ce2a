-- The assigns of the module of gates are in order.
use Rattle.std.proofs.Common.{◌≡◌, ℕ, zero, suc, ◌+◌, ◌-◌, ◌<◌, true, List, [], ◌∷◌, length, refl, get_or, ap, ◌∙◌, sym, subst, arith, Some, inl, inr, zero-add, length-append}
use Rattle.std.specs.Prelude.{slice_get, ◌⊎◌, codes}
use Rattle.std.proofs.lemmas.List.{length-map}
use Rattle.std.proofs.lemmas.Option.{slice_get_within, slice_get-get_or}
use Rattle.std.proofs.lemmas.Bool.{cases_lt, eqb-true, false≢true, or_cases}
use Rattle.circuit.specs.declared.bit.Target.{Target}
use Rattle.circuit.specs.declared.bit.Target.TheVariants as target
use Rattle.circuit.specs.Circuit.{Assignment, names_wire}
use Rattle.circuit.specs.Names.{numbered, numbered_name}
use Rattle.circuit.specs.Valid.{IsTarget, IsOrdered}
use Rattle.gate_lower.specs.declared.gates.Line.{Line}
use Rattle.gate_lower.specs.declared.gates.Line.TheVariants as line
use Rattle.gate_lower.specs.declared.gates.Gate.{Gate}
use Rattle.gate_lower.specs.declared.gates.Gate.TheVariants as gate
use Rattle.gate_lower.specs.Netlist.{Output, Netlist}
use Rattle.gate_lower.specs.Rules.{IsLine, HasLines, IsNetlist}
use Rattle.gate_lower.specs.Tapped.{operand, gate_logic, gate_assigns, output_assigns, tapped_module}
use Rattle.gate_lower.proofs.Gets.{get_left, get_right}
use Rattle.gate_lower.proofs.Generic.{some_is}
use Rattle.gate_lower.proofs.TappedForm.{register_at, gate_assign_at, output_assign_at, length_gate_assigns, length_output_assigns}

-- an operand names only a gate before n
names_operand : (g : Netlist) (n w : ℕ) (l : Line) → IsLine g n l → names_wire (operand l) w ≡ true → w < n
names_operand g n w line.Low h e = absurd (false≢true e)
names_operand g n w (line.Input i) h e = absurd (false≢true e)
names_operand g n w (line.Gate j) h e = let same : w ≡ j = eqb-true w j e in omega arith
names_operand g n w (line.Tap i c) h e = absurd (false≢true e)

names_gate : (g : Netlist) (n w r : ℕ) (q : Gate) → HasLines g n q → names_wire (gate_logic r q) w ≡ true → w < n
names_gate g n w r (gate.Or x y) h e = elim (or_cases (names_wire (operand x) w) (names_wire (operand y) w) e) [
  | inl p ↦ names_operand g n w x h.0 p
  | inr p ↦ names_operand g n w y h.1 p
]
names_gate g n w r (gate.And x y) h e = elim (or_cases (names_wire (operand x) w) (names_wire (operand y) w) e) [
  | inl p ↦ names_operand g n w x h.0 p
  | inr p ↦ names_operand g n w y h.1 p
]
names_gate g n w r (gate.Latch x y) h e = elim (or_cases (names_wire (operand x) w) (names_wire (operand y) w) e) [
  | inl p ↦ names_operand g n w x h.0 p
  | inr p ↦ names_operand g n w y h.1 p
]

pub length-numbered : (prefix : List ℕ) (n : ℕ) → length (numbered prefix n) ≡ n
length-numbered prefix zero = refl
length-numbered prefix (suc n) = omega (arith, length-append (numbered prefix n) (numbered_name prefix n ∷ []), length-numbered prefix n)

pub wire_inj : (i j : ℕ) → target.Wire i ≡ target.Wire j → i ≡ j
wire_inj i j e = cc

pub out_inj : (i j : ℕ) → target.Out i ≡ target.Out j → i ≡ j
out_inj i j e = cc

pub wire_out : (i j : ℕ) → target.Wire i ≡ target.Out j → ⊥
wire_out i j e = cc

module _ (g : Netlist) (ok : IsNetlist g) where
  abbrev pub first : ℕ
  first = length g.delays

  abbrev pub gate_assign : ℕ → Gate → Assignment
  gate_assign k q = record { target = target.Wire (0 + k); bit = gate_logic (register_at first g.gates k) q }

  abbrev pub out_assign : ℕ → Output → Assignment
  out_assign o l = record { target = target.Out (0 + o); bit = operand l.line }

  pub record OfGate (k : ℕ) (a : Assignment) : Type 0 where
    pub gate : Gate
    pub there : slice_get g.gates k ≡ Some gate
    pub is : gate_assign k gate ≡ a

  pub record OfOut (k : ℕ) (a : Assignment) : Type 0 where
    pub place : ℕ
    pub out : Output
    pub index : k ≡ length g.gates + place
    pub there : slice_get g.outputs place ≡ Some out
    pub is : out_assign place out ≡ a

  pub gate_there : (k : ℕ) (q : Gate) → slice_get g.gates k ≡ Some q → slice_get (tapped_module g).assigns k ≡ Some (gate_assign k q)
  gate_there k q e = get_left (gate_assigns 0 first g.gates) (output_assigns 0 g.outputs) k (gate_assign k q) (gate_assign_at 0 first g.gates k q e)

  pub out_there : (o : ℕ) (l : Output) → slice_get g.outputs o ≡ Some l → slice_get (tapped_module g).assigns (length g.gates + o) ≡ Some (out_assign o l)
  out_there o l e =
      let n : length g.gates + o ≡ length (gate_assigns 0 first g.gates) + o = omega (arith, length_gate_assigns 0 first g.gates) in
      ap (slice_get (tapped_module g).assigns) n ∙ (get_right (gate_assigns 0 first g.gates) (output_assigns 0 g.outputs) o ∙ output_assign_at 0 g.outputs o l e)

  pub which : (k : ℕ) (a : Assignment) → slice_get (tapped_module g).assigns k ≡ Some a → OfGate k a ⊎ OfOut k a
  which k a e = elim (cases_lt k (length g.gates)) [
    | inl w ↦
        let d : Gate = gate.Or line.Low line.Low in
        let there = slice_get-get_or g.gates k d w in
        inl (record { gate = get_or g.gates k d; there = there; is = some_is (gate_assign k (get_or g.gates k d)) a (sym (gate_there k (get_or g.gates k d) there) ∙ e) })
    | inr w ↦
        let o = k - length g.gates in
        let within = slice_get_within (tapped_module g).assigns k a e in
        let more : o < length g.outputs = omega (arith, length-append (gate_assigns 0 first g.gates) (output_assigns 0 g.outputs), length_gate_assigns 0 first g.gates, length_output_assigns 0 g.outputs, within) in
        let d : Output = record { name = []; line = line.Low } in
        let there = slice_get-get_or g.outputs o d more in
        let index : k ≡ length g.gates + o = omega arith in
        let here = out_there o (get_or g.outputs o d) there in
        let e' : slice_get (tapped_module g).assigns (length g.gates + o) ≡ Some a = ap (slice_get (tapped_module g).assigns) (sym index) ∙ e in
        inr (record { place = o; out = get_or g.outputs o d; index = index; there = there; is = some_is (out_assign o (get_or g.outputs o d)) a (sym here ∙ e') })
  ]

  pub target_in : (k : ℕ) (a : Assignment) → slice_get (tapped_module g).assigns k ≡ Some a → IsTarget (tapped_module g) a.target
  target_in k a e = elim (which k a e) [
    | inl h ↦ subst (λ z. IsTarget (tapped_module g) z.target) h.is (let w = slice_get_within g.gates k h.gate h.there in omega (arith, length-numbered (codes "w") (length g.gates), w))
    | inr h ↦ subst (λ z. IsTarget (tapped_module g) z.target) h.is (let w = slice_get_within g.outputs h.place h.out h.there in omega (arith, length-map g.outputs (λ (l : Output). l.name), w))
  ]

  once : (i j : ℕ) (a c : Assignment) → slice_get (tapped_module g).assigns i ≡ Some a → slice_get (tapped_module g).assigns j ≡ Some c → a.target ≡ c.target → i ≡ j
  once i j a c ei ej t = elim (which i a ei) [
    | inl h ↦ elim (which j c ej) [
      | inl u ↦ let e = ap (λ (z : Assignment). z.target) h.is ∙ (t ∙ sym (ap (λ (z : Assignment). z.target) u.is)) in
          let n : 0 + i ≡ 0 + j = wire_inj (0 + i) (0 + j) e in omega arith
      | inr u ↦ let e = ap (λ (z : Assignment). z.target) h.is ∙ (t ∙ sym (ap (λ (z : Assignment). z.target) u.is)) in absurd (wire_out (0 + i) (0 + u.place) e)
    ]
    | inr h ↦ elim (which j c ej) [
      | inl u ↦ let e = ap (λ (z : Assignment). z.target) h.is ∙ (t ∙ sym (ap (λ (z : Assignment). z.target) u.is)) in absurd (wire_out (0 + j) (0 + h.place) (sym e))
      | inr u ↦ let e = ap (λ (z : Assignment). z.target) h.is ∙ (t ∙ sym (ap (λ (z : Assignment). z.target) u.is)) in
          let n : 0 + h.place ≡ 0 + u.place = out_inj (0 + h.place) (0 + u.place) e in omega (arith, h.index, u.index)
    ]
  ]

  given : (t : Target) → IsTarget (tapped_module g) t → (k : ℕ) × (a : Assignment) × (slice_get (tapped_module g).assigns k ≡ Some a) × (a.target ≡ t)
  given (target.Wire w) h =
      let d : Gate = gate.Or line.Low line.Low in
      let there = slice_get-get_or g.gates w d (omega (arith, length-numbered (codes "w") (length g.gates))) in
      (w, gate_assign w (get_or g.gates w d), gate_there w (get_or g.gates w d) there, ap target.Wire (zero-add w))
  given (target.Out o) h =
      let d : Output = record { name = []; line = line.Low } in
      let there = slice_get-get_or g.outputs o d (omega (arith, length-map g.outputs (λ (l : Output). l.name))) in
      (length g.gates + o, out_assign o (get_or g.outputs o d), out_there o (get_or g.outputs o d) there, ap target.Out (zero-add o))

  -- the assign of a wire below k
  wire_given : (k w : ℕ) → w < length g.gates → w < k → (i : ℕ) × (c : Assignment) × (i < k) × (slice_get (tapped_module g).assigns i ≡ Some c) × (c.target ≡ target.Wire w)
  wire_given k w h lt =
      let d : Gate = gate.Or line.Low line.Low in
      let there = slice_get-get_or g.gates w d h in
      (w, gate_assign w (get_or g.gates w d), lt, gate_there w (get_or g.gates w d) there, ap target.Wire (zero-add w))

  earlier : (k : ℕ) (a : Assignment) → slice_get (tapped_module g).assigns k ≡ Some a → (w : ℕ) → names_wire a.bit w ≡ true →
      (i : ℕ) × (c : Assignment) × (i < k) × (slice_get (tapped_module g).assigns i ≡ Some c) × (c.target ≡ target.Wire w)
  earlier k a e w n = elim (which k a e) [
    | inl h ↦
        let n' : names_wire (gate_logic (register_at first g.gates k) h.gate) w ≡ true = ap (λ (z : Assignment). names_wire z.bit w) h.is ∙ n in
        let lt = names_gate g k w (register_at first g.gates k) h.gate (ok.gates k h.gate h.there) n' in
        let within = slice_get_within g.gates k h.gate h.there in
        wire_given k w (omega (arith, lt, within)) lt
    | inr h ↦
        let n' : names_wire (operand h.out.line) w ≡ true = ap (λ (z : Assignment). names_wire z.bit w) h.is ∙ n in
        let lt = names_operand g (length g.gates) w h.out.line (ok.outputs h.place h.out h.there) n' in
        wire_given k w lt (omega (arith, lt, h.index))
  ]

  pub is_ordered : IsOrdered (tapped_module g)
  is_ordered = record { targets = target_in; once = once; given = given; earlier = earlier }
