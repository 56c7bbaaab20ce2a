-- The level of an expression depends on the inputs, the registers and the wires that it names.
use Rattle.std.proofs.Common.{◌≡◌, ℕ, Bool, true, false, [], refl, ap, ◌∙◌, eq-eqb}
use Rattle.std.specs.Prelude.{not, ◌&&◌, ◌||◌, slice_index_or}
use Rattle.circuit.specs.Circuit.{Logic, Zero, One, Input, Wire, Reg, Not, And, Or, names_wire}
use Rattle.circuit.specs.Meaning.{State, level}

or_left : (p q : Bool) → p ≡ true → (p || q) ≡ true
or_left p q h = ap (λ v. v || q) h

or_right : (p q : Bool) → q ≡ true → (p || q) ≡ true
or_right true q h = refl
or_right false q h = h

-- the states agree on the wires that the expression names
abbrev pub AgreesOn : State → State → Logic → Type 0
AgreesOn s s' e = (w : ℕ) → names_wire e w ≡ true → slice_index_or s.wires w false ≡ slice_index_or s'.wires w false

pub level_same : (s s' : State) → s.inputs ≡ s'.inputs → s.regs ≡ s'.regs → (e : Logic) → AgreesOn s s' e → level s e ≡ level s' e
level_same s s' hi hr Zero h = refl
level_same s s' hi hr One h = refl
level_same s s' hi hr (Input i) h = ap (λ l. slice_index_or l i false) hi
level_same s s' hi hr (Wire w) h = h w (eq-eqb w w refl)
level_same s s' hi hr (Reg r k) h = ap (λ l. slice_index_or (slice_index_or l r []) k false) hr
level_same s s' hi hr (Not x) h = ap not (level_same s s' hi hr x h)
level_same s s' hi hr (And x y) h =
    let ex = level_same s s' hi hr x (λ w n. h w (or_left (names_wire x w) (names_wire y w) n)) in
    let ey = level_same s s' hi hr y (λ w n. h w (or_right (names_wire x w) (names_wire y w) n)) in
    ap (λ v. v && level s y) ex ∙ ap (λ v. level s' x && v) ey
level_same s s' hi hr (Or x y) h =
    let ex = level_same s s' hi hr x (λ w n. h w (or_left (names_wire x w) (names_wire y w) n)) in
    let ey = level_same s s' hi hr y (λ w n. h w (or_right (names_wire x w) (names_wire y w) n)) in
    ap (λ v. v || level s y) ex ∙ ap (λ v. level s' x || v) ey
