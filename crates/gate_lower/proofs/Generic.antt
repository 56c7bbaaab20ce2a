-- Time against level, for any module in which each delay and each latch has its register.
use Rattle.std.proofs.Common.{◌≡◌, ℕ, zero, suc, ◌+◌, ◌-◌, ◌<◌, ◌≤◌, Bool, false, List, [], ◌∷◌, length, get_or, map, replicate, refl, ap, ◌∙◌, sym, subst, inl, inr, arith, Some}
use Rattle.std.specs.Prelude.{slice_get, not, ◌&&◌, ◌||◌}
use Rattle.std.proofs.Math.ListN.{get_or-map}
use Rattle.std.proofs.lemmas.List.{length-map, get_or-take, get_or_past, get_or-replicate, length-replicate}
use Rattle.std.proofs.lemmas.Bool.{cases_lt}
use Rattle.std.proofs.lemmas.Option.{slice_get_within, slice_get-get_or}
use Rattle.rl_time.specs.declared.time.Time.{Time}
use Rattle.rl_time.specs.declared.time.Time.TheVariants.{Never}
use Rattle.rl_time.specs.Time.{time_lt, time_inc, has_risen}
use Rattle.circuit.specs.Circuit.{Logic, Circuit, Register}
use Rattle.circuit.specs.Circuit as b
use Rattle.circuit.specs.Meaning.{State, level, IsSettled, row_after, rows_after, row_at_start, Follows, IsHistory, levels_at, levels_from}
use Rattle.gate_lower.specs.declared.gates.Line.{Line}
use Rattle.gate_lower.specs.declared.gates.Line.TheVariants as line
use Rattle.gate_lower.specs.declared.gates.Gate.{Gate}
use Rattle.gate_lower.specs.declared.gates.Gate.TheVariants as gate
use Rattle.gate_lower.specs.declared.gates.Delay.{Delay}
use Rattle.gate_lower.specs.Netlist.{Output, Netlist}
use Rattle.gate_lower.specs.Rules.{IsLine, HasLines, IsNetlist}
use Rattle.gate_lower.specs.Timing.{line_time, gate_time, IsTiming, IsRightAt, TimeIsLevel}
use Rattle.gate_lower.specs.Tapped.{operand, gate_logic, register_name, delay_register}
use Rattle.gate_lower.proofs.Risen.{risen_min, risen_max, risen_lt, risen_inc-suc, risen_inc-start, time_inc-zero}

pub some_is : {A : Type 0} (x y : A) → Some x ≡ Some y → x ≡ y
some_is x y h = cc

-- bit k of register r
abbrev pub row_bit : List (List Bool) → ℕ → ℕ → Bool
row_bit rows r k = get_or (get_or rows r []) k false

-- a bit of a register after an edge
pub row_bit_after : (s : State) (regs : List Register) (rows : List (List Bool)) (r k : ℕ) (reg : Register) → slice_get regs r ≡ Some reg → length rows ≡ length regs → k < reg.width →
    row_bit (rows_after s regs rows) r k ≡ get_or (level s reg.next ∷ get_or rows r []) k false
row_bit_after s [] rows r k reg e l w = (cc)
row_bit_after s (p ∷ ps) [] r k reg e l w = absurd (omega arith)
row_bit_after s (p ∷ ps) (row ∷ rows) zero k reg e l w =
    subst (λ z. get_or (row_after s p row) k false ≡ get_or (level s z.next ∷ row) k false) (some_is p reg e)
    (get_or-take p.width (level s p.next ∷ row) k false (subst (λ z. k < z.width) (sym (some_is p reg e)) w))
row_bit_after s (p ∷ ps) (row ∷ rows) (suc r) k reg e l w = row_bit_after s ps rows r k reg e (omega arith) w

pub length_rows_after : (s : State) (regs : List Register) (rows : List (List Bool)) → length rows ≡ length regs → length (rows_after s regs rows) ≡ length regs
length_rows_after s [] rows l = refl
length_rows_after s (p ∷ ps) [] l = absurd (omega arith)
length_rows_after s (p ∷ ps) (row ∷ rows) l = ap suc (length_rows_after s ps rows (omega arith))

-- a bit of a register at the beginning
pub row_bit_start : (regs : List Register) (r k : ℕ) → row_bit (map row_at_start regs) r k ≡ false
row_bit_start [] r k = refl
row_bit_start (p ∷ ps) zero k = elim (cases_lt k p.width) [
  | inl w ↦ get_or-replicate p.width k false false w
  | inr w ↦ get_or_past (replicate p.width false) k false (omega (arith, length-replicate p.width false))
]
row_bit_start (p ∷ ps) (suc r) k = row_bit_start ps r k

-- the register of latch k takes its wire
abbrev pub latched : ℕ → ℕ → Register
latched h k = record { name = register_name h; width = 1; next = b.Wire k }

-- the registers of s' are those after an edge from s
pub record Edge (m : Circuit) (s s' : State) : Type 0 where
  pub many : length s.regs ≡ length m.regs
  pub after : s'.regs ≡ rows_after s m.regs s.regs

-- what is where in a module of the gates: the register of latch k has the number `held k`
pub record Realises (g : Netlist) (m : Circuit) (held : ℕ → ℕ) : Type 0 where
  pub wire : (k : ℕ) (q : Gate) → slice_get g.gates k ≡ Some q → (s : State) → IsSettled m s → get_or s.wires k false ≡ level s (gate_logic (held k) q)
  pub out : (o : ℕ) (l : Output) → slice_get g.outputs o ≡ Some l → (s : State) → IsSettled m s → get_or s.outs o false ≡ level s (operand l.line)
  pub delay : (n : ℕ) (d : Delay) → slice_get g.delays n ≡ Some d → slice_get m.regs n ≡ Some (delay_register n d)
  pub latch : (k : ℕ) (p q : Line) → slice_get g.gates k ≡ Some (gate.Latch p q) → slice_get m.regs (held k) ≡ Some (latched (held k) k)

module _ (g : Netlist) (ok : IsNetlist g) (m : Circuit) (held : ℕ → ℕ) (real : Realises g m held) (x : List Time) (gt dt : ℕ → Time) (tm : IsTiming g x gt dt) where
  record RegistersRight (t : ℕ) (s : State) : Type 0 where
    many : length s.regs ≡ length m.regs
    delays : (n c : ℕ) (d : Delay) → slice_get g.delays n ≡ Some d → c < d.width → level s (b.Reg n c) ≡ has_risen (time_inc (dt n) (suc c)) t
    latches : (k : ℕ) (p q : Line) → slice_get g.gates k ≡ Some (gate.Latch p q) → level s (b.Reg (held k) 0) ≡ has_risen (time_inc (gt k) 1) t

  -- a state of the history in cycle t
  record Good (t : ℕ) (s : State) : Type 0 where
    settled : IsSettled m s
    inputs : s.inputs ≡ levels_at x t
    regs : RegistersRight t s

  record WiresBelow (n t : ℕ) (s : State) : Type 0 where
    by : (k : ℕ) → k < n → k < length g.gates → get_or s.wires k false ≡ has_risen (gt k) t

  module _ (t : ℕ) (s : State) (good : Good t s) where
    line_right : (n : ℕ) → n ≤ length g.gates → WiresBelow n t s → (l : Line) → IsLine g n l → level s (operand l) ≡ has_risen (line_time x gt dt l) t
    line_right n le w line.Low h = refl
    line_right n le w (line.Input i) h = ap (λ z. get_or z i false) good.inputs ∙ get_or-map (λ a. has_risen a t) x i Never
    line_right n le w (line.Gate j) h = w.by j h (omega arith)
    line_right n le w (line.Tap i c) h =
        let e : suc (c - 1) ≡ c = omega (arith, h.2) in
        good.regs.delays i (c - 1) h.0 h.1 (omega (arith, h.2, h.3)) ∙ ap (λ z. has_risen (time_inc (dt i) z) t) e

    bit_right : (k : ℕ) (q : Gate) → k ≤ length g.gates → WiresBelow k t s → slice_get g.gates k ≡ Some q → HasLines g k q →
        level s (gate_logic (held k) q) ≡ has_risen (gate_time x gt dt q) t
    bit_right k (gate.Or a c) le w e h =
        let ea = line_right k le w a h.0 in
        let ec = line_right k le w c h.1 in
        (ap (λ v. v || level s (operand c)) ea ∙ (ap (λ v. has_risen (line_time x gt dt a) t || v) ec
        ∙ sym (risen_min (line_time x gt dt a) (line_time x gt dt c) t)))
    bit_right k (gate.And a c) le w e h =
        let ea = line_right k le w a h.0 in
        let ec = line_right k le w c h.1 in
        (ap (λ v. v && level s (operand c)) ea ∙ (ap (λ v. has_risen (line_time x gt dt a) t && v) ec
        ∙ sym (risen_max (line_time x gt dt a) (line_time x gt dt c) t)))
    bit_right k (gate.Latch a c) le w e h =
        let ea = line_right k le w a h.0 in
        let ec = line_right k le w c h.1 in
        let ta = line_time x gt dt a in
        let tc = line_time x gt dt c in
        let kept : level s (b.Reg (held k) 0) ≡ has_risen (time_inc (time_lt ta tc) 1) t = good.regs.latches k a c e ∙ ap (λ z. has_risen (time_inc z 1) t) (tm.each_gate k (gate.Latch a c) e) in
        ap (λ v. v || (level s (operand a) && not (level s (operand c)))) kept
        ∙ (ap (λ v. has_risen (time_inc (time_lt ta tc) 1) t || (v && not (level s (operand c)))) ea
        ∙ (ap (λ v. has_risen (time_inc (time_lt ta tc) 1) t || (has_risen ta t && not v)) ec
        ∙ sym (risen_lt ta tc t)))

    wires_below : (n : ℕ) → WiresBelow n t s
    wires_below zero = record { by = λ k lt w. absurd (omega arith) }
    wires_below (suc n) = record {
      by = λ k lt w.
          let before_k : WiresBelow k t s = record { by = λ j h u. (wires_below n).by j (omega arith) u } in
          let d : Gate = gate.Or line.Low line.Low in
          let q = get_or g.gates k d in
          let e = slice_get-get_or g.gates k d w in
          real.wire k q e s good.settled ∙ (bit_right k q (omega arith) before_k e (ok.gates k q e) ∙ ap (λ z. has_risen z t) (sym (tm.each_gate k q e)));
    }

    right_at : IsRightAt g x gt dt t s
    right_at = record {
      wires = λ k q e. let w = slice_get_within g.gates k q e in (wires_below (length g.gates)).by k w w;
      outs = λ o l e. real.out o l e s good.settled ∙ line_right (length g.gates) (omega arith) (wires_below (length g.gates)) l.line (ok.outputs o l e);
    }

  bit_after : (r k : ℕ) (reg : Register) → slice_get m.regs r ≡ Some reg → k < reg.width → (s s' : State) → Edge m s s' →
      level s' (b.Reg r k) ≡ get_or (level s reg.next ∷ get_or s.regs r []) k false
  bit_after r k reg e w s s' edge = ap (λ z. row_bit z r k) edge.after ∙ row_bit_after s m.regs s.regs r k reg e edge.many w

  tap_after : (t : ℕ) (s s' : State) → Good t s → Edge m s s' → (n c : ℕ) (d : Delay) → slice_get g.delays n ≡ Some d → c < d.width → level s' (b.Reg n c) ≡ has_risen (time_inc (dt n) (suc c)) (suc t)
  tap_after t s s' good edge n zero d e w =
      let from = line_right t s good (length g.gates) (omega arith) (wires_below t s good (length g.gates)) d.from (ok.delays n d e) in
      bit_after n 0 (delay_register n d) (real.delay n d e) w s s' edge ∙ (from ∙ (ap (λ z. has_risen z t) (sym (tm.each_delay n d e)) ∙ (ap (λ z. has_risen z t) (sym (time_inc-zero (dt n))) ∙ sym (risen_inc-suc (dt n) 0 t))))
  tap_after t s s' good edge n (suc c) d e w =
      bit_after n (suc c) (delay_register n d) (real.delay n d e) w s s' edge ∙ (good.regs.delays n c d e (omega arith) ∙ sym (risen_inc-suc (dt n) (suc c) t))

  regs_next : (t : ℕ) (s s' : State) → Good t s → s'.regs ≡ rows_after s m.regs s.regs → RegistersRight (suc t) s'
  regs_next t s s' good eq =
      let edge : Edge m s s' = record { many = good.regs.many; after = eq } in
      record {
        many = ap length eq ∙ length_rows_after s m.regs s.regs good.regs.many;
        delays = λ n c d e w. tap_after t s s' good edge n c d e w;
        latches = λ k p q e.
            let w = (right_at t s good).wires k (gate.Latch p q) e in
            bit_after (held k) 0 (latched (held k) k) (real.latch k p q e) (omega arith) s s' edge ∙ ((w ∙ (ap (λ z. has_risen z t) (sym (time_inc-zero (gt k))) ∙ sym (risen_inc-suc (gt k) 0 t))));
      }

  regs_start : (s : State) → s.regs ≡ map row_at_start m.regs → RegistersRight 0 s
  regs_start s eq = record {
    many = ap length eq ∙ length-map m.regs row_at_start;
    delays = λ n c d e w. ap (λ z. row_bit z n c) eq ∙ (row_bit_start m.regs n c ∙ sym (risen_inc-start (dt n) c));
    latches = λ k p q e. ap (λ z. row_bit z (held k) 0) eq ∙ (row_bit_start m.regs (held k) 0 ∙ sym (risen_inc-start (gt k) 0));
  }

  follows_right : (n t : ℕ) (s : State) → Good t s → (ss : List State) → Follows m s (levels_from x (suc t) n) ss →
      (i : ℕ) (z : State) → slice_get ss i ≡ Some z → IsRightAt g x gt dt (suc t + i) z
  follows_right zero t s good [] f i z e = (cc)
  follows_right zero t s good (y ∷ ys) f i z e = absurd f
  follows_right (suc n) t s good [] f i z e = absurd f
  follows_right (suc n) t s good (y ∷ ys) f zero z e =
      let next : Good (suc t) y = record { settled = f.0.settled; inputs = f.0.inputs_are; regs = regs_next t s y good f.0.regs_are } in
      let k : suc t ≡ suc t + 0 = omega arith in
      subst (λ v. IsRightAt g x gt dt (suc t + 0) v) (some_is y z e) (subst (λ v. IsRightAt g x gt dt v y) k (right_at (suc t) y next))
  follows_right (suc n) t s good (y ∷ ys) f (suc i) z e =
      let next : Good (suc t) y = record { settled = f.0.settled; inputs = f.0.inputs_are; regs = regs_next t s y good f.0.regs_are } in
      let k : suc (suc t) + i ≡ suc t + suc i = omega arith in
      subst (λ v. IsRightAt g x gt dt v z) k (follows_right n (suc t) y next ys f.1 i z e)

  pub history_right : (n : ℕ) (ss : List State) → IsHistory m (levels_from x 0 n) ss → (t : ℕ) (z : State) → slice_get ss t ≡ Some z → IsRightAt g x gt dt t z
  history_right zero [] h t z e = (cc)
  history_right zero (y ∷ ys) h t z e = absurd h
  history_right (suc n) [] h t z e = absurd h
  history_right (suc n) (y ∷ ys) h zero z e =
      let good : Good 0 y = record { settled = h.0.settled; inputs = h.0.inputs_are; regs = regs_start y h.0.regs_are } in
      subst (λ v. IsRightAt g x gt dt 0 v) (some_is y z e) (right_at 0 y good)
  history_right (suc n) (y ∷ ys) h (suc t) z e =
      let good : Good 0 y = record { settled = h.0.settled; inputs = h.0.inputs_are; regs = regs_start y h.0.regs_are } in
      let k : 1 + t ≡ suc t = omega arith in
      subst (λ v. IsRightAt g x gt dt v z) k (follows_right n 0 y good ys h.1 t z e)

-- the central lemma
pub realised : (g : Netlist) → IsNetlist g → (m : Circuit) (held : ℕ → ℕ) → Realises g m held → TimeIsLevel g m
realised g ok m held real x gt dt tm n ss h t z e = history_right g ok m held real x gt dt tm n ss h t z e
