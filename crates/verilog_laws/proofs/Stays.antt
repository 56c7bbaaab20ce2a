-- Statements that break no rule stay sound with one more that breaks none.
use Rattle.std.proofs.Common.{◌≡◌, ℕ, ◌+◌, Bool, true, false, not, cond, ◌||◌, List, length, Option, Some, None, refl, sym, ap, subst, ◌∙◌, codes}
use Rattle.std.specs.Prelude.{slice_get}
use Rattle.std.specs.Str.{bytes_eq}
use Rattle.std.proofs.lemmas.Bool.{or_parts}
use Rattle.circuit.specs.declared.bit.Target.{Target}
use Rattle.circuit.specs.declared.bit.Target.TheVariants as target
use Rattle.circuit.specs.Valid.{IsTarget, IsInRange}
use Rattle.verilog_text.specs.Grammar as g
use Rattle.verilog_text.specs.Grammar.{Form, Expression, Next, Whole, Shifted}
use Rattle.verilog_text.specs.Judging as j
use Rattle.verilog_text.specs.Judging.{SoFar, Declared, Meaning, ClockOrReset, InputAt, OutputAt, WireAt, RegAt, found, bits_of, is_clock_or_reset, is_input_port, is_given, width_of, module_of, target_of, expression_of, first_rule, after}
use Rattle.verilog_laws.specs.Sound.{IsSound}
use Rattle.verilog_laws.proofs.Ports.{has_few}
use Rattle.verilog_laws.proofs.Rules.{Keeps, keeps, not_false, port_parts, own_parts, not_over, some_width}
use Rattle.verilog_laws.proofs.Sound.{clock_more, input_more, sound_clock, sound_input, sound_output, sound_wire, sound_reg, sound_header, sound_assign, sound_next}
use Rattle.verilog_laws.proofs.Resolved.{resolved_in_range, named_given}

header_stays : (x : SoFar) (n : List ℕ) (ports : List (List ℕ)) → Keeps x (g.Header n ports) → IsSound (after x (g.Header n ports))
header_stays x n ports k =
    let p = or_parts (not (bytes_eq n (codes "race"))) (not (j.are_ports ports)) k.name in
    let few = has_few ports (not_false (j.are_ports ports) p.1) (not_false (j.are_few ports) k.limit) in
    sound_header ports few.few_inputs few.few_outputs

input_stays : (x : SoFar) (n : List ℕ) → IsSound x → Keeps x (g.Input n) → IsSound (after x (g.Input n))
input_stays x n s k =
    let p = port_parts x n (is_clock_or_reset n || is_input_port n) k.name in
    either (is_clock_or_reset n) refl p.good_name where
      either : (b : Bool) → is_clock_or_reset n ≡ b → (b || is_input_port n) ≡ true → IsSound (cond b (clock_more x n) (input_more x n))
      either true e t = let p = port_parts x n (is_clock_or_reset n || is_input_port n) k.name in sound_clock x n s p.fresh p.next e
      either false e t = let p = port_parts x n (is_clock_or_reset n || is_input_port n) k.name in sound_input x n s p.fresh p.next t

-- ---- assigns

-- what an assign gives is a wire or an output of the module
aims : (x : SoFar) → IsSound x → (n : List ℕ) (t : Target) (o : Option Meaning) → found n x.entries ≡ o → target_of o ≡ Some t → IsTarget (module_of x) t
aims x s n t None f q = absurd cc
aims x s n t (Some ClockOrReset) f q = absurd cc
aims x s n t (Some (InputAt i)) f q = absurd cc
aims x s n t (Some (OutputAt i)) f q = let e : target.Out i ≡ t = cc in subst (IsTarget (module_of x)) e (s.places n (OutputAt i) f)
aims x s n t (Some (WireAt i)) f q = let e : target.Wire i ≡ t = cc in subst (IsTarget (module_of x)) e (s.places n (WireAt i) f)
aims x s n t (Some (RegAt i)) f q = absurd cc

assign_stays : (x : SoFar) (n : List ℕ) (e : Expression) → IsSound x → Keeps x (g.Assign n e) → IsSound (after x (g.Assign n e))
assign_stays x n e s k = given (target_of (found n x.entries)) refl where
  given : (o : Option Target) → target_of (found n x.entries) ≡ o → IsSound (j.with_assign o (j.resolved x.entries e) x)
  given None at = s
  given (Some t) at =
      let p = or_parts (not (j.are_given x e)) (j.is_assigned x.assigns (target_of (found n x.entries))) k.order in
      let new : is_given x.assigns t ≡ false = ap (j.is_assigned x.assigns) (sym at) ∙ p.1 in
      let given_e = not_false (j.are_given x e) p.0 in
      sound_assign x t (j.resolved x.entries e) s (aims x s n t (found n x.entries) refl at)
      (resolved_in_range x s e (not_false (j.fits_widths x e) k.width)) new (λ w q. named_given x w e given_e q)

-- ---- what a register takes

next_in_range : (x : SoFar) → IsSound x → (e : Next) → j.fits_widths x (expression_of e) ≡ true → IsInRange (module_of x) (j.resolved_next x.entries e)
next_in_range x s (Whole e) h = resolved_in_range x s e h
next_in_range x s (Shifted r l e) h = resolved_in_range x s e h

always_stays : (x : SoFar) (r z u : List ℕ) (e : Next) → IsSound x → Keeps x (g.Always r z u e) → IsSound (after x (g.Always r z u e))
always_stays x r z u e s k = taken (found r x.entries) where
  bit : IsInRange (module_of x) (j.resolved_next x.entries e)
  bit = next_in_range x s e (not_false (j.fits_widths x (expression_of e))
      (or_parts (not (j.fits_widths x (expression_of e))) (not (j.is_update (j.reg_of x.regs (found r x.entries)) z u e)) k.width).0)

  at : (i : ℕ) (o : Option Declared) → slice_get x.regs i ≡ o → IsSound (record x { regs = j.set_next i o (j.resolved_next x.entries e) x.regs })
  at i None f = s
  at i (Some d) f = sound_next x i d (j.resolved_next x.entries e) s f bit

  taken : (o : Option Meaning) → IsSound (j.with_next o (j.resolved_next x.entries e) x)
  taken None = s
  taken (Some ClockOrReset) = s
  taken (Some (InputAt i)) = s
  taken (Some (OutputAt i)) = s
  taken (Some (WireAt i)) = s
  taken (Some (RegAt i)) = at i (slice_get x.regs i) refl

-- ---- any statement

pub sound_after : (x : SoFar) (f : Form) → IsSound x → first_rule x f ≡ None → IsSound (after x f)
sound_after x (g.Header n ports) s r = header_stays x n ports (keeps x (g.Header n ports) r)
sound_after x (g.Input n) s r = input_stays x n s (keeps x (g.Input n) r)
sound_after x (g.Output n) s r =
    let p = port_parts x n (j.is_output_port n) (keeps x (g.Output n) r).name in
    sound_output x n s p.fresh p.next p.good_name
sound_after x (g.Wire n) s r =
    let k = keeps x (g.Wire n) r in
    let p = own_parts x n k.name in
    sound_wire x n s p.0 p.1 (not_over 65536 (length x.wires + 1) k.limit)
sound_after x (g.Reg l n) s r =
    let k = keeps x (g.Reg l n) r in
    let p = own_parts x n k.name in
    sound_reg x n s p.0 (width_of l) p.1 (some_width l) (not_over 65536 (bits_of x.regs + width_of l) k.limit)
sound_after x (g.Assign n e) s r = assign_stays x n e s (keeps x (g.Assign n e) r)
sound_after x (g.Always q z u e) s r = always_stays x q z u e s (keeps x (g.Always q z u e) r)
sound_after x g.End s r = s
