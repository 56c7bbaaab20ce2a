-- Which parts statements have, by the stage at which they are.
use Rattle.std.proofs.Common.{◌≡◌, ℕ, ◌+◌, Bool, true, false, not, cond, ◌||◌, ltb, List, [], ◌∷◌, length, drop, Option, Some, None, refl, sym, ap, subst, ◌∙◌, arith, codes}
use Rattle.std.specs.Prelude.{count_by}
use Rattle.std.specs.Str.{bytes_eq}
use Rattle.std.proofs.lemmas.Bool.{or_parts}
use Rattle.circuit.specs.declared.bit.Target.{Target}
use Rattle.circuit.specs.Circuit.{Logic, Circuit}
use Rattle.circuit.specs.Valid.{IsValid}
use Rattle.verilog_text.specs.Grammar as g
use Rattle.verilog_text.specs.Grammar.{Form}
use Rattle.verilog_text.specs.Statements.{Statement, Stage, Start, Declarations, Actions, Finished, allows, stage_after, AreInOrder}
use Rattle.verilog_text.specs.Spelling.{AllStand, AreModule}
use Rattle.verilog_text.specs.Judging as j
use Rattle.verilog_text.specs.Judging.{SoFar, nothing_yet, Meaning, ClockOrReset, InputAt, OutputAt, WireAt, RegAt, found, is_clock_or_reset, is_input_port, is_output_port, is_next, is_unfinished, module_of, target_of, first_rule, after}
use Rattle.verilog_laws.specs.Sound.{IsSound}
use Rattle.verilog_laws.proofs.Places.{length_more}
use Rattle.verilog_laws.proofs.Ports.{count_in, count_out, input_no_output, output_no_input, clock_no_port, next_is, has_few}
use Rattle.verilog_laws.proofs.Rules.{not_false, keeps}
use Rattle.verilog_laws.proofs.Sound.{clock_more, input_more, sound_header}
use Rattle.verilog_laws.proofs.Stays.{sound_after}
use Rattle.verilog_laws.proofs.Finished.{HasPorts, is_valid}

-- ---- stages

-- what the statements have, by which may come next
abbrev HasParts : Stage → SoFar → Type 0
HasParts Start x = x ≡ nothing_yet
HasParts Declarations x = HasPorts x
HasParts Actions x = HasPorts x
HasParts Finished x = HasPorts x × (is_unfinished x ≡ false)

-- after the header
abbrev IsBehind : Stage → Type 0
IsBehind Start = ⊥
IsBehind Declarations = Unit {0}
IsBehind Actions = Unit {0}
IsBehind Finished = ⊥

has_ports : (s : Stage) (x : SoFar) → IsBehind s → HasParts s x → HasPorts x
has_ports Start x b h = absurd b
has_ports Declarations x b h = h
has_ports Actions x b h = h
has_ports Finished x b h = absurd b

declares_behind : (s : Stage) (n : List ℕ) → allows s (g.Input n) ≡ true → IsBehind s
declares_behind Start n e = absurd cc
declares_behind Declarations n e = tt
declares_behind Actions n e = absurd cc
declares_behind Finished n e = absurd cc

output_behind : (s : Stage) (n : List ℕ) → allows s (g.Output n) ≡ true → IsBehind s
output_behind Start n e = absurd cc
output_behind Declarations n e = tt
output_behind Actions n e = absurd cc
output_behind Finished n e = absurd cc

wire_behind : (s : Stage) (n : List ℕ) → allows s (g.Wire n) ≡ true → IsBehind s
wire_behind Start n e = absurd cc
wire_behind Declarations n e = tt
wire_behind Actions n e = absurd cc
wire_behind Finished n e = absurd cc

reg_behind : (s : Stage) (l : Option (List ℕ)) (n : List ℕ) → allows s (g.Reg l n) ≡ true → IsBehind s
reg_behind Start l n e = absurd cc
reg_behind Declarations l n e = tt
reg_behind Actions l n e = absurd cc
reg_behind Finished l n e = absurd cc

assign_behind : (s : Stage) (n : List ℕ) (a : g.Expression) → allows s (g.Assign n a) ≡ true → IsBehind s
assign_behind Start n a e = absurd cc
assign_behind Declarations n a e = tt
assign_behind Actions n a e = tt
assign_behind Finished n a e = absurd cc

always_behind : (s : Stage) (r z u : List ℕ) (a : g.Next) → allows s (g.Always r z u a) ≡ true → IsBehind s
always_behind Start r z u a e = absurd cc
always_behind Declarations r z u a e = tt
always_behind Actions r z u a e = tt
always_behind Finished r z u a e = absurd cc

end_behind : (s : Stage) → allows s g.End ≡ true → IsBehind s
end_behind Start e = absurd cc
end_behind Declarations e = tt
end_behind Actions e = tt
end_behind Finished e = absurd cc

-- ---- ports stay

first_port : (x : SoFar) (n : List ℕ) (good : Bool) → (j.is_misnamed x n || j.is_misplaced x n || not good) ≡ false → (is_next n x.to_declare ≡ true) × (good ≡ true)
first_port x n good h =
    let a = or_parts (j.is_misnamed x n || j.is_misplaced x n) (not good) h in
    let b = or_parts (j.is_misnamed x n) (j.is_misplaced x n) a.0 in
    let c = or_parts (not (is_next n x.to_declare) || ltb 0 (length x.wires)) (ltb 0 (length x.regs)) b.1 in
    let d = or_parts (not (is_next n x.to_declare)) (ltb 0 (length x.wires)) c.0 in
    (not_false (is_next n x.to_declare) d.0, not_false good a.1)

count_first : (test : List ℕ → Bool) (x : SoFar) (n : List ℕ) → is_next n x.to_declare ≡ true → test n ≡ true → count_by test x.to_declare ≡ count_by test (drop 1 x.to_declare) + 1
count_first test x n h t = ap (count_by test) (next_is n x.to_declare h) ∙ count_in test n (drop 1 x.to_declare) t

count_rest : (test : List ℕ → Bool) (x : SoFar) (n : List ℕ) → is_next n x.to_declare ≡ true → test n ≡ false → count_by test x.to_declare ≡ count_by test (drop 1 x.to_declare)
count_rest test x n h t = ap (count_by test) (next_is n x.to_declare h) ∙ count_out test n (drop 1 x.to_declare) t

input_ports : (x : SoFar) (n : List ℕ) → HasPorts x → j.input_misnamed x n ≡ false → HasPorts (j.with_input n x)
input_ports x n p h =
    let q = first_port x n (is_clock_or_reset n || is_input_port n) h in
    either (is_clock_or_reset n) refl q.1 where
      either : (b : Bool) → is_clock_or_reset n ≡ b → (b || is_input_port n) ≡ true → HasPorts (cond b (clock_more x n) (input_more x n))
      either true e t =
          let q = first_port x n (is_clock_or_reset n || is_input_port n) h in
          let no = clock_no_port n e in
          let a = count_rest is_input_port x n q.0 no.0 in
          let b = count_rest is_output_port x n q.0 no.1 in
          let i = p.some_input in let o = p.some_output in
          record { some_input = omega (arith, i, a); some_output = omega (arith, o, b) }
      either false e t =
          let q = first_port x n (is_clock_or_reset n || is_input_port n) h in
          let a = count_first is_input_port x n q.0 t in
          let b = count_rest is_output_port x n q.0 (input_no_output n t) in
          let l = length_more x.inputs (drop 3 n) in
          let i = p.some_input in let o = p.some_output in
          record { some_input = omega (arith, i, a, l); some_output = omega (arith, o, b) }

output_ports : (x : SoFar) (n : List ℕ) → HasPorts x → j.output_misnamed x n ≡ false → HasPorts (j.with_output n x)
output_ports x n p h =
    let q = first_port x n (is_output_port n) h in
    let a = count_first is_output_port x n q.0 q.1 in
    let b = count_rest is_input_port x n q.0 (output_no_input n q.1) in
    let l = length_more x.outputs (drop 4 n) in
    let i = p.some_input in let o = p.some_output in
    record { some_input = omega (arith, i, b); some_output = omega (arith, o, a, l) }

assign_ports : (x : SoFar) (t : Option Target) (bit : Logic) → HasPorts x → HasPorts (j.with_assign t bit x)
assign_ports x None bit p = p
assign_ports x (Some t) bit p = record { some_input = p.some_input; some_output = p.some_output }

next_ports : (x : SoFar) (o : Option Meaning) (bit : Logic) → HasPorts x → HasPorts (j.with_next o bit x)
next_ports x None bit p = p
next_ports x (Some ClockOrReset) bit p = p
next_ports x (Some (InputAt i)) bit p = p
next_ports x (Some (OutputAt i)) bit p = p
next_ports x (Some (WireAt i)) bit p = p
next_ports x (Some (RegAt i)) bit p = record { some_input = p.some_input; some_output = p.some_output }

parts_after : (s : Stage) (x : SoFar) (f : Form) → allows s f ≡ true → first_rule x f ≡ None → HasParts s x → HasParts (stage_after f) (after x f)
parts_after s x (g.Header n ports) e r h =
    let k = keeps x (g.Header n ports) r in
    let p = or_parts (not (bytes_eq n (codes "race"))) (not (j.are_ports ports)) k.name in
    let few = has_few ports (not_false (j.are_ports ports) p.1) (not_false (j.are_few ports) k.limit) in
    let i = few.some_input in let o = few.some_output in
    record { some_input = omega (arith, i); some_output = omega (arith, o) }
parts_after s x (g.Input n) e r h = input_ports x n (has_ports s x (declares_behind s n e) h) (keeps x (g.Input n) r).name
parts_after s x (g.Output n) e r h = output_ports x n (has_ports s x (output_behind s n e) h) (keeps x (g.Output n) r).name
parts_after s x (g.Wire n) e r h = let p = has_ports s x (wire_behind s n e) h in record { some_input = p.some_input; some_output = p.some_output }
parts_after s x (g.Reg l n) e r h = let p = has_ports s x (reg_behind s l n e) h in record { some_input = p.some_input; some_output = p.some_output }
parts_after s x (g.Assign n a) e r h = assign_ports x (target_of (found n x.entries)) (j.resolved x.entries a) (has_ports s x (assign_behind s n a e) h)
parts_after s x (g.Always q z u a) e r h = next_ports x (found q x.entries) (j.resolved_next x.entries a) (has_ports s x (always_behind s q z u a e) h)
parts_after s x g.End e r h = (has_ports s x (end_behind s e) h, (keeps x g.End r).order)

-- ---- all statements

finish : (s : Stage) (x : SoFar) → s ≡ Finished → HasParts s x → HasPorts x × (is_unfinished x ≡ false)
finish s x e h = subst (λ (t : Stage). HasParts t x) e h

all_valid : (s : Stage) (x : SoFar) (ss : List Statement) (last : SoFar) → AreInOrder s ss → HasParts s x → IsSound x → AllStand x ss last → IsValid (module_of last)
all_valid s x [] last order parts sound stand =
    let p = finish s x order parts in
    subst (λ (y : SoFar). IsValid (module_of y)) stand (is_valid x sound p.0 p.1)
all_valid s x (t ∷ ss) last order parts sound stand =
    all_valid (stage_after t.form) (after x t.form) ss last order.1 (parts_after s x t.form order.0 stand.0 parts) (sound_after x t.form sound stand.0) stand.1

pub sound_nothing : IsSound nothing_yet
sound_nothing = sound_header [] (omega arith) (omega arith)

pub statements_valid : (ss : List Statement) (m : Circuit) → AreInOrder Start ss → AreModule ss m → IsValid m
statements_valid ss m order is =
    subst IsValid (sym is.2) (all_valid Start nothing_yet ss is.0 order refl sound_nothing is.1)
