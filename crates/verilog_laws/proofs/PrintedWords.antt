-- The words of the text of a module: those of its statements.
use Rattle.std.proofs.Common.{◌≡◌, ℕ, ◌-◌, ◌≤◌, Bool, true, false, cond, List, [], ◌∷◌, ◌++◌, map, Option, Some, None, refl, sym, ap, subst, ◌∙◌, arith, append_assoc, eqb}
use Rattle.std.specs.Prelude.{codes, decimal, flat_map}
use Rattle.std.specs.List.{list_all, AllByRecursion}
use Rattle.std.proofs.lemmas.List.{append-nil}
use Rattle.std.proofs.lemmas.List.Concat.{flat_map-append}
use Rattle.std.proofs.lemmas.Bool.{and_parts}
use Rattle.rl_text.specs.Names.{is_verilog_name}
use Rattle.rl_text.specs.Lines.{Word}
use Rattle.circuit.specs.declared.bit.Target.{Target}
use Rattle.circuit.specs.declared.bit.Target.TheVariants as target
use Rattle.circuit.specs.Circuit.{Assignment, Register, Circuit}
use Rattle.circuit.specs.Names.{in_name, out_name, is_port_name, is_own_name}
use Rattle.verilog_text.specs.Text.{name_text, logic_text, target_text, around, header_start, input_ports, output_ports, clock_lines, input_lines, output_lines, wire_lines, register_line, assign_line, next_text, always_start, always_line, module_text}
use Rattle.circuit.specs.Valid.{IsTarget, IsInRange}
use Rattle.verilog_text.specs.Grammar.{Form, Header, Input, Output, Wire, Reg, End, Next, Whole, Shifted, name, bits, sign, open_, close, comma, semicolon, takes, spelled, spelled_range, spelled_next, spelled_declaration, spelled_form}
use Rattle.verilog_text.specs.Judging.{zero_bits}
use Rattle.verilog_laws.proofs.Printed.{printed, printed_register, printed_assign, printed_next, printed_always, printed_ports, printed_statements}
use Rattle.verilog_laws.proofs.PrintedPieces.{Reads, reads_nothing, stops, reads_name, reads_number, reads_bits, reads_open, reads_close, reads_comma, reads_semicolon, reads_left, reads_right, reads_colon, reads_opening, reads_closing, reads_equals, reads_at, reads_takes, reads_space, reads_newline}
use Rattle.verilog_laws.proofs.PrintedDigits.{decimal_is}
use Rattle.verilog_laws.proofs.PrintedNames.{some_at, input_is_name, output_is_name, own_is_name, is_register, IsPrintable, register_is}
use Rattle.verilog_laws.proofs.PrintedExpressions.{ReadsOn, reads_expression}

-- the words of statements
abbrev pub words_on : List Form → List Word
words_on forms = flat_map spelled_form forms

-- a text for each element, where each reads as the words of a statement
reads_each : {X : Type 0} (text : X → List ℕ) (form : X → Form) (p : X → Bool) → ((x : X) (rest : List ℕ) (ws : List Word) → p x ≡ true → Reads rest ws → Reads (text x ++ rest) (spelled_form (form x) ++ ws))
    → (xs : List X) (rest : List ℕ) (ws : List Word) → list_all p xs ≡ true → Reads rest ws → Reads (flat_map text xs ++ rest) (words_on (map form xs) ++ ws)
reads_each text form p each [] rest ws h r = r
reads_each text form p each (x ∷ xs) rest ws h r =
    let a = and_parts (p x) (list_all p xs) h in
    let all = each x (flat_map text xs ++ rest) (words_on (map form xs) ++ ws) a.0 (reads_each text form p each xs rest ws a.1 r) in
    subst (λ (t : List ℕ). Reads t ((spelled_form (form x) ++ words_on (map form xs)) ++ ws)) (sym (append_assoc (text x) (flat_map text xs) rest))
    (subst (λ (vs : List Word). Reads (text x ++ (flat_map text xs ++ rest)) vs) (sym (append_assoc (spelled_form (form x)) (words_on (map form xs)) ws)) all)

around_bytes : (a n b rest : List ℕ) → ((a ++ n) ++ b) ++ rest ≡ a ++ (n ++ (b ++ rest))
around_bytes a n b rest = simp append_assoc

map_map : {X Y Z : Type 0} (f : Y → Z) (g : X → Y) (xs : List X) → map f (map g xs) ≡ map (λ x. f (g x)) xs
map_map f g [] = refl
map_map f g (x ∷ xs) = ap (λ zs. f (g x) ∷ zs) (map_map f g xs)

-- ---- the header

-- the words of names, each with a comma in front
abbrev listed : List (List ℕ) → List Word
listed names = flat_map (λ (n : List ℕ). comma ∷ name n ∷ []) names

reads_inputs_listed : (names : List (List ℕ)) (rest : List ℕ) (ws : List Word) → list_all is_port_name names ≡ true → stops rest ≡ true → Reads rest ws
    → (Reads (flat_map (around (codes ", in_") []) names ++ rest) (listed (map in_name names) ++ ws)) × (stops (flat_map (around (codes ", in_") []) names ++ rest) ≡ true)
reads_inputs_listed [] rest ws h s r = (r, s)
reads_inputs_listed (n ∷ names) rest ws h s r =
    let a = and_parts (is_port_name n) (list_all is_port_name names) h in
    let more = reads_inputs_listed names rest ws a.1 s r in
    let others = flat_map (around (codes ", in_") []) names in
    let bytes : (((codes ", in_" ++ n) ++ []) ++ others) ++ rest ≡ codes ", in_" ++ (n ++ (others ++ rest)) = simp append_assoc in
    (subst (λ (t : List ℕ). Reads t (comma ∷ name (in_name n) ∷ (listed (map in_name names) ++ ws))) (sym bytes) (reads_comma (reads_space (reads_name (in_name n) (input_is_name n a.0) more.1 more.0))), refl)

reads_outputs_listed : (names : List (List ℕ)) (rest : List ℕ) (ws : List Word) → list_all is_port_name names ≡ true → stops rest ≡ true → Reads rest ws
    → (Reads (flat_map (around (codes ", out_") []) names ++ rest) (listed (map out_name names) ++ ws)) × (stops (flat_map (around (codes ", out_") []) names ++ rest) ≡ true)
reads_outputs_listed [] rest ws h s r = (r, s)
reads_outputs_listed (n ∷ names) rest ws h s r =
    let a = and_parts (is_port_name n) (list_all is_port_name names) h in
    let more = reads_outputs_listed names rest ws a.1 s r in
    let others = flat_map (around (codes ", out_") []) names in
    let bytes : (((codes ", out_" ++ n) ++ []) ++ others) ++ rest ≡ codes ", out_" ++ (n ++ (others ++ rest)) = simp append_assoc in
    (subst (λ (t : List ℕ). Reads t (comma ∷ name (out_name n) ∷ (listed (map out_name names) ++ ws))) (sym bytes) (reads_comma (reads_space (reads_name (out_name n) (output_is_name n a.0) more.1 more.0))), refl)

reads_header : (m : Circuit) (rest : List ℕ) (ws : List Word) → IsPrintable m → Reads rest ws
    → Reads (header_start ++ (input_ports m ++ (output_ports m ++ (codes ");\n" ++ rest)))) (spelled_form (Header (codes "race") (printed_ports m)) ++ ws)
unfolding header_start input_ports output_ports
reads_header m rest ws p r =
    let end = reads_close (reads_semicolon (reads_newline r)) in
    let os = reads_outputs_listed m.outputs (codes ");\n" ++ rest) (close ∷ semicolon ∷ ws) p.outputs refl end in
    let is = reads_inputs_listed m.inputs (output_ports m ++ (codes ");\n" ++ rest)) (listed (map out_name m.outputs) ++ (close ∷ semicolon ∷ ws)) p.inputs os.1 os.0 in
    let rst = reads_name (codes "clk") refl refl (reads_comma (reads_space (reads_name (codes "rst") refl is.1 is.0))) in
    let all = reads_name (codes "module") refl refl (reads_space (reads_name (codes "race") refl refl (reads_open rst))) in
    let ports = flat_map-append (λ (n : List ℕ). comma ∷ name n ∷ []) (map in_name m.inputs) (map out_name m.outputs) in
    let words = ap (λ (vs : List Word). name (codes "module") ∷ name (codes "race") ∷ open_ ∷ name (codes "clk") ∷ comma ∷ name (codes "rst") ∷ vs)
    (simp (append_assoc, ports)) in
    subst (λ (vs : List Word). Reads (header_start ++ (input_ports m ++ (output_ports m ++ (codes ");\n" ++ rest)))) vs) words all

-- ---- declarations

reads_declaration : {rest : List ℕ} {ws : List Word} (word n : List ℕ) → is_verilog_name word ≡ true → is_verilog_name n ≡ true → Reads rest ws
    → Reads (32 ∷ 32 ∷ (word ++ (32 ∷ (n ++ (59 ∷ 10 ∷ rest))))) (spelled_declaration word n ++ ws)
reads_declaration word n h g r = reads_space (reads_space (reads_name word h refl (reads_space (reads_name n g refl (reads_semicolon (reads_newline r))))))

reads_clock : (rest : List ℕ) (ws : List Word) → Reads rest ws → Reads (clock_lines ++ rest) (words_on (Input (codes "clk") ∷ Input (codes "rst") ∷ []) ++ ws)
unfolding clock_lines
reads_clock rest ws r = reads_declaration (codes "input") (codes "clk") refl refl (reads_declaration (codes "input") (codes "rst") refl refl r)

reads_input : (n rest : List ℕ) (ws : List Word) → is_port_name n ≡ true → Reads rest ws → Reads (around (codes "  input in_") (codes ";\n") n ++ rest) (spelled_form (Input (in_name n)) ++ ws)
reads_input n rest ws h r =
    subst (λ (t : List ℕ). Reads t (spelled_form (Input (in_name n)) ++ ws)) (sym (around_bytes (codes "  input in_") n (codes ";\n") rest)) (reads_declaration (codes "input") (in_name n) refl (input_is_name n h) r)

reads_output : (n rest : List ℕ) (ws : List Word) → is_port_name n ≡ true → Reads rest ws → Reads (around (codes "  output out_") (codes ";\n") n ++ rest) (spelled_form (Output (out_name n)) ++ ws)
reads_output n rest ws h r =
    subst (λ (t : List ℕ). Reads t (spelled_form (Output (out_name n)) ++ ws)) (sym (around_bytes (codes "  output out_") n (codes ";\n") rest)) (reads_declaration (codes "output") (out_name n) refl (output_is_name n h) r)

reads_wire : (n rest : List ℕ) (ws : List Word) → is_own_name n ≡ true → Reads rest ws → Reads (around (codes "  wire ") (codes ";\n") n ++ rest) (spelled_form (Wire n) ++ ws)
reads_wire n rest ws h r =
    subst (λ (t : List ℕ). Reads t (spelled_form (Wire n) ++ ws)) (sym (around_bytes (codes "  wire ") n (codes ";\n") rest)) (reads_declaration (codes "wire") n refl (own_is_name n h) r)

reads_reg : (b : Bool) (n : List ℕ) (k : ℕ) (rest : List ℕ) (ws : List Word) → is_verilog_name n ≡ true → k ≤ 1000000 → Reads rest ws
    → Reads (cond b ((codes "  reg " ++ n) ++ codes ";\n") ((((codes "  reg [" ++ decimal k) ++ codes ":0] ") ++ n) ++ codes ";\n") ++ rest) (spelled_form (cond b (Reg None n) (Reg (Some (decimal k)) n)) ++ ws)
reads_reg true n k rest ws h low r =
    subst (λ (t : List ℕ). Reads t (spelled_form (Reg None n) ++ ws)) (sym (around_bytes (codes "  reg ") n (codes ";\n") rest)) (reads_declaration (codes "reg") n refl h r)
reads_reg false n k rest ws h low r =
    let behind = reads_colon (reads_number (codes "0") 93 refl refl (reads_right (reads_space (reads_name n h refl (reads_semicolon (reads_newline r)))))) in
    let all = reads_space (reads_space (reads_name (codes "reg") refl refl (reads_space (reads_left (reads_number (decimal k) 58 (decimal_is k low).number refl behind))))) in
    let bytes : ((((codes "  reg [" ++ decimal k) ++ codes ":0] ") ++ n) ++ codes ";\n") ++ rest ≡ codes "  reg [" ++ (decimal k ++ (codes ":0] " ++ (n ++ (codes ";\n" ++ rest)))) = simp append_assoc in
    subst (λ (t : List ℕ). Reads t (spelled_form (Reg (Some (decimal k)) n) ++ ws)) (sym bytes) all

reads_register : (g : Register) (rest : List ℕ) (ws : List Word) → is_register g ≡ true → Reads rest ws → Reads (register_line g ++ rest) (spelled_form (printed_register g) ++ ws)
reads_register g rest ws h r =
    let is = register_is g h in
    let few = is.few in
    reads_reg (eqb g.width 1) g.name (g.width - 1) rest ws is.word (omega (arith, few)) r

-- ---- assigns

target_is_name : (m : Circuit) (p : IsPrintable m) (t : Target) → IsTarget m t → is_verilog_name (target_text m t) ≡ true
target_is_name m p (target.Wire w) h =
    let a = some_at is_own_name m.wires w p.wires h in
    subst (λ (o : Option (List ℕ)). is_verilog_name (name_text o) ≡ true) (sym a.1) (own_is_name a.0 a.2)
target_is_name m p (target.Out o) h =
    let a = some_at is_port_name m.outputs o p.outputs h in
    subst (λ (o : Option (List ℕ)). is_verilog_name (out_name (name_text o)) ≡ true) (sym a.1) (output_is_name a.0 a.2)

-- an assign that names what the module has
abbrev pub HasParts : Circuit → Assignment → Type 0
HasParts m a = IsTarget m a.target × IsInRange m a.bit

reads_assign : (m : Circuit) (p : IsPrintable m) (a : Assignment) (rest : List ℕ) (ws : List Word) → HasParts m a → Reads rest ws → Reads (assign_line m a ++ rest) (spelled_form (printed_assign m a) ++ ws)
reads_assign m p a rest ws h r =
    let t = target_text m a.target in
    let e = logic_text m a.bit in
    let expression = reads_expression m p a.bit h.1 (59 ∷ 10 ∷ rest) (semicolon ∷ ws) refl (reads_semicolon (reads_newline r)) in
    let all = reads_space (reads_space (reads_name (codes "assign") refl refl (reads_space (reads_name t (target_is_name m p a.target h.0) refl (reads_space (reads_equals (reads_space expression))))))) in
    let bytes : ((((codes "  assign " ++ t) ++ codes " = ") ++ e) ++ codes ";\n") ++ rest ≡ codes "  assign " ++ (t ++ (codes " = " ++ (e ++ (codes ";\n" ++ rest)))) = simp append_assoc in
    subst (λ (x : List ℕ). Reads x (spelled_form (printed_assign m a) ++ ws)) (sym bytes)
    (subst (λ (vs : List Word). Reads (codes "  assign " ++ (t ++ (codes " = " ++ (e ++ (codes ";\n" ++ rest))))) (name (codes "assign") ∷ name t ∷ sign (codes "=") ∷ vs)) (sym (append_assoc (spelled (printed m a.bit)) (semicolon ∷ []) ws)) all)

reads_assigns : (m : Circuit) (p : IsPrintable m) (as_ : List Assignment) (rest : List ℕ) (ws : List Word) → AllByRecursion (HasParts m) as_ → Reads rest ws
    → Reads (flat_map (assign_line m) as_ ++ rest) (words_on (map (printed_assign m) as_) ++ ws)
reads_assigns m p [] rest ws h r = r
reads_assigns m p (a ∷ as_) rest ws h r =
    let all = reads_assign m p a (flat_map (assign_line m) as_ ++ rest) (words_on (map (printed_assign m) as_) ++ ws) h.0 (reads_assigns m p as_ rest ws h.1 r) in
    subst (λ (t : List ℕ). Reads t ((spelled_form (printed_assign m a) ++ words_on (map (printed_assign m) as_)) ++ ws)) (sym (append_assoc (assign_line m a) (flat_map (assign_line m) as_) rest))
    (subst (λ (vs : List Word). Reads (assign_line m a ++ (flat_map (assign_line m) as_ ++ rest)) vs) (sym (append_assoc (spelled_form (printed_assign m a)) (words_on (map (printed_assign m) as_)) ws)) all)

-- ---- always statements

next_on : (b : Bool) (n e : List ℕ) (k : ℕ) (x : List Word) (f : Next) (g : Next) → is_verilog_name n ≡ true → k ≤ 1000000 → ReadsOn e x → spelled_next f ≡ x
    → spelled_next g ≡ ((sign (codes "{") ∷ name n ∷ spelled_range (decimal k)) ++ comma ∷ x) ++ sign (codes "}") ∷ []
    → ReadsOn (cond b e (((((codes "{" ++ n) ++ codes "[") ++ decimal k) ++ codes ":0], ") ++ e ++ codes "}")) (spelled_next (cond b f g))
next_on true n e k x f g h low on p q = λ rest ws s r. subst (λ (vs : List Word). Reads (e ++ rest) (vs ++ ws)) (sym p) (on rest ws s r)
next_on false n e k x f g h low on p q = λ rest ws s r.
    let expression = on (125 ∷ rest) (sign (codes "}") ∷ ws) refl (reads_closing r) in
    let behind = reads_colon (reads_number (codes "0") 93 refl refl (reads_right (reads_comma (reads_space expression)))) in
    let all = reads_opening (reads_name n h refl (reads_left (reads_number (decimal k) 58 (decimal_is k low).number refl behind))) in
    let bytes : ((((((codes "{" ++ n) ++ codes "[") ++ decimal k) ++ codes ":0], ") ++ e) ++ codes "}") ++ rest ≡ codes "{" ++ (n ++ (codes "[" ++ (decimal k ++ (codes ":0], " ++ (e ++ (codes "}" ++ rest)))))) = simp append_assoc in
    let words : (((sign (codes "{") ∷ name n ∷ spelled_range (decimal k)) ++ comma ∷ x) ++ sign (codes "}") ∷ []) ++ ws
    ≡ (sign (codes "{") ∷ name n ∷ spelled_range (decimal k)) ++ (comma ∷ (x ++ (sign (codes "}") ∷ ws))) = simp append_assoc in
    subst (λ (t : List ℕ). Reads t (spelled_next g ++ ws)) (sym bytes)
    (subst (λ (vs : List Word). Reads (codes "{" ++ (n ++ (codes "[" ++ (decimal k ++ (codes ":0], " ++ (e ++ (codes "}" ++ rest))))))) vs) (sym (ap (λ (vs : List Word). vs ++ ws) q ∙ words)) all)

-- what a register takes names what the module has
abbrev pub HasNext : Circuit → Register → Type 0
HasNext m g = (is_register g ≡ true) × IsInRange m g.next

reads_next : (m : Circuit) (p : IsPrintable m) (g : Register) → HasNext m g → ReadsOn (next_text m g) (spelled_next (printed_next m g))
reads_next m p g h =
    let is = register_is g h.0 in
    let few = is.few in
    next_on (eqb g.width 1) g.name (logic_text m g.next) (g.width - 2) (spelled (printed m g.next)) (Whole (printed m g.next)) (Shifted g.name (decimal (g.width - 2)) (printed m g.next)) is.word (omega (arith, few)) (reads_expression m p g.next h.1) refl refl

always_bytes : (a n d e rest : List ℕ) → (((((a ++ n) ++ codes " <= ") ++ d) ++ codes "'b0; else ") ++ (((n ++ codes " <= ") ++ e) ++ codes ";\n")) ++ rest
    ≡ a ++ (n ++ (codes " <= " ++ ((d ++ codes "'b0") ++ (codes "; else " ++ (n ++ (codes " <= " ++ (e ++ (codes ";\n" ++ rest))))))))
always_bytes a n d e rest = simp append_assoc

reads_always : (m : Circuit) (p : IsPrintable m) (g : Register) (rest : List ℕ) (ws : List Word) → HasNext m g → Reads rest ws → Reads (always_line m g ++ rest) (spelled_form (printed_always m g) ++ ws)
unfolding always_start
reads_always m p g rest ws h r =
    let is = register_is g h.0 in
    let few = is.few in
    let n = g.name in
    let e = next_text m g in
    let x = spelled_next (printed_next m g) in
    let next = reads_next m p g h (59 ∷ 10 ∷ rest) (semicolon ∷ ws) refl (reads_semicolon (reads_newline r)) in
    let update = reads_name (codes "else") refl refl (reads_space (reads_name n is.word refl (reads_space (reads_takes (reads_space next))))) in
    let zero = reads_bits (decimal g.width) 48 (decimal_is g.width (omega (arith, few))).number refl refl (reads_semicolon (reads_space update)) in
    let reset = reads_name n is.word refl (reads_space (reads_takes (reads_space zero))) in
    let test = reads_name (codes "if") refl refl (reads_space (reads_open (reads_name (codes "rst") refl refl (reads_close (reads_space reset))))) in
    let clock = reads_at (reads_open (reads_name (codes "posedge") refl refl (reads_space (reads_name (codes "clk") refl refl (reads_close (reads_space test)))))) in
    let all = reads_space (reads_space (reads_name (codes "always") refl refl (reads_space clock))) in
    let bytes = always_bytes always_start n (decimal g.width) e rest in
    let words : spelled_form (printed_always m g) ++ ws ≡ (name (codes "always") ∷ sign (codes "@") ∷ open_ ∷ name (codes "posedge") ∷ name (codes "clk") ∷ close ∷ name (codes "if") ∷ open_ ∷ name (codes "rst") ∷ close
    ∷ name n ∷ takes ∷ bits (zero_bits g.width) ∷ semicolon ∷ name (codes "else") ∷ name n ∷ takes ∷ (x ++ (semicolon ∷ ws))) = simp append_assoc in
    subst (λ (t : List ℕ). Reads t (spelled_form (printed_always m g) ++ ws)) (sym bytes)
    (subst (λ (vs : List Word). Reads (always_start ++ (n ++ (codes " <= " ++ ((decimal g.width ++ codes "'b0") ++ (codes "; else " ++ (n ++ (codes " <= " ++ (e ++ (codes ";\n" ++ rest))))))))) vs) (sym words) all)

reads_always_all : (m : Circuit) (p : IsPrintable m) (gs : List Register) (rest : List ℕ) (ws : List Word) → AllByRecursion (HasNext m) gs → Reads rest ws
    → Reads (flat_map (always_line m) gs ++ rest) (words_on (map (printed_always m) gs) ++ ws)
reads_always_all m p [] rest ws h r = r
reads_always_all m p (g ∷ gs) rest ws h r =
    let all = reads_always m p g (flat_map (always_line m) gs ++ rest) (words_on (map (printed_always m) gs) ++ ws) h.0 (reads_always_all m p gs rest ws h.1 r) in
    subst (λ (t : List ℕ). Reads t ((spelled_form (printed_always m g) ++ words_on (map (printed_always m) gs)) ++ ws)) (sym (append_assoc (always_line m g) (flat_map (always_line m) gs) rest))
    (subst (λ (vs : List Word). Reads (always_line m g ++ (flat_map (always_line m) gs ++ rest)) vs) (sym (append_assoc (spelled_form (printed_always m g)) (words_on (map (printed_always m) gs)) ws)) all)

-- ---- the whole text

module_bytes : (h i o x c is os ws rs a l e : List ℕ) → (((h ++ i) ++ o) ++ x) ++ ((((c ++ is) ++ os) ++ ws) ++ rs) ++ ((a ++ l) ++ e)
    ≡ h ++ (i ++ (o ++ (x ++ (c ++ (is ++ (os ++ (ws ++ (rs ++ (a ++ (l ++ (e ++ [])))))))))))
module_bytes h i o x c is os ws rs a l e = simp (append_assoc, append-nil)

module_words : (h : Form) (c i o w r a l : List Form)
    → spelled_form h ++ (words_on c ++ (words_on i ++ (words_on o ++ (words_on w ++ (words_on r ++ (words_on a ++ (words_on l ++ (name (codes "endmodule") ∷ []))))))))
    ≡ words_on (((h ∷ ((((c ++ i) ++ o) ++ w) ++ r)) ++ a) ++ l ++ End ∷ [])
module_words h c i o w r a l = simp (append_assoc, append-nil, flat_map-append)

as_words : {text : List ℕ} {ws vs : List Word} → ws ≡ vs → Reads text ws → Reads text vs
as_words {text = text} e r = subst (λ (ws : List Word). Reads text ws) e r

pub reads_module : (m : Circuit) (p : IsPrintable m) → AllByRecursion (HasParts m) m.assigns → AllByRecursion (HasNext m) m.regs → Reads (module_text m) (words_on (printed_statements m))
unfolding input_lines output_lines wire_lines
reads_module m p as_ gs =
    let end : Reads (codes "endmodule\n" ++ []) (name (codes "endmodule") ∷ []) = reads_name (codes "endmodule") refl refl (reads_newline reads_nothing) in
    let always = reads_always_all m p m.regs _ _ gs end in
    let assigns = reads_assigns m p m.assigns _ _ as_ always in
    let regs = reads_each register_line printed_register is_register reads_register m.regs _ _ p.regs assigns in
    let wires = reads_each (around (codes "  wire ") (codes ";\n")) Wire is_own_name reads_wire m.wires _ _ p.wires regs in
    let outputs = reads_each (around (codes "  output out_") (codes ";\n")) (λ (n : List ℕ). Output (out_name n)) is_port_name reads_output m.outputs _ _ p.outputs wires in
    let inputs = reads_each (around (codes "  input in_") (codes ";\n")) (λ (n : List ℕ). Input (in_name n)) is_port_name reads_input m.inputs _ _ p.inputs outputs in
    let clock = reads_clock _ _ inputs in
    let all = reads_header m _ _ p clock in
    let header = Header (codes "race") (printed_ports m) in
    let words = module_words header (Input (codes "clk") ∷ Input (codes "rst") ∷ []) (map (λ (n : List ℕ). Input (in_name n)) m.inputs) (map (λ (n : List ℕ). Output (out_name n)) m.outputs) (map Wire m.wires) (map printed_register m.regs) (map (printed_assign m) m.assigns) (map (printed_always m) m.regs) in
    let forms : words_on (((header ∷ ((((Input (codes "clk") ∷ Input (codes "rst") ∷ map (λ (n : List ℕ). Input (in_name n)) m.inputs) ++ map (λ (n : List ℕ). Output (out_name n)) m.outputs) ++ map Wire m.wires) ++ map printed_register m.regs)) ++ map (printed_assign m) m.assigns) ++ map (printed_always m) m.regs ++ End ∷ []) ≡ words_on (printed_statements m)
    = ap (λ (is : List Form). words_on (((header ∷ ((((Input (codes "clk") ∷ Input (codes "rst") ∷ is) ++ map (λ (n : List ℕ). Output (out_name n)) m.outputs) ++ map Wire m.wires) ++ map printed_register m.regs)) ++ map (printed_assign m) m.assigns) ++ map (printed_always m) m.regs ++ End ∷ [])) (sym (map_map Input in_name m.inputs))
    ∙ ap (λ (os : List Form). words_on (((header ∷ ((((Input (codes "clk") ∷ Input (codes "rst") ∷ map Input (map in_name m.inputs)) ++ os) ++ map Wire m.wires) ++ map printed_register m.regs)) ++ map (printed_assign m) m.assigns) ++ map (printed_always m) m.regs ++ End ∷ [])) (sym (map_map Output out_name m.outputs)) in
    let bytes = module_bytes header_start (input_ports m) (output_ports m) (codes ");\n") clock_lines (input_lines m) (output_lines m) (wire_lines m) (flat_map register_line m.regs) (flat_map (assign_line m) m.assigns) (flat_map (always_line m) m.regs) (codes "endmodule\n") in
    subst (λ (t : List ℕ). Reads t (words_on (printed_statements m))) (sym bytes) (as_words (words ∙ forms) all)
