-- What the reader keeps of the statements so far.
use Rattle.std.specs.Prelude.{◌≡◌, ◌<◌, ℕ, Bool, true, false, not, ◌&&◌, ◌||◌, nat_lt, List, length, map, slice_get, slice_index_or, slice_set, Option, Some, None, is_some, Result, Ok, Err, bytes_eq, []}
use Rattle.std.specs.List.{list_all, list_any}
use Rattle.circuit.specs.declared.bit.Target.{Target}
use Rattle.circuit.specs.declared.bit.Target.TheVariants as target
use Rattle.circuit.specs.Circuit.{Logic, Register}
use Rattle.circuit.specs.Names.{is_own_name}
use Rattle.rl_text.specs.Lexemes.{Lexeme}
use Rattle.rl_time.specs.declared.time.NoMemory.{NoMemory}
use Rattle.verilog_text.specs.Statements.{Statement, AreStatements}
use Rattle.verilog_text.specs.Spelling.{AllStand}
use Rattle.verilog_laws.specs.Sound.{IsSound}
use Rattle.verilog_read.specs.declared.error.VerilogError.{VerilogError}
use Rattle.verilog_read.specs.Outcome.{Names, Fails}
use Rattle.verilog_text.specs.Grammar.{Form, Header, Expression, Next}
use Rattle.verilog_text.specs.Judging.{SoFar, nothing_yet, found, bits_of, is_clock_or_reset, is_input_port, is_output_port, is_next, register_of, is_given, first_rule, after, has_form, zero_bits, target_of, expression_of}
use Rattle.verilog_read.specs.declared.draft.Draft as source
use Rattle.verilog_read.specs.declared.judged.Judged as source_judged
use Rattle.verilog_read.specs.declared.scope.Meaning as source_meaning
use Rattle.verilog_read.specs.declared.scope.Meaning.TheVariants as m
use Rattle.verilog_read.specs.declared.draft.Fault.{Fault}
use Rattle.verilog_read.specs.declared.draft.StepError.{StepError}
use Rattle.verilog_read.specs.declared.draft.StepError.TheVariants.{Broken}
use Rattle.verilog_read.specs.declared.draft.StepError.TheVariants as step
use Rattle.verilog_read.specs.Scope.{find}
use Rattle.verilog_read.specs.Known.{meaning_found, is_reg, knows_by, given_by, names_reg_by, IsJudged}

-- the flags of the places below n say what f says
pub record AreFlags (flags : List Bool) (n : ℕ) (f : ℕ → Bool) : Type 0 where
  pub len : length flags ≡ n
  pub each : (k : ℕ) → k < n → slice_index_or flags k false ≡ f k

-- the draft is of these statements, which break no rule
pub record IsDraft (d : source.Draft) (x : SoFar) : Type 0 where
  pub to_declare : map (λ p. p.now) d.to_declare.items ≡ x.to_declare
  pub names : (t : List ℕ) → meaning_found (find d.scope t) ≡ found t x.entries
  pub inputs : d.inputs.items ≡ x.inputs
  pub outputs : d.outputs.items ≡ x.outputs
  pub wires : d.wires.items ≡ x.wires
  pub regs : d.regs.items ≡ map register_of x.regs
  pub assigns : d.assigns.items ≡ x.assigns
  pub given_wires : AreFlags d.given_wires.items (length x.wires) (λ w. is_given x.assigns (target.Wire w))
  pub given_outputs : AreFlags d.given_outputs.items (length x.outputs) (λ o. is_given x.assigns (target.Out o))
  pub updated : d.updated.items ≡ map (λ r. is_some r.next) x.regs
  pub bits : d.bits ≡ bits_of x.regs
  pub sound : IsSound x

-- the draft is of some statements
abbrev pub IsOfSome : source.Draft → Type 0
IsOfSome d = (x : SoFar) × IsDraft d x

-- a statement that breaks no rule leads from one draft to the other
abbrev pub Adds : source.Draft → Form → source.Draft → Type 0
Adds old f new = (x : SoFar) → IsDraft old x → IsSound (after x f) → first_rule x f ≡ None → IsDraft new (after x f)

-- the statement breaks no rule, and the draft has it more; or it breaks this rule first
abbrev pub Judges : source.Draft → Form → source.Draft → Result (Unit {0}) StepError → Type 0
Judges old f new (Ok u) = (x : SoFar) → IsDraft old x → (first_rule x f ≡ None → IsSound (after x f)) →
    (first_rule x f ≡ None) × IsDraft new (after x f)
Judges old f new (Err (Broken r)) = (x : SoFar) → IsDraft old x → first_rule x f ≡ Some r
Judges old f new (Err step.NoMemory) = Unit {0}

-- a header is the first statement; any other is after some
abbrev pub IsReady : source.Draft → Form → Type 0
IsReady d (Header n ports) = IsDraft d nothing_yet
IsReady d _ = IsOfSome d

-- the draft of no statements
pub record IsEmpty (d : source.Draft) : Type 0 where
  pub to_declare : d.to_declare.items ≡ []
  pub scope : (t : List ℕ) → find d.scope t ≡ None
  pub inputs : d.inputs.items ≡ []
  pub outputs : d.outputs.items ≡ []
  pub wires : d.wires.items ≡ []
  pub regs : d.regs.items ≡ []
  pub assigns : d.assigns.items ≡ []
  pub given_wires : d.given_wires.items ≡ []
  pub given_outputs : d.given_outputs.items ≡ []
  pub updated : d.updated.items ≡ []
  pub bits : d.bits ≡ 0

-- One more statement, after some that break no rule, or the first of which breaks this rule. If one did, that stays so.
-- Else the statement breaks no rule, and the draft has it more; or it breaks one first.
abbrev pub JudgesNext : source.Draft → Option Fault → Statement → source.Draft → Result (Option Fault) NoMemory → Type 0
JudgesNext old (Some b) s new (Ok c) = c ≡ Some b
JudgesNext old None s new (Ok None) = Judges old s.form new (Ok tt)
JudgesNext old None s new (Ok (Some c)) = (c.line ≡ s.line) × Judges old s.form new (Err (Broken c.rule))
JudgesNext old b s new (Err e) = Unit {0}

-- the words are statements that break no rule, and the draft is of them; or this is the first fault, where the text ends on this line
abbrev pub IsWhole : List Lexeme → ℕ → Result source.Draft VerilogError → Type 0
IsWhole ls end (Ok d) = (ss : List Statement) × (x : SoFar) × AreStatements ls ss × AllStand nothing_yet ss x × IsDraft d x
IsWhole ls end (Err e) = Names e (Fails ls end)

-- all of this is found out of an expression, by the draft
abbrev pub IsJudgedBy : source.Draft → Expression → source_judged.Judged → Type 0
IsJudgedBy d e x = IsJudged (find d.scope) d.given_wires.items d.regs.items e x

-- ---- rules by a draft

abbrev pub is_misnamed_by : source.Draft → List ℕ → Bool
is_misnamed_by d n = nat_lt 40 (length n) || is_some (find d.scope n)

abbrev pub is_misplaced_by : source.Draft → List ℕ → Bool
is_misplaced_by d n =
    not (is_next n (map (λ p. p.now) d.to_declare.items)) || nat_lt 0 (length d.wires.items) || nat_lt 0 (length d.regs.items)

abbrev pub input_misnamed_by : source.Draft → List ℕ → Bool
input_misnamed_by d n = is_misnamed_by d n || is_misplaced_by d n || not (is_clock_or_reset n || is_input_port n)

abbrev pub output_misnamed_by : source.Draft → List ℕ → Bool
output_misnamed_by d n = is_misnamed_by d n || is_misplaced_by d n || not (is_output_port n)

abbrev pub own_misnamed_by : source.Draft → List ℕ → Bool
own_misnamed_by d n =
    is_misnamed_by d n || not (is_own_name n) || list_any (λ p. bytes_eq n p.now) d.to_declare.items

-- an assign gives the target, by the flags of wires and outputs
abbrev pub is_assigned_by : List Bool → List Bool → Option Target → Bool
is_assigned_by wires outputs None = false
is_assigned_by wires outputs (Some (target.Wire w)) = slice_index_or wires w false
is_assigned_by wires outputs (Some (target.Out o)) = slice_index_or outputs o false

abbrev pub is_update_reg : Option Register → List ℕ → List ℕ → Next → Bool
is_update_reg None z s e = true
is_update_reg (Some r) z s e = bytes_eq s r.name && bytes_eq z (zero_bits r.width) && has_form r.name r.width e

-- these registers, where the one at this place takes this
abbrev pub set_register : ℕ → Option Register → Logic → List Register → List Register
set_register k None bit regs = regs
set_register k (Some r) bit regs = slice_set regs k (record r { next = bit })

-- a port has no declaration, or a flag is not set
abbrev pub is_unfinished_by : source.Draft → Bool
is_unfinished_by d =
    nat_lt 0 (length d.to_declare.items) || not (list_all (λ b. b) d.given_wires.items)
    || not (list_all (λ b. b) d.given_outputs.items) || not (list_all (λ b. b) d.updated.items)

abbrev pub assign_misnamed_by : source.Draft → List ℕ → Expression → Bool
assign_misnamed_by d n e = not (is_some (target_of (meaning_found (find d.scope n)))) || not (knows_by (find d.scope) e)

abbrev pub assign_misordered_by : source.Draft → List ℕ → Expression → Bool
assign_misordered_by d n e =
    not (given_by (find d.scope) d.given_wires.items e)
    || is_assigned_by d.given_wires.items d.given_outputs.items (target_of (meaning_found (find d.scope n)))

-- a name outside of the expression means no register
abbrev pub regs_misnamed_by : source.Draft → List ℕ → List ℕ → Next → Bool
regs_misnamed_by d r s e =
    not (is_reg (find d.scope r)) || not (is_reg (find d.scope s)) || not (names_reg_by (find d.scope) e)

abbrev pub always_misnamed_by : source.Draft → List ℕ → List ℕ → Next → Bool
always_misnamed_by d r s e = regs_misnamed_by d r s e || not (knows_by (find d.scope) (expression_of e))

abbrev pub update_at : List Register → Option source_meaning.Meaning → List ℕ → List ℕ → Next → Bool
update_at regs (Some (m.Reg r)) z s e = is_update_reg (slice_get regs r) z s e
update_at regs _ z s e = true
