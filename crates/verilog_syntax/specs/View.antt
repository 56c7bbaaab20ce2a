-- What the statements of the code are.
use Rattle.std.specs.Prelude.{ℕ, List, map, Option, Some, None}
use denote.Bor.{Bor}
use Rattle.verilog_syntax.specs.declared.written.Written.{Written}
use Rattle.verilog_syntax.specs.declared.written.Written.TheVariants as w
use Rattle.verilog_syntax.specs.declared.written.Next as source_next
use Rattle.verilog_syntax.specs.declared.written.Next.TheVariants as n
use Rattle.verilog_syntax.specs.declared.statement.Form as source_form
use Rattle.verilog_syntax.specs.declared.statement.Form.TheVariants as f
use Rattle.verilog_syntax.specs.declared.statement.Statement as source
use Rattle.verilog_text.specs.Grammar.{Expression, Low, High, Name, Bit, Not, Group, And, Or, Next, Whole, Shifted, Form, Header, Input, Output, Wire, Reg, Assign, Always, End}
use Rattle.verilog_text.specs.Statements.{Statement}

abbrev pub expression : Written → Expression
expression w.Low = Low
expression w.High = High
expression (w.Name t) = Name t.now
expression (w.Bit t k) = Bit t.now k.now
expression (w.Not' p a) = Not (expression a)
expression (w.Group' p a) = Group (expression a)
expression (w.And' p a q b) = And (expression a) (expression b)
expression (w.Or' p a q b) = Or (expression a) (expression b)

abbrev pub next : source_next.Next → Next
next (n.Whole e) = Whole (expression e)
next (n.Shifted r k e) = Shifted r.now k.now (expression e)

abbrev pub range : Option (Bor (List ℕ)) → Option (List ℕ)
range None = None
range (Some m) = Some m.now

abbrev pub form : source_form.Form → Form
form (f.Header n ports) = Header n.now (map (λ p. p.now) ports.items)
form (f.Input n) = Input n.now
form (f.Output n) = Output n.now
form (f.Wire n) = Wire n.now
form (f.Reg m n) = Reg (range m) n.now
form (f.Assign n e) = Assign n.now (expression e)
form (f.Always a) = Always a.value.reset.now a.value.zero.now a.value.update.now (next a.value.next)
form f.End = End

abbrev pub statement : source.Statement → Statement
statement s = record { form = form s.form; line = s.line }
