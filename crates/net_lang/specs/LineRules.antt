-- The rules that a line of a network keeps, with respect to the lines before it.
use Rattle.std.specs.Prelude.{ℕ, Bool, true, false, not, ◌||◌, if◌then◌else◌, nat_lt, List, [], ◌∷◌, ◌++◌, length, Option, Some, None, sum_by}
use Rattle.std.specs.List.{list_any, list_all}
use Rattle.std.specs.Str.{bytes_eq}
use Rattle.net_lang.specs.declared.reader.rules.Rule.{Rule}
use Rattle.net_lang.specs.declared.reader.rules.Rule.TheVariants as rule
use Rattle.net_lang.specs.declared.reader.rules.Stage.{Stage}
use Rattle.net_lang.specs.declared.reader.rules.Stage.TheVariants as stage
use Rattle.net_model.specs.Limits.{most_ports, most_joins, most_delays, most_span}
use Rattle.net_lang.specs.declared.reader.rules.Target.{Target}
use Rattle.net_lang.specs.declared.reader.rules.Target.TheVariants as target
use Rattle.net_model.specs.Formula.{Equation, Net, net}
use Rattle.net_model.specs.Rules.{is_let_name, is_port_name, declared_names, equations, joins, delays, span, let_spans}
use Rattle.net_lang.specs.Grammar.{Expression}
use Rattle.net_lang.specs.Names.{resolved, knows}
use Rattle.net_lang.specs.Forms.{Form, Header, Inputs, Define}

-- what some lines of a text are: of which form the last is, and the network so far
pub record SoFar : Type 0 where
  pub stage : Stage
  pub net : Net

abbrev pub nothing_yet : SoFar
nothing_yet = record { stage = stage.Start; net = net [] [] [] }

-- which form a place allows
abbrev pub allows : Stage → Form → Bool
allows stage.Start Header = true
allows stage.Header (Inputs names) = true
allows stage.Inputs (Inputs names) = true
allows stage.Inputs (Define k name body) = true
allows stage.Lets (Define k name body) = true
allows stage.Outputs (Define target.Output name body) = true
allows _ _ = false

abbrev pub stage_after : Target → Stage
stage_after target.Let = stage.Lets
stage_after target.Output = stage.Outputs

abbrev pub stage_of : Form → Stage
stage_of Header = stage.Header
stage_of (Inputs names) = stage.Inputs
stage_of (Define k name body) = stage_after k

abbrev pub equation : Net → List ℕ → Expression → Equation
equation n name body = record { name = name; body = resolved n body }

-- the network with a let or an output more
abbrev pub with_equation : Target → Net → Equation → Net
with_equation target.Let n e = net n.inputs (n.lets ++ e ∷ []) n.outputs
with_equation target.Output n e = net n.inputs n.lets (n.outputs ++ e ∷ [])

-- the network with a line more
abbrev pub extended : Net → Form → Net
extended n Header = n
extended n (Inputs names) = net (n.inputs ++ names) n.lets n.outputs
extended n (Define k name body) = with_equation k n (equation n name body)

abbrev pub after : SoFar → Form → SoFar
after before f = record { stage = stage_of f; net = extended before.net f }

-- a name that a let or an output may have
abbrev pub may_have : Target → List ℕ → Bool
may_have target.Let name = is_let_name name
may_have target.Output name = is_port_name name

-- a name that the line declares is none that it may declare
abbrev pub has_bad_name : Form → Bool
has_bad_name Header = false
has_bad_name (Inputs names) = not (list_all is_port_name names)
has_bad_name (Define k name body) = not (may_have k name)

-- one of the names is among those before it
abbrev pub some_twice : List (List ℕ) → List (List ℕ) → Bool
some_twice before [] = false
some_twice before (n ∷ names) = list_any (bytes_eq n) before || some_twice (before ++ n ∷ []) names

abbrev pub names_declared : Form → List (List ℕ)
names_declared Header = []
names_declared (Inputs names) = names
names_declared (Define k name body) = name ∷ []

-- a name that the line declares is declared already, or earlier in the line
abbrev pub has_doubled_name : Net → Form → Bool
has_doubled_name n f = some_twice (declared_names n) (names_declared f)

-- a name in the line's expression is no input and no let
abbrev pub has_unknown_name : Net → Form → Bool
has_unknown_name n (Define k name body) = not (knows n body)
has_unknown_name n _ = false

-- how many of min, max and lt there are, and how many incs
abbrev pub joins_in : Net → ℕ
joins_in n = sum_by (λ e. joins e.body) (equations n)

abbrev pub delays_in : Net → ℕ
delays_in n = sum_by (λ e. delays e.body) (equations n)

abbrev pub is_over : ℕ → ℕ → ℕ → ℕ → Bool
is_over inputs outputs joins delays = nat_lt most_ports inputs || nat_lt most_ports outputs || nat_lt most_joins joins || nat_lt most_delays delays

-- there is more of something than a network may have
abbrev pub has_too_many : Net → Bool
has_too_many n = is_over (length n.inputs) (length n.outputs) (joins_in n) (delays_in n)

abbrev pub body_span : Net → Expression → ℕ
body_span n body = span (let_spans n.lets) (resolved n body)

-- the span of the line's expression is too great
abbrev pub is_too_late : Net → Form → Bool
is_too_late n (Define k name body) = nat_lt most_span (body_span n body)
is_too_late n _ = false

-- the first that holds, in the order of the rules
abbrev pub first_of : Bool → Bool → Bool → Bool → Bool → Option Rule
first_of bad doubled unknown many late =
    if bad then Some rule.Name else (if doubled then Some rule.Doubled else (if unknown then Some rule.Unknown else (if many then Some rule.Count else (if late then Some rule.Span else None))))

-- the first rule that a line breaks, which has a form that its place allows
unfoldable pub first_rule : Net → Form → Option Rule
first_rule n f = first_of (has_bad_name f) (has_doubled_name n f) (has_unknown_name n f) (has_too_many (extended n f)) (is_too_late n f)
