-- What a reader keeps of the lines before.
use Rattle.std.specs.Prelude.{◌≡◌, ◌≤◌, ◌+◌, ℕ, Bool, true, false, not, nat_lt, is_some, List, [], ◌++◌, length, Option, Some, None, Result, Ok, Err}
use Rattle.std.specs.List.{list_all, AllByRecursion}
use Rattle.net_lang.specs.declared.reader.draft.Draft as source
use Rattle.rl_text.specs.declared.name_map.NameMap.{NameMap}
use Rattle.net_lang.specs.declared.reader.scope.Known.{Known}
use Rattle.net_lang.specs.declared.reader.scope.Measured.{Measured}
use Rattle.net_lang.specs.declared.reader.scope.Place.TheVariants as place
use Rattle.net_model.specs.Limits.{most_ports, most_joins, most_delays, most_nesting, most_span}
use Rattle.net_lang.specs.declared.reader.rules.Target.{Target}
use Rattle.net_lang.specs.declared.reader.rules.Target.TheVariants as target
use Rattle.line_lang.specs.declared.error.LineError.{LineError}
use Rattle.line_lang.specs.declared.error.LineError.TheVariants.{Broken, NoMemory}
use Rattle.net_lang.specs.declared.reader.rules.Rule.{Rule}
use Rattle.net_lang.specs.declared.reader.rules.Stage.{Stage}
use Rattle.net_lang.specs.declared.reader.rules.Stage.TheVariants as stage
use Rattle.net_model.specs.Formula.{Net, net}
use Rattle.net_model.specs.Rules.{is_let_name, is_port_name, are_distinct, names_of, declared_names, equations, nesting, IsOver, AreLets, let_spans, output_spans}
use Rattle.net_lang.specs.Forms.{Form}
use Rattle.net_lang.specs.LineRules.{SoFar, may_have, some_twice, joins_in, delays_in, is_over, first_of, first_rule, after}
use Rattle.rl_text.specs.NameMap.{find}
use Rattle.net_lang.specs.Known.{known, known_in}

abbrev pub net_of : source.Draft → Net
net_of d = net d.inputs.items d.lets.items d.outputs.items

abbrev pub so_far : source.Draft → SoFar
so_far d = record { stage = d.stage; net = net_of d }

-- which lists have been begun when the last form is of this kind
abbrev pub HasParts : Stage → Net → Type 0
HasParts stage.Start n = (n.inputs ≡ []) × (n.lets ≡ []) × (n.outputs ≡ [])
HasParts stage.Header n = (n.inputs ≡ []) × (n.lets ≡ []) × (n.outputs ≡ [])
HasParts stage.Inputs n = (1 ≤ length n.inputs) × (n.lets ≡ []) × (n.outputs ≡ [])
HasParts stage.Lets n = (1 ≤ length n.inputs) × (n.outputs ≡ [])
HasParts stage.Outputs n = (1 ≤ length n.inputs) × (1 ≤ length n.outputs)

-- a network in the making keeps all rules but those that it has an input and an output
pub record IsSound (n : Net) : Type 0 where
  pub few_inputs : length n.inputs ≤ most_ports
  pub few_outputs : length n.outputs ≤ most_ports
  pub input_names : list_all is_port_name n.inputs ≡ true
  pub let_names : list_all is_let_name (names_of n.lets) ≡ true
  pub output_names : list_all is_port_name (names_of n.outputs) ≡ true
  pub distinct : are_distinct (declared_names n) ≡ true
  pub lets_over : AreLets (length n.inputs) 0 n.lets
  pub outputs_over : AllByRecursion (λ e. IsOver (length n.inputs) (length n.lets) e.body) n.outputs
  pub few_joins : joins_in n ≤ most_joins
  pub few_delays : delays_in n ≤ most_delays
  pub shallow : AllByRecursion (λ e. nesting e.body ≤ most_nesting) (equations n)
  pub short_lets : AllByRecursion (λ s. s ≤ most_span) (let_spans n.lets)
  pub short_outputs : AllByRecursion (λ s. s ≤ most_span) (output_spans n)

-- some lines have begun these lists, and their network keeps the rules
pub record IsPart (s : SoFar) : Type 0 where
  pub parts : HasParts s.stage s.net
  pub sound : IsSound s.net

-- the draft knows its names and counts, and keeps the rules
pub record IsDraft (d : source.Draft) : Type 0 where
  pub names : (t : List ℕ) → find d.scope t ≡ known_in (net_of d) t
  pub joins : d.joins ≡ joins_in (net_of d)
  pub delays : d.delays ≡ delays_in (net_of d)
  pub part : IsPart (so_far d)

-- the draft has this form more
pub record Adds (old : source.Draft) (f : Form) (new : source.Draft) : Type 0 where
  pub now : so_far new ≡ after (so_far old) f
  pub draft : IsDraft new

-- of a form that its place allows: it breaks no rule, and the draft has it more; or it breaks this rule first
abbrev pub Judges : source.Draft → Form → source.Draft → Result (Unit {0}) (LineError Rule) → Type 0
Judges old f new (Ok u) = (first_rule (net_of old) f ≡ None) × Adds old f new
Judges old f new (Err (Broken r)) = first_rule (net_of old) f ≡ Some r
Judges old f new (Err NoMemory) = Unit {0}

-- the scope knows these inputs, and no more
abbrev pub KnowsInputs : NameMap Known → List (List ℕ) → Type 0
KnowsInputs s inputs = (t : List ℕ) → find s t ≡ known_in (net inputs [] []) t

-- whether these names are all new, and then the scope knows them and they follow the others
abbrev pub Declares : List (List ℕ) → List (List ℕ) → NameMap Known → List (List ℕ) → Bool → Type 0
Declares old names scope new true = (some_twice old names ≡ false) × (new ≡ old ++ names) × KnowsInputs scope new
Declares old names scope new false = some_twice old names ≡ true

-- what is known of the name of a let, which is after that many lets and has this span, or of an output
abbrev pub known_as : Target → ℕ → ℕ → Known
known_as target.Let at span = known (place.Let at) span
known_as target.Output at span = known place.Output 0

-- how many outputs a let or an output is
abbrev pub outputs_in : Target → ℕ
outputs_in target.Let = 0
outputs_in target.Output = 1

-- the first rule that a let or an output breaks, by what is kept and by what was measured
abbrev pub rule_by : source.Draft → Target → List ℕ → Measured → Option Rule
rule_by d k name m =
    first_of (not (may_have k name)) (is_some (find d.scope name)) (not m.known)
    (is_over (length d.inputs.items) (length d.outputs.items + outputs_in k) (d.joins + m.joins) (d.delays + m.delays)) (nat_lt most_span m.span)
