-- The form of an operator from those of its operands, with the comparison that it waits for.
use Rattle.std.specs.Prelude.{ℕ, ℤ, pos, neg_ℤ, ◌-ℤ◌, List}
use Rattle.refutation.specs.declared.assumption.Assumption.{Assumption}
use Rattle.refutation.specs.Path.{assumption}
use Rattle.term_store.specs.declared.node.Node.{Node}
use Rattle.term_store.specs.declared.node.Node.TheVariants as node
use Rattle.tree_check.specs.declared.form.Form.{Form}
use Rattle.tree_check.specs.declared.form.Form.TheVariants.{Never, Plus, Undecided}
use Rattle.tree_check.specs.Forms.{Known, compared, chosen, form_at, min_form, max_form, lt_form, inc_form}
use Rattle.case_split.specs.declared.comparison.Comparison.{Comparison}
use Rattle.case_split.specs.declared.comparison.Step.{Step}
use Rattle.case_split.specs.declared.comparison.Step.TheVariants.{Settled, Chosen}

-- whether x_i + c <= x_j + d chooses the first form or the second
abbrev pub choice : ℕ → ℕ → ℕ → ℕ → Form → Form → Step
choice i c j d yes_form no_form = Chosen (record { comparison = record { from = i; from_cycles = c; to = j; to_cycles = d }; yes = yes_form; no = no_form })

abbrev pub min_step : Form → Form → Step
min_step Undecided g = Settled Undecided
min_step Never g = Settled g
min_step (Plus i c) Undecided = Settled Undecided
min_step (Plus i c) Never = Settled (Plus i c)
min_step (Plus i c) (Plus j d) = choice i c j d (Plus i c) (Plus j d)

abbrev pub max_step : Form → Form → Step
max_step Undecided g = Settled Undecided
max_step Never Undecided = Settled Undecided
max_step Never Never = Settled Never
max_step Never (Plus j d) = Settled Never
max_step (Plus i c) Undecided = Settled Undecided
max_step (Plus i c) Never = Settled Never
max_step (Plus i c) (Plus j d) = choice i c j d (Plus j d) (Plus i c)

abbrev pub lt_step : Form → Form → Step
lt_step Undecided g = Settled Undecided
lt_step Never Undecided = Settled Undecided
lt_step Never Never = Settled Never
lt_step Never (Plus j d) = Settled Never
lt_step (Plus i c) Undecided = Settled Undecided
lt_step (Plus i c) Never = Settled (Plus i c)
lt_step (Plus i c) (Plus j d) = choice j d i c Never (Plus i c)

-- what a node waits for, over the forms of the places
abbrev pub step : List Form → Node → Step
step forms (node.Input i) = Settled (Plus i 0)
step forms node.Never = Settled Never
step forms (node.Min a b) = min_step (form_at forms a.0) (form_at forms b.0)
step forms (node.Max a b) = max_step (form_at forms a.0) (form_at forms b.0)
step forms (node.Lt a b) = lt_step (form_at forms a.0) (form_at forms b.0)
step forms (node.Inc a c) = Settled (inc_form (form_at forms a.0) c)

-- the form of a node, over the forms of the places
abbrev pub node_form : Known → List Form → Node → Form
node_form known forms (node.Input i) = Plus i 0
node_form known forms node.Never = Never
node_form known forms (node.Min a b) = min_form known (form_at forms a.0) (form_at forms b.0)
node_form known forms (node.Max a b) = max_form known (form_at forms a.0) (form_at forms b.0)
node_form known forms (node.Lt a b) = lt_form known (form_at forms a.0) (form_at forms b.0)
node_form known forms (node.Inc a c) = inc_form (form_at forms a.0) c

-- the form that a step gives, where it is known which comparisons are so
abbrev pub step_form : Known → Step → Form
step_form known (Settled f) = f
step_form known (Chosen c) = chosen (compared known c.comparison.from c.comparison.from_cycles c.comparison.to c.comparison.to_cycles) c.yes c.no

-- by how many cycles the first input may be later than the second where a comparison is so
abbrev pub width : Comparison → ℤ
width c = pos c.to_cycles -ℤ pos c.from_cycles

-- what is assumed where it is so, and where it isn't
abbrev pub yes_assumption : Comparison → Assumption
yes_assumption c = assumption c.from c.to (width c)

abbrev pub no_assumption : Comparison → Assumption
no_assumption c = assumption c.to c.from (neg_ℤ (width c) -ℤ pos 1)
