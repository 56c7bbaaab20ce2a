-- The form of a node, by what it waits for.
use Rattle.std.proofs.Common.{◌≡◌, ℕ, ◌<◌, List, length, refl, sym, ap, subst, ◌∙◌, true, inl, inr}
use Rattle.term_store.specs.declared.node.Node.{Node}
use Rattle.term_store.specs.declared.node.Node.TheVariants as node
use Rattle.term_store.specs.Tree.{Tree}
use Rattle.term_store.specs.Nodes.{node_at, IsNodes, IsNodeOver}
use Rattle.term_store.specs.Reach.{IsOperand}
use Rattle.term_store.specs.Trees.{tree}
use Rattle.term_store.specs.Places.{is_join_node, tree_by_places}
use Rattle.term_store.proofs.Counted.{follows}
use Rattle.tree_check.specs.declared.form.Form.{Form}
use Rattle.tree_check.specs.declared.form.Form.TheVariants.{Never, Plus, Undecided}
use Rattle.tree_check.specs.Forms.{Known, form_at, is_decided, min_form, max_form, lt_form, inc_form}
use Rattle.case_split.specs.declared.comparison.Choice.{Choice}
use Rattle.case_split.specs.declared.comparison.Step.TheVariants.{Settled, Chosen}
use Rattle.case_split.specs.Live.{Compares}
use Rattle.case_split.specs.Steps.{choice, min_step, max_step, lt_step, step, node_form, step_form}
use Rattle.case_split.specs.TermForms.{term_form}

min_steps : (known : Known) (f g : Form) → step_form known (min_step f g) ≡ min_form known f g
min_steps known Undecided g = refl
min_steps known Never g = refl
min_steps known (Plus i c) Undecided = refl
min_steps known (Plus i c) Never = refl
min_steps known (Plus i c) (Plus j d) = refl

max_steps : (known : Known) (f g : Form) → step_form known (max_step f g) ≡ max_form known f g
max_steps known Undecided g = refl
max_steps known Never Undecided = refl
max_steps known Never Never = refl
max_steps known Never (Plus j d) = refl
max_steps known (Plus i c) Undecided = refl
max_steps known (Plus i c) Never = refl
max_steps known (Plus i c) (Plus j d) = refl

lt_steps : (known : Known) (f g : Form) → step_form known (lt_step f g) ≡ lt_form known f g
lt_steps known Undecided g = refl
lt_steps known Never Undecided = refl
lt_steps known Never Never = refl
lt_steps known Never (Plus j d) = refl
lt_steps known (Plus i c) Undecided = refl
lt_steps known (Plus i c) Never = refl
lt_steps known (Plus i c) (Plus j d) = refl

pub steps_are_forms : (known : Known) (forms : List Form) (n : Node) → step_form known (step forms n) ≡ node_form known forms n
steps_are_forms known forms node.Never = refl
steps_are_forms known forms (node.Input i) = refl
steps_are_forms known forms (node.Min a b) = min_steps known (form_at forms a.0) (form_at forms b.0)
steps_are_forms known forms (node.Max a b) = max_steps known (form_at forms a.0) (form_at forms b.0)
steps_are_forms known forms (node.Lt a b) = lt_steps known (form_at forms a.0) (form_at forms b.0)
steps_are_forms known forms (node.Inc a c) = refl

-- where the places below have their terms' forms, a node's form is its term's
over_forms : (known : Known) (nodes : List Node) (forms : List Form) (m : ℕ) (n : Node) → IsNodeOver m n → ((q : ℕ) → q < m → form_at forms q ≡ term_form known (tree nodes q))
    → node_form known forms n ≡ term_form known (tree_by_places nodes n)
over_forms known nodes forms m node.Never over below = refl
over_forms known nodes forms m (node.Input i) over below = refl
over_forms known nodes forms m (node.Min a b) over below = rw (below a.0 over.0, below b.0 over.1) refl
over_forms known nodes forms m (node.Max a b) over below = rw (below a.0 over.0, below b.0 over.1) refl
over_forms known nodes forms m (node.Lt a b) over below = rw (below a.0 over.0, below b.0 over.1) refl
over_forms known nodes forms m (node.Inc a c) over below = rw (below a.0 over.0) refl

pub node_forms : (known : Known) (nodes : List Node) (forms : List Form) (m : ℕ) → IsNodes nodes → m < length nodes → ((q : ℕ) → q < m → form_at forms q ≡ term_form known (tree nodes q))
    → step_form known (step forms (node_at nodes m)) ≡ term_form known (tree nodes m)
node_forms known nodes forms m rules lt below =
    steps_are_forms known forms (node_at nodes m)
    ∙ (over_forms known nodes forms m (node_at nodes m) (rules.lower m lt) below
    ∙ sym (ap (λ (t : Tree). term_form known t) (follows nodes m rules lt)))

-- a choice is between two forms by the forms of two operands
pub record IsChoiceOf (forms : List Form) (n : Node) (c : Choice) : Type 0 where
  pub p : ℕ
  pub q : ℕ
  pub p_operand : IsOperand p n
  pub q_operand : IsOperand q n
  pub p_form : form_at forms p ≡ Plus c.comparison.from c.comparison.from_cycles
  pub q_form : form_at forms q ≡ Plus c.comparison.to c.comparison.to_cycles
  pub compares : (nodes : List Node) → Compares (tree_by_places nodes n) (tree nodes p) (tree nodes q)
  pub yes_decided : is_decided c.yes ≡ true
  pub no_decided : is_decided c.no ≡ true
  pub join : is_join_node n ≡ true

record IsBetween (f g : Form) (c : Choice) : Type 0 where
  first : f ≡ Plus c.comparison.from c.comparison.from_cycles
  second : g ≡ Plus c.comparison.to c.comparison.to_cycles
  yes_decided : is_decided c.yes ≡ true
  no_decided : is_decided c.no ≡ true

made : (i c j d : ℕ) (f g : Form) (h : Choice) → choice i c j d f g ≡ Chosen h → is_decided f ≡ true → is_decided g ≡ true → IsBetween (Plus i c) (Plus j d) h
made i c j d f g h e p q =
    let same : record { comparison = record { from = i; from_cycles = c; to = j; to_cycles = d }; yes = f; no = g } ≡ h = cc in
    subst (λ (h : Choice). IsBetween (Plus i c) (Plus j d) h) same (record { first = refl; second = refl; yes_decided = p; no_decided = q })

min_between : (f g : Form) (h : Choice) → min_step f g ≡ Chosen h → IsBetween f g h
min_between Undecided g h e = absurd (cc)
min_between Never g h e = absurd (cc)
min_between (Plus i c) Undecided h e = absurd (cc)
min_between (Plus i c) Never h e = absurd (cc)
min_between (Plus i c) (Plus j d) h e = made i c j d (Plus i c) (Plus j d) h e refl refl

max_between : (f g : Form) (h : Choice) → max_step f g ≡ Chosen h → IsBetween f g h
max_between Undecided g h e = absurd (cc)
max_between Never Undecided h e = absurd (cc)
max_between Never Never h e = absurd (cc)
max_between Never (Plus j d) h e = absurd (cc)
max_between (Plus i c) Undecided h e = absurd (cc)
max_between (Plus i c) Never h e = absurd (cc)
max_between (Plus i c) (Plus j d) h e = made i c j d (Plus j d) (Plus i c) h e refl refl

lt_between : (f g : Form) (h : Choice) → lt_step f g ≡ Chosen h → IsBetween g f h
lt_between Undecided g h e = absurd (cc)
lt_between Never Undecided h e = absurd (cc)
lt_between Never Never h e = absurd (cc)
lt_between Never (Plus j d) h e = absurd (cc)
lt_between (Plus i c) Undecided h e = absurd (cc)
lt_between (Plus i c) Never h e = absurd (cc)
lt_between (Plus i c) (Plus j d) h e = made j d i c Never (Plus i c) h e refl refl

pub choices_are : (forms : List Form) (n : Node) (h : Choice) → step forms n ≡ Chosen h → IsChoiceOf forms n h
choices_are forms node.Never h e = absurd (cc)
choices_are forms (node.Input i) h e = absurd (cc)
choices_are forms (node.Min a b) h e =
    let is = min_between (form_at forms a.0) (form_at forms b.0) h e in
    record { p = a.0; q = b.0; p_operand = inl refl; q_operand = inr refl; p_form = is.first; q_form = is.second; compares = λ nodes. inl refl; yes_decided = is.yes_decided; no_decided = is.no_decided; join = refl }
choices_are forms (node.Max a b) h e =
    let is = max_between (form_at forms a.0) (form_at forms b.0) h e in
    record { p = a.0; q = b.0; p_operand = inl refl; q_operand = inr refl; p_form = is.first; q_form = is.second; compares = λ nodes. inr (inl refl); yes_decided = is.yes_decided; no_decided = is.no_decided; join = refl }
choices_are forms (node.Lt a b) h e =
    let is = lt_between (form_at forms a.0) (form_at forms b.0) h e in
    record { p = b.0; q = a.0; p_operand = inr refl; q_operand = inl refl; p_form = is.first; q_form = is.second; compares = λ nodes. inr (inr refl); yes_decided = is.yes_decided; no_decided = is.no_decided; join = refl }
choices_are forms (node.Inc a c) h e = absurd (cc)

-- a form that waits for nothing is decided, where the operands' are
min_settled : (f g h : Form) → is_decided f ≡ true → is_decided g ≡ true → min_step f g ≡ Settled h → is_decided h ≡ true
min_settled Undecided g h p q e = absurd (cc)
min_settled Never g h p q e = let same : g ≡ h = cc in subst (λ (h : Form). is_decided h ≡ true) same q
min_settled (Plus i c) Undecided h p q e = absurd (cc)
min_settled (Plus i c) Never h p q e = let same : Plus i c ≡ h = cc in subst (λ (h : Form). is_decided h ≡ true) same refl
min_settled (Plus i c) (Plus j d) h p q e = absurd (cc)

max_settled : (f g h : Form) → is_decided f ≡ true → is_decided g ≡ true → max_step f g ≡ Settled h → is_decided h ≡ true
max_settled Undecided g h p q e = absurd (cc)
max_settled Never Undecided h p q e = absurd (cc)
max_settled Never Never h p q e = let same : Never ≡ h = cc in subst (λ (h : Form). is_decided h ≡ true) same refl
max_settled Never (Plus j d) h p q e = let same : Never ≡ h = cc in subst (λ (h : Form). is_decided h ≡ true) same refl
max_settled (Plus i c) Undecided h p q e = absurd (cc)
max_settled (Plus i c) Never h p q e = let same : Never ≡ h = cc in subst (λ (h : Form). is_decided h ≡ true) same refl
max_settled (Plus i c) (Plus j d) h p q e = absurd (cc)

lt_settled : (f g h : Form) → is_decided f ≡ true → is_decided g ≡ true → lt_step f g ≡ Settled h → is_decided h ≡ true
lt_settled Undecided g h p q e = absurd (cc)
lt_settled Never Undecided h p q e = absurd (cc)
lt_settled Never Never h p q e = let same : Never ≡ h = cc in subst (λ (h : Form). is_decided h ≡ true) same refl
lt_settled Never (Plus j d) h p q e = let same : Never ≡ h = cc in subst (λ (h : Form). is_decided h ≡ true) same refl
lt_settled (Plus i c) Undecided h p q e = absurd (cc)
lt_settled (Plus i c) Never h p q e = let same : Plus i c ≡ h = cc in subst (λ (h : Form). is_decided h ≡ true) same refl
lt_settled (Plus i c) (Plus j d) h p q e = absurd (cc)

inc_settled : (f : Form) (c : ℕ) → is_decided f ≡ true → is_decided (inc_form f c) ≡ true
inc_settled Undecided c p = p
inc_settled Never c p = refl
inc_settled (Plus i b) c p = refl

pub settled_is_decided : (forms : List Form) (n : Node) (h : Form) → ((k : ℕ) → is_decided (form_at forms k) ≡ true) → step forms n ≡ Settled h → is_decided h ≡ true
settled_is_decided forms node.Never h d e = let same : Never ≡ h = cc in subst (λ (h : Form). is_decided h ≡ true) same refl
settled_is_decided forms (node.Input i) h d e = let same : Plus i 0 ≡ h = cc in subst (λ (h : Form). is_decided h ≡ true) same refl
settled_is_decided forms (node.Min a b) h d e = min_settled (form_at forms a.0) (form_at forms b.0) h (d a.0) (d b.0) e
settled_is_decided forms (node.Max a b) h d e = max_settled (form_at forms a.0) (form_at forms b.0) h (d a.0) (d b.0) e
settled_is_decided forms (node.Lt a b) h d e = lt_settled (form_at forms a.0) (form_at forms b.0) h (d a.0) (d b.0) e
settled_is_decided forms (node.Inc a c) h d e =
    let same : inc_form (form_at forms a.0) c ≡ h = cc in subst (λ (h : Form). is_decided h ≡ true) same (inc_settled (form_at forms a.0) c (d a.0))
