-- Stages of the walk: a place more has its form, or facts come.
use Rattle.std.proofs.Common.{◌≡◌, ℕ, zero, suc, ◌+◌, ◌≤◌, ◌<◌, List, [], ◌∷◌, ◌++◌, length, drop, refl, sym, ap, subst, ◌∙◌, arith, Bool, true, false, ◌⊎◌, inl, inr}
use Rattle.std.specs.Prelude.{if◌then◌else◌, ◌||◌, Option, Some}
use Rattle.std.specs.List.{All}
use Rattle.std.proofs.lemmas.List.Elements.{All-push, All-append, All-from_get_or}
use Rattle.refutation.specs.declared.item.Fact.{Fact}
use Rattle.refutation.specs.Cases.{Path}
use Rattle.term_store.specs.declared.node.Node.{Node}
use Rattle.term_store.specs.declared.node.Node.TheVariants as node
use Rattle.term_store.specs.Nodes.{node_at, IsNodeOver}
use Rattle.term_store.specs.Reach.{IsOperand}
use Rattle.term_store.specs.Places.{is_join_node}
use Rattle.term_store.specs.Trees.{tree}
use Rattle.tree_check.specs.declared.form.Form.{Form}
use Rattle.tree_check.specs.declared.form.Form.TheVariants.{Never, Plus, Undecided}
use Rattle.tree_check.specs.Forms.{Known, compared, chosen, form_at, is_decided}
use Rattle.tree_check.specs.Room.{IsWithin}
use Rattle.tree_check.specs.Valid.{listed, fact_says}
use Rattle.case_split.specs.declared.comparison.Choice.{Choice}
use Rattle.case_split.specs.declared.comparison.Step.{Step}
use Rattle.case_split.specs.declared.comparison.Step.TheVariants.{Chosen}
use Rattle.case_split.specs.Decided.{AreRight}
use Rattle.case_split.specs.Stages.{Stage, settled}
use Rattle.case_split.specs.Steps.{step, step_form}
use Rattle.case_split.specs.Task.{Task, IsTask, IsStage, IsFact, joins}
use Rattle.case_split.specs.TermForms.{term_form, IsWithinKnown}
use Rattle.case_split.specs.Walk.{joins_left, IsAt}
use Rattle.case_split.proofs.Implied.{right_more}
use Rattle.case_split.proofs.Stays.{forms_stay, forms_are_small, forms_name_inputs}
use Rattle.case_split.proofs.Choices.{node_forms, IsChoiceOf, choices_are}

-- forms with one more
pub form_before : (forms : List Form) (f : Form) (k : ℕ) → k < length forms → form_at (forms ++ f ∷ []) k ≡ form_at forms k
form_before [] f k lt = absurd (omega (arith, lt))
form_before (g ∷ forms) f zero lt = refl
form_before (g ∷ forms) f (suc k) lt = form_before forms f k (omega (arith, lt))

pub form_last : (forms : List Form) (f : Form) → form_at (forms ++ f ∷ []) (length forms) ≡ f
form_last [] f = refl
form_last (g ∷ forms) f = form_last forms f

pub decided_at : (forms : List Form) (k : ℕ) → All (λ f. is_decided f ≡ true) forms → is_decided (form_at forms k) ≡ true
decided_at forms k all = go forms k (λ i lt. all i Never lt)
  where
    go : (forms : List Form) (k : ℕ) → ((i : ℕ) → i < length forms → is_decided (form_at forms i) ≡ true) → is_decided (form_at forms k) ≡ true
    go [] k h = refl
    go (f ∷ forms) zero h = h 0 (omega arith)
    go (f ∷ forms) (suc k) h = go forms k (λ i lt. h (suc i) (omega (arith, lt)))

-- what facts say, more facts say too
pub says_more : (facts more : List Fact) → IsWithinKnown (listed facts) (listed (facts ++ more))
says_more [] more i j w h = absurd (no h)
  where
    no : false ≡ true → ⊥
    no h = cc
says_more (f ∷ facts) more i j w h = go (fact_says f i j w) (says_more facts more i j w) h
  where
    go : (b : Bool) → (listed facts i j w ≡ true → listed (facts ++ more) i j w ≡ true) → (b || listed facts i j w) ≡ true → (b || listed (facts ++ more) i j w) ≡ true
    go true rest h = refl
    go false rest h = rest h

pub says_last : (facts more : List Fact) → IsWithinKnown (listed more) (listed (facts ++ more))
says_last [] more i j w h = h
says_last (f ∷ facts) more i j w h = go (fact_says f i j w) (says_last facts more i j w h)
  where
    go : (b : Bool) → listed (facts ++ more) i j w ≡ true → (b || listed (facts ++ more) i j w) ≡ true
    go true h = refl
    go false h = h

-- joins of the last nodes
pub joins_drop : (nodes : List Node) (k : ℕ) → k < length nodes → joins (drop k nodes) ≡ (if is_join_node (node_at nodes k) then 1 else 0) + joins (drop (suc k) nodes)
joins_drop [] k lt = absurd (omega (arith, lt))
joins_drop (n ∷ nodes) zero lt = refl
joins_drop (n ∷ nodes) (suc k) lt = joins_drop nodes k (omega (arith, lt))

pub joins_fewer : (nodes : List Node) (k : ℕ) → k < length nodes → joins (drop (suc k) nodes) ≤ joins (drop k nodes)
joins_fewer nodes k lt = let e = joins_drop nodes k lt in omega (arith, e)

-- facts come
module _ (task : Task) (s : Stage) (more : List Fact) (at : IsAt task s) (right : AreRight s.path more) (small : All (IsFact task.inputs) more) where
  with_facts : Stage
  with_facts = record { path = s.path; facts = s.facts ++ more; forms = s.forms }

  pub facts_come : IsAt task (record { path = s.path; facts = s.facts ++ more; forms = s.forms })
  facts_come = record {
    stage = record {
      premises = at.stage.premises;
      possible = at.stage.possible;
      right = right_more s.path s.facts more at.stage.right right;
      facts = All-append (IsFact task.inputs) s.facts more at.stage.facts small;
      few = at.stage.few;
      forms = λ place lt.
          let same = at.stage.forms place lt in
          same ∙ sym (forms_stay s.path at.stage.possible s.facts (s.facts ++ more) at.stage.right (right_more s.path s.facts more at.stage.right right) (says_more s.facts more) (tree task.nodes place)
          (subst (λ (f : Form). is_decided f ≡ true) same (decided_at s.forms place at.stage.decided)));
      decided = at.stage.decided;
    };
    depth = at.depth;
  }

below_or_last : (k n : ℕ) → k < suc n → (k < n) ⊎ (k ≡ n)
below_or_last zero zero lt = inr refl
below_or_last zero (suc n) lt = inl (omega arith)
below_or_last (suc k) zero lt = absurd (omega (arith, lt))
below_or_last (suc k) (suc n) lt = elim (below_or_last k n (omega (arith, lt))) [ inl a ↦ inl (omega (arith, a)) | inr e ↦ inr (ap (λ (m : ℕ). suc m) e) ]

pub one_longer : (forms : List Form) (f : Form) → length (forms ++ f ∷ []) ≡ suc (length forms)
one_longer [] f = refl
one_longer (g ∷ forms) f = ap (λ (m : ℕ). suc m) (one_longer forms f)

-- the next place has its form
module _ (task : Task) (s : Stage) (st : Step) (f : Form) (rules : IsTask task) (stage : IsStage task s) (place : length s.forms < length task.nodes)
    (waits : step s.forms (node_at task.nodes (length s.forms)) ≡ st) (is : step_form (listed s.facts) st ≡ f) (decided : is_decided f ≡ true) where
  here : f ≡ term_form (listed s.facts) (tree task.nodes (length s.forms))
  here = sym is ∙ (ap (λ (t : Step). step_form (listed s.facts) t) (sym waits) ∙ node_forms (listed s.facts) task.nodes s.forms (length s.forms) rules.is_nodes place stage.forms)

  pub form_comes_there : IsStage task (settled s f)
  form_comes_there =
      let long = one_longer s.forms f in
      record {
        premises = stage.premises;
        possible = stage.possible;
        right = stage.right;
        facts = stage.facts;
        few = omega (arith, long, place);
        forms = λ k lt. elim (below_or_last k (length s.forms) (omega (arith, lt, long))) [
          | inl before ↦ form_before s.forms f k before ∙ stage.forms k before
          | inr last ↦ subst (λ (k : ℕ). form_at (s.forms ++ f ∷ []) k ≡ term_form (listed s.facts) (tree task.nodes k)) (sym last) (form_last s.forms f ∙ here)
        ];
        decided = All-push (λ f. is_decided f ≡ true) s.forms f stage.decided decided;
      }

  pub fewer_left : joins_left task (settled s f) ≤ joins_left task s
  fewer_left = rw (one_longer s.forms f) (joins_fewer task.nodes (length s.forms) place)

  pub form_comes : IsAt task s → IsAt task (settled s f)
  form_comes at = record { stage = form_comes_there; depth = let d = at.depth in let l = fewer_left in omega (arith, d, l) }

-- the constants of forms are small
pub small_forms : (task : Task) (s : Stage) → IsTask task → IsStage task s → All (IsWithin 1000000) s.forms
small_forms task s rules stage = All-from_get_or (IsWithin 1000000) s.forms Never (λ k lt.
    within (form_at s.forms k) (λ i c e. let le = forms_are_small (listed s.facts) (tree task.nodes k) i c (sym (stage.forms k lt) ∙ e) in
    let short = rules.short k (let few = stage.few in omega (arith, lt, few)) in omega (arith, le, short)))
  where
    within : (f : Form) → ((i c : ℕ) → f ≡ Plus i c → c ≤ 1000000) → IsWithin 1000000 f
    within Never h = tt
    within (Plus i c) h = h i c refl
    within Undecided h = tt

operand_below : (m p : ℕ) (n : Node) → IsNodeOver m n → IsOperand p n → p < m
operand_below m p node.Never over h = absurd h
operand_below m p (node.Input i) over h = absurd h
operand_below m p (node.Min a b) over h = elim h [ inl e ↦ omega (arith, e, over.0) | inr e ↦ omega (arith, e, over.1) ]
operand_below m p (node.Max a b) over h = elim h [ inl e ↦ omega (arith, e, over.0) | inr e ↦ omega (arith, e, over.1) ]
operand_below m p (node.Lt a b) over h = elim h [ inl e ↦ omega (arith, e, over.0) | inr e ↦ omega (arith, e, over.1) ]
operand_below m p (node.Inc a c) over h = omega (arith, h, over.0)

-- the next place waits for a choice
module _ (task : Task) (s : Stage) (c : Choice) (rules : IsTask task) (stage : IsStage task s) (place : length s.forms < length task.nodes)
    (waits : step s.forms (node_at task.nodes (length s.forms)) ≡ Chosen c) where
  pub the_choice : IsChoiceOf s.forms (node_at task.nodes (length s.forms)) c
  the_choice = choices_are s.forms (node_at task.nodes (length s.forms)) c waits

  pub p_below : the_choice.p < length s.forms
  p_below = operand_below (length s.forms) the_choice.p (node_at task.nodes (length s.forms)) (rules.is_nodes.lower (length s.forms) place) the_choice.p_operand

  pub q_below : the_choice.q < length s.forms
  q_below = operand_below (length s.forms) the_choice.q (node_at task.nodes (length s.forms)) (rules.is_nodes.lower (length s.forms) place) the_choice.q_operand

  pub p_form : term_form (listed s.facts) (tree task.nodes the_choice.p) ≡ Plus c.comparison.from c.comparison.from_cycles
  p_form = sym (stage.forms the_choice.p p_below) ∙ the_choice.p_form

  pub q_form : term_form (listed s.facts) (tree task.nodes the_choice.q) ≡ Plus c.comparison.to c.comparison.to_cycles
  q_form = sym (stage.forms the_choice.q q_below) ∙ the_choice.q_form

  pub from_input : c.comparison.from < task.inputs
  from_input = forms_name_inputs (listed s.facts) task.nodes task.inputs rules.is_nodes rules.inputs_are the_choice.p c.comparison.from c.comparison.from_cycles (let l = p_below in omega (arith, l, place)) p_form

  pub to_input : c.comparison.to < task.inputs
  to_input = forms_name_inputs (listed s.facts) task.nodes task.inputs rules.is_nodes rules.inputs_are the_choice.q c.comparison.to c.comparison.to_cycles (let l = q_below in omega (arith, l, place)) q_form

  pub from_small : c.comparison.from_cycles ≤ 1000000
  from_small =
      let le = forms_are_small (listed s.facts) (tree task.nodes the_choice.p) c.comparison.from c.comparison.from_cycles p_form in
      let short = rules.short the_choice.p (let l = p_below in omega (arith, l, place)) in
      omega (arith, le, short)

  pub to_small : c.comparison.to_cycles ≤ 1000000
  to_small =
      let le = forms_are_small (listed s.facts) (tree task.nodes the_choice.q) c.comparison.to c.comparison.to_cycles q_form in
      let short = rules.short the_choice.q (let l = q_below in omega (arith, l, place)) in
      omega (arith, le, short)

-- the stage after an answer
pub answered : (task : Task) (s s' : Stage) (n : ℕ) (more : List Fact) → IsAt task s → n ≡ task.inputs → s'.path ≡ s.path → s'.facts ≡ s.facts ++ more → s'.forms ≡ s.forms
    → AreRight s.path more → All (IsFact n) more → IsAt task s'
answered task s s' n more at inputs path facts forms right small =
    subst (λ (p : Path). IsAt task (record { path = p; facts = s'.facts; forms = s'.forms })) (sym path)
    (subst (λ (fs : List Fact). IsAt task (record { path = s.path; facts = fs; forms = s'.forms })) (sym facts)
    (subst (λ (gs : List Form). IsAt task (record { path = s.path; facts = s.facts ++ more; forms = gs })) (sym forms)
    (facts_come task s more at right (subst (λ (n : ℕ). All (IsFact n) more) inputs small))))

pub waits_there : (nodes : List Node) (forms forms' : List Form) (st : Step) → forms' ≡ forms → st ≡ step forms' (node_at nodes (length forms')) → step forms (node_at nodes (length forms)) ≡ st
waits_there nodes forms forms' st same e = sym (subst (λ (fs : List Form). st ≡ step fs (node_at nodes (length fs))) same e)

pub yes_form : (known : Known) (c : Choice) → compared known c.comparison.from c.comparison.from_cycles c.comparison.to c.comparison.to_cycles ≡ Some true → step_form known (Chosen c) ≡ c.yes
yes_form known c e = ap (λ (o : Option Bool). chosen o c.yes c.no) e

pub no_form : (known : Known) (c : Choice) → compared known c.comparison.from c.comparison.from_cycles c.comparison.to c.comparison.to_cycles ≡ Some false → step_form known (Chosen c) ≡ c.no
no_form known c e = ap (λ (o : Option Bool). chosen o c.yes c.no) e

-- the next place has the form that an answer chooses
pub choice_comes : (task : Task) (s s' t : Stage) (c : Choice) (f : Form) → IsTask task → IsAt task s → IsAt task s' → length s.forms < length task.nodes → step s.forms (node_at task.nodes (length s.forms)) ≡ Chosen c
    → s'.forms ≡ s.forms → step_form (listed s'.facts) (Chosen c) ≡ f → is_decided f ≡ true → t ≡ settled s' f → IsAt task t
choice_comes task s s' t c f rules at at' place waits same is decided e =
    let place' : length s'.forms < length task.nodes = subst (λ (gs : List Form). length gs < length task.nodes) (sym same) place in
    let waits' : step s'.forms (node_at task.nodes (length s'.forms)) ≡ Chosen c = subst (λ (gs : List Form). step gs (node_at task.nodes (length gs)) ≡ Chosen c) (sym same) waits in
    subst (λ (t : Stage). IsAt task t) (sym e) (form_comes task s' (Chosen c) f rules at'.stage place' waits' is decided at')
