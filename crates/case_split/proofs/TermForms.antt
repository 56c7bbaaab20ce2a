-- The form of a network's output is the form of its term.
use Rattle.std.proofs.Common.{◌≡◌, ℕ, zero, suc, ◌+◌, refl, ap, sym, ◌∙◌, arith, Bool, true, false, nat_eq, List, [], ◌∷◌, ◌++◌, map, fold, if◌then◌else◌}
use Rattle.std.proofs.lemmas.Bool.Decides.{nat_tests}
use Rattle.std.proofs.lemmas.List.{map-append}
use Rattle.net_model.specs.Formula as formula
use Rattle.net_model.specs.Formula.{Formula, Equation, Net}
use Rattle.term_store.specs.Tree.{Tree, Inc}
use Rattle.term_store.specs.Terms.{tree_in, delayed, tree_over, let_trees, network_trees}
use Rattle.tree_check.specs.declared.form.Form.{Form}
use Rattle.tree_check.specs.declared.form.Form.TheVariants as form
use Rattle.tree_check.specs.Forms.{Known, min_form, max_form, lt_form, inc_form, form_at, let_forms, output_form}
use Rattle.tree_check.specs.Forms as net
use Rattle.case_split.specs.TermForms.{term_form}

inc_by_zero : (f : Form) → f ≡ inc_form f 0
inc_by_zero form.Never = refl
inc_by_zero (form.Plus i c) = let e : c ≡ c + 0 = omega arith in ap (form.Plus i) e
inc_by_zero form.Undecided = refl

module _ (known : Known) where
  form_in : (ts : List Tree) (j : ℕ) → term_form known (tree_in ts j) ≡ form_at (map (term_form known) ts) j
  form_in [] j = refl
  form_in (t ∷ ts) zero = refl
  form_in (t ∷ ts) (suc j) = form_in ts j

  form_delayed : (t : Tree) (c : ℕ) → term_form known (delayed t c) ≡ inc_form (term_form known t) c
  form_delayed t c = go (nat_eq c 0) refl
    where
      go : (b : Bool) → nat_eq c 0 ≡ b → term_form known (delayed t c) ≡ inc_form (term_form known t) c
      go true e =
          let none : c ≡ 0 = grind (arith, nat_tests, e) in
          ap (λ p. term_form known (if p then t else Inc t c)) e ∙ inc_by_zero (term_form known t) ∙ ap (inc_form (term_form known t)) (sym none)
      go false e = ap (λ p. term_form known (if p then t else Inc t c)) e

  form_over : (ts : List Tree) (f : Formula) → term_form known (tree_over ts f) ≡ net.form known (map (term_form known) ts) f
  form_over ts formula.Never = refl
  form_over ts (formula.Input i) = refl
  form_over ts (formula.Named j) = form_in ts j
  form_over ts (formula.Min a b) = λ i. min_form known (form_over ts a i) (form_over ts b i)
  form_over ts (formula.Max a b) = λ i. max_form known (form_over ts a i) (form_over ts b i)
  form_over ts (formula.Lt a b) = λ i. lt_form known (form_over ts a i) (form_over ts b i)
  form_over ts (formula.Inc a c) = form_delayed (tree_over ts a) c ∙ ap (λ f. inc_form f c) (form_over ts a)

  lets_from : (ts : List Tree) (es : List Equation) →
      map (term_form known) (fold (λ trees e. trees ++ tree_over trees e.body ∷ []) ts es)
      ≡ fold (λ forms e. forms ++ net.form known forms e.body ∷ []) (map (term_form known) ts) es
  lets_from ts [] = refl
  lets_from ts (e ∷ es) =
      lets_from (ts ++ tree_over ts e.body ∷ []) es
      ∙ ap (λ (forms : List Form). fold (λ (forms : List Form) (e : Equation). forms ++ net.form known forms e.body ∷ []) forms es)
      (map-append (term_form known) ts (tree_over ts e.body ∷ []) ∙ ap (λ (f : Form). map (term_form known) ts ++ f ∷ []) (form_over ts e.body))

  outputs_over : (ts : List Tree) (es : List Equation) → map (term_form known) (map (λ e. tree_over ts e.body) es) ≡ map (λ e. net.form known (map (term_form known) ts) e.body) es
  outputs_over ts [] = refl
  outputs_over ts (e ∷ es) = λ i. form_over ts e.body i ∷ outputs_over ts es i

  forms_are : (n : Net) → map (term_form known) (network_trees n) ≡ map (λ e. net.form known (let_forms known n.lets) e.body) n.outputs
  forms_are n =
      outputs_over (let_trees n.lets) n.outputs
      ∙ ap (λ (forms : List Form). map (λ (e : Equation). net.form known forms e.body) n.outputs) (lets_from [] n.lets)

  pub network_form : (n : Net) (k : ℕ) → output_form known n k ≡ term_form known (tree_in (network_trees n) k)
  network_form n k = ap (λ (forms : List Form). form_at forms k) (sym (forms_are n)) ∙ sym (form_in (network_trees n) k)
