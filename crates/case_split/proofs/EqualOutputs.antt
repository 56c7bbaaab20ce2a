-- The outputs so far, each of which a tree shows to be equal.
use Rattle.std.proofs.Common.{◌≡◌, ℕ, suc, ◌+◌, ◌<◌, ◌≤◌, List, [], ◌∷◌, ◌++◌, length, take, get_or, refl, sym, ap, subst, ◌∙◌, arith, inl, inr}
use Rattle.std.proofs.Math.ListN.{get_or-append}
use Rattle.std.proofs.Math.Seq.{take-suc, get_or-append_seam}
use Rattle.std.proofs.lemmas.List.{map-append, length-append, take_all}
use Rattle.std.proofs.lemmas.Bool.{cases_lt}
use Rattle.net_model.specs.declared.assume.Assume.{Assume}
use Rattle.net_model.specs.Formula.{Net, Equation}
use Rattle.net_model.specs.Rules.{names_of}
use Rattle.spike_eval.specs.Outputs.{output_function}
use Rattle.spike_eval.specs.Premises.{NameInputs, AreEqualUnder}
use Rattle.refutation.specs.declared.item.Item.{Item}
use Rattle.refutation.specs.declared.tree.NamedTree.{NamedTree}
use Rattle.refutation.specs.Trees as trees
use Rattle.tree_check.specs.Valid.{Pair, IsValid, outputs}
use Rattle.std.proofs.Common.{Vec, Global}
use Rattle.rl_time.specs.declared.time.Time.{Time}
use Rattle.case_split.specs.declared.verdict.Verdict.{Verdict}
use Rattle.case_split.specs.declared.verdict.Verdict.TheVariants.{Equal, Different, Undecided}
use Rattle.case_split.specs.Live.{opened}
use Rattle.case_split.specs.Verdicts.{IsEqualTree, IsDifference, IsUndecidedTree, IsRight}
use Rattle.case_split.specs.Comparison.{AreEqualBefore, ShowEqual}

-- the first outputs have their trees
pub record AreShown (premises : List Assume) (first second : Net) (budget : ℕ) (all : List NamedTree) (out : ℕ) : Type 0 where
  pub count : length all ≡ out
  pub names : trees.names_of all ≡ names_of (take out first.outputs)
  pub shown : (k : ℕ) (d : NamedTree) → k < out → IsEqualTree premises (outputs first second k) budget (get_or all k d).tree

-- the law of valid trees
abbrev Decide : Type 0
Decide = (premises : List Assume) (pair : Pair) (items : List Item) → NameInputs (length pair.first.inputs) premises → IsValid premises pair items →
    AreEqualUnder premises (length pair.first.inputs) (output_function pair.first pair.place) (output_function pair.second pair.place)

module _ (premises : List Assume) (first second : Net) (budget : ℕ) where
  pub none_shown : AreShown premises first second budget [] 0
  none_shown = record { count = refl; names = refl; shown = λ k d lt. absurd (omega (arith, lt)) }

  pub equal_before : (decide : Decide) (all : List NamedTree) (out : ℕ) → NameInputs (length first.inputs) premises → AreShown premises first second budget all out → AreEqualBefore premises first second out
  equal_before decide all out named are j lt =
      decide premises (outputs first second j) _ named (are.shown j (record { name = []; tree = [] }) lt).valid

  one_taken : (out : ℕ) (e : Equation) → out < length first.outputs → e ≡ get_or first.outputs out e → take (out + 1) first.outputs ≡ take out first.outputs ++ e ∷ []
  one_taken out e lt is =
      let next : suc out ≡ out + 1 = omega arith in
      subst (λ (n : ℕ). take n first.outputs ≡ take out first.outputs ++ e ∷ []) next
      (take-suc first.outputs out e lt ∙ ap (λ (d : Equation). take out first.outputs ++ d ∷ []) (sym is))

  one_shown : (all : List NamedTree) (out : ℕ) (named : NamedTree) → AreShown premises first second budget all out → IsEqualTree premises (outputs first second out) budget named.tree →
      (k : ℕ) (d : NamedTree) → k < out + 1 → IsEqualTree premises (outputs first second k) budget (get_or (all ++ named ∷ []) k d).tree
  one_shown all out named are equal k d lt = elim (cases_lt k out) [
    | inl before ↦ subst (λ (t : NamedTree). IsEqualTree premises (outputs first second k) budget t.tree)
        (sym (get_or-append all (named ∷ []) d k (subst (λ (n : ℕ). k < n) (sym are.count) before))) (are.shown k d before)
    | inr ge ↦
        let last : length all ≡ k = are.count ∙ omega (arith, lt, ge) in
        let here : out ≡ k = omega (arith, lt, ge) in
        subst (λ (t : NamedTree). IsEqualTree premises (outputs first second k) budget t.tree)
        (sym (subst (λ (n : ℕ). get_or (all ++ named ∷ []) n d ≡ named) last (get_or-append_seam all named [] d)))
        (subst (λ (n : ℕ). IsEqualTree premises (outputs first second n) budget named.tree) here equal)
  ]

  pub one_more : (all : List NamedTree) (out : ℕ) (e : Equation) (named : NamedTree) → out < length first.outputs → e ≡ get_or first.outputs out e → named.name ≡ e.name →
      AreShown premises first second budget all out → IsEqualTree premises (outputs first second out) budget named.tree →
      AreShown premises first second budget (all ++ named ∷ []) (out + 1)
  one_more all out e named lt is name are equal = record {
    count = length-append all (named ∷ []) ∙ ap (λ (n : ℕ). n + 1) are.count;
    names = map-append (λ (t : NamedTree). t.name) all (named ∷ []) ∙ (ap (λ (ns : List (List ℕ)). ns ++ named.name ∷ []) are.names
        ∙ (ap (λ (n : List ℕ). names_of (take out first.outputs) ++ n ∷ []) name
        ∙ (sym (map-append (λ (e : Equation). e.name) (take out first.outputs) (e ∷ [])) ∙ sym (ap names_of (one_taken out e lt is)))));
    shown = one_shown all out named are equal;
  }

  pub all_shown : (all : List NamedTree) (out : ℕ) → length first.outputs ≤ out → AreShown premises first second budget all out → ShowEqual premises first second budget all
  all_shown all out le are = record {
    names = are.names ∙ ap names_of (take_all out first.outputs le);
    shown = λ k d lt. are.shown k d (subst (λ (n : ℕ). k < n) are.count lt);
  }

  pub first_difference : (decide : Decide) (all : List NamedTree) (out : ℕ) (v : Verdict) (times : Vec Time Global) → NameInputs (length first.inputs) premises → out < length first.outputs →
      AreShown premises first second budget all out → IsRight premises (outputs first second out) budget v → v ≡ Different times →
      (out < length first.outputs) × AreEqualBefore premises first second out × IsDifference premises (outputs first second out) times.items
  first_difference decide all out v times named lt are right is = (lt, equal_before decide all out named are, subst (IsRight premises (outputs first second out) budget) is right)

  pub first_undecided : (decide : Decide) (all : List NamedTree) (out cases : ℕ) (v : Verdict) (items : List Item) → NameInputs (length first.inputs) premises → out < length first.outputs →
      AreShown premises first second budget all out → IsRight premises (outputs first second out) budget v → v ≡ Undecided items → cases ≡ opened items →
      (out < length first.outputs) × AreEqualBefore premises first second out × ((items : List Item) × IsUndecidedTree premises (outputs first second out) budget items × (cases ≡ opened items))
  first_undecided decide all out cases v items named lt are right is counted =
      (lt, equal_before decide all out named are, (items, subst (IsRight premises (outputs first second out) budget) is right, counted))

  pub one_equal : (all : List NamedTree) (out : ℕ) (e : Equation) (v : Verdict) (items : List Item) (name : List ℕ) → out < length first.outputs → e ≡ get_or first.outputs out e → name ≡ e.name →
      AreShown premises first second budget all out → IsRight premises (outputs first second out) budget v → v ≡ Equal items →
      AreShown premises first second budget (all ++ record { name = name; tree = items } ∷ []) (out + 1)
  one_equal all out e v items name lt here same are right is =
      one_more all out e (record { name = name; tree = items }) lt here same are (subst (IsRight premises (outputs first second out) budget) is right)
