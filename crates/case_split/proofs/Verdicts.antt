-- What is found of two terms is found of the outputs.
use Rattle.std.proofs.Common.{◌≡◌, ℕ, zero, suc, ◌≤◌, List, [], ◌∷◌, ◌++◌, length, map, refl, subst, sym, ap, ◌∙◌, arith}
use Rattle.std.specs.List.{All}
use Rattle.std.proofs.lemmas.Int.{ints}
use Rattle.rl_time.specs.declared.time.Time.{Time}
use Rattle.net_model.specs.declared.assume.Assume.{Assume}
use Rattle.net_model.specs.Formula.{Net}
use Rattle.net_model.specs.Value.{time_at}
use Rattle.spike_eval.specs.Causal.{numbers}
use Rattle.spike_eval.specs.Outputs.{output_function}
use Rattle.spike_eval.specs.Premises.{NameInputs, MeetsPremises, AreEqualUnder}
use Rattle.refutation.specs.declared.item.Item.{Item}
use Rattle.refutation.specs.declared.item.Item.TheVariants as item
use Rattle.refutation.specs.Path.{MeetsAll}
use Rattle.refutation.specs.Cases.{Path, EachOnPath, below}
use Rattle.diff_bounds.specs.Bounds.{integers}
use Rattle.term_store.specs.Tree.{Tree, value}
use Rattle.term_store.specs.Terms.{tree_in, network_trees}
use Rattle.term_store.specs.Subterms.{join_count}
use Rattle.term_store.proofs.TermValues.{values_are}
use Rattle.tree_check.specs.declared.form.Form.{Form}
use Rattle.tree_check.specs.Forms.{output_form, AreEqualForms}
use Rattle.tree_check.specs.Valid.{Pair, IsValid, root, listed}
use Rattle.tree_check.specs.Valid as tree_check
use Rattle.tree_check.proofs.Forms.{number_at}
use Rattle.case_split.specs.TermForms.{term_form}
use Rattle.case_split.specs.Live.{pair_terms}
use Rattle.case_split.specs.Leaves.{IsValidItem, AreApart}
use Rattle.case_split.specs.Verdicts.{IsDifference, IsTermDifference, IsSmallNumber, IsEqualTree, IsUndecidedTree, IsRight, IsEqual, IsDecision}
use Rattle.case_split.specs.declared.ending.Decision.{Decision}
use Rattle.case_split.specs.declared.ending.Decision.TheVariants as decision
use Rattle.case_split.specs.declared.verdict.Verdict.{Verdict}
use Rattle.case_split.specs.declared.verdict.Verdict.TheVariants as verdict
use Rattle.case_split.proofs.Least.{due_is_least, live_is_less}
use Rattle.case_split.proofs.TermForms.{network_form}

-- the terms of the two outputs
abbrev pub first_term : Pair → Tree
first_term pair = tree_in (network_trees pair.first) pair.place

abbrev pub second_term : Pair → Tree
second_term pair = tree_in (network_trees pair.second) pair.place

each_map : (P Q : Path → Item → Type 0) → ((path : Path) (i : Item) → P path i → Q path i) → (paths : List Path) (items : List Item) → EachOnPath P paths items → EachOnPath Q paths items
each_map P Q f [] [] h = tt
each_map P Q f [] (i ∷ items) h = absurd h
each_map P Q f (path ∷ paths) [] h = absurd h
each_map P Q f (path ∷ paths) (i ∷ items) h = (f path i h.0, each_map P Q f (below path i ++ paths) items h.1)

valid_item : (pair : Pair) (path : Path) (i : Item) → IsValidItem (length pair.first.inputs) (first_term pair) (second_term pair) path i → tree_check.IsValidItem pair path i
valid_item pair path (item.Split i j w) h = (h, tt)
valid_item pair path (item.Leaf facts) h = (
  h.0,
  (
    h.1.right,
    subst (λ (f : Form). AreEqualForms (listed facts) f (output_form (listed facts) pair.second pair.place)) (sym (network_form (listed facts) pair.first pair.place))
        (subst (λ (g : Form). AreEqualForms (listed facts) (term_form (listed facts) (first_term pair)) g) (sym (network_form (listed facts) pair.second pair.place)) h.1.equal),
  ),
)
valid_item pair path (item.Closed chain) h = (refl, h)
valid_item pair path item.Unsettled h = absurd h

pub valid_tree : (pair : Pair) (premises : List Assume) (items : List Item) → EachOnPath (IsValidItem (length pair.first.inputs) (first_term pair) (second_term pair)) (root premises ∷ []) items → IsValid premises pair items
valid_tree pair premises items h =
    each_map (IsValidItem (length pair.first.inputs) (first_term pair) (second_term pair)) (tree_check.IsValidItem pair) (valid_item pair) (root premises ∷ []) items h

value_at : (x : List Time) (ts : List Tree) (j : ℕ) → value x (tree_in ts j) ≡ time_at (map (value x) ts) j
value_at x [] j = refl
value_at x (t ∷ ts) zero = refl
value_at x (t ∷ ts) (suc j) = value_at x ts j

output_value : (n : Net) (k : ℕ) (x : List Time) → value x (tree_in (network_trees n) k) ≡ output_function n k x
output_value n k x = value_at x (network_trees n) k ∙ ap (λ (ts : List Time). time_at ts k) (values_are n x)

premises_met : (ns : List ℕ) (premises : List Assume) → NameInputs (length ns) premises → MeetsAll (integers ns) (root premises) → MeetsPremises (numbers ns) premises
premises_met ns [] names h = tt
premises_met ns (p ∷ premises) names h =
    let here = h.0 in
    (rw (number_at ns p.from names.0.0, number_at ns p.to names.0.1) (omega (arith, ints, here)), premises_met ns premises names.1 h.1)

numbers_small : (ns : List ℕ) → All (λ y. y ≤ 63000063) ns → All IsSmallNumber (numbers ns)
numbers_small [] h k d lt = absurd (omega (arith, lt))
numbers_small (y ∷ ns) h zero d lt = h 0 y (omega arith)
numbers_small (y ∷ ns) h (suc k) d lt = numbers_small ns (λ j e l. h (suc j) e (omega (arith, l))) k d (omega (arith, lt))

length_numbers : (ns : List ℕ) → length (numbers ns) ≡ length ns
length_numbers [] = refl
length_numbers (y ∷ ns) = ap suc (length_numbers ns)

pub difference : (pair : Pair) (premises : List Assume) (ns : List ℕ) (times : List Time) → times ≡ numbers ns → NameInputs (length pair.first.inputs) premises →
    AreApart (length pair.first.inputs) (root premises) (first_term pair) (second_term pair) ns → IsDifference premises pair times
difference pair premises ns times e names apart = subst (IsDifference premises pair) (sym e) (record {
  long = length_numbers ns ∙ apart.long;
  small = numbers_small ns apart.small;
  meet = premises_met ns premises (subst (λ (n : ℕ). NameInputs n premises) (sym apart.long) names) apart.meet;
  differ = λ same. apart.differ (output_value pair.first pair.place (numbers ns) ∙ (same ∙ sym (output_value pair.second pair.place (numbers ns))));
})

-- times at which the terms of a part differ
pub drawn : (pair : Pair) (premises : List Assume) (n : ℕ) (a b : Tree) (times : List Time) → n ≡ length pair.first.inputs → a ∷ b ∷ [] ≡ first_term pair ∷ second_term pair ∷ [] → IsTermDifference n premises a b times →
    IsDifference premises pair times
drawn pair premises n a b times many terms d = record {
  long = d.long ∙ many;
  small = d.small;
  meet = d.meet;
  differ = λ same. d.differ (
      ap (λ ts. value times (tree_in ts 0)) terms ∙ output_value pair.first pair.place times
      ∙ (same ∙ sym (ap (λ ts. value times (tree_in ts 1)) terms ∙ output_value pair.second pair.place times))
      );
}

pub equal_right : (premises : List Assume) (pair : Pair) (budget : ℕ) (d : Decision) (items : List Item) → d ≡ decision.Equal items →
    IsDecision (length pair.first.inputs) premises (first_term pair) (second_term pair) (join_count (pair_terms pair)) budget d → IsEqualTree premises pair budget items
equal_right premises pair budget d items e h =
    let k = subst (IsDecision (length pair.first.inputs) premises (first_term pair) (second_term pair) (join_count (pair_terms pair)) budget) e h in
    record {
      valid = valid_tree pair premises items k.0;
      least = λ others valid. due_is_least pair premises others valid items k.1;
      limits = k.2;
      few = k.3;
    }

pub undecided_right : (premises : List Assume) (pair : Pair) (budget : ℕ) (d : Decision) (items : List Item) → d ≡ decision.Undecided items →
    IsDecision (length pair.first.inputs) premises (first_term pair) (second_term pair) (join_count (pair_terms pair)) budget d → IsUndecidedTree premises pair budget items
undecided_right premises pair budget d items e h =
    let k = subst (IsDecision (length pair.first.inputs) premises (first_term pair) (second_term pair) (join_count (pair_terms pair)) budget) e h in
    let spent = k.3 in
    record {
      live = record { splits = k.0; unsettled = k.1 };
      within = k.2;
      spent = k.3;
      too_little = λ others valid. let more = live_is_less pair premises others valid items k.0 k.1 in omega (arith, spent, more);
      short = k.4;
    }

-- what is found of the terms of a part
pub decision_of : (n m p q budget : ℕ) (premises : List Assume) (a b c e : Tree) (d : Decision) → n ≡ m → p ≡ q → a ∷ b ∷ [] ≡ c ∷ e ∷ [] → IsDecision n premises a b p budget d → IsDecision m premises c e q budget d
decision_of n m p q budget premises a b c e d nm pq same h =
    subst (λ n. IsDecision n premises c e q budget d) nm
    (subst (λ p. IsDecision n premises c e p budget d) pq
    (subst (λ t. IsDecision n premises c t p budget d) (ap (λ ts. tree_in ts 1) same)
    (subst (λ t. IsDecision n premises t b p budget d) (ap (λ ts. tree_in ts 0) same) h)))

-- outputs that a valid tree shows to be equal have no difference
pub no_difference : (premises : List Assume) (pair : Pair) (times : List Time) → AreEqualUnder premises (length pair.first.inputs) (output_function pair.first pair.place) (output_function pair.second pair.place) → IsDifference premises pair times → ⊥
no_difference premises pair times equal d = d.differ (equal times d.long d.meet)

-- where a valid tree fits the budget, the verdict is that they are equal
pub complete : (premises : List Assume) (pair : Pair) (budget : ℕ) (items : List Item) → AreEqualUnder premises (length pair.first.inputs) (output_function pair.first pair.place) (output_function pair.second pair.place) →
    IsValid premises pair items → length items ≤ budget → (v : Verdict) → IsRight premises pair budget v → IsEqual v
complete premises pair budget items equal valid few (verdict.Equal tree) right = tt
complete premises pair budget items equal valid few (verdict.Different times) right = no_difference premises pair times.items equal right
complete premises pair budget items equal valid few (verdict.Undecided tree) right = let more = right.too_little items valid in absurd (omega (arith, few, more))
