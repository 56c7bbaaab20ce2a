-- What `compare` says, beside `check` and `simplify`.
use Rattle.std.proofs.Common.{◌≡◌, ℕ, zero, suc, ◌<◌, ◌≤◌, List, [], ◌∷◌, ◌++◌, length, get_or, map, refl, sym, ◌∙◌, ap, subst, Some, true, arith}
use Rattle.std.specs.Prelude.{slice_get}
use Rattle.std.proofs.lemmas.Option.{slice_get_within, get_or_from_slice_get}
use Rattle.rl_time.specs.declared.time.Time.{Time}
use Rattle.net_model.specs.Formula.{Net}
use Rattle.net_model.specs.Value.{time_at, space_time_function}
use Rattle.net_lang.specs.Spelling.{SpellsNetwork}
use Rattle.refutation.specs.declared.tree.NamedTree.{NamedTree}
use Rattle.refutation.specs.Trees.{names_of as tree_names, IsTree, AreTrees}
use Rattle.refutation.specs.Spelling.{SpellsTrees}
use Rattle.refutation.specs.Text.{trees_text}
use Rattle.refutation.specs.declared.item.Item.{Item}
use Rattle.net_model.specs.Rules.{names_of, are_distinct, declared_names, is_port_name, IsNetwork}
use Rattle.std.specs.Prelude.{IsTrue, ◌&&◌}
use Rattle.std.specs.List.{list_all, AllByRecursion}
use Rattle.std.proofs.lemmas.List.{length-map}
use Rattle.tree_check.proofs.Chains.{and_true}
use Rattle.tree_check.specs.Valid.{outputs, IsValid}
use Rattle.case_split.specs.Comparison.{ShowEqual, IsComparison}
use Rattle.case_split.specs.declared.compared.Compared.{Compared}
use Rattle.case_split.specs.declared.compared.Compared.TheVariants as compared
use Rattle.std.proofs.Common.{Vec, Global}
use Rattle.rl_jobs.specs.Checked.{ThreeTexts, three_texts, Claim, Agree, first_of, second_of, trees_of, claim_at, AreValidBefore, accepted_lines, IsAcceptedText}
use Rattle.rl_jobs.specs.Pairs.{TwoTexts, two_texts, SpellPair, HaveSameNames}
use Rattle.rl_jobs.specs.Readings.{IsReading}
use Rattle.rl_jobs.specs.Simplification.{IsSimplifiedText}
use Rattle.rl_jobs.specs.Sources.{IsNoNetwork}
use Rattle.rl_flow.specs.Equality.{SayEqual, SayDifferent, IsSaid}
use Rattle.rl_flow.specs.declared.verdict.Verdict.{Verdict}
use Rattle.rl_flow.specs.declared.verdict.Verdict.TheVariants.{Done}
use Rattle.rl_flow.specs.Task.{Compare}
use Rattle.rl_flow.specs.Answers.{IsText}

valid_before : (n m : Net) (budget : ℕ) (trees : List NamedTree) → ShowEqual [] n m budget trees → AreValidBefore ((n, m), trees) (length trees)
valid_before n m budget trees shown place t lt at =
    subst (λ (u : NamedTree). IsValid [] (outputs n m place) u.tree) (get_or_from_slice_get trees place t t at) (shown.shown place t (slice_get_within trees place t at)).valid

-- the text of equal outputs is accepted
pub accepted : (budget : ℕ) (first second text : List ℕ) → IsSaid (SayEqual budget) (two_texts first second) text → (answer : List ℕ) × IsAcceptedText (three_texts first second text) answer
accepted budget first second text x = (
  accepted_lines (tree_names x.says.trees),
  record {
    claim = (x.pair, x.says.trees);
    read = (x.read, x.says.spelled);
    agree = record { inputs = x.same.inputs; outputs = x.same.outputs; trees = x.says.shown.names };
    is = record {
      valid = valid_before x.pair.0 x.pair.1 budget x.says.trees x.says.shown;
      equal = x.says.equal;
      written = refl;
    };
  },
)

-- a network and its simplified text don't differ
pub never_differ : ((file : ℕ) → IsReading SpellsNetwork (IsNoNetwork file)) → (bytes text answer : List ℕ) → IsSimplifiedText bytes text → IsSaid SayDifferent (two_texts bytes text) answer → ⊥
never_differ reading bytes text answer x y =
    let first : x.network ≡ y.pair.0 = (reading 1).one bytes x.network y.pair.0 x.read y.read.0 in
    let second : x.simple ≡ y.pair.1 = (reading 1).one text x.simple y.pair.1 x.spells y.read.1 in
    let times = y.says.times in
    y.says.differ.differ
    (ap (λ (ts : List Time). time_at ts y.says.place)
    (ap (λ (n : Net). space_time_function n times) (sym first) ∙ (sym (x.is.function_is times) ∙ ap (λ (n : Net). space_time_function n times) second)))

-- ---- what is written where all outputs are equal

suffix : (xs ys : List (List ℕ)) → are_distinct (xs ++ ys) ≡ true → are_distinct ys ≡ true
suffix [] ys h = h
suffix (x ∷ xs) ys h = suffix xs ys (and_true _ (are_distinct (xs ++ ys)) h).1

some_items : (n m : Net) (k : ℕ) (items : List Item) → IsValid [] (outputs n m k) items → 1 ≤ length items
some_items n m k [] h = absurd h
some_items n m k (i ∷ items) h = omega arith

each_tree : (all : List NamedTree) → ((k : ℕ) (d : NamedTree) → k < length all → IsTree (get_or all k d)) → AllByRecursion IsTree all
each_tree [] f = tt
each_tree (t ∷ all) f = (f zero t (omega arith), each_tree all (λ k d lt. f (suc k) d (omega (arith, lt))))

pub are_trees : (n m : Net) (budget : ℕ) (all : List NamedTree) → IsNetwork n → ShowEqual [] n m budget all → AreTrees all
are_trees n m budget all rules shown =
    let names = shown.names in
    let count : length all ≡ length n.outputs = sym (length-map all (λ t. t.name)) ∙ (ap length names ∙ length-map n.outputs (λ e. e.name)) in
    let some = rules.some_output in
    let few = rules.few_outputs in
    record {
      some = omega (arith, count, some);
      few = omega (arith, count, few);
      names = subst (λ (ns : List (List ℕ)). IsTrue (list_all is_port_name ns)) (sym names) rules.output_names;
      distinct = subst (λ (ns : List (List ℕ)). IsTrue (are_distinct ns)) (sym names) (suffix (n.inputs ++ names_of n.lets) (names_of n.outputs) rules.distinct);
      trees = each_tree all (λ k d lt. record { some = some_items n m k _ (shown.shown k d lt).valid; limits = (shown.shown k d lt).limits });
    }

pub second_has : (n m : Net) (k : ℕ) → HaveSameNames (n, m) → k < length n.outputs → k < length m.outputs
second_has n m k same lt =
    let count : length n.outputs ≡ length m.outputs = sym (length-map n.outputs (λ e. e.name)) ∙ (ap length same.outputs ∙ length-map m.outputs (λ e. e.name)) in
    omega (arith, count, lt)

-- the law of valid trees for all outputs
abbrev pub ShowsEquality : Type 0
ShowsEquality = (c : Claim) → Agree c → AreValidBefore c (length (trees_of c)) → (x : List Time) → length x ≡ length (first_of c).inputs → space_time_function (first_of c) x ≡ space_time_function (second_of c) x

pub says_equal : ShowsEquality → (n m : Net) (budget : ℕ) (all : List NamedTree) (text : List ℕ) → HaveSameNames (n, m) → ShowEqual [] n m budget all → SpellsTrees text all → text ≡ trees_text all → SayEqual budget (n, m) text
says_equal law n m budget all text same shown spelled written = record {
  trees = all;
  shown = shown;
  equal = law ((n, m), all) (record { inputs = same.inputs; outputs = same.outputs; trees = shown.names }) (valid_before n m budget all shown);
  spelled = spelled;
  written = written;
}

pub shown_by : (n m : Net) (budget : ℕ) (c : Compared) (all : Vec NamedTree Global) → c ≡ compared.Equal all → IsComparison [] n m budget c → ShowEqual [] n m budget all.items
shown_by n m budget c all e h = subst (IsComparison [] n m budget) e h

pub equal_text : ShowsEquality → (f s : List ℕ) (n m : Net) (budget : ℕ) (all : List NamedTree) (v : Verdict) (text answer : List ℕ) → v ≡ Done → answer ≡ text → SpellPair (two_texts f s) (n, m) →
    HaveSameNames (n, m) → ShowEqual [] n m budget all → SpellsTrees text all → text ≡ trees_text all → IsText (Compare budget) v (f ∷ s ∷ []) answer
equal_text law f s n m budget all v text answer done is read same shown spelled written =
    subst (λ (v : Verdict). IsText (Compare budget) v (f ∷ s ∷ []) answer) (sym done)
    (subst (λ (t : List ℕ). IsText (Compare budget) Done (f ∷ s ∷ []) t) (sym is)
    (record { pair = (n, m); read = read; same = same; says = says_equal law n m budget all text same shown spelled written }))

pub differs_at : (n m : Net) (budget : ℕ) (c : Compared) (k : ℕ) (times : Vec Time Global) → c ≡ compared.Different k times → IsComparison [] n m budget c → k < length n.outputs
differs_at n m budget c k times e h = (subst (IsComparison [] n m budget) e h).0
