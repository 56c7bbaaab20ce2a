-- The two sides of a split.
use Rattle.std.proofs.Common.{◌≡◌, ℕ, suc, ◌+◌, ◌≤◌, ◌<◌, List, [], ◌∷◌, ◌++◌, length, drop, refl, sym, ap, subst, ◌∙◌, arith, Bool, true, false, append_assoc}
use Rattle.std.specs.Prelude.{ℤ, pos, neg_ℤ, ◌-ℤ◌, ◌≤ℤ◌, ◌&&◌, ◌||◌, nat_eq, nat_lt, nat_le, if◌then◌else◌, ◌+ℤ◌, int_le, Some, None}
use Rattle.std.proofs.lemmas.Bool.{ne_eqb}
use Rattle.std.proofs.lemmas.Int.{ints}
use Rattle.std.proofs.lemmas.Bool.Decides.{nat_tests}
use Rattle.std.proofs.lemmas.List.Elements.{All-push}
use Rattle.refutation.specs.declared.assumption.Assumption.{Assumption}
use Rattle.refutation.specs.declared.item.Fact.{Fact}
use Rattle.refutation.specs.Path.{at, assumption, runs}
use Rattle.refutation.specs.Cases.{Path}
use Rattle.diff_bounds.specs.Bounds.{Implies}
use Rattle.diff_bounds.proofs.Least.{and_true, int_true, at_new, length_more, runs_more, lt_is}
use Rattle.diff_bounds.proofs.Ending.{and_is}
use Rattle.term_store.specs.Trees.{tree}
use Rattle.tree_check.specs.declared.form.Form.{Form}
use Rattle.tree_check.specs.Forms.{compared, is_decided}
use Rattle.tree_check.specs.Valid.{is_right, fact_says, listed, root}
use Rattle.case_split.specs.declared.comparison.Choice.{Choice}
use Rattle.case_split.specs.declared.comparison.Step.TheVariants.{Chosen}
use Rattle.case_split.specs.Decided.{AreRight, IsOpen, IsPossible}
use Rattle.case_split.specs.Stages.{Stage, its_fact, assumed}
use Rattle.case_split.specs.Steps.{step_form, width, yes_assumption, no_assumption}
use Rattle.case_split.specs.Task.{Task, IsTask, IsStage, IsFact, joins}
use Rattle.case_split.specs.Walk.{joins_left, IsAt, IsWaiting}
use Rattle.case_split.proofs.Implied.{right_more, not_true, facts_imply, says_at_most}
use Rattle.case_split.proofs.Stays.{forms_stay}
use Rattle.case_split.proofs.Reaching.{says_more, says_last, joins_drop, decided_at, one_longer, form_comes_there, the_choice, from_input, to_input, from_small, to_small, yes_form, no_form}

-- what chains show stays where one assumption more is made
right_there : (path : Path) (a : Assumption) (f : Fact) → is_right path f ≡ true → is_right (path ++ a ∷ []) f ≡ true
right_there path a f h =
    let p = and_true (runs path f.from f.to f.chain) _ h in
    let m = runs_more path a f.from f.to f.chain p.0 in
    and_is (runs (path ++ a ∷ []) f.from f.to f.chain) _ m.0 (subst (λ (w : ℤ). int_le w f.bound ≡ true) (sym m.1) p.1)

pub right_longer : (path : Path) (a : Assumption) (facts : List Fact) → AreRight path facts → AreRight (path ++ a ∷ []) facts
right_longer path a [] h = tt
right_longer path a (f ∷ facts) h = (right_there path a f h.0, right_longer path a facts h.1)

same_number : (k : ℕ) → nat_eq k k ≡ true
same_number k = grind (arith, nat_tests)

-- an assumption shows its own fact
pub its_fact_is_right : (path : Path) (a : Assumption) → is_right (path ++ a ∷ []) (its_fact path a) ≡ true
its_fact_is_right path a =
    let is = at_new path a in
    let long = length_more path a in
    and_is (runs (path ++ a ∷ []) a.from a.to (length path ∷ [])) _
    (and_is (nat_lt (length path) (length (path ++ a ∷ [])) && nat_eq (at (path ++ a ∷ []) (length path)).from a.from) _
    (and_is (nat_lt (length path) (length (path ++ a ∷ []))) _ (lt_is (length path) (length (path ++ a ∷ [])) (omega (arith, long)))
    (subst (λ (b : Assumption). nat_eq b.from a.from ≡ true) (sym is) (same_number a.from)))
    (subst (λ (b : Assumption). nat_eq b.to a.to ≡ true) (sym is) (same_number a.to)))
    (int_true _ a.bound (subst (λ (b : Assumption). (b.bound +ℤ pos 0) ≤ℤ a.bound) (sym is) (omega (arith, ints))))

-- one assumption more, with its own fact
module _ (task : Task) (s : Stage) (a : Assumption) (stage : IsStage task s) (possible : IsPossible (s.path ++ a ∷ [])) (small : IsFact task.inputs (its_fact s.path a)) where
  all_right : AreRight (s.path ++ a ∷ []) (s.facts ++ its_fact s.path a ∷ [])
  all_right = right_more (s.path ++ a ∷ []) s.facts (its_fact s.path a ∷ []) (right_longer s.path a s.facts stage.right) (its_fact_is_right s.path a, tt)

  pub assumed_there : IsStage task (record { path = s.path ++ a ∷ []; facts = s.facts ++ its_fact s.path a ∷ []; forms = s.forms })
  assumed_there = record {
    premises = (stage.premises.0 ++ a ∷ [], ap (λ (p : Path). p ++ a ∷ []) stage.premises.1 ∙ append_assoc (root task.premises) stage.premises.0 (a ∷ []));
    possible = possible;
    right = all_right;
    facts = All-push (IsFact task.inputs) s.facts (its_fact s.path a) stage.facts small;
    few = stage.few;
    forms = λ place lt.
        let same = stage.forms place lt in
        same ∙ sym (forms_stay (s.path ++ a ∷ []) possible s.facts (s.facts ++ its_fact s.path a ∷ []) (right_longer s.path a s.facts stage.right) all_right (says_more s.facts (its_fact s.path a ∷ []))
        (tree task.nodes place) (subst (λ (f : Form). is_decided f ≡ true) same (decided_at s.forms place stage.decided)));
    decided = stage.decided;
  }

-- where integers meet both, they can't be on two sides
apart : (path : Path) (i j : ℕ) (w v : ℤ) → IsPossible path → v ≡ (neg_ℤ w -ℤ pos 1) → Implies path i j w → Implies path j i v → ⊥
apart path i j w v possible e a b = possible (λ met. let p = a met.0 met.1 in let q = b met.0 met.1 in omega (arith, ints, p, q, e))

one_says : (i j : ℕ) (w : ℤ) (path : Path) (facts : List Fact) → listed (facts ++ its_fact path (assumption i j w) ∷ []) i j w ≡ true
one_says i j w path facts = says_last facts (its_fact path (assumption i j w) ∷ []) i j w (first (fact_says (its_fact path (assumption i j w)) i j w) (says_at_most i j w w (length path ∷ []) (omega (arith, ints))))
  where
    first : (b : Bool) → b ≡ true → (b || false) ≡ true
    first true h = refl
    first false h = h

different_inputs : (path : Path) (i c j d : ℕ) → IsOpen path i c j d → i ≡ j → ⊥
different_inputs path i c j d opened e = no (nat_eq i j) (subst (λ (j : ℕ). nat_eq i j ≡ true) e (same_number i)) (opened [] tt)
  where
    no : (b : Bool) → b ≡ true → (if b then Some (nat_le c d) else None) ≡ None → ⊥
    no true h k = cc
    no false h k = cc

module _ (task : Task) (s : Stage) (c : Choice) (rules : IsTask task) (stage : IsAt task s) (waits : IsWaiting task s c) where
  differ : c.comparison.from ≡ c.comparison.to → ⊥
  differ = different_inputs s.path c.comparison.from c.comparison.from_cycles c.comparison.to c.comparison.to_cycles waits.undecided

  few_assumptions : length s.path < 65536
  few_assumptions = let d = stage.depth in let m = rules.few_joins in omega (arith, d, m)

  from_in : c.comparison.from < task.inputs
  from_in = from_input task s c rules stage.stage waits.place waits.step

  to_in : c.comparison.to < task.inputs
  to_in = to_input task s c rules stage.stage waits.place waits.step

  from_cycles_in : c.comparison.from_cycles ≤ 1000000
  from_cycles_in = from_small task s c rules stage.stage waits.place waits.step

  to_cycles_in : c.comparison.to_cycles ≤ 1000000
  to_cycles_in = to_small task s c rules stage.stage waits.place waits.step

  yes_fact : IsFact task.inputs (its_fact s.path (yes_assumption c.comparison))
  yes_fact =
      let f = from_in in let t = to_in in let fc = from_cycles_in in let tc = to_cycles_in in let n = rules.few_inputs in
      record {
        from = f;
        to = t;
        small = record {
          difference = record { from = omega (arith, f, n); to = omega (arith, t, n); bound = record { low = omega (arith, ints, fc, tc); high = omega (arith, ints, fc, tc) } };
          chain = record { few = omega arith; small = (few_assumptions, tt) };
        };
      }

  no_fact : IsFact task.inputs (its_fact s.path (no_assumption c.comparison))
  no_fact =
      let f = from_in in let t = to_in in let fc = from_cycles_in in let tc = to_cycles_in in let n = rules.few_inputs in
      record {
        from = t;
        to = f;
        small = record {
          difference = record { from = omega (arith, t, n); to = omega (arith, f, n); bound = record { low = omega (arith, ints, fc, tc); high = omega (arith, ints, fc, tc) } };
          chain = record { few = omega arith; small = (few_assumptions, tt) };
        };
      }

  yes_compared : compared (listed (s.facts ++ its_fact s.path (yes_assumption c.comparison) ∷ [])) c.comparison.from c.comparison.from_cycles c.comparison.to c.comparison.to_cycles ≡ Some true
  yes_compared =
      let says = one_says c.comparison.from c.comparison.to (width c.comparison) s.path s.facts in
      rw (ne_eqb c.comparison.from c.comparison.to differ, says) refl

  no_compared : compared (listed (s.facts ++ its_fact s.path (no_assumption c.comparison) ∷ [])) c.comparison.from c.comparison.from_cycles c.comparison.to c.comparison.to_cycles ≡ Some false
  no_compared =
      let path = s.path ++ no_assumption c.comparison ∷ [] in
      let facts = s.facts ++ its_fact s.path (no_assumption c.comparison) ∷ [] in
      let e : (neg_ℤ (width c.comparison) -ℤ pos 1) ≡ ((pos c.comparison.from_cycles -ℤ pos c.comparison.to_cycles) -ℤ pos 1) = omega (arith, ints) in
      let says = one_says c.comparison.to c.comparison.from (neg_ℤ (width c.comparison) -ℤ pos 1) s.path s.facts in
      let right = all_right task s (no_assumption c.comparison) stage.stage waits.no_possible no_fact in
      let says_no : listed facts c.comparison.from c.comparison.to (pos c.comparison.to_cycles -ℤ pos c.comparison.from_cycles) ≡ false =
      not_true _ (λ h. apart path c.comparison.from c.comparison.to (width c.comparison) (neg_ℤ (width c.comparison) -ℤ pos 1) waits.no_possible refl
      (facts_imply path facts c.comparison.from c.comparison.to (width c.comparison) right h) (facts_imply path facts c.comparison.to c.comparison.from (neg_ℤ (width c.comparison) -ℤ pos 1) right says)) in
      let says_so : listed facts c.comparison.to c.comparison.from ((pos c.comparison.from_cycles -ℤ pos c.comparison.to_cycles) -ℤ pos 1) ≡ true =
      subst (λ (w : ℤ). listed facts c.comparison.to c.comparison.from w ≡ true) e says in
      rw (ne_eqb c.comparison.from c.comparison.to differ, says_no, says_so) refl

  split_joins : joins_left task s ≡ 1 + joins (drop (suc (length s.forms)) task.nodes)
  split_joins = joins_drop task.nodes (length s.forms) waits.place
      ∙ ap (λ (b : Bool). (if b then 1 else 0) + joins (drop (suc (length s.forms)) task.nodes)) (the_choice task s c rules stage.stage waits.place waits.step).join

  pub one_fewer : (a : Assumption) (f : Form) → joins_left task s ≡ 1 + joins_left task (assumed s a f)
  one_fewer a f = rw (one_longer s.forms f) split_joins

  at_side : (a : Assumption) (f : Form) → IsPossible (s.path ++ a ∷ []) → IsFact task.inputs (its_fact s.path a) → step_form (listed (s.facts ++ its_fact s.path a ∷ [])) (Chosen c) ≡ f → is_decided f ≡ true
      → IsAt task (assumed s a f)
  at_side a f possible small is decided = record {
    stage = form_comes_there task (record { path = s.path ++ a ∷ []; facts = s.facts ++ its_fact s.path a ∷ []; forms = s.forms }) (Chosen c) f rules (assumed_there task s a stage.stage possible small) waits.place waits.step is decided;
    depth = let d = stage.depth in let e = one_fewer a f in let l = length_more s.path a in omega (arith, d, e, l);
  }

  pub yes_at : IsAt task (assumed s (yes_assumption c.comparison) c.yes)
  yes_at = at_side (yes_assumption c.comparison) c.yes waits.yes_possible yes_fact (yes_form (listed (s.facts ++ its_fact s.path (yes_assumption c.comparison) ∷ [])) c yes_compared) (the_choice task s c rules stage.stage waits.place waits.step).yes_decided

  pub no_at : IsAt task (assumed s (no_assumption c.comparison) c.no)
  no_at = at_side (no_assumption c.comparison) c.no waits.no_possible no_fact (no_form (listed (s.facts ++ its_fact s.path (no_assumption c.comparison) ∷ [])) c no_compared) (the_choice task s c rules stage.stage waits.place waits.step).no_decided

  pub split_from : c.comparison.from < task.inputs
  split_from = from_in

  pub split_to : c.comparison.to < task.inputs
  split_to = to_in

  pub split_from_cycles : c.comparison.from_cycles ≤ 1000000
  split_from_cycles = from_cycles_in

  pub split_to_cycles : c.comparison.to_cycles ≤ 1000000
  split_to_cycles = to_cycles_in
