-- The walk: what the items so far show, where stages are pending.
use Rattle.std.proofs.Common.{◌≡◌, ℕ, zero, suc, ◌+◌, ◌^◌, ◌≤◌, List, [], ◌∷◌, ◌++◌, length, map, refl, sym, ap, subst, ◌∙◌, arith, length-append, replicate, slice_index_or}
use Rattle.std.specs.Prelude.{nat_lt, IsTrue}
use Rattle.std.specs.List.{AllByRecursion}
use Rattle.std.proofs.lemmas.Int.{ints}
use Rattle.std.proofs.lemmas.Nat.{pow_pos}
use Rattle.std.proofs.Math.Nat.{pow-suc}
use Rattle.refutation.specs.declared.item.Item.{Item}
use Rattle.refutation.specs.declared.item.Item.TheVariants as item
use Rattle.refutation.specs.declared.item.Fact.{Fact}
use Rattle.refutation.specs.Cases.{Path, EachOnPath, OneOnPath}
use Rattle.refutation.specs.Limits.{IsSmallItem}
use Rattle.diff_bounds.proofs.Least.{lt_is}
use Rattle.diff_bounds.proofs.Ending.{and_is}
use Rattle.term_store.specs.declared.node.Node.{Node}
use Rattle.term_store.specs.declared.node.Term.{Term}
use Rattle.term_store.specs.Tree.{Tree}
use Rattle.term_store.specs.Nodes.{node_at}
use Rattle.term_store.specs.Places.{tree_by_places}
use Rattle.term_store.specs.Subterms.{is_among, all_subterms}
use Rattle.term_store.specs.Trees.{tree, trees_at, term}
use Rattle.term_store.proofs.Counted.{follows}
use Rattle.tree_check.specs.Valid.{root}
use Rattle.case_split.specs.declared.comparison.Choice.{Choice}
use Rattle.case_split.specs.Leaves.{IsValidItem}
use Rattle.case_split.specs.Live.{Compares, IsDue, IsDueItem, IsUnsettledItem, splits, opened}
use Rattle.case_split.specs.Stages.{Stage, assumed}
use Rattle.case_split.specs.Steps.{width, yes_assumption, no_assumption}
use Rattle.case_split.specs.Task.{Task, IsTask, IsStage, joins}
use Rattle.case_split.specs.Walk.{joins_left, IsAt, IsWaiting}
use Rattle.std.proofs.lemmas.List.{append-nil}
use Rattle.net_model.specs.declared.assume.Assume.{Assume}
use Rattle.case_split.proofs.Implied.{root_is_possible}
use Rattle.case_split.proofs.Leading.{LeadsTo, FindsIn, leads_more, finds_more}
use Rattle.case_split.proofs.Splitting.{yes_at, no_at, one_fewer, split_from, split_to, split_from_cycles, split_to_cycles}
use Rattle.case_split.proofs.Choices.{IsChoiceOf}
use Rattle.case_split.proofs.Reaching.{the_choice, p_form, q_form}

-- the paths of stages
abbrev pub paths : List Stage → List Path
paths stages = map (λ s. s.path) stages

-- the most leaves that the subtrees of these stages can have
abbrev pub rooms : Task → List Stage → ℕ
rooms task [] = 0
rooms task (s ∷ stages) = 2 ^ joins_left task s + rooms task stages

-- the term of an output
abbrev pub output_term : Task → ℕ → Tree
output_term task k = tree task.nodes (slice_index_or task.roots k (term 0)).0

abbrev pub terms : Task → List Tree
terms task = output_term task 0 ∷ output_term task 1 ∷ []

-- the items so far lead to these stages
pub record IsWalk (task : Task) (items : List Item) (stages : List Stage) : Type 0 where
  pub at : AllByRecursion (IsAt task) stages
  pub valid : LeadsTo (IsValidItem task.inputs (output_term task 0) (output_term task 1)) (root task.premises ∷ []) items (paths stages)
  pub due : LeadsTo (IsDueItem (terms task)) (root task.premises ∷ []) items (paths stages)
  pub unsettled : FindsIn (IsUnsettledItem (terms task)) (root task.premises ∷ []) items (paths stages)
  pub small : AllByRecursion IsSmallItem items
  pub count : length items + length stages ≡ opened items
  pub room : splits items + rooms task stages + 1 ≤ 2 ^ joins task.nodes + length stages

two_roots : (nodes : List Node) (roots : List Term) → length roots ≡ 2 → trees_at nodes roots ≡ tree nodes (slice_index_or roots 0 (term 0)).0 ∷ tree nodes (slice_index_or roots 1 (term 0)).0 ∷ []
two_roots nodes [] e = absurd (omega (arith, e))
two_roots nodes (a ∷ []) e = absurd (omega (arith, e))
two_roots nodes (a ∷ b ∷ []) e = refl
two_roots nodes (a ∷ b ∷ c ∷ roots) e = absurd (omega (arith, e))

small_push : (items : List Item) (i : Item) → AllByRecursion IsSmallItem items → IsSmallItem i → AllByRecursion IsSmallItem (items ++ i ∷ [])
small_push [] i h k = (k, tt)
small_push (j ∷ items) i h k = (h.0, small_push items i h.1 k)

pub splits_append : (items more : List Item) → splits (items ++ more) ≡ splits items + splits more
splits_append [] more = omega arith
splits_append (item.Split i j w ∷ items) more = let h = splits_append items more in omega (arith, h)
splits_append (item.Leaf facts ∷ items) more = splits_append items more
splits_append (item.Closed chain ∷ items) more = splits_append items more
splits_append (item.Unsettled ∷ items) more = splits_append items more

pub no_splits : (n : ℕ) → splits (replicate n item.Unsettled) ≡ 0
no_splits zero = refl
no_splits (suc n) = no_splits n

pub rooms_most : (task : Task) (stages : List Stage) → length stages ≤ rooms task stages
rooms_most task [] = omega arith
rooms_most task (s ∷ stages) = let h = rooms_most task stages in let p = pow_pos (joins_left task s) in omega (arith, h, p)

powers_grow : (m n : ℕ) → m ≤ n → 2 ^ m ≤ 2 ^ n
powers_grow zero n le = let p = pow_pos n in let e : 2 ^ zero ≡ 1 = refl in omega (arith, p, e)
powers_grow (suc m) zero le = absurd (omega (arith, le))
powers_grow (suc m) (suc n) le = let h = powers_grow m n (omega (arith, le)) in let a = pow-suc 2 m in let b = pow-suc 2 n in omega (arith, h, a, b)

-- the walk begins
pub walk_begins : (task : Task) (s : Stage) → IsAt task s → s.path ≡ root task.premises → s.forms ≡ [] → IsWalk task [] (s ∷ [])
walk_begins task s at path forms = record {
  at = (at, tt);
  valid = λ rest h. subst (λ (p : Path). EachOnPath (IsValidItem task.inputs (output_term task 0) (output_term task 1)) (p ∷ []) rest) path h;
  due = λ rest h. subst (λ (p : Path). EachOnPath (IsDueItem (terms task)) (p ∷ []) rest) path h;
  unsettled = λ rest h. subst (λ (p : Path). OneOnPath (IsUnsettledItem (terms task)) (p ∷ []) rest) path h;
  small = tt;
  count = refl;
  room = rw forms (omega arith);
}

-- places got their forms
pub walk_advances : (task : Task) (items : List Item) (s s' : Stage) (stages : List Stage) → IsWalk task items (s ∷ stages) → IsAt task s' → s'.path ≡ s.path → joins_left task s' ≤ joins_left task s
    → IsWalk task items (s' ∷ stages)
walk_advances task items s s' stages walk at path fewer = record {
  at = (at, walk.at.1);
  valid = subst (λ (p : Path). LeadsTo (IsValidItem task.inputs (output_term task 0) (output_term task 1)) (root task.premises ∷ []) items (p ∷ paths stages)) (sym path) walk.valid;
  due = subst (λ (p : Path). LeadsTo (IsDueItem (terms task)) (root task.premises ∷ []) items (p ∷ paths stages)) (sym path) walk.due;
  unsettled = subst (λ (p : Path). FindsIn (IsUnsettledItem (terms task)) (root task.premises ∷ []) items (p ∷ paths stages)) (sym path) walk.unsettled;
  small = walk.small;
  count = walk.count;
  room = let r = walk.room in let p = powers_grow (joins_left task s') (joins_left task s) fewer in omega (arith, r, p);
}

-- a branch has ended
pub walk_ends_one : (task : Task) (items : List Item) (s : Stage) (stages : List Stage) (facts : List Fact) → IsWalk task items (s ∷ stages)
    → IsValidItem task.inputs (output_term task 0) (output_term task 1) s.path (item.Leaf facts) → IsSmallItem (item.Leaf facts) → IsWalk task (items ++ item.Leaf facts ∷ []) stages
walk_ends_one task items s stages facts walk valid small = record {
  at = walk.at.1;
  valid = leads_more (IsValidItem task.inputs (output_term task 0) (output_term task 1)) (root task.premises ∷ []) items s.path (paths stages) (item.Leaf facts) walk.valid valid;
  due = leads_more (IsDueItem (terms task)) (root task.premises ∷ []) items s.path (paths stages) (item.Leaf facts) walk.due tt;
  unsettled = finds_more (IsUnsettledItem (terms task)) (root task.premises ∷ []) items s.path (paths stages) (item.Leaf facts) walk.unsettled;
  small = small_push items (item.Leaf facts) walk.small small;
  count = let c = walk.count in let a = splits_append items (item.Leaf facts ∷ []) in let l = length-append items (item.Leaf facts ∷ []) in omega (arith, c, a, l);
  room = let r = walk.room in let a = splits_append items (item.Leaf facts ∷ []) in let p = pow_pos (joins_left task s) in omega (arith, r, a, p);
}

-- a comparison is split on
module _ (task : Task) (items : List Item) (s : Stage) (stages : List Stage) (c : Choice) (rules : IsTask task) (walk : IsWalk task items (s ∷ stages)) (waits : IsWaiting task s c) where
  operator : Tree
  operator = tree task.nodes (length s.forms)

  operator_is : tree task.nodes (length s.forms) ≡ tree_by_places task.nodes (node_at task.nodes (length s.forms))
  operator_is = follows task.nodes (length s.forms) rules.is_nodes waits.place

  stage : IsStage task s
  stage = walk.at.0.stage

  the_one : IsChoiceOf s.forms (node_at task.nodes (length s.forms)) c
  the_one = the_choice task s c rules stage waits.place waits.step

  pub is_due : IsDue (terms task) s.path c.comparison.from c.comparison.from_cycles c.comparison.to c.comparison.to_cycles
  is_due = record {
    operator = tree task.nodes (length s.forms);
    a = tree task.nodes (the_choice task s c rules walk.at.0.stage waits.place waits.step).p;
    b = tree task.nodes (the_choice task s c rules walk.at.0.stage waits.place waits.step).q;
    part = subst (λ (ts : List Tree). IsTrue (is_among (tree task.nodes (length s.forms)) (all_subterms ts))) (two_roots task.nodes task.roots rules.two) (rules.reached (length s.forms) waits.place);
    compares = subst (λ (t : Tree). Compares t (tree task.nodes (the_choice task s c rules walk.at.0.stage waits.place waits.step).p) (tree task.nodes (the_choice task s c rules walk.at.0.stage waits.place waits.step).q))
        (sym operator_is) ((the_choice task s c rules walk.at.0.stage waits.place waits.step).compares task.nodes);
    a_is = (s.facts, walk.at.0.stage.right, p_form task s c rules walk.at.0.stage waits.place waits.step);
    b_is = (s.facts, walk.at.0.stage.right, q_form task s c rules walk.at.0.stage waits.place waits.step);
    undecided = waits.undecided;
  }

  pub walk_splits : IsWalk task (items ++ item.Split c.comparison.from c.comparison.to (width c.comparison) ∷ [])
      (assumed s (yes_assumption c.comparison) c.yes ∷ assumed s (no_assumption c.comparison) c.no ∷ stages)
  walk_splits =
      let from = split_from task s c rules walk.at.0 waits in
      let to = split_to task s c rules walk.at.0 waits in
      let from_cycles = split_from_cycles task s c rules walk.at.0 waits in
      let to_cycles = split_to_cycles task s c rules walk.at.0 waits in
      let few = rules.few_inputs in
      let split = item.Split c.comparison.from c.comparison.to (width c.comparison) in
      let more = splits_append items (split ∷ []) in
      record {
        at = (yes_at task s c rules walk.at.0 waits, (no_at task s c rules walk.at.0 waits, walk.at.1));
        valid = leads_more (IsValidItem task.inputs (output_term task 0) (output_term task 1)) (root task.premises ∷ []) items s.path (paths stages) split walk.valid
            (and_is (nat_lt c.comparison.from task.inputs) _ (lt_is c.comparison.from task.inputs from) (lt_is c.comparison.to task.inputs to));
        due = leads_more (IsDueItem (terms task)) (root task.premises ∷ []) items s.path (paths stages) split walk.due (c.comparison.from_cycles, c.comparison.to_cycles, refl, is_due);
        unsettled = finds_more (IsUnsettledItem (terms task)) (root task.premises ∷ []) items s.path (paths stages) split walk.unsettled;
        small = small_push items split walk.small (record {
          from = omega (arith, from, few);
          to = omega (arith, to, few);
          bound = record { low = omega (arith, ints, from_cycles, to_cycles); high = omega (arith, ints, from_cycles, to_cycles) };
        });
        count = let n = walk.count in let l = length-append items (split ∷ []) in omega (arith, n, l, more);
        room =
            let r = walk.room in
            let y = one_fewer task s c rules walk.at.0 waits (yes_assumption c.comparison) c.yes in
            let n = one_fewer task s c rules walk.at.0 waits (no_assumption c.comparison) c.no in
            let half = pow-suc 2 (joins_left task (assumed s (yes_assumption c.comparison) c.yes)) in
            let whole : 2 ^ joins_left task s ≡ 2 ^ suc (joins_left task (assumed s (yes_assumption c.comparison) c.yes)) = ap (λ (k : ℕ). 2 ^ k) (y ∙ one_and (joins_left task (assumed s (yes_assumption c.comparison) c.yes))) in
            let same : joins_left task (assumed s (no_assumption c.comparison) c.no) ≡ joins_left task (assumed s (yes_assumption c.comparison) c.yes) = omega (arith, y, n) in
            let other : 2 ^ joins_left task (assumed s (no_assumption c.comparison) c.no) ≡ 2 ^ joins_left task (assumed s (yes_assumption c.comparison) c.yes) = ap (λ (k : ℕ). 2 ^ k) same in
            omega (arith, r, half, whole, other, more);
      }
    where
      one_and : (k : ℕ) → 1 + k ≡ suc k
      one_and k = omega arith

-- the stage of the premises
pub begins_at : (task : Task) → IsTask task → IsAt task (record { path = root task.premises; facts = []; forms = [] })
begins_at task rules = record {
  stage = record {
    premises = ([], sym (append-nil (root task.premises)));
    possible = root_is_possible task.premises;
    right = tt;
    facts = λ k d lt. absurd (omega (arith, lt));
    few = omega arith;
    forms = λ k lt. absurd (omega (arith, lt));
    decided = λ k d lt. absurd (omega (arith, lt));
  };
  depth = let few = rules.few_premises in let long = root_long task.premises in omega (arith, few, long);
}
  where
    root_long : (premises : List Assume) → length (root premises) ≡ length premises
    root_long [] = refl
    root_long (p ∷ premises) = ap (λ (n : ℕ). suc n) (root_long premises)

pub walk_begins_there : (task : Task) (s : Stage) → IsTask task → s ≡ record { path = root task.premises; facts = []; forms = [] } → IsWalk task [] (s ∷ [])
walk_begins_there task s rules is = subst (λ (s : Stage). IsWalk task [] (s ∷ [])) (sym is) (walk_begins task (record { path = root task.premises; facts = []; forms = [] }) (begins_at task rules) refl refl)
