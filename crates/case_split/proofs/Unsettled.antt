-- The three ends of the walk.
use Rattle.std.proofs.Common.{◌≡◌, ℕ, suc, ◌+◌, ◌^◌, ◌≤◌, ◌<◌, List, [], ◌∷◌, ◌++◌, length, refl, sym, ap, subst, ◌∙◌, arith, Bool, true, false, ◌⊎◌, inl, inr, replicate, slice_index_or}
use Rattle.std.specs.Prelude.{◌||◌, IsTrue, Option, None, pos, ℤ}
use Rattle.std.specs.List.{AllByRecursion}
use Rattle.std.proofs.lemmas.Nat.{pow_pos}
use Rattle.std.proofs.Math.Nat.{pow-suc}
use Rattle.std.proofs.lemmas.List.Folds.{list_any-append}
use Rattle.refutation.specs.declared.item.Item.{Item}
use Rattle.refutation.specs.declared.item.Item.TheVariants as item
use Rattle.refutation.specs.declared.item.Fact.{Fact}
use Rattle.refutation.specs.Path.{MeetsAll}
use Rattle.refutation.specs.Cases.{Path, EachOnPath, OneOnPath}
use Rattle.refutation.specs.Limits.{KeepsLimits}
use Rattle.diff_bounds.specs.Bounds.{integers}
use Rattle.diff_bounds.proofs.Kept.{meets_fewer}
use Rattle.term_store.specs.Tree.{Tree}
use Rattle.term_store.specs.Subterms.{is_among, subterms, all_subterms, same_tree}
use Rattle.term_store.specs.Trees.{tree, term}
use Rattle.tree_check.specs.declared.form.Form.{Form}
use Rattle.tree_check.specs.declared.form.Form.TheVariants.{Never, Plus, Undecided}
use Rattle.tree_check.specs.Forms.{Known, compared, chosen, is_decided, min_form, max_form, lt_form}
use Rattle.tree_check.specs.Valid.{root, listed}
use Rattle.case_split.specs.declared.comparison.Choice.{Choice}
use Rattle.case_split.specs.Decided.{AreRight, IsPlus, IsUndecided, IsPossible}
use Rattle.case_split.specs.Leaves.{IsValidItem, AreApart, IsEnding}
use Rattle.case_split.specs.declared.ending.Ending.{Ending}
use Rattle.case_split.specs.declared.ending.Ending.TheVariants as ending
use Rattle.case_split.specs.Steps.{width, yes_assumption, no_assumption}
use Rattle.term_store.specs.declared.node.Term.{Term}
use Rattle.case_split.specs.Live.{IsDue, IsDueItem, IsUnsettledItem, opened}
use Rattle.case_split.specs.Stages.{Stage, assumed}
use Rattle.case_split.specs.Task.{Task, IsTask, IsStage, joins}
use Rattle.case_split.specs.TermForms.{term_form}
use Rattle.case_split.specs.Verdicts.{IsDecision}
use Rattle.case_split.specs.declared.ending.Decision.{Decision}
use Rattle.case_split.specs.Walk.{joins_left, IsAt, IsWaiting}
use Rattle.case_split.proofs.Implied.{right_more}
use Rattle.case_split.proofs.Leading.{leads_end, open_items}
use Rattle.case_split.proofs.Reaching.{says_more, says_last}
use Rattle.case_split.proofs.Splitting.{one_fewer}
use Rattle.case_split.proofs.Stays.{forms_stay, part_undecided}
use Rattle.case_split.proofs.Walking.{IsWalk, paths, output_term, terms, walk_ends_one, walk_splits, is_due, rooms_most, splits_append, no_splits}

-- all branches have ended
pub walk_equal : (task : Task) (items : List Item) (budget : ℕ) → IsWalk task items [] → opened items ≤ budget → budget ≤ 1000000
    → EachOnPath (IsValidItem task.inputs (output_term task 0) (output_term task 1)) (root task.premises ∷ []) items × EachOnPath (IsDueItem (terms task)) (root task.premises ∷ []) items
    × KeepsLimits items × (length items ≤ budget)
walk_equal task items budget walk within few =
    let c = walk.count in (
      leads_end (IsValidItem task.inputs (output_term task 0) (output_term task 1)) (root task.premises ∷ []) items walk.valid,
      leads_end (IsDueItem (terms task)) (root task.premises ∷ []) items walk.due,
      record { few = omega (arith, c, within, few); small = walk.small },
      omega (arith, c, within),
    )

-- numbers that meet a path meet the premises
pub walk_differs : (task : Task) (s : Stage) (a b : Tree) (ns : List ℕ) → IsStage task s → AreApart task.inputs s.path a b ns → AreApart task.inputs (root task.premises) a b ns
walk_differs task s a b ns stage apart = record {
  long = apart.long;
  small = apart.small;
  meet = meets_fewer (integers ns) (root task.premises) stage.premises.0 (subst (λ (p : Path). MeetsAll (integers ns) p) stage.premises.1 apart.meet);
  differ = apart.differ;
}

-- a form by fewer facts, where more facts decide it
is_or_undecided : (path : Path) → IsPossible path → (facts : List Fact) → AreRight path facts → (t : Tree) (i c : ℕ) → IsPlus path t i c
    → (term_form (listed facts) t ≡ Undecided) ⊎ (term_form (listed facts) t ≡ Plus i c)
is_or_undecided path possible facts right t i c plus = go (term_form (listed facts) t) refl
  where
    all_right : AreRight path (facts ++ plus.0)
    all_right = right_more path facts plus.0 right plus.1

    decided : is_decided (term_form (listed facts) t) ≡ true → term_form (listed facts) t ≡ Plus i c
    decided h =
        let a = forms_stay path possible facts (facts ++ plus.0) right all_right (says_more facts plus.0) t h in
        let b = forms_stay path possible plus.0 (facts ++ plus.0) plus.1 all_right (says_last facts plus.0) t (subst (λ (f : Form). is_decided f ≡ true) (sym plus.2) refl) in
        sym a ∙ (b ∙ plus.2)

    go : (f : Form) → term_form (listed facts) t ≡ f → (term_form (listed facts) t ≡ Undecided) ⊎ (term_form (listed facts) t ≡ Plus i c)
    go Undecided e = inl e
    go Never e = inr (decided (subst (λ (f : Form). is_decided f ≡ true) (sym e) refl))
    go (Plus j d) e = inr (decided (subst (λ (f : Form). is_decided f ≡ true) (sym e) refl))

module _ (known : Known) (f g : Form) (i c j d : ℕ) (f_is : (f ≡ Undecided) ⊎ (f ≡ Plus i c)) (g_is : (g ≡ Undecided) ⊎ (g ≡ Plus j d)) (none : compared known i c j d ≡ None) where
  min_open : min_form known f g ≡ Undecided
  min_open = elim f_is [
    | inl e ↦ rw e refl
    | inr e ↦ elim g_is [
      | inl h ↦ rw (e, h) refl
      | inr h ↦ rw (e, h) (ap (λ (o : Option Bool). chosen o (Plus i c) (Plus j d)) none)
    ]
  ]

  max_open : max_form known f g ≡ Undecided
  max_open = elim f_is [
    | inl e ↦ rw e refl
    | inr e ↦ elim g_is [
      | inl h ↦ rw (e, h) refl
      | inr h ↦ rw (e, h) (ap (λ (o : Option Bool). chosen o (Plus j d) (Plus i c)) none)
    ]
  ]

  lt_open : lt_form known g f ≡ Undecided
  lt_open = elim g_is [
    | inl e ↦ rw e refl
    | inr e ↦ elim f_is [
      | inl h ↦ rw (e, h) refl
      | inr h ↦ rw (e, h) (ap (λ (o : Option Bool). chosen o Never (Plus j d)) none)
    ]
  ]

-- an operator whose comparison isn't decided is undecided
due_undecided : (ts : List Tree) (path : Path) (i c j d : ℕ) → IsPossible path → (due : IsDue ts path i c j d) → IsUndecided path due.operator
due_undecided ts path i c j d possible due facts right =
    let f_is = is_or_undecided path possible facts right due.a i c due.a_is in
    let g_is = is_or_undecided path possible facts right due.b j d due.b_is in
    let none = due.undecided facts right in
    let f = term_form (listed facts) due.a in
    let g = term_form (listed facts) due.b in
    elim due.compares [
      | inl e ↦ subst (λ (t : Tree). term_form (listed facts) t ≡ Undecided) (sym e) (min_open (listed facts) f g i c j d f_is g_is none)
      | inr o ↦ elim o [
        | inl e ↦ subst (λ (t : Tree). term_form (listed facts) t ≡ Undecided) (sym e) (max_open (listed facts) f g i c j d f_is g_is none)
        | inr e ↦ subst (λ (t : Tree). term_form (listed facts) t ≡ Undecided) (sym e) (lt_open (listed facts) f g i c j d f_is g_is none)
      ]
    ]

either_of : (a b : Bool) → (a || b) ≡ true → (a ≡ true) ⊎ (b ≡ true)
either_of true b h = inl refl
either_of false b h = inr h

-- so one of the outputs is
one_undecided : (path : Path) (operator a b : Tree) → IsTrue (is_among operator (all_subterms (a ∷ b ∷ []))) → IsUndecided path operator → IsUnsettledItem (a ∷ b ∷ []) path item.Unsettled
one_undecided path operator a b among open_there =
    elim (either_of _ _ (sym (list_any-append (same_tree operator) (subterms a) (subterms b ++ [])) ∙ among)) [
      | inl h ↦ inl (λ facts right. part_undecided (listed facts) operator a h (open_there facts right))
      | inr k ↦ elim (either_of _ _ (sym (list_any-append (same_tree operator) (subterms b) []) ∙ k)) [
        | inl h ↦ inr (inl (λ facts right. part_undecided (listed facts) operator b h (open_there facts right)))
        | inr h ↦ absurd (no h)
      ]
    ]
  where
    no : false ≡ true → ⊥
    no h = cc

paths_long : (stages : List Stage) → length (paths stages) ≡ length stages
paths_long [] = refl
paths_long (s ∷ stages) = ap (λ (n : ℕ). suc n) (paths_long stages)

-- the budget is spent
module _ (task : Task) (items : List Item) (s : Stage) (stages : List Stage) (c : Choice) (budget : ℕ) (rules : IsTask task) (walk : IsWalk task items (s ∷ stages)) (waits : IsWaiting task s c)
    (within : opened items ≤ budget) (spent : budget < opened items + 2) where
  left : List Item
  left = replicate (suc (length stages)) item.Unsettled

  same_opened : opened (items ++ replicate (suc (length stages)) item.Unsettled) ≡ opened items
  same_opened = let a = splits_append items (replicate (suc (length stages)) item.Unsettled) in let b = no_splits (suc (length stages)) in omega (arith, a, b)

  pub walk_undecided : (count : ℕ) → count ≡ suc (length stages)
      → EachOnPath (IsDueItem (terms task)) (root task.premises ∷ []) (items ++ replicate count item.Unsettled) × OneOnPath (IsUnsettledItem (terms task)) (root task.premises ∷ []) (items ++ replicate count item.Unsettled)
      × (opened (items ++ replicate count item.Unsettled) ≤ budget) × (budget < opened (items ++ replicate count item.Unsettled) + 2) × (budget + 1 < 2 ^ (joins task.nodes + 1))
  walk_undecided count is =
      let due = is_due task items s stages c rules walk waits in
      let here = one_undecided s.path due.operator (output_term task 0) (output_term task 1) due.part
      (due_undecided (terms task) s.path c.comparison.from c.comparison.from_cycles c.comparison.to c.comparison.to_cycles walk.at.0.stage.possible due) in
      let each = open_items (IsDueItem (terms task)) (λ path. tt) (paths (s ∷ stages)) in
      let long = paths_long (s ∷ stages) in
      let o = same_opened in
      let r = walk.room in
      let n = one_fewer task s c rules walk.at.0 waits (record { from = 0; to = 0; bound = pos 0 }) Never in
      let small = two_or_more (joins_left task s) _ n in
      let rest = rooms_most task stages in
      let whole = pow-suc 2 (joins task.nodes) in
      let add : 2 ^ (joins task.nodes + 1) ≡ 2 ^ suc (joins task.nodes) = ap (λ (k : ℕ). 2 ^ k) (one_more (joins task.nodes)) in
      rw is (
        walk.due (replicate (suc (length stages)) item.Unsettled) (subst (λ (k : ℕ). EachOnPath (IsDueItem (terms task)) (paths (s ∷ stages)) (replicate k item.Unsettled)) long each),
        walk.unsettled (replicate (suc (length stages)) item.Unsettled) (inl here),
        omega (arith, o, within),
        omega (arith, o, spent),
        omega (arith, o, spent, r, small, rest, whole, add),
      )
    where
      one_more : (k : ℕ) → k + 1 ≡ suc k
      one_more k = omega arith

      two_or_more : (k m : ℕ) → k ≡ 1 + m → 2 ≤ 2 ^ k
      two_or_more k m e = let p = pow_pos m in let w = pow-suc 2 m in let same : 2 ^ k ≡ 2 ^ suc m = ap (λ (n : ℕ). 2 ^ n) (e ∙ one_and m) in omega (arith, p, w, same)
        where
          one_and : (m : ℕ) → 1 + m ≡ suc m
          one_and m = omega arith

-- the decision of a task
abbrev pub Decides : Task → ℕ → Decision → Type 0
Decides task budget d = IsDecision task.inputs task.premises (output_term task 0) (output_term task 1) (joins task.nodes) budget d

pub all_possible : (task : Task) (stages : List Stage) → AllByRecursion (IsAt task) stages → AllByRecursion (λ s. IsPossible s.path) stages
all_possible task [] h = tt
all_possible task (s ∷ stages) h = (h.0.stage.possible, all_possible task stages h.1)

pub all_have_room : (task : Task) (stages : List Stage) → IsTask task → AllByRecursion (IsAt task) stages → AllByRecursion (λ s. length s.path ≤ 65536) stages
all_have_room task [] rules h = tt
all_have_room task (s ∷ stages) rules h = (let d = h.0.depth in let m = rules.few_joins in omega (arith, d, m), all_have_room task stages rules h.1)

-- the end of a branch, as it is judged
pub ending_of : (task : Task) (first second : Term) (path : Path) (e f : Ending) → task.roots ≡ first ∷ second ∷ [] → IsEnding task.inputs path (tree task.nodes first.0) (tree task.nodes second.0) e → e ≡ f
    → IsEnding task.inputs path (output_term task 0) (output_term task 1) f
ending_of task first second path e f roots h is =
    subst (λ (f : Ending). IsEnding task.inputs path (output_term task 0) (output_term task 1) f) is
    (subst (λ (roots : List Term). IsEnding task.inputs path (tree task.nodes (slice_index_or roots 0 (term 0)).0) (tree task.nodes (slice_index_or roots 1 (term 0)).0) e) (sym roots) h)

-- the walk after the end of a branch
pub walk_after : (task : Task) (items items' : List Item) (s : Stage) (stages later : List Stage) (facts : List Fact) → IsWalk task items (s ∷ stages)
    → IsEnding task.inputs s.path (output_term task 0) (output_term task 1) (ending.Equal facts) → items' ≡ items ++ item.Leaf facts ∷ [] → later ≡ stages → IsWalk task items' later
walk_after task items items' s stages later facts walk end more same =
    subst (λ (items : List Item). IsWalk task items later) (sym more) (subst (λ (later : List Stage). IsWalk task (items ++ item.Leaf facts ∷ []) later) (sym same) (walk_ends_one task items s stages facts walk end.0 end.1))

pub leaf_opens_none : (items items' : List Item) (facts : List Fact) → items' ≡ items ++ item.Leaf facts ∷ [] → opened items' ≡ opened items
leaf_opens_none items items' facts more = let a = splits_append items (item.Leaf facts ∷ []) in ap (λ (items : List Item). opened items) more ∙ omega (arith, a)

-- the walk after a split
pub walk_split_is : (task : Task) (items items' : List Item) (s now : Stage) (stages later old : List Stage) (c : Choice) (i : Item) → IsTask task → IsWalk task items (s ∷ stages) → IsWaiting task s c
    → i ≡ item.Split c.comparison.from c.comparison.to (width c.comparison) → items' ≡ items ++ i ∷ [] → now ≡ assumed s (yes_assumption c.comparison) c.yes
    → later ≡ assumed s (no_assumption c.comparison) c.no ∷ old → old ≡ stages → IsWalk task items' (now ∷ later)
walk_split_is task items items' s now stages later old c i rules walk waits is more here rest same =
    subst (λ (items : List Item). IsWalk task items (now ∷ later)) (sym more)
    (subst (λ (i : Item). IsWalk task (items ++ i ∷ []) (now ∷ later)) (sym is)
    (subst (λ (s : Stage). IsWalk task (items ++ item.Split c.comparison.from c.comparison.to (width c.comparison) ∷ []) (s ∷ later)) (sym here)
    (subst (λ (ss : List Stage). IsWalk task (items ++ item.Split c.comparison.from c.comparison.to (width c.comparison) ∷ []) (assumed s (yes_assumption c.comparison) c.yes ∷ ss)) (sym (rest ∙ ap (λ (ss : List Stage). assumed s (no_assumption c.comparison) c.no ∷ ss) same))
    (walk_splits task items s stages c rules walk waits))))

pub split_opens_two : (items items' : List Item) (i j : ℕ) (w : ℤ) (it : Item) → it ≡ item.Split i j w → items' ≡ items ++ it ∷ [] → opened items' ≡ opened items + 2
split_opens_two items items' i j w it is more =
    let a = splits_append items (item.Split i j w ∷ []) in
    ap (λ (items : List Item). opened items) more ∙ (ap (λ (it : Item). opened (items ++ it ∷ [])) is ∙ omega (arith, a))
