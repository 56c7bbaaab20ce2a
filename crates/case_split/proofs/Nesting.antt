-- What stays of the pending stages where the lists grow, and where they are cut.
use Rattle.std.proofs.Common.{◌≡◌, ℕ, ◌≤◌, List, [], ◌∷◌, ◌++◌, length, take, drop, refl, sym, ap, subst, ◌∙◌, arith, length-append}
use Rattle.std.proofs.lemmas.List.{take-append-le, length-take-le, take-append-drop, append-nil}
use Rattle.std.specs.List.{AllByRecursion}
use Rattle.refutation.specs.declared.item.Fact.{Fact}
use Rattle.refutation.specs.Cases.{Path}
use Rattle.tree_check.specs.declared.form.Form.{Form}
use Rattle.diff_bounds.specs.Pressing.{IsNear}
use Rattle.case_split.specs.declared.later.Later.{Later}
use Rattle.std.specs.Prelude.{ℤ, pos, negsuc, ◌≤ℤ◌, ◌<◌}
use Rattle.std.proofs.lemmas.Int.{ints}
use Rattle.refutation.specs.Path.{assumption}
use Rattle.case_split.specs.Stages.{Stage, Stages, assumed}
use Rattle.case_split.specs.Nested.{begun_one, begun, IsFrom, AreNested}
use Rattle.case_split.specs.declared.comparison.Comparison.{Comparison}
use Rattle.case_split.specs.Steps.{yes_assumption}

-- the sides begin within the lists
from_le : (depth n m : ℕ) (later : List Later) (path : Path) (facts : List Fact) (forms : List Form) → IsFrom depth n m later path facts forms
    → (depth ≤ length path) × (n ≤ length facts) × (m ≤ length forms)
from_le depth n m [] path facts forms h = h
from_le depth n m (l ∷ later) path facts forms h =
    let rest = from_le l.depth l.facts l.forms later path facts forms h.3 in
    (omega (arith, h.0, rest.0), omega (arith, h.1, rest.1), omega (arith, h.2, rest.2))

from_grown : (depth n m : ℕ) (later : List Later) (path rest : Path) (facts more : List Fact) (forms others : List Form)
    → IsFrom depth n m later path facts forms → IsFrom depth n m later (path ++ rest) (facts ++ more) (forms ++ others)
from_grown depth n m [] path rest facts more forms others h =
    let a = length-append path rest in let b = length-append facts more in let c = length-append forms others in
    (omega (arith, h.0, a), omega (arith, h.1, b), omega (arith, h.2, c))
from_grown depth n m (l ∷ later) path rest facts more forms others h =
    (h.0, h.1, h.2, from_grown l.depth l.facts l.forms later path rest facts more forms others h.3)

from_push : (depth n m : ℕ) (later : List Later) (l : Later) (path : Path) (facts : List Fact) (forms : List Form)
    → l.depth ≡ length path → l.facts ≡ length facts → l.forms ≡ length forms
    → IsFrom depth n m later path facts forms → IsFrom depth n m (later ++ l ∷ []) path facts forms
from_push depth n m [] l path facts forms d e f h =
    (omega (arith, h.0, d), omega (arith, h.1, e), omega (arith, h.2, f), (omega (arith, d), omega (arith, e), omega (arith, f)))
from_push depth n m (k ∷ later) l path facts forms d e f h =
    (h.0, h.1, h.2, from_push k.depth k.facts k.forms later l path facts forms d e f h.3)

from_pop : (depth n m : ℕ) (later : List Later) (l : Later) (path : Path) (facts : List Fact) (forms : List Form)
    → IsFrom depth n m (later ++ l ∷ []) path facts forms
    → IsFrom depth n m later (take l.depth path) (take l.facts facts) (take l.forms forms) × ((l.depth ≤ length path) × (l.facts ≤ length facts) × (l.forms ≤ length forms))
from_pop depth n m [] l path facts forms h =
    let a = length-take-le l.depth path h.3.0 in let b = length-take-le l.facts facts h.3.1 in let c = length-take-le l.forms forms h.3.2 in
    ((omega (arith, h.0, a), omega (arith, h.1, b), omega (arith, h.2, c)), h.3)
from_pop depth n m (k ∷ later) l path facts forms h =
    let rest = from_pop k.depth k.facts k.forms later l path facts forms h.3 in
    ((h.0, h.1, h.2, rest.0), rest.1)

begun_grown : (depth n m : ℕ) (later : List Later) (path rest : Path) (facts more : List Fact) (forms others : List Form)
    → IsFrom depth n m later path facts forms → begun (path ++ rest) (facts ++ more) (forms ++ others) later ≡ begun path facts forms later
begun_grown depth n m [] path rest facts more forms others h = refl
begun_grown depth n m (l ∷ later) path rest facts more forms others h =
    let le = from_le l.depth l.facts l.forms later path facts forms h.3 in
    let a = take-append-le l.depth path rest le.0 in
    let b = take-append-le l.facts facts more le.1 in
    let c = take-append-le l.forms forms others le.2 in
    let here : begun_one (path ++ rest) (facts ++ more) (forms ++ others) l ≡ begun_one path facts forms l =
    ap (λ (p : Path). assumed (record { path = p; facts = take l.facts (facts ++ more); forms = take l.forms (forms ++ others) }) l.side l.form) a
    ∙ (ap (λ (fs : List Fact). assumed (record { path = take l.depth path; facts = fs; forms = take l.forms (forms ++ others) }) l.side l.form) b
    ∙ ap (λ (gs : List Form). assumed (record { path = take l.depth path; facts = take l.facts facts; forms = gs }) l.side l.form) c) in
    ap (λ (s : List Stage). s ++ begun_one (path ++ rest) (facts ++ more) (forms ++ others) l ∷ []) (begun_grown l.depth l.facts l.forms later path rest facts more forms others h.3)
    ∙ ap (λ (s : Stage). begun path facts forms later ++ s ∷ []) here

begun_push : (later : List Later) (l : Later) (path : Path) (facts : List Fact) (forms : List Form)
    → begun path facts forms (later ++ l ∷ []) ≡ begun_one path facts forms l ∷ begun path facts forms later
begun_push [] l path facts forms = refl
begun_push (k ∷ later) l path facts forms = ap (λ (s : List Stage). s ++ begun_one path facts forms k ∷ []) (begun_push later l path facts forms)

near_push : (inputs : ℕ) (later : List Later) (l : Later) → AllByRecursion (λ l. IsNear inputs l.side) later → IsNear inputs l.side → AllByRecursion (λ l. IsNear inputs l.side) (later ++ l ∷ [])
near_push inputs [] l h k = (k, tt)
near_push inputs (m ∷ later) l h k = (h.0, near_push inputs later l h.1 k)

near_pop : (inputs : ℕ) (later : List Later) (l : Later) → AllByRecursion (λ l. IsNear inputs l.side) (later ++ l ∷ []) → AllByRecursion (λ l. IsNear inputs l.side) later × IsNear inputs l.side
near_pop inputs [] l h = (tt, h.0)
near_pop inputs (m ∷ later) l h = let rest = near_pop inputs later l h.1 in ((h.0, rest.0), rest.1)

-- the lists grew
module _ (inputs inputs' : ℕ) (path path' rest : Path) (facts facts' more : List Fact) (forms forms' others : List Form) (later : List Later)
    (inputs_is : inputs' ≡ inputs) (path_is : path' ≡ path ++ rest) (facts_is : facts' ≡ facts ++ more) (forms_is : forms' ≡ forms ++ others)
    (h : AreNested inputs path facts forms later) where
  pub grown_nested : AreNested inputs' path' facts' forms' later
  grown_nested = rw (inputs_is, path_is, facts_is, forms_is) (record { nested = from_grown 0 0 0 later path rest facts more forms others h.nested; near = h.near })

  pub grown_begun : begun path' facts' forms' later ≡ begun path facts forms later
  grown_begun = rw (path_is, facts_is, forms_is) (begun_grown 0 0 0 later path rest facts more forms others h.nested)

pub none_more : {A : Type 0} (xs : List A) → xs ≡ xs ++ []
none_more xs = sym (append-nil xs)

-- a side is pending
module _ (inputs : ℕ) (path : Path) (facts : List Fact) (forms : List Form) (later later' : List Later) (l : Later)
    (later_is : later' ≡ later ++ l ∷ []) (depth : l.depth ≡ length path) (n : l.facts ≡ length facts) (m : l.forms ≡ length forms)
    (h : AreNested inputs path facts forms later) where
  pub pushed_nested : IsNear inputs l.side → AreNested inputs path facts forms later'
  pushed_nested near = rw later_is (record { nested = from_push 0 0 0 later l path facts forms depth n m h.nested; near = near_push inputs later l h.near near })

  pub pushed_begun : begun path facts forms later' ≡ assumed (record { path = path; facts = facts; forms = forms }) l.side l.form ∷ begun path facts forms later
  pushed_begun = rw later_is (begun_push later l path facts forms
      ∙ ap (λ (s : Stage). s ∷ begun path facts forms later) (rw (depth, n, m) (rw (all_of path, all_of facts, all_of forms) refl)))
    where
      all_of : {A : Type 0} (xs : List A) → take (length xs) xs ≡ xs
      all_of [] = refl
      all_of (x ∷ xs) = ap (λ (ys : List _). x ∷ ys) (all_of xs)

-- the last pending side is taken
module _ (inputs : ℕ) (path : Path) (facts : List Fact) (forms : List Form) (old later : List Later) (l : Later)
    (old_is : old ≡ later ++ l ∷ []) (h : AreNested inputs path facts forms old) where
  popped : AreNested inputs path facts forms (later ++ l ∷ [])
  popped = subst (λ (s : List Later). AreNested inputs path facts forms s) old_is h

  parts : IsFrom 0 0 0 later (take l.depth path) (take l.facts facts) (take l.forms forms) × ((l.depth ≤ length path) × (l.facts ≤ length facts) × (l.forms ≤ length forms))
  parts = from_pop 0 0 0 later l path facts forms popped.nested

  pub popped_near : IsNear inputs l.side
  popped_near = (near_pop inputs later l popped.near).1

  pub popped_depth : l.depth ≤ length path
  popped_depth = parts.1.0

  pub cut_nested : (inputs' : ℕ) (path' : Path) (facts' : List Fact) (forms' : List Form) → inputs' ≡ inputs → path' ≡ take l.depth path → facts' ≡ take l.facts facts → forms' ≡ take l.forms forms
      → AreNested inputs' path' facts' forms' later
  cut_nested inputs' path' facts' forms' i d n m = rw (i, d, n, m) (record { nested = parts.0; near = (near_pop inputs later l popped.near).0 })

  same : begun path facts forms later ≡ begun (take l.depth path) (take l.facts facts) (take l.forms forms) later
  same =
      let grown = begun_grown 0 0 0 later (take l.depth path) (drop l.depth path) (take l.facts facts) (drop l.facts facts) (take l.forms forms) (drop l.forms forms) parts.0 in
      subst (λ (p : Path). begun p facts forms later ≡ begun (take l.depth path) (take l.facts facts) (take l.forms forms) later) (take-append-drop l.depth path)
      (subst (λ (fs : List Fact). begun (take l.depth path ++ drop l.depth path) fs forms later ≡ begun (take l.depth path) (take l.facts facts) (take l.forms forms) later) (take-append-drop l.facts facts)
      (subst (λ (gs : List Form). begun (take l.depth path ++ drop l.depth path) (take l.facts facts ++ drop l.facts facts) gs later ≡ begun (take l.depth path) (take l.facts facts) (take l.forms forms) later) (take-append-drop l.forms forms) grown))

  pub cut_begun : (path' : Path) (facts' : List Fact) (forms' : List Form) → path' ≡ take l.depth path → facts' ≡ take l.facts facts → forms' ≡ take l.forms forms
      → begun path facts forms old ≡ assumed (record { path = path'; facts = facts'; forms = forms' }) l.side l.form ∷ begun path' facts' forms' later
  cut_begun path' facts' forms' d n m = rw (old_is, d, n, m)
      (begun_push later l path facts forms ∙ ap (λ (s : List Stage). begun_one path facts forms l ∷ s) same)

-- a side is pending, as the code has it
pub split_later : (inputs : ℕ) (path : Path) (facts : List Fact) (forms : List Form) (later later' : List Later) (old : Stages) (d n m i j : ℕ) (v w : ℤ) (form : Form)
    → AreNested inputs path facts forms later → record { inputs = inputs; now = record { path = path; facts = facts; forms = forms }; later = begun path facts forms later } ≡ old
    → later' ≡ later ++ record { depth = d; facts = n; forms = m; side = assumption i j v; form = form } ∷ [] → d ≡ length path → n ≡ length facts → m ≡ length forms → v ≡ w
    → begun path facts forms later' ≡ assumed old.now (assumption i j w) form ∷ old.later
split_later inputs path facts forms later later' old d n m i j v w form h is later_is de ne me ve =
    pushed_begun inputs path facts forms later later' (record { depth = d; facts = n; forms = m; side = assumption i j v; form = form }) later_is de ne me h
    ∙ (ap (λ (u : ℤ). assumed (record { path = path; facts = facts; forms = forms }) (assumption i j u) form ∷ begun path facts forms later) ve
    ∙ ap (λ (s : Stages). assumed s.now (assumption i j w) form ∷ s.later) is)

pub split_nested : (inputs : ℕ) (path : Path) (facts : List Fact) (forms : List Form) (later later' : List Later) (old : Stages) (d n m i j : ℕ) (v w : ℤ) (form : Form)
    → AreNested inputs path facts forms later → record { inputs = inputs; now = record { path = path; facts = facts; forms = forms }; later = begun path facts forms later } ≡ old
    → later' ≡ later ++ record { depth = d; facts = n; forms = m; side = assumption i j v; form = form } ∷ [] → d ≡ length path → n ≡ length facts → m ≡ length forms → v ≡ w
    → i < old.inputs → j < old.inputs → negsuc 1000000 ≤ℤ w → w ≤ℤ pos 1000001 → AreNested inputs path facts forms later'
split_nested inputs path facts forms later later' old d n m i j v w form h is later_is de ne me ve hi hj low high =
    let same = ap (λ (s : Stages). s.inputs) is in
    pushed_nested inputs path facts forms later later' (record { depth = d; facts = n; forms = m; side = assumption i j v; form = form }) later_is de ne me h
    (record { from = omega (arith, same, hi); to = omega (arith, same, hj); low = omega (arith, ints, low, ve); high = omega (arith, ints, high, ve) })

pub begun_long : (path : Path) (facts : List Fact) (forms : List Form) (later : List Later) → length (begun path facts forms later) ≡ length later
begun_long path facts forms [] = refl
begun_long path facts forms (l ∷ later) = let h = begun_long path facts forms later in let a = length-append (begun path facts forms later) (begun_one path facts forms l ∷ []) in omega (arith, h, a)

-- bounds take what is assumed where a comparison is so
pub yes_near : (inputs : ℕ) (c : Comparison) → c.from < inputs → c.to < inputs → c.from_cycles ≤ 1000000 → c.to_cycles ≤ 1000000 → IsNear inputs (yes_assumption c)
yes_near inputs c from to from_cycles to_cycles = record { from = from; to = to; low = omega (arith, ints, from_cycles, to_cycles); high = omega (arith, ints, from_cycles, to_cycles) }
