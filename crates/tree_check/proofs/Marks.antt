-- The marks of the lets that an output needs, and the places with a mark.
use Rattle.std.proofs.Common.{◌≡◌, ℕ, zero, suc, ◌+◌, ◌<◌, ◌≤◌, Bool, true, false, List, [], ◌∷◌, ◌++◌, length, refl, sym, ap, subst, ◌∙◌, arith, inl, inr, get_or-set_same, get_or-set_other, append_assoc}
use Rattle.std.specs.Prelude.{slice_index_or, slice_set}
use Rattle.std.specs.List.{Contains}
use Rattle.std.proofs.lemmas.Bool.{false≢true, cases_eq}
use Rattle.std.proofs.lemmas.List.{length-set}
use Rattle.std.proofs.lemmas.List.Elements.{Contains-append_left, Contains-push}
use Rattle.net_model.specs.Formula.{Formula, Never, Input, Named, Min, Max, Lt, Inc, Equation}
use Rattle.net_model.specs.Rules.{IsOver, AreLets}
use Rattle.tree_check.specs.Needed.{EachName, body_at, AreInOrder, IsMarked, AreMarks, with_names, marked_places}
use Rattle.tree_check.proofs.Names.{each-map, each-over, over-more, over-at}

pub length-names : (marks : List Bool) (t : Formula) → length (with_names marks t) ≡ length marks
length-names marks Never = refl
length-names marks (Input i) = refl
length-names marks (Named j) = length-set marks j true
length-names marks (Min a b) = length-names (with_names marks a) b ∙ length-names marks a
length-names marks (Max a b) = length-names (with_names marks a) b ∙ length-names marks a
length-names marks (Lt a b) = length-names (with_names marks a) b ∙ length-names marks a
length-names marks (Inc a c) = length-names marks a

set-kept : (marks : List Bool) (k j : ℕ) → IsMarked marks j → IsMarked (slice_set marks k true) j
set-kept [] k j h = h
set-kept (m ∷ marks) zero zero h = refl
set-kept (m ∷ marks) zero (suc j) h = h
set-kept (m ∷ marks) (suc k) zero h = h
set-kept (m ∷ marks) (suc k) (suc j) h = set-kept marks k j h

pub kept : (marks : List Bool) (t : Formula) (j : ℕ) → IsMarked marks j → IsMarked (with_names marks t) j
kept marks Never j h = h
kept marks (Input i) j h = h
kept marks (Named k) j h = set-kept marks k j h
kept marks (Min a b) j h = kept (with_names marks a) b j (kept marks a j h)
kept marks (Max a b) j h = kept (with_names marks a) b j (kept marks a j h)
kept marks (Lt a b) j h = kept (with_names marks a) b j (kept marks a j h)
kept marks (Inc a c) j h = kept marks a j h

-- marks at places that a formula can't name are as they were
pub others : (marks : List Bool) (i k : ℕ) (t : Formula) (j : ℕ) → IsOver i k t → k ≤ j → slice_index_or (with_names marks t) j false ≡ slice_index_or marks j false
others marks i k Never j o le = refl
others marks i k (Input n) j o le = refl
others marks i k (Named m) j o le = get_or-set_other marks m j true false (λ e. omega (arith, o, le, e))
others marks i k (Min a b) j o le = others (with_names marks a) i k b j o.1 le ∙ others marks i k a j o.0 le
others marks i k (Max a b) j o le = others (with_names marks a) i k b j o.1 le ∙ others marks i k a j o.0 le
others marks i k (Lt a b) j o le = others (with_names marks a) i k b j o.1 le ∙ others marks i k a j o.0 le
others marks i k (Inc a c) j o le = others marks i k a j o le

-- two formulas, one after the other
both-marked : (marks : List Bool) (i : ℕ) (a b : Formula) → IsOver i (length marks) b → EachName (IsMarked (with_names marks a)) a →
    (IsOver i (length (with_names marks a)) b → EachName (IsMarked (with_names (with_names marks a) b)) b) →
    EachName (IsMarked (with_names (with_names marks a) b)) a × EachName (IsMarked (with_names (with_names marks a) b)) b
both-marked marks i a b q first second = (
  each-map (IsMarked (with_names marks a)) (IsMarked (with_names (with_names marks a) b)) a (λ j h. kept (with_names marks a) b j h) first,
  second (subst (λ (n : ℕ). IsOver i n b) (sym (length-names marks a)) q),
)

pub names-marked : (marks : List Bool) (i : ℕ) (t : Formula) → IsOver i (length marks) t → EachName (IsMarked (with_names marks t)) t
names-marked marks i Never o = tt
names-marked marks i (Input n) o = tt
names-marked marks i (Named j) o = get_or-set_same marks j true false o
names-marked marks i (Min a b) o = both-marked marks i a b o.1 (names-marked marks i a o.0) (λ p. names-marked (with_names marks a) i b p)
names-marked marks i (Max a b) o = both-marked marks i a b o.1 (names-marked marks i a o.0) (λ p. names-marked (with_names marks a) i b p)
names-marked marks i (Lt a b) o = both-marked marks i a b o.1 (names-marked marks i a o.0) (λ p. names-marked (with_names marks a) i b p)
names-marked marks i (Inc a c) o = names-marked marks i a o

pub marks-begin : (i : ℕ) (lets : List Equation) (t : Formula) (marks marks' : List Bool) → marks' ≡ with_names marks t → length marks ≡ length lets → IsOver i (length lets) t → AreMarks lets t (length lets) marks'
marks-begin i lets t marks marks' is long over =
    rw is (record {
      long = length-names marks t ∙ long;
      body = names-marked marks i t (subst (λ (n : ℕ). IsOver i n t) (sym long) over);
      closed = λ j le lt m. absurd (omega (arith, le, lt));
    })

-- a marked let's names are marked
pub marks-more : (i : ℕ) (lets : List Equation) (t : Formula) (p : ℕ) (marks marks' : List Bool) → AreLets i 0 lets → p < length lets → marks' ≡ with_names marks (body_at lets p) → AreMarks lets t (suc p) marks → AreMarks lets t p marks'
marks-more i lets t p marks marks' ok lt is h =
    rw is (record {
      long = length-names marks (body_at lets p) ∙ h.long;
      body = each-map (IsMarked marks) (IsMarked (with_names marks (body_at lets p))) t (λ j m. kept marks (body_at lets p) j m) h.body;
      closed = λ j le below m. elim (cases_eq j p) [
        | inl e ↦ rw e here
        | inr ne ↦ there j (omega (arith, le, ne)) below m
      ];
    })
  where
    over : IsOver i p (body_at lets p)
    over = over-at i p lets ok lt

    here : EachName (IsMarked (with_names marks (body_at lets p))) (body_at lets p)
    here = names-marked marks i (body_at lets p) (over-more i p (length marks) (body_at lets p) (let e = h.long in omega (arith, e, lt)) over)

    there : (j : ℕ) → suc p ≤ j → j < length lets → IsMarked (with_names marks (body_at lets p)) j → EachName (IsMarked (with_names marks (body_at lets p))) (body_at lets j)
    there j le below m =
        let old : IsMarked marks j = sym (others marks i p (body_at lets p) j over (omega (arith, le))) ∙ m in
        each-map (IsMarked marks) (IsMarked (with_names marks (body_at lets p))) (body_at lets j) (λ k m. kept marks (body_at lets p) k m) (h.closed j le below old)

-- a let without a mark needs none
pub marks-skip : (lets : List Equation) (t : Formula) (p : ℕ) (marks : List Bool) → slice_index_or marks p false ≡ false → AreMarks lets t (suc p) marks → AreMarks lets t p marks
marks-skip lets t p marks none h =
    record {
      long = h.long;
      body = h.body;
      closed = λ j le below m. elim (cases_eq j p) [
        | inl e ↦ absurd (false≢true (sym (subst (λ (k : ℕ). slice_index_or marks k false ≡ false) (sym e) none) ∙ m))
        | inr ne ↦ h.closed j (omega (arith, le, ne)) below m
      ];
    }

-- the marked places: each after those that its let names
module _ (i : ℕ) (lets : List Equation) (ok : AreLets i 0 lets) (t : Formula) (all : List Bool) (marks : AreMarks lets t 0 all) where
  abbrev AreDone : ℕ → List ℕ → Type 0
  AreDone n done = (q : ℕ) → q < n → IsMarked all q → Contains done q

  unmarked-done : (n : ℕ) (done : List ℕ) → slice_index_or all n false ≡ false → AreDone n done → AreDone (n + 1) done
  unmarked-done n done none h q lt m = elim (cases_eq q n) [
    | inl e ↦ absurd (false≢true (sym (subst (λ (k : ℕ). slice_index_or all k false ≡ false) (sym e) none) ∙ m))
    | inr ne ↦ h q (omega (arith, lt, ne)) m
  ]

  marked-done : (n : ℕ) (done : List ℕ) → AreDone n done → AreDone (n + 1) (done ++ n ∷ [])
  marked-done n done h q lt m = elim (cases_eq q n) [
    | inl e ↦ rw e (Contains-push done n)
    | inr ne ↦ Contains-append_left done (n ∷ []) q (h q (omega (arith, lt, ne)) m)
  ]

  names-done : (n : ℕ) (done : List ℕ) → n < length lets → IsMarked all n → AreDone n done → EachName (Contains done) (body_at lets n)
  names-done n done lt m h =
      each-map (λ (j : ℕ). (j < n) × IsMarked all j) (Contains done) (body_at lets n) (λ j p. h j p.0 p.1)
      (each-over (IsMarked all) i n (body_at lets n) (over-at i n lets ok lt) (marks.closed n (omega arith) lt m))

  -- what is left of the marks from place n on
  abbrev IsRest : ℕ → List Bool → Type 0
  IsRest n rest = (q : ℕ) → slice_index_or all (n + q) false ≡ slice_index_or rest q false

  rest-first : (n : ℕ) (m : Bool) (rest : List Bool) → IsRest n (m ∷ rest) → slice_index_or all n false ≡ m
  rest-first n m rest is = let z : n ≡ n + 0 = omega arith in subst (λ (k : ℕ). slice_index_or all k false ≡ m) (sym z) (is 0)

  rest-next : (n : ℕ) (m : Bool) (rest : List Bool) → IsRest n (m ∷ rest) → IsRest (n + 1) rest
  rest-next n m rest is q = let z : n + suc q ≡ n + 1 + q = omega arith in subst (λ (k : ℕ). slice_index_or all k false ≡ slice_index_or rest q false) z (is (suc q))

  abbrev AreListed : ℕ → List Bool → List ℕ → Type 0
  AreListed n rest done = AreInOrder lets done (marked_places n rest) × AreDone (length lets) (done ++ marked_places n rest)

  listed-from : (rest : List Bool) (n : ℕ) (done : List ℕ) → IsRest n rest → n + length rest ≡ length lets → AreDone n done → AreListed n rest done
  listed-from [] n done is long h = (tt, λ q lt m. Contains-append_left done [] q (h q (omega (arith, long, lt)) m))
  listed-from (false ∷ rest) n done is long h =
      listed-from rest (n + 1) done (rest-next n false rest is) (omega (arith, long)) (unmarked-done n done (rest-first n false rest is) h)
  listed-from (true ∷ rest) n done is long h =
      let lt : n < length lets = omega (arith, long) in
      let m = rest-first n true rest is in
      let more = listed-from rest (n + 1) (done ++ n ∷ []) (rest-next n true rest is) (omega (arith, long)) (marked-done n done h) in
      ((lt, names-done n done lt m h, more.0), subst (λ (places : List ℕ). AreDone (length lets) places) (append_assoc done (n ∷ []) (marked_places (n + 1) rest)) more.1)

  listed : AreListed 0 all []
  listed = listed-from all 0 [] (λ q. let z : 0 + q ≡ q = omega arith in ap (λ (k : ℕ). slice_index_or all k false) z) (let long = marks.long in omega (arith, long)) (λ q lt m. absurd (omega (arith, lt)))

  pub places_in_order : (places : List ℕ) → places ≡ marked_places 0 all → AreInOrder lets [] places
  places_in_order places is = rw is listed.0

  pub places_needed : (places : List ℕ) → places ≡ marked_places 0 all → IsOver i (length lets) t → EachName (Contains places) t
  places_needed places is over =
      rw is (each-map (λ (j : ℕ). (j < length lets) × IsMarked all j) (Contains (marked_places 0 all)) t (λ j p. listed.1 j p.0 p.1)
      (each-over (IsMarked all) i (length lets) t over marks.body))
