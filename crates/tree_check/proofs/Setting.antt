-- The forms of the lets that an output needs, set one after another.
use Rattle.std.proofs.Common.{◌≡◌, ℕ, zero, suc, ◌+◌, ◌<◌, List, [], ◌∷◌, ◌++◌, length, take, drop, refl, sym, ap, subst, ◌∙◌, arith, ◌⊎◌, inl, inr, get_or, get_or-set_same, get_or-set_other, append_assoc, drop-cons, length-append}
use Rattle.std.specs.Prelude.{fold, slice_index_or, slice_set}
use Rattle.std.specs.List.{Contains}
use Rattle.std.proofs.Math.ListN.{get_or-append}
use Rattle.std.proofs.Math.Seq.{get_or-append_seam, take-suc}
use Rattle.std.proofs.lemmas.Bool.{cases_eq}
use Rattle.std.proofs.lemmas.List.{take-append-drop, length-take-le, get_or_default}
use Rattle.std.proofs.lemmas.List.Sums.{fold-append}
use Rattle.std.proofs.lemmas.List.Elements.{Contains-append_left, Contains-append_cases}
use Rattle.net_model.specs.Formula as f
use Rattle.net_model.specs.Formula.{Formula, Equation, Net}
use Rattle.net_model.specs.Rules.{AreLets, let_spans, IsNetwork}
use Rattle.spike_eval.proofs.Late.{AreShort}
use Rattle.tree_check.specs.declared.form.Form.{Form}
use Rattle.tree_check.specs.declared.form.Form.TheVariants.{Never}
use Rattle.tree_check.specs.Forms.{Known, inc_form, form_at, form, let_forms, output_form}
use Rattle.tree_check.specs.Room.{IsWithin, FormHasRoom}
use Rattle.tree_check.specs.Needed.{EachName, body_at, AreInOrder}
use Rattle.tree_check.proofs.Names.{each-map, each-over, over-at}
use Rattle.tree_check.proofs.Constants.{let_has_room, output_has_room, output_is}

-- the let at place m of the list names only those at places before it
pub in-order-at : (lets : List Equation) (places done : List ℕ) (m : ℕ) → AreInOrder lets done places → m < length places →
    (slice_index_or places m 0 < length lets) × EachName (Contains (done ++ take m places)) (body_at lets (slice_index_or places m 0))
in-order-at lets [] done m h lt = absurd (omega (arith, lt))
in-order-at lets (p ∷ places) done zero h lt = (h.0, each-map (Contains done) (Contains (done ++ [])) (body_at lets p) (λ j c. Contains-append_left done [] j c) h.1)
in-order-at lets (p ∷ places) done (suc m) h lt =
    let rest = in-order-at lets places (done ++ p ∷ []) m h.2 (omega (arith, lt)) in
    (rest.0, subst (λ (before : List ℕ). EachName (Contains before) (body_at lets (slice_index_or places m 0))) (append_assoc done (p ∷ []) (take m places)) rest.1)

pub body-is : (lets : List Equation) (p : ℕ) (e : Equation) → p < length lets → e ≡ get_or lets p e → body_at lets p ≡ e.body
body-is lets p e lt is = ap (λ (d : Equation). d.body) (get_or_default lets p (record { name = []; body = f.Never }) e lt ∙ sym is)

one-of : (p j : ℕ) → Contains (p ∷ []) j → j ≡ p
one-of p j (zero, lt, e) = sym e
one-of p j (suc k, lt, e) = absurd (omega (arith, lt))

module _ (known : Known) where
  abbrev AreSame : List Form → List Form → ℕ → Type 0
  AreSame forms others j = form_at forms j ≡ form_at others j

  -- a form rests on those of the lets that the formula names
  form-same : (forms others : List Form) (t : Formula) → EachName (AreSame forms others) t → form known forms t ≡ form known others t
  form-same forms others f.Never h = refl
  form-same forms others (f.Input i) h = refl
  form-same forms others (f.Named j) h = h
  form-same forms others (f.Min a b) h = rw (form-same forms others a h.0, form-same forms others b h.1) refl
  form-same forms others (f.Max a b) h = rw (form-same forms others a h.0, form-same forms others b h.1) refl
  form-same forms others (f.Lt a b) h = rw (form-same forms others a h.0, form-same forms others b h.1) refl
  form-same forms others (f.Inc a c) h = rw (form-same forms others a h) refl

  room-same : (forms others : List Form) (t : Formula) → EachName (AreSame forms others) t → FormHasRoom known others t → FormHasRoom known forms t
  room-same forms others f.Never h r = tt
  room-same forms others (f.Input i) h r = tt
  room-same forms others (f.Named j) h r = tt
  room-same forms others (f.Min a b) h r = (room-same forms others a h.0 r.0, room-same forms others b h.1 r.1)
  room-same forms others (f.Max a b) h r = (room-same forms others a h.0 r.0, room-same forms others b h.1 r.1)
  room-same forms others (f.Lt a b) h r = (room-same forms others a h.0 r.0, room-same forms others b h.1 r.1)
  room-same forms others (f.Inc a c) h r = (room-same forms others a h r.0, subst (λ (g : Form). IsWithin 1000000 (inc_form g c)) (sym (form-same forms others a h)) r.1)

  abbrev more : List Form → List Equation → List Form
  more forms es = fold (λ (forms : List Form) (e : Equation). forms ++ form known forms e.body ∷ []) forms es

  more-kept : (forms : List Form) (es : List Equation) (j : ℕ) → j < length forms → form_at (more forms es) j ≡ form_at forms j
  more-kept forms [] j lt = refl
  more-kept forms (e ∷ es) j lt =
      let long = length-append forms (form known forms e.body ∷ []) in
      more-kept (forms ++ form known forms e.body ∷ []) es j (omega (arith, lt, long)) ∙ get_or-append forms (form known forms e.body ∷ []) Never j lt

  length-more : (forms : List Form) (es : List Equation) → length (more forms es) ≡ length forms + length es
  length-more forms [] = omega arith
  length-more forms (e ∷ es) =
      let long = length-append forms (form known forms e.body ∷ []) in
      let rest = length-more (forms ++ form known forms e.body ∷ []) es in
      omega (arith, long, rest)

  module _ (lets : List Equation) (p : ℕ) (e : Equation) (lt : p < length lets) (is : e ≡ get_or lets p e) where
    front : List Form
    front = let_forms known (take p lets)

    length-front : length front ≡ p
    unfolding front
    length-front = let long = length-more [] (take p lets) in let cut = length-take-le p lets (omega (arith, lt)) in omega (arith, long, cut)

    split : let_forms known lets ≡ more (front ++ form known front e.body ∷ []) (drop (suc p) lets)
    unfolding front
    split =
        let here : drop p lets ≡ e ∷ drop (suc p) lets = drop-cons lets p e lt ∙ ap (λ (d : Equation). d ∷ drop (suc p) lets) (sym is) in
        let whole : lets ≡ take p lets ++ e ∷ drop (suc p) lets = sym (take-append-drop p lets) ∙ ap (λ (es : List Equation). take p lets ++ es) here in
        ap (λ (es : List Equation). let_forms known es) whole ∙ fold-append (λ (forms : List Form) (e : Equation). forms ++ form known forms e.body ∷ []) [] (take p lets) (e ∷ drop (suc p) lets)

    earlier : (j : ℕ) → j < p → form_at (let_forms known lets) j ≡ form_at front j
    earlier j less =
        let front-long = length-front in
        let long = length-append front (form known front e.body ∷ []) in
        ap (λ (forms : List Form). form_at forms j) split
        ∙ (more-kept (front ++ form known front e.body ∷ []) (drop (suc p) lets) j (omega (arith, less, front-long, long))
        ∙ get_or-append front (form known front e.body ∷ []) Never j (omega (arith, less, front-long)))

    this : form_at (let_forms known lets) p ≡ form known front e.body
    this =
        let front-long = length-front in
        let long = length-append front (form known front e.body ∷ []) in
        let seam : form_at (front ++ form known front e.body ∷ []) p ≡ form known front e.body =
        subst (λ (n : ℕ). form_at (front ++ form known front e.body ∷ []) n ≡ form known front e.body) front-long (get_or-append_seam front (form known front e.body) [] Never) in
        ap (λ (forms : List Form). form_at forms p) split
        ∙ (more-kept (front ++ form known front e.body ∷ []) (drop (suc p) lets) p (omega (arith, front-long, long)) ∙ seam)

  -- the forms at these places are those of the lets
  abbrev pub AreSet : List Equation → List ℕ → List Form → Type 0
  AreSet lets places forms = (j : ℕ) → Contains places j → form_at forms j ≡ form_at (let_forms known lets) j

  module _ (i : ℕ) (lets : List Equation) (places : List ℕ) (forms : List Form) (m p : ℕ) (e : Equation) (ok : AreLets i 0 lets) (in_order : AreInOrder lets [] places)
      (lt : m < length places) (p_is : p ≡ slice_index_or places m 0) (is : e ≡ get_or lets p e) (set : AreSet lets (take m places) forms) where
    at : (p < length lets) × EachName (Contains (take m places)) (body_at lets p)
    at = rw p_is (in-order-at lets places [] m in_order lt)

    body : body_at lets p ≡ e.body
    body = body-is lets p e at.0 is

    names : EachName (AreSame forms (front lets p e at.0 is)) e.body
    names =
        subst (λ (t : Formula). EachName (AreSame forms (front lets p e at.0 is)) t) body
        (each-map (λ (j : ℕ). (j < p) × Contains (take m places) j) (AreSame forms (front lets p e at.0 is)) (body_at lets p)
        (λ j h. set j h.1 ∙ earlier lets p e at.0 is j h.0)
        (each-over (Contains (take m places)) i p (body_at lets p) (over-at i p lets ok at.0) at.1))

    pub place_is_let : p < length lets
    place_is_let = at.0

    pub place_has_room : AreShort (let_spans lets) → FormHasRoom known forms e.body
    unfolding front
    place_has_room short = room-same forms (front lets p e at.0 is) e.body names (let_has_room known lets p e at.0 is short)

    here : form known forms e.body ≡ form_at (let_forms known lets) p
    here = form-same forms (front lets p e at.0 is) e.body names ∙ sym (this lets p e at.0 is)

    pub place_set : length forms ≡ length lets → AreSet lets (take (suc m) places) (slice_set forms p (form known forms e.body))
    place_set long j h = elim (cases_eq j p) [
      | inl same ↦ rw same (get_or-set_same forms p (form known forms e.body) Never (let l = at.0 in omega (arith, l, long)) ∙ here)
      | inr other ↦ get_or-set_other forms p j (form known forms e.body) Never other ∙ set j (before other)
    ]
      where
        before : (j ≡ p → ⊥) → Contains (take m places) j
        before other = go (Contains-append_cases (take m places) (p ∷ []) j (subst (λ (ps : List ℕ). Contains ps j) (rw p_is (take-suc places m 0 lt)) h))
          where
            go : Contains (take m places) j ⊎ Contains (p ∷ []) j → Contains (take m places) j
            go (inl c) = c
            go (inr c) = absurd (other (one-of p j c))

  -- the output's form, over the forms that it needs
  module _ (n : Net) (k : ℕ) (places : List ℕ) (forms : List Form) (e : Equation) (rules : IsNetwork n) (there : k < length n.outputs) (is : e ≡ get_or n.outputs k e)
      (needed : EachName (Contains places) (body_at n.outputs k)) (set : AreSet n.lets places forms) where
    output-names : EachName (AreSame forms (let_forms known n.lets)) e.body
    output-names =
        subst (λ (t : Formula). EachName (AreSame forms (let_forms known n.lets)) t) (body-is n.outputs k e there is)
        (each-map (Contains places) (AreSame forms (let_forms known n.lets)) (body_at n.outputs k) set needed)

    pub output_room : FormHasRoom known forms e.body
    output_room = room-same forms (let_forms known n.lets) e.body output-names (output_has_room known n k e rules there is)

    pub output_same : form known forms e.body ≡ output_form known n k
    output_same = form-same forms (let_forms known n.lets) e.body output-names ∙ sym (output_is known n k e there is)
