-- The terms of a row's entries, one entry after the other.
use Rattle.std.proofs.Common.{◌≡◌, ℕ, zero, suc, ◌<◌, ◌≤◌, ◌+◌, ◌-◌, refl, ap, arith, sym, ◌∙◌, Bool, true, false, length, List, [], ◌∷◌, ◌++◌, take, get_or, Option, Some, None, not, append-nil, length-append, inl, inr}
use Rattle.std.specs.List.{All, list_any}
use Rattle.std.specs.Option.{is_some}
use Rattle.std.proofs.lemmas.List.{take_more, length_push, length-take-le, get_or_append_left, get_or-map}
use Rattle.std.proofs.Math.Seq.{get_or-append_seam}
use Rattle.std.proofs.lemmas.Bool.{cases_lt}
use Rattle.std.proofs.lemmas.List.Elements.{All-head, All-tail, All-cons, All-nil}
use Rattle.term_store.specs.declared.node.Term.{Term}
use Rattle.term_store.specs.declared.node.Node.{Node}
use Rattle.term_store.specs.Tree.{Never, Input}
use Rattle.term_store.specs.Terms.{delayed, input_trees}
use Rattle.term_store.specs.Trees.{tree, trees_at}
use Rattle.func_table.specs.Sound.{is_zero}
use Rattle.minterm.specs.Minterms.{number_terms, dash_terms}
use Rattle.minterm.specs.Steps.{AreInputs, dash_places}

-- ---- terms of numbers

numbers_append : (y i : ℕ) (es fs : List (Option ℕ)) → number_terms y i (es ++ fs) ≡ number_terms y i es ++ number_terms y (i + length es) fs
numbers_append y i [] fs = let e : i ≡ i + 0 = omega arith in ap (λ m. number_terms y m fs) e
numbers_append y i (Some e ∷ es) fs =
    let same : suc i + length es ≡ i + suc (length es) = omega arith in
    ap (λ ts. delayed (Input i) (y - e) ∷ ts) (numbers_append y (suc i) es fs ∙ ap (λ m. number_terms y (suc i) es ++ number_terms y m fs) same)
numbers_append y i (None ∷ es) fs =
    let same : suc i + length es ≡ i + suc (length es) = omega arith in
    numbers_append y (suc i) es fs ∙ ap (λ m. number_terms y (suc i) es ++ number_terms y m fs) same

numbers_more : (y : ℕ) (es : List (Option ℕ)) (k : ℕ) (d : Option ℕ) → k < length es → number_terms y 0 (take (k + 1) es) ≡ number_terms y 0 (take k es) ++ number_terms y k (get_or es k d ∷ [])
numbers_more y es k d h =
    let here : 0 + length (take k es) ≡ k = omega (arith, length-take-le k es (omega (arith, h))) in
    ap (number_terms y 0) (take_more es k d h)
    ∙ (numbers_append y 0 (take k es) (get_or es k d ∷ []) ∙ ap (λ m. number_terms y 0 (take k es) ++ number_terms y m (get_or es k d ∷ [])) here)

-- the next input is at a number
pub one_number : (y : ℕ) (es : List (Option ℕ)) (k e : ℕ) (d : Option ℕ) → k < length es → get_or es k d ≡ Some e → number_terms y 0 (take (k + 1) es) ≡ number_terms y 0 (take k es) ++ delayed (Input k) (y - e) ∷ []
one_number y es k e d h at = numbers_more y es k d h ∙ ap (λ f. number_terms y 0 (take k es) ++ number_terms y k (f ∷ [])) at

-- the next input is at `-`
pub no_number : (y : ℕ) (es : List (Option ℕ)) (k : ℕ) (d : Option ℕ) → k < length es → get_or es k d ≡ None → number_terms y 0 (take (k + 1) es) ≡ number_terms y 0 (take k es)
no_number y es k d h at =
    numbers_more y es k d h ∙ (ap (λ f. number_terms y 0 (take k es) ++ number_terms y k (f ∷ [])) at ∙ append-nil (number_terms y 0 (take k es)))

-- where an entry is 0, there is a number
pub some_number : (y i : ℕ) (es : List (Option ℕ)) → list_any is_zero es ≡ true → 1 ≤ length (number_terms y i es)
some_number y i [] h = absurd (cc)
some_number y i (None ∷ es) h = some_number y (suc i) es h
some_number y i (Some e ∷ es) h = omega arith

-- each input is at a number or at `-`
pub all_entries : (y i j : ℕ) (es : List (Option ℕ)) → length (number_terms y i es) + length (dash_terms j es) ≡ length es
all_entries y i j [] = refl
all_entries y i j (Some e ∷ es) = omega (arith, all_entries y (suc i) (suc j) es)
all_entries y i j (None ∷ es) = omega (arith, all_entries y (suc i) (suc j) es)

-- ---- inputs

length_inputs : (n : ℕ) → length (input_trees n) ≡ n
length_inputs zero = refl
length_inputs (suc n) = omega (arith, length-append (input_trees n) (Input n ∷ []), length_inputs n)

input_in : (n i : ℕ) → i < n → get_or (input_trees n) i Never ≡ Input i
input_in zero i h = absurd (omega (arith, h))
input_in (suc n) i h = elim (cases_lt i n) [
  | inl b ↦ get_or_append_left (input_trees n) (Input n ∷ []) Never i (omega (arith, b, length_inputs n)) ∙ input_in n i b
  | inr b ↦ let same : i ≡ n = omega (arith, b, h) in ap (λ k. get_or (input_trees n ++ Input n ∷ []) k Never) (same ∙ sym (length_inputs n)) ∙ (get_or-append_seam (input_trees n) (Input n) [] Never ∙ ap Input (sym same))
]

tree_in_list : (ns : List Node) (at : List Term) (i : ℕ) (d : Term) → i < length at → tree ns (get_or at i d).0 ≡ get_or (trees_at ns at) i Never
tree_in_list ns at i d h = sym (get_or-map (λ (t : Term). tree ns t.0) at i d Never h)

pub input_at : (ns : List Node) (at : List Term) (i : ℕ) (d : Term) → AreInputs ns at → i < length at → tree ns (get_or at i d).0 ≡ Input i
input_at ns at i d p h = tree_in_list ns at i d h ∙ (ap (λ ts. get_or ts i Never) p.trees_are ∙ input_in (length at) i h)

-- ---- places of dashes

pub dashes_append : (xs ys : List Term) (es fs : List (Option ℕ)) → length xs ≡ length es → dash_places (xs ++ ys) (es ++ fs) ≡ dash_places xs es ++ dash_places ys fs
dashes_append [] ys [] fs l = refl
dashes_append [] ys (e ∷ es) fs l = absurd (omega (arith, l))
dashes_append (x ∷ xs) ys [] fs l = absurd (omega (arith, l))
dashes_append (x ∷ xs) ys (Some e ∷ es) fs l = dashes_append xs ys es fs (omega (arith, l))
dashes_append (x ∷ xs) ys (None ∷ es) fs l = ap (λ ts. x ∷ ts) (dashes_append xs ys es fs (omega (arith, l)))

dashes_more : (xs : List Term) (es : List (Option ℕ)) (k : ℕ) (d : Term) (f : Option ℕ) → length es ≡ length xs → k < length es
    → dash_places (take (k + 1) xs) (take (k + 1) es) ≡ dash_places (take k xs) (take k es) ++ dash_places (get_or xs k d ∷ []) (get_or es k f ∷ [])
dashes_more xs es k d f l h =
    ap (λ zs. dash_places zs (take (k + 1) es)) (take_more xs k d (omega (arith, l, h)))
    ∙ (ap (dash_places (take k xs ++ get_or xs k d ∷ [])) (take_more es k f h)
    ∙ dashes_append (take k xs) (get_or xs k d ∷ []) (take k es) (get_or es k f ∷ []) (omega (arith, length-take-le k xs (omega (arith, l, h)), length-take-le k es (omega (arith, h)))))

-- the next input is at `-`
pub one_dash : (xs : List Term) (es : List (Option ℕ)) (k : ℕ) (d : Term) (f : Option ℕ) (none : Bool) → length es ≡ length xs → k < length es → is_some (get_or es k f) ≡ not none → none ≡ true
    → dash_places (take (k + 1) xs) (take (k + 1) es) ≡ dash_places (take k xs) (take k es) ++ get_or xs k d ∷ []
one_dash xs es k d f none l h e t = dashes_more xs es k d f l h ∙ ap (λ ts. dash_places (take k xs) (take k es) ++ ts) (go (get_or es k f) (e ∙ ap not t))
  where
    go : (g : Option ℕ) → is_some g ≡ false → dash_places (get_or xs k d ∷ []) (g ∷ []) ≡ get_or xs k d ∷ []
    go (Some n) i = absurd cc
    go None i = refl

-- the next input is at a number
pub no_dash : (xs : List Term) (es : List (Option ℕ)) (k : ℕ) (d : Term) (f : Option ℕ) (none : Bool) → length es ≡ length xs → k < length es → is_some (get_or es k f) ≡ not none → none ≡ false
    → dash_places (take (k + 1) xs) (take (k + 1) es) ≡ dash_places (take k xs) (take k es)
no_dash xs es k d f none l h e t =
    dashes_more xs es k d f l h ∙ (ap (λ ts. dash_places (take k xs) (take k es) ++ ts) (go (get_or es k f) (e ∙ ap not t)) ∙ append-nil (dash_places (take k xs) (take k es)))
  where
    go : (g : Option ℕ) → is_some g ≡ true → dash_places (get_or xs k d ∷ []) (g ∷ []) ≡ []
    go (Some n) i = refl
    go None i = absurd cc

-- its place was noted
pub dash_noted : (xs : List Term) (es : List (Option ℕ)) (k : ℕ) (d : Term) (f : Option ℕ) (none : Bool) (old new : List Term) → length es ≡ length xs → k < length es → is_some (get_or es k f) ≡ not none → none ≡ true
    → old ≡ dash_places (take k xs) (take k es) → new ≡ old ++ get_or xs k d ∷ [] → new ≡ dash_places (take (k + 1) xs) (take (k + 1) es)
dash_noted xs es k d f none old new l h e t before pushed = pushed ∙ (ap (λ ts. ts ++ get_or xs k d ∷ []) before ∙ sym (one_dash xs es k d f none l h e t))

-- the length of a list that grew by one
pub one_longer : (old new : List Term) (t : Term) (m n : ℕ) → new ≡ old ++ t ∷ [] → n ≡ m + 1 → m ≡ length old → n ≡ length new
one_longer old new t m n e f g = f ∙ (ap (λ k. k + 1) g ∙ sym (ap length e ∙ length_push old t))

pub few_dashes : (xs : List Term) (es : List (Option ℕ)) → length (dash_places xs es) ≤ length xs
few_dashes [] es = omega arith
few_dashes (x ∷ xs) [] = omega arith
few_dashes (x ∷ xs) (Some e ∷ es) = omega (arith, few_dashes xs es)
few_dashes (x ∷ xs) (None ∷ es) = omega (arith, few_dashes xs es)

-- the dashes among the first entries
pub few_first : (xs : List Term) (es : List (Option ℕ)) (k : ℕ) → k < length xs → length (dash_places (take k xs) (take k es)) < length xs
few_first xs es k h = omega (arith, h, few_dashes (take k xs) (take k es), length-take-le k xs (omega (arith, h)))

pub dashes_within : (P : Term → Type 0) (xs : List Term) (es : List (Option ℕ)) → All P xs → All P (dash_places xs es)
dashes_within P [] es all = All-nil P
dashes_within P (x ∷ xs) [] all = All-nil P
dashes_within P (x ∷ xs) (Some e ∷ es) all = dashes_within P xs es (All-tail P x xs all)
dashes_within P (x ∷ xs) (None ∷ es) all = All-cons P x (dash_places xs es) (All-head P x xs all) (dashes_within P xs es (All-tail P x xs all))

dash_trees : (ns : List Node) (at : List Term) (i : ℕ) (es : List (Option ℕ)) → length es ≡ length at → ((k : ℕ) (d : Term) → k < length at → tree ns (get_or at k d).0 ≡ Input (i + k))
    → trees_at ns (dash_places at es) ≡ dash_terms i es
dash_trees ns [] i [] l f = refl
dash_trees ns [] i (e ∷ es) l f = absurd (omega (arith, l))
dash_trees ns (t ∷ at) i [] l f = absurd (omega (arith, l))
dash_trees ns (t ∷ at) i (Some e ∷ es) l f =
    dash_trees ns at (suc i) es (omega (arith, l)) (λ k d h. f (suc k) d (omega (arith, h)) ∙ (let s : i + suc k ≡ suc i + k = omega arith in ap Input s))
dash_trees ns (t ∷ at) i (None ∷ es) l f =
    let rest = dash_trees ns at (suc i) es (omega (arith, l)) (λ k d h. f (suc k) d (omega (arith, h)) ∙ (let s : i + suc k ≡ suc i + k = omega arith in ap Input s)) in
    let first : tree ns t.0 ≡ Input i = f 0 t (omega arith) ∙ (let s : i + 0 ≡ i = omega arith in ap Input s) in
    ap (λ u. u ∷ trees_at ns (dash_places at es)) first ∙ ap (λ ts. Input i ∷ ts) rest

pub dashes_are : (ns : List Node) (at : List Term) (es : List (Option ℕ)) → AreInputs ns at → length es ≡ length at → trees_at ns (dash_places at es) ≡ dash_terms 0 es
dashes_are ns at es p l = dash_trees ns at 0 es l (λ k d h. input_at ns at k d p h ∙ (let s : k ≡ 0 + k = omega arith in ap Input s))

pub dash_count : (y i : ℕ) (xs : List Term) (es : List (Option ℕ)) → length es ≡ length xs → length (number_terms y i es) + length (dash_places xs es) ≡ length es
dash_count y i [] [] l = refl
dash_count y i [] (e ∷ es) l = absurd (omega (arith, l))
dash_count y i (x ∷ xs) [] l = refl
dash_count y i (x ∷ xs) (Some e ∷ es) l = omega (arith, dash_count y (suc i) xs es (omega (arith, l)))
dash_count y i (x ∷ xs) (None ∷ es) l = omega (arith, dash_count y (suc i) xs es (omega (arith, l)))
