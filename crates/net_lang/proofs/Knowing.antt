-- What a look-up of names says of an expression.
use Rattle.std.proofs.Common.{◌≡◌, ℕ, suc, ◌+◌, ◌≤◌, ◌<◌, Bool, true, false, cond, ◌&&◌, ◌||◌, List, [], ◌∷◌, ◌++◌, length, Option, Some, None, refl, sym, ap, subst, ◌∙◌, arith}
use Rattle.std.specs.Prelude.{max, is_some, fold}
use Rattle.std.specs.List.{list_any}
use Rattle.std.specs.Str.{bytes_eq}
use Rattle.std.proofs.lemmas.List.{length-map, map-append, get_or_append_left, get_or_at, length-append}
use Rattle.std.proofs.lemmas.List.Folds.{list_any-append}
use Rattle.std.proofs.lemmas.List.Sums.{fold-append}
use Rattle.std.proofs.lemmas.Bool.{or_parts, and_parts}
use Rattle.std.proofs.lemmas.Slice.Eq.{bytes_eq-Decides}
use Rattle.net_lang.specs.declared.reader.scope.Place.TheVariants as place
use Rattle.net_model.specs.Formula as f
use Rattle.net_model.specs.Formula.{Equation, Net, net}
use Rattle.net_model.specs.Rules.{names_of, declared_names, joins, delays, nesting, span, let_spans, IsOver}
use Rattle.net_lang.specs.Grammar.{Expression, Never, Name, Min, Max, Lt, Inc, written_nesting}
use Rattle.net_lang.specs.Names.{place_from, place_of, named, resolved, knows}
use Rattle.rl_text.specs.Numbers.{number_of}
use Rattle.net_lang.specs.Known.{known, known_by, known_in, formula_at, found_formula, span_at, found_span, is_value, finds_all, written_joins, written_delays}

-- ---- places

pub place_low : (i j : ℕ) (t : List ℕ) (xs : List (List ℕ)) → place_from i t xs ≡ Some j → (i ≤ j) × (j < i + length xs)
place_low i j t [] e = absurd cc
place_low i j t (x ∷ xs) e = first (bytes_eq t x) (λ g. place_low (i + 1) j t xs g) e where
  first : (b : Bool) → (place_from (i + 1) t xs ≡ Some j → (i + 1 ≤ j) × (j < i + 1 + length xs)) → cond b (Some i) (place_from (i + 1) t xs) ≡ Some j → (i ≤ j) × (j < i + length (x ∷ xs))
  first true again e = let same : i ≡ j = cc in (omega (arith, same), omega (arith, same))
  first false again e = let r = again e in (omega (arith, r.0), omega (arith, r.1))

pub place_any : (i : ℕ) (t : List ℕ) (xs : List (List ℕ)) → is_some (place_from i t xs) ≡ list_any (bytes_eq t) xs
place_any i t [] = refl
place_any i t (x ∷ xs) = first (bytes_eq t x) (place_any (i + 1) t xs) where
  first : (b : Bool) → is_some (place_from (i + 1) t xs) ≡ list_any (bytes_eq t) xs → is_some (cond b (Some i) (place_from (i + 1) t xs)) ≡ (b || list_any (bytes_eq t) xs)
  first true again = refl
  first false again = again

-- a name that occurs nowhere has no place
pub no_place : (i : ℕ) (t : List ℕ) (xs : List (List ℕ)) → list_any (bytes_eq t) xs ≡ false → place_from i t xs ≡ None
no_place i t [] h = refl
no_place i t (x ∷ xs) h = let p = or_parts (bytes_eq t x) (list_any (bytes_eq t) xs) h in rw (p.0) (no_place (i + 1) t xs p.1)

-- another name at the end changes no place
pub place_kept : (i : ℕ) (t x : List ℕ) (xs : List (List ℕ)) → bytes_eq t x ≡ false → place_from i t (xs ++ x ∷ []) ≡ place_from i t xs
place_kept i t x [] h = rw h refl
place_kept i t x (y ∷ xs) h = ap (λ (o : Option ℕ). cond (bytes_eq t y) (Some i) o) (place_kept (i + 1) t x xs h)

-- a new name has the last place
pub place_new : (i : ℕ) (t : List ℕ) (xs : List (List ℕ)) → list_any (bytes_eq t) xs ≡ false → place_from i t (xs ++ t ∷ []) ≡ Some (i + length xs)
place_new i t [] h = rw ((bytes_eq-Decides t t).1 refl) (let z : i ≡ i + 0 = omega arith in ap (λ (n : ℕ). Some n) z)
place_new i t (x ∷ xs) h =
    let p = or_parts (bytes_eq t x) (list_any (bytes_eq t) xs) h in
    let z : i + 1 + length xs ≡ i + suc (length xs) = omega arith in
    rw (p.0) (place_new (i + 1) t xs p.1 ∙ ap (λ (n : ℕ). Some n) z)

pub eq_comm : (a b : List ℕ) → bytes_eq a b ≡ false → bytes_eq b a ≡ false
eq_comm a b h = either (bytes_eq b a) refl where
  either : (r : Bool) → bytes_eq b a ≡ r → r ≡ false
  either false e = refl
  either true e = absurd (let s = (bytes_eq-Decides a b).1 (sym ((bytes_eq-Decides b a).0 e)) in both (sym h ∙ s)) where
    both : false ≡ true → ⊥
    both x = cc

pub eq_same : (a b : List ℕ) → bytes_eq a b ≡ true → a ≡ b
eq_same a b h = (bytes_eq-Decides a b).0 h

-- ---- what a look-up finds

name_formula : (i j : Option ℕ) (o : Bool) (spans : List ℕ) → formula_at (known_by i j o spans) ≡ named i j
name_formula (Some i) j o spans = refl
name_formula None (Some j) o spans = refl
name_formula None None true spans = refl
name_formula None None false spans = refl

pub formulas : (n : Net) (t : Expression) → found_formula (known_in n) t ≡ resolved n t
formulas n Never = refl
formulas n (Name t) = name_formula (place_of t n.inputs) (place_of t (names_of n.lets)) (list_any (bytes_eq t) (names_of n.outputs)) (let_spans n.lets)
formulas n (Min a b) = λ i. f.Min (formulas n a i) (formulas n b i)
formulas n (Max a b) = λ i. f.Max (formulas n a i) (formulas n b i)
formulas n (Lt a b) = λ i. f.Lt (formulas n a i) (formulas n b i)
formulas n (Inc a d) = λ i. f.Inc (formulas n a i) (number_of d)

name_span : (i j : Option ℕ) (o : Bool) (spans : List ℕ) → span_at (known_by i j o spans) ≡ span spans (named i j)
name_span (Some i) j o spans = refl
name_span None (Some j) o spans = refl
name_span None None true spans = refl
name_span None None false spans = refl

pub spans : (n : Net) (t : Expression) → found_span (known_in n) t ≡ span (let_spans n.lets) (resolved n t)
spans n Never = refl
spans n (Name t) = name_span (place_of t n.inputs) (place_of t (names_of n.lets)) (list_any (bytes_eq t) (names_of n.outputs)) (let_spans n.lets)
spans n (Min a b) = λ i. max (spans n a i) (spans n b i)
spans n (Max a b) = λ i. max (spans n a i) (spans n b i)
spans n (Lt a b) = λ i. max (spans n a i) (spans n b i)
spans n (Inc a d) = ap (λ (k : ℕ). k + number_of d) (spans n a)

name_value : (i j : Option ℕ) (o : Bool) (spans : List ℕ) → is_value (known_by i j o spans) ≡ (is_some i || is_some j)
name_value (Some i) j o spans = refl
name_value None (Some j) o spans = refl
name_value None None true spans = refl
name_value None None false spans = refl

pub known_all : (n : Net) (t : Expression) → finds_all (known_in n) t ≡ knows n t
known_all n Never = refl
known_all n (Name t) =
    name_value (place_of t n.inputs) (place_of t (names_of n.lets)) (list_any (bytes_eq t) (names_of n.outputs)) (let_spans n.lets)
    ∙ (λ i. place_any 0 t n.inputs i || place_any 0 t (names_of n.lets) i) ∙ sym (list_any-append (bytes_eq t) n.inputs (names_of n.lets))
known_all n (Min a b) = λ i. known_all n a i && known_all n b i
known_all n (Max a b) = λ i. known_all n a i && known_all n b i
known_all n (Lt a b) = λ i. known_all n a i && known_all n b i
known_all n (Inc a d) = known_all n a

name_known : (i j : Option ℕ) (o : Bool) (spans : List ℕ) → is_some (known_by i j o spans) ≡ ((is_some i || is_some j) || o)
name_known (Some i) j o spans = refl
name_known None (Some j) o spans = refl
name_known None None true spans = refl
name_known None None false spans = refl

pub known_declared : (n : Net) (t : List ℕ) → is_some (known_in n t) ≡ list_any (bytes_eq t) (declared_names n)
known_declared n t =
    name_known (place_of t n.inputs) (place_of t (names_of n.lets)) (list_any (bytes_eq t) (names_of n.outputs)) (let_spans n.lets)
    ∙ (λ i. (place_any 0 t n.inputs i || place_any 0 t (names_of n.lets) i) || list_any (bytes_eq t) (names_of n.outputs))
    ∙ ap (λ (b : Bool). b || list_any (bytes_eq t) (names_of n.outputs)) (sym (list_any-append (bytes_eq t) n.inputs (names_of n.lets)))
    ∙ sym (list_any-append (bytes_eq t) (n.inputs ++ names_of n.lets) (names_of n.outputs))

-- ---- counts don't depend on the names

pub resolved_joins : (n : Net) (t : Expression) → written_joins t ≡ joins (resolved n t)
resolved_joins n Never = refl
resolved_joins n (Name t) = flat (place_of t n.inputs) (place_of t (names_of n.lets)) where
  flat : (i j : Option ℕ) → 0 ≡ joins (named i j)
  flat (Some i) j = refl
  flat None (Some j) = refl
  flat None None = refl
resolved_joins n (Min a b) = λ i. resolved_joins n a i + resolved_joins n b i + 1
resolved_joins n (Max a b) = λ i. resolved_joins n a i + resolved_joins n b i + 1
resolved_joins n (Lt a b) = λ i. resolved_joins n a i + resolved_joins n b i + 1
resolved_joins n (Inc a d) = resolved_joins n a

pub resolved_delays : (n : Net) (t : Expression) → written_delays t ≡ delays (resolved n t)
resolved_delays n Never = refl
resolved_delays n (Name t) = flat (place_of t n.inputs) (place_of t (names_of n.lets)) where
  flat : (i j : Option ℕ) → 0 ≡ delays (named i j)
  flat (Some i) j = refl
  flat None (Some j) = refl
  flat None None = refl
resolved_delays n (Min a b) = λ i. resolved_delays n a i + resolved_delays n b i
resolved_delays n (Max a b) = λ i. resolved_delays n a i + resolved_delays n b i
resolved_delays n (Lt a b) = λ i. resolved_delays n a i + resolved_delays n b i
resolved_delays n (Inc a d) = λ i. resolved_delays n a i + 1

pub resolved_nesting : (n : Net) (t : Expression) → written_nesting t ≡ nesting (resolved n t)
resolved_nesting n Never = refl
resolved_nesting n (Name t) = flat (place_of t n.inputs) (place_of t (names_of n.lets)) where
  flat : (i j : Option ℕ) → 0 ≡ nesting (named i j)
  flat (Some i) j = refl
  flat None (Some j) = refl
  flat None None = refl
resolved_nesting n (Min a b) = let s : suc (max (written_nesting a) (written_nesting b)) ≡ max (written_nesting a) (written_nesting b) + 1 = omega arith in s ∙ (λ i. max (resolved_nesting n a i) (resolved_nesting n b i) + 1)
resolved_nesting n (Max a b) = let s : suc (max (written_nesting a) (written_nesting b)) ≡ max (written_nesting a) (written_nesting b) + 1 = omega arith in s ∙ (λ i. max (resolved_nesting n a i) (resolved_nesting n b i) + 1)
resolved_nesting n (Lt a b) = let s : suc (max (written_nesting a) (written_nesting b)) ≡ max (written_nesting a) (written_nesting b) + 1 = omega arith in s ∙ (λ i. max (resolved_nesting n a i) (resolved_nesting n b i) + 1)
resolved_nesting n (Inc a d) = let s : suc (written_nesting a) ≡ written_nesting a + 1 = omega arith in s ∙ (λ i. resolved_nesting n a i + 1)

-- ---- a known name is within the lists

pub resolved_over : (n : Net) (t : Expression) → knows n t ≡ true → IsOver (length n.inputs) (length n.lets) (resolved n t)
resolved_over n Never h = tt
resolved_over n (Name t) h =
    let both : (is_some (place_of t n.inputs) || is_some (place_of t (names_of n.lets))) ≡ list_any (bytes_eq t) (n.inputs ++ names_of n.lets) =
    (λ i. place_any 0 t n.inputs i || place_any 0 t (names_of n.lets) i) ∙ sym (list_any-append (bytes_eq t) n.inputs (names_of n.lets)) in
    over (place_of t n.inputs) (place_of t (names_of n.lets)) refl refl (both ∙ h) where
      over : (i j : Option ℕ) → place_of t n.inputs ≡ i → place_of t (names_of n.lets) ≡ j → (is_some (place_of t n.inputs) || is_some (place_of t (names_of n.lets))) ≡ true → IsOver (length n.inputs) (length n.lets) (named i j)
      over (Some i) j e g k = let b = place_low 0 i t n.inputs e in omega (arith, b.1)
      over None (Some j) e g k = let b = place_low 0 j t (names_of n.lets) g in let l = length-map n.lets (λ (x : Equation). x.name) in omega (arith, b.1, l)
      over None None e g k = absurd (apart (sym ((λ i. is_some (e i) || is_some (g i))) ∙ k)) where
        apart : false ≡ true → ⊥
        apart x = cc
resolved_over n (Min a b) h = let p = and_parts (knows n a) (knows n b) h in (resolved_over n a p.0, resolved_over n b p.1)
resolved_over n (Max a b) h = let p = and_parts (knows n a) (knows n b) h in (resolved_over n a p.0, resolved_over n b p.1)
resolved_over n (Lt a b) h = let p = and_parts (knows n a) (knows n b) h in (resolved_over n a p.0, resolved_over n b p.1)
resolved_over n (Inc a d) h = resolved_over n a h

-- ---- a name more

pub let_spans_more : (ls : List Equation) (e : Equation) → let_spans (ls ++ e ∷ []) ≡ let_spans ls ++ span (let_spans ls) e.body ∷ []
let_spans_more ls e = fold-append (λ (spans : List ℕ) (x : Equation). spans ++ span spans x.body ∷ []) [] ls (e ∷ [])

length_spans : (before : List ℕ) (ls : List Equation) → length (fold (λ (spans : List ℕ) (x : Equation). spans ++ span spans x.body ∷ []) before ls) ≡ length before + length ls
length_spans before [] = omega arith
length_spans before (e ∷ ls) =
    let r = length_spans (before ++ span before e.body ∷ []) ls in
    let a = length-append before (span before e.body ∷ []) in
    omega (arith, r, a)

pub names_more : (ls : List Equation) (e : Equation) → names_of (ls ++ e ∷ []) ≡ names_of ls ++ e.name ∷ []
names_more ls e = map-append (λ (x : Equation). x.name) ls (e ∷ [])

pub any_more : (t x : List ℕ) (xs : List (List ℕ)) → list_any (bytes_eq t) (xs ++ x ∷ []) ≡ (list_any (bytes_eq t) xs || (bytes_eq t x || false))
any_more t x xs = list_any-append (bytes_eq t) xs (x ∷ [])

pub or_false : (b : Bool) → (b || false) ≡ b
or_false true = refl
or_false false = refl

-- a name is declared nowhere
pub record IsNew (n : Net) (t : List ℕ) : Type 0 where
  pub inputs : list_any (bytes_eq t) n.inputs ≡ false
  pub lets : list_any (bytes_eq t) (names_of n.lets) ≡ false
  pub outputs : list_any (bytes_eq t) (names_of n.outputs) ≡ false

pub is_new : (n : Net) (t : List ℕ) → list_any (bytes_eq t) (declared_names n) ≡ false → IsNew n t
is_new n t h =
    let a = or_parts (list_any (bytes_eq t) (n.inputs ++ names_of n.lets)) (list_any (bytes_eq t) (names_of n.outputs)) (sym (list_any-append (bytes_eq t) (n.inputs ++ names_of n.lets) (names_of n.outputs)) ∙ h) in
    let b = or_parts (list_any (bytes_eq t) n.inputs) (list_any (bytes_eq t) (names_of n.lets)) (sym (list_any-append (bytes_eq t) n.inputs (names_of n.lets)) ∙ a.0) in
    record { inputs = b.0; lets = b.1; outputs = a.1 }

-- by cases: the new name, and any other
by_name : (P : List ℕ → Bool → Type 0) (x u : List ℕ) → P x true → ((bytes_eq u x ≡ false) → P u false) → P u (bytes_eq x u)
by_name P x u same other = either (bytes_eq x u) refl where
  either : (b : Bool) → bytes_eq x u ≡ b → P u b
  either true e = subst (λ (v : List ℕ). P v true) (eq_same x u e) same
  either false e = other (eq_comm x u e)

more_spans : (i j : Option ℕ) (o : Bool) (spans : List ℕ) (s : ℕ) → ((k : ℕ) → j ≡ Some k → k < length spans) → known_by i j o spans ≡ known_by i j o (spans ++ s ∷ [])
more_spans (Some i) j o spans s h = refl
more_spans None (Some j) o spans s h = ap (λ (k : ℕ). Some (known (place.Let j) k)) (sym (get_or_append_left spans (s ∷ []) 0 j (h j refl)))
more_spans None None true spans s h = refl
more_spans None None false spans s h = refl

pub known_let : (n : Net) (e : Equation) (s : ℕ) → IsNew n e.name → s ≡ span (let_spans n.lets) e.body → (u : List ℕ)
    → cond (bytes_eq e.name u) (Some (known (place.Let (length n.lets)) s)) (known_in n u) ≡ known_in (net n.inputs (n.lets ++ e ∷ []) n.outputs) u
known_let n e s new is u =
    let spans = let_spans n.lets in
    let len : length spans ≡ length n.lets = let l = length_spans [] n.lets in omega (arith, l) in
    let places = length-map n.lets (λ (x : Equation). x.name) in
    let P : List ℕ → Bool → Type 0 = λ v b. cond b (Some (known (place.Let (length n.lets)) s)) (known_in n v) ≡ known_by (place_of v n.inputs) (place_of v (names_of n.lets ++ e.name ∷ [])) (list_any (bytes_eq v) (names_of n.outputs)) (spans ++ s ∷ []) in
    let first : P e.name true =
    let z : 0 + length (names_of n.lets) ≡ length n.lets = omega (arith, places) in
    rw (no_place 0 e.name n.inputs new.inputs, place_new 0 e.name (names_of n.lets) new.lets, z)
    (ap (λ (k : ℕ). Some (known (place.Let (length n.lets)) k)) (sym (get_or_at spans s [] 0 (length n.lets) len))) in
    let other : bytes_eq u e.name ≡ false → P u false = λ h.
    rw (place_kept 0 u e.name (names_of n.lets) h)
    (more_spans (place_of u n.inputs) (place_of u (names_of n.lets)) (list_any (bytes_eq u) (names_of n.outputs)) spans s
    (λ k g. let b = place_low 0 k u (names_of n.lets) g in omega (arith, b.1, places, len))) in
    let made : P u (bytes_eq e.name u) = by_name P e.name u first other in
    made ∙ (λ i. known_by (place_of u n.inputs) (place_of u (sym (names_more n.lets e) i)) (list_any (bytes_eq u) (names_of n.outputs)) ((ap (λ (k : ℕ). spans ++ k ∷ []) is ∙ sym (let_spans_more n.lets e)) i))

pub known_output : (n : Net) (e : Equation) → IsNew n e.name → (u : List ℕ)
    → cond (bytes_eq e.name u) (Some (known place.Output 0)) (known_in n u) ≡ known_in (net n.inputs n.lets (n.outputs ++ e ∷ [])) u
known_output n e new u =
    let spans = let_spans n.lets in
    let P : List ℕ → Bool → Type 0 = λ v b. cond b (Some (known place.Output 0)) (known_in n v) ≡ known_by (place_of v n.inputs) (place_of v (names_of n.lets)) (list_any (bytes_eq v) (names_of n.outputs) || (bytes_eq v e.name || false)) spans in
    let first : P e.name true = rw (no_place 0 e.name n.inputs new.inputs, no_place 0 e.name (names_of n.lets) new.lets, new.outputs, (bytes_eq-Decides e.name e.name).1 refl) refl in
    let other : bytes_eq u e.name ≡ false → P u false = λ h. rw (h, or_false) refl in
    let made : P u (bytes_eq e.name u) = by_name P e.name u first other in
    let outs : (list_any (bytes_eq u) (names_of n.outputs) || (bytes_eq u e.name || false)) ≡ list_any (bytes_eq u) (names_of (n.outputs ++ e ∷ [])) =
    sym (any_more u e.name (names_of n.outputs)) ∙ ap (list_any (bytes_eq u)) (sym (names_more n.outputs e)) in
    made ∙ ap (λ (b : Bool). known_by (place_of u n.inputs) (place_of u (names_of n.lets)) b spans) outs

pub known_input : (ins : List (List ℕ)) (x : List ℕ) → list_any (bytes_eq x) ins ≡ false → (u : List ℕ)
    → cond (bytes_eq x u) (Some (known (place.Input (length ins)) 0)) (known_in (net ins [] []) u) ≡ known_in (net (ins ++ x ∷ []) [] []) u
known_input ins x new u =
    let P : List ℕ → Bool → Type 0 = λ v b. cond b (Some (known (place.Input (length ins)) 0)) (known_in (net ins [] []) v) ≡ known_in (net (ins ++ x ∷ []) [] []) v in
    let first : P x true = let z : 0 + length ins ≡ length ins = omega arith in rw (place_new 0 x ins new, z) refl in
    let other : bytes_eq u x ≡ false → P u false = λ h. rw (place_kept 0 u x ins h) refl in
    by_name P x u first other
