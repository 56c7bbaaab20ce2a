-- A line that breaks no rule leaves the rules of networks kept.
use Rattle.std.proofs.Common.{◌≡◌, ℕ, suc, ◌+◌, ◌≤◌, Bool, true, false, not, ◌&&◌, ◌||◌, ltb, List, [], ◌∷◌, ◌++◌, length, map, None, refl, sym, ap, subst, ◌∙◌, arith}
use Rattle.std.specs.List.{list_any, list_all, AllByRecursion}
use Rattle.std.specs.Str.{bytes_eq}
use Rattle.std.proofs.lemmas.Bool.{ltb-false, or_parts, and_from, and_parts}
use Rattle.std.proofs.lemmas.List.{append-nil, append_assoc, map-append}
use Rattle.std.proofs.lemmas.List.Folds.{list_any-append, list_all-append}
use Rattle.net_model.specs.Formula.{Equation, Net}
use Rattle.net_model.specs.Rules.{is_let_name, is_port_name, are_distinct, names_of, declared_names, nesting, span, IsOver, AreLets, let_spans, output_spans}
use Rattle.net_lang.specs.declared.reader.rules.Target.TheVariants as target
use Rattle.net_lang.specs.Grammar.{Expression, written_nesting}
use Rattle.net_lang.specs.Names.{resolved, knows}
use Rattle.net_lang.specs.Forms.{Form, Inputs, Define}
use Rattle.net_lang.specs.LineRules.{equation, extended, has_bad_name, has_doubled_name, has_unknown_name, has_too_many, is_too_late, some_twice, joins_in, delays_in, first_of, first_rule}
use Rattle.net_lang.specs.Draft.{IsSound}
use Rattle.net_lang.proofs.Knowing.{resolved_nesting, resolved_over, let_spans_more, names_more, eq_comm}

-- a line that breaks no rule
pub record Keeps (n : Net) (f : Form) : Type 0 where
  pub good : has_bad_name f ≡ false
  pub new : has_doubled_name n f ≡ false
  pub known : has_unknown_name n f ≡ false
  pub few : has_too_many (extended n f) ≡ false
  pub early : is_too_late n f ≡ false

pub keeps : (n : Net) (f : Form) → first_rule n f ≡ None → Keeps n f
unfolding first_rule
keeps n f e = all (has_bad_name f) (has_doubled_name n f) (has_unknown_name n f) (has_too_many (extended n f)) (is_too_late n f) refl refl refl refl refl e where
  all : (a b c d l : Bool) → has_bad_name f ≡ a → has_doubled_name n f ≡ b → has_unknown_name n f ≡ c → has_too_many (extended n f) ≡ d → is_too_late n f ≡ l → first_of a b c d l ≡ None → Keeps n f
  all false false false false false p q r s t e = record { good = p; new = q; known = r; few = s; early = t }
  all true b c d l p q r s t e = absurd cc
  all false true c d l p q r s t e = absurd cc
  all false false true d l p q r s t e = absurd cc
  all false false false true l p q r s t e = absurd cc
  all false false false false true p q r s t e = absurd cc

record IsFew (n : Net) : Type 0 where
  inputs : length n.inputs ≤ 64
  outputs : length n.outputs ≤ 64
  joins : joins_in n ≤ 16384
  delays : delays_in n ≤ 16384

few_from : (n : Net) → has_too_many n ≡ false → IsFew n
few_from n e =
    let a = or_parts (ltb 64 (length n.inputs) || ltb 64 (length n.outputs) || ltb 16384 (joins_in n)) (ltb 16384 (delays_in n)) e in
    let b = or_parts (ltb 64 (length n.inputs) || ltb 64 (length n.outputs)) (ltb 16384 (joins_in n)) a.0 in
    let c = or_parts (ltb 64 (length n.inputs)) (ltb 64 (length n.outputs)) b.0 in
    record { inputs = ltb-false 64 _ c.0; outputs = ltb-false 64 _ c.1; joins = ltb-false 16384 _ b.1; delays = ltb-false 16384 _ a.1 }

-- ---- names stay distinct

any_last : (t x : List ℕ) (xs : List (List ℕ)) → list_any (bytes_eq t) (xs ++ x ∷ []) ≡ (list_any (bytes_eq t) xs || (bytes_eq t x || false))
any_last t x xs = list_any-append (bytes_eq t) xs (x ∷ [])

distinct_more : (xs : List (List ℕ)) (x : List ℕ) → are_distinct xs ≡ true → list_any (bytes_eq x) xs ≡ false → are_distinct (xs ++ x ∷ []) ≡ true
distinct_more [] x d h = refl
distinct_more (y ∷ xs) x d h =
    let a = and_parts (not (list_any (bytes_eq y) xs)) (are_distinct xs) d in
    let b = or_parts (bytes_eq x y) (list_any (bytes_eq x) xs) h in
    let none : list_any (bytes_eq y) (xs ++ x ∷ []) ≡ false = any_last y x xs ∙ rw (no (list_any (bytes_eq y) xs) a.0, eq_comm x y b.0) refl in
    and_from (not (list_any (bytes_eq y) (xs ++ x ∷ []))) (are_distinct (xs ++ x ∷ [])) (ap not none) (distinct_more xs x a.1 b.1) where
      no : (b : Bool) → not b ≡ true → b ≡ false
      no false e = refl
      no true e = absurd cc

pub distinct_all : (xs ys : List (List ℕ)) → are_distinct xs ≡ true → some_twice xs ys ≡ false → are_distinct (xs ++ ys) ≡ true
distinct_all xs [] d h = ap are_distinct (append-nil xs) ∙ d
distinct_all xs (y ∷ ys) d h =
    let a = or_parts (list_any (bytes_eq y) xs) (some_twice (xs ++ y ∷ []) ys) h in
    ap are_distinct (sym (append_assoc xs (y ∷ []) ys)) ∙ distinct_all (xs ++ y ∷ []) ys (distinct_more xs y d a.0) a.1

-- ---- lists with one more

all_more : {X : Type 0} (P : X → Type 0) (xs : List X) (x : X) → AllByRecursion P xs → P x → AllByRecursion P (xs ++ x ∷ [])
all_more P [] x h p = (p, tt)
all_more P (y ∷ xs) x h p = (h.0, all_more P xs x h.1 p)

all_between : {X : Type 0} (P : X → Type 0) (xs ys : List X) (x : X) → AllByRecursion P (xs ++ ys) → P x → AllByRecursion P ((xs ++ x ∷ []) ++ ys)
all_between P [] ys x h p = (p, h)
all_between P (y ∷ xs) ys x h p = (h.0, all_between P xs ys x h.1 p)

all_last : {X : Type 0} (P : X → Type 0) (xs ys : List X) (x : X) → AllByRecursion P (xs ++ ys) → P x → AllByRecursion P (xs ++ (ys ++ x ∷ []))
all_last P [] ys x h p = all_more P ys x h p
all_last P (y ∷ xs) ys x h p = (h.0, all_last P xs ys x h.1 p)

list_all_last : (p : List ℕ → Bool) (xs : List (List ℕ)) (x : List ℕ) → list_all p xs ≡ true → p x ≡ true → list_all p (xs ++ x ∷ []) ≡ true
list_all_last p xs x h e = list_all-append p xs (x ∷ []) ∙ and_from (list_all p xs) (p x && true) h (and_from (p x) true e refl)

lets_more : (i k : ℕ) (ls : List Equation) (e : Equation) → AreLets i k ls → IsOver i (k + length ls) e.body → AreLets i k (ls ++ e ∷ [])
lets_more i k [] e h o = let z : k + 0 ≡ k = omega arith in (subst (λ (m : ℕ). IsOver i m e.body) z o, tt)
lets_more i k (x ∷ ls) e h o = let z : k + suc (length ls) ≡ suc k + length ls = omega arith in (h.0, lets_more i (suc k) ls e h.1 (subst (λ (m : ℕ). IsOver i m e.body) z o))

good_name : (b : Bool) → not b ≡ false → b ≡ true
good_name true e = refl
good_name false e = absurd cc

-- ---- a line more

pub sound_let : (n : Net) (name : List ℕ) (t : Expression) → IsSound n → n.outputs ≡ [] → Keeps n (Define target.Let name t) → written_nesting t ≤ 64 → IsSound (extended n (Define target.Let name t))
sound_let n name t h none k deep =
    let e = equation n name t in
    let few = few_from (extended n (Define target.Let name t)) k.few in
    let new = or_parts (list_any (bytes_eq name) (declared_names n)) false k.new in
    let over : IsOver (length n.inputs) (length n.lets) (resolved n t) = resolved_over n t (good_name (knows n t) k.known) in
    let z : 0 + length n.lets ≡ length n.lets = omega arith in
    let outs : names_of n.outputs ≡ [] = ap names_of none in
    let same_names : declared_names n ++ name ∷ [] ≡ declared_names (extended n (Define target.Let name t)) =
    (λ i. (n.inputs ++ names_of n.lets ++ outs i) ++ name ∷ []) ∙ ap (λ (xs : List (List ℕ)). xs ++ name ∷ []) (append-nil (n.inputs ++ names_of n.lets)) ∙ append_assoc n.inputs (names_of n.lets) (name ∷ [])
    ∙ ap (λ (xs : List (List ℕ)). n.inputs ++ xs) (sym (names_more n.lets e)) ∙ sym (append-nil (n.inputs ++ names_of (n.lets ++ e ∷ []))) ∙ (λ i. n.inputs ++ names_of (n.lets ++ e ∷ []) ++ sym outs i) in
    let late : span (let_spans n.lets) (resolved n t) ≤ 1000000 = ltb-false 1000000 _ k.early in
    record {
      few_inputs = few.inputs;
      few_outputs = few.outputs;
      input_names = h.input_names;
      let_names = rw names_more (list_all_last is_let_name (names_of n.lets) name h.let_names (good_name (is_let_name name) k.good));
      output_names = h.output_names;
      distinct = ap are_distinct (sym same_names) ∙ distinct_more (declared_names n) name h.distinct new.0;
      lets_over = lets_more (length n.inputs) 0 n.lets e h.lets_over (subst (λ (m : ℕ). IsOver (length n.inputs) m (resolved n t)) (sym z) over);
      outputs_over = subst (λ (os : List Equation). AllByRecursion (λ (x : Equation). IsOver (length n.inputs) (length (n.lets ++ e ∷ [])) x.body) os) (sym none) tt;
      few_joins = few.joins;
      few_delays = few.delays;
      shallow = all_between (λ (x : Equation). nesting x.body ≤ 64) n.lets n.outputs e h.shallow (let r = resolved_nesting n t in omega (arith, r, deep));
      short_lets = rw let_spans_more (all_more (λ (s : ℕ). s ≤ 1000000) (let_spans n.lets) (span (let_spans n.lets) (resolved n t)) h.short_lets late);
      short_outputs = subst (λ (os : List Equation). AllByRecursion (λ (s : ℕ). s ≤ 1000000) (map (λ (x : Equation). span (let_spans (n.lets ++ e ∷ [])) x.body) os)) (sym none) tt;
    }

pub sound_output : (n : Net) (name : List ℕ) (t : Expression) → IsSound n → Keeps n (Define target.Output name t) → written_nesting t ≤ 64 → IsSound (extended n (Define target.Output name t))
sound_output n name t h k deep =
    let e = equation n name t in
    let few = few_from (extended n (Define target.Output name t)) k.few in
    let new = or_parts (list_any (bytes_eq name) (declared_names n)) false k.new in
    let over : IsOver (length n.inputs) (length n.lets) (resolved n t) = resolved_over n t (good_name (knows n t) k.known) in
    let same_names : declared_names n ++ name ∷ [] ≡ declared_names (extended n (Define target.Output name t)) =
    append_assoc (n.inputs ++ names_of n.lets) (names_of n.outputs) (name ∷ []) ∙ ap (λ (xs : List (List ℕ)). n.inputs ++ names_of n.lets ++ xs) (sym (names_more n.outputs e)) in
    let late : span (let_spans n.lets) (resolved n t) ≤ 1000000 = ltb-false 1000000 _ k.early in
    record {
      few_inputs = few.inputs;
      few_outputs = few.outputs;
      input_names = h.input_names;
      let_names = h.let_names;
      output_names = rw names_more (list_all_last is_port_name (names_of n.outputs) name h.output_names (good_name (is_port_name name) k.good));
      distinct = ap are_distinct (sym same_names) ∙ distinct_more (declared_names n) name h.distinct new.0;
      lets_over = h.lets_over;
      outputs_over = all_more (λ (x : Equation). IsOver (length n.inputs) (length n.lets) x.body) n.outputs e h.outputs_over over;
      few_joins = few.joins;
      few_delays = few.delays;
      shallow = all_last (λ (x : Equation). nesting x.body ≤ 64) n.lets n.outputs e h.shallow (let r = resolved_nesting n t in omega (arith, r, deep));
      short_lets = h.short_lets;
      short_outputs = rw map-append (all_more (λ (s : ℕ). s ≤ 1000000) (output_spans n) (span (let_spans n.lets) (resolved n t)) h.short_outputs late);
    }

pub sound_inputs : (n : Net) (names : List (List ℕ)) → IsSound n → n.lets ≡ [] → n.outputs ≡ [] → Keeps n (Inputs names) → IsSound (extended n (Inputs names))
sound_inputs n names h no_lets no_outputs k =
    let few = few_from (extended n (Inputs names)) k.few in
    let lets : names_of n.lets ≡ [] = ap names_of no_lets in
    let outs : names_of n.outputs ≡ [] = ap names_of no_outputs in
    let before : declared_names n ≡ n.inputs = (λ i. n.inputs ++ lets i ++ outs i) ∙ append-nil (n.inputs ++ []) ∙ append-nil n.inputs in
    let same_names : declared_names n ++ names ≡ declared_names (extended n (Inputs names)) =
    ap (λ (xs : List (List ℕ)). xs ++ names) before ∙ sym (append-nil (n.inputs ++ names)) ∙ sym (append-nil (n.inputs ++ names ++ [])) ∙ (λ i. n.inputs ++ names ++ sym lets i ++ sym outs i) in
    record {
      few_inputs = few.inputs;
      few_outputs = few.outputs;
      input_names = list_all-append is_port_name n.inputs names ∙ and_from (list_all is_port_name n.inputs) (list_all is_port_name names) h.input_names (good_name (list_all is_port_name names) k.good);
      let_names = h.let_names;
      output_names = h.output_names;
      distinct = ap are_distinct (sym same_names) ∙ distinct_all (declared_names n) names h.distinct k.new;
      lets_over = subst (AreLets (length (n.inputs ++ names)) 0) (sym no_lets) tt;
      outputs_over = subst (λ (os : List Equation). AllByRecursion (λ (x : Equation). IsOver (length (n.inputs ++ names)) (length n.lets) x.body) os) (sym no_outputs) tt;
      few_joins = few.joins;
      few_delays = few.delays;
      shallow = h.shallow;
      short_lets = h.short_lets;
      short_outputs = h.short_outputs;
    }
