-- What is kept of the lines before, and the rules by it.
use Rattle.std.proofs.Common.{◌≡◌, ℕ, zero, suc, ◌+◌, ◌^◌, ◌≤◌, ◌<◌, Bool, true, false, cond, not, ◌||◌, ltb, List, [], ◌∷◌, ◌++◌, length, vec_len, Option, Some, None, refl, sym, ap, subst, ◌∙◌, arith, inl, inr}
use Rattle.std.specs.Prelude.{min, is_some, sum_by, slice_index_or}
use Rattle.std.specs.List.{list_any, AllByRecursion}
use Rattle.std.specs.Str.{bytes_eq}
use Rattle.std.proofs.lemmas.Bool.{cases_lt, lt-ltb, le-ltb, ltb-false, or_parts}
use Rattle.std.proofs.lemmas.List.{append_assoc, length-append, length-map}
use Rattle.std.proofs.lemmas.List.Sums.{sum_by-append, sum_by-cons}
use Rattle.net_lang.specs.declared.reader.scope.Known.{Known}
use Rattle.net_lang.specs.declared.reader.scope.Measured.{Measured}
use Rattle.net_lang.specs.declared.reader.rules.Target.{Target}
use Rattle.net_lang.specs.declared.reader.rules.Target.TheVariants as target
use Rattle.net_lang.specs.declared.reader.scope.Place.TheVariants as place
use Rattle.net_lang.specs.declared.reader.draft.Draft as source
use Rattle.net_model.specs.Formula.{Formula, Equation, Net}
use Rattle.net_model.specs.Rules.{names_of, declared_names, equations, joins, delays, span, let_spans}
use Rattle.net_lang.specs.Grammar.{Expression}
use Rattle.net_lang.specs.Names.{resolved, knows, place_of}
use Rattle.net_lang.specs.Forms.{Define, IsFormed}
use Rattle.net_lang.specs.LineRules.{allows, after, equation, may_have, stage_after, with_equation, some_twice, joins_in, delays_in, body_span, first_of, first_rule}
use Rattle.rl_text.specs.NameMap.{find, AddsName}
use Rattle.net_lang.specs.Known.{known, known_by, known_in, Measures, HasSmallPlace, IsSmall, span_at, found_formula, found_span, finds_all, written_joins, written_delays}
use Rattle.net_lang.specs.Draft.{net_of, so_far, known_as, outputs_in, rule_by, IsSound, IsPart, IsDraft, Adds}
use Rattle.net_lang.proofs.Sound.{keeps}
use Rattle.net_lang.proofs.Partial.{part_after}
use Rattle.net_lang.proofs.Knowing.{IsNew, place_low, formulas, spans, known_all, known_declared, resolved_joins, resolved_delays, is_new, known_let, known_output, or_false}

-- ---- a draft's look-up is small

all_at : (m : ℕ) (xs : List ℕ) (j : ℕ) → AllByRecursion (λ s. s ≤ m) xs → slice_index_or xs j 0 ≤ m
all_at m [] j h = omega arith
all_at m (x ∷ xs) zero h = h.0
all_at m (x ∷ xs) (suc j) h = all_at m xs j h.1

small_span : (i j : Option ℕ) (o : Bool) (ss : List ℕ) → AllByRecursion (λ s. s ≤ 1000000) ss → span_at (known_by i j o ss) ≤ 1000000
small_span (Some i) j o ss h = omega arith
small_span None (Some j) o ss h = all_at 1000000 ss j h
small_span None None true ss h = omega arith
small_span None None false ss h = omega arith

small_place : (i j : Option ℕ) (o : Bool) (ss : List ℕ) → ((k : ℕ) → i ≡ Some k → k < 2 ^ 32) → ((k : ℕ) → j ≡ Some k → k < 2 ^ 32) → HasSmallPlace (known_by i j o ss)
small_place (Some i) j o ss a b = a i refl
small_place None (Some j) o ss a b = b j refl
small_place None None true ss a b = omega arith
small_place None None false ss a b = tt

small_known : (n : Net) → IsSound n → length n.lets < 2 ^ 31 → IsSmall (known_in n)
small_known n h few = record {
  spans = λ t. small_span (place_of t n.inputs) (place_of t (names_of n.lets)) (list_any (bytes_eq t) (names_of n.outputs)) (let_spans n.lets) h.short_lets;
  places = λ t. small_place (place_of t n.inputs) (place_of t (names_of n.lets)) (list_any (bytes_eq t) (names_of n.outputs)) (let_spans n.lets)
      (λ k e. let b = place_low 0 k t n.inputs e in let c = h.few_inputs in omega (arith, b.1, c))
      (λ k e. let b = place_low 0 k t (names_of n.lets) e in let l = length-map n.lets (λ (x : Equation). x.name) in omega (arith, b.1, l, few));
}

looks : (d : source.Draft) → IsDraft d → find d.scope ≡ known_in (net_of d)
looks d h = λ i t. h.names t i

pub small : (d : source.Draft) → IsDraft d → length d.lets.items < 2 ^ 31 → IsSmall (find d.scope)
small d h few = subst IsSmall (sym (looks d h)) (small_known (net_of d) h.part.sound few)

-- ---- the rules by a draft

over_capped : (k b : ℕ) → ltb 16384 (k + min b 20000) ≡ ltb 16384 (k + b)
over_capped k b =
    elim (cases_lt 16384 (k + b)) [
      | inl lt ↦ lt-ltb 16384 (k + min b 20000) (omega arith) ∙ sym (lt-ltb 16384 (k + b) lt)
      | inr le ↦ le-ltb 16384 (k + min b 20000) (omega arith) ∙ sym (le-ltb 16384 (k + b) le)
    ]

late_capped : (s : ℕ) → ltb 1000000 (min s 1000001) ≡ ltb 1000000 s
late_capped s =
    elim (cases_lt 1000000 s) [
      | inl lt ↦ lt-ltb 1000000 (min s 1000001) (omega arith) ∙ sym (lt-ltb 1000000 s lt)
      | inr le ↦ le-ltb 1000000 (min s 1000001) (omega arith) ∙ sym (le-ltb 1000000 s le)
    ]

sum_one : (g : Equation → ℕ) (es : List Equation) (e : Equation) → sum_by g (es ++ e ∷ []) ≡ sum_by g es + g e
sum_one g es e = sum_by-append g es (e ∷ []) ∙ (let z = sum_by-cons g e [] in omega (arith, z))

sum_between : (g : Equation → ℕ) (es fs : List Equation) (e : Equation) → sum_by g ((es ++ e ∷ []) ++ fs) ≡ sum_by g (es ++ fs) + g e
sum_between g es fs e =
    let a = sum_by-append g (es ++ e ∷ []) fs in
    let b = sum_one g es e in
    let c = sum_by-append g es fs in
    omega (arith, a, b, c)

sum_last : (g : Equation → ℕ) (es fs : List Equation) (e : Equation) → sum_by g (es ++ (fs ++ e ∷ [])) ≡ sum_by g (es ++ fs) + g e
sum_last g es fs e = ap (sum_by g) (sym (append_assoc es fs (e ∷ []))) ∙ sum_one g (es ++ fs) e

sum_with : (g : Equation → ℕ) (k : Target) (n : Net) (e : Equation) → sum_by g (equations (with_equation k n e)) ≡ sum_by g (equations n) + g e
sum_with g target.Let n e = sum_between g n.lets n.outputs e
sum_with g target.Output n e = sum_last g n.lets n.outputs e

inputs_with : (k : Target) (n : Net) (e : Equation) → length n.inputs ≡ length (with_equation k n e).inputs
inputs_with target.Let n e = refl
inputs_with target.Output n e = refl

outputs_with : (k : Target) (n : Net) (e : Equation) → length n.outputs + outputs_in k ≡ length (with_equation k n e).outputs
outputs_with target.Let n e = omega arith
outputs_with target.Output n e = let l = length-append n.outputs (e ∷ []) in omega (arith, l)

-- a let or an output more is known
known_more : (k : Target) (n : Net) (e : Equation) (at s : ℕ) → IsNew n e.name → at ≡ length n.lets → s ≡ span (let_spans n.lets) e.body → (u : List ℕ)
    → cond (bytes_eq e.name u) (Some (known_as k at s)) (known_in n u) ≡ known_in (with_equation k n e) u
known_more target.Let n e at s new a b u = (λ i. cond (bytes_eq e.name u) (Some (known (place.Let (a i)) s)) (known_in n u)) ∙ known_let n e s new b u
known_more target.Output n e at s new a b u = known_output n e new u

-- counts that are few are not capped
uncapped : (k m b c d : ℕ) → k ≡ m → b ≡ c → m + c ≤ 16384 → d ≡ min b 20000 → k + d ≡ m + c
uncapped k m b c d e f h g = omega (arith, e, f, h, g)

module _ (d : source.Draft) (k : Target) (name : List ℕ) (t : Expression) (m : Measured) (h : IsDraft d) (c : Measures (find d.scope) t m) where
  doubled_is : is_some (find d.scope name) ≡ some_twice (declared_names (net_of d)) (name ∷ [])
  doubled_is = ap is_some (h.names name) ∙ known_declared (net_of d) name ∙ sym (or_false (list_any (bytes_eq name) (declared_names (net_of d))))

  unknown_is : not m.known ≡ not (knows (net_of d) t)
  unknown_is = ap not (c.known ∙ ap (λ (g : List ℕ → Option Known). finds_all g t) (looks d h) ∙ known_all (net_of d) t)

  span_is : found_span (find d.scope) t ≡ body_span (net_of d) t
  span_is = ap (λ (g : List ℕ → Option Known). found_span g t) (looks d h) ∙ spans (net_of d) t

  late_is : ltb 1000000 m.span ≡ ltb 1000000 (body_span (net_of d) t)
  late_is = ap (ltb 1000000) c.span ∙ late_capped (found_span (find d.scope) t) ∙ ap (ltb 1000000) span_is

  joins_is : (total : ℕ) → total ≡ joins_in (net_of d) + joins (resolved (net_of d) t) → ltb 16384 (d.joins + m.joins) ≡ ltb 16384 total
  joins_is total e =
      ap (λ (j : ℕ). ltb 16384 (d.joins + j)) c.joins ∙ over_capped d.joins (written_joins t)
      ∙ ap (ltb 16384) (let a = h.joins in let b = resolved_joins (net_of d) t in let g : d.joins + written_joins t ≡ total = omega (arith, a, b, e) in g)

  delays_is : (total : ℕ) → total ≡ delays_in (net_of d) + delays (resolved (net_of d) t) → ltb 16384 (d.delays + m.delays) ≡ ltb 16384 total
  delays_is total e =
      ap (λ (j : ℕ). ltb 16384 (d.delays + j)) c.delays ∙ over_capped d.delays (written_delays t)
      ∙ ap (ltb 16384) (let a = h.delays in let b = resolved_delays (net_of d) t in let g : d.delays + written_delays t ≡ total = omega (arith, a, b, e) in g)

  pub rule_is : rule_by d k name m ≡ first_rule (net_of d) (Define k name t)
  unfolding first_rule
  rule_is =
      let e = equation (net_of d) name t in
      let ins = inputs_with k (net_of d) e in
      let outs = outputs_with k (net_of d) e in
      let j = joins_is _ (sum_with (λ (x : Equation). joins x.body) k (net_of d) e) in
      let l = delays_is _ (sum_with (λ (x : Equation). delays x.body) k (net_of d) e) in
      λ i. first_of (not (may_have k name)) (doubled_is i) (unknown_is i) (ltb 64 (ins i) || ltb 64 (outs i) || j i || l i) (late_is i)

  module _ (a : allows d.stage (Define k name t) ≡ true) (rule : first_rule (net_of d) (Define k name t) ≡ None) where
    pub short : found_span (find d.scope) t ≤ 1000000
    short =
        let late : body_span (net_of d) t ≤ 1000000 = ltb-false 1000000 _ (keeps (net_of d) (Define k name t) rule).early in
        omega (arith, late, span_is)

    pub define_kept : (new : source.Draft) → IsFormed (Define k name t) → AddsName d.scope new.scope name (known_as k (vec_len d.lets) m.span) → new.stage ≡ stage_after k
        → net_of new ≡ with_equation k (net_of d) (equation (net_of d) name t) → new.joins ≡ d.joins + m.joins → new.delays ≡ d.delays + m.delays → Adds d (Define k name t) new
    define_kept new w scope last same js ds =
        let n = net_of d in
        let f = Define k name t in
        let e = equation n name t in
        let part = part_after (so_far d) f h.part a rule w in
        let fresh = is_new n name (or_parts (list_any (bytes_eq name) (declared_names n)) false (keeps n f rule).new).0 in
        let span : m.span ≡ body_span n t = let s = short in let q = span_is in let r = c.span in omega (arith, s, q, r) in
        let at : vec_len d.lets ≡ length d.lets.items = omega (arith, d.lets.ok) in
        let j = sum_with (λ (x : Equation). joins x.body) k n e in
        let l = sum_with (λ (x : Equation). delays x.body) k n e in
        let few_joins : joins_in n + joins (resolved n t) ≤ 16384 = let s = part.sound.few_joins in omega (arith, s, j) in
        let few_delays : delays_in n + delays (resolved n t) ≤ 16384 = let s = part.sound.few_delays in omega (arith, s, l) in
        let now : so_far new ≡ after (so_far d) f = λ i. record { stage = last i; net = same i } in
        record {
          now = now;
          draft = record {
            names = λ u. scope u ∙ ap (λ (o : Option Known). cond (bytes_eq name u) (Some (known_as k (vec_len d.lets) m.span)) o) (h.names u) ∙ known_more k n e (vec_len d.lets) m.span fresh at span u ∙ ap (λ (x : Net). known_in x u) (sym same);
            joins = js ∙ uncapped d.joins (joins_in n) (written_joins t) (joins (resolved n t)) m.joins h.joins (resolved_joins n t) few_joins c.joins ∙ sym j ∙ ap joins_in (sym same);
            delays = ds ∙ uncapped d.delays (delays_in n) (written_delays t) (delays (resolved n t)) m.delays h.delays (resolved_delays n t) few_delays c.delays ∙ sym l ∙ ap delays_in (sym same);
            part = subst IsPart (sym now) part;
          };
        }

pub found_is : (d : source.Draft) (t : Expression) → IsDraft d → found_formula (find d.scope) t ≡ resolved (net_of d) t
found_is d t h = ap (λ (g : List ℕ → Option Known). found_formula g t) (looks d h) ∙ formulas (net_of d) t

-- the binding that was made is the line's
pub made_is : (d : source.Draft) (name made : List ℕ) (t : Expression) (body : Formula) → IsDraft d → made ≡ name → body ≡ found_formula (find d.scope) t → (e : Equation) → e ≡ record { name = made; body = body } → e ≡ equation (net_of d) name t
made_is d name made t body h m b e is = is ∙ (λ i. record { name = m i; body = (b ∙ found_is d t h) i })
