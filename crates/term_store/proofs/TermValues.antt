-- The values and spans of a network's terms.
use Rattle.std.proofs.Common.{◌≡◌, ℕ, zero, suc, ◌≤◌, ◌+◌, max, refl, ap, arith, sym, ◌∙◌, Bool, true, false, nat_eq, List, [], ◌∷◌, ◌++◌, map, fold, if◌then◌else◌}
use Rattle.std.specs.List.{AllByRecursion, slice_index_or}
use Rattle.std.proofs.lemmas.Bool.Decides.{nat_tests}
use Rattle.std.proofs.lemmas.List.{map-append}
use Rattle.rl_time.specs.declared.time.Time.{Time}
use Rattle.rl_time.specs.declared.time.Time.TheVariants as time
use Rattle.rl_time.specs.Time.{time_min, time_max, time_lt, time_inc}
use Rattle.net_model.specs.Formula.{Formula, Equation, Net}
use Rattle.net_model.specs.Formula as formula
use Rattle.net_model.specs.Value.{time_at, let_values, space_time_function}
use Rattle.net_model.specs.Value as net
use Rattle.net_model.specs.Rules.{let_spans, output_spans}
use Rattle.net_model.specs.Rules as rules
use Rattle.term_store.specs.Tree.{Tree, Inc, value, span}
use Rattle.term_store.specs.Terms.{tree_in, delayed, tree_over, let_trees, network_trees}

value_at : (x : List Time) (ts : List Tree) (j : ℕ) → value x (tree_in ts j) ≡ time_at (map (value x) ts) j
value_at x [] j = refl
value_at x (t ∷ ts) zero = refl
value_at x (t ∷ ts) (suc j) = value_at x ts j

inc_by_zero : (t : Time) → t ≡ time_inc t 0
inc_by_zero (time.At a) = let e : a ≡ a + 0 = omega arith in ap time.At e
inc_by_zero time.Never = refl

-- by none, or by some
value_delayed : (x : List Time) (t : Tree) (c : ℕ) → value x (delayed t c) ≡ time_inc (value x t) c
value_delayed x t c = go (nat_eq c 0) refl
  where
    go : (b : Bool) → nat_eq c 0 ≡ b → value x (delayed t c) ≡ time_inc (value x t) c
    go true e =
        let none : c ≡ 0 = grind (arith, nat_tests, e) in
        ap (λ p. value x (if p then t else Inc t c)) e ∙ inc_by_zero (value x t) ∙ ap (time_inc (value x t)) (sym none)
    go false e = ap (λ p. value x (if p then t else Inc t c)) e

-- the term of a formula has the formula's value
pub value_over : (x : List Time) (ts : List Tree) (f : Formula) → value x (tree_over ts f) ≡ net.value x (map (value x) ts) f
value_over x ts formula.Never = refl
value_over x ts (formula.Input i) = refl
value_over x ts (formula.Named j) = value_at x ts j
value_over x ts (formula.Min a b) = λ i. time_min (value_over x ts a i) (value_over x ts b i)
value_over x ts (formula.Max a b) = λ i. time_max (value_over x ts a i) (value_over x ts b i)
value_over x ts (formula.Lt a b) = λ i. time_lt (value_over x ts a i) (value_over x ts b i)
value_over x ts (formula.Inc a c) = value_delayed x (tree_over ts a) c ∙ ap (λ t. time_inc t c) (value_over x ts a)

lets_from : (x : List Time) (ts : List Tree) (es : List Equation) →
    map (value x) (fold (λ trees e. trees ++ tree_over trees e.body ∷ []) ts es) ≡ fold (λ times e. times ++ net.value x times e.body ∷ []) (map (value x) ts) es
lets_from x ts [] = refl
lets_from x ts (e ∷ es) =
    lets_from x (ts ++ tree_over ts e.body ∷ []) es
    ∙ ap (λ (times : List Time). fold (λ (times : List Time) (e : Equation). times ++ net.value x times e.body ∷ []) times es)
    (map-append (value x) ts (tree_over ts e.body ∷ []) ∙ ap (λ (t : Time). map (value x) ts ++ t ∷ []) (value_over x ts e.body))

outputs_over : (x : List Time) (ts : List Tree) (es : List Equation) → map (value x) (map (λ e. tree_over ts e.body) es) ≡ map (λ e. net.value x (map (value x) ts) e.body) es
outputs_over x ts [] = refl
outputs_over x ts (e ∷ es) = λ i. value_over x ts e.body i ∷ outputs_over x ts es i

-- the terms have the network's values
pub values_are : (n : Net) (x : List Time) → map (value x) (network_trees n) ≡ space_time_function n x
values_are n x =
    outputs_over x (let_trees n.lets) n.outputs
    ∙ ap (λ (times : List Time). map (λ (e : Equation). net.value x times e.body) n.outputs) (lets_from x [] n.lets)

span_at : (ts : List Tree) (j : ℕ) → span (tree_in ts j) ≡ slice_index_or (map span ts) j 0
span_at [] j = refl
span_at (t ∷ ts) zero = refl
span_at (t ∷ ts) (suc j) = span_at ts j

span_delayed : (t : Tree) (c : ℕ) → span (delayed t c) ≡ span t + c
span_delayed t c = go (nat_eq c 0) refl
  where
    go : (b : Bool) → nat_eq c 0 ≡ b → span (delayed t c) ≡ span t + c
    go true e =
        let none : c ≡ 0 = grind (arith, nat_tests, e) in
        let here : span (delayed t c) ≡ span t = ap (λ p. span (if p then t else Inc t c)) e in
        omega (arith, here, none)
    go false e = ap (λ p. span (if p then t else Inc t c)) e

-- the term of a formula has the formula's span
pub span_over : (ts : List Tree) (f : Formula) → span (tree_over ts f) ≡ rules.span (map span ts) f
span_over ts formula.Never = refl
span_over ts (formula.Input i) = refl
span_over ts (formula.Named j) = span_at ts j
span_over ts (formula.Min a b) = λ i. max (span_over ts a i) (span_over ts b i)
span_over ts (formula.Max a b) = λ i. max (span_over ts a i) (span_over ts b i)
span_over ts (formula.Lt a b) = λ i. max (span_over ts a i) (span_over ts b i)
span_over ts (formula.Inc a c) = span_delayed (tree_over ts a) c ∙ ap (λ s. s + c) (span_over ts a)

pub spans_from : (ts : List Tree) (es : List Equation) →
    map span (fold (λ trees e. trees ++ tree_over trees e.body ∷ []) ts es) ≡ fold (λ spans e. spans ++ rules.span spans e.body ∷ []) (map span ts) es
spans_from ts [] = refl
spans_from ts (e ∷ es) =
    spans_from (ts ++ tree_over ts e.body ∷ []) es
    ∙ ap (λ (spans : List ℕ). fold (λ (spans : List ℕ) (e : Equation). spans ++ rules.span spans e.body ∷ []) spans es)
    (map-append span ts (tree_over ts e.body ∷ []) ∙ ap (λ (s : ℕ). map span ts ++ s ∷ []) (span_over ts e.body))

spans_over : (ts : List Tree) (es : List Equation) → map span (map (λ e. tree_over ts e.body) es) ≡ map (λ e. rules.span (map span ts) e.body) es
spans_over ts [] = refl
spans_over ts (e ∷ es) = λ i. span_over ts e.body i ∷ spans_over ts es i

pub spans_are : (n : Net) → map span (network_trees n) ≡ output_spans n
spans_are n =
    spans_over (let_trees n.lets) n.outputs
    ∙ ap (λ (spans : List ℕ). map (λ (e : Equation). rules.span spans e.body) n.outputs) (spans_from [] n.lets)

pub all_short : (ts : List Tree) → AllByRecursion (λ s. s ≤ 1000000) (map span ts) → AllByRecursion (λ t. span t ≤ 1000000) ts
all_short [] h = tt
all_short (t ∷ ts) h = (h.0, all_short ts h.1)
