-- The lines of a printing break no rule.
use Rattle.std.proofs.Common.{◌≡◌, ℕ, suc, ◌+◌, ◌≤◌, Bool, true, false, not, ◌||◌, ltb, List, [], ◌∷◌, ◌++◌, length, map, None, refl, sym, ap, subst, ◌∙◌, append_assoc, arith}
use Rattle.std.specs.Prelude.{fold, sum_by}
use Rattle.std.specs.List.{list_any, list_all, AllByRecursion}
use Rattle.std.specs.Str.{bytes_eq}
use Rattle.std.proofs.lemmas.Bool.{and_parts, le-ltb}
use Rattle.std.proofs.lemmas.List.{append-nil, map-append, length-append, length-map}
use Rattle.std.proofs.lemmas.List.Folds.{list_all-append}
use Rattle.std.proofs.lemmas.List.Sums.{fold-append, sum_by-append}
use Rattle.rl_text.specs.Laws.{DecimalsAreNumbers}
use Rattle.net_model.specs.Formula.{Formula, Equation, Net, net}
use Rattle.net_model.specs.Rules.{is_let_name, is_port_name, begins_with_underscore, are_distinct, names_of, declared_names, joins, delays, nesting, span, IsOver, AreLets, let_spans, IsNetwork}
use Rattle.net_lang.specs.declared.reader.rules.Target.{Target}
use Rattle.net_lang.specs.Grammar.{IsWritten, written_nesting}
use Rattle.net_lang.specs.Names.{resolved}
use Rattle.net_lang.specs.Forms.{Form}
use Rattle.net_lang.specs.LineRules.{extended, with_equation, may_have, has_too_many, joins_in, delays_in, body_span, first_of, first_rule}
use Rattle.net_lang.proofs.Knowing.{resolved_nesting, let_spans_more, or_false}
use Rattle.net_lang.proofs.Sound.{Keeps}
use Rattle.net_lang.proofs.PrintedWords.{written, IsPrintable, is_written, defining, HasNames, let_name_is}
use Rattle.net_lang.proofs.PrintedNames.{distinct_front, apart, IsScope, scope, resolves, all_known, printable}

-- a line of which each rule is kept breaks none
pub kept : (n : Net) (x : Form) → Keeps n x → first_rule n x ≡ None
unfolding first_rule
kept n x k = λ i. first_of (k.good i) (k.new i) (k.known i) (k.few i) (k.early i)

pub few : (n : Net) → length n.inputs ≤ 64 → length n.outputs ≤ 64 → joins_in n ≤ 16384 → delays_in n ≤ 16384 → has_too_many n ≡ false
few n a b c d = λ i. le-ltb 64 (length n.inputs) a i || le-ltb 64 (length n.outputs) b i || le-ltb 16384 (joins_in n) c i || le-ltb 16384 (delays_in n) d i

-- ---- one line

-- the equation may follow what is there, where all lets have these names
pub record IsNext (m : Net) (lets : List (List ℕ)) (e : Equation) : Type 0 where
  pub new : list_any (bytes_eq e.name) (declared_names m) ≡ false
  pub over : IsOver (length m.inputs) (length m.lets) e.body
  pub printable : IsPrintable m.inputs lets e.body
  pub scope : IsScope m.inputs (names_of m.lets) lets
  pub early : span (let_spans m.lets) e.body ≤ 1000000
  pub shallow : nesting e.body ≤ 64

over_names : (m : Net) (t : Formula) → IsOver (length m.inputs) (length m.lets) t → IsOver (length m.inputs) (length (names_of m.lets)) t
over_names m t h = subst (λ (k : ℕ). IsOver (length m.inputs) k t) (sym (length-map m.lets (λ (x : Equation). x.name))) h

same_body : (m : Net) (lets : List (List ℕ)) (e : Equation) → IsNext m lets e → resolved m (written m.inputs lets e.body) ≡ e.body
same_body m lets e h = resolves m lets e.body h.scope (over_names m e.body h.over) h.printable

pub is_formed : (m : Net) (lets : List (List ℕ)) (e : Equation) → IsNext m lets e → IsWritten (written m.inputs lets e.body) × (written_nesting (written m.inputs lets e.body) ≤ 64)
is_formed m lets e h =
    let deep : written_nesting (written m.inputs lets e.body) ≡ nesting e.body = resolved_nesting m (written m.inputs lets e.body) ∙ ap nesting (same_body m lets e h) in
    let low = h.shallow in
    (is_written m.inputs lets e.body h.printable, omega (arith, deep, low))

pub extends : (k : Target) (m : Net) (lets : List (List ℕ)) (e : Equation) → IsNext m lets e → extended m (defining k m.inputs lets e) ≡ with_equation k m e
extends k m lets e h = λ i. with_equation k m (record { name = e.name; body = same_body m lets e h i })

early_is : (m : Net) (lets : List (List ℕ)) (e : Equation) → IsNext m lets e → ltb 1000000 (body_span m (written m.inputs lets e.body)) ≡ false
early_is m lets e h = ap (λ (t : Formula). ltb 1000000 (span (let_spans m.lets) t)) (same_body m lets e h) ∙ le-ltb 1000000 (span (let_spans m.lets) e.body) h.early

pub line_kept : (k : Target) (m : Net) (lets : List (List ℕ)) (e : Equation) → IsNext m lets e → may_have k e.name ≡ true → has_too_many (with_equation k m e) ≡ false → first_rule m (defining k m.inputs lets e) ≡ None
line_kept k m lets e h good low = kept m (defining k m.inputs lets e) (record {
  good = ap not good;
  new = or_false (list_any (bytes_eq e.name) (declared_names m)) ∙ h.new;
  known = ap not (all_known m lets e.body h.scope (over_names m e.body h.over));
  few = ap has_too_many (extends k m lets e h) ∙ low;
  early = early_is m lets e h;
})

-- ---- lists that go on

all_front : {X : Type 0} (P : X → Type 0) (xs ys : List X) → AllByRecursion P (xs ++ ys) → AllByRecursion P xs
all_front P [] ys h = tt
all_front P (x ∷ xs) ys h = (h.0, all_front P xs ys h.1)

all_behind : {X : Type 0} (P : X → Type 0) (xs ys : List X) → AllByRecursion P (xs ++ ys) → AllByRecursion P ys
all_behind P [] ys h = h
all_behind P (x ∷ xs) ys h = all_behind P xs ys h.1

all_here : {X : Type 0} (P : X → Type 0) (xs : List X) (x : X) (ys : List X) → AllByRecursion P (xs ++ x ∷ ys) → P x
all_here P xs x ys h = (all_behind P xs (x ∷ ys) h).0

all_mapped : {X Y : Type 0} (P : Y → Type 0) (g : X → Y) (xs : List X) → AllByRecursion P (map g xs) → AllByRecursion (λ x. P (g x)) xs
all_mapped P g [] h = tt
all_mapped P g (x ∷ xs) h = (h.0, all_mapped P g xs h.1)

name_here : (p : List ℕ → Bool) (xs : List (List ℕ)) (x : List ℕ) (ys : List (List ℕ)) → list_all p (xs ++ x ∷ ys) ≡ true → p x ≡ true
name_here p xs x ys h = (and_parts (p x) (list_all p ys) (and_parts (list_all p xs) (list_all p (x ∷ ys)) (sym (list_all-append p xs (x ∷ ys)) ∙ h)).1).0

over_here : (i k : ℕ) (xs : List Equation) (e : Equation) (ys : List Equation) → AreLets i k (xs ++ e ∷ ys) → IsOver i (k + length xs) e.body
over_here i k [] e ys h = let z : k ≡ k + 0 = omega arith in subst (λ (m : ℕ). IsOver i m e.body) z h.0
over_here i k (x ∷ xs) e ys h = let z : suc k + length xs ≡ k + suc (length xs) = omega arith in subst (λ (m : ℕ). IsOver i m e.body) z (over_here i (suc k) xs e ys h.1)

-- the spans so far stay
spans_stay : (P : ℕ → Type 0) (before : List ℕ) (es : List Equation) → AllByRecursion P (fold (λ spans e. spans ++ span spans e.body ∷ []) before es) → AllByRecursion P before
spans_stay P before [] h = h
spans_stay P before (e ∷ es) h = all_front P before (span before e.body ∷ []) (spans_stay P (before ++ span before e.body ∷ []) es h)

span_here : (xs : List Equation) (e : Equation) (ys : List Equation) → AllByRecursion (λ s. s ≤ 1000000) (let_spans ((xs ++ e ∷ []) ++ ys)) → span (let_spans xs) e.body ≤ 1000000
span_here xs e ys h =
    let whole : let_spans ((xs ++ e ∷ []) ++ ys) ≡ fold (λ (spans : List ℕ) (x : Equation). spans ++ span spans x.body ∷ []) (let_spans (xs ++ e ∷ [])) ys = fold-append (λ (spans : List ℕ) (x : Equation). spans ++ span spans x.body ∷ []) [] (xs ++ e ∷ []) ys in
    let front = spans_stay (λ s. s ≤ 1000000) (let_spans (xs ++ e ∷ [])) ys (subst (AllByRecursion (λ s. s ≤ 1000000)) whole h) in
    all_here (λ s. s ≤ 1000000) (let_spans xs) (span (let_spans xs) e.body) [] (subst (AllByRecursion (λ s. s ≤ 1000000)) (let_spans_more xs e) front)

sum_front : (g : Equation → ℕ) (xs ys zs : List Equation) → sum_by g (xs ++ []) ≤ sum_by g ((xs ++ ys) ++ zs)
sum_front g xs ys zs =
    let a = ap (sum_by g) (append-nil xs) in
    let b = sum_by-append g (xs ++ ys) zs in
    let c = sum_by-append g xs ys in
    omega (arith, a, b, c)

sum_middle : (g : Equation → ℕ) (xs ys zs : List Equation) → sum_by g (xs ++ ys) ≤ sum_by g (xs ++ (ys ++ zs))
sum_middle g xs ys zs =
    let a = ap (sum_by g) (append_assoc xs ys zs) in
    let b = sum_by-append g (xs ++ ys) zs in
    omega (arith, a, b)

pub ports_are_lets : (xs : List (List ℕ)) → list_all is_port_name xs ≡ true → list_all is_let_name xs ≡ true
ports_are_lets [] h = refl
ports_are_lets (x ∷ xs) h =
    let a = and_parts (is_port_name x) (list_all is_port_name xs) h in
    rw ((and_parts (is_let_name x) (not (begins_with_underscore x)) a.0).0) (ports_are_lets xs a.1)

-- ---- the lines of a network

split_names : (xs : List Equation) (e : Equation) (ys : List Equation) → names_of (xs ++ e ∷ ys) ≡ names_of xs ++ e.name ∷ names_of ys
split_names xs e ys = map-append (λ (x : Equation). x.name) xs (e ∷ ys)

-- a let, after the lets before it
pub next_let : DecimalsAreNumbers → (n : Net) (done : List Equation) (e : Equation) (more : List Equation) → IsNetwork n → n.lets ≡ done ++ e ∷ more → IsNext (net n.inputs done []) (names_of n.lets) e
next_let decimals n done e more h q =
    let names : names_of n.lets ≡ names_of done ++ e.name ∷ names_of more = ap names_of q ∙ split_names done e more in
    let all : are_distinct (n.inputs ++ names_of n.lets) ≡ true = distinct_front (n.inputs ++ names_of n.lets) (names_of n.outputs) h.distinct in
    let split : n.inputs ++ names_of n.lets ≡ (n.inputs ++ names_of done) ++ e.name ∷ names_of more = ap (λ (x : List (List ℕ)). n.inputs ++ x) names ∙ sym (append_assoc n.inputs (names_of done) (e.name ∷ names_of more)) in
    let cut : are_distinct ((n.inputs ++ names_of done) ++ e.name ∷ names_of more) ≡ true = ap are_distinct (sym split) ∙ all in
    let z : 0 + length done ≡ length done = omega arith in
    let over : IsOver (length n.inputs) (length done) e.body = subst (λ (m : ℕ). IsOver (length n.inputs) m e.body) z (over_here (length n.inputs) 0 done e more (subst (AreLets (length n.inputs) 0) q h.lets_over)) in
    let one : n.lets ≡ (done ++ e ∷ []) ++ more = q ∙ sym (append_assoc done (e ∷ []) more) in
    let early : span (let_spans done) e.body ≤ 1000000 = span_here done e more (subst (λ (ls : List Equation). AllByRecursion (λ s. s ≤ 1000000) (let_spans ls)) one h.short_lets) in
    let few : length done ≤ length (names_of n.lets) = (let a = length-map n.lets (λ (x : Equation). x.name) in let b = ap length q in let c = length-append done (e ∷ more) in omega (arith, a, b, c)) in
    record {
      new = ap (list_any (bytes_eq e.name)) (append-nil (n.inputs ++ names_of done)) ∙ apart (n.inputs ++ names_of done) (e.name ∷ names_of more) 0 cut (omega arith);
      over = over;
      printable = printable decimals n.inputs (names_of n.lets) (length done) (let_spans done) e.body (ports_are_lets n.inputs h.input_names) h.let_names few over early;
      scope = subst (IsScope n.inputs (names_of done)) (sym names) (scope n.inputs (names_of done) (e.name ∷ names_of more) (distinct_front (n.inputs ++ names_of done) (e.name ∷ names_of more) cut));
      early = early;
      shallow = all_here (λ (x : Equation). nesting x.body ≤ 64) done e more (subst (AllByRecursion (λ (x : Equation). nesting x.body ≤ 64)) q (all_front (λ (x : Equation). nesting x.body ≤ 64) n.lets n.outputs h.shallow));
    }

-- an output, after all lets and the outputs before it
pub next_output : DecimalsAreNumbers → (n : Net) (done : List Equation) (e : Equation) (more : List Equation) → IsNetwork n → n.outputs ≡ done ++ e ∷ more → IsNext (net n.inputs n.lets done) (names_of n.lets) e
next_output decimals n done e more h q =
    let inner = n.inputs ++ names_of n.lets in
    let names : names_of n.outputs ≡ names_of done ++ e.name ∷ names_of more = ap names_of q ∙ split_names done e more in
    let split : inner ++ names_of n.outputs ≡ (inner ++ names_of done) ++ e.name ∷ names_of more = ap (λ (x : List (List ℕ)). inner ++ x) names ∙ sym (append_assoc inner (names_of done) (e.name ∷ names_of more)) in
    let cut : are_distinct ((inner ++ names_of done) ++ e.name ∷ names_of more) ≡ true = ap are_distinct (sym split) ∙ h.distinct in
    let over : IsOver (length n.inputs) (length n.lets) e.body = all_here (λ (x : Equation). IsOver (length n.inputs) (length n.lets) x.body) done e more (subst (AllByRecursion (λ (x : Equation). IsOver (length n.inputs) (length n.lets) x.body)) q h.outputs_over) in
    let spans = all_mapped (λ s. s ≤ 1000000) (λ (x : Equation). span (let_spans n.lets) x.body) n.outputs h.short_outputs in
    let early : span (let_spans n.lets) e.body ≤ 1000000 = all_here (λ (x : Equation). span (let_spans n.lets) x.body ≤ 1000000) done e more (subst (AllByRecursion (λ (x : Equation). span (let_spans n.lets) x.body ≤ 1000000)) q spans) in
    let few : length n.lets ≤ length (names_of n.lets) = (let a = length-map n.lets (λ (x : Equation). x.name) in omega (arith, a)) in
    record {
      new = apart (inner ++ names_of done) (e.name ∷ names_of more) 0 cut (omega arith);
      over = over;
      printable = printable decimals n.inputs (names_of n.lets) (length n.lets) (let_spans n.lets) e.body (ports_are_lets n.inputs h.input_names) h.let_names few over early;
      scope = subst (IsScope n.inputs (names_of n.lets)) (append-nil (names_of n.lets)) (scope n.inputs (names_of n.lets) [] (distinct_front inner (names_of n.outputs) h.distinct));
      early = early;
      shallow = all_here (λ (x : Equation). nesting x.body ≤ 64) done e more (subst (AllByRecursion (λ (x : Equation). nesting x.body ≤ 64)) q (all_behind (λ (x : Equation). nesting x.body ≤ 64) n.lets n.outputs h.shallow));
    }

-- there is not too much up to a let, nor up to an output
pub few_lets : (n : Net) (front more : List Equation) → IsNetwork n → n.lets ≡ front ++ more → has_too_many (net n.inputs front []) ≡ false
few_lets n front more h q =
    let j : joins_in (net n.inputs front []) ≤ joins_in n = subst (λ (ls : List Equation). joins_in (net n.inputs front []) ≤ sum_by (λ e. joins e.body) (ls ++ n.outputs)) (sym q) (sum_front (λ e. joins e.body) front more n.outputs) in
    let d : delays_in (net n.inputs front []) ≤ delays_in n = subst (λ (ls : List Equation). delays_in (net n.inputs front []) ≤ sum_by (λ e. delays e.body) (ls ++ n.outputs)) (sym q) (sum_front (λ e. delays e.body) front more n.outputs) in
    let a = h.few_joins in
    let b = h.few_delays in
    few (net n.inputs front []) h.few_inputs (omega arith) (omega (arith, j, a)) (omega (arith, d, b))

pub few_outputs : (n : Net) (front more : List Equation) → IsNetwork n → n.outputs ≡ front ++ more → has_too_many (net n.inputs n.lets front) ≡ false
few_outputs n front more h q =
    let j : joins_in (net n.inputs n.lets front) ≤ joins_in n = subst (λ (os : List Equation). joins_in (net n.inputs n.lets front) ≤ sum_by (λ e. joins e.body) (n.lets ++ os)) (sym q) (sum_middle (λ e. joins e.body) n.lets front more) in
    let d : delays_in (net n.inputs n.lets front) ≤ delays_in n = subst (λ (os : List Equation). delays_in (net n.inputs n.lets front) ≤ sum_by (λ e. delays e.body) (n.lets ++ os)) (sym q) (sum_middle (λ e. delays e.body) n.lets front more) in
    let a = h.few_joins in
    let b = h.few_delays in
    let c = h.few_outputs in
    let l : length front ≤ length n.outputs = (let x = ap length q in let y = length-append front more in omega (arith, x, y)) in
    few (net n.inputs n.lets front) h.few_inputs (omega (arith, c, l)) (omega (arith, j, a)) (omega (arith, d, b))

pub let_name_here : (n : Net) (done : List Equation) (e : Equation) (more : List Equation) → IsNetwork n → n.lets ≡ done ++ e ∷ more → is_let_name e.name ≡ true
let_name_here n done e more h q = name_here is_let_name (names_of done) e.name (names_of more) (ap (list_all is_let_name) (sym (ap names_of q ∙ split_names done e more)) ∙ h.let_names)

pub output_name_here : (n : Net) (done : List Equation) (e : Equation) (more : List Equation) → IsNetwork n → n.outputs ≡ done ++ e ∷ more → is_port_name e.name ≡ true
output_name_here n done e more h q = name_here is_port_name (names_of done) e.name (names_of more) (ap (list_all is_port_name) (sym (ap names_of q ∙ split_names done e more)) ∙ h.output_names)

-- ---- what all equations of a network have

-- what holds of each element of a list, wherever it is
all_from : {X : Type 0} (P : X → Type 0) (whole front behind : List X) → whole ≡ front ++ behind → ((done : List X) (x : X) (more : List X) → whole ≡ done ++ x ∷ more → P x) → AllByRecursion P behind
all_from P whole front [] q each = tt
all_from P whole front (x ∷ behind) q each = (each front x behind q, all_from P whole (front ++ x ∷ []) behind (q ∙ sym (append_assoc front (x ∷ []) behind)) each)

pub lets_have_names : DecimalsAreNumbers → (n : Net) → IsNetwork n → AllByRecursion (HasNames n.inputs (names_of n.lets)) n.lets
lets_have_names decimals n h = all_from (HasNames n.inputs (names_of n.lets)) n.lets [] n.lets refl (λ done e more q. (let_name_is e.name (let_name_here n done e more h q), (next_let decimals n done e more h q).printable))

pub outputs_have_names : DecimalsAreNumbers → (n : Net) → IsNetwork n → AllByRecursion (HasNames n.inputs (names_of n.lets)) n.outputs
outputs_have_names decimals n h = all_from (HasNames n.inputs (names_of n.lets)) n.outputs [] n.outputs refl (λ done e more q.
    (let_name_is e.name (and_parts (is_let_name e.name) (not (begins_with_underscore e.name)) (output_name_here n done e more h q)).0, (next_output decimals n done e more h q).printable))
