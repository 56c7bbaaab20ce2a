-- Inputs declared one after the other, as a loop takes them.
use Rattle.std.proofs.Common.{◌≡◌, ◌≢◌, ℕ, ◌+◌, ◌≤◌, ◌<◌, Bool, true, false, cond, not, ◌||◌, ltb, List, [], ◌∷◌, ◌++◌, length, map, drop, get_or, Option, Some, None, refl, sym, ap, subst, ◌∙◌}
use denote.Bor.{Bor}
use Rattle.net_lang.specs.declared.reader.scope.Known.{Known}
use Rattle.std.specs.Prelude.{is_some}
use Rattle.std.specs.List.{list_any, list_all}
use Rattle.std.specs.Str.{bytes_eq}
use Rattle.std.proofs.lemmas.List.{append-nil, append_assoc, drop_more, drop_all}
use Rattle.std.proofs.lemmas.List.Folds.{list_all-map}
use Rattle.std.proofs.lemmas.Bool.{le-ltb, lt-ltb}
use Rattle.rl_text.specs.declared.name_map.NameMap.{NameMap}
use Rattle.net_lang.specs.declared.reader.scope.Place.TheVariants as place
use Rattle.net_lang.specs.declared.reader.draft.Draft as kept
use Rattle.net_lang.specs.declared.reader.rules.Rule.TheVariants as rule
use Rattle.net_lang.specs.declared.reader.rules.Stage.TheVariants as stage
use Rattle.net_model.specs.Formula.{Net, net}
use Rattle.net_model.specs.Rules.{is_port_name, declared_names, names_of}
use Rattle.net_lang.specs.Forms.{Form, Inputs}
use Rattle.net_lang.specs.LineRules.{allows, after, extended, some_twice, has_bad_name, has_doubled_name, has_too_many, joins_in, delays_in, first_rule}
use Rattle.rl_text.specs.NameMap.{find, AddsName}
use Rattle.net_lang.specs.Known.{known, known_in}
use Rattle.net_lang.specs.Draft.{net_of, so_far, IsPart, IsDraft, Adds, KnowsInputs, Declares}
use Rattle.net_lang.proofs.Knowing.{known_declared, known_input}
use Rattle.net_lang.proofs.Partial.{parts_inputs, part_after}

-- of the names that are to be declared after `old`, some are declared and some are left
pub record Declaring (scope : NameMap Known) (old all inputs left : List (List ℕ)) : Type 0 where
  pub known : KnowsInputs scope inputs
  pub twice : some_twice inputs left ≡ some_twice old all
  pub whole : inputs ++ left ≡ old ++ all

pub begins : (s : NameMap Known) (inputs all : List (List ℕ)) → KnowsInputs s inputs → Declaring s inputs all inputs all
begins s inputs all k = record { known = k; twice = refl; whole = refl }

found_is : (s : NameMap Known) (inputs : List (List ℕ)) (x : List ℕ) → KnowsInputs s inputs → is_some (find s x) ≡ list_any (bytes_eq x) inputs
found_is s inputs x k =
    ap is_some (k x) ∙ known_declared (net inputs [] []) x ∙ ap (list_any (bytes_eq x)) (append-nil (inputs ++ []) ∙ append-nil inputs)

pub goes_on : (s new : NameMap Known) (old all inputs left more : List (List ℕ)) (x : List ℕ) → Declaring s old all inputs (x ∷ left) → is_some (find s x) ≡ false
    → AddsName s new x (known (place.Input (length inputs)) 0) → more ≡ inputs ++ x ∷ [] → Declaring new old all more left
goes_on s new old all inputs left more x d f a m =
    let none : list_any (bytes_eq x) inputs ≡ false = sym (found_is s inputs x d.known) ∙ f in
    let step : some_twice (inputs ++ x ∷ []) left ≡ some_twice inputs (x ∷ left) = sym (rw none refl) in
    rw m (record {
      known = λ u. a u ∙ ap (λ o. cond (bytes_eq x u) (Some (known (place.Input (length inputs)) 0)) o) (d.known u) ∙ known_input inputs x none u;
      twice = step ∙ d.twice;
      whole = append_assoc inputs (x ∷ []) left ∙ d.whole;
    })

pub stops : (s : NameMap Known) (old all inputs left : List (List ℕ)) (x : List ℕ) → Declaring s old all inputs (x ∷ left) → is_some (find s x) ≡ true → some_twice old all ≡ true
stops s old all inputs left x d f =
    let here : list_any (bytes_eq x) inputs ≡ true = sym (found_is s inputs x d.known) ∙ f in
    sym d.twice ∙ ap (λ (b : Bool). b || some_twice (inputs ++ x ∷ []) left) here

pub ends : (s : NameMap Known) (old all inputs left : List (List ℕ)) → left ≡ [] → Declaring s old all inputs left → Declares old all s inputs true
ends s old all inputs left e d =
    let n : some_twice inputs left ≡ false = ap (some_twice inputs) e in
    (sym d.twice ∙ n, sym (append-nil inputs) ∙ ap (λ (l : List (List ℕ)). inputs ++ l) (sym e) ∙ d.whole, d.known)

-- ---- a turn of the loop

abbrev pub all_now : List (Bor (List ℕ)) → List (List ℕ)
all_now names = map (λ n. n.now) names

names_from : (names : List (Bor (List ℕ))) (i : ℕ) (d : Bor (List ℕ)) → i < length names → all_now (drop i names) ≡ (get_or names i d).now ∷ all_now (drop (i + 1) names)
names_from names i d lt = ap all_now (drop_more names i d lt)

module _ (s : NameMap Known) (old inputs : List (List ℕ)) (names : List (Bor (List ℕ))) (i : ℕ) (d : Bor (List ℕ)) (lt : i < length names) (h : Declaring s old (all_now names) inputs (all_now (drop i names))) where
  at_name : Declaring s old (all_now names) inputs ((get_or names i d).now ∷ all_now (drop (i + 1) names))
  at_name = subst (Declaring s old (all_now names) inputs) (names_from names i d lt) h

  pub turn : (new : NameMap Known) (more : List (List ℕ)) (at : ℕ) (o : Option Known) (test : Bool) → o ≡ find s (get_or names i d).now → test ≡ is_some o → test ≡ false → at ≡ length inputs
      → AddsName s new (get_or names i d).now (known (place.Input at) 0) → more ≡ inputs ++ (get_or names i d).now ∷ [] → Declaring new old (all_now names) more (all_now (drop (i + 1) names))
  turn new more at o test e f g a adds m =
      goes_on s new old (all_now names) inputs (all_now (drop (i + 1) names)) more (get_or names i d).now at_name (ap is_some (sym e) ∙ sym f ∙ g)
      (subst (λ (k : ℕ). AddsName s new (get_or names i d).now (known (place.Input k) 0)) a adds) m

  pub found : (o : Option Known) (test : Bool) → o ≡ find s (get_or names i d).now → test ≡ is_some o → test ≡ true → some_twice old (all_now names) ≡ true
  found o test e f g = stops s old (all_now names) inputs (all_now (drop (i + 1) names)) (get_or names i d).now at_name (ap is_some (sym e) ∙ sym f ∙ g)

pub all_done : (s : NameMap Known) (old inputs : List (List ℕ)) (names : List (Bor (List ℕ))) (i : ℕ) → length names ≤ i → Declaring s old (all_now names) inputs (all_now (drop i names)) → Declares old (all_now names) s inputs true
all_done s old inputs names i h d = ends s old (all_now names) inputs (all_now (drop i names)) (ap all_now (drop_all i names h)) d

-- ---- the rules of a line of inputs

pub name_broken : (n : Net) (f : Form) → has_bad_name f ≡ true → first_rule n f ≡ Some rule.Name
unfolding first_rule
name_broken n f h = rw h refl

doubled_broken : (n : Net) (f : Form) → has_bad_name f ≡ false → has_doubled_name n f ≡ true → first_rule n f ≡ Some rule.Doubled
unfolding first_rule
doubled_broken n f h g = rw (h, g) refl

count_broken : (n : Net) (names : List (List ℕ)) → has_bad_name (Inputs names) ≡ false → has_doubled_name n (Inputs names) ≡ false → has_too_many (extended n (Inputs names)) ≡ true → first_rule n (Inputs names) ≡ Some rule.Count
unfolding first_rule
count_broken n names h g k = rw (h, g, k) refl

inputs_keep : (n : Net) (names : List (List ℕ)) → has_bad_name (Inputs names) ≡ false → has_doubled_name n (Inputs names) ≡ false → has_too_many (extended n (Inputs names)) ≡ false → first_rule n (Inputs names) ≡ None
unfolding first_rule
inputs_keep n names h g k = rw (h, g, k) refl

only_inputs : (n : Net) → n.lets ≡ [] → n.outputs ≡ [] → declared_names n ≡ n.inputs
only_inputs n l o = (λ i. n.inputs ++ names_of (l i) ++ names_of (o i)) ∙ append-nil (n.inputs ++ []) ∙ append-nil n.inputs

module _ (d : kept.Draft) (names : List (List ℕ)) (h : IsDraft d) (a : allows d.stage (Inputs names) ≡ true) where
  pub knows_inputs : KnowsInputs d.scope d.inputs.items
  knows_inputs = let p = parts_inputs d.stage (net_of d) names a h.part.parts in λ t. h.names t ∙ (λ i. known_in (net d.inputs.items (p.0 i) (p.1 i)) t)

  doubled_is : has_doubled_name (net_of d) (Inputs names) ≡ some_twice d.inputs.items names
  doubled_is = let p = parts_inputs d.stage (net_of d) names a h.part.parts in ap (λ (xs : List (List ℕ)). some_twice xs names) (only_inputs (net_of d) p.0 p.1)

  pub twice_broken : has_bad_name (Inputs names) ≡ false → some_twice d.inputs.items names ≡ true → first_rule (net_of d) (Inputs names) ≡ Some rule.Doubled
  twice_broken g t = doubled_broken (net_of d) (Inputs names) g (doubled_is ∙ t)

  many_is : (count : ℕ) → count ≡ length (d.inputs.items ++ names) → has_too_many (extended (net_of d) (Inputs names)) ≡ ltb 64 count
  many_is count c =
      let o : ltb 64 (length d.outputs.items) ≡ false = le-ltb 64 _ h.part.sound.few_outputs in
      let j : ltb 16384 (joins_in (net_of d)) ≡ false = le-ltb 16384 _ h.part.sound.few_joins in
      let k : ltb 16384 (delays_in (net_of d)) ≡ false = le-ltb 16384 _ h.part.sound.few_delays in
      (λ i. ltb 64 (sym c i) || o i || j i || k i) ∙ flat (ltb 64 count) where
        flat : (b : Bool) → (b || false || false || false) ≡ b
        flat true = refl
        flat false = refl

  pub many_broken : (count : ℕ) → has_bad_name (Inputs names) ≡ false → some_twice d.inputs.items names ≡ false → count ≡ length (d.inputs.items ++ names) → 64 < count → first_rule (net_of d) (Inputs names) ≡ Some rule.Count
  many_broken count g t c lt = count_broken (net_of d) names g (doubled_is ∙ t) (many_is count c ∙ lt-ltb 64 count lt)

  pub inputs_kept : (new : kept.Draft) (count : ℕ) → has_bad_name (Inputs names) ≡ false → some_twice d.inputs.items names ≡ false → count ≡ length (d.inputs.items ++ names) → count ≤ 64 → names ≢ []
      → KnowsInputs new.scope new.inputs.items → new.stage ≡ stage.Inputs → new.inputs.items ≡ d.inputs.items ++ names → new.lets.items ≡ d.lets.items → new.outputs.items ≡ d.outputs.items
      → new.joins ≡ d.joins → new.delays ≡ d.delays → (first_rule (net_of d) (Inputs names) ≡ None) × Adds d (Inputs names) new
  inputs_kept new count g t c le some known last ins lets outs js ds =
      let n = net_of d in
      let f = Inputs names in
      let rule_kept : first_rule n f ≡ None = inputs_keep n names g (doubled_is ∙ t) (many_is count c ∙ le-ltb 64 count le) in
      let p = parts_inputs d.stage n names a h.part.parts in
      let same : net_of new ≡ extended n f = λ i. net (ins i) (lets i) (outs i) in
      let now : so_far new ≡ after (so_far d) f = λ i. record { stage = last i; net = same i } in (
        rule_kept,
        record {
          now = now;
          draft = record {
            names = λ u. known u ∙ (λ i. known_in (net new.inputs.items (sym (lets ∙ p.0) i) (sym (outs ∙ p.1) i)) u);
            joins = js ∙ h.joins ∙ ap joins_in (sym same);
            delays = ds ∙ h.delays ∙ ap delays_in (sym same);
            part = subst IsPart (sym now) (part_after (so_far d) f h.part a rule_kept some);
          };
        },
      )

pub not_fresh : (old all new : List (List ℕ)) (s : NameMap Known) (b : Bool) → b ≡ false → Declares old all s new b → some_twice old all ≡ true
not_fresh old all new s b e d = subst (Declares old all s new) e d

pub fresh : (old all new : List (List ℕ)) (s : NameMap Known) (b : Bool) → b ≡ true → Declares old all s new b → Declares old all s new true
fresh old all new s b e d = subst (Declares old all s new) e d

-- a test of the names as they are held
pub good_names : (names : List (Bor (List ℕ))) (b g : Bool) → b ≡ list_all (λ n. is_port_name n.now) names → b ≡ g → has_bad_name (Inputs (all_now names)) ≡ not g
good_names names b g e f = ap not (list_all-map is_port_name (λ n. n.now) names ∙ sym e ∙ f)
