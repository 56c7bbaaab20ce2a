-- The printing of a network spells it.
use Rattle.std.proofs.Common.{◌≡◌, ◌≢◌, ℕ, ◌≤◌, Bool, true, false, not, List, [], ◌∷◌, ◌++◌, length, map, None, refl, sym, ap, subst, ◌∙◌, append_assoc, arith}
use Rattle.std.specs.List.{list_any, list_all}
use Rattle.std.specs.Str.{bytes_eq}
use Rattle.std.proofs.lemmas.Bool.{and_parts, and_from}
use Rattle.std.proofs.lemmas.List.{append-nil}
use Rattle.rl_text.specs.Names.{is_name}
use Rattle.rl_text.specs.Lines.{Word}
use Rattle.rl_text.specs.Writing.{Writes}
use Rattle.rl_text.specs.Laws.{DecimalsAreNumbers}
use Rattle.line_lang.specs.Printing.{IsOneLine, words_on, AllKeep}
use Rattle.net_lang.specs.declared.reader.rules.Stage.{Stage}
use Rattle.net_lang.specs.declared.reader.rules.Stage.TheVariants as stage
use Rattle.net_lang.specs.declared.reader.rules.Target.TheVariants as target
use Rattle.net_model.specs.Formula.{Equation, Net, net}
use Rattle.net_model.specs.Rules.{is_let_name, are_distinct, names_of, IsNetwork}
use Rattle.net_lang.specs.Forms.{Form, Header, Inputs, spelled_form}
use Rattle.net_lang.specs.LineRules.{SoFar, nothing_yet, allows, first_rule, some_twice}
use Rattle.net_lang.specs.Spelling.{networks, may_end, SpellsNetwork}
use Rattle.net_model.specs.Text.{network_text}
use Rattle.net_lang.proofs.PrintedWords.{defining, forms, let_name_is, writes_network}
use Rattle.net_lang.proofs.PrintedLines.{one_line}
use Rattle.net_lang.proofs.PrintedNames.{distinct_front, apart}
use Rattle.net_lang.proofs.PrintedRules.{kept, few, is_formed, extends, line_kept, next_let, next_output, few_lets, few_outputs, let_name_here, output_name_here, lets_have_names, outputs_have_names, ports_are_lets}

-- ---- the first two lines

-- distinct names occur nowhere twice
once : (xs ys : List (List ℕ)) → are_distinct (xs ++ ys) ≡ true → some_twice xs ys ≡ false
once xs [] d = refl
once xs (y ∷ ys) d =
    let here : list_any (bytes_eq y) xs ≡ false = apart xs (y ∷ ys) 0 d (omega arith) in
    let rest : are_distinct ((xs ++ y ∷ []) ++ ys) ≡ true = ap are_distinct (append_assoc xs (y ∷ []) ys) ∙ d in
    rw here (once (xs ++ y ∷ []) ys rest)

header_kept : first_rule (net [] [] []) Header ≡ None
unfolding first_rule
header_kept = refl

inputs_distinct : (n : Net) → IsNetwork n → are_distinct n.inputs ≡ true
inputs_distinct n h = distinct_front n.inputs (names_of n.lets) (distinct_front (n.inputs ++ names_of n.lets) (names_of n.outputs) h.distinct)

inputs_kept : (n : Net) → IsNetwork n → first_rule (net [] [] []) (Inputs n.inputs) ≡ None
inputs_kept n h = kept (net [] [] []) (Inputs n.inputs) (record {
  good = ap not h.input_names;
  new = once [] n.inputs (inputs_distinct n h);
  known = refl;
  few = few (net n.inputs [] []) h.few_inputs (omega arith) (omega arith) (omega arith);
  early = refl;
})

some_inputs : (xs : List (List ℕ)) → 1 ≤ length xs → xs ≢ []
some_inputs [] h e = absurd (omega (arith, h))
some_inputs (x ∷ xs) h e = cc

-- ---- lets and outputs

is_open : Stage → Bool
is_open stage.Inputs = true
is_open stage.Lets = true
is_open _ = false

takes_let : (s : Stage) (x : Equation) (inputs lets : List (List ℕ)) → is_open s ≡ true → allows s (defining target.Let inputs lets x) ≡ true
unfolding is_open
takes_let stage.Start x inputs lets h = absurd cc
takes_let stage.Header x inputs lets h = absurd cc
takes_let stage.Inputs x inputs lets h = refl
takes_let stage.Lets x inputs lets h = refl
takes_let stage.Outputs x inputs lets h = absurd cc

may_output : Stage → Bool
may_output stage.Outputs = true
may_output s = is_open s

takes_output : (s : Stage) (x : Equation) (inputs lets : List (List ℕ)) → may_output s ≡ true → allows s (defining target.Output inputs lets x) ≡ true
unfolding may_output is_open
takes_output stage.Start x inputs lets h = absurd cc
takes_output stage.Header x inputs lets h = absurd cc
takes_output stage.Inputs x inputs lets h = refl
takes_output stage.Lets x inputs lets h = refl
takes_output stage.Outputs x inputs lets h = refl

open_may_output : (s : Stage) → is_open s ≡ true → may_output s ≡ true
unfolding may_output is_open
open_may_output stage.Start h = absurd cc
open_may_output stage.Header h = absurd cc
open_may_output stage.Inputs h = refl
open_may_output stage.Lets h = refl
open_may_output stage.Outputs h = absurd cc

abbrev place : Stage → Net → SoFar
place s m = record { stage = s; net = m }

-- the outputs, after all lets
outputs_keep : DecimalsAreNumbers → (n : Net) (h : IsNetwork n) (done os : List Equation) (s : Stage) → may_output s ≡ true → n.outputs ≡ done ++ os → (os ≡ [] → s ≡ stage.Outputs)
    → AllKeep networks spelled_form (place s (net n.inputs n.lets done)) (map (defining target.Output n.inputs (names_of n.lets)) os) (place stage.Outputs n)
unfolding may_output is_open
outputs_keep decimals n h done [] s may q end = λ i. place (end refl i) (net n.inputs n.lets ((sym (append-nil done) ∙ sym q) i))
outputs_keep decimals n h done (e ∷ os) s may q end =
    let m = net n.inputs n.lets done in
    let next = next_output decimals n done e os h q in
    let more : n.outputs ≡ (done ++ e ∷ []) ++ os = q ∙ sym (append_assoc done (e ∷ []) os) in
    let rule = line_kept target.Output m (names_of n.lets) e next (output_name_here n done e os h q) (few_outputs n (done ++ e ∷ []) os h more) in (
      record { words = refl; formed = is_formed m (names_of n.lets) e next },
      takes_output s e n.inputs (names_of n.lets) may,
      rule,
      subst (λ (x : Net). AllKeep networks spelled_form (place stage.Outputs x) (map (defining target.Output n.inputs (names_of n.lets)) os) (place stage.Outputs n)) (sym (extends target.Output m (names_of n.lets) e next))
          (outputs_keep decimals n h (done ++ e ∷ []) os stage.Outputs refl more (λ _. refl)),
    )

some_outputs : (xs : List Equation) → 1 ≤ length xs → xs ≡ [] → (s : Stage) → s ≡ stage.Outputs
some_outputs [] h e s = absurd (omega (arith, h))
some_outputs (x ∷ xs) h e s = absurd cc

-- the lets, and the outputs after them
lets_keep : DecimalsAreNumbers → (n : Net) (h : IsNetwork n) (done ls : List Equation) (s : Stage) → is_open s ≡ true → n.lets ≡ done ++ ls
    → AllKeep networks spelled_form (place s (net n.inputs done [])) (map (defining target.Let n.inputs (names_of n.lets)) ls ++ map (defining target.Output n.inputs (names_of n.lets)) n.outputs) (place stage.Outputs n)
unfolding is_open
lets_keep decimals n h done [] s o q =
    subst (λ (ls : List Equation). AllKeep networks spelled_form (place s (net n.inputs ls [])) (map (defining target.Output n.inputs (names_of n.lets)) n.outputs) (place stage.Outputs n)) (q ∙ append-nil done)
    (outputs_keep decimals n h [] n.outputs s (open_may_output s o) refl (λ none. some_outputs n.outputs h.some_output none s))
lets_keep decimals n h done (e ∷ ls) s o q =
    let m = net n.inputs done [] in
    let next = next_let decimals n done e ls h q in
    let more : n.lets ≡ (done ++ e ∷ []) ++ ls = q ∙ sym (append_assoc done (e ∷ []) ls) in
    let rule = line_kept target.Let m (names_of n.lets) e next (let_name_here n done e ls h q) (few_lets n (done ++ e ∷ []) ls h more) in (
      record { words = refl; formed = is_formed m (names_of n.lets) e next },
      takes_let s e n.inputs (names_of n.lets) o,
      rule,
      subst (λ (x : Net). AllKeep networks spelled_form (place stage.Lets x) (map (defining target.Let n.inputs (names_of n.lets)) ls ++ map (defining target.Output n.inputs (names_of n.lets)) n.outputs) (place stage.Outputs n)) (sym (extends target.Let m (names_of n.lets) e next))
          (lets_keep decimals n h (done ++ e ∷ []) ls stage.Lets refl more),
    )

all_keep : DecimalsAreNumbers → (n : Net) → IsNetwork n → AllKeep networks spelled_form nothing_yet (forms n) (place stage.Outputs n)
unfolding is_open
all_keep decimals n h = (record { words = refl; formed = tt }, refl, header_kept, (record { words = refl; formed = some_inputs n.inputs h.some_input }, refl, inputs_kept n h, lets_keep decimals n h [] n.lets stage.Inputs refl refl))

-- ---- the whole text

names_are : (xs : List (List ℕ)) → list_all is_let_name xs ≡ true → list_all is_name xs ≡ true
names_are [] h = refl
names_are (x ∷ xs) h = let a = and_parts (is_let_name x) (list_all is_let_name xs) h in and_from (is_name x) (list_all is_name xs) (let_name_is x a.0) (names_are xs a.1)

writes : DecimalsAreNumbers → (n : Net) → IsNetwork n → Writes (network_text n) (words_on spelled_form (forms n))
writes decimals n h = writes_network n (names_are n.inputs (ports_are_lets n.inputs h.input_names)) (lets_have_names decimals n h) (outputs_have_names decimals n h)

-- what is written with the lines of forms that break no rule spells what they are
pub printed : ((spelled : Form → List Word) → ((x : Form) → IsOneLine (spelled x)) → (text : List ℕ) (xs : List Form) (last : SoFar) → Writes text (words_on spelled xs) → AllKeep networks spelled nothing_yet xs last
    → may_end last.stage ≡ true → SpellsNetwork text last.net) → DecimalsAreNumbers → (n : Net) → IsNetwork n → SpellsNetwork (network_text n) n
printed spell decimals n h = spell spelled_form one_line (network_text n) (forms n) (place stage.Outputs n) (writes decimals n h) (all_keep decimals n h) refl
