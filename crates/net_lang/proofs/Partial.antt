-- Some lines that break no rule begin the lists of a network that keeps the rules.
use Rattle.std.proofs.Common.{◌≡◌, ◌≢◌, ℕ, ◌≤◌, true, List, [], ◌∷◌, length, None, refl, sym, subst, arith}
use Rattle.std.proofs.lemmas.List.{length-append}
use Rattle.rl_text.specs.Lines.{Line, lines}
use Rattle.line_lang.specs.Spelling.{AllFit}
use Rattle.net_lang.specs.declared.reader.rules.Stage.{Stage}
use Rattle.net_lang.specs.declared.reader.rules.Stage.TheVariants as stage
use Rattle.net_lang.specs.declared.reader.rules.Target.TheVariants as target
use Rattle.net_model.specs.Formula.{Net}
use Rattle.net_model.specs.Rules.{IsNetwork}
use Rattle.net_lang.specs.Grammar.{Expression}
use Rattle.net_lang.specs.Forms.{Form, Header, Inputs, Define, IsFormed}
use Rattle.net_lang.specs.LineRules.{SoFar, nothing_yet, allows, after, equation, first_rule}
use Rattle.net_lang.specs.Spelling.{networks, may_end, SpellsNetwork}
use Rattle.net_lang.specs.Draft.{HasParts, IsPart}
use Rattle.net_lang.proofs.Sound.{keeps, sound_let, sound_output, sound_inputs}

-- ---- the lists

parts_header : (s : Stage) (n : Net) → allows s Header ≡ true → HasParts s n → HasParts stage.Header n
parts_header stage.Start n a h = h
parts_header stage.Header n a h = absurd cc
parts_header stage.Inputs n a h = absurd cc
parts_header stage.Lets n a h = absurd cc
parts_header stage.Outputs n a h = absurd cc

parts_let : (s : Stage) (n : Net) (name : List ℕ) (t : Expression) → allows s (Define target.Let name t) ≡ true → HasParts s n → (1 ≤ length n.inputs) × (n.outputs ≡ [])
parts_let stage.Start n name t a h = absurd cc
parts_let stage.Header n name t a h = absurd cc
parts_let stage.Inputs n name t a h = (h.0, h.2)
parts_let stage.Lets n name t a h = h
parts_let stage.Outputs n name t a h = absurd cc

parts_output : (s : Stage) (n : Net) (name : List ℕ) (t : Expression) → allows s (Define target.Output name t) ≡ true → HasParts s n → 1 ≤ length n.inputs
parts_output stage.Start n name t a h = absurd cc
parts_output stage.Header n name t a h = absurd cc
parts_output stage.Inputs n name t a h = h.0
parts_output stage.Lets n name t a h = h.0
parts_output stage.Outputs n name t a h = h.0

pub parts_inputs : (s : Stage) (n : Net) (names : List (List ℕ)) → allows s (Inputs names) ≡ true → HasParts s n → (n.lets ≡ []) × (n.outputs ≡ [])
parts_inputs stage.Start n names a h = absurd cc
parts_inputs stage.Header n names a h = (h.1, h.2)
parts_inputs stage.Inputs n names a h = (h.1, h.2)
parts_inputs stage.Lets n names a h = absurd cc
parts_inputs stage.Outputs n names a h = absurd cc

parts_end : (s : Stage) (n : Net) → may_end s ≡ true → HasParts s n → (1 ≤ length n.inputs) × (1 ≤ length n.outputs)
parts_end stage.Start n e h = absurd cc
parts_end stage.Header n e h = absurd cc
parts_end stage.Inputs n e h = absurd cc
parts_end stage.Lets n e h = absurd cc
parts_end stage.Outputs n e h = h

some_length : (xs : List (List ℕ)) → xs ≢ [] → 1 ≤ length xs
some_length [] h = absurd (h refl)
some_length (x ∷ xs) h = omega arith

-- ---- a line more

pub part_after : (s : SoFar) (f : Form) → IsPart s → allows s.stage f ≡ true → first_rule s.net f ≡ None → IsFormed f → IsPart (after s f)
part_after s Header p a e w = record { parts = parts_header s.stage s.net a p.parts; sound = p.sound }
part_after s (Inputs names) p a e w =
    let q = parts_inputs s.stage s.net names a p.parts in
    let some = some_length names w in
    let l = length-append s.net.inputs names in
    record { parts = (omega (arith, some, l), q.0, q.1); sound = sound_inputs s.net names p.sound q.0 q.1 (keeps s.net (Inputs names) e) }
part_after s (Define target.Let name t) p a e w =
    let q = parts_let s.stage s.net name t a p.parts in
    record { parts = q; sound = sound_let s.net name t p.sound q.1 (keeps s.net (Define target.Let name t) e) w.1 }
part_after s (Define target.Output name t) p a e w =
    let l = length-append s.net.outputs (equation s.net name t ∷ []) in
    record { parts = (parts_output s.stage s.net name t a p.parts, omega (arith, l)); sound = sound_output s.net name t p.sound (keeps s.net (Define target.Output name t) e) w.1 }

-- ---- all lines

pub no_part : IsPart nothing_yet
no_part = record {
  parts = (refl, refl, refl);
  sound = record {
    few_inputs = omega arith;
    few_outputs = omega arith;
    input_names = refl;
    let_names = refl;
    output_names = refl;
    distinct = refl;
    lets_over = tt;
    outputs_over = tt;
    few_joins = omega arith;
    few_delays = omega arith;
    shallow = tt;
    short_lets = tt;
    short_outputs = tt;
  };
}

all_parts : (s last : SoFar) (ls : List Line) → IsPart s → AllFit networks s ls last → IsPart last
all_parts s last [] p a = subst IsPart a p
all_parts s last (l ∷ ls) p a = all_parts (after s a.0) last ls (part_after s a.0 p a.1.allowed a.1.keeps a.1.line.formed) a.2

pub is_network : (s : SoFar) → may_end s.stage ≡ true → IsPart s → IsNetwork s.net
is_network s e p =
    let q = parts_end s.stage s.net e p.parts in
    let h = p.sound in
    record {
      some_input = q.0;
      few_inputs = h.few_inputs;
      some_output = q.1;
      few_outputs = h.few_outputs;
      input_names = h.input_names;
      let_names = h.let_names;
      output_names = h.output_names;
      distinct = h.distinct;
      lets_over = h.lets_over;
      outputs_over = h.outputs_over;
      few_joins = h.few_joins;
      few_delays = h.few_delays;
      shallow = h.shallow;
      short_lets = h.short_lets;
      short_outputs = h.short_outputs;
    }

-- what a text spells is a network
pub spelled : (text : List ℕ) (n : Net) → SpellsNetwork text n → IsNetwork n
spelled text n s = subst IsNetwork (sym s.is) (is_network s.last s.ends (all_parts nothing_yet s.last (lines text s.tokens) no_part s.fit))
