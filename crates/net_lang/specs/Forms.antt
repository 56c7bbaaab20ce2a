-- The forms of a line, and the words of each.
use Rattle.std.specs.Prelude.{◌≡◌, ◌≢◌, ◌≤◌, ℕ, List, [], ◌∷◌, map, codes}
use Rattle.rl_text.specs.Lines.{Word}
use Rattle.net_model.specs.Limits.{most_nesting}
use Rattle.net_lang.specs.declared.reader.rules.Target.{Target}
use Rattle.net_lang.specs.declared.reader.rules.Target.TheVariants as target
use Rattle.rl_text.specs.Writing.{name, number, sign}
use Rattle.net_lang.specs.Grammar.{Expression, spelled, IsWritten, written_nesting}

pub data Form : Type 0 where
  Header : Form
  Inputs : List (List ℕ) → Form
  Define : Target → List ℕ → Expression → Form

-- the word that a let or an output begins with
abbrev pub target_word : Target → List ℕ
target_word target.Let = codes "let"
target_word target.Output = codes "output"

abbrev pub spelled_form : Form → List Word
spelled_form Header = name (codes "racenet") ∷ number (codes "1") ∷ []
spelled_form (Inputs ns) = name (codes "input") ∷ map name ns
spelled_form (Define k n t) = name (target_word k) ∷ name n ∷ sign (codes "=") ∷ spelled t

abbrev pub IsFormed : Form → Type 0
IsFormed Header = Unit {0}
IsFormed (Inputs ns) = ns ≢ []
IsFormed (Define k n t) = IsWritten t × (written_nesting t ≤ most_nesting)

-- the words of a line are this form
pub record IsLine (ws : List Word) (f : Form) : Type 0 where
  pub words : ws ≡ spelled_form f
  pub formed : IsFormed f
