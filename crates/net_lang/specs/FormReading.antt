-- The form of a line, read from left to right. That what is read is what is spelled so, is a law.
use Rattle.std.specs.Prelude.{ℕ, Bool, true, false, ◌&&◌, if◌then◌else◌, List, [], ◌∷◌, Option, Some, None, codes}
use Rattle.std.specs.Str.{bytes_eq}
use Rattle.rl_text.specs.declared.token.Kind.{Kind}
use Rattle.rl_text.specs.declared.token.Kind.TheVariants as kind
use Rattle.rl_text.specs.Lines.{Word}
use Rattle.net_model.specs.Limits.{most_nesting}
use Rattle.net_lang.specs.declared.reader.rules.Target.TheVariants as target
use Rattle.net_lang.specs.Grammar.{Expression}
use Rattle.net_lang.specs.Reading.{◌>>=◌, is_number, after_sign, expr_at}
use Rattle.net_lang.specs.Forms.{Form, Header, Inputs, Define}

abbrev pub is_name : Kind → Bool
is_name kind.Name = true
is_name _ = false

-- the bytes of words that are all names
unfoldable pub names_at : List Word → Option (List (List ℕ))
names_at [] = Some []
names_at (w ∷ ws) = if is_name w.kind then (names_at ws >>= λ ns. Some (w.bytes ∷ ns)) else None

unfoldable pub name_at : List Word → Option (List ℕ × List Word)
name_at [] = None
name_at (w ∷ ws) = if is_name w.kind then Some (w.bytes, ws) else None

-- the words are no more
abbrev pub ended : {A : Type 0} → A → List Word → Option A
ended x [] = Some x
ended x (w ∷ ws) = None

unfoldable pub binding_at : List Word → Option (List ℕ × Expression)
binding_at ws = do
  n ← name_at ws
  e ← after_sign (codes "=") n.1
  t ← expr_at most_nesting e
  ended (n.0, t.0) t.1

abbrev pub is_one : List Word → Bool
is_one [] = false
is_one (w ∷ []) = is_number w.kind && bytes_eq w.bytes (codes "1")
is_one (w ∷ v ∷ ws) = false

abbrev pub nonempty : List (List ℕ) → Option Form
nonempty [] = None
nonempty (n ∷ ns) = Some (Inputs (n ∷ ns))

abbrev pub by_word : List ℕ → List Word → Option Form
by_word t ws =
    if bytes_eq t (codes "racenet") then (if is_one ws then Some Header else None)
    else (if bytes_eq t (codes "input") then names_at ws >>= nonempty
    else (if bytes_eq t (codes "let") then binding_at ws >>= (λ b. Some (Define target.Let b.0 b.1))
    else (if bytes_eq t (codes "output") then binding_at ws >>= (λ b. Some (Define target.Output b.0 b.1))
    else None)))

unfoldable pub form_at : List Word → Option Form
form_at [] = None
form_at (w ∷ ws) = if is_name w.kind then by_word w.bytes ws else None
