-- Expressions, read from left to right. That what is read is what is spelled so, is a law.
use Rattle.std.specs.Prelude.{ℕ, zero, suc, Bool, true, false, ◌&&◌, if◌then◌else◌, List, [], ◌∷◌, Option, Some, None, codes}
use Rattle.std.specs.Str.{bytes_eq}
use Rattle.rl_text.specs.declared.token.Kind.{Kind}
use Rattle.rl_text.specs.declared.token.Kind.TheVariants as kind
use Rattle.rl_text.specs.Lines.{Word}
use Rattle.net_lang.specs.declared.reader.word.Key.{Key}
use Rattle.net_lang.specs.declared.reader.word.Key.TheVariants as key
use Rattle.net_lang.specs.Grammar.{Expression, Never, Name, Min, Max, Lt, Inc}
use Rattle.rl_text.specs.Numbers.{is_plain}

-- what a word is in an expression
unfoldable pub keyword : List ℕ → Key
keyword t =
    if bytes_eq t (codes "never") then key.Never
    else (if bytes_eq t (codes "min") then key.Min
    else (if bytes_eq t (codes "max") then key.Max
    else (if bytes_eq t (codes "lt") then key.Lt
    else (if bytes_eq t (codes "inc") then key.Inc
    else key.Plain))))

abbrev pub key_at : Kind → List ℕ → Key
key_at kind.Name t = keyword t
key_at _ t = key.NoName

unfoldable pub key_of : Word → Key
key_of w = key_at w.kind w.bytes

-- a value and the words after it
abbrev pub Read : Type 0 → Type 0
Read A = Option (A × List Word)

infixl 10 ◌>>=◌
abbrev pub ◌>>=◌ : {A B : Type 0} → Option A → (A → Option B) → Option B
(Some x) >>= f = f x
None >>= f = None

abbrev pub is_symbol : Kind → Bool
is_symbol kind.Symbol = true
is_symbol _ = false

abbrev pub is_number : Kind → Bool
is_number kind.Number = true
is_number _ = false

unfoldable pub after_sign : List ℕ → List Word → Option (List Word)
after_sign t [] = None
after_sign t (w ∷ ws) = if is_symbol w.kind && bytes_eq w.bytes t then Some ws else None

unfoldable pub constant : List Word → Read (List ℕ)
constant [] = None
constant (w ∷ ws) = if is_number w.kind && is_plain w.bytes then Some (w.bytes, ws) else None

unfoldable pub pair : (List Word → Read Expression) → List Word → Option (Expression × Expression × List Word)
pair inner ws = do
  o ← after_sign (codes "(") ws
  a ← inner o
  c ← after_sign (codes ",") a.1
  b ← inner c
  e ← after_sign (codes ")") b.1
  Some (a.0, b.0, e)

unfoldable pub delay : (List Word → Read Expression) → List Word → Option (Expression × List ℕ × List Word)
delay inner ws = do
  o ← after_sign (codes "(") ws
  a ← inner o
  c ← after_sign (codes ",") a.1
  n ← constant c
  e ← after_sign (codes ")") n.1
  Some (a.0, n.0, e)

abbrev pub leaf : Key → List ℕ → List Word → Read Expression
leaf key.Never t ws = Some (Never, ws)
leaf key.Plain t ws = Some (Name t, ws)
leaf _ t ws = None

abbrev pub operation : Key → List ℕ → (List Word → Read Expression) → List Word → Read Expression
operation key.Min t inner ws = pair inner ws >>= λ x. Some (Min x.0 x.1, x.2)
operation key.Max t inner ws = pair inner ws >>= λ x. Some (Max x.0 x.1, x.2)
operation key.Lt t inner ws = pair inner ws >>= λ x. Some (Lt x.0 x.1, x.2)
operation key.Inc t inner ws = delay inner ws >>= λ x. Some (Inc x.0 x.1, x.2)
operation k t inner ws = leaf k t ws

-- an expression of at most this many nested operators
unfoldable pub expr_at : ℕ → List Word → Read Expression
expr_at d [] = None
expr_at zero (w ∷ ws) = leaf (key_of w) w.bytes ws
expr_at (suc d) (w ∷ ws) = operation (key_of w) w.bytes (expr_at d) ws
