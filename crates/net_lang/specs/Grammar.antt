-- The grammar of expressions: which words each is spelled by.
use Rattle.std.specs.Prelude.{◌≡◌, ◌≤◌, ℕ, suc, max, true, false, List, [], ◌∷◌, ◌++◌, codes}
use Rattle.rl_text.specs.Lines.{Word}
use Rattle.rl_text.specs.Writing.{name, number, sign}
use Rattle.rl_text.specs.Numbers.{is_plain}
use Rattle.net_model.specs.Rules.{is_reserved}

-- an expression as it is written, with the bytes of its names and numbers
pub data Expression : Type 0 where
  Never : Expression
  Name : List ℕ → Expression
  Min : Expression → Expression → Expression
  Max : Expression → Expression → Expression
  Lt : Expression → Expression → Expression
  Inc : Expression → List ℕ → Expression

abbrev pub open_ : Word
open_ = sign (codes "(")

abbrev pub comma : Word
comma = sign (codes ",")

abbrev pub close : Word
close = sign (codes ")")

-- the words of an expression
abbrev pub spelled : Expression → List Word
spelled Never = name (codes "never") ∷ []
spelled (Name t) = name t ∷ []
spelled (Min a b) = name (codes "min") ∷ open_ ∷ spelled a ++ comma ∷ spelled b ++ close ∷ []
spelled (Max a b) = name (codes "max") ∷ open_ ∷ spelled a ++ comma ∷ spelled b ++ close ∷ []
spelled (Lt a b) = name (codes "lt") ∷ open_ ∷ spelled a ++ comma ∷ spelled b ++ close ∷ []
spelled (Inc a n) = name (codes "inc") ∷ open_ ∷ spelled a ++ comma ∷ number n ∷ close ∷ []

-- no name is a reserved word, and no constant has a leading zero
abbrev pub IsWritten : Expression → Type 0
IsWritten Never = Unit {0}
IsWritten (Name t) = is_reserved t ≡ false
IsWritten (Min a b) = IsWritten a × IsWritten b
IsWritten (Max a b) = IsWritten a × IsWritten b
IsWritten (Lt a b) = IsWritten a × IsWritten b
IsWritten (Inc a n) = IsWritten a × (is_plain n ≡ true)

-- how many operators are nested, at most
abbrev pub written_nesting : Expression → ℕ
written_nesting Never = 0
written_nesting (Name t) = 0
written_nesting (Min a b) = suc (max (written_nesting a) (written_nesting b))
written_nesting (Max a b) = suc (max (written_nesting a) (written_nesting b))
written_nesting (Lt a b) = suc (max (written_nesting a) (written_nesting b))
written_nesting (Inc a n) = suc (written_nesting a)

-- the words are an expression of at most d nested operators, and then the rest
pub record Spells (d : ℕ) (ws : List Word) (t : Expression) (rest : List Word) : Type 0 where
  pub words : ws ≡ spelled t ++ rest
  pub written : IsWritten t
  pub nested : written_nesting t ≤ d
