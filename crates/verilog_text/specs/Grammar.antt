-- Statements as they are written, with the bytes of their names and numbers, and the words that spell each.
use Rattle.std.specs.Prelude.{◌≡◌, ◌≢◌, ◌≤◌, ℕ, suc, max, Bool, true, false, not, ◌==◌, List, [], ◌∷◌, ◌++◌, flat_map, Option, Some, None, codes}
use Rattle.rl_text.specs.declared.token.Kind.TheVariants as kind
use Rattle.rl_text.specs.Lines.{Word}

-- An expression. `Low` and `High` are `1'b0` and `1'b1`, `Bit n k` is `n[k]`, `Group a` is `(a)`.
pub data Expression : Type 0 where
  Low : Expression
  High : Expression
  Name : List ℕ → Expression
  Bit : List ℕ → List ℕ → Expression
  Not : Expression → Expression
  Group : Expression → Expression
  And : Expression → Expression → Expression
  Or : Expression → Expression → Expression

-- what a register takes: an expression, or `{r[k:0], e}`
pub data Next : Type 0 where
  Whole : Expression → Next
  Shifted : List ℕ → List ℕ → Expression → Next

-- A statement:
--   Header n ports     module n(port, .., port);
--   Input n            input n;
--   Output n           output n;
--   Wire n             wire n;
--   Reg None n         reg n;
--   Reg (Some m) n     reg [m:0] n;
--   Assign n e         assign n = e;
--   Always r z s e     always @(posedge clk) if (rst) r <= z; else s <= e;
--   End                endmodule
pub data Form : Type 0 where
  Header : List ℕ → List (List ℕ) → Form
  Input : List ℕ → Form
  Output : List ℕ → Form
  Wire : List ℕ → Form
  Reg : Option (List ℕ) → List ℕ → Form
  Assign : List ℕ → Expression → Form
  Always : List ℕ → List ℕ → List ℕ → Next → Form
  End : Form

-- ---- words

abbrev pub name : List ℕ → Word
name t = record { kind = kind.Name; bytes = t }

abbrev pub number : List ℕ → Word
number t = record { kind = kind.Number; bytes = t }

abbrev pub bits : List ℕ → Word
bits t = record { kind = kind.Bits; bytes = t }

abbrev pub sign : List ℕ → Word
sign t = record { kind = kind.Symbol; bytes = t }

abbrev pub open_ : Word
open_ = sign (codes "(")

abbrev pub close : Word
close = sign (codes ")")

abbrev pub comma : Word
comma = sign (codes ",")

abbrev pub semicolon : Word
semicolon = sign (codes ";")

abbrev pub takes : Word
takes = sign (codes "<=")

-- ---- the words of each

abbrev pub spelled : Expression → List Word
spelled Low = bits (codes "1'b0") ∷ []
spelled High = bits (codes "1'b1") ∷ []
spelled (Name t) = name t ∷ []
spelled (Bit t k) = name t ∷ sign (codes "[") ∷ number k ∷ sign (codes "]") ∷ []
spelled (Not a) = sign (codes "~") ∷ spelled a
spelled (Group a) = open_ ∷ spelled a ++ close ∷ []
spelled (And a b) = spelled a ++ sign (codes "&") ∷ spelled b
spelled (Or a b) = spelled a ++ sign (codes "|") ∷ spelled b

-- `[m:0]`
abbrev pub spelled_range : List ℕ → List Word
spelled_range m = sign (codes "[") ∷ number m ∷ sign (codes ":") ∷ number (codes "0") ∷ sign (codes "]") ∷ []

abbrev pub spelled_next : Next → List Word
spelled_next (Whole e) = spelled e
spelled_next (Shifted r k e) =
    sign (codes "{") ∷ name r ∷ spelled_range k ++ comma ∷ spelled e ++ sign (codes "}") ∷ []

-- names with commas between them
abbrev pub spelled_names : List (List ℕ) → List Word
spelled_names [] = []
spelled_names (n ∷ names) = name n ∷ flat_map (λ m. comma ∷ name m ∷ []) names

-- a word, a name and a semicolon
abbrev pub spelled_declaration : List ℕ → List ℕ → List Word
spelled_declaration word n = name word ∷ name n ∷ semicolon ∷ []

-- `always @(posedge clk) if (rst)`
abbrev pub spelled_clock : List Word
spelled_clock =
    name (codes "always") ∷ sign (codes "@") ∷ open_ ∷ name (codes "posedge") ∷ name (codes "clk") ∷ close
    ∷ name (codes "if") ∷ open_ ∷ name (codes "rst") ∷ close ∷ []

abbrev pub spelled_form : Form → List Word
spelled_form (Header n ports) =
    name (codes "module") ∷ name n ∷ open_ ∷ spelled_names ports ++ close ∷ semicolon ∷ []
spelled_form (Input n) = spelled_declaration (codes "input") n
spelled_form (Output n) = spelled_declaration (codes "output") n
spelled_form (Wire n) = spelled_declaration (codes "wire") n
spelled_form (Reg None n) = spelled_declaration (codes "reg") n
spelled_form (Reg (Some m) n) = name (codes "reg") ∷ spelled_range m ++ name n ∷ semicolon ∷ []
spelled_form (Assign n e) = name (codes "assign") ∷ name n ∷ sign (codes "=") ∷ spelled e ++ semicolon ∷ []
spelled_form (Always r z s e) =
    spelled_clock ++ name r ∷ takes ∷ bits z ∷ semicolon
    ∷ name (codes "else") ∷ name s ∷ takes ∷ spelled_next e ++ semicolon ∷ []
spelled_form End = name (codes "endmodule") ∷ []

-- ---- what is a statement

-- no leading zero, but for 0 itself
abbrev pub is_plain : List ℕ → Bool
is_plain [] = false
is_plain (d ∷ []) = true
is_plain (d ∷ e ∷ ds) = not (d == 48)

-- what an `&` joins: neither an `&` nor an `|`, but for those in parentheses
abbrev pub is_unary : Expression → Bool
is_unary (And a b) = false
is_unary (Or a b) = false
is_unary _ = true

-- what an `|` joins: no `|`, but for those in parentheses
abbrev pub is_product : Expression → Bool
is_product (Or a b) = false
is_product _ = true

-- how many parts an `&` chain has
abbrev pub factors : Expression → ℕ
factors (And a b) = suc (factors a)
factors _ = 1

-- how many parts an `|` chain has
abbrev pub terms : Expression → ℕ
terms (Or a b) = suc (terms a)
terms _ = 1

-- how many `~` and `(` are nested, at most
abbrev pub nesting : Expression → ℕ
nesting Low = 0
nesting High = 0
nesting (Name t) = 0
nesting (Bit t k) = 0
nesting (Not a) = suc (nesting a)
nesting (Group a) = suc (nesting a)
nesting (And a b) = max (nesting a) (nesting b)
nesting (Or a b) = max (nesting a) (nesting b)

-- `~` binds before `&` and `&` before `|`; both join from the left, and at most 64 parts; numbers are plain
abbrev pub IsWritten : Expression → Type 0
IsWritten Low = Unit {0}
IsWritten High = Unit {0}
IsWritten (Name t) = Unit {0}
IsWritten (Bit t k) = is_plain k ≡ true
IsWritten (Not a) = IsWritten a × (is_unary a ≡ true)
IsWritten (Group a) = IsWritten a
IsWritten (And a b) = IsWritten a × (is_product a ≡ true) × IsWritten b × (is_unary b ≡ true) × (factors (And a b) ≤ 64)
IsWritten (Or a b) = IsWritten a × IsWritten b × (is_product b ≡ true) × (terms (Or a b) ≤ 64)

-- an expression that a statement may have
pub record IsExpression (e : Expression) : Type 0 where
  pub written : IsWritten e
  pub nested : nesting e ≤ 64

abbrev pub IsNext : Next → Type 0
IsNext (Whole e) = IsExpression e
IsNext (Shifted r k e) = (is_plain k ≡ true) × IsExpression e

abbrev pub IsFormed : Form → Type 0
IsFormed (Header n ports) = ports ≢ []
IsFormed (Input n) = Unit {0}
IsFormed (Output n) = Unit {0}
IsFormed (Wire n) = Unit {0}
IsFormed (Reg None n) = Unit {0}
IsFormed (Reg (Some m) n) = is_plain m ≡ true
IsFormed (Assign n e) = IsExpression e
IsFormed (Always r z s e) = IsNext e
IsFormed End = Unit {0}
