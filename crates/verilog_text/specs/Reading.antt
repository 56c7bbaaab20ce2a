-- Statements, read from left to right. That what is read is what is spelled so, is a law.
use Rattle.std.specs.Prelude.{ℕ, zero, suc, Bool, true, false, ◌&&◌, if◌then◌else◌, List, [], ◌∷◌, drop, Option, Some, None, codes}
use Rattle.std.specs.Str.{bytes_eq}
use Rattle.rl_text.specs.declared.token.Kind.{Kind}
use Rattle.rl_text.specs.declared.token.Kind.TheVariants as kind
use Rattle.rl_text.specs.Lexemes.{Lexeme}
use Rattle.verilog_text.specs.Grammar.{Expression, Low, High, Name, Bit, Not, Group, And, Or, Next, Whole, Shifted, Form, Header, Input, Output, Wire, Reg, Assign, Always, End, is_plain}
use Rattle.verilog_text.specs.Statements.{Statement, Stage, allows}

-- a value and the words after it
abbrev pub Read : Type 0 → Type 0
Read A = Option (A × List Lexeme)

infixl 10 ◌>>=◌
abbrev pub ◌>>=◌ : {A B : Type 0} → Option A → (A → Option B) → Option B
(Some x) >>= f = f x
None >>= f = None

-- ---- one word

abbrev pub is_name : Kind → Bool
is_name kind.Name = true
is_name _ = false

abbrev pub is_number : Kind → Bool
is_number kind.Number = true
is_number _ = false

abbrev pub is_bits : Kind → Bool
is_bits kind.Bits = true
is_bits _ = false

abbrev pub is_symbol : Kind → Bool
is_symbol kind.Symbol = true
is_symbol _ = false

-- the words begin with one of such a kind and these bytes
unfoldable pub begins : (Kind → Bool) → List ℕ → List Lexeme → Bool
begins is t [] = false
begins is t (l ∷ ls) = is l.word.kind && bytes_eq l.word.bytes t

-- what is after that word
unfoldable pub after : (Kind → Bool) → List ℕ → List Lexeme → Option (List Lexeme)
after is t ls = if begins is t ls then Some (drop 1 ls) else None

abbrev pub after_sign : List ℕ → List Lexeme → Option (List Lexeme)
after_sign t ls = after is_symbol t ls

abbrev pub after_name : List ℕ → List Lexeme → Option (List Lexeme)
after_name t ls = after is_name t ls

-- the bytes of a word of such a kind
unfoldable pub bytes_at : (Kind → Bool) → List Lexeme → Read (List ℕ)
bytes_at is [] = None
bytes_at is (l ∷ ls) = if is l.word.kind then Some (l.word.bytes, ls) else None

abbrev pub name_at : List Lexeme → Read (List ℕ)
name_at ls = bytes_at is_name ls

-- a number with no leading zero
unfoldable pub number_at : List Lexeme → Read (List ℕ)
number_at [] = None
number_at (l ∷ ls) = if is_number l.word.kind && is_plain l.word.bytes then Some (l.word.bytes, ls) else None

-- ---- expressions

-- `[k]` after a name
unfoldable pub bit_at : List ℕ → List Lexeme → Read Expression
bit_at t ls = do
  o ← after_sign (codes "[") ls
  k ← number_at o
  e ← after_sign (codes "]") k.1
  Some (Bit t k.0, e)

-- what a name begins
unfoldable pub named : List ℕ → List Lexeme → Read Expression
named t ls = if begins is_symbol (codes "[") ls then bit_at t ls else Some (Name t, ls)

-- a constant
unfoldable pub constant : List ℕ → List Lexeme → Read Expression
constant t ls =
    if bytes_eq t (codes "1'b0") then Some (Low, ls) else (if bytes_eq t (codes "1'b1") then Some (High, ls) else None)

-- what a word begins that is no sign
abbrev pub leaf : Kind → List ℕ → List Lexeme → Read Expression
leaf kind.Name t ls = named t ls
leaf kind.Bits t ls = constant t ls
leaf _ t ls = None

-- a part is read; as long as the sign follows, at most n more parts are joined to it
abbrev pub chain : List ℕ → (Expression → Expression → Expression) → (List Lexeme → Read Expression) → ℕ → Expression → List Lexeme → Read Expression
chain t join part zero a ls = if begins is_symbol t ls then None else Some (a, ls)
chain t join part (suc n) a ls =
    if begins is_symbol t ls then part (drop 1 ls) >>= (λ b. chain t join part n (join a b.0) b.1) else Some (a, ls)

-- parts with `&` between them
unfoldable pub product : (List Lexeme → Read Expression) → List Lexeme → Read Expression
product part ls = part ls >>= λ a. chain (codes "&") And part 63 a.0 a.1

-- products with `|` between them
unfoldable pub sum : (List Lexeme → Read Expression) → List Lexeme → Read Expression
sum part ls = product part ls >>= λ a. chain (codes "|") Or (product part) 63 a.0 a.1

unfoldable pub negation : (List Lexeme → Read Expression) → List Lexeme → Read Expression
negation part ls = part ls >>= λ a. Some (Not a.0, a.1)

-- what an open parenthesis begins
unfoldable pub group : (List Lexeme → Read Expression) → List Lexeme → Read Expression
group part ls = do
  a ← sum part ls
  e ← after_sign (codes ")") a.1
  Some (Group a.0, e)

abbrev pub operation : Kind → List ℕ → (List Lexeme → Read Expression) → List Lexeme → Read Expression
operation kind.Symbol t part ls =
    if bytes_eq t (codes "~") then negation part ls else (if bytes_eq t (codes "(") then group part ls else None)
operation k t part ls = leaf k t ls

-- what `&` joins, with at most d nested `~` and `(`
unfoldable pub unary : ℕ → List Lexeme → Read Expression
unary d [] = None
unary zero (l ∷ ls) = leaf l.word.kind l.word.bytes ls
unary (suc d) (l ∷ ls) = operation l.word.kind l.word.bytes (unary d) ls

unfoldable pub expression_at : List Lexeme → Read Expression
expression_at ls = sum (unary 64) ls

-- ---- statements

-- `[m:0]`
unfoldable pub range_at : List Lexeme → Read (List ℕ)
range_at ls = do
  o ← after_sign (codes "[") ls
  m ← number_at o
  c ← after_sign (codes ":") m.1
  z ← after is_number (codes "0") c
  e ← after_sign (codes "]") z
  Some (m.0, e)

-- `{r[k:0], e}`
unfoldable pub shifted_at : List Lexeme → Read Next
shifted_at ls = do
  o ← after_sign (codes "{") ls
  r ← name_at o
  k ← range_at r.1
  c ← after_sign (codes ",") k.1
  a ← expression_at c
  e ← after_sign (codes "}") a.1
  Some (Shifted r.0 k.0 a.0, e)

unfoldable pub next_at : List Lexeme → Read Next
next_at ls = if begins is_symbol (codes "{") ls then shifted_at ls else expression_at ls >>= (λ a. Some (Whole a.0, a.1))

-- names, each after a comma
abbrev pub more_names : List Lexeme → Read (List (List ℕ))
more_names [] = Some ([], [])
more_names (c ∷ []) = if begins is_symbol (codes ",") (c ∷ []) then None else Some ([], c ∷ [])
more_names (c ∷ n ∷ ls) =
    if begins is_symbol (codes ",") (c ∷ n ∷ ls)
    then (if is_name n.word.kind then more_names ls >>= (λ ns. Some (n.word.bytes ∷ ns.0, ns.1)) else None)
    else Some ([], c ∷ n ∷ ls)

-- names with commas between them
unfoldable pub names_at : List Lexeme → Read (List (List ℕ))
names_at ls = do
  n ← name_at ls
  ns ← more_names n.1
  Some (n.0 ∷ ns.0, ns.1)

-- what `module` begins
unfoldable pub header_at : List Lexeme → Read Form
header_at ls = do
  n ← name_at ls
  o ← after_sign (codes "(") n.1
  ports ← names_at o
  c ← after_sign (codes ")") ports.1
  e ← after_sign (codes ";") c
  Some (Header n.0 ports.0, e)

-- a name and a semicolon
unfoldable pub declared_at : List Lexeme → Read (List ℕ)
declared_at ls = do
  n ← name_at ls
  e ← after_sign (codes ";") n.1
  Some (n.0, e)

-- what `reg` begins
unfoldable pub ranged_at : List Lexeme → Read Form
ranged_at ls = do
  m ← range_at ls
  n ← declared_at m.1
  Some (Reg (Some m.0) n.0, n.1)

unfoldable pub reg_at : List Lexeme → Read Form
reg_at ls =
    if begins is_symbol (codes "[") ls then ranged_at ls else declared_at ls >>= (λ n. Some (Reg None n.0, n.1))

-- what `assign` begins
unfoldable pub assign_at : List Lexeme → Read Form
assign_at ls = do
  n ← name_at ls
  o ← after_sign (codes "=") n.1
  a ← expression_at o
  e ← after_sign (codes ";") a.1
  Some (Assign n.0 a.0, e)

-- `@(posedge clk)`
unfoldable pub after_edge : List Lexeme → Option (List Lexeme)
after_edge ls = do
  a ← after_sign (codes "@") ls
  b ← after_sign (codes "(") a
  c ← after_name (codes "posedge") b
  d ← after_name (codes "clk") c
  after_sign (codes ")") d

-- `if (rst)`
unfoldable pub after_reset : List Lexeme → Option (List Lexeme)
after_reset ls = do
  a ← after_name (codes "if") ls
  b ← after_sign (codes "(") a
  c ← after_name (codes "rst") b
  after_sign (codes ")") c

-- `r <= z; else`
unfoldable pub zeroed_at : List Lexeme → Read (List ℕ × List ℕ)
zeroed_at ls = do
  r ← name_at ls
  o ← after_sign (codes "<=") r.1
  z ← bytes_at is_bits o
  c ← after_sign (codes ";") z.1
  e ← after_name (codes "else") c
  Some ((r.0, z.0), e)

-- `s <= e;`
unfoldable pub update_at : List Lexeme → Read (List ℕ × Next)
update_at ls = do
  s ← name_at ls
  o ← after_sign (codes "<=") s.1
  a ← next_at o
  e ← after_sign (codes ";") a.1
  Some ((s.0, a.0), e)

-- what `always` begins
unfoldable pub always_at : List Lexeme → Read Form
always_at ls = do
  a ← after_edge ls
  b ← after_reset a
  z ← zeroed_at b
  u ← update_at z.1
  Some (Always z.0.0 z.0.1 u.0.0 u.0.1, u.1)

-- what `endmodule` begins
unfoldable pub end_at : List Lexeme → Read Form
end_at [] = Some (End, [])
end_at (l ∷ ls) = None

abbrev pub by_word : List ℕ → List Lexeme → Read Form
by_word t ls =
    if bytes_eq t (codes "module") then header_at ls
    else (if bytes_eq t (codes "input") then declared_at ls >>= (λ n. Some (Input n.0, n.1))
    else (if bytes_eq t (codes "output") then declared_at ls >>= (λ n. Some (Output n.0, n.1))
    else (if bytes_eq t (codes "wire") then declared_at ls >>= (λ n. Some (Wire n.0, n.1))
    else (if bytes_eq t (codes "reg") then reg_at ls
    else (if bytes_eq t (codes "assign") then assign_at ls
    else (if bytes_eq t (codes "always") then always_at ls
    else (if bytes_eq t (codes "endmodule") then end_at ls
    else None)))))))

unfoldable pub form_at : List Lexeme → Read Form
form_at [] = None
form_at (l ∷ ls) = if is_name l.word.kind then by_word l.word.bytes ls else None

-- the statement, where the stage allows it
abbrev pub allowed : Stage → ℕ → Form × List Lexeme → Read Statement
allowed stage line f = if allows stage f.0 then Some (record { form = f.0; line = line }, f.1) else None

unfoldable pub statement_at : Stage → List Lexeme → Read Statement
statement_at stage [] = None
statement_at stage (l ∷ ls) = form_at (l ∷ ls) >>= allowed stage l.line
