-- The statements that a text's words are, and the first place at which no statement begins.
use Rattle.std.specs.Prelude.{◌≡◌, ◌≢◌, ℕ, Bool, true, false, List, [], ◌∷◌, ◌++◌, map}
use Rattle.rl_text.specs.Lines.{Word}
use Rattle.rl_text.specs.Lexemes.{Lexeme}
use Rattle.verilog_text.specs.Grammar.{Form, Header, Input, Output, Wire, Reg, Assign, Always, End, spelled_form, IsFormed}

-- a statement and the line of its first word
pub record Statement : Type 0 where
  pub form : Form
  pub line : ℕ

-- which statements may come next: the header; or a declaration, or what follows; or an assign or always statement, or
-- the end; or none
pub data Stage : Type 0 where
  Start : Stage
  Declarations : Stage
  Actions : Stage
  Finished : Stage

abbrev pub allows : Stage → Form → Bool
allows Start (Header n ports) = true
allows Declarations (Input n) = true
allows Declarations (Output n) = true
allows Declarations (Wire n) = true
allows Declarations (Reg m n) = true
allows Declarations (Assign n e) = true
allows Declarations (Always r z s e) = true
allows Declarations End = true
allows Actions (Assign n e) = true
allows Actions (Always r z s e) = true
allows Actions End = true
allows _ _ = false

-- what may come after a statement
abbrev pub stage_after : Form → Stage
stage_after (Header n ports) = Declarations
stage_after (Input n) = Declarations
stage_after (Output n) = Declarations
stage_after (Wire n) = Declarations
stage_after (Reg m n) = Declarations
stage_after (Assign n e) = Actions
stage_after (Always r z s e) = Actions
stage_after End = Finished

-- after `endmodule` the text ends
abbrev pub MayPrecede : Form → List Lexeme → Type 0
MayPrecede End rest = rest ≡ []
MayPrecede _ rest = Unit {0}

abbrev pub words_of : List Lexeme → List Word
words_of lexemes = map (λ l. l.word) lexemes

-- the words begin with this statement, one that the stage allows, and then there is the rest
pub record Opens (stage : Stage) (lexemes : List Lexeme) (s : Statement) (rest : List Lexeme) : Type 0 where
  pub first : Lexeme
  pub others : List Lexeme
  pub split : lexemes ≡ first ∷ others ++ rest
  pub words : words_of (first ∷ others) ≡ spelled_form s.form
  pub formed : IsFormed s.form
  pub allowed : allows stage s.form ≡ true
  pub line : s.line ≡ first.line
  pub whole : MayPrecede s.form rest

-- the words are these statements, one after another, and then there is the rest, at the last stage
abbrev pub Leads : Stage → List Lexeme → List Statement → Stage → List Lexeme → Type 0
Leads stage lexemes [] last rest = (stage ≡ last) × (lexemes ≡ rest)
Leads stage lexemes (s ∷ ss) last rest =
    (after : List Lexeme) × Opens stage lexemes s after × Leads (stage_after s.form) after ss last rest

-- all the words are these statements, of which `endmodule` is the last
abbrev pub AreStatements : List Lexeme → List Statement → Type 0
AreStatements lexemes ss = Leads Start lexemes ss Finished []

-- the line of the first word; where there is none, that of the end
abbrev pub first_line : ℕ → List Lexeme → ℕ
first_line end [] = end
first_line end (l ∷ lexemes) = l.line

-- after some statements there is a place, on this line, at which no permitted statement begins; `end` is the line of the text's end
pub record FailsAt (lexemes : List Lexeme) (end line : ℕ) : Type 0 where
  pub before : List Statement
  pub stage : Stage
  pub rest : List Lexeme
  pub leads : Leads Start lexemes before stage rest
  pub unfinished : stage ≢ Finished
  pub nothing : (s : Statement) (after : List Lexeme) → Opens stage rest s after → ⊥
  pub is : line ≡ first_line end rest

-- each statement is one that its stage allows, and `endmodule` is the last
abbrev pub AreInOrder : Stage → List Statement → Type 0
AreInOrder stage [] = stage ≡ Finished
AreInOrder stage (s ∷ ss) = (allows stage s.form ≡ true) × AreInOrder (stage_after s.form) ss
