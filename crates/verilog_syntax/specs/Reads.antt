-- What the parts of the parser answer.
use Rattle.std.specs.Prelude.{◌≡◌, ℕ, Bool, true, false, List, Option, Some, None, Result, Ok, Err}
use Rattle.rl_text.specs.Lexemes.{Lexeme}
use Rattle.verilog_text.specs.Statements.{Statement, Stage, Start, Declarations, Actions, Finished, Opens, first_line}
use Rattle.verilog_syntax.specs.declared.stage.Stage as source_stage
use Rattle.verilog_syntax.specs.declared.stage.Stage.TheVariants as st
use Rattle.verilog_syntax.specs.declared.error.SyntaxError.{SyntaxError}
use Rattle.verilog_syntax.specs.declared.error.SyntaxError.TheVariants as syntax_error
use Rattle.verilog_syntax.specs.declared.error.ReadError.{ReadError}
use Rattle.verilog_syntax.specs.declared.error.ReadError.TheVariants.{Syntax, NoMemory}

abbrev pub stage : source_stage.Stage → Stage
stage st.Start = Start
stage st.Declarations = Declarations
stage st.Actions = Actions
stage st.Finished = Finished

-- the value is what is read, seen by view; and at a fault of the syntax nothing is read
abbrev pub Gives : {X Y : Type 0} → (X → Y) → Result X ReadError → Option Y → Type 0
Gives view (Ok x) read = read ≡ Some (view x)
Gives view (Err Syntax) read = read ≡ None
Gives view (Err NoMemory) read = Unit {0}

abbrev pub is_finished : Stage → Bool
is_finished Finished = true
is_finished _ = false

-- no statement opens the words, which begin on this line; `end` is the line of the text's end
abbrev pub LacksAt : Stage → List Lexeme → ℕ → SyntaxError → Type 0
LacksAt k ls end (syntax_error.At line) = (line ≡ first_line end ls) × ((s : Statement) (rest : List Lexeme) → Opens k ls s rest → ⊥)
LacksAt k ls end syntax_error.NoMemory = Unit {0}
