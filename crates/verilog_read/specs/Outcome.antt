-- What an answer of the reader says of a text.
use Rattle.std.specs.Prelude.{◌≡◌, ℕ, List}
use Rattle.rl_text.specs.declared.token.Token.{Token}
use Rattle.rl_text.specs.declared.token.Style.TheVariants as style
use Rattle.rl_text.specs.Tokens.{AreTokens}
use Rattle.rl_text.specs.Lexemes.{Lexeme, lexemes}
use Rattle.circuit.specs.Circuit.{Circuit}
use Rattle.verilog_text.specs.declared.rule.Rule.{Rule}
use Rattle.verilog_text.specs.declared.rule.Rule.TheVariants as rule
use Rattle.verilog_text.specs.Spelling.{FirstBroken, AreModule, IsBroken}
use Rattle.verilog_text.specs.Judging.{nothing_yet}
use Rattle.verilog_text.specs.Statements.{Statement, AreStatements, FailsAt}
use Rattle.verilog_syntax.specs.declared.error.SyntaxError.{SyntaxError}
use Rattle.verilog_syntax.specs.declared.error.SyntaxError.TheVariants as syntax_error
use Rattle.verilog_read.specs.declared.error.VerilogError.{VerilogError}
use Rattle.verilog_read.specs.declared.error.VerilogError.TheVariants as error

-- what the reader answers at a fault of the syntax
abbrev pub of_syntax : SyntaxError → VerilogError
of_syntax (syntax_error.At line) = error.Syntax line
of_syntax syntax_error.NoMemory = error.NoMemory

abbrev pub error_of : Rule → ℕ → VerilogError
error_of rule.Syntax n = error.Syntax n
error_of rule.Name n = error.Name n
error_of rule.Order n = error.Order n
error_of rule.Width n = error.Width n
error_of rule.Limit n = error.Limit n

-- the rule and the line that an error names, unless memory ran out
abbrev pub Names : VerilogError → (Rule → ℕ → Type 0) → Type 0
Names (error.Syntax n) P = P rule.Syntax n
Names (error.Name n) P = P rule.Name n
Names (error.Order n) P = P rule.Order n
Names (error.Width n) P = P rule.Width n
Names (error.Limit n) P = P rule.Limit n
Names error.NoMemory P = Unit {0}

-- the error is the first broken rule of the text, on its line
abbrev pub IsCause : List ℕ → VerilogError → Type 0
IsCause text e = Names e (IsBroken text)

-- what is wrong with words first, and its line: the place where there is no statement, or the rule that a statement breaks
abbrev pub Fails : List Lexeme → ℕ → Rule → ℕ → Type 0
Fails ls end rule.Syntax line = FailsAt ls end line
Fails ls end r line = (ss : List Statement) × AreStatements ls ss × FirstBroken nothing_yet ss r line

-- these are the words of the text
abbrev pub AreWordsOf : List ℕ → List Lexeme → Type 0
AreWordsOf text ls = (tokens : List Token) × AreTokens style.Verilog text tokens × (ls ≡ lexemes text tokens)

-- the words are statements that keep all rules and are this module
abbrev pub AreWordsOfModule : List Lexeme → Circuit → Type 0
AreWordsOfModule ls m = (ss : List Statement) × AreStatements ls ss × AreModule ss m
