-- Where no statement is read, none opens the words.
use Rattle.std.proofs.Common.{◌≡◌, List, Some, None, sym, ◌∙◌}
use Rattle.rl_text.specs.Lexemes.{Lexeme}
use Rattle.verilog_text.specs.Statements.{Statement, Stage, Opens}
use Rattle.verilog_text.specs.Reading.{statement_at}

not_some : (x : Statement × List Lexeme) → None ≡ Some x → ⊥
not_some x e = cc

pub none_opens : (k : Stage) (ls : List Lexeme) → statement_at k ls ≡ None → ((s : Statement) (rest : List Lexeme) → Opens k ls s rest → statement_at k ls ≡ Some (s, rest)) → (s : Statement) (rest : List Lexeme) → Opens k ls s rest → ⊥
none_opens k ls e read s rest o = not_some (s, rest) (sym e ∙ read s rest o)
