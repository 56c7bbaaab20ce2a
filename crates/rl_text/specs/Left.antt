-- The words of style Verilog that are left from a place of a text on.
use Rattle.std.specs.Prelude.{◌≡◌, ℕ, ◌+◌, List, [], ◌∷◌, Option, Some, None, count_by}
use Rattle.rl_text.specs.declared.token.Kind.{Kind}
use Rattle.rl_text.specs.declared.token.Style.TheVariants as style
use Rattle.rl_text.specs.declared.words.Lexeme as source_lexeme
use Rattle.rl_text.specs.Pieces.{is_newline, Piece}
use Rattle.rl_text.specs.Lexemes.{Lexeme}
use Rattle.rl_text.specs.Words.{lexeme}
use Rattle.rl_text.specs.Cursor.{pieces_of}

abbrev pub onto_lexemes : Option Kind → List ℕ → ℕ → List Lexeme → List Lexeme
onto_lexemes None bytes line ls = ls
onto_lexemes (Some k) bytes line ls = record { word = record { kind = k; bytes = bytes }; line = line } ∷ ls

-- the words of pieces, the first of which begins on this line
abbrev pub lexemes_in : ℕ → List Piece → List Lexeme
lexemes_in line [] = []
lexemes_in line (p ∷ ps) = onto_lexemes p.kind p.bytes line (lexemes_in (line + count_by is_newline p.bytes) ps)

-- the words of a text whose first byte is on this line, up to the first place at which there is no piece
abbrev pub lexemes_left : ℕ → List ℕ → List Lexeme
lexemes_left line rest = lexemes_in line (pieces_of style.Verilog rest)

-- a word that is cut already, and those after it
abbrev pub ahead : Option source_lexeme.Lexeme → List Lexeme → List Lexeme
ahead None ls = []
ahead (Some l) ls = lexeme l ∷ ls

-- the first of the words, where there is one
abbrev pub front_of : List Lexeme → Option Lexeme
front_of [] = None
front_of (l ∷ ls) = Some l

-- the next of the words is this, and the others are left; or there is none
abbrev pub GivesLexeme : List Lexeme → Option Lexeme → List Lexeme → Type 0
GivesLexeme old None left = (old ≡ []) × (left ≡ [])
GivesLexeme old (Some l) left = old ≡ l ∷ left
