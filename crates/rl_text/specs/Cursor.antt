-- A text as the pieces at its front, and the lines of style Race that are left from a place on.
use Rattle.std.specs.Prelude.{◌≡◌, if◌then◌else◌, ℕ, zero, suc, ◌+◌, List, [], ◌∷◌, ◌++◌, length, take, drop, Option, Some, None}
use Rattle.rl_text.specs.declared.token.Kind.{Kind}
use Rattle.rl_text.specs.declared.token.Style.{Style}
use Rattle.rl_text.specs.declared.token.Style.TheVariants as style
use Rattle.rl_text.specs.declared.token.Token.{Token}
use Rattle.rl_text.specs.Pieces.{Piece}
use Rattle.rl_text.specs.Front.{front}
use Rattle.rl_text.specs.Tokens.{AreTokens}
use Rattle.rl_text.specs.Lines.{Word, ends_line, Line}

-- the text has tokens
pub record HasTokens (s : Style) (text : List ℕ) : Type 0 where
  pub tokens : List Token
  pub lexed : AreTokens s text tokens

abbrev pub with_front : Option (Option Kind × ℕ) → (Option Kind → ℕ → List Piece) → List Piece
with_front None go = []
with_front (Some (k, n)) go = go k n

-- at most so many pieces from the front on, up to the first place at which there is no piece
unfoldable pub pieces_in : ℕ → Style → List ℕ → List Piece
pieces_in zero s text = []
pieces_in (suc n) s text = with_front (front s text) (λ k len. record { kind = k; bytes = take len text } ∷ pieces_in n s (drop len text))

-- the pieces of a text, up to the first place at which there is no piece
abbrev pub pieces_of : Style → List ℕ → List Piece
pieces_of s text = pieces_in (length text) s text

-- the line that these words are, where there are any
abbrev pub closed : ℕ → List Word → List Line
closed number [] = []
closed number (w ∷ ws) = record { number = number; words = w ∷ ws } ∷ []

abbrev pub over_piece : Option Kind → List ℕ → ℕ → List Word → (ℕ → List Word → List Line) → List Line
over_piece None bytes number ws go = go number ws
over_piece (Some k) bytes number ws go = if ends_line k then closed number ws ++ go (number + 1) [] else go number (ws ++ record { kind = k; bytes = bytes } ∷ [])

-- the lines of pieces, on the line of this number, which has these words already
abbrev pub cut : ℕ → List Word → List Piece → List Line
cut number ws [] = closed number ws
cut number ws (p ∷ ps) = over_piece p.kind p.bytes number ws (λ n vs. cut n vs ps)

-- the lines of a text whose first line has this number
abbrev pub lines_left : ℕ → List ℕ → List Line
lines_left number rest = cut number [] (pieces_of style.Race rest)

abbrev pub onto_words : Option Kind → List ℕ → List Word → List Word
onto_words None bytes ws = ws
onto_words (Some k) bytes ws = if ends_line k then [] else record { kind = k; bytes = bytes } ∷ ws

-- the words of the line that pieces begin with
abbrev pub words_in : List Piece → List Word
words_in [] = []
words_in (p ∷ ps) = onto_words p.kind p.bytes (words_in ps)

-- the words of the line that a text begins with
abbrev pub words_left : List ℕ → List Word
words_left rest = words_in (pieces_of style.Race rest)

-- the next of the words is this, and the others are left; or there is none
abbrev pub GivesWord : List Word → Option Word → List Word → Type 0
GivesWord old None left = (old ≡ []) × (left ≡ [])
GivesWord old (Some w) left = old ≡ w ∷ left

-- the line of this number and these words, where it has some, and the lines after it
abbrev pub line_first : ℕ → List Word → List ℕ → List Line
line_first number ws after = closed number ws ++ lines_left (number + 1) after

-- the next of the lines has this number and these words, and the others are left; or there is none
abbrev pub GivesLine : List Line → Option (ℕ × List Word) → List Line → Type 0
GivesLine old None left = (old ≡ []) × (left ≡ [])
GivesLine old (Some (n, ws)) left = old ≡ record { number = n; words = ws } ∷ left
