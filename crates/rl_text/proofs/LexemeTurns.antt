-- The words of a text of style Verilog, a piece at a time.
use Rattle.std.proofs.Common.{◌≡◌, ℕ, ◌+◌, Bool, true, false, ◌&&◌, ◌||◌, List, [], ◌∷◌, ◌++◌, length, take, drop, Option, Some, None, refl, sym, ap, subst, ◌∙◌, ◌==◌, arith}
use Rattle.std.specs.Prelude.{count_by, slice_range}
use Rattle.std.specs.List.{list_all}
use Rattle.std.proofs.lemmas.Bool.{and_parts}
use Rattle.rl_text.specs.declared.token.Kind.{Kind}
use Rattle.rl_text.specs.declared.token.Kind.TheVariants as kind
use Rattle.rl_text.specs.declared.token.Style.TheVariants as style
use Rattle.rl_text.specs.declared.token.Token.{Token}
use Rattle.rl_text.specs.Names.{is_digit, is_name_start, is_verilog_name_byte}
use Rattle.rl_text.specs.Pieces.{is_newline, is_bit, is_bit_part, is_bits, is_piece, verilog_symbols, Piece, joined, AreLongest}
use Rattle.rl_text.specs.Tokens.{line_behind, with_token, tokens_of, AreTokens}
use Rattle.rl_text.specs.Lexemes.{lexemes}
use Rattle.rl_text.specs.Front.{front}
use Rattle.rl_text.specs.Left.{onto_lexemes, lexemes_in, lexemes_left}
use Rattle.rl_text.proofs.Fronts.{front_stands}
use Rattle.rl_text.proofs.Cuts.{lines_more}
use Rattle.rl_text.proofs.Spans.{further}
use Rattle.rl_text.proofs.Falls.{pieces_more, pieces_none, tokens_fall}
use Rattle.rl_text.proofs.CursorLines.{none_in, no_newlines, differs, symbol_newlines, word_is}

-- ---- no token has a newline

bit_part_newlines : (bytes : List ℕ) → is_bit_part bytes ≡ true → count_by is_newline bytes ≡ 0
bit_part_newlines [] h = refl
bit_part_newlines (a ∷ []) h = absurd cc
bit_part_newlines (a ∷ b ∷ []) h = absurd cc
bit_part_newlines (a ∷ b ∷ c ∷ bytes) h =
    let p = and_parts (a == 39 && b == 98) (list_all is_bit (c ∷ bytes)) h in
    let q = and_parts (a == 39) (b == 98) p.0 in
    let x = differs (λ n. n == 39) refl a q.0 in
    let y = differs (λ n. n == 98) refl b q.1 in
    let z = no_newlines is_bit (c ∷ bytes) (differs is_bit refl) p.1 in
    rw (x, y, z) refl

either_part : (d : ℕ) (bytes : List ℕ) (x y : Bool) → is_digit d ≡ true → (x || y) ≡ true → (x ≡ true → count_by is_newline bytes ≡ 0) → (y ≡ true → count_by is_newline bytes ≡ 0) → count_by is_newline (d ∷ bytes) ≡ 0
either_part d bytes true y h o f g = let n = differs is_digit refl d h in let r = f refl in rw (n, r) refl
either_part d bytes false y h o f g = let n = differs is_digit refl d h in let r = g o in rw (n, r) refl

bits_newlines : (bytes : List ℕ) → is_bits bytes ≡ true → count_by is_newline bytes ≡ 0
bits_newlines [] h = refl
bits_newlines (d ∷ bytes) h =
    let p = and_parts (is_digit d) (is_bit_part bytes || is_bits bytes) h in
    either_part d bytes (is_bit_part bytes) (is_bits bytes) p.0 p.1 (bit_part_newlines bytes) (bits_newlines bytes)

none_of : (k : Kind) (bytes : List ℕ) → is_piece style.Verilog (Some k) bytes ≡ true → count_by is_newline bytes ≡ 0
none_of kind.Name [] h = refl
none_of kind.Name (b ∷ bytes) h = let a = and_parts (is_name_start b) (list_all is_verilog_name_byte bytes) h in none_in is_name_start is_verilog_name_byte b bytes refl refl a.0 a.1
none_of kind.Number [] h = refl
none_of kind.Number (b ∷ bytes) h = let a = and_parts (is_digit b) (list_all is_digit bytes) h in none_in is_digit is_digit b bytes refl refl a.0 a.1
none_of kind.Bits bytes h = bits_newlines bytes h
none_of kind.Symbol bytes h =
    symbol_newlines bytes verilog_symbols (refl, (refl, (refl, (refl, (refl, (refl, (refl, (refl, (refl, (refl, (refl, (refl, (refl, (refl, (refl, tt))))))))))))))) h
none_of kind.EndLine bytes h = absurd cc
none_of kind.End bytes h = absurd cc

-- ---- a piece more

module _ (len : ℕ) (rest after : List ℕ) (k : Option Kind) (e : front style.Verilog rest ≡ Some (k, len)) (d : after ≡ drop len rest) (line : ℕ) where
  over_lexemes : lexemes_left line rest ≡ onto_lexemes k (take len rest) line (lexemes_left (line + count_by is_newline (take len rest)) after)
  over_lexemes =
      ap (lexemes_in line) (pieces_more style.Verilog rest k len e)
      ∙ ap (λ (r : List ℕ). onto_lexemes k (take len rest) line (lexemes_left (line + count_by is_newline (take len rest)) r)) (sym d)

  pub gap_lexemes : (bytes : List ℕ) (next : ℕ) → bytes ≡ take len rest → next ≡ line + count_by is_newline bytes → k ≡ None → lexemes_left line rest ≡ lexemes_left next after
  gap_lexemes bytes next b n is =
      over_lexemes ∙ ap (λ (j : Option Kind). onto_lexemes j (take len rest) line (lexemes_left (line + count_by is_newline (take len rest)) after)) is
      ∙ ap (λ (m : ℕ). lexemes_left m after) (sym (n ∙ ap (λ (x : List ℕ). line + count_by is_newline x) b))

  pub one_lexeme : (j : Kind) (bytes : List ℕ) → bytes ≡ take len rest → k ≡ Some j → lexemes_left line rest ≡ record { word = record { kind = j; bytes = bytes }; line = line } ∷ lexemes_left line after
  one_lexeme j bytes b is =
      let piece : is_piece style.Verilog (Some j) (take len rest) ≡ true = subst (λ (i : Option Kind). is_piece style.Verilog i (take len rest) ≡ true) is (front_stands style.Verilog k len rest e).piece in
      let none = none_of j (take len rest) piece in
      let same : line + count_by is_newline (take len rest) ≡ line = omega (arith, none) in
      over_lexemes ∙ ap (λ (i : Option Kind). onto_lexemes i (take len rest) line (lexemes_left (line + count_by is_newline (take len rest)) after)) is
      ∙ (λ i. record { word = record { kind = j; bytes = sym b i }; line = line } ∷ lexemes_left (same i) after)

pub none_lexemes : (line : ℕ) (rest : List ℕ) → front style.Verilog rest ≡ None → lexemes_left line rest ≡ []
none_lexemes line rest e = ap (lexemes_in line) (pieces_none style.Verilog rest e)

-- ---- all pieces

over : (text before : List ℕ) (k : Option Kind) (bytes : List ℕ) (ps : List Piece) → text ≡ before ++ (bytes ++ joined ps) → is_piece style.Verilog k bytes ≡ true
    → lexemes text (tokens_of (before ++ bytes) ps) ≡ lexemes_in (line_behind (before ++ bytes)) ps
    → lexemes text (with_token k before bytes (tokens_of (before ++ bytes) ps)) ≡ onto_lexemes k bytes (line_behind before) (lexemes_in (line_behind before + count_by is_newline bytes) ps)
over text before k bytes ps e h f = by_kind k h where
  others : lexemes text (tokens_of (before ++ bytes) ps) ≡ lexemes_in (line_behind before + count_by is_newline bytes) ps
  others = f ∙ ap (λ (n : ℕ). lexemes_in n ps) (lines_more before bytes)

  word : (j : Kind) → record { word = record { kind = j; bytes = slice_range text (length before) (length before + length bytes) }; line = line_behind before } ∷ lexemes text (tokens_of (before ++ bytes) ps)
      ≡ record { word = record { kind = j; bytes = bytes }; line = line_behind before } ∷ lexemes_in (line_behind before + count_by is_newline bytes) ps
  word j = λ i. record { word = word_is text before bytes (joined ps) j e i; line = line_behind before } ∷ others i

  by_kind : (k : Option Kind) → is_piece style.Verilog k bytes ≡ true
      → lexemes text (with_token k before bytes (tokens_of (before ++ bytes) ps)) ≡ onto_lexemes k bytes (line_behind before) (lexemes_in (line_behind before + count_by is_newline bytes) ps)
  by_kind None h = others
  by_kind (Some kind.Name) h = word kind.Name
  by_kind (Some kind.Number) h = word kind.Number
  by_kind (Some kind.Bits) h = word kind.Bits
  by_kind (Some kind.Symbol) h = word kind.Symbol
  by_kind (Some kind.EndLine) h = absurd cc
  by_kind (Some kind.End) h = absurd cc

all_lexemes : (text before : List ℕ) (ps : List Piece) → text ≡ before ++ joined ps → AreLongest style.Verilog ps [] → lexemes text (tokens_of before ps) ≡ lexemes_in (line_behind before) ps
all_lexemes text before [] e l = refl
all_lexemes text before (p ∷ ps) e l =
    over text before p.kind p.bytes ps e l.0.begins.piece (all_lexemes text (before ++ p.bytes) ps (further text before p ps e) l.1)

-- of a text that has tokens, the words from its start on are those of its tokens
pub all_words : (text : List ℕ) (ts : List Token) → AreTokens style.Verilog text ts → lexemes_left 1 text ≡ lexemes text ts
all_words text ts a = ap (lexemes_in 1) (sym (tokens_fall style.Verilog text ts a)) ∙ sym (all_lexemes text [] a.pieces a.split a.longest) ∙ ap (lexemes text) (sym a.listed)
