-- Texts that fall into pieces, taken from their end on, and the words of the pieces.
use Rattle.std.proofs.Common.{◌≡◌, ℕ, ◌+◌, ◌-◌, Bool, true, false, not, cond, ◌&&◌, List, [], ◌∷◌, ◌++◌, length, map, Option, Some, None, refl, sym, ap, subst, ◌∙◌, arith, eqb}
use Rattle.std.specs.Prelude.{codes, slice_range, take}
use Rattle.std.specs.List.{prefix_len, list_all, filter}
use Rattle.std.proofs.lemmas.List.{append-nil, append_assoc, take_at, drop_at, length-append}
use Rattle.std.proofs.lemmas.Bool.{and_parts, not-true}
use Rattle.std.proofs.lemmas.Bool.Decides.{nat_tests}
use Rattle.rl_text.specs.declared.token.Kind.{Kind}
use Rattle.rl_text.specs.declared.token.Kind.TheVariants as kind
use Rattle.rl_text.specs.declared.token.Style.{Style}
use Rattle.rl_text.specs.declared.token.Style.TheVariants as style
use Rattle.rl_text.specs.declared.token.Token.{Token}
use Rattle.rl_text.specs.Names.{is_digit, is_name_start, is_verilog_name_byte, is_verilog_name}
use Rattle.rl_text.specs.Pieces.{is_bit, is_number, Piece, IsLongest, joined, AreLongest}
use Rattle.rl_text.specs.Tokens.{token, with_token, tokens_of, AreTokens}
use Rattle.rl_text.specs.Lines.{Word, word_of}
use Rattle.rl_text.specs.Lexemes.{lexeme_of, is_end, lexemes}
use Rattle.rl_text.specs.Front.{verilog_front, front, number_front, digits_front, bit_part_len}
use Rattle.verilog_text.specs.Grammar.{name, number, bits, sign, open_, close, comma, semicolon, takes}
use Rattle.verilog_text.specs.Statements.{words_of}

abbrev pub with_word : Option Kind → List ℕ → List Word → List Word
with_word None bytes ws = ws
with_word (Some k) bytes ws = cond (not (is_end k)) (record { kind = k; bytes = bytes } ∷ ws) ws

-- the words of pieces: one for each that is no gap
abbrev pub words_in : List Piece → List Word
words_in [] = []
words_in (p ∷ ps) = with_word p.kind p.bytes (words_in ps)

-- each piece is the one that is computed at the front of what is left
abbrev pub AreFronts : List Piece → Type 0
AreFronts [] = Unit {0}
AreFronts (p ∷ ps) = (front style.Verilog (p.bytes ++ joined ps) ≡ Some (p.kind, length p.bytes)) × AreFronts ps

-- the text falls into such pieces, and these are their words
pub record Reads (text : List ℕ) (ws : List Word) : Type 0 where
  pub pieces : List Piece
  pub split : text ≡ joined pieces
  pub fronts : AreFronts pieces
  pub words : ws ≡ words_in pieces

pub reads_nothing : Reads [] []
reads_nothing = record { pieces = []; split = refl; fronts = tt; words = refl }

-- a piece more at the front
pub reads_more : (k : Option Kind) (bytes rest : List ℕ) (ws : List Word) → front style.Verilog (bytes ++ rest) ≡ Some (k, length bytes) → Reads rest ws → Reads (bytes ++ rest) (with_word k bytes ws)
reads_more k bytes rest ws f r =
    record {
      pieces = record { kind = k; bytes = bytes } ∷ r.pieces;
      split = ap (λ (b : List ℕ). bytes ++ b) r.split;
      fronts = (subst (λ (b : List ℕ). front style.Verilog (bytes ++ b) ≡ Some (k, length bytes)) r.split f, r.fronts);
      words = ap (with_word k bytes) r.words;
    }

-- ---- names, numbers and bits, with something after them that doesn't go on with them

abbrev pub halts : (ℕ → Bool) → List ℕ → Bool
halts p [] = true
halts p (b ∷ bytes) = not (p b)

abbrev pub stops : List ℕ → Bool
stops rest = halts is_verilog_name_byte rest

run : (p : ℕ → Bool) (bytes rest : List ℕ) → list_all p bytes ≡ true → halts p rest ≡ true → prefix_len p (bytes ++ rest) ≡ length bytes
run p [] [] h s = refl
run p [] (c ∷ rest) h s = rw (not-true (p c) s) refl
run p (b ∷ bytes) rest h s = let a = and_parts (p b) (list_all p bytes) h in rw (a.0, run p bytes rest a.1 s) (omega arith)

bit_goes_on : (b : ℕ) → not (is_verilog_name_byte b) ≡ true → not (is_bit b) ≡ true
bit_goes_on b h = grind (arith, nat_tests)

halts_bits : (rest : List ℕ) → stops rest ≡ true → halts is_bit rest ≡ true
halts_bits [] h = refl
halts_bits (b ∷ rest) h = bit_goes_on b h

digit_starts_no_name : (b : ℕ) → is_digit b ≡ true → is_name_start b ≡ false
digit_starts_no_name b h = grind (arith, nat_tests)

front_name : (b : ℕ) (bytes : List ℕ) → is_name_start b ≡ true → verilog_front (b ∷ bytes) ≡ Some (Some kind.Name, prefix_len is_verilog_name_byte bytes + 1)
unfolding verilog_front
front_name b bytes h = rw h refl

front_digit : (b : ℕ) (bytes : List ℕ) → is_digit b ≡ true → verilog_front (b ∷ bytes) ≡ Some (number_front bytes)
unfolding verilog_front
front_digit b bytes h = rw (digit_starts_no_name b h, h) refl

pub reads_name : {rest : List ℕ} {ws : List Word} (t : List ℕ) → is_verilog_name t ≡ true → stops rest ≡ true → Reads rest ws → Reads (t ++ rest) (name t ∷ ws)
reads_name [] h s r = absurd cc
reads_name {rest = rest} {ws = ws} (b ∷ bytes) h s r =
    let a = and_parts (is_name_start b) (list_all is_verilog_name_byte bytes) h in
    let len : prefix_len is_verilog_name_byte (bytes ++ rest) + 1 ≡ length (b ∷ bytes) = omega (arith, run is_verilog_name_byte bytes rest a.1 s) in
    reads_more (Some kind.Name) (b ∷ bytes) rest ws (front_name b (bytes ++ rest) a.0 ∙ ap (λ (n : ℕ). Some (Some kind.Name, n)) len) r

-- what begins with this byte goes on with no number and makes no bits of it
abbrev pub ends_number : ℕ → Bool
ends_number c = not (is_digit c) && not (eqb c 39)

no_bits : (c : ℕ) (rest : List ℕ) → eqb c 39 ≡ false → bit_part_len (c ∷ rest) ≡ None
no_bits c [] h = refl
no_bits c (b ∷ []) h = refl
no_bits c (b ∷ d ∷ rest) h = rw h refl

-- the digits at the front, with this after them
digits_are : (bytes rest : List ℕ) → list_all is_digit bytes ≡ true → halts is_digit rest ≡ true → number_front (bytes ++ rest) ≡ digits_front (length bytes + 1) (bit_part_len rest)
digits_are bytes rest h s =
    let len = run is_digit bytes rest h s in
    rw (len, drop_at bytes rest (length bytes) refl) refl

pub reads_number : {rest : List ℕ} {ws : List Word} (t : List ℕ) (c : ℕ) → is_number t ≡ true → ends_number c ≡ true → Reads (c ∷ rest) ws → Reads (t ++ c ∷ rest) (number t ∷ ws)
reads_number [] c h s r = absurd cc
reads_number {rest = rest} {ws = ws} (b ∷ bytes) c h s r =
    let a = and_parts (is_digit b) (list_all is_digit bytes) h in
    let e = and_parts (not (is_digit c)) (not (eqb c 39)) s in
    let is = digits_are bytes (c ∷ rest) a.1 e.0 ∙ ap (digits_front (length bytes + 1)) (no_bits c rest (not-true (eqb c 39) e.1)) in
    let len : length bytes + 1 ≡ length (b ∷ bytes) = omega arith in
    reads_more (Some kind.Number) (b ∷ bytes) (c ∷ rest) ws (front_digit b (bytes ++ c ∷ rest) a.0 ∙ ap (λ (n : Option Kind × ℕ). Some n) is ∙ ap (λ (n : ℕ). Some (Some kind.Number, n)) len) r

one_bit : (z : ℕ) (rest : List ℕ) → is_bit z ≡ true → halts is_bit rest ≡ true → bit_part_len (39 ∷ 98 ∷ z ∷ rest) ≡ Some 3
one_bit z [] h s = rw h refl
one_bit z (b ∷ rest) h s = rw (h, not-true (is_bit b) s) refl

-- `W'bZ` with one bit Z
pub reads_bits : {rest : List ℕ} {ws : List Word} (t : List ℕ) (z : ℕ) → is_number t ≡ true → is_bit z ≡ true → stops rest ≡ true → Reads rest ws
    → Reads ((t ++ 39 ∷ 98 ∷ z ∷ []) ++ rest) (bits (t ++ 39 ∷ 98 ∷ z ∷ []) ∷ ws)
reads_bits [] z h g s r = absurd cc
reads_bits {rest = rest} {ws = ws} (b ∷ bytes) z h g s r =
    let a = and_parts (is_digit b) (list_all is_digit bytes) h in
    let is = digits_are bytes (39 ∷ 98 ∷ z ∷ rest) a.1 refl ∙ ap (digits_front (length bytes + 1)) (one_bit z rest g (halts_bits rest s)) in
    let len : length bytes + 1 + 3 ≡ length (b ∷ bytes ++ 39 ∷ 98 ∷ z ∷ []) = omega (arith, length-append bytes (39 ∷ 98 ∷ z ∷ [])) in
    let whole : b ∷ ((bytes ++ 39 ∷ 98 ∷ z ∷ []) ++ rest) ≡ b ∷ (bytes ++ 39 ∷ 98 ∷ z ∷ rest) = ap (λ (x : List ℕ). b ∷ x) (append_assoc bytes (39 ∷ 98 ∷ z ∷ []) rest) in
    reads_more (Some kind.Bits) (b ∷ bytes ++ 39 ∷ 98 ∷ z ∷ []) rest ws
    (ap verilog_front whole ∙ front_digit b (bytes ++ 39 ∷ 98 ∷ z ∷ rest) a.0 ∙ ap (λ (n : Option Kind × ℕ). Some n) is ∙ ap (λ (n : ℕ). Some (Some kind.Bits, n)) len) r

-- ---- signs, spaces and newlines

-- a sign of one byte
pub reads_sign : {rest : List ℕ} {ws : List Word} (c : ℕ) → verilog_front (c ∷ rest) ≡ Some (Some kind.Symbol, 1) → Reads rest ws → Reads (c ∷ rest) (sign (c ∷ []) ∷ ws)
reads_sign {rest = rest} {ws = ws} c f r = reads_more (Some kind.Symbol) (c ∷ []) rest ws f r

pub reads_open : {rest : List ℕ} {ws : List Word} → Reads rest ws → Reads (40 ∷ rest) (open_ ∷ ws)
unfolding verilog_front
reads_open r = reads_sign 40 refl r

pub reads_close : {rest : List ℕ} {ws : List Word} → Reads rest ws → Reads (41 ∷ rest) (close ∷ ws)
unfolding verilog_front
reads_close r = reads_sign 41 refl r

pub reads_comma : {rest : List ℕ} {ws : List Word} → Reads rest ws → Reads (44 ∷ rest) (comma ∷ ws)
unfolding verilog_front
reads_comma r = reads_sign 44 refl r

pub reads_semicolon : {rest : List ℕ} {ws : List Word} → Reads rest ws → Reads (59 ∷ rest) (semicolon ∷ ws)
unfolding verilog_front
reads_semicolon r = reads_sign 59 refl r

pub reads_left : {rest : List ℕ} {ws : List Word} → Reads rest ws → Reads (91 ∷ rest) (sign (codes "[") ∷ ws)
unfolding verilog_front
reads_left r = reads_sign 91 refl r

pub reads_right : {rest : List ℕ} {ws : List Word} → Reads rest ws → Reads (93 ∷ rest) (sign (codes "]") ∷ ws)
unfolding verilog_front
reads_right r = reads_sign 93 refl r

pub reads_colon : {rest : List ℕ} {ws : List Word} → Reads rest ws → Reads (58 ∷ rest) (sign (codes ":") ∷ ws)
unfolding verilog_front
reads_colon r = reads_sign 58 refl r

pub reads_opening : {rest : List ℕ} {ws : List Word} → Reads rest ws → Reads (123 ∷ rest) (sign (codes "{") ∷ ws)
unfolding verilog_front
reads_opening r = reads_sign 123 refl r

pub reads_closing : {rest : List ℕ} {ws : List Word} → Reads rest ws → Reads (125 ∷ rest) (sign (codes "}") ∷ ws)
unfolding verilog_front
reads_closing r = reads_sign 125 refl r

pub reads_equals : {rest : List ℕ} {ws : List Word} → Reads rest ws → Reads (61 ∷ rest) (sign (codes "=") ∷ ws)
unfolding verilog_front
reads_equals r = reads_sign 61 refl r

pub reads_not : {rest : List ℕ} {ws : List Word} → Reads rest ws → Reads (126 ∷ rest) (sign (codes "~") ∷ ws)
unfolding verilog_front
reads_not r = reads_sign 126 refl r

pub reads_and : {rest : List ℕ} {ws : List Word} → Reads rest ws → Reads (38 ∷ rest) (sign (codes "&") ∷ ws)
unfolding verilog_front
reads_and r = reads_sign 38 refl r

pub reads_or : {rest : List ℕ} {ws : List Word} → Reads rest ws → Reads (124 ∷ rest) (sign (codes "|") ∷ ws)
unfolding verilog_front
reads_or r = reads_sign 124 refl r

pub reads_at : {rest : List ℕ} {ws : List Word} → Reads rest ws → Reads (64 ∷ rest) (sign (codes "@") ∷ ws)
unfolding verilog_front
reads_at r = reads_sign 64 refl r

pub reads_takes : {rest : List ℕ} {ws : List Word} → Reads rest ws → Reads (60 ∷ 61 ∷ rest) (takes ∷ ws)
unfolding verilog_front
reads_takes {rest = rest} {ws = ws} r = reads_more (Some kind.Symbol) (codes "<=") rest ws refl r

pub reads_space : {rest : List ℕ} {ws : List Word} → Reads rest ws → Reads (32 ∷ rest) ws
unfolding verilog_front
reads_space {rest = rest} {ws = ws} r = reads_more None (codes " ") rest ws refl r

pub reads_newline : {rest : List ℕ} {ws : List Word} → Reads rest ws → Reads (10 ∷ rest) ws
unfolding verilog_front
reads_newline {rest = rest} {ws = ws} r = reads_more None (codes "\n") rest ws refl r

-- ---- the tokens of a text that is read, and their words

slice_is : (before bytes rest : List ℕ) → slice_range (before ++ (bytes ++ rest)) (length before) (length before + length bytes) ≡ bytes
slice_is before bytes rest =
    let n : length before + length bytes - length before ≡ length bytes = omega arith in
    rw (n, drop_at before (bytes ++ rest) (length before) refl) (take_at bytes rest (length bytes) refl)

word_is : (k : Kind) (text before bytes rest : List ℕ) → text ≡ before ++ (bytes ++ rest) → word_of text (token k before bytes) ≡ record { kind = k; bytes = bytes }
word_is k text before bytes rest e =
    let sliced : slice_range text (length before) (length before + length bytes) ≡ bytes = rw e (slice_is before bytes rest) in
    λ i. record { kind = k; bytes = sliced i }

-- the words of the tokens that aren't End
abbrev lexed_words : List ℕ → List Token → List Word
lexed_words text ts = words_of (lexemes text ts)

word_more : (k : Option Kind) (text before bytes rest : List ℕ) (ts : List Token) → text ≡ before ++ (bytes ++ rest) → lexed_words text (with_token k before bytes ts) ≡ with_word k bytes (lexed_words text ts)
word_more None text before bytes rest ts e = refl
word_more (Some k) text before bytes rest ts e = turn (not (is_end k)) where
  turn : (b : Bool) → words_of (map (lexeme_of text) (cond b (token k before bytes ∷ filter (λ t. not (is_end t.kind)) ts) (filter (λ t. not (is_end t.kind)) ts)))
      ≡ cond b (record { kind = k; bytes = bytes } ∷ lexed_words text ts) (lexed_words text ts)
  turn true = ap (λ (w : Word). w ∷ lexed_words text ts) (word_is k text before bytes rest e)
  turn false = refl

words_are : (text before : List ℕ) (ps : List Piece) → text ≡ before ++ joined ps → lexed_words text (tokens_of before ps) ≡ words_in ps
words_are text before [] e = refl
words_are text before (p ∷ ps) e =
    word_more p.kind text before p.bytes (joined ps) (tokens_of (before ++ p.bytes) ps) e
    ∙ ap (with_word p.kind p.bytes) (words_are text (before ++ p.bytes) ps (e ∙ sym (append_assoc before p.bytes (joined ps))))

-- what is known of the piece that is computed at the front of a text
abbrev pub FrontIsLongest : Type 0
FrontIsLongest = (s : Style) (k : Option Kind) (n : ℕ) (text : List ℕ) → front s text ≡ Some (k, n) → IsLongest s (record { kind = k; bytes = take n text }) text

are_longest : FrontIsLongest → (ps : List Piece) → AreFronts ps → AreLongest style.Verilog ps []
are_longest front_is_longest [] h = tt
are_longest front_is_longest (p ∷ ps) h =
    let text = p.bytes ++ joined ps in
    let l = front_is_longest style.Verilog p.kind (length p.bytes) text h.0 in
    let m : IsLongest style.Verilog p text = subst (λ (b : List ℕ). IsLongest style.Verilog (record { kind = p.kind; bytes = b }) text) (take_at p.bytes (joined ps) (length p.bytes) refl) l in
    (subst (IsLongest style.Verilog p) (sym (append-nil (joined (p ∷ ps)))) m, are_longest front_is_longest ps h.1)

-- the text has tokens, with these words
pub record HasWords (text : List ℕ) (ws : List Word) : Type 0 where
  pub tokens : List Token
  pub lexed : AreTokens style.Verilog text tokens
  pub words : words_of (lexemes text tokens) ≡ ws

pub has_words : FrontIsLongest → (text : List ℕ) (ws : List Word) → Reads text ws → HasWords text ws
has_words front_is_longest text ws r = record {
  tokens = tokens_of [] r.pieces;
  lexed = record { pieces = r.pieces; split = r.split; longest = are_longest front_is_longest r.pieces r.fronts; listed = refl };
  words = words_are text [] r.pieces r.split ∙ sym r.words;
}
