-- In a text that has tokens, the line that the text begins with ends with the first newline.
use Rattle.std.proofs.Common.{◌≡◌, min, ℕ, suc, ◌+◌, Bool, true, false, cond, List, [], ◌∷◌, ◌++◌, length, drop, Option, Some, None, refl, sym, ap, subst, ◌∙◌, arith}
use Rattle.std.specs.Prelude.{count_by, codes}
use Rattle.std.specs.List.{prefix_len}
use Rattle.std.proofs.lemmas.List.{append-nil, drop_at, drop_min}
use Rattle.std.proofs.lemmas.List.Sums.{sum_by-cons}
use Rattle.std.proofs.lemmas.Slice.Eq.{bytes_eq-Decides}
use Rattle.rl_text.specs.declared.token.Kind.{Kind}
use Rattle.rl_text.specs.declared.token.Kind.TheVariants as kind
use Rattle.rl_text.specs.declared.token.Style.TheVariants as style
use Rattle.rl_text.specs.Pieces.{is_newline, is_comment_byte, is_piece, Piece, IsLongest, joined, AreLongest}
use Rattle.rl_text.specs.Tokens.{tokens_of}
use Rattle.rl_text.specs.Lines.{ends_line}
use Rattle.rl_text.specs.Front.{front}
use Rattle.rl_text.specs.Cursor.{HasTokens, lines_left, words_left, line_first}
use Rattle.rl_text.proofs.Fronts.{longest_is_front, front_at_end}
use Rattle.rl_text.proofs.CursorLines.{ends_one, ends_none, newlines_of}
use Rattle.rl_text.proofs.WordTurns.{IsOver, over_none, over_gap, over_one, over_end, over_all}

-- what follows the first newline of a text
abbrev pub after_newline : List ℕ → List ℕ
after_newline text = drop (prefix_len is_comment_byte text + 1) text

step : (b : ℕ) (bytes : List ℕ) → is_newline b ≡ false → after_newline (b ∷ bytes) ≡ after_newline bytes
step b bytes e =
    let n : prefix_len is_comment_byte (b ∷ bytes) + 1 ≡ suc (prefix_len is_comment_byte bytes + 1) = rw e (omega arith) in
    ap (λ (k : ℕ). drop k (b ∷ bytes)) n

skip_one : (b : ℕ) (bytes rest : List ℕ) (t : Bool) → is_newline b ≡ t → count_by is_newline (b ∷ bytes) ≡ 0 → (count_by is_newline bytes ≡ 0 → after_newline (bytes ++ rest) ≡ after_newline rest) → after_newline (b ∷ bytes ++ rest) ≡ after_newline rest
skip_one b bytes rest false e h f = step b (bytes ++ rest) e ∙ f (let n : count_by is_newline (b ∷ bytes) ≡ count_by is_newline bytes = rw e refl in sym n ∙ h)
skip_one b bytes rest true e h f = absurd (let n : count_by is_newline (b ∷ bytes) ≡ 1 + count_by is_newline bytes = sum_by-cons (λ (c : ℕ). cond (is_newline c) 1 0) b bytes ∙ (rw e refl) in omega (arith, n, h))

-- bytes without a newline are skipped
skip : (bytes rest : List ℕ) → count_by is_newline bytes ≡ 0 → after_newline (bytes ++ rest) ≡ after_newline rest
skip [] rest h = refl
skip (b ∷ bytes) rest h = skip_one b bytes rest (is_newline b) refl h (skip bytes rest)

all_there : (ps : List Piece) → AreLongest style.Race ps [] → HasTokens style.Race (joined ps)
all_there ps l = record { tokens = tokens_of [] ps; lexed = record { pieces = ps; split = refl; longest = l; listed = refl } }

-- the lines after the one that the text begins with are those after the first newline of the rest, which has tokens
record IsAfter (text rest : List ℕ) : Type 0 where
  lines : (n : ℕ) → lines_left n text ≡ line_first n (words_left text) (after_newline rest)
  tokens : HasTokens style.Race (after_newline rest)

moved : (text rest other : List ℕ) → after_newline rest ≡ after_newline other → IsAfter text other → IsAfter text rest
moved text rest other e h = record {
  lines = λ n. h.lines n ∙ ap (λ (after : List ℕ). line_first n (words_left text) after) (sym e);
  tokens = subst (HasTokens style.Race) (sym e) h.tokens;
}

front_at : (p : Piece) (ps : List Piece) → AreLongest style.Race (p ∷ ps) [] → front style.Race (p.bytes ++ joined ps) ≡ Some (p.kind, length p.bytes)
front_at p ps l = longest_is_front style.Race p (p.bytes ++ joined ps) (subst (IsLongest style.Race p) (append-nil (p.bytes ++ joined ps)) l.0)

behind_it : (p : Piece) (ps : List Piece) → joined ps ≡ drop (length p.bytes) (p.bytes ++ joined ps)
behind_it p ps = sym (drop_at p.bytes (joined ps) (length p.bytes) refl)

at_newline : (bytes after : List ℕ) → is_piece style.Race (Some kind.EndLine) bytes ≡ true → after_newline (bytes ++ after) ≡ after
at_newline bytes after h = ap (λ (b : List ℕ). after_newline (b ++ after)) ((bytes_eq-Decides bytes (codes "\n")).0 h)

-- a piece more of the line that the text begins with, where what is after the piece is known
module _ (text rest : List ℕ) (p : Piece) (ps : List Piece) (e : rest ≡ p.bytes ++ joined ps) (l : AreLongest style.Race (p ∷ ps) []) (o : IsOver text rest) (more : IsOver text (joined ps) → IsAfter text (joined ps)) where
  found : front style.Race rest ≡ Some (p.kind, length p.bytes)
  found = ap (front style.Race) e ∙ front_at p ps l

  behind : joined ps ≡ drop (length p.bytes) rest
  behind = behind_it p ps ∙ ap (drop (length p.bytes)) (sym e)

  is_piece_of : (k : Kind) → p.kind ≡ Some k → is_piece style.Race (Some k) p.bytes ≡ true
  is_piece_of k is = subst (λ (j : Option Kind). is_piece style.Race j p.bytes ≡ true) is l.0.begins.piece

  going_on : IsOver text (joined ps) → ends_one p.kind ≡ 0 → IsAfter text rest
  going_on over none = moved text rest (joined ps) (ap after_newline e ∙ skip p.bytes (joined ps) (newlines_of p.kind p.bytes l.0.begins.piece ∙ none)) (more over)

  at_end_of_line : p.kind ≡ Some kind.EndLine → IsAfter text rest
  at_end_of_line is =
      let here : after_newline rest ≡ joined ps = ap after_newline e ∙ at_newline p.bytes (joined ps) (is_piece_of kind.EndLine is) in
      record {
        lines = λ n. over_end text (length p.bytes) rest (joined ps) p.kind found behind o kind.EndLine is refl n ∙ ap (λ (after : List ℕ). line_first n (words_left text) after) (sym here);
        tokens = subst (HasTokens style.Race) (sym here) (all_there ps l.1);
      }

  over_a_word : (k : Kind) → ends_line k ≡ false → p.kind ≡ Some k → IsAfter text rest
  over_a_word k w is = going_on (over_one text (length p.bytes) rest (joined ps) p.kind found behind o k is w) (ap ends_one is ∙ ends_none k w)

  over_piece_of : (k : Option Kind) → p.kind ≡ k → IsAfter text rest
  over_piece_of None is = going_on (over_gap text (length p.bytes) rest (joined ps) p.kind found behind o is) (ap ends_one is)
  over_piece_of (Some kind.EndLine) is = at_end_of_line is
  over_piece_of (Some kind.End) is = absurd (let x = is_piece_of kind.End is in cc)
  over_piece_of (Some kind.Name) is = over_a_word kind.Name refl is
  over_piece_of (Some kind.Number) is = over_a_word kind.Number refl is
  over_piece_of (Some kind.Bits) is = over_a_word kind.Bits refl is
  over_piece_of (Some kind.Symbol) is = over_a_word kind.Symbol refl is

-- a loop over the pieces, which takes those of the first line
after_all : (text rest : List ℕ) (ps : List Piece) → rest ≡ joined ps → AreLongest style.Race ps [] → IsOver text rest → IsAfter text rest
after_all text rest [] e l o = moved text rest [] (ap after_newline e) (record {
  lines = over_all text rest [] refl o (ap (front style.Race) e ∙ front_at_end style.Race);
  tokens = all_there [] tt;
})
after_all text rest (p ∷ ps) e l o = over_piece_of text rest p ps e l o (after_all text (joined ps) ps refl l.1) p.kind refl

after_it : (text : List ℕ) → HasTokens style.Race text → IsAfter text text
after_it text t = after_all text text t.lexed.pieces t.lexed.split t.lexed.longest (over_none text)

-- a cut there, which may be at the end of the text
module _ (text after : List ℕ) (count end : ℕ) (t : HasTokens style.Race text) (n : count ≡ prefix_len is_comment_byte text) (e : end ≡ min (count + 1) (length text)) (d : after ≡ drop end text) where
  is_after : after ≡ after_newline text
  is_after = d ∙ ap (λ (k : ℕ). drop k text) e ∙ drop_min (count + 1) text ∙ ap (λ (k : ℕ). drop (k + 1) text) n

  pub lines_after : (m : ℕ) → lines_left m text ≡ line_first m (words_left text) after
  lines_after m = (after_it text t).lines m ∙ ap (line_first m (words_left text)) (sym is_after)

  pub tokens_after : HasTokens style.Race after
  tokens_after = subst (HasTokens style.Race) (sym is_after) (after_it text t).tokens
