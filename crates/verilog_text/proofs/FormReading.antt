-- What is read as a statement is spelled so, and what is spelled so is read.
use Rattle.std.proofs.Common.{◌≡◌, ◌≢◌, ℕ, true, false, cond, List, [], ◌∷◌, ◌++◌, Option, Some, None, refl, sym, ap, subst, ◌∙◌, ◌&&◌}
use Rattle.std.specs.Prelude.{codes, flat_map}
use Rattle.std.specs.Str.{bytes_eq}
use Rattle.std.proofs.lemmas.Slice.Eq.{bytes_eq-Decides}
use Rattle.rl_text.specs.declared.token.Kind.TheVariants as kind
use Rattle.rl_text.specs.Lines.{Word}
use Rattle.rl_text.specs.Lexemes.{Lexeme}
use Rattle.verilog_text.specs.Grammar.{Expression, Low, High, Name, Bit, Not, Group, And, Or, Next, Whole, Shifted, Form, Header, Input, Output, Wire, Reg, Assign, Always, End, name, number, bits, sign, open_, close, comma, semicolon, takes, spelled, spelled_range, spelled_next, spelled_names, spelled_form, is_plain, IsExpression, IsNext, IsFormed}
use Rattle.verilog_text.specs.Statements.{MayPrecede}
use Rattle.verilog_text.specs.Reading.{◌>>=◌, is_name, is_number, is_bits, is_symbol, begins, after_sign, after_name, name_at, expression_at, range_at, shifted_at, next_at, more_names, names_at, header_at, declared_at, ranged_at, reg_at, assign_at, after_edge, after_reset, zeroed_at, update_at, always_at, end_at, by_word, form_at}
use Rattle.verilog_text.proofs.Words.{some_is, bind_some, Begins, joined, split, is_name-true, is_bits-true, is_number-true, is_symbol-true, same_word, word, after_some, after-word, begins-word, begins_some, bytes_some, bytes-word, number_some, number-word, turn}
use Rattle.verilog_text.proofs.Expressions.{Lacks, NoTerm, expression_some, expression_again}

-- one word more
more : (w : Word) (ws : List Word) (ls mid rest : List Lexeme) → Begins ls (w ∷ []) mid → Begins mid ws rest → Begins ls (w ∷ ws) rest
more w ws ls mid rest x y = joined (w ∷ []) ws ls mid rest x y

sign_some : (t : List ℕ) (ls rest : List Lexeme) → after_sign t ls ≡ Some rest → Begins ls (sign t ∷ []) rest
sign_some t ls rest e = after_some is_symbol kind.Symbol is_symbol-true t ls rest e

word_some : (t : List ℕ) (ls rest : List Lexeme) → after_name t ls ≡ Some rest → Begins ls (name t ∷ []) rest
word_some t ls rest e = after_some is_name kind.Name is_name-true t ls rest e

name_some : (ls : List Lexeme) (x : List ℕ × List Lexeme) → name_at ls ≡ Some x → Begins ls (name x.0 ∷ []) x.1
name_some ls x e = bytes_some is_name kind.Name is_name-true ls x e

declared_some : (ls : List Lexeme) (x : List ℕ × List Lexeme) → declared_at ls ≡ Some x → Begins ls (name x.0 ∷ semicolon ∷ []) x.1
unfolding declared_at
declared_some ls x e =
    let n = bind_some _ _ x e in
    let s = bind_some _ _ x n.2 in
    let made : List ℕ × List Lexeme = (n.0.0, s.0) in
    let w = more (name n.0.0) (semicolon ∷ []) ls n.0.1 s.0 (name_some ls n.0 n.1) (sign_some (codes ";") n.0.1 s.0 s.1) in
    subst (λ (y : List ℕ × List Lexeme). Begins ls (name y.0 ∷ semicolon ∷ []) y.1) (some_is made x s.2) w

record IsRange (ls : List Lexeme) (x : List ℕ × List Lexeme) : Type 0 where
  words : Begins ls (spelled_range x.0) x.1
  plain : is_plain x.0 ≡ true

range_some : (ls : List Lexeme) (x : List ℕ × List Lexeme) → range_at ls ≡ Some x → IsRange ls x
unfolding range_at
range_some ls x e =
    let o = bind_some _ _ x e in
    let m = bind_some _ _ x o.2 in
    let c = bind_some _ _ x m.2 in
    let z = bind_some _ _ x c.2 in
    let b = bind_some _ _ x z.2 in
    let made : List ℕ × List Lexeme = (m.0.0, b.0) in
    let n = number_some o.0 m.0 m.1 in
    let w3 = more (number (codes "0")) (sign (codes "]") ∷ []) c.0 z.0 b.0 (after_some is_number kind.Number is_number-true (codes "0") c.0 z.0 z.1) (sign_some (codes "]") z.0 b.0 b.1) in
    let w2 = more (sign (codes ":")) (number (codes "0") ∷ sign (codes "]") ∷ []) m.0.1 c.0 b.0 (sign_some (codes ":") m.0.1 c.0 c.1) w3 in
    let w1 = more (number m.0.0) (sign (codes ":") ∷ number (codes "0") ∷ sign (codes "]") ∷ []) o.0 m.0.1 b.0 n.0 w2 in
    let w = more (sign (codes "[")) (number m.0.0 ∷ sign (codes ":") ∷ number (codes "0") ∷ sign (codes "]") ∷ []) ls o.0 b.0 (sign_some (codes "[") ls o.0 o.1) w1 in
    subst (λ (y : List ℕ × List Lexeme). IsRange ls y) (some_is made x b.2) (record { words = w; plain = n.1 })

record IsNextRead (ls : List Lexeme) (x : Next × List Lexeme) : Type 0 where
  words : Begins ls (spelled_next x.0) x.1
  formed : IsNext x.0

shifted_some : (ls : List Lexeme) (x : Next × List Lexeme) → shifted_at ls ≡ Some x → IsNextRead ls x
unfolding shifted_at
shifted_some ls x e =
    let o = bind_some _ _ x e in
    let r = bind_some _ _ x o.2 in
    let k = bind_some _ _ x r.2 in
    let c = bind_some _ _ x k.2 in
    let a = bind_some _ _ x c.2 in
    let b = bind_some _ _ x a.2 in
    let made : Next × List Lexeme = (Shifted r.0.0 k.0.0 a.0.0, b.0) in
    let n = range_some r.0.1 k.0 k.1 in
    let s = expression_some c.0 a.0 a.1 in
    let w4 = joined (spelled a.0.0) (sign (codes "}") ∷ []) c.0 a.0.1 b.0 s.words (sign_some (codes "}") a.0.1 b.0 b.1) in
    let w3 = more comma (spelled a.0.0 ++ (sign (codes "}") ∷ [])) k.0.1 c.0 b.0 (sign_some (codes ",") k.0.1 c.0 c.1) w4 in
    let w2 = joined (spelled_range k.0.0) (comma ∷ (spelled a.0.0 ++ (sign (codes "}") ∷ []))) r.0.1 k.0.1 b.0 n.words w3 in
    let w1 = more (name r.0.0) (spelled_range k.0.0 ++ (comma ∷ (spelled a.0.0 ++ (sign (codes "}") ∷ [])))) o.0 r.0.1 b.0 (name_some o.0 r.0 r.1) w2 in
    let w = more (sign (codes "{")) (name r.0.0 ∷ (spelled_range k.0.0 ++ (comma ∷ (spelled a.0.0 ++ (sign (codes "}") ∷ []))))) ls o.0 b.0 (sign_some (codes "{") ls o.0 o.1) w1 in
    subst (λ (y : Next × List Lexeme). IsNextRead ls y) (some_is made x b.2) (record { words = w; formed = (n.plain, s.is) })

next_some : (ls : List Lexeme) (x : Next × List Lexeme) → next_at ls ≡ Some x → IsNextRead ls x
unfolding next_at
next_some ls x e =
    turn (IsNextRead ls x) (begins is_symbol (codes "{") ls) (shifted_at ls) (expression_at ls >>= (λ a. Some (Whole a.0, a.1))) x
    (λ y h. shifted_some ls x h)
    (λ y h.
    let a = bind_some (expression_at ls) (λ a. Some (Whole a.0, a.1)) x h in
    let s = expression_some ls a.0 a.1 in
    let made : Next × List Lexeme = (Whole a.0.0, a.0.1) in
    subst (λ (y : Next × List Lexeme). IsNextRead ls y) (some_is made x a.2) (record { words = s.words; formed = s.is })) e

-- ---- names with commas between them

abbrev behind_commas : List (List ℕ) → List Word
behind_commas ns = flat_map (λ m. comma ∷ name m ∷ []) ns

more_some : (ls : List Lexeme) (x : List (List ℕ) × List Lexeme) → more_names ls ≡ Some x → Begins ls (behind_commas x.0) x.1
more_some [] x e =
    let made : List (List ℕ) × List Lexeme = ([], []) in
    subst (λ (y : List (List ℕ) × List Lexeme). Begins [] (behind_commas y.0) y.1) (some_is made x e) refl
more_some (c ∷ []) x e =
    let made : List (List ℕ) × List Lexeme = ([], c ∷ []) in
    turn (Begins (c ∷ []) (behind_commas x.0) x.1) (begins is_symbol (codes ",") (c ∷ [])) None (Some made) x (λ y h. absurd cc)
    (λ y h. subst (λ (y : List (List ℕ) × List Lexeme). Begins (c ∷ []) (behind_commas y.0) y.1) (some_is made x h) refl) e
more_some (c ∷ n ∷ ls) x e =
    let made : List (List ℕ) × List Lexeme = ([], c ∷ n ∷ ls) in
    turn (Begins (c ∷ n ∷ ls) (behind_commas x.0) x.1) (begins is_symbol (codes ",") (c ∷ n ∷ ls)) (cond (is_name n.word.kind) (more_names ls >>= (λ ns. Some (n.word.bytes ∷ ns.0, ns.1))) None) (Some made) x
    (λ y h.
    turn (Begins (c ∷ n ∷ ls) (behind_commas x.0) x.1) (is_name n.word.kind) (more_names ls >>= (λ ns. Some (n.word.bytes ∷ ns.0, ns.1))) None x
    (λ z g.
    let b = bind_some (more_names ls) (λ ns. Some (n.word.bytes ∷ ns.0, ns.1)) x g in
    let first = begins_some is_symbol kind.Symbol is_symbol-true (codes ",") (c ∷ n ∷ ls) y in
    let second = same_word n.word kind.Name n.word.bytes (is_name-true n.word.kind z) refl in
    let read : List (List ℕ) × List Lexeme = (n.word.bytes ∷ b.0.0, b.0.1) in
    subst (λ (y : List (List ℕ) × List Lexeme). Begins (c ∷ n ∷ ls) (behind_commas y.0) y.1) (some_is read x b.2) (first.0, (second, more_some ls b.0 b.1)))
    (λ z g. absurd cc) h)
    (λ y h. subst (λ (y : List (List ℕ) × List Lexeme). Begins (c ∷ n ∷ ls) (behind_commas y.0) y.1) (some_is made x h) refl) e

cons_is : (n : List ℕ) (ns : List (List ℕ)) → n ∷ ns ≢ []
cons_is n ns h = cc

record AreNames (ls : List Lexeme) (x : List (List ℕ) × List Lexeme) : Type 0 where
  words : Begins ls (spelled_names x.0) x.1
  some : x.0 ≢ []

names_some : (ls : List Lexeme) (x : List (List ℕ) × List Lexeme) → names_at ls ≡ Some x → AreNames ls x
unfolding names_at
names_some ls x e =
    let n = bind_some _ _ x e in
    let m = bind_some _ _ x n.2 in
    let made : List (List ℕ) × List Lexeme = (n.0.0 ∷ m.0.0, m.0.1) in
    subst (λ (y : List (List ℕ) × List Lexeme). AreNames ls y) (some_is made x m.2)
    (record { words = more (name n.0.0) (behind_commas m.0.0) ls n.0.1 m.0.1 (name_some ls n.0 n.1) (more_some n.0.1 m.0 m.1); some = cons_is n.0.0 m.0.0 })

-- ---- statements

-- the words begin with this statement, and then there is the rest
pub record IsForm (ls : List Lexeme) (f : Form) (rest : List Lexeme) : Type 0 where
  pub words : Begins ls (spelled_form f) rest
  pub formed : IsFormed f
  pub whole : MayPrecede f rest

header_some : (l : Lexeme) (ls : List Lexeme) (x : Form × List Lexeme) → l.word ≡ name (codes "module") → header_at ls ≡ Some x → IsForm (l ∷ ls) x.0 x.1
unfolding header_at
header_some l ls x is e =
    let n = bind_some _ _ x e in
    let o = bind_some _ _ x n.2 in
    let p = bind_some _ _ x o.2 in
    let c = bind_some _ _ x p.2 in
    let s = bind_some _ _ x c.2 in
    let made : Form × List Lexeme = (Header n.0.0 p.0.0, s.0) in
    let ports = names_some o.0 p.0 p.1 in
    let w4 = more close (semicolon ∷ []) p.0.1 c.0 s.0 (sign_some (codes ")") p.0.1 c.0 c.1) (sign_some (codes ";") c.0 s.0 s.1) in
    let w3 = joined (spelled_names p.0.0) (close ∷ semicolon ∷ []) o.0 p.0.1 s.0 ports.words w4 in
    let w2 = more open_ (spelled_names p.0.0 ++ (close ∷ semicolon ∷ [])) n.0.1 o.0 s.0 (sign_some (codes "(") n.0.1 o.0 o.1) w3 in
    let w1 = more (name n.0.0) (open_ ∷ (spelled_names p.0.0 ++ (close ∷ semicolon ∷ []))) ls n.0.1 s.0 (name_some ls n.0 n.1) w2 in
    subst (λ (y : Form × List Lexeme). IsForm (l ∷ ls) y.0 y.1) (some_is made x s.2) (record { words = (is, w1); formed = ports.some; whole = tt })

reg_some : (l : Lexeme) (ls : List Lexeme) (x : Form × List Lexeme) → l.word ≡ name (codes "reg") → reg_at ls ≡ Some x → IsForm (l ∷ ls) x.0 x.1
unfolding reg_at ranged_at
reg_some l ls x is e =
    turn (IsForm (l ∷ ls) x.0 x.1) (begins is_symbol (codes "[") ls) (ranged_at ls) (declared_at ls >>= (λ n. Some (Reg None n.0, n.1))) x
    (λ y h.
    let m = bind_some _ _ x h in
    let n = bind_some _ _ x m.2 in
    let made : Form × List Lexeme = (Reg (Some m.0.0) n.0.0, n.0.1) in
    let r = range_some ls m.0 m.1 in
    let w = joined (spelled_range m.0.0) (name n.0.0 ∷ semicolon ∷ []) ls m.0.1 n.0.1 r.words (declared_some m.0.1 n.0 n.1) in
    subst (λ (y : Form × List Lexeme). IsForm (l ∷ ls) y.0 y.1) (some_is made x n.2) (record { words = (is, w); formed = r.plain; whole = tt }))
    (λ y h.
    let n = bind_some (declared_at ls) (λ n. Some (Reg None n.0, n.1)) x h in
    let made : Form × List Lexeme = (Reg None n.0.0, n.0.1) in
    subst (λ (y : Form × List Lexeme). IsForm (l ∷ ls) y.0 y.1) (some_is made x n.2) (record { words = (is, declared_some ls n.0 n.1); formed = tt; whole = tt })) e

assign_some : (l : Lexeme) (ls : List Lexeme) (x : Form × List Lexeme) → l.word ≡ name (codes "assign") → assign_at ls ≡ Some x → IsForm (l ∷ ls) x.0 x.1
unfolding assign_at
assign_some l ls x is e =
    let n = bind_some _ _ x e in
    let o = bind_some _ _ x n.2 in
    let a = bind_some _ _ x o.2 in
    let b = bind_some _ _ x a.2 in
    let made : Form × List Lexeme = (Assign n.0.0 a.0.0, b.0) in
    let s = expression_some o.0 a.0 a.1 in
    let w3 = joined (spelled a.0.0) (semicolon ∷ []) o.0 a.0.1 b.0 s.words (sign_some (codes ";") a.0.1 b.0 b.1) in
    let w2 = more (sign (codes "=")) (spelled a.0.0 ++ (semicolon ∷ [])) n.0.1 o.0 b.0 (sign_some (codes "=") n.0.1 o.0 o.1) w3 in
    let w1 = more (name n.0.0) (sign (codes "=") ∷ (spelled a.0.0 ++ (semicolon ∷ []))) ls n.0.1 b.0 (name_some ls n.0 n.1) w2 in
    subst (λ (y : Form × List Lexeme). IsForm (l ∷ ls) y.0 y.1) (some_is made x b.2) (record { words = (is, w1); formed = s.is; whole = tt })

edge_some : (ls rest : List Lexeme) → after_edge ls ≡ Some rest → Begins ls (sign (codes "@") ∷ open_ ∷ name (codes "posedge") ∷ name (codes "clk") ∷ close ∷ []) rest
unfolding after_edge
edge_some ls rest e =
    let a = bind_some _ _ rest e in
    let b = bind_some _ _ rest a.2 in
    let c = bind_some _ _ rest b.2 in
    let d = bind_some _ _ rest c.2 in
    let w4 = more (name (codes "clk")) (close ∷ []) c.0 d.0 rest (word_some (codes "clk") c.0 d.0 d.1) (sign_some (codes ")") d.0 rest d.2) in
    let w3 = more (name (codes "posedge")) (name (codes "clk") ∷ close ∷ []) b.0 c.0 rest (word_some (codes "posedge") b.0 c.0 c.1) w4 in
    let w2 = more open_ (name (codes "posedge") ∷ name (codes "clk") ∷ close ∷ []) a.0 b.0 rest (sign_some (codes "(") a.0 b.0 b.1) w3 in
    more (sign (codes "@")) (open_ ∷ name (codes "posedge") ∷ name (codes "clk") ∷ close ∷ []) ls a.0 rest (sign_some (codes "@") ls a.0 a.1) w2

reset_some : (ls rest : List Lexeme) → after_reset ls ≡ Some rest → Begins ls (name (codes "if") ∷ open_ ∷ name (codes "rst") ∷ close ∷ []) rest
unfolding after_reset
reset_some ls rest e =
    let a = bind_some _ _ rest e in
    let b = bind_some _ _ rest a.2 in
    let c = bind_some _ _ rest b.2 in
    let w3 = more (name (codes "rst")) (close ∷ []) b.0 c.0 rest (word_some (codes "rst") b.0 c.0 c.1) (sign_some (codes ")") c.0 rest c.2) in
    let w2 = more open_ (name (codes "rst") ∷ close ∷ []) a.0 b.0 rest (sign_some (codes "(") a.0 b.0 b.1) w3 in
    more (name (codes "if")) (open_ ∷ name (codes "rst") ∷ close ∷ []) ls a.0 rest (word_some (codes "if") ls a.0 a.1) w2

-- `r <= z; else`
abbrev zeroed : List ℕ → List ℕ → List Word
zeroed r z = name r ∷ takes ∷ bits z ∷ semicolon ∷ name (codes "else") ∷ []

zeroed_some : (ls : List Lexeme) (x : (List ℕ × List ℕ) × List Lexeme) → zeroed_at ls ≡ Some x → Begins ls (zeroed x.0.0 x.0.1) x.1
unfolding zeroed_at
zeroed_some ls x e =
    let r = bind_some _ _ x e in
    let o = bind_some _ _ x r.2 in
    let z = bind_some _ _ x o.2 in
    let c = bind_some _ _ x z.2 in
    let b = bind_some _ _ x c.2 in
    let made : (List ℕ × List ℕ) × List Lexeme = ((r.0.0, z.0.0), b.0) in
    let w4 = more semicolon (name (codes "else") ∷ []) z.0.1 c.0 b.0 (sign_some (codes ";") z.0.1 c.0 c.1) (word_some (codes "else") c.0 b.0 b.1) in
    let w3 = more (bits z.0.0) (semicolon ∷ name (codes "else") ∷ []) o.0 z.0.1 b.0 (bytes_some is_bits kind.Bits is_bits-true o.0 z.0 z.1) w4 in
    let w2 = more takes (bits z.0.0 ∷ semicolon ∷ name (codes "else") ∷ []) r.0.1 o.0 b.0 (sign_some (codes "<=") r.0.1 o.0 o.1) w3 in
    let w1 = more (name r.0.0) (takes ∷ bits z.0.0 ∷ semicolon ∷ name (codes "else") ∷ []) ls r.0.1 b.0 (name_some ls r.0 r.1) w2 in
    subst (λ (y : (List ℕ × List ℕ) × List Lexeme). Begins ls (zeroed y.0.0 y.0.1) y.1) (some_is made x b.2) w1

-- `s <= e;`
abbrev updated : List ℕ → Next → List Word
updated s e = name s ∷ takes ∷ (spelled_next e ++ (semicolon ∷ []))

record IsUpdate (ls : List Lexeme) (x : (List ℕ × Next) × List Lexeme) : Type 0 where
  words : Begins ls (updated x.0.0 x.0.1) x.1
  formed : IsNext x.0.1

update_some : (ls : List Lexeme) (x : (List ℕ × Next) × List Lexeme) → update_at ls ≡ Some x → IsUpdate ls x
unfolding update_at
update_some ls x e =
    let s = bind_some _ _ x e in
    let o = bind_some _ _ x s.2 in
    let a = bind_some _ _ x o.2 in
    let b = bind_some _ _ x a.2 in
    let made : (List ℕ × Next) × List Lexeme = ((s.0.0, a.0.0), b.0) in
    let n = next_some o.0 a.0 a.1 in
    let w3 = joined (spelled_next a.0.0) (semicolon ∷ []) o.0 a.0.1 b.0 n.words (sign_some (codes ";") a.0.1 b.0 b.1) in
    let w2 = more takes (spelled_next a.0.0 ++ (semicolon ∷ [])) s.0.1 o.0 b.0 (sign_some (codes "<=") s.0.1 o.0 o.1) w3 in
    let w1 = more (name s.0.0) (takes ∷ (spelled_next a.0.0 ++ (semicolon ∷ []))) ls s.0.1 b.0 (name_some ls s.0 s.1) w2 in
    subst (λ (y : (List ℕ × Next) × List Lexeme). IsUpdate ls y) (some_is made x b.2) (record { words = w1; formed = n.formed })

always_some : (l : Lexeme) (ls : List Lexeme) (x : Form × List Lexeme) → l.word ≡ name (codes "always") → always_at ls ≡ Some x → IsForm (l ∷ ls) x.0 x.1
unfolding always_at
always_some l ls x is e =
    let a = bind_some _ _ x e in
    let b = bind_some _ _ x a.2 in
    let z = bind_some _ _ x b.2 in
    let u = bind_some _ _ x z.2 in
    let made : Form × List Lexeme = (Always z.0.0.0 z.0.0.1 u.0.0.0 u.0.0.1, u.0.1) in
    let n = update_some z.0.1 u.0 u.1 in
    let w3 = joined (zeroed z.0.0.0 z.0.0.1) (updated u.0.0.0 u.0.0.1) b.0 z.0.1 u.0.1 (zeroed_some b.0 z.0 z.1) n.words in
    let w2 = joined (name (codes "if") ∷ open_ ∷ name (codes "rst") ∷ close ∷ []) (zeroed z.0.0.0 z.0.0.1 ++ updated u.0.0.0 u.0.0.1) a.0 b.0 u.0.1 (reset_some a.0 b.0 b.1) w3 in
    let w1 = joined (sign (codes "@") ∷ open_ ∷ name (codes "posedge") ∷ name (codes "clk") ∷ close ∷ []) (name (codes "if") ∷ open_ ∷ name (codes "rst") ∷ close ∷ (zeroed z.0.0.0 z.0.0.1 ++ updated u.0.0.0 u.0.0.1)) ls a.0 u.0.1 (edge_some ls a.0 a.1) w2 in
    subst (λ (y : Form × List Lexeme). IsForm (l ∷ ls) y.0 y.1) (some_is made x u.2) (record { words = (is, w1); formed = n.formed; whole = tt })

end_some : (l : Lexeme) (ls : List Lexeme) (x : Form × List Lexeme) → l.word ≡ name (codes "endmodule") → end_at ls ≡ Some x → IsForm (l ∷ ls) x.0 x.1
unfolding end_at
end_some l [] x is e =
    let made : Form × List Lexeme = (End, []) in
    subst (λ (y : Form × List Lexeme). IsForm (l ∷ []) y.0 y.1) (some_is made x e) (record { words = (is, refl); formed = tt; whole = refl })
end_some l (m ∷ ls) x is e = absurd cc

-- `word n;`
declaration_some : (word : List ℕ) (f : List ℕ → Form) (l : Lexeme) (ls : List Lexeme) (x : Form × List Lexeme) → l.word ≡ name word
    → ((n : List ℕ) → spelled_form (f n) ≡ name word ∷ name n ∷ semicolon ∷ []) → ((n : List ℕ) → IsFormed (f n)) → ((n : List ℕ) (rest : List Lexeme) → MayPrecede (f n) rest)
    → (declared_at ls >>= (λ n. Some (f n.0, n.1))) ≡ Some x → IsForm (l ∷ ls) x.0 x.1
declaration_some word f l ls x is spell formed whole e =
    let n = bind_some (declared_at ls) (λ n. Some (f n.0, n.1)) x e in
    let made : Form × List Lexeme = (f n.0.0, n.0.1) in
    let w : Begins (l ∷ ls) (spelled_form (f n.0.0)) n.0.1 = subst (λ (ws : List Word). Begins (l ∷ ls) ws n.0.1) (sym (spell n.0.0)) (is, declared_some ls n.0 n.1) in
    subst (λ (y : Form × List Lexeme). IsForm (l ∷ ls) y.0 y.1) (some_is made x n.2) (record { words = w; formed = formed n.0.0; whole = whole n.0.0 n.0.1 })

by_word_some : (l : Lexeme) (ls : List Lexeme) (x : Form × List Lexeme) → l.word.kind ≡ kind.Name → by_word l.word.bytes ls ≡ Some x → IsForm (l ∷ ls) x.0 x.1
by_word_some l ls x k e =
    let P : Type 0 = IsForm (l ∷ ls) x.0 x.1 in
    let t = l.word.bytes in
    let is = λ (u : List ℕ) (h : bytes_eq t u ≡ true). same_word l.word kind.Name u k ((bytes_eq-Decides t u).0 h) in
    turn P (bytes_eq t (codes "module")) _ _ x (λ y h. header_some l ls x (is (codes "module") y) h)
    (λ n f. turn P (bytes_eq t (codes "input")) _ _ x (λ y h. declaration_some (codes "input") Input l ls x (is (codes "input") y) (λ n. refl) (λ n. tt) (λ n r. tt) h)
    (λ n f. turn P (bytes_eq t (codes "output")) _ _ x (λ y h. declaration_some (codes "output") Output l ls x (is (codes "output") y) (λ n. refl) (λ n. tt) (λ n r. tt) h)
    (λ n f. turn P (bytes_eq t (codes "wire")) _ _ x (λ y h. declaration_some (codes "wire") Wire l ls x (is (codes "wire") y) (λ n. refl) (λ n. tt) (λ n r. tt) h)
    (λ n f. turn P (bytes_eq t (codes "reg")) _ _ x (λ y h. reg_some l ls x (is (codes "reg") y) h)
    (λ n f. turn P (bytes_eq t (codes "assign")) _ _ x (λ y h. assign_some l ls x (is (codes "assign") y) h)
    (λ n f. turn P (bytes_eq t (codes "always")) _ _ x (λ y h. always_some l ls x (is (codes "always") y) h)
    (λ n f. turn P (bytes_eq t (codes "endmodule")) _ None x (λ y h. end_some l ls x (is (codes "endmodule") y) h) (λ n f. absurd cc) f) f) f) f) f) f) f) e

pub form_some : (ls : List Lexeme) (x : Form × List Lexeme) → form_at ls ≡ Some x → IsForm ls x.0 x.1
unfolding form_at
form_some [] x e = absurd cc
form_some (l ∷ ls) x e =
    turn (IsForm (l ∷ ls) x.0 x.1) (is_name l.word.kind) (by_word l.word.bytes ls) None x
    (λ y h. by_word_some l ls x (is_name-true l.word.kind y) h)
    (λ y h. absurd cc) e

-- ---- what is spelled is read

sign-again : (t : List ℕ) (ls rest : List Lexeme) → Begins ls (sign t ∷ []) rest → after_sign t ls ≡ Some rest
sign-again t ls rest x = after-word is_symbol kind.Symbol t ls rest refl x

word-again : (t : List ℕ) (ls rest : List Lexeme) → Begins ls (name t ∷ []) rest → after_name t ls ≡ Some rest
word-again t ls rest x = after-word is_name kind.Name t ls rest refl x

name-again : (t : List ℕ) (ls rest : List Lexeme) → Begins ls (name t ∷ []) rest → name_at ls ≡ Some (t, rest)
name-again t ls rest x = bytes-word is_name kind.Name t ls rest refl x

-- the words begin with another one
lacks : (t : List ℕ) (w : Word) (ws : List Word) (ls rest : List Lexeme) → Begins ls (w ∷ ws) rest → (is_symbol w.kind && bytes_eq w.bytes t) ≡ false → Lacks t ls
unfolding begins
lacks t w ws [] rest x n = absurd x
lacks t w ws (l ∷ ls) rest x n = subst (λ (v : Word). (is_symbol v.kind && bytes_eq v.bytes t) ≡ false) (sym x.0) n

has : (t : List ℕ) (ws : List Word) (ls rest : List Lexeme) → Begins ls (sign t ∷ ws) rest → begins is_symbol t ls ≡ true
has t ws [] rest x = absurd x
has t ws (l ∷ ls) rest x = begins-word is_symbol kind.Symbol t l ls refl x.0

no_term : (t : List ℕ) (ws : List Word) (ls rest : List Lexeme) → Begins ls (sign t ∷ ws) rest → bytes_eq t (codes "[") ≡ false → bytes_eq t (codes "&") ≡ false → bytes_eq t (codes "|") ≡ false → NoTerm ls
no_term t ws ls rest x a b c = (lacks (codes "[") (sign t) ws ls rest x a, lacks (codes "&") (sign t) ws ls rest x b, lacks (codes "|") (sign t) ws ls rest x c)

declared-again : (n : List ℕ) (ls rest : List Lexeme) → Begins ls (name n ∷ semicolon ∷ []) rest → declared_at ls ≡ Some (n, rest)
unfolding declared_at
declared-again n ls rest x =
    let a = split (name n ∷ []) (semicolon ∷ []) ls rest x in
    rw (name-again n ls a.0 a.1, sign-again (codes ";") a.0 rest a.2) refl

range-again : (m : List ℕ) (ls rest : List Lexeme) → is_plain m ≡ true → Begins ls (spelled_range m) rest → range_at ls ≡ Some (m, rest)
unfolding range_at
range-again m ls rest h x =
    let a = split (sign (codes "[") ∷ []) (number m ∷ sign (codes ":") ∷ number (codes "0") ∷ sign (codes "]") ∷ []) ls rest x in
    let b = split (number m ∷ []) (sign (codes ":") ∷ number (codes "0") ∷ sign (codes "]") ∷ []) a.0 rest a.2 in
    let c = split (sign (codes ":") ∷ []) (number (codes "0") ∷ sign (codes "]") ∷ []) b.0 rest b.2 in
    let d = split (number (codes "0") ∷ []) (sign (codes "]") ∷ []) c.0 rest c.2 in
    rw (sign-again (codes "[") ls a.0 a.1, number-word m a.0 b.0 h b.1, sign-again (codes ":") b.0 c.0 c.1, after-word is_number kind.Number (codes "0") c.0 d.0 refl d.1, sign-again (codes "]") d.0 rest d.2) refl

shifted-again : (r k : List ℕ) (e : Expression) (ls rest : List Lexeme) → is_plain k ≡ true → IsExpression e → Begins ls (spelled_next (Shifted r k e)) rest → shifted_at ls ≡ Some (Shifted r k e, rest)
unfolding shifted_at
shifted-again r k e ls rest h f x =
    let tail : List Word = comma ∷ (spelled e ++ (sign (codes "}") ∷ [])) in
    let a = split (sign (codes "{") ∷ []) (name r ∷ (spelled_range k ++ tail)) ls rest x in
    let b = split (name r ∷ []) (spelled_range k ++ tail) a.0 rest a.2 in
    let c = split (spelled_range k) tail b.0 rest b.2 in
    let d = split (comma ∷ []) (spelled e ++ (sign (codes "}") ∷ [])) c.0 rest c.2 in
    let s = split (spelled e) (sign (codes "}") ∷ []) d.0 rest d.2 in
    let ex = expression_again e d.0 s.0 (record { words = s.1; is = f }) (no_term (codes "}") [] s.0 rest s.2 refl refl refl) in
    rw (sign-again (codes "{") ls a.0 a.1, name-again r a.0 b.0 b.1, range-again k b.0 c.0 h c.1, sign-again (codes ",") c.0 d.0 d.1, ex, sign-again (codes "}") s.0 rest s.2) refl

-- an expression begins with no `{`
no_brace : (e : Expression) (ls rest : List Lexeme) → Begins ls (spelled e) rest → Lacks (codes "{") ls
no_brace (And a b) ls rest x = let s = split (spelled a) (sign (codes "&") ∷ spelled b) ls rest x in no_brace a ls s.0 s.1
no_brace (Or a b) ls rest x = let s = split (spelled a) (sign (codes "|") ∷ spelled b) ls rest x in no_brace a ls s.0 s.1
no_brace Low ls rest x = lacks (codes "{") (bits (codes "1'b0")) [] ls rest x refl
no_brace High ls rest x = lacks (codes "{") (bits (codes "1'b1")) [] ls rest x refl
no_brace (Name t) ls rest x = lacks (codes "{") (name t) [] ls rest x refl
no_brace (Bit t k) ls rest x = lacks (codes "{") (name t) (sign (codes "[") ∷ number k ∷ sign (codes "]") ∷ []) ls rest x refl
no_brace (Not a) ls rest x = lacks (codes "{") (sign (codes "~")) (spelled a) ls rest x refl
no_brace (Group a) ls rest x = lacks (codes "{") open_ (spelled a ++ (close ∷ [])) ls rest x refl

next-again : (n : Next) (ls rest : List Lexeme) → IsNext n → Begins ls (spelled_next n) rest → NoTerm rest → next_at ls ≡ Some (n, rest)
unfolding next_at
next-again (Whole e) ls rest f x t = rw (no_brace e ls rest x, expression_again e ls rest (record { words = x; is = f }) t) refl
next-again (Shifted r k e) ls rest f x t =
    rw (has (codes "{") (name r ∷ (spelled_range k ++ (comma ∷ (spelled e ++ (sign (codes "}") ∷ []))))) ls rest x) (shifted-again r k e ls rest f.0 f.1 x)

none-again : (ls : List Lexeme) → Lacks (codes ",") ls → more_names ls ≡ Some ([], ls)
none-again [] n = refl
none-again (c ∷ []) n = rw n refl
none-again (c ∷ m ∷ ls) n = rw n refl

more-again : (ns : List (List ℕ)) (ls rest : List Lexeme) → Begins ls (behind_commas ns) rest → Lacks (codes ",") rest → more_names ls ≡ Some (ns, rest)
more-again [] ls rest x n = ap more_names x ∙ none-again rest n
more-again (m ∷ ns) [] rest x n = absurd x
more-again (m ∷ ns) (c ∷ []) rest x n = absurd x.1
more-again (m ∷ ns) (c ∷ w ∷ ls) rest x n =
    let e : is_name w.word.kind ≡ true = ap (λ (v : Word). is_name v.kind) x.1.0 in
    rw (begins-word is_symbol kind.Symbol (codes ",") c (w ∷ ls) refl x.0, e, more-again ns ls rest x.1.1 n) (λ i. Some ((x.1.0 i).bytes ∷ ns, rest))

names-again : (ns : List (List ℕ)) (ls rest : List Lexeme) → ns ≢ [] → Begins ls (spelled_names ns) rest → Lacks (codes ",") rest → names_at ls ≡ Some (ns, rest)
unfolding names_at
names-again [] ls rest h x n = absurd (h refl)
names-again (m ∷ ns) ls rest h x n =
    let a = split (name m ∷ []) (behind_commas ns) ls rest x in
    rw (name-again m ls a.0 a.1, more-again ns a.0 rest a.2 n) refl

header-again : (n : List ℕ) (ports : List (List ℕ)) (ls rest : List Lexeme) → ports ≢ [] → Begins ls (name n ∷ open_ ∷ (spelled_names ports ++ (close ∷ semicolon ∷ []))) rest → header_at ls ≡ Some (Header n ports, rest)
unfolding header_at
header-again n ports ls rest h x =
    let a = split (name n ∷ []) (open_ ∷ (spelled_names ports ++ (close ∷ semicolon ∷ []))) ls rest x in
    let b = split (open_ ∷ []) (spelled_names ports ++ (close ∷ semicolon ∷ [])) a.0 rest a.2 in
    let c = split (spelled_names ports) (close ∷ semicolon ∷ []) b.0 rest b.2 in
    let d = split (close ∷ []) (semicolon ∷ []) c.0 rest c.2 in
    let ns = names-again ports b.0 c.0 h c.1 (lacks (codes ",") close (semicolon ∷ []) c.0 rest c.2 refl) in
    rw (name-again n ls a.0 a.1, sign-again (codes "(") a.0 b.0 b.1, ns, sign-again (codes ")") c.0 d.0 d.1, sign-again (codes ";") d.0 rest d.2) refl

reg-again : (m : Option (List ℕ)) (n : List ℕ) (l : Lexeme) (ls rest : List Lexeme) → IsForm (l ∷ ls) (Reg m n) rest → reg_at ls ≡ Some (Reg m n, rest)
unfolding reg_at ranged_at
reg-again None n l ls rest f =
    rw (lacks (codes "[") (name n) (semicolon ∷ []) ls rest f.words.1 refl, declared-again n ls rest f.words.1) refl
reg-again (Some m) n l ls rest f =
    let a = split (spelled_range m) (name n ∷ semicolon ∷ []) ls rest f.words.1 in
    rw (has (codes "[") (number m ∷ sign (codes ":") ∷ number (codes "0") ∷ sign (codes "]") ∷ name n ∷ semicolon ∷ []) ls rest f.words.1, range-again m ls a.0 f.formed a.1, declared-again n a.0 rest a.2) refl

assign-again : (n : List ℕ) (e : Expression) (ls rest : List Lexeme) → IsExpression e → Begins ls (name n ∷ sign (codes "=") ∷ (spelled e ++ (semicolon ∷ []))) rest → assign_at ls ≡ Some (Assign n e, rest)
unfolding assign_at
assign-again n e ls rest f x =
    let a = split (name n ∷ []) (sign (codes "=") ∷ (spelled e ++ (semicolon ∷ []))) ls rest x in
    let b = split (sign (codes "=") ∷ []) (spelled e ++ (semicolon ∷ [])) a.0 rest a.2 in
    let c = split (spelled e) (semicolon ∷ []) b.0 rest b.2 in
    let ex = expression_again e b.0 c.0 (record { words = c.1; is = f }) (no_term (codes ";") [] c.0 rest c.2 refl refl refl) in
    rw (name-again n ls a.0 a.1, sign-again (codes "=") a.0 b.0 b.1, ex, sign-again (codes ";") c.0 rest c.2) refl

edge-again : (ls rest : List Lexeme) → Begins ls (sign (codes "@") ∷ open_ ∷ name (codes "posedge") ∷ name (codes "clk") ∷ close ∷ []) rest → after_edge ls ≡ Some rest
unfolding after_edge
edge-again ls rest x =
    let a = split (sign (codes "@") ∷ []) (open_ ∷ name (codes "posedge") ∷ name (codes "clk") ∷ close ∷ []) ls rest x in
    let b = split (open_ ∷ []) (name (codes "posedge") ∷ name (codes "clk") ∷ close ∷ []) a.0 rest a.2 in
    let c = split (name (codes "posedge") ∷ []) (name (codes "clk") ∷ close ∷ []) b.0 rest b.2 in
    let d = split (name (codes "clk") ∷ []) (close ∷ []) c.0 rest c.2 in
    rw (sign-again (codes "@") ls a.0 a.1, sign-again (codes "(") a.0 b.0 b.1, word-again (codes "posedge") b.0 c.0 c.1, word-again (codes "clk") c.0 d.0 d.1) (sign-again (codes ")") d.0 rest d.2)

reset-again : (ls rest : List Lexeme) → Begins ls (name (codes "if") ∷ open_ ∷ name (codes "rst") ∷ close ∷ []) rest → after_reset ls ≡ Some rest
unfolding after_reset
reset-again ls rest x =
    let a = split (name (codes "if") ∷ []) (open_ ∷ name (codes "rst") ∷ close ∷ []) ls rest x in
    let b = split (open_ ∷ []) (name (codes "rst") ∷ close ∷ []) a.0 rest a.2 in
    let c = split (name (codes "rst") ∷ []) (close ∷ []) b.0 rest b.2 in
    rw (word-again (codes "if") ls a.0 a.1, sign-again (codes "(") a.0 b.0 b.1, word-again (codes "rst") b.0 c.0 c.1) (sign-again (codes ")") c.0 rest c.2)

zeroed-again : (r z : List ℕ) (ls rest : List Lexeme) → Begins ls (zeroed r z) rest → zeroed_at ls ≡ Some ((r, z), rest)
unfolding zeroed_at
zeroed-again r z ls rest x =
    let a = split (name r ∷ []) (takes ∷ bits z ∷ semicolon ∷ name (codes "else") ∷ []) ls rest x in
    let b = split (takes ∷ []) (bits z ∷ semicolon ∷ name (codes "else") ∷ []) a.0 rest a.2 in
    let c = split (bits z ∷ []) (semicolon ∷ name (codes "else") ∷ []) b.0 rest b.2 in
    let d = split (semicolon ∷ []) (name (codes "else") ∷ []) c.0 rest c.2 in
    rw (name-again r ls a.0 a.1, sign-again (codes "<=") a.0 b.0 b.1, bytes-word is_bits kind.Bits z b.0 c.0 refl c.1, sign-again (codes ";") c.0 d.0 d.1, word-again (codes "else") d.0 rest d.2) refl

update-again : (s : List ℕ) (n : Next) (ls rest : List Lexeme) → IsNext n → Begins ls (updated s n) rest → update_at ls ≡ Some ((s, n), rest)
unfolding update_at
update-again s n ls rest f x =
    let a = split (name s ∷ []) (takes ∷ (spelled_next n ++ (semicolon ∷ []))) ls rest x in
    let b = split (takes ∷ []) (spelled_next n ++ (semicolon ∷ [])) a.0 rest a.2 in
    let c = split (spelled_next n) (semicolon ∷ []) b.0 rest b.2 in
    rw (name-again s ls a.0 a.1, sign-again (codes "<=") a.0 b.0 b.1, next-again n b.0 c.0 f c.1 (no_term (codes ";") [] c.0 rest c.2 refl refl refl), sign-again (codes ";") c.0 rest c.2) refl

always-again : (r z s : List ℕ) (n : Next) (l : Lexeme) (ls rest : List Lexeme) → IsForm (l ∷ ls) (Always r z s n) rest → always_at ls ≡ Some (Always r z s n, rest)
unfolding always_at
always-again r z s n l ls rest f =
    let edge : List Word = sign (codes "@") ∷ open_ ∷ name (codes "posedge") ∷ name (codes "clk") ∷ close ∷ [] in
    let reset : List Word = name (codes "if") ∷ open_ ∷ name (codes "rst") ∷ close ∷ [] in
    let a = split edge (reset ++ (zeroed r z ++ updated s n)) ls rest f.words.1 in
    let b = split reset (zeroed r z ++ updated s n) a.0 rest a.2 in
    let c = split (zeroed r z) (updated s n) b.0 rest b.2 in
    rw (edge-again ls a.0 a.1, reset-again a.0 b.0 b.1, zeroed-again r z b.0 c.0 c.1, update-again s n c.0 rest f.formed c.2) refl

end-again : (ls rest : List Lexeme) → ls ≡ rest → rest ≡ [] → end_at ls ≡ Some (End, rest)
unfolding end_at
end-again [] rest e n = λ i. Some (End, sym n i)
end-again (l ∷ ls) rest e n = absurd (let f : l ∷ ls ≡ [] = e ∙ n in cc)

form-word : (l : Lexeme) (ls : List Lexeme) (t : List ℕ) (x : Form × List Lexeme) → l.word ≡ name t → by_word t ls ≡ Some x → form_at (l ∷ ls) ≡ Some x
unfolding form_at
form-word l ls t x is e = subst (λ (w : Word). cond (is_name w.kind) (by_word w.bytes ls) None ≡ Some x) (sym is) e

pub form_again : (f : Form) (ls rest : List Lexeme) → IsForm ls f rest → form_at ls ≡ Some (f, rest)
form_again (Header n ports) [] rest f = absurd f.words
form_again (Header n ports) (l ∷ ls) rest f = form-word l ls (codes "module") (Header n ports, rest) f.words.0 (header-again n ports ls rest f.formed f.words.1)
form_again (Input n) [] rest f = absurd f.words
form_again (Input n) (l ∷ ls) rest f = form-word l ls (codes "input") (Input n, rest) f.words.0 (ap (λ o. o >>= (λ n. Some (Input n.0, n.1))) (declared-again n ls rest f.words.1))
form_again (Output n) [] rest f = absurd f.words
form_again (Output n) (l ∷ ls) rest f = form-word l ls (codes "output") (Output n, rest) f.words.0 (ap (λ o. o >>= (λ n. Some (Output n.0, n.1))) (declared-again n ls rest f.words.1))
form_again (Wire n) [] rest f = absurd f.words
form_again (Wire n) (l ∷ ls) rest f = form-word l ls (codes "wire") (Wire n, rest) f.words.0 (ap (λ o. o >>= (λ n. Some (Wire n.0, n.1))) (declared-again n ls rest f.words.1))
form_again (Reg None n) [] rest f = absurd f.words
form_again (Reg None n) (l ∷ ls) rest f = form-word l ls (codes "reg") (Reg None n, rest) f.words.0 (reg-again None n l ls rest f)
form_again (Reg (Some m) n) [] rest f = absurd f.words
form_again (Reg (Some m) n) (l ∷ ls) rest f = form-word l ls (codes "reg") (Reg (Some m) n, rest) f.words.0 (reg-again (Some m) n l ls rest f)
form_again (Assign n e) [] rest f = absurd f.words
form_again (Assign n e) (l ∷ ls) rest f = form-word l ls (codes "assign") (Assign n e, rest) f.words.0 (assign-again n e ls rest f.formed f.words.1)
form_again (Always r z s n) [] rest f = absurd f.words
form_again (Always r z s n) (l ∷ ls) rest f = form-word l ls (codes "always") (Always r z s n, rest) f.words.0 (always-again r z s n l ls rest f)
form_again End [] rest f = absurd f.words
form_again End (l ∷ ls) rest f = form-word l ls (codes "endmodule") (End, rest) f.words.0 (end-again ls rest f.words.1 f.whole)
