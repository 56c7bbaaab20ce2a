-- A text has at most one answer.
use Rattle.std.proofs.Common.{◌≡◌, ℕ, List, [], ◌∷◌, Some, None, refl, sym, ap, subst, ◌∙◌, inl, inr}
use Rattle.std.specs.Prelude.{take}
use Rattle.rl_text.specs.declared.token.Token.{Token}
use Rattle.rl_text.specs.declared.token.Style.{Style}
use Rattle.rl_text.specs.declared.token.Style.TheVariants as style
use Rattle.rl_text.specs.Tokens.{line_behind, AreTokens, IsBad}
use Rattle.rl_text.specs.Lexemes.{lexemes}
use Rattle.verilog_text.specs.declared.rule.Rule.{Rule}
use Rattle.verilog_text.specs.declared.rule.Rule.TheVariants as rule
use Rattle.circuit.specs.Circuit.{Circuit}
use Rattle.verilog_text.specs.Judging.{SoFar, nothing_yet, after, module_of}
use Rattle.verilog_text.specs.Statements.{Statement, Start, AreStatements, FailsAt}
use Rattle.verilog_text.specs.Spelling.{AllStand, FirstBroken, SpellsModule, HasBadByte, LacksStatement, BreaksFirst, IsBroken}
use Rattle.verilog_text.proofs.Words.{some_is}
use Rattle.verilog_text.proofs.Opening as opening

-- what is known of the tokens of a text
abbrev pub OneList : Type 0
OneList = (s : Style) (text : List ℕ) (ts us : List Token) → AreTokens s text ts → AreTokens s text us → ts ≡ us

abbrev pub OneBad : Type 0
OneBad = (s : Style) (text : List ℕ) (p q : ℕ) → IsBad s text p → IsBad s text q → p ≡ q

abbrev pub NeverBoth : Type 0
NeverBoth = (s : Style) (text : List ℕ) (ts : List Token) (p : ℕ) → AreTokens s text ts → IsBad s text p → ⊥

same_last : (x : SoFar) (ss : List Statement) (p q : SoFar) → AllStand x ss p → AllStand x ss q → p ≡ q
same_last x [] p q a b = sym a ∙ b
same_last x (s ∷ ss) p q a b = same_last (after x s.form) ss p q a.1 b.1

stands_or_breaks : (x : SoFar) (ss : List Statement) (p : SoFar) (r : Rule) (k : ℕ) → AllStand x ss p → FirstBroken x ss r k → ⊥
stands_or_breaks x [] p r k a b = b
stands_or_breaks x (s ∷ ss) p r k a (inl b) = let e : None ≡ Some r = sym a.0 ∙ b.0 in cc
stands_or_breaks x (s ∷ ss) p r k a (inr b) = stands_or_breaks (after x s.form) ss p r k a.1 b.1

same_broken : (x : SoFar) (ss : List Statement) (r q : Rule) (k l : ℕ) → FirstBroken x ss r k → FirstBroken x ss q l → (r ≡ q) × (k ≡ l)
same_broken x [] r q k l a b = absurd a
same_broken x (s ∷ ss) r q k l (inl a) (inl b) = (some_is r q (sym a.0 ∙ b.0), a.1 ∙ sym b.1)
same_broken x (s ∷ ss) r q k l (inl a) (inr b) = absurd (let e : Some r ≡ None = sym a.0 ∙ b.0 in cc)
same_broken x (s ∷ ss) r q k l (inr a) (inl b) = absurd (let e : Some q ≡ None = sym b.0 ∙ a.0 in cc)
same_broken x (s ∷ ss) r q k l (inr a) (inr b) = same_broken (after x s.form) ss r q k l a.1 b.1

same_statements : (text : List ℕ) (x y : List Token) (ss ts : List Statement) → y ≡ x → AreStatements (lexemes text x) ss → AreStatements (lexemes text y) ts → ts ≡ ss
same_statements text x y ss ts e a b =
    opening.one_list Start (lexemes text x) ts ss (subst (λ (k : List Token). AreStatements (lexemes text k) ts) e b) a

pub one_module : OneList → (text : List ℕ) (m n : Circuit) → SpellsModule text m → SpellsModule text n → m ≡ n
one_module one_list text m n x y =
    let t = one_list style.Verilog text y.tokens x.tokens y.lexed x.lexed in
    let s = same_statements text x.tokens y.tokens x.statements y.statements t x.are y.are in
    let other : AllStand nothing_yet x.statements y.stand.0 = subst (λ (k : List Statement). AllStand nothing_yet k y.stand.0) s y.stand.1 in
    x.stand.2 ∙ ap module_of (same_last nothing_yet x.statements x.stand.0 y.stand.0 x.stand.1 other) ∙ sym y.stand.2

not_breaks : OneList → (text : List ℕ) (m : Circuit) (r : Rule) (k : ℕ) → SpellsModule text m → BreaksFirst text r k → ⊥
not_breaks one_list text m r k x y =
    let t = one_list style.Verilog text y.tokens x.tokens y.lexed x.lexed in
    let s = same_statements text x.tokens y.tokens x.statements y.statements t x.are y.are in
    stands_or_breaks nothing_yet x.statements x.stand.0 r k x.stand.1 (subst (λ (ss : List Statement). FirstBroken nothing_yet ss r k) s y.first)

pub no_broken_rule : OneList → NeverBoth → (text : List ℕ) (m : Circuit) (r : Rule) (line : ℕ) → SpellsModule text m → IsBroken text r line → ⊥
no_broken_rule one_list not_both text m rule.Syntax k x (inl b) = not_both style.Verilog text x.tokens b.place x.lexed b.bad
no_broken_rule one_list not_both text m rule.Syntax k x (inr b) =
    let t = one_list style.Verilog text b.tokens x.tokens b.lexed x.lexed in
    opening.stands_or_fails (lexemes text x.tokens) x.statements (line_behind text) k x.are (subst (λ (ts : List Token). FailsAt (lexemes text ts) (line_behind text) k) t b.fails)
no_broken_rule one_list not_both text m rule.Name k x b = not_breaks one_list text m rule.Name k x b
no_broken_rule one_list not_both text m rule.Order k x b = not_breaks one_list text m rule.Order k x b
no_broken_rule one_list not_both text m rule.Width k x b = not_breaks one_list text m rule.Width k x b
no_broken_rule one_list not_both text m rule.Limit k x b = not_breaks one_list text m rule.Limit k x b

-- a rule that is broken, of the three kinds
data Broken (text : List ℕ) (r : Rule) (k : ℕ) : Type 0 where
  ByByte : r ≡ rule.Syntax → HasBadByte text k → Broken text r k
  ByPlace : r ≡ rule.Syntax → LacksStatement text k → Broken text r k
  ByRule : BreaksFirst text r k → Broken text r k

broken : (text : List ℕ) (r : Rule) (k : ℕ) → IsBroken text r k → Broken text r k
broken text rule.Syntax k (inl b) = ByByte refl b
broken text rule.Syntax k (inr b) = ByPlace refl b
broken text rule.Name k b = ByRule b
broken text rule.Order k b = ByRule b
broken text rule.Width k b = ByRule b
broken text rule.Limit k b = ByRule b

place_or_rule : OneList → (text : List ℕ) (r : Rule) (k l : ℕ) → LacksStatement text k → BreaksFirst text r l → ⊥
place_or_rule one_list text r k l x y =
    let t = one_list style.Verilog text y.tokens x.tokens y.lexed x.lexed in
    opening.stands_or_fails (lexemes text x.tokens) y.statements (line_behind text) k (subst (λ (ts : List Token). AreStatements (lexemes text ts) y.statements) t y.are) x.fails

one_broken : OneList → OneBad → NeverBoth → (text : List ℕ) (r q : Rule) (k l : ℕ) → Broken text r k → Broken text q l → (r ≡ q) × (k ≡ l)
one_broken one_list one_bad not_both text r q k l (ByByte e x) (ByByte f y) = (e ∙ sym f, x.number ∙ ap (λ (p : ℕ). line_behind (take p text)) (one_bad style.Verilog text x.place y.place x.bad y.bad) ∙ sym y.number)
one_broken one_list one_bad not_both text r q k l (ByByte e x) (ByPlace f y) = absurd (not_both style.Verilog text y.tokens x.place y.lexed x.bad)
one_broken one_list one_bad not_both text r q k l (ByByte e x) (ByRule y) = absurd (not_both style.Verilog text y.tokens x.place y.lexed x.bad)
one_broken one_list one_bad not_both text r q k l (ByPlace e x) (ByByte f y) = absurd (not_both style.Verilog text x.tokens y.place x.lexed y.bad)
one_broken one_list one_bad not_both text r q k l (ByPlace e x) (ByPlace f y) =
    let t = one_list style.Verilog text y.tokens x.tokens y.lexed x.lexed in
    (e ∙ sym f, opening.one_failure (lexemes text x.tokens) (line_behind text) k l x.fails (subst (λ (ts : List Token). FailsAt (lexemes text ts) (line_behind text) l) t y.fails))
one_broken one_list one_bad not_both text r q k l (ByPlace e x) (ByRule y) = absurd (place_or_rule one_list text q k l x y)
one_broken one_list one_bad not_both text r q k l (ByRule x) (ByByte f y) = absurd (not_both style.Verilog text x.tokens y.place x.lexed y.bad)
one_broken one_list one_bad not_both text r q k l (ByRule x) (ByPlace f y) = absurd (place_or_rule one_list text r l k y x)
one_broken one_list one_bad not_both text r q k l (ByRule x) (ByRule y) =
    let t = one_list style.Verilog text y.tokens x.tokens y.lexed x.lexed in
    let s = same_statements text x.tokens y.tokens x.statements y.statements t x.are y.are in
    same_broken nothing_yet x.statements r q k l x.first (subst (λ (ss : List Statement). FirstBroken nothing_yet ss q l) s y.first)

pub one_broken_rule : OneList → OneBad → NeverBoth → (text : List ℕ) (r s : Rule) (k l : ℕ) → IsBroken text r k → IsBroken text s l → (r ≡ s) × (k ≡ l)
one_broken_rule one_list one_bad not_both text r s k l x y = one_broken one_list one_bad not_both text r s k l (broken text r k x) (broken text s l y)
