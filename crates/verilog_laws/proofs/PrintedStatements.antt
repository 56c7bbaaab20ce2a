-- The words of statements are statements.
use Rattle.std.proofs.Common.{◌≡◌, true, false, List, [], ◌∷◌, ◌++◌, map, Some, None, refl, ap, subst}
use Rattle.rl_text.specs.Lines.{Word}
use Rattle.rl_text.specs.Lexemes.{Lexeme}
use Rattle.verilog_text.specs.Grammar.{Form, Header, Input, Output, Wire, Reg, Assign, Always, End, spelled_form, IsFormed}
use Rattle.verilog_text.specs.Statements.{Statement, Stage, Finished, allows, stage_after, MayPrecede, words_of, Leads}
use Rattle.verilog_text.specs.Judging.{SoFar, after, first_rule}
use Rattle.verilog_text.specs.Spelling.{AllStand}
use Rattle.verilog_laws.proofs.PrintedWords.{words_on}

-- each is one that may follow those before it, and the end is the last
abbrev pub Follow : Stage → List Form → Type 0
Follow stage [] = stage ≡ Finished
Follow stage (x ∷ xs) = IsFormed x × (allows stage x ≡ true) × Follow (stage_after x) xs

-- each breaks no rule after those before it, and all together are `last`
abbrev pub AllKeep : SoFar → List Form → SoFar → Type 0
AllKeep before [] last = before ≡ last
AllKeep before (x ∷ xs) last = (first_rule before x ≡ None) × AllKeep (after before x) xs last

-- ---- lexemes with the words of two lists

record Parts (ls : List Lexeme) (ws vs : List Word) : Type 0 where
  front : List Lexeme
  back : List Lexeme
  split : ls ≡ front ++ back
  first : words_of front ≡ ws
  second : words_of back ≡ vs

parts : (ls : List Lexeme) (ws vs : List Word) → words_of ls ≡ ws ++ vs → Parts ls ws vs
parts ls [] vs e = record { front = []; back = ls; split = refl; first = refl; second = e }
parts [] (w ∷ ws) vs e = absurd cc
parts (l ∷ ls) (w ∷ ws) vs e =
    let here : l.word ≡ w = cc in
    let rest : words_of ls ≡ ws ++ vs = cc in
    let p = parts ls ws vs rest in
    record { front = l ∷ p.front; back = p.back; split = ap (λ (ms : List Lexeme). l ∷ ms) p.split; first = λ i. here i ∷ p.first i; second = p.second }

-- a statement has a first word
record HasFirst (ws : List Word) : Type 0 where
  first : Word
  others : List Word
  is : ws ≡ first ∷ others

has_first : (x : Form) → HasFirst (spelled_form x)
has_first (Header n ports) = record { first = _; others = _; is = refl }
has_first (Input n) = record { first = _; others = _; is = refl }
has_first (Output n) = record { first = _; others = _; is = refl }
has_first (Wire n) = record { first = _; others = _; is = refl }
has_first (Reg None n) = record { first = _; others = _; is = refl }
has_first (Reg (Some m) n) = record { first = _; others = _; is = refl }
has_first (Assign n e) = record { first = _; others = _; is = refl }
has_first (Always r z s e) = record { first = _; others = _; is = refl }
has_first End = record { first = _; others = _; is = refl }

none_follows : (x : Form) → allows Finished x ≡ false
none_follows (Header n ports) = refl
none_follows (Input n) = refl
none_follows (Output n) = refl
none_follows (Wire n) = refl
none_follows (Reg m n) = refl
none_follows (Assign n e) = refl
none_follows (Always r z s e) = refl
none_follows End = refl

at_end : (xs : List Form) (ls : List Lexeme) → Follow Finished xs → words_of ls ≡ words_on xs → ls ≡ []
at_end [] [] f e = refl
at_end [] (l ∷ ls) f e = absurd cc
at_end (x ∷ xs) ls f e = let no_more = none_follows x in let more = f.1 in absurd cc

may_precede : (x : Form) (xs : List Form) (ls : List Lexeme) → Follow (stage_after x) xs → words_of ls ≡ words_on xs → MayPrecede x ls
may_precede (Header n ports) xs ls f e = tt
may_precede (Input n) xs ls f e = tt
may_precede (Output n) xs ls f e = tt
may_precede (Wire n) xs ls f e = tt
may_precede (Reg m n) xs ls f e = tt
may_precede (Assign n e) xs ls f e' = tt
may_precede (Always r z s e) xs ls f e' = tt
may_precede End xs ls f e = at_end xs ls f e

-- ---- statements

-- the lexemes are statements of these forms
pub record Makes (stage : Stage) (lexemes : List Lexeme) (xs : List Form) : Type 0 where
  pub statements : List Statement
  pub forms : map (λ (s : Statement). s.form) statements ≡ xs
  pub leads : Leads stage lexemes statements Finished []

makes_one : (stage : Stage) (x : Form) (xs : List Form) (ls front back : List Lexeme) → IsFormed x → allows stage x ≡ true → ls ≡ front ++ back → words_of front ≡ spelled_form x → HasFirst (spelled_form x) → MayPrecede x back
    → Makes (stage_after x) back xs → Makes stage ls (x ∷ xs)
makes_one stage x xs ls [] back formed allowed split words h whole more = let some = h.is in absurd cc
makes_one stage x xs ls (l ∷ front) back formed allowed split words h whole more = record {
  statements = record { form = x; line = l.line } ∷ more.statements;
  forms = ap (λ (ys : List Form). x ∷ ys) more.forms;
  leads = (back, record { first = l; others = front; split = split; words = words; formed = formed; allowed = allowed; line = refl; whole = whole }, more.leads);
}

pub makes : (stage : Stage) (xs : List Form) (ls : List Lexeme) → Follow stage xs → words_of ls ≡ words_on xs → Makes stage ls xs
makes stage [] [] f e = record { statements = []; forms = refl; leads = (f, refl) }
makes stage [] (l ∷ ls) f e = absurd cc
makes stage (x ∷ xs) ls f e =
    let p = parts ls (spelled_form x) (words_on xs) e in
    makes_one stage x xs ls p.front p.back f.0 f.1 p.split p.first (has_first x) (may_precede x xs p.back f.2 p.second) (makes (stage_after x) xs p.back f.2 p.second)

-- statements of forms that keep all rules
pub all_stand : (before last : SoFar) (xs : List Form) (ss : List Statement) → map (λ (s : Statement). s.form) ss ≡ xs → AllKeep before xs last → AllStand before ss last
all_stand before last [] [] e k = k
all_stand before last [] (s ∷ ss) e k = absurd cc
all_stand before last (x ∷ xs) [] e k = absurd cc
all_stand before last (x ∷ xs) (s ∷ ss) e k =
    let here : x ≡ s.form = cc in
    let rest : map (λ (t : Statement). t.form) ss ≡ xs = cc in
    (subst (λ (f : Form). first_rule before f ≡ None) here k.0, all_stand (after before s.form) last xs ss rest (subst (λ (f : Form). AllKeep (after before f) xs last) here k.1))
