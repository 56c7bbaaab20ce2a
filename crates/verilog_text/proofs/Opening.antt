-- A statement opens words exactly where it is read, so that words are one list of statements at most.
use Rattle.std.proofs.Common.{◌≡◌, ◌≢◌, ℕ, true, List, [], ◌∷◌, ◌++◌, Some, None, refl, sym, ap, subst, ◌∙◌}
use Rattle.rl_text.specs.Lines.{Word}
use Rattle.rl_text.specs.Lexemes.{Lexeme}
use Rattle.verilog_text.specs.Grammar.{Form, Header, Input, Output, Wire, Reg, Assign, Always, End, spelled_form}
use Rattle.verilog_text.specs.Statements.{Statement, Stage, Start, Finished, allows, stage_after, words_of, Opens, Leads, AreStatements, first_line, FailsAt}
use Rattle.verilog_text.specs.Reading.{form_at, allowed, statement_at}
use Rattle.verilog_text.proofs.Words.{some_is, bind_some, guard_some, Begins, cut_of, of_cut}
use Rattle.verilog_text.proofs.FormReading.{IsForm, form_some, form_again}

-- the statement that was read
made_some : (stage : Stage) (line : ℕ) (f : Form × List Lexeme) (x : Statement × List Lexeme) → allowed stage line f ≡ Some x → (allows stage f.0 ≡ true) × (f.0 ≡ x.0.form) × (line ≡ x.0.line) × (f.1 ≡ x.1)
made_some stage line f x e =
    let g = guard_some (allows stage f.0) (record { form = f.0; line = line }, f.1) x e in
    (g.0, ap (λ (y : Statement × List Lexeme). y.0.form) g.1, ap (λ (y : Statement × List Lexeme). y.0.line) g.1, ap (λ (y : Statement × List Lexeme). y.1) g.1)

-- the front has a word
front_is : (stage : Stage) (l : Lexeme) (ls : List Lexeme) (s : Statement) (rest : List Lexeme) → IsForm (l ∷ ls) s.form rest → allows stage s.form ≡ true → l.line ≡ s.line
    → (front : List Lexeme) → l ∷ ls ≡ front ++ rest → words_of front ≡ spelled_form s.form → (spelled_form s.form ≡ [] → ⊥) → Opens stage (l ∷ ls) s rest
front_is stage l ls s rest f a n [] e w h = absurd (h (sym w))
front_is stage l ls s rest f a n (m ∷ ms) e w h =
    let same : l ≡ m = cc in
    record { first = m; others = ms; split = e; words = w; formed = f.formed; allowed = a; line = sym n ∙ ap (λ (k : Lexeme). k.line) same; whole = f.whole }

-- no statement is without a word
some_word : (f : Form) → spelled_form f ≡ [] → ⊥
some_word (Header n ports) e = cc
some_word (Input n) e = cc
some_word (Output n) e = cc
some_word (Wire n) e = cc
some_word (Reg None n) e = cc
some_word (Reg (Some m) n) e = cc
some_word (Assign n a) e = cc
some_word (Always r z s n) e = cc
some_word End e = cc

pub opens_some : (stage : Stage) (ls : List Lexeme) (s : Statement) (rest : List Lexeme) → statement_at stage ls ≡ Some (s, rest) → Opens stage ls s rest
unfolding statement_at
opens_some stage [] s rest e = absurd cc
opens_some stage (l ∷ ls) s rest e =
    let f = bind_some (form_at (l ∷ ls)) (allowed stage l.line) (s, rest) e in
    let m = made_some stage l.line f.0 (s, rest) f.2 in
    let g = form_some (l ∷ ls) f.0 f.1 in
    let h : IsForm (l ∷ ls) s.form rest = subst (λ (g : Form × List Lexeme). IsForm (l ∷ ls) g.0 g.1) (λ i. (m.1 i, m.3 i)) g in
    let c = cut_of (spelled_form s.form) (l ∷ ls) rest h.words in
    front_is stage l ls s rest h (ap (allows stage) (sym m.1) ∙ m.0) m.2 c.0 c.1 c.2 (some_word s.form)

again : (stage : Stage) (l : Lexeme) (ls : List Lexeme) (s : Statement) (rest : List Lexeme) → IsForm (l ∷ ls) s.form rest → allows stage s.form ≡ true → s.line ≡ l.line → statement_at stage (l ∷ ls) ≡ Some (s, rest)
unfolding statement_at
again stage l ls s rest f a n =
    rw (form_again s.form (l ∷ ls) rest f, a) (λ i. Some (record { form = s.form; line = sym n i }, rest))

pub opens_again : (stage : Stage) (ls : List Lexeme) (s : Statement) (rest : List Lexeme) → Opens stage ls s rest → statement_at stage ls ≡ Some (s, rest)
opens_again stage ls s rest o =
    let b : Begins (o.first ∷ (o.others ++ rest)) (spelled_form s.form) rest = subst (λ (ws : List Word). Begins (o.first ∷ (o.others ++ rest)) ws rest) o.words (of_cut (o.first ∷ o.others) rest) in
    ap (statement_at stage) o.split ∙ again stage o.first (o.others ++ rest) s rest (record { words = b; formed = o.formed; whole = o.whole }) o.allowed o.line

-- ---- one statement, one list of statements, one place without a statement

record Same (s t : Statement) (a b : List Lexeme) : Type 0 where
  statement : s ≡ t
  rest : a ≡ b

one_opens : (stage : Stage) (ls : List Lexeme) (s t : Statement) (a b : List Lexeme) → Opens stage ls s a → Opens stage ls t b → Same s t a b
one_opens stage ls s t a b x y =
    let first : Statement × List Lexeme = (s, a) in
    let second : Statement × List Lexeme = (t, b) in
    let e = some_is first second (sym (opens_again stage ls s a x) ∙ opens_again stage ls t b y) in
    record { statement = ap (λ (p : Statement × List Lexeme). p.0) e; rest = ap (λ (p : Statement × List Lexeme). p.1) e }

none_behind : (f : Form) (stage : Stage) → stage ≡ Finished → allows stage f ≡ true → ⊥
none_behind f stage e a = let h : allows Finished f ≡ true = ap (λ (k : Stage). allows k f) (sym e) ∙ a in cc

pub one_list : (stage : Stage) (ls : List Lexeme) (ss ts : List Statement) → Leads stage ls ss Finished [] → Leads stage ls ts Finished [] → ss ≡ ts
one_list stage ls [] [] x y = refl
one_list stage ls [] (t ∷ ts) x y = absurd (none_behind t.form stage x.0 y.1.allowed)
one_list stage ls (s ∷ ss) [] x y = absurd (none_behind s.form stage y.0 x.1.allowed)
one_list stage ls (s ∷ ss) (t ∷ ts) x y =
    let e = one_opens stage ls s t x.0 y.0 x.1 y.1 in
    let same : t ≡ s = sym e.statement in
    let z : Leads (stage_after s.form) x.0 ts Finished [] = subst (λ (r : List Lexeme). Leads (stage_after s.form) r ts Finished []) (sym e.rest) (subst (λ (u : Statement). Leads (stage_after u.form) y.0 ts Finished []) same y.2) in
    λ i. e.statement i ∷ one_list (stage_after s.form) x.0 ss ts x.2 z i

-- nothing opens these words at this stage
abbrev Nothing : Stage → List Lexeme → Type 0
Nothing stage ls = (s : Statement) (after : List Lexeme) → Opens stage ls s after → ⊥

pub not_both : (stage : Stage) (ls : List Lexeme) (ss before : List Statement) (last : Stage) (rest : List Lexeme) → Leads stage ls ss Finished [] → Leads stage ls before last rest → last ≢ Finished → Nothing last rest → ⊥
not_both stage ls [] [] last rest x y u n = u (sym y.0 ∙ x.0)
not_both stage ls [] (b ∷ bs) last rest x y u n = none_behind b.form stage x.0 y.1.allowed
not_both stage ls (s ∷ ss) [] last rest x y u n =
    n s x.0 (subst (λ (k : Stage). Opens k rest s x.0) y.0 (subst (λ (k : List Lexeme). Opens stage k s x.0) y.1 x.1))
not_both stage ls (s ∷ ss) (b ∷ bs) last rest x y u n =
    let e = one_opens stage ls s b x.0 y.0 x.1 y.1 in
    let z : Leads (stage_after s.form) x.0 bs last rest = subst (λ (r : List Lexeme). Leads (stage_after s.form) r bs last rest) (sym e.rest) (subst (λ (t : Statement). Leads (stage_after t.form) y.0 bs last rest) (sym e.statement) y.2) in
    not_both (stage_after s.form) x.0 ss bs last rest x.2 z u n

one_rest : (stage : Stage) (ls : List Lexeme) (ss ts : List Statement) (p q : Stage) (a b : List Lexeme) → Leads stage ls ss p a → Leads stage ls ts q b → Nothing p a → Nothing q b → a ≡ b
one_rest stage ls [] [] p q a b x y n m = sym x.1 ∙ y.1
one_rest stage ls [] (t ∷ ts) p q a b x y n m =
    absurd (n t y.0 (subst (λ (k : Stage). Opens k a t y.0) x.0 (subst (λ (k : List Lexeme). Opens stage k t y.0) x.1 y.1)))
one_rest stage ls (s ∷ ss) [] p q a b x y n m =
    absurd (m s x.0 (subst (λ (k : Stage). Opens k b s x.0) y.0 (subst (λ (k : List Lexeme). Opens stage k s x.0) y.1 x.1)))
one_rest stage ls (s ∷ ss) (t ∷ ts) p q a b x y n m =
    let e = one_opens stage ls s t x.0 y.0 x.1 y.1 in
    let z : Leads (stage_after s.form) x.0 ts q b = subst (λ (r : List Lexeme). Leads (stage_after s.form) r ts q b) (sym e.rest) (subst (λ (u : Statement). Leads (stage_after u.form) y.0 ts q b) (sym e.statement) y.2) in
    one_rest (stage_after s.form) x.0 ss ts p q a b x.2 z n m

pub stands_or_fails : (ls : List Lexeme) (ss : List Statement) (end line : ℕ) → AreStatements ls ss → FailsAt ls end line → ⊥
stands_or_fails ls ss end line x f = not_both Start ls ss f.before f.stage f.rest x f.leads f.unfinished f.nothing

pub one_failure : (ls : List Lexeme) (end k l : ℕ) → FailsAt ls end k → FailsAt ls end l → k ≡ l
one_failure ls end k l x y =
    x.is ∙ ap (first_line end) (one_rest Start ls x.before y.before x.stage y.stage x.rest y.rest x.leads y.leads x.nothing y.nothing) ∙ sym y.is
