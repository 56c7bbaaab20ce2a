-- Words at the front of others.
use Rattle.std.proofs.Common.{◌≡◌, ℕ, Bool, true, false, cond, List, [], ◌∷◌, ◌++◌, Option, Some, None, refl, sym, ap, subst, ◌∙◌, ◌&&◌}
use Rattle.std.specs.Prelude.{drop}
use Rattle.std.specs.Str.{bytes_eq}
use Rattle.std.proofs.lemmas.Slice.Eq.{bytes_eq-Decides}
use Rattle.rl_text.specs.declared.token.Kind.{Kind}
use Rattle.rl_text.specs.declared.token.Kind.TheVariants as kind
use Rattle.rl_text.specs.Lines.{Word}
use Rattle.rl_text.specs.Lexemes.{Lexeme}
use Rattle.verilog_text.specs.Grammar.{number, is_plain}
use Rattle.verilog_text.specs.Statements.{words_of}
use Rattle.verilog_text.specs.Reading.{◌>>=◌, is_name, is_number, is_bits, is_symbol, begins, after, bytes_at, number_at}

pub some_is : {A : Type 0} (x y : A) → Some x ≡ Some y → x ≡ y
some_is x y e = cc

pub bind_some : {A B : Type 0} (r : Option A) (f : A → Option B) (y : B) → (r >>= f) ≡ Some y → (x : A) × (r ≡ Some x) × (f x ≡ Some y)
bind_some (Some x) f y e = (x, refl, e)
bind_some None f y e = absurd cc

pub guard_some : {A : Type 0} (b : Bool) (x y : A) → cond b (Some x) None ≡ Some y → (b ≡ true) × (x ≡ y)
guard_some true x y e = (refl, cc)
guard_some false x y e = absurd cc

pub and_true : (a b : Bool) → (a && b) ≡ true → (a ≡ true) × (b ≡ true)
and_true true true e = (refl, refl)
and_true true false e = absurd cc
and_true false b e = absurd cc

-- ---- what the words begin with

-- the words begin with these, and then there is the rest
abbrev pub Begins : List Lexeme → List Word → List Lexeme → Type 0
Begins ls [] rest = ls ≡ rest
Begins [] (w ∷ ws) rest = ⊥
Begins (l ∷ ls) (w ∷ ws) rest = (l.word ≡ w) × Begins ls ws rest

pub joined : (us vs : List Word) (ls mid rest : List Lexeme) → Begins ls us mid → Begins mid vs rest → Begins ls (us ++ vs) rest
joined [] vs ls mid rest x y = subst (λ (k : List Lexeme). Begins k vs rest) (sym x) y
joined (u ∷ us) vs [] mid rest x y = x
joined (u ∷ us) vs (l ∷ ls) mid rest x y = (x.0, joined us vs ls mid rest x.1 y)

pub split : (us vs : List Word) (ls rest : List Lexeme) → Begins ls (us ++ vs) rest → (mid : List Lexeme) × Begins ls us mid × Begins mid vs rest
split [] vs ls rest x = (ls, refl, x)
split (u ∷ us) vs [] rest x = absurd x
split (u ∷ us) vs (l ∷ ls) rest x = let m = split us vs ls rest x.1 in (m.0, (x.0, m.1), m.2)

-- the rest after one word
pub one : (w : Word) (ws : List Word) (ls rest : List Lexeme) → Begins ls (w ∷ ws) rest → (l : Lexeme) × (more : List Lexeme) × (ls ≡ l ∷ more) × (l.word ≡ w) × Begins more ws rest
one w ws [] rest x = absurd x
one w ws (l ∷ ls) rest x = (l, ls, refl, x.0, x.1)

pub cut_of : (ws : List Word) (ls rest : List Lexeme) → Begins ls ws rest → (front : List Lexeme) × (ls ≡ front ++ rest) × (words_of front ≡ ws)
cut_of [] ls rest x = ([], x, refl)
cut_of (w ∷ ws) [] rest x = absurd x
cut_of (w ∷ ws) (l ∷ ls) rest x = let c = cut_of ws ls rest x.1 in (l ∷ c.0, ap (λ (k : List Lexeme). l ∷ k) c.1, λ i. x.0 i ∷ c.2 i)

pub of_cut : (front rest : List Lexeme) → Begins (front ++ rest) (words_of front) rest
of_cut [] rest = refl
of_cut (l ∷ ls) rest = (refl, of_cut ls rest)

-- ---- kinds

abbrev pub Names : (Kind → Bool) → Kind → Type 0
Names is k = (j : Kind) → is j ≡ true → j ≡ k

pub is_name-true : Names is_name kind.Name
is_name-true kind.Name e = refl
is_name-true _ e = absurd cc

pub is_number-true : Names is_number kind.Number
is_number-true kind.Number e = refl
is_number-true _ e = absurd cc

pub is_bits-true : Names is_bits kind.Bits
is_bits-true kind.Bits e = refl
is_bits-true _ e = absurd cc

pub is_symbol-true : Names is_symbol kind.Symbol
is_symbol-true kind.Symbol e = refl
is_symbol-true _ e = absurd cc

pub same_word : (w : Word) (k : Kind) (t : List ℕ) → w.kind ≡ k → w.bytes ≡ t → w ≡ record { kind = k; bytes = t }
same_word w k t p q = λ i. record { kind = p i; bytes = q i }

-- ---- one word

abbrev pub word : Kind → List ℕ → Word
word k t = record { kind = k; bytes = t }

pub after_some : (is : Kind → Bool) (k : Kind) → Names is k → (t : List ℕ) (ls rest : List Lexeme) → after is t ls ≡ Some rest → Begins ls (word k t ∷ []) rest
unfolding after begins
after_some is k named t [] rest e = absurd cc
after_some is k named t (l ∷ ls) rest e =
    let g = guard_some (is l.word.kind && bytes_eq l.word.bytes t) ls rest e in
    let h = and_true (is l.word.kind) (bytes_eq l.word.bytes t) g.0 in
    (same_word l.word k t (named l.word.kind h.0) ((bytes_eq-Decides l.word.bytes t).0 h.1), g.1)

pub begins-word : (is : Kind → Bool) (k : Kind) (t : List ℕ) (l : Lexeme) (ls : List Lexeme) → is k ≡ true → l.word ≡ word k t → begins is t (l ∷ ls) ≡ true
unfolding begins
begins-word is k t l ls h e =
    subst (λ (w : Word). (is w.kind && bytes_eq w.bytes t) ≡ true) (sym e) (rw (h, (bytes_eq-Decides t t).1 refl) refl)

pub after-word : (is : Kind → Bool) (k : Kind) (t : List ℕ) (ls rest : List Lexeme) → is k ≡ true → Begins ls (word k t ∷ []) rest → after is t ls ≡ Some rest
unfolding after
after-word is k t [] rest h x = absurd x
after-word is k t (l ∷ ls) rest h x = rw (begins-word is k t l ls h x.0) (ap (λ (k : List Lexeme). Some k) x.1)

pub bytes_some : (is : Kind → Bool) (k : Kind) → Names is k → (ls : List Lexeme) (x : List ℕ × List Lexeme) → bytes_at is ls ≡ Some x → Begins ls (word k x.0 ∷ []) x.1
unfolding bytes_at
bytes_some is k named [] x e = absurd cc
bytes_some is k named (l ∷ ls) x e =
    let g = guard_some (is l.word.kind) (l.word.bytes, ls) x e in
    (same_word l.word k x.0 (named l.word.kind g.0) (ap (λ (p : List ℕ × List Lexeme). p.0) g.1), ap (λ (p : List ℕ × List Lexeme). p.1) g.1)

pub bytes-word : (is : Kind → Bool) (k : Kind) (t : List ℕ) (ls rest : List Lexeme) → is k ≡ true → Begins ls (word k t ∷ []) rest → bytes_at is ls ≡ Some (t, rest)
unfolding bytes_at
bytes-word is k t [] rest h x = absurd x
bytes-word is k t (l ∷ ls) rest h x =
    let e : is l.word.kind ≡ true = ap (λ (w : Word). is w.kind) x.0 ∙ h in
    rw e (λ i. Some ((x.0 i).bytes, x.1 i))

pub number_some : (ls : List Lexeme) (x : List ℕ × List Lexeme) → number_at ls ≡ Some x → Begins ls (number x.0 ∷ []) x.1 × (is_plain x.0 ≡ true)
unfolding number_at
number_some [] x e = absurd cc
number_some (l ∷ ls) x e =
    let g = guard_some (is_number l.word.kind && is_plain l.word.bytes) (l.word.bytes, ls) x e in
    let h = and_true (is_number l.word.kind) (is_plain l.word.bytes) g.0 in
    let t : l.word.bytes ≡ x.0 = ap (λ (p : List ℕ × List Lexeme). p.0) g.1 in
    ((same_word l.word kind.Number x.0 (is_number-true l.word.kind h.0) t, ap (λ (p : List ℕ × List Lexeme). p.1) g.1), ap is_plain (sym t) ∙ h.1)

pub number-word : (t : List ℕ) (ls rest : List Lexeme) → is_plain t ≡ true → Begins ls (number t ∷ []) rest → number_at ls ≡ Some (t, rest)
unfolding number_at
number-word t [] rest h x = absurd x
number-word t (l ∷ ls) rest h x =
    let e : (is_number l.word.kind && is_plain l.word.bytes) ≡ true = ap (λ (w : Word). is_number w.kind && is_plain w.bytes) x.0 ∙ h in
    rw e (λ i. Some ((x.0 i).bytes, x.1 i))

pub begins_some : (is : Kind → Bool) (k : Kind) → Names is k → (t : List ℕ) (ls : List Lexeme) → begins is t ls ≡ true → Begins ls (word k t ∷ []) (drop 1 ls)
unfolding begins
begins_some is k named t [] e = absurd cc
begins_some is k named t (l ∷ ls) e =
    let h = and_true (is l.word.kind) (bytes_eq l.word.bytes t) e in
    (same_word l.word k t (named l.word.kind h.0) ((bytes_eq-Decides l.word.bytes t).0 h.1), refl)

-- one test of a chain
pub turn : {A : Type 0} (P : Type 0) (b : Bool) (r s : Option A) (y : A) → (b ≡ true → r ≡ Some y → P) → (b ≡ false → s ≡ Some y → P) → cond b r s ≡ Some y → P
turn P true r s y p q e = p refl e
turn P false r s y p q e = q refl e
