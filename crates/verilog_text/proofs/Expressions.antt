-- What is read as an expression is spelled so, and what is spelled so is read.
use Rattle.std.proofs.Common.{◌≡◌, ℕ, ◌&&◌, ◌+◌, ◌-◌, ◌≤◌, zero, suc, true, false, cond, List, [], ◌∷◌, ◌++◌, Some, None, refl, sym, ap, subst, ◌∙◌, arith}
use Rattle.std.specs.Prelude.{codes, drop}
use Rattle.std.specs.Str.{bytes_eq}
use Rattle.std.proofs.lemmas.Slice.Eq.{bytes_eq-Decides}
use Rattle.rl_text.specs.declared.token.Kind.{Kind}
use Rattle.rl_text.specs.declared.token.Kind.TheVariants as kind
use Rattle.rl_text.specs.Lines.{Word}
use Rattle.rl_text.specs.Lexemes.{Lexeme}
use Rattle.verilog_text.specs.Grammar.{Expression, Low, High, Name, Bit, Not, Group, And, Or, name, number, bits, sign, close, spelled, is_plain, is_unary, is_product, factors, terms, nesting, IsWritten, IsExpression}
use Rattle.verilog_text.specs.Reading.{Read, ◌>>=◌, is_symbol, begins, after_sign, number_at, bit_at, named, constant, leaf, chain, product, sum, negation, group, operation, unary, expression_at}
use Rattle.verilog_text.proofs.Words.{some_is, bind_some, Begins, joined, split, is_symbol-true, same_word, after_some, after-word, begins-word, begins_some, number_some, number-word, turn}

-- the words do not begin with this sign
abbrev pub Lacks : List ℕ → List Lexeme → Type 0
Lacks t ls = begins is_symbol t ls ≡ false

record IsUnary (d : ℕ) (e : Expression) : Type 0 where
  written : IsWritten e
  alone : is_unary e ≡ true
  nested : nesting e ≤ d

-- a product to which n more parts may be joined
record IsProduct (d n : ℕ) (e : Expression) : Type 0 where
  written : IsWritten e
  alone : is_product e ≡ true
  nested : nesting e ≤ d
  counted : factors e + n ≡ 64

record IsSum (d n : ℕ) (e : Expression) : Type 0 where
  written : IsWritten e
  nested : nesting e ≤ d
  counted : terms e + n ≡ 64

one_factor : (d : ℕ) (e : Expression) → IsUnary d e → IsProduct d 63 e
one_factor d (And a b) u = absurd (let h = u.alone in cc)
one_factor d (Or a b) u = absurd (let h = u.alone in cc)
one_factor d e u = record { written = u.written; alone = refl; nested = u.nested; counted = refl }

one_term : (d n : ℕ) (e : Expression) → IsProduct d n e → IsSum d 63 e
one_term d n (Or a b) p = absurd (let h = p.alone in cc)
one_term d n e p = record { written = p.written; nested = p.nested; counted = refl }

more_factors : (d n : ℕ) (a b : Expression) → IsProduct d (suc n) a → IsUnary d b → IsProduct d n (And a b)
more_factors d n a b p u = record {
  written = (p.written, p.alone, u.written, u.alone, omega (arith, p.counted));
  alone = refl;
  nested = omega (arith, p.nested, u.nested);
  counted = omega (arith, p.counted);
}

more_terms : (d n m : ℕ) (a b : Expression) → IsSum d (suc n) a → IsProduct d m b → IsSum d n (Or a b)
more_terms d n m a b s p = record {
  written = (s.written, p.written, p.alone, omega (arith, s.counted));
  nested = omega (arith, s.nested, p.nested);
  counted = omega (arith, s.counted);
}

-- ---- what is read is spelled

record IsRead (P : Expression → Type 0) (ls : List Lexeme) (x : Expression × List Lexeme) : Type 0 where
  words : Begins ls (spelled x.0) x.1
  is : P x.0

abbrev IsSound : (Expression → Type 0) → (List Lexeme → Read Expression) → Type 0
IsSound P part = (ls : List Lexeme) (x : Expression × List Lexeme) → part ls ≡ Some x → IsRead P ls x

module _ (t : List ℕ) (join : Expression → Expression → Expression) (part : List Lexeme → Read Expression) (P : Expression → Type 0) (Q : ℕ → Expression → Type 0)
    (spell : (a b : Expression) → spelled (join a b) ≡ spelled a ++ (sign t ∷ spelled b))
    (sound : IsSound P part)
    (more : (n : ℕ) (a b : Expression) → Q (suc n) a → P b → Q n (join a b)) where
  kept : (n : ℕ) (a : Expression) (from ls : List Lexeme) (x : Expression × List Lexeme) → Begins from (spelled a) ls → Q n a → Some (a, ls) ≡ Some x → (m : ℕ) × IsRead (Q m) from x
  kept n a from ls x b q e =
      let made : Expression × List Lexeme = (a, ls) in
      (n, subst (λ (y : Expression × List Lexeme). IsRead (Q n) from y) (some_is made x e) (record { words = b; is = q }))

  chain_some : (k : ℕ) (a : Expression) (from ls : List Lexeme) (x : Expression × List Lexeme) → Begins from (spelled a) ls → Q k a → chain t join part k a ls ≡ Some x → (m : ℕ) × IsRead (Q m) from x
  chain_some zero a from ls x b q e =
      turn ((m : ℕ) × IsRead (Q m) from x) (begins is_symbol t ls) None (Some (a, ls)) x (λ y h. absurd cc) (λ y h. kept 0 a from ls x b q h) e
  chain_some (suc k) a from ls x b q e =
      turn ((m : ℕ) × IsRead (Q m) from x) (begins is_symbol t ls) (part (drop 1 ls) >>= (λ b. chain t join part k (join a b.0) b.1)) (Some (a, ls)) x
      (λ y h.
      let p = bind_some (part (drop 1 ls)) (λ b. chain t join part k (join a b.0) b.1) x h in
      let s = sound (drop 1 ls) p.0 p.1 in
      let behind = joined (sign t ∷ []) (spelled p.0.0) ls (drop 1 ls) p.0.1 (begins_some is_symbol kind.Symbol is_symbol-true t ls y) s.words in
      let w : Begins from (spelled (join a p.0.0)) p.0.1 = subst (λ (ws : List Word). Begins from ws p.0.1) (sym (spell a p.0.0)) (joined (spelled a) (sign t ∷ spelled p.0.0) from ls p.0.1 b behind) in
      chain_some k (join a p.0.0) from p.0.1 x w (more k a p.0.0 q s.is) p.2)
      (λ y h. kept (suc k) a from ls x b q h) e

AnyProduct : ℕ → Expression → Type 0
AnyProduct d e = (n : ℕ) × IsProduct d n e

AnySum : ℕ → Expression → Type 0
AnySum d e = (n : ℕ) × IsSum d n e

few_factors : (e : Expression) → IsWritten e → factors e ≤ 64
few_factors (And a b) w = w.4
few_factors e w = omega arith

few_terms : (e : Expression) → IsWritten e → terms e ≤ 64
few_terms (Or a b) w = w.3
few_terms e w = omega arith

a_product : (d : ℕ) (e : Expression) → IsWritten e → is_product e ≡ true → nesting e ≤ d → AnyProduct d e
unfolding AnyProduct
a_product d e w p n = (64 - factors e, record { written = w; alone = p; nested = n; counted = omega (arith, few_factors e w) })

a_sum : (d : ℕ) (e : Expression) → IsWritten e → nesting e ≤ d → AnySum d e
unfolding AnySum
a_sum d e w n = (64 - terms e, record { written = w; nested = n; counted = omega (arith, few_terms e w) })

product_some : (d : ℕ) (part : List Lexeme → Read Expression) → IsSound (IsUnary d) part → IsSound (AnyProduct d) (product part)
unfolding product AnyProduct
product_some d part sound ls x e =
    let a = bind_some (part ls) (λ a. chain (codes "&") And part 63 a.0 a.1) x e in
    let s = sound ls a.0 a.1 in
    let c = chain_some (codes "&") And part (IsUnary d) (IsProduct d) (λ a b. refl) sound (more_factors d) 63 a.0.0 ls a.0.1 x s.words (one_factor d a.0.0 s.is) a.2 in
    record { words = c.1.words; is = (c.0, c.1.is) }

sum_some : (d : ℕ) (part : List Lexeme → Read Expression) → IsSound (IsUnary d) part → IsSound (AnySum d) (sum part)
unfolding sum AnySum AnyProduct
sum_some d part sound ls x e =
    let a = bind_some (product part ls) (λ a. chain (codes "|") Or (product part) 63 a.0 a.1) x e in
    let s = product_some d part sound ls a.0 a.1 in
    let c = chain_some (codes "|") Or (product part) (AnyProduct d) (IsSum d) (λ a b. refl) (product_some d part sound) (λ n a b q p. more_terms d n p.0 a b q p.1) 63 a.0.0 ls a.0.1 x s.words (one_term d s.is.0 a.0.0 s.is.1) a.2 in
    record { words = c.1.words; is = (c.0, c.1.is) }

-- after one word
begun : (P : Expression → Type 0) (w : Word) (e : Expression) (l : Lexeme) (ls : List Lexeme) (x : Expression × List Lexeme) → l.word ≡ w → spelled e ≡ w ∷ [] → P e → Some (e, ls) ≡ Some x → IsRead P (l ∷ ls) x
begun P w e l ls x is spell p h =
    let made : Expression × List Lexeme = (e, ls) in
    let b : Begins (l ∷ ls) (spelled e) ls = subst (λ (ws : List Word). Begins (l ∷ ls) ws ls) (sym spell) (is, refl) in
    subst (λ (y : Expression × List Lexeme). IsRead P (l ∷ ls) y) (some_is made x h) (record { words = b; is = p })

bit_some : (d : ℕ) (t : List ℕ) (l : Lexeme) (ls : List Lexeme) (x : Expression × List Lexeme) → l.word ≡ name t → bit_at t ls ≡ Some x → IsRead (IsUnary d) (l ∷ ls) x
unfolding bit_at
bit_some d t l ls x is e =
    let o = bind_some (after_sign (codes "[") ls) (λ o. number_at o >>= λ k. after_sign (codes "]") k.1 >>= λ e. Some (Bit t k.0, e)) x e in
    let k = bind_some (number_at o.0) (λ k. after_sign (codes "]") k.1 >>= λ e. Some (Bit t k.0, e)) x o.2 in
    let c = bind_some (after_sign (codes "]") k.0.1) (λ e. Some (Bit t k.0.0, e)) x k.2 in
    let n = number_some o.0 k.0 k.1 in
    let made : Expression × List Lexeme = (Bit t k.0.0, c.0) in
    let end = joined (number k.0.0 ∷ []) (sign (codes "]") ∷ []) o.0 k.0.1 c.0 n.0 (after_some is_symbol kind.Symbol is_symbol-true (codes "]") k.0.1 c.0 c.1) in
    let w = joined (sign (codes "[") ∷ []) (number k.0.0 ∷ sign (codes "]") ∷ []) ls o.0 c.0 (after_some is_symbol kind.Symbol is_symbol-true (codes "[") ls o.0 o.1) end in
    subst (λ (y : Expression × List Lexeme). IsRead (IsUnary d) (l ∷ ls) y) (some_is made x c.2)
    (record { words = (is, w); is = record { written = n.1; alone = refl; nested = omega arith } })

leaf_some : (d : ℕ) (k : Kind) (l : Lexeme) (ls : List Lexeme) (x : Expression × List Lexeme) → l.word.kind ≡ k → leaf k l.word.bytes ls ≡ Some x → IsRead (IsUnary d) (l ∷ ls) x
unfolding named constant
leaf_some d kind.Name l ls x k e =
    let is = same_word l.word kind.Name l.word.bytes k refl in
    turn (IsRead (IsUnary d) (l ∷ ls) x) (begins is_symbol (codes "[") ls) (bit_at l.word.bytes ls) (Some (Name l.word.bytes, ls)) x
    (λ y h. bit_some d l.word.bytes l ls x is h)
    (λ y h. begun (IsUnary d) (name l.word.bytes) (Name l.word.bytes) l ls x is refl (record { written = tt; alone = refl; nested = omega arith }) h) e
leaf_some d kind.Bits l ls x k e =
    let is = λ (t : List ℕ) (h : bytes_eq l.word.bytes t ≡ true). same_word l.word kind.Bits t k ((bytes_eq-Decides l.word.bytes t).0 h) in
    turn (IsRead (IsUnary d) (l ∷ ls) x) (bytes_eq l.word.bytes (codes "1'b0")) (Some (Low, ls)) (cond (bytes_eq l.word.bytes (codes "1'b1")) (Some (High, ls)) None) x
    (λ y h. begun (IsUnary d) (bits (codes "1'b0")) Low l ls x (is (codes "1'b0") y) refl (record { written = tt; alone = refl; nested = omega arith }) h)
    (λ n f. turn (IsRead (IsUnary d) (l ∷ ls) x) (bytes_eq l.word.bytes (codes "1'b1")) (Some (High, ls)) None x
    (λ y h. begun (IsUnary d) (bits (codes "1'b1")) High l ls x (is (codes "1'b1") y) refl (record { written = tt; alone = refl; nested = omega arith }) h)
    (λ y h. absurd cc) f) e
leaf_some d _ l ls x k e = absurd cc

negation_some : (d : ℕ) (part : List Lexeme → Read Expression) → IsSound (IsUnary d) part → (l : Lexeme) (ls : List Lexeme) (x : Expression × List Lexeme) → l.word ≡ sign (codes "~") → negation part ls ≡ Some x → IsRead (IsUnary (suc d)) (l ∷ ls) x
unfolding negation
negation_some d part sound l ls x is e =
    let a = bind_some (part ls) (λ a. Some (Not a.0, a.1)) x e in
    let s = sound ls a.0 a.1 in
    let made : Expression × List Lexeme = (Not a.0.0, a.0.1) in
    subst (λ (y : Expression × List Lexeme). IsRead (IsUnary (suc d)) (l ∷ ls) y) (some_is made x a.2)
    (record { words = (is, s.words); is = record { written = (s.is.written, s.is.alone); alone = refl; nested = omega (arith, s.is.nested) } })

group_some : (d : ℕ) (part : List Lexeme → Read Expression) → IsSound (IsUnary d) part → (l : Lexeme) (ls : List Lexeme) (x : Expression × List Lexeme) → l.word ≡ sign (codes "(") → group part ls ≡ Some x → IsRead (IsUnary (suc d)) (l ∷ ls) x
unfolding group AnySum
group_some d part sound l ls x is e =
    let a = bind_some (sum part ls) (λ a. after_sign (codes ")") a.1 >>= λ e. Some (Group a.0, e)) x e in
    let c = bind_some (after_sign (codes ")") a.0.1) (λ e. Some (Group a.0.0, e)) x a.2 in
    let s = sum_some d part sound ls a.0 a.1 in
    let made : Expression × List Lexeme = (Group a.0.0, c.0) in
    let w = joined (spelled a.0.0) (close ∷ []) ls a.0.1 c.0 s.words (after_some is_symbol kind.Symbol is_symbol-true (codes ")") a.0.1 c.0 c.1) in
    subst (λ (y : Expression × List Lexeme). IsRead (IsUnary (suc d)) (l ∷ ls) y) (some_is made x c.2)
    (record { words = (is, w); is = record { written = s.is.1.written; alone = refl; nested = omega (arith, s.is.1.nested) } })

deeper : (d : ℕ) (ls : List Lexeme) (x : Expression × List Lexeme) → IsRead (IsUnary d) ls x → IsRead (IsUnary (suc d)) ls x
deeper d ls x r = record { words = r.words; is = record { written = r.is.written; alone = r.is.alone; nested = omega (arith, r.is.nested) } }

operation_some : (d : ℕ) (part : List Lexeme → Read Expression) → IsSound (IsUnary d) part → (k : Kind) (l : Lexeme) (ls : List Lexeme) (x : Expression × List Lexeme) → l.word.kind ≡ k → operation k l.word.bytes part ls ≡ Some x → IsRead (IsUnary (suc d)) (l ∷ ls) x
operation_some d part sound kind.Symbol l ls x k e =
    let is = λ (t : List ℕ) (h : bytes_eq l.word.bytes t ≡ true). same_word l.word kind.Symbol t k ((bytes_eq-Decides l.word.bytes t).0 h) in
    turn (IsRead (IsUnary (suc d)) (l ∷ ls) x) (bytes_eq l.word.bytes (codes "~")) (negation part ls) (cond (bytes_eq l.word.bytes (codes "(")) (group part ls) None) x
    (λ y h. negation_some d part sound l ls x (is (codes "~") y) h)
    (λ n f. turn (IsRead (IsUnary (suc d)) (l ∷ ls) x) (bytes_eq l.word.bytes (codes "(")) (group part ls) None x
    (λ y h. group_some d part sound l ls x (is (codes "(") y) h)
    (λ y h. absurd cc) f) e
operation_some d part sound kind.Name l ls x k e = leaf_some (suc d) kind.Name l ls x k e
operation_some d part sound kind.Bits l ls x k e = leaf_some (suc d) kind.Bits l ls x k e
operation_some d part sound _ l ls x k e = absurd cc

unary_some : (d : ℕ) → IsSound (IsUnary d) (unary d)
unfolding unary
unary_some d [] x e = absurd cc
unary_some zero (l ∷ ls) x e = leaf_some 0 l.word.kind l ls x refl e
unary_some (suc d) (l ∷ ls) x e = operation_some d (unary d) (unary_some d) l.word.kind l ls x refl e

pub record Spelt (ls : List Lexeme) (e : Expression) (rest : List Lexeme) : Type 0 where
  pub words : Begins ls (spelled e) rest
  pub is : IsExpression e

pub expression_some : (ls : List Lexeme) (x : Expression × List Lexeme) → expression_at ls ≡ Some x → Spelt ls x.0 x.1
unfolding expression_at AnySum
expression_some ls x e =
    let s = sum_some 64 (unary 64) (unary_some 64) ls x e in
    record { words = s.words; is = record { written = s.is.1.written; nested = s.is.1.nested } }

-- ---- what is spelled is read

abbrev IsComplete : (Expression → Type 0) → (List Lexeme → Read Expression) → (List Lexeme → Type 0) → Type 0
IsComplete P part E = (e : Expression) (ls rest : List Lexeme) → P e → Begins ls (spelled e) rest → E rest → part ls ≡ Some (e, rest)

abbrev NoBit : List Lexeme → Type 0
NoBit ls = Lacks (codes "[") ls

abbrev NoFactor : List Lexeme → Type 0
NoFactor ls = Lacks (codes "[") ls × Lacks (codes "&") ls

abbrev pub NoTerm : List Lexeme → Type 0
NoTerm ls = Lacks (codes "[") ls × Lacks (codes "&") ls × Lacks (codes "|") ls

-- a sign is no other
other : (t u : List ℕ) (ls rest : List Lexeme) → Begins ls (sign t ∷ []) rest → bytes_eq t u ≡ false → Lacks u ls
unfolding begins
other t u [] rest x n = absurd x
other t u (l ∷ ls) rest x n = subst (λ (w : Word). (is_symbol w.kind && bytes_eq w.bytes u) ≡ false) (sym x.0) n

chain_ends : (t : List ℕ) (join : Expression → Expression → Expression) (part : List Lexeme → Read Expression) (n : ℕ) (a : Expression) (ls : List Lexeme) → Lacks t ls → chain t join part n a ls ≡ Some (a, ls)
chain_ends t join part zero a ls h = rw h refl
chain_ends t join part (suc n) a ls h = rw h refl

chain_more : (t : List ℕ) (join : Expression → Expression → Expression) (part : List Lexeme → Read Expression) (n : ℕ) (a b : Expression) (l : Lexeme) (ls rest : List Lexeme) → l.word ≡ sign t → part ls ≡ Some (b, rest) → chain t join part (suc n) a (l ∷ ls) ≡ chain t join part n (join a b) rest
chain_more t join part n a b l ls rest is h = rw (begins-word is_symbol kind.Symbol t l ls refl is, h) refl

-- one more part after the sign
joins : (t : List ℕ) (join : Expression → Expression → Expression) (part : List Lexeme → Read Expression) (k : ℕ) (a b : Expression) (mid behind rest : List Lexeme) → Begins mid (sign t ∷ []) behind → part behind ≡ Some (b, rest) → chain t join part (suc k) a mid ≡ chain t join part k (join a b) rest
joins t join part k a b [] behind rest y h = absurd y
joins t join part k a b (l ∷ mid) behind rest y h = chain_more t join part k a b l mid rest y.0 (ap part y.1 ∙ h)

first_factor : (part : List Lexeme → Read Expression) (e : Expression) (ls rest : List Lexeme) → part ls ≡ Some (e, rest) → product part ls ≡ chain (codes "&") And part 63 e rest
unfolding product
first_factor part e ls rest h = rw h refl

first_term : (part : List Lexeme → Read Expression) (e : Expression) (ls rest : List Lexeme) → product part ls ≡ Some (e, rest) → sum part ls ≡ chain (codes "|") Or (product part) 63 e rest
unfolding sum
first_term part e ls rest h = rw h refl

product_reads : (d k : ℕ) (part : List Lexeme → Read Expression) → IsComplete (IsUnary d) part NoBit → (e : Expression) (ls rest : List Lexeme) → IsProduct d k e → Begins ls (spelled e) rest → NoBit rest → product part ls ≡ chain (codes "&") And part k e rest
product_reads d k part complete (And a b) ls rest p x n =
    let m = split (spelled a) (sign (codes "&") ∷ spelled b) ls rest x in
    let q : IsProduct d (suc k) a = record { written = p.written.0; alone = p.written.1; nested = omega (arith, p.nested); counted = omega (arith, p.counted) } in
    let u : IsUnary d b = record { written = p.written.2; alone = p.written.3; nested = omega (arith, p.nested) } in
    let s = split (sign (codes "&") ∷ []) (spelled b) m.0 rest m.2 in
    product_reads d (suc k) part complete a ls m.0 q m.1 (other (codes "&") (codes "[") m.0 s.0 s.1 refl)
    ∙ joins (codes "&") And part k a b m.0 s.0 rest s.1 (complete b s.0 rest u s.2 n)
product_reads d k part complete (Or a b) ls rest p x n = absurd (let h = p.alone in cc)
product_reads d k part complete e ls rest p x n =
    let u : IsUnary d e = record { written = p.written; alone = refl; nested = p.nested } in
    let same : 63 ≡ k = omega (arith, p.counted) in
    first_factor part e ls rest (complete e ls rest u x n) ∙ ap (λ (j : ℕ). chain (codes "&") And part j e rest) same

product_again : (d : ℕ) (part : List Lexeme → Read Expression) → IsComplete (IsUnary d) part NoBit → IsComplete (AnyProduct d) (product part) NoFactor
unfolding AnyProduct
product_again d part complete e ls rest p x n =
    product_reads d p.0 part complete e ls rest p.1 x n.0 ∙ chain_ends (codes "&") And part p.0 e rest n.1

sum_reads : (d k : ℕ) (part : List Lexeme → Read Expression) → IsComplete (IsUnary d) part NoBit → (e : Expression) (ls rest : List Lexeme) → IsSum d k e → Begins ls (spelled e) rest → NoFactor rest → sum part ls ≡ chain (codes "|") Or (product part) k e rest
sum_reads d k part complete (Or a b) ls rest p x n =
    let m = split (spelled a) (sign (codes "|") ∷ spelled b) ls rest x in
    let q : IsSum d (suc k) a = record { written = p.written.0; nested = omega (arith, p.nested); counted = omega (arith, p.counted) } in
    let s = split (sign (codes "|") ∷ []) (spelled b) m.0 rest m.2 in
    let lacks = λ (t : List ℕ) (h : bytes_eq (codes "|") t ≡ false). other (codes "|") t m.0 s.0 s.1 h in
    sum_reads d (suc k) part complete a ls m.0 q m.1 (lacks (codes "[") refl, lacks (codes "&") refl)
    ∙ joins (codes "|") Or (product part) k a b m.0 s.0 rest s.1 (product_again d part complete b s.0 rest (a_product d b p.written.1 p.written.2 (omega (arith, p.nested))) s.2 n)
sum_reads d k part complete e ls rest p x n =
    let same : 63 ≡ k = omega (arith, p.counted) in
    first_term part e ls rest (product_again d part complete e ls rest (a_product d e p.written refl p.nested) x n)
    ∙ ap (λ (j : ℕ). chain (codes "|") Or (product part) j e rest) same

sum_again : (d : ℕ) (part : List Lexeme → Read Expression) → IsComplete (IsUnary d) part NoBit → IsComplete (AnySum d) (sum part) NoTerm
unfolding AnySum
sum_again d part complete e ls rest p x n =
    sum_reads d p.0 part complete e ls rest p.1 x (n.0, n.1) ∙ chain_ends (codes "|") Or (product part) p.0 e rest n.2

bit_again : (t k : List ℕ) (ls rest : List Lexeme) → is_plain k ≡ true → Begins ls (sign (codes "[") ∷ number k ∷ sign (codes "]") ∷ []) rest → named t ls ≡ Some (Bit t k, rest)
unfolding named bit_at
bit_again t k [] rest h x = absurd x
bit_again t k (l ∷ ls) rest h x =
    let m = split (number k ∷ []) (sign (codes "]") ∷ []) ls rest x.1 in
    rw (begins-word is_symbol kind.Symbol (codes "[") l ls refl x.0, after-word is_symbol kind.Symbol (codes "[") (l ∷ ls) ls refl (x.0, refl), number-word k ls m.0 h m.1, after-word is_symbol kind.Symbol (codes "]") m.0 rest refl m.2) refl

name_again : (t : List ℕ) (ls rest : List Lexeme) → ls ≡ rest → NoBit rest → named t ls ≡ Some (Name t, rest)
unfolding named
name_again t ls rest e n = subst (λ (k : List Lexeme). named t k ≡ Some (Name t, rest)) (sym e) (rw n refl)

-- a word that is no sign
leaf_again : (d : ℕ) (e : Expression) (ls rest : List Lexeme) → nesting e ≤ 0 → IsUnary d e → Begins ls (spelled e) rest → NoBit rest → unary d ls ≡ Some (e, rest)
unfolding unary constant
leaf_again d Low [] rest h u x n = absurd x
leaf_again zero Low (l ∷ ls) rest h u x n = subst (λ (w : Word). leaf w.kind w.bytes ls ≡ Some (Low, rest)) (sym x.0) (λ i. Some (Low, x.1 i))
leaf_again (suc d) Low (l ∷ ls) rest h u x n = subst (λ (w : Word). operation w.kind w.bytes (unary d) ls ≡ Some (Low, rest)) (sym x.0) (λ i. Some (Low, x.1 i))
leaf_again d High [] rest h u x n = absurd x
leaf_again zero High (l ∷ ls) rest h u x n = subst (λ (w : Word). leaf w.kind w.bytes ls ≡ Some (High, rest)) (sym x.0) (λ i. Some (High, x.1 i))
leaf_again (suc d) High (l ∷ ls) rest h u x n = subst (λ (w : Word). operation w.kind w.bytes (unary d) ls ≡ Some (High, rest)) (sym x.0) (λ i. Some (High, x.1 i))
leaf_again d (Name t) [] rest h u x n = absurd x
leaf_again zero (Name t) (l ∷ ls) rest h u x n = subst (λ (w : Word). leaf w.kind w.bytes ls ≡ Some (Name t, rest)) (sym x.0) (name_again t ls rest x.1 n)
leaf_again (suc d) (Name t) (l ∷ ls) rest h u x n = subst (λ (w : Word). operation w.kind w.bytes (unary d) ls ≡ Some (Name t, rest)) (sym x.0) (name_again t ls rest x.1 n)
leaf_again d (Bit t k) [] rest h u x n = absurd x
leaf_again zero (Bit t k) (l ∷ ls) rest h u x n = subst (λ (w : Word). leaf w.kind w.bytes ls ≡ Some (Bit t k, rest)) (sym x.0) (bit_again t k ls rest u.written x.1)
leaf_again (suc d) (Bit t k) (l ∷ ls) rest h u x n = subst (λ (w : Word). operation w.kind w.bytes (unary d) ls ≡ Some (Bit t k, rest)) (sym x.0) (bit_again t k ls rest u.written x.1)
leaf_again d (Not a) ls rest h u x n = absurd (omega (arith, h))
leaf_again d (Group a) ls rest h u x n = absurd (omega (arith, h))
leaf_again d (And a b) ls rest h u x n = absurd (let f = u.alone in cc)
leaf_again d (Or a b) ls rest h u x n = absurd (let f = u.alone in cc)

negation_again : (part : List Lexeme → Read Expression) (a : Expression) (ls rest : List Lexeme) → part ls ≡ Some (a, rest) → negation part ls ≡ Some (Not a, rest)
unfolding negation
negation_again part a ls rest h = rw h refl

group_again : (d : ℕ) (part : List Lexeme → Read Expression) → IsComplete (IsUnary d) part NoBit → (a : Expression) (ls rest : List Lexeme) → AnySum d a → Begins ls (spelled a ++ (close ∷ [])) rest → group part ls ≡ Some (Group a, rest)
unfolding group
group_again d part complete a ls rest s x =
    let m = split (spelled a) (close ∷ []) ls rest x in
    let lacks = λ (t : List ℕ) (h : bytes_eq (codes ")") t ≡ false). other (codes ")") t m.0 rest m.2 h in
    rw (sum_again d part complete a ls m.0 s m.1 (lacks (codes "[") refl, lacks (codes "&") refl, lacks (codes "|") refl), after-word is_symbol kind.Symbol (codes ")") m.0 rest refl m.2) refl

unary_again : (d : ℕ) → IsComplete (IsUnary d) (unary d) NoBit
unfolding unary
unary_again zero e ls rest u x n = leaf_again 0 e ls rest u.nested u x n
unary_again (suc d) (Not a) [] rest u x n = absurd x
unary_again (suc d) (Not a) (l ∷ ls) rest u x n =
    let v : IsUnary d a = record { written = u.written.0; alone = u.written.1; nested = omega (arith, u.nested) } in
    subst (λ (w : Word). operation w.kind w.bytes (unary d) ls ≡ Some (Not a, rest)) (sym x.0) (negation_again (unary d) a ls rest (unary_again d a ls rest v x.1 n))
unary_again (suc d) (Group a) [] rest u x n = absurd x
unary_again (suc d) (Group a) (l ∷ ls) rest u x n =
    subst (λ (w : Word). operation w.kind w.bytes (unary d) ls ≡ Some (Group a, rest)) (sym x.0) (group_again d (unary d) (unary_again d) a ls rest (a_sum d a u.written (omega (arith, u.nested))) x.1)
unary_again (suc d) (And a b) ls rest u x n = absurd (let f = u.alone in cc)
unary_again (suc d) (Or a b) ls rest u x n = absurd (let f = u.alone in cc)
unary_again (suc d) e ls rest u x n = leaf_again (suc d) e ls rest (omega arith) u x n

pub expression_again : (e : Expression) (ls rest : List Lexeme) → Spelt ls e rest → NoTerm rest → expression_at ls ≡ Some (e, rest)
unfolding expression_at
expression_again e ls rest s n =
    sum_again 64 (unary 64) (unary_again 64) e ls rest (a_sum 64 e s.is.written s.is.nested) s.words n
