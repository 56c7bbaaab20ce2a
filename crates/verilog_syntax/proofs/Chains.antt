-- Parts with a sign between them, read in a loop.
use Rattle.std.proofs.Common.{◌≡◌, ℕ, zero, suc, ◌+◌, ◌-◌, ◌<◌, ◌≤◌, Bool, true, false, cond, List, Some, None, Err, refl, sym, ap, ◌∙◌, arith}
use Rattle.std.specs.Prelude.{codes, drop}
use Rattle.rl_text.specs.Lexemes.{Lexeme}
use Rattle.verilog_text.specs.Grammar.{Expression, And, Or}
use Rattle.verilog_text.specs.Reading.{Read, ◌>>=◌, is_symbol, begins, after, chain, product, sum}
use Rattle.verilog_syntax.specs.declared.error.ReadError.{ReadError}
use Rattle.verilog_syntax.specs.declared.error.ReadError.TheVariants.{Syntax, NoMemory}
use Rattle.verilog_syntax.specs.Reads.{Gives}
use Rattle.verilog_syntax.specs.View.{expression}
use Rattle.verilog_syntax.specs.declared.written.Written.{Written}

-- what an expression that is read and the words after it are
abbrev pub seen : List Lexeme → Written → Expression × List Lexeme
seen after x = (expression x, after)

tested_none : {A : Type 0} (b : Bool) (x : A) → cond b (Some x) None ≡ None → b ≡ false
tested_none true x e = absurd cc
tested_none false x e = refl

tested_some : {A : Type 0} (b : Bool) (x y : A) → cond b (Some x) None ≡ Some y → (b ≡ true) × (x ≡ y)
tested_some true x y e = (refl, cc)
tested_some false x y e = absurd cc

pub lacks : (t : List ℕ) (ls : List Lexeme) → after is_symbol t ls ≡ None → begins is_symbol t ls ≡ false
unfolding after
lacks t ls e = tested_none (begins is_symbol t ls) (drop 1 ls) e

pub has : (t : List ℕ) (ls mid : List Lexeme) → after is_symbol t ls ≡ Some mid → (begins is_symbol t ls ≡ true) × (drop 1 ls ≡ mid)
unfolding after
has t ls mid e = tested_some (begins is_symbol t ls) (drop 1 ls) mid e

module _ (t : List ℕ) (join : Expression → Expression → Expression) (part : List Lexeme → Read Expression) where
  stops : (n : ℕ) (a : Expression) (ls : List Lexeme) → begins is_symbol t ls ≡ false → chain t join part n a ls ≡ Some (a, ls)
  stops zero a ls h = rw h refl
  stops (suc n) a ls h = rw h refl

  goes : (n : ℕ) (a : Expression) (ls mid : List Lexeme) → after is_symbol t ls ≡ Some mid → chain t join part (suc n) a ls ≡ (part mid >>= (λ b. chain t join part n (join a b.0) b.1))
  goes n a ls mid e = let h = has t ls mid e in rw (h.0, h.1) refl

  pub chain_done : (n : ℕ) (a : Expression) (ls : List Lexeme) (total : Read Expression) → after is_symbol t ls ≡ None → chain t join part n a ls ≡ total → total ≡ Some (a, ls)
  chain_done n a ls total e so_far = sym so_far ∙ stops n a ls (lacks t ls e)

  pub chain_goes : (i : ℕ) (a b : Expression) (ls mid rest : List Lexeme) (total : Read Expression) → i < 63 → after is_symbol t ls ≡ Some mid → part mid ≡ Some (b, rest)
      → chain t join part (63 - i) a ls ≡ total → chain t join part (63 - (i + 1)) (join a b) rest ≡ total
  chain_goes i a b ls mid rest total lt e h so_far =
      let k : 63 - i ≡ suc (63 - (i + 1)) = omega arith in
      let step : chain t join part (suc (63 - (i + 1))) a ls ≡ chain t join part (63 - (i + 1)) (join a b) rest = goes (63 - (i + 1)) a ls mid e ∙ ap (λ o. o >>= (λ b. chain t join part (63 - (i + 1)) (join a b.0) b.1)) h in
      sym step ∙ sym (ap (λ (n : ℕ). chain t join part n a ls) k) ∙ so_far

  pub chain_fails : (after_it : List Lexeme) (f : ReadError) (i : ℕ) (a : Expression) (ls mid : List Lexeme) (total : Read Expression) → i < 63 → after is_symbol t ls ≡ Some mid → Gives (seen after_it) (Err f) (part mid)
      → chain t join part (63 - i) a ls ≡ total → Gives (seen after_it) (Err f) total
  chain_fails after_it NoMemory i a ls mid total lt e h so_far = tt
  chain_fails after_it Syntax i a ls mid total lt e h so_far =
      let k : 63 - i ≡ suc (63 - (i + 1)) = omega arith in
      let step : chain t join part (suc (63 - (i + 1))) a ls ≡ None = goes (63 - (i + 1)) a ls mid e ∙ ap (λ o. o >>= (λ b. chain t join part (63 - (i + 1)) (join a b.0) b.1)) h in
      sym so_far ∙ ap (λ (n : ℕ). chain t join part n a ls) k ∙ step

  pub chain_ends : (i : ℕ) (a : Expression) (ls : List Lexeme) (total : Read Expression) → begins is_symbol t ls ≡ false → chain t join part (63 - i) a ls ≡ total → total ≡ Some (a, ls)
  chain_ends i a ls total h so_far = sym so_far ∙ stops (63 - i) a ls h

  pub chain_full : (i : ℕ) (a : Expression) (ls : List Lexeme) (total : Read Expression) → 63 ≤ i → begins is_symbol t ls ≡ true → chain t join part (63 - i) a ls ≡ total → total ≡ None
  chain_full i a ls total le h so_far =
      let k : 63 - i ≡ 0 = omega arith in
      let step : chain t join part 0 a ls ≡ None = rw h refl in
      sym so_far ∙ ap (λ (n : ℕ). chain t join part n a ls) k ∙ step

pub product_first : (part : List Lexeme → Read Expression) (a : Expression) (ls rest : List Lexeme) → part ls ≡ Some (a, rest) → chain (codes "&") And part (63 - 0) a rest ≡ product part ls
unfolding product
product_first part a ls rest e = rw e refl

pub product_fails : (after_it : List Lexeme) (f : ReadError) (part : List Lexeme → Read Expression) (ls : List Lexeme) → Gives (seen after_it) (Err f) (part ls) → Gives (seen after_it) (Err f) (product part ls)
unfolding product
product_fails after_it NoMemory part ls e = tt
product_fails after_it Syntax part ls e = rw e refl

pub sum_first : (part : List Lexeme → Read Expression) (a : Expression) (ls rest : List Lexeme) → product part ls ≡ Some (a, rest) → chain (codes "|") Or (product part) (63 - 0) a rest ≡ sum part ls
unfolding sum
sum_first part a ls rest e = rw e refl

pub sum_fails : (after_it : List Lexeme) (f : ReadError) (part : List Lexeme → Read Expression) (ls : List Lexeme) → Gives (seen after_it) (Err f) (product part ls) → Gives (seen after_it) (Err f) (sum part ls)
unfolding sum
sum_fails after_it NoMemory part ls e = tt
sum_fails after_it Syntax part ls e = rw e refl
