-- What is read as an expression is spelled so, and what is spelled so is read.
use Rattle.std.proofs.Common.{◌≡◌, ℕ, zero, suc, ◌≤◌, true, List, [], ◌∷◌, ◌++◌, Some, refl, sym, ap, subst, ◌∙◌, append_assoc, arith}
use Rattle.std.specs.Prelude.{codes, max}
use Rattle.net_lang.specs.declared.reader.word.Key.{Key}
use Rattle.net_lang.specs.declared.reader.word.Key.TheVariants as key
use Rattle.rl_text.specs.Lines.{Word}
use Rattle.rl_text.specs.Writing.{name, number}
use Rattle.net_lang.specs.Grammar.{Expression, Never, Name, Min, Max, Lt, Inc, open_, comma, close, spelled, IsWritten, written_nesting, Spells}
use Rattle.rl_text.specs.Numbers.{is_plain}
use Rattle.net_lang.specs.Reading.{◌>>=◌, Read, after_sign, constant, keyword, key_of, pair, delay, leaf, operation, expr_at}
use Rattle.net_lang.proofs.WordLemmas.{some_is, bind_some, after_sign_some, after_sign-sign, constant_some, constant-number, key_of_name, key_of_text, key_of-name, plain_is, is_plain_key}

-- the words of two operands, one by one
two : (n : Word) (a b r : List Word) → (((n ∷ open_ ∷ a) ++ (comma ∷ b)) ++ (close ∷ [])) ++ r ≡ n ∷ open_ ∷ (a ++ (comma ∷ (b ++ (close ∷ r))))
two n a b r = simp append_assoc

one : (n m : Word) (a r : List Word) → ((n ∷ open_ ∷ a) ++ (comma ∷ m ∷ close ∷ [])) ++ r ≡ n ∷ open_ ∷ (a ++ (comma ∷ m ∷ close ∷ r))
one n m a r = simp append_assoc

-- operands that were read
record Operand (d : ℕ) (t : Expression) : Type 0 where
  written : IsWritten t
  nested : written_nesting t ≤ d

record IsPair (d : ℕ) (ws : List Word) (a b : Expression) (r : List Word) : Type 0 where
  words : ws ≡ open_ ∷ (spelled a ++ (comma ∷ (spelled b ++ (close ∷ r))))
  first : Operand d a
  second : Operand d b

record IsDelay (d : ℕ) (ws : List Word) (a : Expression) (n : List ℕ) (r : List Word) : Type 0 where
  words : ws ≡ open_ ∷ (spelled a ++ (comma ∷ number n ∷ close ∷ r))
  first : Operand d a
  plain : is_plain n ≡ true

abbrev IsSound : ℕ → (List Word → Read Expression) → Type 0
IsSound d inner = (ws : List Word) (t : Expression) (r : List Word) → inner ws ≡ Some (t, r) → Spells d ws t r

pair_some : (d : ℕ) (inner : List Word → Read Expression) → IsSound d inner → (ws : List Word) (x : Expression × Expression × List Word) → pair inner ws ≡ Some x → IsPair d ws x.0 x.1 x.2
unfolding pair
pair_some d inner sound ws x e =
    let o = bind_some (after_sign (codes "(") ws) (λ o. inner o >>= λ a. after_sign (codes ",") a.1 >>= λ c. inner c >>= λ b. after_sign (codes ")") b.1 >>= λ e. Some (a.0, b.0, e)) x e in
    let a = bind_some (inner o.0) (λ a. after_sign (codes ",") a.1 >>= λ c. inner c >>= λ b. after_sign (codes ")") b.1 >>= λ e. Some (a.0, b.0, e)) x o.2 in
    let c = bind_some (after_sign (codes ",") a.0.1) (λ c. inner c >>= λ b. after_sign (codes ")") b.1 >>= λ e. Some (a.0.0, b.0, e)) x a.2 in
    let b = bind_some (inner c.0) (λ b. after_sign (codes ")") b.1 >>= λ e. Some (a.0.0, b.0, e)) x c.2 in
    let z = bind_some (after_sign (codes ")") b.0.1) (λ e. Some (a.0.0, b.0.0, e)) x b.2 in
    let made : Expression × Expression × List Word = (a.0.0, b.0.0, z.0) in
    let first = sound o.0 a.0.0 a.0.1 a.1 in
    let second = sound c.0 b.0.0 b.0.1 b.1 in
    let w : ws ≡ open_ ∷ (spelled a.0.0 ++ (comma ∷ (spelled b.0.0 ++ (close ∷ z.0)))) =
    after_sign_some (codes "(") ws o.0 o.1 ∙ ap (λ (k : List Word). open_ ∷ k) (first.words ∙ ap (λ (k : List Word). spelled a.0.0 ++ k) (after_sign_some (codes ",") a.0.1 c.0 c.1 ∙ ap (λ (k : List Word). comma ∷ k) (second.words ∙ ap (λ (k : List Word). spelled b.0.0 ++ k) (after_sign_some (codes ")") b.0.1 z.0 z.1)))) in
    subst (λ (y : Expression × Expression × List Word). IsPair d ws y.0 y.1 y.2) (some_is made x z.2)
    (record { words = w; first = record { written = first.written; nested = first.nested }; second = record { written = second.written; nested = second.nested } })

delay_some : (d : ℕ) (inner : List Word → Read Expression) → IsSound d inner → (ws : List Word) (x : Expression × List ℕ × List Word) → delay inner ws ≡ Some x → IsDelay d ws x.0 x.1 x.2
unfolding delay
delay_some d inner sound ws x e =
    let o = bind_some (after_sign (codes "(") ws) (λ o. inner o >>= λ a. after_sign (codes ",") a.1 >>= λ c. constant c >>= λ n. after_sign (codes ")") n.1 >>= λ e. Some (a.0, n.0, e)) x e in
    let a = bind_some (inner o.0) (λ a. after_sign (codes ",") a.1 >>= λ c. constant c >>= λ n. after_sign (codes ")") n.1 >>= λ e. Some (a.0, n.0, e)) x o.2 in
    let c = bind_some (after_sign (codes ",") a.0.1) (λ c. constant c >>= λ n. after_sign (codes ")") n.1 >>= λ e. Some (a.0.0, n.0, e)) x a.2 in
    let n = bind_some (constant c.0) (λ n. after_sign (codes ")") n.1 >>= λ e. Some (a.0.0, n.0, e)) x c.2 in
    let z = bind_some (after_sign (codes ")") n.0.1) (λ e. Some (a.0.0, n.0.0, e)) x n.2 in
    let made : Expression × List ℕ × List Word = (a.0.0, n.0.0, z.0) in
    let first = sound o.0 a.0.0 a.0.1 a.1 in
    let second = constant_some c.0 n.0.1 n.0.0 n.1 in
    let w : ws ≡ open_ ∷ (spelled a.0.0 ++ (comma ∷ number n.0.0 ∷ close ∷ z.0)) =
    after_sign_some (codes "(") ws o.0 o.1 ∙ ap (λ (k : List Word). open_ ∷ k) (first.words ∙ ap (λ (k : List Word). spelled a.0.0 ++ k) (after_sign_some (codes ",") a.0.1 c.0 c.1 ∙ ap (λ (k : List Word). comma ∷ k) (second.0 ∙ ap (λ (k : List Word). number n.0.0 ∷ k) (after_sign_some (codes ")") n.0.1 z.0 z.1)))) in
    subst (λ (y : Expression × List ℕ × List Word). IsDelay d ws y.0 y.1 y.2) (some_is made x z.2)
    (record { words = w; first = record { written = first.written; nested = first.nested }; plain = second.1 })

leaf_some : (d : ℕ) (k : Key) (w : Word) (ws : List Word) (x : Expression × List Word) → key_of w ≡ k → leaf k w.bytes ws ≡ Some x → Spells d (w ∷ ws) x.0 x.1
leaf_some d key.Never w ws x k e =
    let is = key_of_text w key.Never (codes "never") (λ h. cc) (λ h. h) k in
    let made : Expression × List Word = (Never, ws) in
    subst (λ (y : Expression × List Word). Spells d (w ∷ ws) y.0 y.1) (some_is made x e) (record { words = ap (λ (v : Word). v ∷ ws) is; written = tt; nested = omega arith })
leaf_some d key.Plain w ws x k e =
    let is = key_of_name w key.Plain (λ h. cc) k in
    let made : Expression × List Word = (Name w.bytes, ws) in
    subst (λ (y : Expression × List Word). Spells d (w ∷ ws) y.0 y.1) (some_is made x e) (record { words = ap (λ (v : Word). v ∷ ws) is.0; written = plain_is w.bytes is.1; nested = omega arith })
leaf_some d _ w ws x k e = absurd cc

module _ (d : ℕ) (inner : List Word → Read Expression) (sound : IsSound d inner) (w : Word) (ws : List Word) (x : Expression × List Word) where
  binary : (k : Key) (t : List ℕ) (op : Expression → Expression → Expression) → w ≡ name t
      → ((a b : Expression) → spelled (op a b) ≡ name t ∷ open_ ∷ spelled a ++ comma ∷ spelled b ++ close ∷ []) → ((a b : Expression) → written_nesting (op a b) ≡ suc (max (written_nesting a) (written_nesting b))) → ((a b : Expression) → IsWritten a → IsWritten b → IsWritten (op a b))
      → (pair inner ws >>= λ y. Some (op y.0 y.1, y.2)) ≡ Some x → Spells (suc d) (w ∷ ws) x.0 x.1
  binary k t op is words nested written e =
      let p = bind_some (pair inner ws) (λ y. Some (op y.0 y.1, y.2)) x e in
      let q = pair_some d inner sound ws p.0 p.1 in
      let made : Expression × List Word = (op p.0.0 p.0.1, p.0.2) in
      let e1 : w ∷ ws ≡ spelled (op p.0.0 p.0.1) ++ p.0.2 = (λ i. is i ∷ q.words i) ∙ sym (ap (λ (s : List Word). s ++ p.0.2) (words p.0.0 p.0.1) ∙ two (name t) (spelled p.0.0) (spelled p.0.1) p.0.2) in
      subst (λ (y : Expression × List Word). Spells (suc d) (w ∷ ws) y.0 y.1) (some_is made x p.2)
      (record { words = e1; written = written p.0.0 p.0.1 q.first.written q.second.written; nested = rw (nested p.0.0 p.0.1) (omega (arith, q.first.nested, q.second.nested)) })

  operation_some : (k : Key) → key_of w ≡ k → operation k w.bytes inner ws ≡ Some x → Spells (suc d) (w ∷ ws) x.0 x.1
  operation_some key.Min k e = binary key.Min (codes "min") (λ a b. Min a b) (key_of_text w key.Min (codes "min") (λ h. cc) (λ h. h) k) (λ a b. refl) (λ a b. refl) (λ a b p q. (p, q)) e
  operation_some key.Max k e = binary key.Max (codes "max") (λ a b. Max a b) (key_of_text w key.Max (codes "max") (λ h. cc) (λ h. h) k) (λ a b. refl) (λ a b. refl) (λ a b p q. (p, q)) e
  operation_some key.Lt k e = binary key.Lt (codes "lt") (λ a b. Lt a b) (key_of_text w key.Lt (codes "lt") (λ h. cc) (λ h. h) k) (λ a b. refl) (λ a b. refl) (λ a b p q. (p, q)) e
  operation_some key.Inc k e =
      let p = bind_some (delay inner ws) (λ y. Some (Inc y.0 y.1, y.2)) x e in
      let q = delay_some d inner sound ws p.0 p.1 in
      let is = key_of_text w key.Inc (codes "inc") (λ h. cc) (λ h. h) k in
      let made : Expression × List Word = (Inc p.0.0 p.0.1, p.0.2) in
      let e1 : w ∷ ws ≡ spelled (Inc p.0.0 p.0.1) ++ p.0.2 = (λ i. is i ∷ q.words i) ∙ sym (one (name (codes "inc")) (number p.0.1) (spelled p.0.0) p.0.2) in
      subst (λ (y : Expression × List Word). Spells (suc d) (w ∷ ws) y.0 y.1) (some_is made x p.2)
      (record { words = e1; written = (q.first.written, q.plain); nested = omega (arith, q.first.nested) })
  operation_some key.Never k e = leaf_some (suc d) key.Never w ws x k e
  operation_some key.Plain k e = leaf_some (suc d) key.Plain w ws x k e
  operation_some key.NoName k e = absurd cc

pub expr_some : (d : ℕ) (ws : List Word) (t : Expression) (r : List Word) → expr_at d ws ≡ Some (t, r) → Spells d ws t r
unfolding expr_at
expr_some d [] t r e = absurd cc
expr_some zero (w ∷ ws) t r e = leaf_some 0 (key_of w) w ws (t, r) refl e
expr_some (suc d) (w ∷ ws) t r e = operation_some d (expr_at d) (expr_some d) w ws (t, r) (key_of w) refl e

-- ---- what is spelled is read

pair_again : (inner : List Word → Read Expression) (a b : Expression) (sb r : List Word) (sa : List Word)
    → inner (sa ++ (comma ∷ (sb ++ (close ∷ r)))) ≡ Some (a, comma ∷ (sb ++ (close ∷ r))) → inner (sb ++ (close ∷ r)) ≡ Some (b, close ∷ r)
    → pair inner (open_ ∷ (sa ++ (comma ∷ (sb ++ (close ∷ r))))) ≡ Some (a, b, r)
unfolding pair
pair_again inner a b sb r sa e f =
    rw (after_sign-sign (codes "(") (sa ++ (comma ∷ (sb ++ (close ∷ r)))), e, after_sign-sign (codes ",") (sb ++ (close ∷ r)), f, after_sign-sign (codes ")") r) refl

delay_again : (inner : List Word → Read Expression) (a : Expression) (n : List ℕ) (r sa : List Word)
    → inner (sa ++ (comma ∷ number n ∷ close ∷ r)) ≡ Some (a, comma ∷ number n ∷ close ∷ r) → is_plain n ≡ true
    → delay inner (open_ ∷ (sa ++ (comma ∷ number n ∷ close ∷ r))) ≡ Some (a, n, r)
unfolding delay
delay_again inner a n r sa e h =
    rw (after_sign-sign (codes "(") (sa ++ (comma ∷ number n ∷ close ∷ r)), e, after_sign-sign (codes ",") (number n ∷ close ∷ r), constant-number n (close ∷ r) h, after_sign-sign (codes ")") r) refl

pub expr-spelled : (d : ℕ) (t : Expression) (r : List Word) → IsWritten t → written_nesting t ≤ d → expr_at d (spelled t ++ r) ≡ Some (t, r)
unfolding expr_at key_of keyword
expr-spelled zero Never r h n = refl
expr-spelled (suc d) Never r h n = refl
expr-spelled zero (Name t) r h n = ap (λ (k : Key). leaf k t r) (key_of-name t ∙ is_plain_key t h)
expr-spelled (suc d) (Name t) r h n = ap (λ (k : Key). operation k t (expr_at d) r) (key_of-name t ∙ is_plain_key t h)
expr-spelled zero (Min a b) r h n = absurd (omega (arith, n))
expr-spelled (suc d) (Min a b) r h n =
    ap (expr_at (suc d)) (two (name (codes "min")) (spelled a) (spelled b) r)
    ∙ ap (λ o. o >>= λ y. Some (Min y.0 y.1, y.2)) (pair_again (expr_at d) a b (spelled b) r (spelled a) (expr-spelled d a (comma ∷ (spelled b ++ (close ∷ r))) h.0 (omega (arith, n))) (expr-spelled d b (close ∷ r) h.1 (omega (arith, n))))
expr-spelled zero (Max a b) r h n = absurd (omega (arith, n))
expr-spelled (suc d) (Max a b) r h n =
    ap (expr_at (suc d)) (two (name (codes "max")) (spelled a) (spelled b) r)
    ∙ ap (λ o. o >>= λ y. Some (Max y.0 y.1, y.2)) (pair_again (expr_at d) a b (spelled b) r (spelled a) (expr-spelled d a (comma ∷ (spelled b ++ (close ∷ r))) h.0 (omega (arith, n))) (expr-spelled d b (close ∷ r) h.1 (omega (arith, n))))
expr-spelled zero (Lt a b) r h n = absurd (omega (arith, n))
expr-spelled (suc d) (Lt a b) r h n =
    ap (expr_at (suc d)) (two (name (codes "lt")) (spelled a) (spelled b) r)
    ∙ ap (λ o. o >>= λ y. Some (Lt y.0 y.1, y.2)) (pair_again (expr_at d) a b (spelled b) r (spelled a) (expr-spelled d a (comma ∷ (spelled b ++ (close ∷ r))) h.0 (omega (arith, n))) (expr-spelled d b (close ∷ r) h.1 (omega (arith, n))))
expr-spelled zero (Inc a m) r h n = absurd (omega (arith, n))
expr-spelled (suc d) (Inc a m) r h n =
    ap (expr_at (suc d)) (one (name (codes "inc")) (number m) (spelled a) r)
    ∙ ap (λ o. o >>= λ y. Some (Inc y.0 y.1, y.2)) (delay_again (expr_at d) a m r (spelled a) (expr-spelled d a (comma ∷ number m ∷ close ∷ r) h.0 (omega (arith, n))) h.1)
