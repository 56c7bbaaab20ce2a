-- What a name means after one more declaration.
use Rattle.std.proofs.Common.{◌≡◌, ℕ, Bool, true, false, cond, List, [], ◌∷◌, ◌++◌, Option, Some, None, refl, sym, ap, subst, ◌∙◌, inl, inr, ◌⊎◌}
use Rattle.std.specs.Str.{bytes_eq}
use Rattle.std.proofs.lemmas.Slice.Eq.{bytes_eq-Decides}
use Rattle.verilog_text.specs.Judging.{Entry, Meaning, found}

pub eq_same : (a b : List ℕ) → bytes_eq a b ≡ true → a ≡ b
eq_same a b h = (bytes_eq-Decides a b).0 h

pub eq_refl : (a : List ℕ) → bytes_eq a a ≡ true
eq_refl a = (bytes_eq-Decides a a).1 refl

pub eq_comm : (a b : List ℕ) → bytes_eq a b ≡ bytes_eq b a
eq_comm a b = either (bytes_eq a b) (bytes_eq b a) refl refl where
  either : (p q : Bool) → bytes_eq a b ≡ p → bytes_eq b a ≡ q → p ≡ q
  either true true e f = refl
  either false false e f = refl
  either true false e f = absurd (let s : bytes_eq b a ≡ true = ap (λ (z : List ℕ). bytes_eq b z) (eq_same a b e) ∙ eq_refl b in let t : false ≡ true = sym f ∙ s in cc)
  either false true e f = absurd (let s : bytes_eq a b ≡ true = ap (λ (z : List ℕ). bytes_eq a z) (eq_same b a f) ∙ eq_refl a in let t : false ≡ true = sym e ∙ s in cc)

abbrev pub entry : List ℕ → Meaning → Entry
entry n m = record { name = n; meaning = m }

pub found_kept : (es fs : List Entry) (t : List ℕ) (m : Meaning) → found t es ≡ Some m → found t (es ++ fs) ≡ Some m
found_kept [] fs t m h = absurd cc
found_kept (e ∷ es) fs t m h = first (bytes_eq t e.name) (found_kept es fs t m) h where
  first : (b : Bool) → (found t es ≡ Some m → found t (es ++ fs) ≡ Some m) → cond b (Some e.meaning) (found t es) ≡ Some m → cond b (Some e.meaning) (found t (es ++ fs)) ≡ Some m
  first true again h = h
  first false again h = again h

pub found_new : (es : List Entry) (n : List ℕ) (m : Meaning) → found n es ≡ None → found n (es ++ entry n m ∷ []) ≡ Some m
found_new [] n m h = ap (λ (b : Bool). cond b (Some m) None) (eq_refl n)
found_new (e ∷ es) n m h = first (bytes_eq n e.name) (found_new es n m) h where
  first : (b : Bool) → (found n es ≡ None → found n (es ++ entry n m ∷ []) ≡ Some m) → cond b (Some e.meaning) (found n es) ≡ None → cond b (Some e.meaning) (found n (es ++ entry n m ∷ [])) ≡ Some m
  first true again h = absurd cc
  first false again h = again h

found_other : (es : List Entry) (n t : List ℕ) (m : Meaning) → bytes_eq t n ≡ false → found t (es ++ entry n m ∷ []) ≡ found t es
found_other [] n t m h = ap (λ (b : Bool). cond b (Some m) None) h
found_other (e ∷ es) n t m h = ap (λ (o : Option Meaning). cond (bytes_eq t e.name) (Some e.meaning) o) (found_other es n t m h)

pub found_more : (es : List Entry) (n t : List ℕ) (m : Meaning) → found n es ≡ None → found t (es ++ entry n m ∷ []) ≡ cond (bytes_eq n t) (Some m) (found t es)
found_more es n t m h = either (bytes_eq n t) refl where
  either : (b : Bool) → bytes_eq n t ≡ b → found t (es ++ entry n m ∷ []) ≡ cond b (Some m) (found t es)
  either true e = subst (λ (z : List ℕ). found z (es ++ entry n m ∷ []) ≡ Some m) (eq_same n t e) (found_new es n m h)
  either false e = found_other es n t m (eq_comm t n ∙ e)

pub found_split : (es : List Entry) (n t : List ℕ) (m k : Meaning) → found t (es ++ entry n m ∷ []) ≡ Some k → (found t es ≡ Some k) ⊎ (k ≡ m)
found_split [] n t m k h = first (bytes_eq t n) h where
  first : (b : Bool) → cond b (Some m) None ≡ Some k → (None ≡ Some k) ⊎ (k ≡ m)
  first true e = inr cc
  first false e = inl e
found_split (e ∷ es) n t m k h = first (bytes_eq t e.name) (found_split es n t m k) h where
  first : (b : Bool) → (found t (es ++ entry n m ∷ []) ≡ Some k → (found t es ≡ Some k) ⊎ (k ≡ m)) → cond b (Some e.meaning) (found t (es ++ entry n m ∷ [])) ≡ Some k → (cond b (Some e.meaning) (found t es) ≡ Some k) ⊎ (k ≡ m)
  first true again h = inl h
  first false again h = again h
