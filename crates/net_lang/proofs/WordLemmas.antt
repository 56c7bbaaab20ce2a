-- One word at the front.
use Rattle.std.proofs.Common.{◌≡◌, ℕ, Bool, true, false, cond, List, [], ◌∷◌, Option, Some, None, refl, sym, ap, subst, ◌∙◌, ◌&&◌, ◌||◌}
use Rattle.std.specs.Prelude.{codes}
use Rattle.std.specs.Str.{bytes_eq}
use Rattle.std.proofs.lemmas.Bool.{or_parts}
use Rattle.std.proofs.lemmas.Slice.Eq.{bytes_eq-Decides}
use Rattle.rl_text.specs.declared.token.Kind.{Kind}
use Rattle.rl_text.specs.declared.token.Kind.TheVariants as kind
use Rattle.net_lang.specs.declared.reader.word.Key.{Key}
use Rattle.net_lang.specs.declared.reader.word.Key.TheVariants as key
use Rattle.rl_text.specs.Lines.{Word}
use Rattle.net_model.specs.Rules.{is_reserved}
use Rattle.rl_text.specs.Writing.{name, number, sign}
use Rattle.rl_text.specs.Numbers.{is_plain}
use Rattle.net_lang.specs.Reading.{◌>>=◌, is_symbol, is_number, after_sign, constant, keyword, key_at, key_of}

pub some_is : {A : Type 0} (x y : A) → Some x ≡ Some y → x ≡ y
some_is x y e = cc

pub bind_some : {A B : Type 0} (r : Option A) (f : A → Option B) (y : B) → (r >>= f) ≡ Some y → (x : A) × (r ≡ Some x) × (f x ≡ Some y)
bind_some (Some x) f y e = (x, refl, e)
bind_some None f y e = absurd cc

pub guard_some : {A : Type 0} (b : Bool) (x y : A) → cond b (Some x) None ≡ Some y → (b ≡ true) × (x ≡ y)
guard_some true x y e = (refl, cc)
guard_some false x y e = absurd cc

pub and_true : (a b : Bool) → (a && b) ≡ true → (a ≡ true) × (b ≡ true)
and_true true true e = (refl, refl)
and_true true false e = absurd cc
and_true false b e = absurd cc

pub is_symbol-true : (k : Kind) → is_symbol k ≡ true → k ≡ kind.Symbol
is_symbol-true kind.Symbol e = refl
is_symbol-true _ e = absurd cc

pub is_number-true : (k : Kind) → is_number k ≡ true → k ≡ kind.Number
is_number-true kind.Number e = refl
is_number-true _ e = absurd cc

pub same_word : (w : Word) (k : Kind) (t : List ℕ) → w.kind ≡ k → w.bytes ≡ t → w ≡ record { kind = k; bytes = t }
same_word w k t p q = λ i. record { kind = p i; bytes = q i }

pub after_sign_some : (t : List ℕ) (ws r : List Word) → after_sign t ws ≡ Some r → ws ≡ sign t ∷ r
unfolding after_sign
after_sign_some t [] r e = absurd cc
after_sign_some t (w ∷ ws) r e =
    let g = guard_some (is_symbol w.kind && bytes_eq w.bytes t) ws r e in
    let h = and_true (is_symbol w.kind) (bytes_eq w.bytes t) g.0 in
    let s = same_word w kind.Symbol t (is_symbol-true w.kind h.0) ((bytes_eq-Decides w.bytes t).0 h.1) in
    λ i. s i ∷ g.1 i

pub after_sign-sign : (t : List ℕ) (ws : List Word) → after_sign t (sign t ∷ ws) ≡ Some ws
unfolding after_sign
after_sign-sign t ws = rw ((bytes_eq-Decides t t).1 refl) refl

pub constant_some : (ws r : List Word) (n : List ℕ) → constant ws ≡ Some (n, r) → (ws ≡ number n ∷ r) × (is_plain n ≡ true)
unfolding constant
constant_some [] r n e = absurd cc
constant_some (w ∷ ws) r n e =
    let g = guard_some (is_number w.kind && is_plain w.bytes) (w.bytes, ws) (n, r) e in
    let h = and_true (is_number w.kind) (is_plain w.bytes) g.0 in
    let t : w.bytes ≡ n = ap (λ (p : List ℕ × List Word). p.0) g.1 in
    let s = same_word w kind.Number n (is_number-true w.kind h.0) t in
    let rest : ws ≡ r = ap (λ (p : List ℕ × List Word). p.1) g.1 in
    (λ i. s i ∷ rest i, ap is_plain (sym t) ∙ h.1)

pub constant-number : (n : List ℕ) (ws : List Word) → is_plain n ≡ true → constant (number n ∷ ws) ≡ Some (n, ws)
unfolding constant
constant-number n ws h = rw h refl

-- ---- the words of the language

abbrev pub KeyText : Key → List ℕ → Type 0
KeyText key.Never t = t ≡ codes "never"
KeyText key.Min t = t ≡ codes "min"
KeyText key.Max t = t ≡ codes "max"
KeyText key.Lt t = t ≡ codes "lt"
KeyText key.Inc t = t ≡ codes "inc"
KeyText key.Plain t = Unit {0}
KeyText key.NoName t = ⊥

pick : (b : Bool) (k j : Key) (t : List ℕ) → (b ≡ true → KeyText k t) → KeyText j t → KeyText (cond b k j) t
pick true k j t p q = p refl
pick false k j t p q = q

abbrev from_inc : List ℕ → Key
from_inc t = cond (bytes_eq t (codes "inc")) key.Inc key.Plain

abbrev from_lt : List ℕ → Key
from_lt t = cond (bytes_eq t (codes "lt")) key.Lt (from_inc t)

abbrev from_max : List ℕ → Key
from_max t = cond (bytes_eq t (codes "max")) key.Max (from_lt t)

abbrev from_min : List ℕ → Key
from_min t = cond (bytes_eq t (codes "min")) key.Min (from_max t)

pub keyword_text : (t : List ℕ) → KeyText (keyword t) t
unfolding keyword
keyword_text t =
    let is = λ (u : List ℕ). (bytes_eq-Decides t u).0 in
    pick (bytes_eq t (codes "never")) key.Never (from_min t) t (is (codes "never"))
    (pick (bytes_eq t (codes "min")) key.Min (from_max t) t (is (codes "min"))
    (pick (bytes_eq t (codes "max")) key.Max (from_lt t) t (is (codes "max"))
    (pick (bytes_eq t (codes "lt")) key.Lt (from_inc t) t (is (codes "lt"))
    (pick (bytes_eq t (codes "inc")) key.Inc key.Plain t (is (codes "inc")) tt))))

named : (a : Kind) (t : List ℕ) (k : Key) → (key.NoName ≡ k → ⊥) → key_at a t ≡ k → (a ≡ kind.Name) × (keyword t ≡ k)
named kind.Name t k ne e = (refl, e)
named _ t k ne e = absurd (ne e)

-- a word that is a name
pub key_of_name : (w : Word) (k : Key) → (key.NoName ≡ k → ⊥) → key_of w ≡ k → (w ≡ name w.bytes) × (keyword w.bytes ≡ k)
unfolding key_of
key_of_name w k ne e = let h = named w.kind w.bytes k ne e in (same_word w kind.Name w.bytes h.0 refl, h.1)

-- a word of the language
pub key_of_text : (w : Word) (k : Key) (t : List ℕ) → (key.NoName ≡ k → ⊥) → (KeyText k w.bytes → w.bytes ≡ t) → key_of w ≡ k → w ≡ name t
key_of_text w k t ne is e =
    let h = key_of_name w k ne e in
    h.0 ∙ ap name (is (subst (λ (j : Key). KeyText j w.bytes) h.1 (keyword_text w.bytes)))

pub key_of-name : (t : List ℕ) → key_of (name t) ≡ keyword t
unfolding key_of
key_of-name t = refl

-- ---- reserved words

five : (n m x l i : Bool) → cond n key.Never (cond m key.Min (cond x key.Max (cond l key.Lt (cond i key.Inc key.Plain)))) ≡ key.Plain → (m || (x || (l || (i || (n || false))))) ≡ false
five false false false false false e = refl
five true m x l i e = absurd cc
five false true x l i e = absurd cc
five false false true l i e = absurd cc
five false false false true i e = absurd cc
five false false false false true e = absurd cc

pub plain_is : (t : List ℕ) → keyword t ≡ key.Plain → is_reserved t ≡ false
unfolding keyword
plain_is t e = five (bytes_eq t (codes "never")) (bytes_eq t (codes "min")) (bytes_eq t (codes "max")) (bytes_eq t (codes "lt")) (bytes_eq t (codes "inc")) e

pub is_plain_key : (t : List ℕ) → is_reserved t ≡ false → keyword t ≡ key.Plain
unfolding keyword
is_plain_key t e =
    let a = or_parts (bytes_eq t (codes "min")) _ e in
    let b = or_parts (bytes_eq t (codes "max")) _ a.1 in
    let c = or_parts (bytes_eq t (codes "lt")) _ b.1 in
    let d = or_parts (bytes_eq t (codes "inc")) _ c.1 in
    let f = or_parts (bytes_eq t (codes "never")) false d.1 in
    rw (f.0, a.0, b.0, c.0, d.0) refl
