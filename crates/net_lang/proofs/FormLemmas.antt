-- What is read as a form is spelled so, and what is spelled so is read.
use Rattle.std.proofs.Common.{◌≡◌, ℕ, ◌≤◌, Bool, true, false, cond, List, [], ◌∷◌, ◌++◌, Option, Some, None, refl, sym, ap, subst, ◌∙◌}
use Rattle.std.specs.Prelude.{codes, map}
use Rattle.std.specs.Str.{bytes_eq}
use Rattle.std.proofs.lemmas.List.{append-nil}
use Rattle.std.proofs.lemmas.Slice.Eq.{bytes_eq-Decides}
use Rattle.rl_text.specs.declared.token.Kind.{Kind}
use Rattle.rl_text.specs.declared.token.Kind.TheVariants as kind
use Rattle.rl_text.specs.Lines.{Word}
use Rattle.net_lang.specs.declared.reader.rules.Target.{Target}
use Rattle.net_lang.specs.declared.reader.rules.Target.TheVariants as target
use Rattle.rl_text.specs.Writing.{name, number, sign}
use Rattle.net_lang.specs.Grammar.{Expression, spelled, IsWritten, written_nesting}
use Rattle.net_lang.specs.Forms.{Form, Header, Inputs, Define, target_word, spelled_form, IsFormed, IsLine}
use Rattle.net_lang.specs.FormReading.{is_name, names_at, name_at, ended, binding_at, is_one, nonempty, by_word, form_at}
use Rattle.net_lang.specs.Reading.{is_number, ◌>>=◌, after_sign, expr_at}
use Rattle.net_lang.proofs.WordLemmas.{some_is, bind_some, guard_some, and_true, same_word, after_sign_some, after_sign-sign}
use Rattle.net_lang.proofs.Exprs.{expr_some, expr-spelled}

is_name-true : (k : Kind) → is_name k ≡ true → k ≡ kind.Name
is_name-true kind.Name e = refl
is_name-true _ e = absurd cc

is_number-true : (k : Kind) → is_number k ≡ true → k ≡ kind.Number
is_number-true kind.Number e = refl
is_number-true _ e = absurd cc

split : {A : Type 0} (b : Bool) (r : Option A) (y : A) → cond b r None ≡ Some y → (b ≡ true) × (r ≡ Some y)
split true r y e = (refl, e)
split false r y e = absurd cc

names_some : (ws : List Word) (ns : List (List ℕ)) → names_at ws ≡ Some ns → ws ≡ map name ns
unfolding names_at
names_some [] ns e = ap (map name) (some_is [] ns e)
names_some (w ∷ ws) ns e =
    let s = split (is_name w.kind) (names_at ws >>= λ ns. Some (w.bytes ∷ ns)) ns e in
    let b = bind_some (names_at ws) (λ ns. Some (w.bytes ∷ ns)) ns s.1 in
    let h = same_word w kind.Name w.bytes (is_name-true w.kind s.0) refl in
    let t = names_some ws b.0 b.1 in
    let same : w ∷ ws ≡ map name (w.bytes ∷ b.0) = λ i. h i ∷ t i in
    same ∙ ap (map name) (some_is (w.bytes ∷ b.0) ns b.2)

names-spelled : (ns : List (List ℕ)) → names_at (map name ns) ≡ Some ns
unfolding names_at
names-spelled [] = refl
names-spelled (n ∷ ns) = rw (names-spelled ns) refl

name_some : (ws r : List Word) (n : List ℕ) → name_at ws ≡ Some (n, r) → ws ≡ name n ∷ r
unfolding name_at
name_some [] r n e = absurd cc
name_some (w ∷ ws) r n e =
    let g = guard_some (is_name w.kind) (w.bytes, ws) (n, r) e in
    let s = same_word w kind.Name n (is_name-true w.kind g.0) (ap (λ (p : List ℕ × List Word). p.0) g.1) in
    let rest : ws ≡ r = ap (λ (p : List ℕ × List Word). p.1) g.1 in
    λ i. s i ∷ rest i

name-spelled : (n : List ℕ) (ws : List Word) → name_at (name n ∷ ws) ≡ Some (n, ws)
unfolding name_at
name-spelled n ws = refl

ended_some : {A : Type 0} (x y : A) (ws : List Word) → ended x ws ≡ Some y → (ws ≡ []) × (x ≡ y)
ended_some x y [] e = (refl, cc)
ended_some x y (w ∷ ws) e = absurd cc

record IsBinding (ws : List Word) (n : List ℕ) (t : Expression) : Type 0 where
  words : ws ≡ name n ∷ sign (codes "=") ∷ spelled t
  written : IsWritten t
  nested : written_nesting t ≤ 64

binding_some : (ws : List Word) (x : List ℕ × Expression) → binding_at ws ≡ Some x → IsBinding ws x.0 x.1
unfolding binding_at
binding_some ws x e =
    let n = bind_some (name_at ws) (λ n. after_sign (codes "=") n.1 >>= λ e. expr_at 64 e >>= λ t. ended (n.0, t.0) t.1) x e in
    let s = bind_some (after_sign (codes "=") n.0.1) (λ e. expr_at 64 e >>= λ t. ended (n.0.0, t.0) t.1) x n.2 in
    let t = bind_some (expr_at 64 s.0) (λ t. ended (n.0.0, t.0) t.1) x s.2 in
    let made : List ℕ × Expression = (n.0.0, t.0.0) in
    let z = ended_some made x t.0.1 t.2 in
    let b = expr_some 64 s.0 t.0.0 t.0.1 t.1 in
    let whole : s.0 ≡ spelled t.0.0 = b.words ∙ ap (λ (r : List Word). spelled t.0.0 ++ r) z.0 ∙ append-nil (spelled t.0.0) in
    let w : ws ≡ name n.0.0 ∷ sign (codes "=") ∷ spelled t.0.0 = name_some ws n.0.1 n.0.0 n.1 ∙ ap (λ (r : List Word). name n.0.0 ∷ r) (after_sign_some (codes "=") n.0.1 s.0 s.1 ∙ ap (λ (r : List Word). sign (codes "=") ∷ r) whole) in
    subst (λ (y : List ℕ × Expression). IsBinding ws y.0 y.1) z.1 (record { words = w; written = b.written; nested = b.nested })

binding-spelled : (n : List ℕ) (t : Expression) → IsWritten t → written_nesting t ≤ 64 → binding_at (name n ∷ sign (codes "=") ∷ spelled t) ≡ Some (n, t)
unfolding binding_at
binding-spelled n t h d =
    let e : expr_at 64 (spelled t) ≡ Some (t, []) = ap (expr_at 64) (sym (append-nil (spelled t))) ∙ expr-spelled 64 t [] h d in
    rw (name-spelled n (sign (codes "=") ∷ spelled t), after_sign-sign (codes "=") (spelled t), e) refl

one_is : (ws : List Word) → is_one ws ≡ true → ws ≡ number (codes "1") ∷ []
one_is [] e = absurd cc
one_is (w ∷ []) e =
    let h = and_true (is_number w.kind) (bytes_eq w.bytes (codes "1")) e in
    ap (λ (v : Word). v ∷ []) (same_word w kind.Number (codes "1") (is_number-true w.kind h.0) ((bytes_eq-Decides w.bytes (codes "1")).0 h.1))
one_is (w ∷ v ∷ ws) e = absurd cc

nonempty_some : (ns : List (List ℕ)) (f : Form) → nonempty ns ≡ Some f → (Inputs ns ≡ f) × (ns ≡ [] → ⊥)
nonempty_some [] f e = absurd cc
nonempty_some (n ∷ ns) f e = (some_is (Inputs (n ∷ ns)) f e, λ h. cc)

-- one test of a chain
turn : {A : Type 0} (P : Type 0) (b : Bool) (r s : Option A) (y : A) → (b ≡ true → r ≡ Some y → P) → (s ≡ Some y → P) → cond b r s ≡ Some y → P
turn P true r s y p q e = p refl e
turn P false r s y p q e = q e

is_racenet : (t : List ℕ) (ws : List Word) (f : Form) → t ≡ codes "racenet" → cond (is_one ws) (Some Header) None ≡ Some f → IsLine (name t ∷ ws) f
is_racenet t ws f h e =
    let g = guard_some (is_one ws) Header f e in
    let one = one_is ws g.0 in
    subst (λ (y : Form). IsLine (name t ∷ ws) y) g.1 (record { words = λ i. name (h i) ∷ one i; formed = tt })

is_input : (t : List ℕ) (ws : List Word) (f : Form) → t ≡ codes "input" → (names_at ws >>= nonempty) ≡ Some f → IsLine (name t ∷ ws) f
is_input t ws f h e =
    let b = bind_some (names_at ws) nonempty f e in
    let g = nonempty_some b.0 f b.2 in
    let rest = names_some ws b.0 b.1 in
    subst (λ (y : Form). IsLine (name t ∷ ws) y) g.0 (record { words = λ i. name (h i) ∷ rest i; formed = g.1 })

is_define : (k : Target) (t : List ℕ) (ws : List Word) (f : Form) → t ≡ target_word k → (binding_at ws >>= (λ b. Some (Define k b.0 b.1))) ≡ Some f → IsLine (name t ∷ ws) f
is_define k t ws f h e =
    let b = bind_some (binding_at ws) (λ b. Some (Define k b.0 b.1)) f e in
    let g = binding_some ws b.0 b.1 in
    subst (λ (y : Form). IsLine (name t ∷ ws) y) (some_is (Define k b.0.0 b.0.1) f b.2) (record { words = λ i. name (h i) ∷ g.words i; formed = (g.written, g.nested) })

by_word_some : (t : List ℕ) (ws : List Word) (f : Form) → by_word t ws ≡ Some f → IsLine (name t ∷ ws) f
by_word_some t ws f e =
    let is = λ (u : List ℕ). (bytes_eq-Decides t u).0 in
    turn (IsLine (name t ∷ ws) f) (bytes_eq t (codes "racenet")) _ _ f (λ h. is_racenet t ws f (is (codes "racenet") h))
    (turn (IsLine (name t ∷ ws) f) (bytes_eq t (codes "input")) _ _ f (λ h. is_input t ws f (is (codes "input") h))
    (turn (IsLine (name t ∷ ws) f) (bytes_eq t (codes "let")) _ _ f (λ h. is_define target.Let t ws f (is (codes "let") h))
    (turn (IsLine (name t ∷ ws) f) (bytes_eq t (codes "output")) _ None f (λ h. is_define target.Output t ws f (is (codes "output") h)) (λ n. absurd cc)))) e

pub form_some : (ws : List Word) (f : Form) → form_at ws ≡ Some f → IsLine ws f
unfolding form_at
form_some [] f e = absurd cc
form_some (w ∷ ws) f e =
    let s = split (is_name w.kind) (by_word w.bytes ws) f e in
    let h = same_word w kind.Name w.bytes (is_name-true w.kind s.0) refl in
    subst (λ (v : Word). IsLine (v ∷ ws) f) (sym h) (by_word_some w.bytes ws f s.1)

form-spelled : (f : Form) → IsFormed f → form_at (spelled_form f) ≡ Some f
unfolding form_at
form-spelled Header h = refl
form-spelled (Inputs []) h = absurd (h refl)
form-spelled (Inputs (n ∷ ns)) h = ap (λ o. o >>= nonempty) (names-spelled (n ∷ ns))
form-spelled (Define target.Let n t) h = ap (λ o. o >>= (λ b. Some (Define target.Let b.0 b.1))) (binding-spelled n t h.0 h.1)
form-spelled (Define target.Output n t) h = ap (λ o. o >>= (λ b. Some (Define target.Output b.0 b.1))) (binding-spelled n t h.0 h.1)

pub form_again : (ws : List Word) (f : Form) → IsLine ws f → form_at ws ≡ Some f
form_again ws f l = ap form_at l.words ∙ form-spelled f l.formed
