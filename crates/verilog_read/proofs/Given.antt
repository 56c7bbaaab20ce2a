-- What assigns give with one more, and registers where one takes something.
use Rattle.std.proofs.Common.{◌≡◌, ℕ, zero, suc, Bool, true, false, ◌||◌, eqb, List, [], ◌∷◌, ◌++◌, Some, refl, sym, ap, ◌∙◌, arith}
use Rattle.std.specs.Prelude.{slice_get, slice_set}
use Rattle.std.proofs.lemmas.List.Sums.{sum_by-cons}
use Rattle.circuit.specs.declared.bit.Target.{Target}
use Rattle.circuit.specs.declared.bit.Target.TheVariants as target
use Rattle.circuit.specs.Circuit.{Logic, Assignment}
use Rattle.verilog_text.specs.Judging.{SoFar, Declared, bits_of, same_target, is_given}

eq_of : (a b : ℕ) → eqb a b ≡ true → a ≡ b
eq_of a b e = grind arith

same_eq : (t u : Target) → same_target t u ≡ true → t ≡ u
same_eq (target.Wire v) (target.Wire w) e = ap (λ (n : ℕ). target.Wire n) (eq_of v w e)
same_eq (target.Wire v) (target.Out p) e = absurd cc
same_eq (target.Out o) (target.Wire w) e = absurd cc
same_eq (target.Out o) (target.Out p) e = ap (λ (n : ℕ). target.Out n) (eq_of o p e)

pub given_at : (given : List Assignment) (t : Target) → is_given given t ≡ true → (k : ℕ) × (a : Assignment) × (slice_get given k ≡ Some a) × (a.target ≡ t)
given_at [] t h = absurd cc
given_at (b ∷ given) t h = first (same_target t b.target) (λ g. given_at given t g) refl h where
  first : (p : Bool) → (is_given given t ≡ true → (k : ℕ) × (a : Assignment) × (slice_get given k ≡ Some a) × (a.target ≡ t)) → same_target t b.target ≡ p → (p || is_given given t) ≡ true →
      (k : ℕ) × (a : Assignment) × (slice_get (b ∷ given) k ≡ Some a) × (a.target ≡ t)
  first true again e h = (zero, b, refl, sym (same_eq t b.target e))
  first false again e h = let r = again h in (suc r.0, r.1, r.2, r.3)

pub given_more : (given : List Assignment) (a : Assignment) (t : Target) → is_given (given ++ a ∷ []) t ≡ (is_given given t || same_target t a.target)
given_more [] a t = last (same_target t a.target) where
  last : (p : Bool) → (p || false) ≡ p
  last true = refl
  last false = refl
given_more (b ∷ given) a t = ap (λ (q : Bool). same_target t b.target || q) (given_more given a t) ∙ assoc (same_target t b.target) (is_given given t) (same_target t a.target) where
  assoc : (p q r : Bool) → (p || (q || r)) ≡ ((p || q) || r)
  assoc true q r = refl
  assoc false q r = refl

abbrev pub assign_more : SoFar → Target → Logic → SoFar
assign_more x t bit = record x { assigns = x.assigns ++ record { target = t; bit = bit } ∷ [] }

bits_kept : (rs : List Declared) (k : ℕ) (r q : Declared) → slice_get rs k ≡ Some r → q.width ≡ r.width → bits_of (slice_set rs k q) ≡ bits_of rs
bits_kept [] k r q e w = refl
bits_kept (p ∷ rs) zero r q e w =
    let s : p ≡ r = cc in
    let a = sum_by-cons (λ (r : Declared). r.width) p rs in
    let b = sum_by-cons (λ (r : Declared). r.width) q rs in
    let c : p.width ≡ r.width = ap (λ (z : Declared). z.width) s in
    omega (arith, a, b, c, w)
bits_kept (p ∷ rs) (suc k) r q e w =
    let a = sum_by-cons (λ (r : Declared). r.width) p rs in
    let b = sum_by-cons (λ (r : Declared). r.width) p (slice_set rs k q) in
    let c = bits_kept rs k r q e w in
    omega (arith, a, b, c)

abbrev pub next_more : SoFar → ℕ → Declared → Logic → SoFar
next_more x k r bit = record x { regs = slice_set x.regs k (record r { next = Some bit }) }

pub bits_next : (x : SoFar) (k : ℕ) (r : Declared) (bit : Logic) → slice_get x.regs k ≡ Some r → bits_of (next_more x k r bit).regs ≡ bits_of x.regs
bits_next x k r bit e = bits_kept x.regs k r (record r { next = Some bit }) e refl
