-- A test of a module's assigns, one after another, that shows their order.
use Rattle.std.proofs.Common.{◌≡◌, ℕ, zero, suc, ◌+◌, ◌<◌, ◌≤◌, List, [], ◌∷◌, length, refl, ap, ◌∙◌, sym, subst, inl, inr, arith, eq-eqb, true, false, Bool, not, ◌||◌, Some, None}
use Rattle.std.specs.Prelude.{slice_get, ◌⊎◌}
use Rattle.std.specs.List.{list_all}
use Rattle.std.proofs.lemmas.Bool.{and_parts, not-true, both_ways, eqb-true, ltb-true, or_cases, cases_lt}
use Rattle.circuit.specs.declared.bit.Target.{Target}
use Rattle.circuit.specs.declared.bit.Target.TheVariants as target
use Rattle.circuit.specs.Circuit.{Logic, Zero, One, Input, Wire, Reg, Not, And, Or, Assignment, Circuit, names_wire}
use Rattle.circuit.specs.Meaning.{upto}
use Rattle.circuit.specs.Tested.{target_eq, is_target, is_given, names_given, all_given, in_order}
use Rattle.circuit.specs.Valid.{IsTarget, IsOrdered}

-- an assign of the list gives the target
pub record Gives (tail : List Assignment) (t : Target) : Type 0 where
  pub place : ℕ
  pub assign : Assignment
  pub there : slice_get tail place ≡ Some assign
  pub target_is : assign.target ≡ t

target_eq-true : (t u : Target) → target_eq t u ≡ true → t ≡ u
target_eq-true (target.Wire v) (target.Wire w) h = ap target.Wire (eqb-true v w h)
target_eq-true (target.Out v) (target.Out w) h = ap target.Out (eqb-true v w h)
target_eq-true (target.Wire v) (target.Out w) h = absurd (both_ways _ refl h)
target_eq-true (target.Out v) (target.Wire w) h = absurd (both_ways _ refl h)

target_eq-self : (t : Target) → target_eq t t ≡ true
target_eq-self (target.Wire v) = eq-eqb v v refl
target_eq-self (target.Out v) = eq-eqb v v refl

is_target-true : (m : Circuit) (t : Target) → is_target m t ≡ true → IsTarget m t
is_target-true m (target.Wire w) h = ltb-true w (length m.wires) h
is_target-true m (target.Out o) h = ltb-true o (length m.outputs) h

-- the four parts of the test at the first assign
record Step (m : Circuit) (given : List Target) (a : Assignment) (tail : List Assignment) : Type 0 where
  target : IsTarget m a.target
  fresh : is_given a.target given ≡ false
  names : names_given given a.bit ≡ true
  rest : in_order m (a.target ∷ given) tail ≡ true

step : (m : Circuit) (given : List Target) (a : Assignment) (tail : List Assignment) → in_order m given (a ∷ tail) ≡ true → Step m given a tail
step m given a tail h =
    let p = and_parts _ (in_order m (a.target ∷ given) tail) h in
    let q = and_parts _ (names_given given a.bit) p.0 in
    let r = and_parts (is_target m a.target) (not (is_given a.target given)) q.0 in
    record { target = is_target-true m a.target r.0; fresh = not-true _ r.1; names = q.1; rest = p.1 }

some_same : {A : Type 0} (x y : A) → Some x ≡ Some y → x ≡ y
some_same x y e = cc

none_some : {A : Type 0} (x : A) → None ≡ Some x → ⊥
none_some x e = cc

or_false : (x y : Bool) → (x || y) ≡ false → (x ≡ false) × (y ≡ false)
or_false true y h = absurd (both_ways _ h refl)
or_false false y h = (refl, h)

-- each assign's target is one of the module's
targets : (m : Circuit) (given : List Target) (tail : List Assignment) → in_order m given tail ≡ true → (k : ℕ) (a : Assignment) → slice_get tail k ≡ Some a → IsTarget m a.target
targets m given [] h k a e = absurd (none_some a e)
targets m given (b ∷ bs) h zero a e = let same : b ≡ a = some_same b a e in subst (λ z. IsTarget m z.target) same (step m given b bs h).target
targets m given (b ∷ bs) h (suc k) a e = targets m (b.target ∷ given) bs (step m given b bs h).rest k a e

-- no assign's target was given before
not_again : (m : Circuit) (given : List Target) (tail : List Assignment) → in_order m given tail ≡ true → (k : ℕ) (a : Assignment) → slice_get tail k ≡ Some a → is_given a.target given ≡ false
not_again m given [] h k a e = absurd (none_some a e)
not_again m given (b ∷ bs) h zero a e = subst (λ z. is_given z.target given ≡ false) (some_same b a e) (step m given b bs h).fresh
not_again m given (b ∷ bs) h (suc k) a e = (or_false _ _ (not_again m (b.target ∷ given) bs (step m given b bs h).rest k a e)).1

-- an assign after the first has another target
other_target : (m : Circuit) (given : List Target) (b : Assignment) (bs : List Assignment) → in_order m given (b ∷ bs) ≡ true → (k : ℕ) (a : Assignment) → slice_get bs k ≡ Some a → a.target ≡ b.target → ⊥
other_target m given b bs h k a e same =
    let differs : target_eq a.target b.target ≡ false = (or_false _ _ (not_again m (b.target ∷ given) bs (step m given b bs h).rest k a e)).0 in
    both_ways _ differs (subst (λ z. target_eq a.target z ≡ true) same (target_eq-self a.target))

once : (m : Circuit) (given : List Target) (tail : List Assignment) → in_order m given tail ≡ true → (i j : ℕ) (a c : Assignment) → slice_get tail i ≡ Some a → slice_get tail j ≡ Some c → a.target ≡ c.target → i ≡ j
once m given [] h i j a c ea ec same = absurd (none_some a ea)
once m given (b ∷ bs) h zero zero a c ea ec same = refl
once m given (b ∷ bs) h zero (suc j) a c ea ec same = absurd (other_target m given b bs h j c ec (sym same ∙ ap (λ z. z.target) (sym (some_same b a ea))))
once m given (b ∷ bs) h (suc i) zero a c ea ec same = absurd (other_target m given b bs h i a ea (same ∙ ap (λ z. z.target) (sym (some_same b c ec))))
once m given (b ∷ bs) h (suc i) (suc j) a c ea ec same = ap suc (once m (b.target ∷ given) bs (step m given b bs h).rest i j a c ea ec same)

all_upto : (p : ℕ → Bool) (j n : ℕ) → list_all p (upto j n) ≡ true → (w : ℕ) → j ≤ w → w < j + n → p w ≡ true
all_upto p j zero h w low high = absurd (omega arith)
all_upto p j (suc n) h w low high =
    let q = and_parts (p j) (list_all p (upto (suc j) n)) h in
    elim (cases_lt j w) [
      | inl l ↦ all_upto p (suc j) n q.1 w (omega arith) (omega arith)
      | inr l ↦ let e : j ≡ w = omega arith in subst (λ z. p z ≡ true) e q.0
    ]

given_at_end : (m : Circuit) (given : List Target) → all_given m given ≡ true → (t : Target) → IsTarget m t → is_given t given ≡ true
given_at_end m given h (target.Wire w) lt = all_upto (λ v. is_given (target.Wire v) given) 0 (length m.wires) (and_parts _ (list_all (λ o. is_given (target.Out o) given) (upto 0 (length m.outputs))) h).0 w (omega arith) (omega arith)
given_at_end m given h (target.Out o) lt = all_upto (λ v. is_given (target.Out v) given) 0 (length m.outputs) (and_parts (list_all (λ w. is_given (target.Wire w) given) (upto 0 (length m.wires))) _ h).1 o (omega arith) (omega arith)

-- each wire and output was given before, or is given
given_once : (m : Circuit) (given : List Target) (tail : List Assignment) → in_order m given tail ≡ true → (t : Target) → IsTarget m t → (is_given t given ≡ true) ⊎ Gives tail t
given_once m given [] h t is = inl (given_at_end m given h t is)
given_once m given (b ∷ bs) h t is = elim (given_once m (b.target ∷ given) bs (step m given b bs h).rest t is) [
  | inl g ↦ elim (or_cases (target_eq t b.target) (is_given t given) g) [
    | inl e ↦ inr (record { place = zero; assign = b; there = refl; target_is = sym (target_eq-true t b.target e) })
    | inr e ↦ inl e
  ]
  | inr g ↦ inr (record { place = suc g.place; assign = g.assign; there = g.there; target_is = g.target_is })
]

-- an earlier assign of the list gives the target
record GivesBefore (tail : List Assignment) (k : ℕ) (t : Target) : Type 0 where
  place : ℕ
  assign : Assignment
  before : place < k
  there : slice_get tail place ≡ Some assign
  target_is : assign.target ≡ t

named_given : (given : List Target) (e : Logic) (w : ℕ) → names_given given e ≡ true → names_wire e w ≡ true → is_given (target.Wire w) given ≡ true
named_given given Zero w h n = absurd (both_ways _ refl n)
named_given given One w h n = absurd (both_ways _ refl n)
named_given given (Input i) w h n = absurd (both_ways _ refl n)
named_given given (Wire v) w h n = subst (λ z. is_given (target.Wire z) given ≡ true) (sym (eqb-true w v n)) h
named_given given (Reg r k) w h n = absurd (both_ways _ refl n)
named_given given (Not x) w h n = named_given given x w h n
named_given given (And x y) w h n =
    let p = and_parts (names_given given x) (names_given given y) h in
    elim (or_cases (names_wire x w) (names_wire y w) n) [ inl l ↦ named_given given x w p.0 l | inr l ↦ named_given given y w p.1 l ]
named_given given (Or x y) w h n =
    let p = and_parts (names_given given x) (names_given given y) h in
    elim (or_cases (names_wire x w) (names_wire y w) n) [ inl l ↦ named_given given x w p.0 l | inr l ↦ named_given given y w p.1 l ]

earlier : (m : Circuit) (given : List Target) (tail : List Assignment) → in_order m given tail ≡ true → (k : ℕ) (a : Assignment) → slice_get tail k ≡ Some a → (w : ℕ) → names_wire a.bit w ≡ true →
    (is_given (target.Wire w) given ≡ true) ⊎ GivesBefore tail k (target.Wire w)
earlier m given [] h k a e w n = absurd (none_some a e)
earlier m given (b ∷ bs) h zero a e w n = inl (named_given given b.bit w (step m given b bs h).names (subst (λ z. names_wire z.bit w ≡ true) (sym (some_same b a e)) n))
earlier m given (b ∷ bs) h (suc k) a e w n = elim (earlier m (b.target ∷ given) bs (step m given b bs h).rest k a e w n) [
  | inl g ↦ elim (or_cases (target_eq (target.Wire w) b.target) (is_given (target.Wire w) given) g) [
    | inl q ↦ inr (record { place = zero; assign = b; before = omega arith; there = refl; target_is = sym (target_eq-true (target.Wire w) b.target q) })
    | inr q ↦ inl q
  ]
  | inr g ↦ inr (record { place = suc g.place; assign = g.assign; before = omega (arith, g.before); there = g.there; target_is = g.target_is })
]

-- assigns that pass the test are in order
pub ordered-from_test : (m : Circuit) → in_order m [] m.assigns ≡ true → IsOrdered m
ordered-from_test m h = record {
  targets = targets m [] m.assigns h;
  once = once m [] m.assigns h;
  given = λ t is. elim (given_once m [] m.assigns h t is) [
    | inl g ↦ absurd (both_ways _ refl g)
    | inr g ↦ (g.place, g.assign, g.there, g.target_is)
  ];
  earlier = λ k a e w n. elim (earlier m [] m.assigns h k a e w n) [
    | inl g ↦ absurd (both_ways _ refl g)
    | inr g ↦ (g.place, g.assign, g.before, g.there, g.target_is)
  ];
}
