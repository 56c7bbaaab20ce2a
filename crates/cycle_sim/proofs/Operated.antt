-- What operations leave and what they compute.
use Rattle.std.proofs.Common.{◌≡◌, ◌≢◌, ℕ, zero, suc, ◌+◌, ◌*◌, ◌/◌, ◌%◌, ◌<◌, ◌==◌, Bool, true, false, not, ◌&&◌, ◌||◌, if◌then◌else◌, List, [], ◌∷◌, ◌++◌, length, get_or, take, refl, ap, ◌∙◌, sym, arith, Some, get_or-set_same, get_or-set_other}
use Rattle.std.specs.Prelude.{slice_get}
use Rattle.std.proofs.lemmas.List.{length-set, take_more}
use Rattle.cycle_sim.specs.declared.operation.Formula.{Formula}
use Rattle.cycle_sim.specs.declared.operation.Operation.{Operation}
use Rattle.cycle_sim.specs.Operations.{at, literal_level, formula_level, done, all_done, IsWithin}

pub done_append : (values : List Bool) (os more : List Operation) → all_done values (os ++ more) ≡ all_done (all_done values os) more
done_append values [] more = refl
done_append values (o ∷ os) more = done_append (done values o) os more

pub done_length : (values : List Bool) (os : List Operation) → length (all_done values os) ≡ length values
done_length values [] = refl
done_length values (o ∷ os) = done_length (done values o) os ∙ length-set values o.to (formula_level values o.formula)

-- a place that no operation gives a level keeps its own
pub done_keeps : (values : List Bool) (os : List Operation) (p : ℕ) → ((i : ℕ) (o : Operation) → slice_get os i ≡ Some o → o.to ≢ p) →
    at (all_done values os) p ≡ at values p
done_keeps values [] p ne = refl
done_keeps values (o ∷ os) p ne =
    done_keeps (done values o) os p (λ i x h. ne (suc i) x h)
    ∙ get_or-set_other values o.to p (formula_level values o.formula) false (λ e. ne zero o refl (sym e))

-- one operation more
pub done_more : (values : List Bool) (os : List Operation) (k : ℕ) (d : Operation) → k < length os →
    all_done values (take (k + 1) os) ≡ done (all_done values (take k os)) (get_or os k d)
done_more values os k d lt = ap (λ z. all_done values z) (take_more os k d lt) ∙ done_append values (take k os) (get_or os k d ∷ [])

-- the last operation gives its place the level of its formula
pub done_last : (values : List Bool) (os : List Operation) (o : Operation) → o.to < length values →
    at (all_done values (os ++ o ∷ [])) o.to ≡ formula_level (all_done values os) o.formula
done_last values os o lt =
    let n = done_length values os in
    ap (λ z. at z o.to) (done_append values os (o ∷ []))
    ∙ get_or-set_same (all_done values os) o.to (formula_level (all_done values os) o.formula) false (omega arith)

pub literal_same : (u v : List Bool) (n : ℕ) → at u (n / 2) ≡ at v (n / 2) → literal_level u n ≡ literal_level v n
literal_same u v n e = ap (λ z. if n % 2 == 1 then not z else z) e

pub formula_same : (u v : List Bool) (room : ℕ) (f : Formula) → IsWithin room f → ((p : ℕ) → p < room → at u p ≡ at v p) → formula_level u f ≡ formula_level v f
formula_same u v room f h same =
    let a = literal_same u v f.first (same (f.first / 2) h.first) in
    let b = literal_same u v f.second (same (f.second / 2) h.second) in
    let c = literal_same u v f.third (same (f.third / 2) h.third) in
    ap (λ z. z || (literal_level u f.second && literal_level u f.third)) a
    ∙ (ap (λ z. literal_level v f.first || (z && literal_level u f.third)) b ∙ ap (λ z. literal_level v f.first || (literal_level v f.second && z)) c)

-- the literal of a place has its level
pub literal_even : (values : List Bool) (p : ℕ) → literal_level values (2 * p) ≡ at values p
literal_even values p =
    let a : 2 * p % 2 ≡ 0 = omega arith in
    let b : 2 * p / 2 ≡ p = omega arith in
    ap (λ z. if z == 1 then not (at values (2 * p / 2)) else at values (2 * p / 2)) a ∙ ap (λ z. at values z) b

or_false : (p : Bool) → (p || false) ≡ p
or_false true = refl
or_false false = refl

-- a formula of one literal, where place 0 is low
pub alone_level : (values : List Bool) (f : Formula) (n : ℕ) → f.first ≡ n → f.second ≡ 0 → f.third ≡ 0 → at values 0 ≡ false → formula_level values f ≡ literal_level values n
alone_level values f n a b c low =
    let x : literal_level values f.first ≡ literal_level values n = ap (λ z. literal_level values z) a in
    let y : literal_level values f.second ≡ false = ap (λ z. literal_level values z) b ∙ low in
    ap (λ z. z || (literal_level values f.second && literal_level values f.third)) x
    ∙ (ap (λ z. literal_level values n || (z && literal_level values f.third)) y ∙ or_false (literal_level values n))

-- a product of one literal, where place 0 is low
pub only_factor_level : (values : List Bool) (f : Formula) (n : ℕ) → f.first ≡ 0 → f.second ≡ 1 → f.third ≡ n → at values 0 ≡ false → formula_level values f ≡ literal_level values n
only_factor_level values f n a b c low =
    let x : literal_level values f.first ≡ false = ap (λ z. literal_level values z) a ∙ low in
    let y : literal_level values f.second ≡ true = ap (λ z. literal_level values z) b ∙ ap (λ z. not z) low in
    let w : literal_level values f.third ≡ literal_level values n = ap (λ z. literal_level values z) c in
    ap (λ z. z || (literal_level values f.second && literal_level values f.third)) x ∙ (ap (λ z. z && literal_level values f.third) y ∙ w)

-- a product, where place 0 is low
pub product_level : (values : List Bool) (f : Formula) → f.first ≡ 0 → at values 0 ≡ false → formula_level values f ≡ (literal_level values f.second && literal_level values f.third)
product_level values f a low =
    let x : literal_level values f.first ≡ false = ap (λ z. literal_level values z) a ∙ low in
    ap (λ z. z || (literal_level values f.second && literal_level values f.third)) x

-- a sum of two literals, where place 0 is low
pub sum_level : (values : List Bool) (f : Formula) → f.second ≡ 1 → at values 0 ≡ false → formula_level values f ≡ (literal_level values f.first || literal_level values f.third)
sum_level values f b low =
    let y : literal_level values f.second ≡ true = ap (λ z. literal_level values z) b ∙ ap (λ z. not z) low in
    ap (λ z. literal_level values f.first || (z && literal_level values f.third)) y
