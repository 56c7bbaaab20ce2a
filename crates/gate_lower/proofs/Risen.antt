-- The level of a wire whose time an operator makes.
use Rattle.std.proofs.Common.{◌≡◌, ℕ, suc, ◌+◌, Bool, true, false, refl, ap, arith, min, max}
use Rattle.std.specs.Prelude.{not, ◌&&◌, ◌||◌, nat_le}
use Rattle.std.proofs.lemmas.Bool.Decides.{nat_tests}
use Rattle.rl_time.specs.declared.time.Time.{Time}
use Rattle.rl_time.specs.declared.time.Time.TheVariants.{At, Never}
use Rattle.rl_time.specs.Time.{time_min, time_max, time_lt, time_inc, has_risen}

or_false : (p : Bool) → p ≡ (p || false)
or_false true = refl
or_false false = refl

and_false : (p : Bool) → false ≡ (p && false)
and_false true = refl
and_false false = refl

min_test : (m n t : ℕ) → nat_le (min m n) t ≡ (nat_le m t || nat_le n t)
min_test m n t = grind (arith, nat_tests)

max_test : (m n t : ℕ) → nat_le (max m n) t ≡ (nat_le m t && nat_le n t)
max_test m n t = grind (arith, nat_tests)

latch_never : (m t : ℕ) → nat_le m t ≡ (nat_le (m + 1) t || (nat_le m t && not false))
latch_never m t = grind (arith, nat_tests)

latch_test : (m n t : ℕ) → has_risen (time_lt (At m) (At n)) t ≡ (has_risen (time_inc (time_lt (At m) (At n)) 1) t || (nat_le m t && not (nat_le n t)))
latch_test m n t = grind (arith, nat_tests)

suc_test : (m c t : ℕ) → nat_le (m + suc c) (suc t) ≡ nat_le (m + c) t
suc_test m c t = grind (arith, nat_tests)

start_test : (m c : ℕ) → nat_le (m + suc c) 0 ≡ false
start_test m c = grind (arith, nat_tests)

pub risen_min : (a b : Time) (t : ℕ) → has_risen (time_min a b) t ≡ (has_risen a t || has_risen b t)
risen_min Never b t = refl
risen_min (At m) Never t = or_false (nat_le m t)
risen_min (At m) (At n) t = min_test m n t

pub risen_max : (a b : Time) (t : ℕ) → has_risen (time_max a b) t ≡ (has_risen a t && has_risen b t)
risen_max Never b t = refl
risen_max (At m) Never t = and_false (nat_le m t)
risen_max (At m) (At n) t = max_test m n t

-- a latch is high where it was high in the cycle before, or where a has risen and b hasn't
pub risen_lt : (a b : Time) (t : ℕ) → has_risen (time_lt a b) t ≡ (has_risen (time_inc (time_lt a b) 1) t || (has_risen a t && not (has_risen b t)))
risen_lt Never b t = refl
risen_lt (At m) Never t = latch_never m t
risen_lt (At m) (At n) t = latch_test m n t

pub risen_inc-suc : (a : Time) (c t : ℕ) → has_risen (time_inc a (suc c)) (suc t) ≡ has_risen (time_inc a c) t
risen_inc-suc Never c t = refl
risen_inc-suc (At m) c t = suc_test m c t

pub risen_inc-start : (a : Time) (c : ℕ) → has_risen (time_inc a (suc c)) 0 ≡ false
risen_inc-start Never c = refl
risen_inc-start (At m) c = start_test m c

pub time_inc-zero : (a : Time) → time_inc a 0 ≡ a
time_inc-zero Never = refl
time_inc-zero (At m) = ap At (omega arith)
