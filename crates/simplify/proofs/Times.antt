-- The laws of the simplifier hold of all times.
use Rattle.std.proofs.Common.{◌≡◌, ℕ, ◌+◌, ◌≤◌, refl, ap, arith}
use Rattle.std.proofs.lemmas.Bool.Decides.{nat_tests}
use Rattle.rl_time.specs.declared.time.Time.{Time}
use Rattle.rl_time.specs.declared.time.Time.TheVariants.{At, Never}
use Rattle.rl_time.specs.Time.{time_min, time_max, time_lt, time_inc}

pub L1 : (a : Time) → time_min a a ≡ a
L1 (At k) = grind (arith, nat_tests)
L1 Never = refl

pub L2 : (a : Time) → time_max a a ≡ a
L2 (At k) = grind (arith, nat_tests)
L2 Never = refl

pub L3 : (a : Time) → time_min a Never ≡ a
L3 (At k) = grind (arith, nat_tests)
L3 Never = refl

pub L3b : (a : Time) → time_min Never a ≡ a
L3b (At k) = grind (arith, nat_tests)
L3b Never = refl

pub L4 : (a : Time) → time_max a Never ≡ Never
L4 (At k) = grind (arith, nat_tests)
L4 Never = refl

pub L4b : (a : Time) → time_max Never a ≡ Never
L4b (At k) = grind (arith, nat_tests)
L4b Never = refl

pub L5 : (a : Time) → time_lt a a ≡ Never
L5 (At k) = grind (arith, nat_tests)
L5 Never = refl

pub L6 : (a : Time) → time_lt Never a ≡ Never
L6 (At k) = grind (arith, nat_tests)
L6 Never = refl

pub L7 : (a : Time) → time_lt a Never ≡ a
L7 (At k) = grind (arith, nat_tests)
L7 Never = refl

pub L10 : (a b : Time) → time_min a (time_max a b) ≡ a
L10 (At k) (At m) = grind (arith, nat_tests)
L10 (At k) Never = grind (arith, nat_tests)
L10 Never (At m) = grind (arith, nat_tests)
L10 Never Never = grind (arith, nat_tests)

pub L10b : (a b : Time) → time_min a (time_max b a) ≡ a
L10b (At k) (At m) = grind (arith, nat_tests)
L10b (At k) Never = grind (arith, nat_tests)
L10b Never (At m) = grind (arith, nat_tests)
L10b Never Never = grind (arith, nat_tests)

pub L10c : (a b : Time) → time_min (time_max a b) a ≡ a
L10c (At k) (At m) = grind (arith, nat_tests)
L10c (At k) Never = grind (arith, nat_tests)
L10c Never (At m) = grind (arith, nat_tests)
L10c Never Never = grind (arith, nat_tests)

pub L10d : (a b : Time) → time_min (time_max b a) a ≡ a
L10d (At k) (At m) = grind (arith, nat_tests)
L10d (At k) Never = grind (arith, nat_tests)
L10d Never (At m) = grind (arith, nat_tests)
L10d Never Never = grind (arith, nat_tests)

pub L11 : (a b : Time) → time_max a (time_min a b) ≡ a
L11 (At k) (At m) = grind (arith, nat_tests)
L11 (At k) Never = grind (arith, nat_tests)
L11 Never (At m) = grind (arith, nat_tests)
L11 Never Never = grind (arith, nat_tests)

pub L11b : (a b : Time) → time_max a (time_min b a) ≡ a
L11b (At k) (At m) = grind (arith, nat_tests)
L11b (At k) Never = grind (arith, nat_tests)
L11b Never (At m) = grind (arith, nat_tests)
L11b Never Never = grind (arith, nat_tests)

pub L11c : (a b : Time) → time_max (time_min a b) a ≡ a
L11c (At k) (At m) = grind (arith, nat_tests)
L11c (At k) Never = grind (arith, nat_tests)
L11c Never (At m) = grind (arith, nat_tests)
L11c Never Never = grind (arith, nat_tests)

pub L11d : (a b : Time) → time_max (time_min b a) a ≡ a
L11d (At k) (At m) = grind (arith, nat_tests)
L11d (At k) Never = grind (arith, nat_tests)
L11d Never (At m) = grind (arith, nat_tests)
L11d Never Never = grind (arith, nat_tests)

pub L12 : (a b : Time) → time_lt a (time_min a b) ≡ Never
L12 (At k) (At m) = grind (arith, nat_tests)
L12 (At k) Never = grind (arith, nat_tests)
L12 Never (At m) = grind (arith, nat_tests)
L12 Never Never = grind (arith, nat_tests)

pub L12b : (a b : Time) → time_lt a (time_min b a) ≡ Never
L12b (At k) (At m) = grind (arith, nat_tests)
L12b (At k) Never = grind (arith, nat_tests)
L12b Never (At m) = grind (arith, nat_tests)
L12b Never Never = grind (arith, nat_tests)

pub L13 : (a b : Time) → time_lt a (time_max a b) ≡ time_lt a b
L13 (At k) (At m) = grind (arith, nat_tests)
L13 (At k) Never = grind (arith, nat_tests)
L13 Never (At m) = grind (arith, nat_tests)
L13 Never Never = grind (arith, nat_tests)

pub L13b : (a b : Time) → time_lt a (time_max b a) ≡ time_lt a b
L13b (At k) (At m) = grind (arith, nat_tests)
L13b (At k) Never = grind (arith, nat_tests)
L13b Never (At m) = grind (arith, nat_tests)
L13b Never Never = grind (arith, nat_tests)

pub L14 : (a b : Time) → time_lt (time_min a b) a ≡ time_lt b a
L14 (At k) (At m) = grind (arith, nat_tests)
L14 (At k) Never = grind (arith, nat_tests)
L14 Never (At m) = grind (arith, nat_tests)
L14 Never Never = grind (arith, nat_tests)

pub L14b : (a b : Time) → time_lt (time_min b a) a ≡ time_lt b a
L14b (At k) (At m) = grind (arith, nat_tests)
L14b (At k) Never = grind (arith, nat_tests)
L14b Never (At m) = grind (arith, nat_tests)
L14b Never Never = grind (arith, nat_tests)

pub L15 : (a b : Time) → time_lt (time_lt a b) b ≡ time_lt a b
L15 (At k) (At m) = grind (arith, nat_tests)
L15 (At k) Never = grind (arith, nat_tests)
L15 Never (At m) = grind (arith, nat_tests)
L15 Never Never = grind (arith, nat_tests)

pub L16 : (a b : Time) → time_min a (time_lt a b) ≡ a
L16 (At k) (At m) = grind (arith, nat_tests)
L16 (At k) Never = grind (arith, nat_tests)
L16 Never (At m) = grind (arith, nat_tests)
L16 Never Never = grind (arith, nat_tests)

pub L16b : (a b : Time) → time_min (time_lt a b) a ≡ a
L16b (At k) (At m) = grind (arith, nat_tests)
L16b (At k) Never = grind (arith, nat_tests)
L16b Never (At m) = grind (arith, nat_tests)
L16b Never Never = grind (arith, nat_tests)

pub L17 : (a b : Time) → time_max a (time_lt a b) ≡ time_lt a b
L17 (At k) (At m) = grind (arith, nat_tests)
L17 (At k) Never = grind (arith, nat_tests)
L17 Never (At m) = grind (arith, nat_tests)
L17 Never Never = grind (arith, nat_tests)

pub L17b : (a b : Time) → time_max (time_lt a b) a ≡ time_lt a b
L17b (At k) (At m) = grind (arith, nat_tests)
L17b (At k) Never = grind (arith, nat_tests)
L17b Never (At m) = grind (arith, nat_tests)
L17b Never Never = grind (arith, nat_tests)

pub L20 : (a b : Time) → time_min (time_lt b (time_lt b a)) (time_lt a (time_lt a b)) ≡ time_max a b
L20 (At k) (At m) = grind (arith, nat_tests)
L20 (At k) Never = grind (arith, nat_tests)
L20 Never (At m) = grind (arith, nat_tests)
L20 Never Never = grind (arith, nat_tests)

pub L8 : (a : Time) (c d : ℕ) → time_inc (time_inc a c) d ≡ time_inc a (c + d)
L8 (At k) c d = ap At (omega arith)
L8 Never c d = refl

pub L9 : (c : ℕ) → time_inc Never c ≡ Never
L9 c = refl

pub L18 : (a : Time) (c : ℕ) → 1 ≤ c → time_lt a (time_inc a c) ≡ a
L18 (At k) c h = grind (arith, nat_tests)
L18 Never c h = refl

pub L19 : (a : Time) (c : ℕ) → time_lt (time_inc a c) a ≡ Never
L19 (At k) c = grind (arith, nat_tests)
L19 Never c = refl
