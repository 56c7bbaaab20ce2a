-- Where all times come one cycle later, so does the value of rows.
use Rattle.std.proofs.Common.{◌≡◌, ℕ, ◌+◌, ◌-◌, Bool, true, false, cond, List, [], ◌∷◌, map, min, refl, ap, ◌∙◌, arith}
use Rattle.rl_time.specs.declared.time.Time.{Time}
use Rattle.rl_time.specs.declared.time.Time.TheVariants.{At, Never}
use Rattle.rl_time.specs.Time.{time_min}
use Rattle.func_table.specs.Table.{Row}
use Rattle.func_table.specs.Function.{least, taken_off, matches, value_at, value_from, table_function}
use Rattle.spike_eval.specs.Causal.{one_later, IsInvariant}

min_later : (a b : Time) → time_min (one_later a) (one_later b) ≡ one_later (time_min a b)
min_later Never b = refl
min_later (At a) Never = refl
min_later (At a) (At b) = let e : min (a + 1) (b + 1) ≡ min a b + 1 = omega arith in ap At e

least_later : (x : List Time) → least (map one_later x) ≡ one_later (least x)
least_later [] = refl
least_later (a ∷ x) = ap (time_min (one_later a)) (least_later x) ∙ min_later a (least x)

off_later : (m : ℕ) (a : Time) → taken_off (m + 1) (one_later a) ≡ taken_off m a
off_later m (At a) = let e : a + 1 - (m + 1) ≡ a - m = omega arith in ap At e
off_later m Never = refl

all_off_later : (m : ℕ) (x : List Time) → map (taken_off (m + 1)) (map one_later x) ≡ map (taken_off m) x
all_off_later m [] = refl
all_off_later m (a ∷ x) = ap (λ t. t ∷ map (taken_off (m + 1)) (map one_later x)) (off_later m a) ∙ ap (λ ts. taken_off m a ∷ ts) (all_off_later m x)

at_later : (rows : List Row) (x : List Time) (m : ℕ) → value_at rows (map one_later x) (m + 1) ≡ one_later (value_at rows x m)
at_later [] x m = refl
at_later (r ∷ rows) x m =
    ap (λ ts. cond (matches r ts) (At (m + 1 + r.out)) (value_at rows (map one_later x) (m + 1))) (all_off_later m x)
    ∙ (ap (λ t. cond (matches r (map (taken_off m) x)) (At (m + 1 + r.out)) t) (at_later rows x m) ∙ go (matches r (map (taken_off m) x)))
  where
    go : (b : Bool) → cond b (At (m + 1 + r.out)) (one_later (value_at rows x m)) ≡ one_later (cond b (At (m + r.out)) (value_at rows x m))
    go true = let e : m + 1 + r.out ≡ m + r.out + 1 = omega arith in ap At e
    go false = refl

pub invariant : (rows : List Row) → IsInvariant (table_function rows)
invariant rows x = ap (value_from rows (map one_later x)) (least_later x) ∙ go (least x)
  where
    go : (t : Time) → value_from rows (map one_later x) (one_later t) ≡ one_later (value_from rows x t)
    go (At m) = at_later rows x m
    go Never = refl
