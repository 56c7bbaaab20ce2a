-- Times that a row matches, of which m is the least.
use Rattle.std.proofs.Common.{◌≡◌, ℕ, ◌+◌, ◌-◌, ◌≤◌, ◌<◌, Bool, true, false, List, [], ◌∷◌, map, min, refl, ap, sym, ◌∙◌, subst, arith, Option, Some, None, inl, inr}
use Rattle.std.specs.Prelude.{◌||◌, ◌==◌, ◌⊎◌}
use Rattle.std.specs.List.{list_any}
use Rattle.std.proofs.Math.Nat.{min-eq_left, min-eq_right, min-le_left, min-le_right}
use Rattle.std.proofs.lemmas.Bool.{and_parts, and_from, cases_lt}
use Rattle.std.proofs.lemmas.Bool.Decides.{nat_tests}
use Rattle.rl_time.specs.declared.time.Time.{Time}
use Rattle.rl_time.specs.declared.time.Time.TheVariants.{At, Never}
use Rattle.rl_time.specs.Time.{time_min}
use Rattle.func_table.specs.Table.{Row}
use Rattle.func_table.specs.Function.{least, taken_off, entry_matches, entries_match, matches, row_matches_at, IsMatched}
use Rattle.func_table.specs.Sound.{is_zero, IsInOrder}
use Rattle.spike_eval.specs.Causal.{IsAfter}

-- each time is m later than its entry, or more than m later than the output y where the entry is `-`
abbrev pub Fits : ℕ → ℕ → List (Option ℕ) → List Time → Type 0
Fits m y [] [] = Unit {0}
Fits m y (Some e ∷ es) (a ∷ xs) = (a ≡ At (m + e)) × Fits m y es xs
Fits m y (None ∷ es) (a ∷ xs) = IsAfter (m + y) a × Fits m y es xs
Fits m y _ _ = ⊥

-- ---- bounds of the least time

abbrev IsUpToTime : ℕ → Time → Type 0
IsUpToTime m (At u) = u ≤ m
IsUpToTime m Never = ⊥

abbrev IsDown : ℕ → Time → Type 0
IsDown m (At u) = m ≤ u
IsDown m Never = Unit {0}

abbrev AllDown : ℕ → List Time → Type 0
AllDown m [] = Unit {0}
AllDown m (a ∷ ts) = IsDown m a × AllDown m ts

between : (m : ℕ) (a : Time) → IsUpToTime m a → IsDown m a → a ≡ At m
between m (At u) up down = let e : u ≡ m = omega (arith, up, down) in ap At e
between m Never up down = absurd up

down_both : (m : ℕ) (a b : Time) → IsDown m (time_min a b) → IsDown m a × IsDown m b
down_both m (At n) (At k) h = (omega (arith, h, min-le_left n k), omega (arith, h, min-le_right n k))
down_both m (At n) Never h = (h, tt)
down_both m Never b h = (tt, h)

all_down : (m : ℕ) (xs : List Time) → IsDown m (least xs) → AllDown m xs
all_down m [] h = tt
all_down m (a ∷ xs) h = let p = down_both m a (least xs) h in (p.0, all_down m xs p.1)

down_min : (m : ℕ) (a b : Time) → IsDown m a → IsDown m b → IsDown m (time_min a b)
down_min m (At n) (At k) g h = go (cases_lt n k)
  where
    go : (n < k) ⊎ (k ≤ n) → m ≤ min n k
    go (inl l) = let e : min n k ≡ n = min-eq_left (omega (arith, l)) in omega (arith, e, g)
    go (inr l) = let e : min n k ≡ k = min-eq_right l in omega (arith, e, h)
down_min m (At n) Never g h = g
down_min m Never b g h = h

up_left : (m : ℕ) (a b : Time) → IsUpToTime m a → IsUpToTime m (time_min a b)
up_left m (At n) (At k) g = omega (arith, g, min-le_left n k)
up_left m (At n) Never g = g
up_left m Never b g = absurd g

up_right : (m : ℕ) (a b : Time) → IsUpToTime m b → IsUpToTime m (time_min a b)
up_right m (At n) (At k) g = omega (arith, g, min-le_right n k)
up_right m (At n) Never g = absurd g
up_right m Never b g = g

-- ---- what a row matches

fits_from : (m y : ℕ) (es : List (Option ℕ)) (xs : List Time) → AllDown m xs → entries_match y es (map (taken_off m) xs) ≡ true → Fits m y es xs
fits_from m y [] [] d h = tt
fits_from m y [] (a ∷ xs) d h = absurd (cc)
fits_from m y (e ∷ es) [] d h = absurd (cc)
fits_from m y (Some e ∷ es) (a ∷ xs) d h =
    let p = and_parts (entry_matches y (Some e) (taken_off m a)) (entries_match y es (map (taken_off m) xs)) h in
    (at a d.0 p.0, fits_from m y es xs d.1 p.1)
  where
    at : (a : Time) → IsDown m a → entry_matches y (Some e) (taken_off m a) ≡ true → a ≡ At (m + e)
    at (At u) down g = let same : u - m ≡ e = grind (arith, nat_tests) in let k : u ≡ m + e = omega (arith, same, down) in ap At k
    at Never down g = absurd (cc)
fits_from m y (None ∷ es) (a ∷ xs) d h =
    let p = and_parts (entry_matches y None (taken_off m a)) (entries_match y es (map (taken_off m) xs)) h in
    (later a d.0 p.0, fits_from m y es xs d.1 p.1)
  where
    later : (a : Time) → IsDown m a → entry_matches y None (taken_off m a) ≡ true → IsAfter (m + y) a
    later (At u) down g = let less : y < u - m = grind (arith, nat_tests) in omega (arith, less, down)
    later Never down g = tt

fits_to : (m y : ℕ) (es : List (Option ℕ)) (xs : List Time) → Fits m y es xs → entries_match y es (map (taken_off m) xs) ≡ true
fits_to m y [] [] f = refl
fits_to m y [] (a ∷ xs) f = absurd f
fits_to m y (None ∷ es) [] f = absurd f
fits_to m y (Some e ∷ es) [] f = absurd f
fits_to m y (Some e ∷ es) (a ∷ xs) f = and_from _ _ (ap (λ z. entry_matches y (Some e) (taken_off m z)) f.0 ∙ same) (fits_to m y es xs f.1)
  where
    same : (m + e - m == e) ≡ true
    same = grind (arith, nat_tests)
fits_to m y (None ∷ es) (a ∷ xs) f = and_from _ _ (later a f.0) (fits_to m y es xs f.1)
  where
    later : (a : Time) → IsAfter (m + y) a → entry_matches y None (taken_off m a) ≡ true
    later (At u) g = grind (arith, nat_tests)
    later Never g = refl

-- ---- the least of times that fit

fits_down : (m y : ℕ) (es : List (Option ℕ)) (xs : List Time) → Fits m y es xs → IsDown m (least xs)
fits_down m y [] [] f = tt
fits_down m y [] (a ∷ xs) f = absurd f
fits_down m y (None ∷ es) [] f = absurd f
fits_down m y (Some e ∷ es) [] f = absurd f
fits_down m y (None ∷ es) (a ∷ xs) f = down_min m a (least xs) (lower a f.0) (fits_down m y es xs f.1)
  where
    lower : (a : Time) → IsAfter (m + y) a → IsDown m a
    lower (At n) g = omega (arith, g)
    lower Never g = tt
fits_down m y (Some e ∷ es) (a ∷ xs) f = down_min m a (least xs) (subst (IsDown m) (sym f.0) (omega arith)) (fits_down m y es xs f.1)

fits_up : (m y : ℕ) (es : List (Option ℕ)) (xs : List Time) → list_any is_zero es ≡ true → Fits m y es xs → IsUpToTime m (least xs)
fits_up m y [] xs z f = absurd (cc)
fits_up m y (None ∷ es) [] z f = absurd f
fits_up m y (Some e ∷ es) [] z f = absurd f
fits_up m y (None ∷ es) (a ∷ xs) z f = up_right m a (least xs) (fits_up m y es xs z f.1)
fits_up m y (Some e ∷ es) (a ∷ xs) z f = go (λ g. fits_up m y es xs g f.1) (e == 0) refl z
  where
    go : (list_any is_zero es ≡ true → IsUpToTime m (least xs)) → (b : Bool) → (e == 0) ≡ b → (b || list_any is_zero es) ≡ true → IsUpToTime m (time_min a (least xs))
    go rest true h g = let zero_entry : e ≡ 0 = grind (arith, nat_tests) in up_left m a (least xs) (subst (IsUpToTime m) (sym f.0) (omega (arith, zero_entry)))
    go rest false h g = up_right m a (least xs) (rest g)

-- ---- rows

-- the least of the times that the row matches, and how they fit it
pub record Met (r : Row) (x : List Time) : Type 0 where
  pub first : ℕ
  pub is : least x ≡ At first
  pub fits : Fits first r.out r.entries x

pub fits_at : (r : Row) (x : List Time) (m : ℕ) → least x ≡ At m → matches r (map (taken_off m) x) ≡ true → Fits m r.out r.entries x
fits_at r x m e h = fits_from m r.out r.entries x (all_down m x (subst (IsDown m) (sym e) (omega arith))) h

pub met : (r : Row) (x : List Time) → IsMatched r x → Met r x
met r x h = at (least x) refl h
  where
    at : (t : Time) → least x ≡ t → row_matches_at r x t ≡ true → Met r x
    at (At m) e g = record { first = m; is = e; fits = fits_at r x m e g }
    at Never e g = absurd (cc)

pub least_is : (r : Row) (x : List Time) (m : ℕ) → IsInOrder r → Fits m r.out r.entries x → least x ≡ At m
least_is r x m ordered f = between m (least x) (fits_up m r.out r.entries x ordered.some_zero f) (fits_down m r.out r.entries x f)

pub matched : (r : Row) (x : List Time) (m : ℕ) → IsInOrder r → Fits m r.out r.entries x → IsMatched r x
matched r x m ordered f = ap (row_matches_at r x) (least_is r x m ordered f) ∙ fits_to m r.out r.entries x f
