-- The first list of the walk that has the row of another: its times after the output are the earliest of the window.
use Rattle.std.proofs.Common.{◌≡◌, ℕ, zero, suc, ◌+◌, ◌≤◌, ◌<◌, Bool, true, false, List, [], ◌∷◌, length, map, refl, ap, sym, ◌∙◌, subst, arith, Some, None, inl, inr}
use Rattle.std.specs.Prelude.{◌⊎◌, ◌&&◌, ◌||◌, nat_le, if◌then◌else◌}
use Rattle.std.specs.List.{list_any, AllByRecursion}
use Rattle.std.proofs.lemmas.Bool.{and_parts, and_from, or_right}
use Rattle.std.proofs.lemmas.Bool.Decides.{nat_tests}
use Rattle.rl_time.specs.declared.time.Time.{Time}
use Rattle.rl_time.specs.declared.time.Time.TheVariants.{At, Never}
use Rattle.spike_eval.specs.Causal.{IsAfter, Agree, AllAgree}
use Rattle.net_model.specs.Value.{time_at}
use Rattle.causality.specs.Window.{is_start, entry_at}
use Rattle.causality.specs.Walk.{IsWithin, is_earliest, is_first}
use Rattle.causality.proofs.Order.{Sooner, Before}

-- the first time of the window after y
abbrev pub next : ℕ → ℕ → Time
next w y = if nat_le (y + 1) w then At (y + 1) else Never

abbrev pub lowered : ℕ → ℕ → Time → Time
lowered w y (At a) = if nat_le a y then At a else next w y
lowered w y Never = next w y

next_within : (w y : ℕ) → IsWithin w (next w y)
next_within w y = go (nat_le (y + 1) w) refl
  where
    go : (b : Bool) → nat_le (y + 1) w ≡ b → IsWithin w (if b then At (y + 1) else Never)
    go true e = grind (arith, nat_tests)
    go false e = tt

next_after : (w y : ℕ) → IsAfter y (next w y)
next_after w y = go (nat_le (y + 1) w)
  where
    go : (b : Bool) → IsAfter y (if b then At (y + 1) else Never)
    go true = omega arith
    go false = tt

-- a time that isn't greater than y stays, and any other becomes the next
by_cases : (P : Time → Type 0) (w y : ℕ) (a : Time) → ((n : ℕ) → n ≤ y → a ≡ At n → P (At n)) → (IsAfter y a → P (next w y)) → P (lowered w y a)
by_cases P w y (At n) low high = go (nat_le n y) refl
  where
    go : (b : Bool) → nat_le n y ≡ b → P (if b then At n else next w y)
    go true e = low n (grind (arith, nat_tests)) refl
    go false e = high (grind (arith, nat_tests))
by_cases P w y Never low high = high tt

lowered_within : (w y : ℕ) (a : Time) → IsWithin w a → IsWithin w (lowered w y a)
lowered_within w y a h = by_cases (IsWithin w) w y a (λ n l e. subst (IsWithin w) e h) (λ k. next_within w y)

lowered_agrees : (w y : ℕ) (a : Time) → Agree y a (lowered w y a)
lowered_agrees w y a = by_cases (Agree y a) w y a (λ n l e. inl e) (λ k. inr (k, next_after w y))

pub entry_low : (y n : ℕ) → n ≤ y → entry_at y (At n) ≡ Some n
entry_low y n l = let e : nat_le n y ≡ true = grind (arith, nat_tests) in ap (λ (b : Bool). if b then Some n else None) e

pub entry_high : (y : ℕ) (a : Time) → IsAfter y a → entry_at y a ≡ None
entry_high y (At n) l = let e : nat_le n y ≡ false = grind (arith, nat_tests) in ap (λ (b : Bool). if b then Some n else None) e
entry_high y Never l = refl

lowered_entry : (w y : ℕ) (a : Time) → entry_at y (lowered w y a) ≡ entry_at y a
lowered_entry w y a = by_cases (λ b. entry_at y b ≡ entry_at y a) w y a (λ n l e. ap (entry_at y) (sym e)) (λ k. entry_high y (next w y) (next_after w y) ∙ sym (entry_high y a k))

next_earliest : (w y : ℕ) → is_earliest w y (next w y) ≡ true
next_earliest w y = go (nat_le (y + 1) w) refl
  where
    go : (b : Bool) → nat_le (y + 1) w ≡ b → is_earliest w y (if b then At (y + 1) else Never) ≡ true
    go true e = grind (arith, nat_tests)
    go false e = grind (arith, nat_tests)

low_earliest : (w y n : ℕ) → n ≤ y → is_earliest w y (At n) ≡ true
low_earliest w y n l = grind (arith, nat_tests)

lowered_earliest : (w y : ℕ) (a : Time) → is_earliest w y (lowered w y a) ≡ true
lowered_earliest w y a = by_cases (λ b. is_earliest w y b ≡ true) w y a (λ n l e. low_earliest w y n l) (λ k. next_earliest w y)

lowered_start : (w y : ℕ) (a : Time) → is_start a ≡ true → is_start (lowered w y a) ≡ true
lowered_start w y (At n) h =
    let zero_time : n ≡ 0 = grind (arith, nat_tests) in
    by_cases (λ b. is_start b ≡ true) w y (At n) (λ k l e. subst (λ b. is_start b ≡ true) e h) (λ l. absurd (omega (arith, l, zero_time)))
lowered_start w y Never h = absurd (cc)

-- an earliest time stays, and any other becomes a sooner one
earliest_stays : (w y : ℕ) (a : Time) → IsWithin w a → is_earliest w y a ≡ true → lowered w y a ≡ a
earliest_stays w y (At n) h e = by_cases (λ b. b ≡ At n) w y (At n) (λ k l f. sym f) (λ l. go l (nat_le (y + 1) w) refl)
  where
    go : y < n → (b : Bool) → nat_le (y + 1) w ≡ b → (if b then At (y + 1) else Never) ≡ At n
    go l true f = let k : n ≤ y + 1 = grind (arith, nat_tests) in let same : y + 1 ≡ n = omega (arith, k, l) in ap At same
    go l false f = let k : w < y + 1 = grind (arith, nat_tests) in absurd (omega (arith, k, l, h))
earliest_stays w y Never h e = let f : nat_le (y + 1) w ≡ false = grind (arith, nat_tests) in ap (λ (b : Bool). if b then At (y + 1) else Never) f

later_sooner : (w y : ℕ) (a : Time) → IsWithin w a → is_earliest w y a ≡ false → Sooner (lowered w y a) a
later_sooner w y (At n) h e =
    let k : y + 1 < n = grind (arith, nat_tests) in
    by_cases (λ b. Sooner b (At n)) w y (At n) (λ m l f. absurd (not_both_ways m l f k)) (λ l. go k (nat_le (y + 1) w) refl)
  where
    not_both_ways : (m : ℕ) → m ≤ y → At n ≡ At m → y + 1 < n → ⊥
    not_both_ways m l f k = let same : n ≡ m = cc in omega (arith, same, l, k)

    go : y + 1 < n → (b : Bool) → nat_le (y + 1) w ≡ b → Sooner (if b then At (y + 1) else Never) (At n)
    go k true f = k
    go k false f = let j : w < y + 1 = grind (arith, nat_tests) in absurd (omega (arith, j, k, h))
later_sooner w y Never h e = let f : nat_le (y + 1) w ≡ true = grind (arith, nat_tests) in subst (λ (b : Bool). Sooner (if b then At (y + 1) else Never) Never) (sym f) tt

-- ---- lists

abbrev pub lowest : ℕ → ℕ → List Time → List Time
lowest w y v = map (lowered w y) v

pub lowest_within : (w y : ℕ) (v : List Time) → AllByRecursion (IsWithin w) v → AllByRecursion (IsWithin w) (lowest w y v)
lowest_within w y [] h = tt
lowest_within w y (a ∷ v) h = (lowered_within w y a h.0, lowest_within w y v h.1)

pub agree_more : (t : ℕ) (a b : Time) (x y : List Time) → Agree t a b → AllAgree t x y → AllAgree t (a ∷ x) (b ∷ y)
agree_more t a b x y h k = record { equally_long = ap suc k.equally_long; in_every_place = place }
  where
    place : (i : ℕ) → i < length (a ∷ x) → Agree t (time_at (a ∷ x) i) (time_at (b ∷ y) i)
    place zero lt = h
    place (suc i) lt = k.in_every_place i (omega (arith, lt))

pub agree_none : (t : ℕ) → AllAgree t [] []
agree_none t = record { equally_long = refl; in_every_place = λ i lt. inl refl }

pub lowest_agrees : (w y : ℕ) (v : List Time) → AllAgree y v (lowest w y v)
lowest_agrees w y [] = agree_none y
lowest_agrees w y (a ∷ v) = agree_more y a (lowered w y a) v (lowest w y v) (lowered_agrees w y a) (lowest_agrees w y v)

pub lowest_entries : (w y : ℕ) (v : List Time) → map (entry_at y) (lowest w y v) ≡ map (entry_at y) v
lowest_entries w y [] = refl
lowest_entries w y (a ∷ v) = ap (λ e. e ∷ map (entry_at y) (lowest w y v)) (lowered_entry w y a) ∙ ap (λ es. entry_at y a ∷ es) (lowest_entries w y v)

pub lowest_first : (w y : ℕ) (v : List Time) → is_first w y (lowest w y v) ≡ true
lowest_first w y [] = refl
lowest_first w y (a ∷ v) = and_from _ _ (lowered_earliest w y a) (lowest_first w y v)

pub lowest_start : (w y : ℕ) (v : List Time) → list_any is_start v ≡ true → list_any is_start (lowest w y v) ≡ true
lowest_start w y [] h = absurd (cc)
lowest_start w y (a ∷ v) h = go (is_start a) refl h (lowest_start w y v)
  where
    go : (b : Bool) → is_start a ≡ b → (b || list_any is_start v) ≡ true → (list_any is_start v ≡ true → list_any is_start (lowest w y v) ≡ true) → (is_start (lowered w y a) || list_any is_start (lowest w y v)) ≡ true
    go true e g rest = ap (λ (c : Bool). c || list_any is_start (lowest w y v)) (lowered_start w y a e)
    go false e g rest = or_right (is_start (lowered w y a)) (list_any is_start (lowest w y v)) (rest g)

pub lowest_before : (w y : ℕ) (v : List Time) → AllByRecursion (IsWithin w) v → is_first w y v ≡ false → Before (lowest w y v) v
lowest_before w y [] h e = absurd (cc)
lowest_before w y (a ∷ v) h e = go (is_earliest w y a) refl e (lowest_before w y v h.1)
  where
    go : (b : Bool) → is_earliest w y a ≡ b → (b && is_first w y v) ≡ false → (is_first w y v ≡ false → Before (lowest w y v) v) → Sooner (lowered w y a) a ⊎ ((lowered w y a ≡ a) × Before (lowest w y v) v)
    go true f g rest = inr (earliest_stays w y a h.0 f, rest g)
    go false f g rest = inl (later_sooner w y a h.0 f)

none_sooner : (w y : ℕ) (a b : Time) → IsWithin w a → is_earliest w y b ≡ true → entry_at y a ≡ entry_at y b → Sooner a b → ⊥
none_sooner w y Never b h e f s = s
none_sooner w y (At m) (At n) h e f s =
    let k : n ≤ y + 1 = grind (arith, nat_tests) in
    let low : m ≤ y = omega (arith, k, s) in
    go low (nat_le n y) refl (sym (entry_low y m low) ∙ f)
  where
    go : m ≤ y → (b : Bool) → nat_le n y ≡ b → Some m ≡ (if b then Some n else None) → ⊥
    go l true g d = let same : m ≡ n = cc in omega (arith, same, s)
    go l false g d = absurd (cc)
none_sooner w y (At m) Never h e f s =
    let k : w ≤ y = grind (arith, nat_tests) in
    let low : m ≤ y = omega (arith, k, h) in
    let d : Some m ≡ None = sym (entry_low y m low) ∙ f in
    absurd (cc)

-- no list before a first one has its entries
pub first_is_first : (w y : ℕ) (u v : List Time) → AllByRecursion (IsWithin w) u → is_first w y v ≡ true → map (entry_at y) u ≡ map (entry_at y) v → Before u v → ⊥
first_is_first w y [] v h e f b = b
first_is_first w y (a ∷ u) [] h e f b = b
first_is_first w y (a ∷ u) (c ∷ v) h e f (inl s) =
    let p = and_parts (is_earliest w y c) (is_first w y v) e in
    let here : entry_at y a ≡ entry_at y c = cc in
    none_sooner w y a c h.0 p.0 here s
first_is_first w y (a ∷ u) (c ∷ v) h e f (inr s) =
    let p = and_parts (is_earliest w y c) (is_first w y v) e in
    let rest : map (entry_at y) u ≡ map (entry_at y) v = cc in
    first_is_first w y u v h.1 p.1 rest s.1
