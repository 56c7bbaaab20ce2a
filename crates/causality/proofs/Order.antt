-- The order of the walk, and the lists that it meets.
use Rattle.std.proofs.Common.{◌≡◌, ℕ, zero, suc, ◌+◌, ◌≤◌, ◌<◌, Bool, true, false, cond, List, [], ◌∷◌, ◌++◌, length, map, refl, ap, sym, ◌∙◌, subst, arith, inl, inr}
use Rattle.std.specs.Prelude.{◌⊎◌, nat_le}
use Rattle.std.specs.List.{list_any, filter, flat_map, range_with_len, AllByRecursion}
use Rattle.std.proofs.lemmas.Bool.Decides.{nat_tests}
use Rattle.rl_time.specs.declared.time.Time.{Time}
use Rattle.rl_time.specs.declared.time.Time.TheVariants.{At, Never}
use Rattle.causality.specs.Window.{window_times, time_lists, is_start, window_lists}
use Rattle.causality.specs.Walk.{IsWithin}

-- ---- before in the walk

abbrev pub Sooner : Time → Time → Type 0
Sooner (At a) (At b) = a < b
Sooner (At a) Never = Unit {0}
Sooner Never b = ⊥

abbrev pub Before : List Time → List Time → Type 0
Before (a ∷ u) (b ∷ v) = Sooner a b ⊎ ((a ≡ b) × Before u v)
Before _ _ = ⊥

not_sooner_both : (a b : Time) → Sooner a b → Sooner b a → ⊥
not_sooner_both (At a) (At b) h k = omega (arith, h, k)
not_sooner_both (At a) Never h k = k
not_sooner_both Never b h k = h

not_sooner : (a b : Time) → a ≡ b → Sooner a b → ⊥
not_sooner a b e h = not_sooner_both b b (subst (λ c. Sooner c b) e h) (subst (λ c. Sooner c b) e h)

pub not_both : (u v : List Time) → Before u v → Before v u → ⊥
not_both [] v h k = h
not_both (a ∷ u) [] h k = h
not_both (a ∷ u) (b ∷ v) (inl h) (inl k) = not_sooner_both a b h k
not_both (a ∷ u) (b ∷ v) (inl h) (inr k) = not_sooner a b (sym k.0) h
not_both (a ∷ u) (b ∷ v) (inr h) (inl k) = not_sooner b a (sym h.0) k
not_both (a ∷ u) (b ∷ v) (inr h) (inr k) = not_both u v h.1 k.1

pub not_itself : (u v : List Time) → u ≡ v → Before u v → ⊥
not_itself u v e h = not_both v v (subst (λ w. Before w v) e h) (subst (λ w. Before w v) e h)

-- ---- the walk is in order

-- each of some lists comes before all later ones
abbrev pub InTurn : List (List Time) → Type 0
InTurn [] = Unit {0}
InTurn (v ∷ vs) = AllByRecursion (Before v) vs × InTurn vs

abbrev TimesInTurn : List Time → Type 0
TimesInTurn [] = Unit {0}
TimesInTurn (a ∷ ts) = AllByRecursion (Sooner a) ts × TimesInTurn ts

all_append : {X : Type 0} (P : X → Type 0) (xs ys : List X) → AllByRecursion P xs → AllByRecursion P ys → AllByRecursion P (xs ++ ys)
all_append P [] ys h k = k
all_append P (x ∷ xs) ys h k = (h.0, all_append P xs ys h.1 k)

pub all_filter : {X : Type 0} (P : X → Type 0) (p : X → Bool) (xs : List X) → AllByRecursion P xs → AllByRecursion P (filter p xs)
all_filter P p [] h = tt
all_filter P p (x ∷ xs) h = go (p x) (all_filter P p xs h.1)
  where
    go : (b : Bool) → AllByRecursion P (filter p xs) → AllByRecursion P (cond b (x ∷ filter p xs) (filter p xs))
    go true k = (h.0, k)
    go false k = k

in_turn_append : (us vs : List (List Time)) → InTurn us → InTurn vs → AllByRecursion (λ u. AllByRecursion (Before u) vs) us → InTurn (us ++ vs)
in_turn_append [] vs h k c = k
in_turn_append (u ∷ us) vs h k c = (all_append (Before u) us vs h.0 c.0, in_turn_append us vs h.1 k c.1)

in_turn_filter : (p : List Time → Bool) (vs : List (List Time)) → InTurn vs → InTurn (filter p vs)
in_turn_filter p [] h = tt
in_turn_filter p (v ∷ vs) h = go (p v) (in_turn_filter p vs h.1)
  where
    go : (b : Bool) → InTurn (filter p vs) → InTurn (cond b (v ∷ filter p vs) (filter p vs))
    go true k = (all_filter (Before v) p vs h.0, k)
    go false k = k

headed_before : (a : Time) (u : List Time) (vs : List (List Time)) → AllByRecursion (Before u) vs → AllByRecursion (Before (a ∷ u)) (map (λ v. a ∷ v) vs)
headed_before a u [] h = tt
headed_before a u (v ∷ vs) h = (inr (refl, h.0), headed_before a u vs h.1)

headed_turn : (a : Time) (vs : List (List Time)) → InTurn vs → InTurn (map (λ v. a ∷ v) vs)
headed_turn a [] h = tt
headed_turn a (v ∷ vs) h = (headed_before a v vs h.0, headed_turn a vs h.1)

sooner_all : (a b : Time) (u : List Time) (vs : List (List Time)) → Sooner a b → AllByRecursion (Before (a ∷ u)) (map (λ v. b ∷ v) vs)
sooner_all a b u [] h = tt
sooner_all a b u (v ∷ vs) h = (inl h, sooner_all a b u vs h)

sooner_rest : (a : Time) (u : List Time) (vs : List (List Time)) (ts : List Time) → AllByRecursion (Sooner a) ts → AllByRecursion (Before (a ∷ u)) (flat_map (λ b. map (λ v. b ∷ v) vs) ts)
sooner_rest a u vs [] h = tt
sooner_rest a u vs (t ∷ ts) h = all_append (Before (a ∷ u)) (map (λ v. t ∷ v) vs) (flat_map (λ b. map (λ v. b ∷ v) vs) ts) (sooner_all a t u vs h.0) (sooner_rest a u vs ts h.1)

all_sooner : (a : Time) (us vs : List (List Time)) (ts : List Time) → AllByRecursion (Sooner a) ts → AllByRecursion (λ u. AllByRecursion (Before u) (flat_map (λ b. map (λ v. b ∷ v) vs) ts)) (map (λ u. a ∷ u) us)
all_sooner a [] vs ts h = tt
all_sooner a (u ∷ us) vs ts h = (sooner_rest a u vs ts h, all_sooner a us vs ts h)

product_turn : (vs : List (List Time)) (ts : List Time) → InTurn vs → TimesInTurn ts → InTurn (flat_map (λ b. map (λ v. b ∷ v) vs) ts)
product_turn vs [] h k = tt
product_turn vs (t ∷ ts) h k =
    in_turn_append (map (λ v. t ∷ v) vs) (flat_map (λ b. map (λ v. b ∷ v) vs) ts) (headed_turn t vs h) (product_turn vs ts h k.1) (all_sooner t vs vs ts k.0)

numbers_after : (a b k : ℕ) → a < b → AllByRecursion (Sooner (At a)) (map At (range_with_len b k) ++ Never ∷ [])
numbers_after a b zero lt = (tt, tt)
numbers_after a b (suc k) lt = (lt, numbers_after a (b + 1) k (omega (arith, lt)))

times_turn : (b k : ℕ) → TimesInTurn (map At (range_with_len b k) ++ Never ∷ [])
times_turn b zero = (tt, tt)
times_turn b (suc k) = (numbers_after b (b + 1) k (omega arith), times_turn (b + 1) k)

lists_turn : (w n : ℕ) → InTurn (time_lists w n)
lists_turn w zero = (tt, tt)
lists_turn w (suc n) = product_turn (time_lists w n) (window_times w) (lists_turn w n) (times_turn 0 (w + 1))

pub window_turn : (w n : ℕ) → InTurn (window_lists w n)
window_turn w n = in_turn_filter (list_any is_start) (time_lists w n) (lists_turn w n)

-- ---- membership

abbrev pub Member : {X : Type 0} → X → List X → Type 0
Member x [] = ⊥
Member x (y ∷ ys) = (y ≡ x) ⊎ Member x ys

pub member_left : {X : Type 0} (x : X) (xs ys : List X) → Member x xs → Member x (xs ++ ys)
member_left x [] ys h = absurd h
member_left x (y ∷ xs) ys (inl h) = inl h
member_left x (y ∷ xs) ys (inr h) = inr (member_left x xs ys h)

pub member_right : {X : Type 0} (x : X) (xs ys : List X) → Member x ys → Member x (xs ++ ys)
member_right x [] ys h = h
member_right x (y ∷ xs) ys h = inr (member_right x xs ys h)

pub member_parts : {X : Type 0} (x : X) (xs ys : List X) → Member x (xs ++ ys) → Member x xs ⊎ Member x ys
member_parts x [] ys h = inr h
member_parts x (y ∷ xs) ys (inl h) = inl (inl h)
member_parts x (y ∷ xs) ys (inr h) = go (member_parts x xs ys h)
  where
    go : Member x xs ⊎ Member x ys → Member x (y ∷ xs) ⊎ Member x ys
    go (inl k) = inl (inr k)
    go (inr k) = inr k

pub member_map : {X Y : Type 0} (f : X → Y) (x : X) (xs : List X) → Member x xs → Member (f x) (map f xs)
member_map f x [] h = absurd h
member_map f x (y ∷ xs) (inl h) = inl (ap f h)
member_map f x (y ∷ xs) (inr h) = inr (member_map f x xs h)

pub member_flat : {X Y : Type 0} (f : X → List Y) (x : X) (y : Y) (xs : List X) → Member x xs → Member y (f x) → Member y (flat_map f xs)
member_flat f x y [] h k = absurd h
member_flat f x y (z ∷ xs) (inl h) k = member_left y (f z) (flat_map f xs) (subst (λ a. Member y (f a)) (sym h) k)
member_flat f x y (z ∷ xs) (inr h) k = member_right y (f z) (flat_map f xs) (member_flat f x y xs h k)

pub member_filter : {X : Type 0} (p : X → Bool) (x : X) (xs : List X) → Member x xs → p x ≡ true → Member x (filter p xs)
member_filter p x [] h k = absurd h
member_filter p x (y ∷ xs) (inl h) k = subst (λ b. Member x (cond b (y ∷ filter p xs) (filter p xs))) (sym (ap p h ∙ k)) (inl h)
member_filter p x (y ∷ xs) (inr h) k = go (p y) (member_filter p x xs h k)
  where
    go : (b : Bool) → Member x (filter p xs) → Member x (cond b (y ∷ filter p xs) (filter p xs))
    go true m = inr m
    go false m = m

pub all_member : {X : Type 0} (P : X → Type 0) (x : X) (xs : List X) → AllByRecursion P xs → Member x xs → P x
all_member P x [] h m = absurd m
all_member P x (y ∷ xs) h (inl e) = subst P e h.0
all_member P x (y ∷ xs) h (inr m) = all_member P x xs h.1 m

-- ---- which lists are in the window

member_number : (a b k : ℕ) → b ≤ a → a < b + k → Member (At a) (map At (range_with_len b k))
member_number a b zero le lt = absurd (omega (arith, le, lt))
member_number a b (suc k) le lt = go (nat_le a b) refl (λ l. member_number a (b + 1) k (omega (arith, l)) (omega (arith, lt)))
  where
    go : (c : Bool) → nat_le a b ≡ c → (b < a → Member (At a) (map At (range_with_len (b + 1) k))) → (At b ≡ At a) ⊎ Member (At a) (map At (range_with_len (b + 1) k))
    go true e rest = let same : b ≡ a = grind (arith, nat_tests) in inl (ap At same)
    go false e rest = inr (rest (grind (arith, nat_tests)))

member_time : (w : ℕ) (a : Time) → IsWithin w a → Member a (window_times w)
member_time w (At a) h = member_left (At a) (map At (range_with_len 0 (w + 1))) (Never ∷ []) (member_number a 0 (w + 1) (omega arith) (omega (arith, h)))
member_time w Never h = member_right Never (map At (range_with_len 0 (w + 1))) (Never ∷ []) (inl refl)

member_list : (w : ℕ) (v : List Time) → AllByRecursion (IsWithin w) v → Member v (time_lists w (length v))
member_list w [] h = inl refl
member_list w (a ∷ v) h = member_flat (λ b. map (λ u. b ∷ u) (time_lists w (length v))) a (a ∷ v) (window_times w) (member_time w a h.0) (member_map (λ u. a ∷ u) v (time_lists w (length v)) (member_list w v h.1))

pub member_window : (w n : ℕ) (v : List Time) → length v ≡ n → AllByRecursion (IsWithin w) v → list_any is_start v ≡ true → Member v (window_lists w n)
member_window w n v e h s = member_filter (list_any is_start) v (time_lists w n) (subst (λ k. Member v (time_lists w k)) e (member_list w v h)) s

-- what is true of each list of the window
pub record IsListOf (w n : ℕ) (v : List Time) : Type 0 where
  pub many : length v ≡ n
  pub within : AllByRecursion (IsWithin w) v

all_headed : (w n : ℕ) (a : Time) (vs : List (List Time)) → IsWithin w a → AllByRecursion (IsListOf w n) vs → AllByRecursion (IsListOf w (suc n)) (map (λ v. a ∷ v) vs)
all_headed w n a [] h k = tt
all_headed w n a (v ∷ vs) h k = (record { many = ap suc (k.0).many; within = (h, (k.0).within) }, all_headed w n a vs h k.1)

all_product : (w n : ℕ) (vs : List (List Time)) (ts : List Time) → AllByRecursion (IsWithin w) ts → AllByRecursion (IsListOf w n) vs → AllByRecursion (IsListOf w (suc n)) (flat_map (λ b. map (λ v. b ∷ v) vs) ts)
all_product w n vs [] h k = tt
all_product w n vs (t ∷ ts) h k = all_append (IsListOf w (suc n)) (map (λ v. t ∷ v) vs) (flat_map (λ b. map (λ v. b ∷ v) vs) ts) (all_headed w n t vs h.0 k) (all_product w n vs ts h.1 k)

numbers_within : (w b k : ℕ) → b + k ≤ w + 1 → AllByRecursion (IsWithin w) (map At (range_with_len b k) ++ Never ∷ [])
numbers_within w b zero le = (tt, tt)
numbers_within w b (suc k) le = (omega (arith, le), numbers_within w (b + 1) k (omega (arith, le)))

all_lists : (w n : ℕ) → AllByRecursion (IsListOf w n) (time_lists w n)
all_lists w zero = (record { many = refl; within = tt }, tt)
all_lists w (suc n) = all_product w n (time_lists w n) (window_times w) (numbers_within w 0 (w + 1) (omega arith)) (all_lists w n)

pub all_window : (w n : ℕ) → AllByRecursion (IsListOf w n) (window_lists w n)
all_window w n = all_filter (IsListOf w n) (list_any is_start) (time_lists w n) (all_lists w n)

all_pass : {X : Type 0} (p : X → Bool) (xs : List X) → AllByRecursion (λ x. p x ≡ true) (filter p xs)
all_pass p [] = tt
all_pass p (x ∷ xs) = go (p x) refl (all_pass p xs)
  where
    go : (b : Bool) → p x ≡ b → AllByRecursion (λ y. p y ≡ true) (filter p xs) → AllByRecursion (λ y. p y ≡ true) (cond b (x ∷ filter p xs) (filter p xs))
    go true e h = (e, h)
    go false e h = h

pub all_start : (w n : ℕ) → AllByRecursion (λ v. list_any is_start v ≡ true) (window_lists w n)
all_start w n = all_pass (list_any is_start) (time_lists w n)
