-- The time of a row's minterm is that of the row where it matches, and else never.
use Rattle.std.proofs.Common.{◌≡◌, ℕ, suc, ◌+◌, ◌-◌, ◌≤◌, ◌<◌, Bool, true, false, List, [], ◌∷◌, ◌++◌, length, map, min, max, refl, ap, sym, ◌∙◌, subst, arith, Option, Some, None, append_assoc, length-append, inl, inr, true≢false}
use Rattle.std.specs.Prelude.{◌||◌, ◌==◌, nat_lt, nat_eq, fold, if◌then◌else◌, ◌⊎◌}
use Rattle.std.specs.List.{list_any, AllByRecursion}
use Rattle.std.proofs.Math.Nat.{max-eq_left, min-eq_left, min-eq_right, le-max_left, le-max_right, min-le_left, min-le_right}
use Rattle.std.proofs.lemmas.Bool.{and_parts, and_from, cases_lt}
use Rattle.std.proofs.lemmas.Bool.Decides.{nat_tests}
use Rattle.rl_time.specs.declared.time.Time.{Time}
use Rattle.rl_time.specs.declared.time.Time.TheVariants.{At, Never}
use Rattle.rl_time.specs.Time.{time_min, time_max, time_lt, time_inc}
use Rattle.net_model.specs.Value.{time_at}
use Rattle.term_store.specs.Tree as tree
use Rattle.term_store.specs.Tree.{Tree, value}
use Rattle.term_store.specs.Terms.{delayed}
use Rattle.func_table.specs.Rules.{IsUpTo}
use Rattle.func_table.specs.Function.{least, taken_off, entry_matches, entries_match}
use Rattle.func_table.specs.Sound.{is_zero}
use Rattle.minterm.specs.Minterms.{number_terms, dash_terms, joined, together, before_all}

-- ---- the terms' times

abbrev pub number_times : ℕ → List (Option ℕ) → List Time → List Time
number_times y (Some e ∷ es) (a ∷ xs) = time_inc a (y - e) ∷ number_times y es xs
number_times y (None ∷ es) (a ∷ xs) = number_times y es xs
number_times y _ _ = []

abbrev pub dash_times : List (Option ℕ) → List Time → List Time
dash_times (Some e ∷ es) (a ∷ xs) = dash_times es xs
dash_times (None ∷ es) (a ∷ xs) = a ∷ dash_times es xs
dash_times _ _ = []

abbrev pub together_times : List Time → Time
together_times [] = Never
together_times (a ∷ []) = a
together_times (a ∷ b ∷ ts) = time_lt (fold time_max a (b ∷ ts)) (time_inc (fold time_min a (b ∷ ts)) 1)

abbrev pub before_times : Time → List Time → Time
before_times a [] = a
before_times a (b ∷ bs) = time_lt a (fold time_min b bs)

time_there : (front xs : List Time) (a : Time) → time_at (front ++ a ∷ xs) (length front) ≡ a
time_there [] xs a = refl
time_there (b ∷ front) xs a = time_there front xs a

later_none : (a : Time) → time_inc a 0 ≡ a
later_none (At n) = let e : n + 0 ≡ n = omega arith in ap At e
later_none Never = refl

delayed_time : (x : List Time) (t : Tree) (c : ℕ) (b : Bool) → nat_eq c 0 ≡ b → value x (if b then t else tree.Inc t c) ≡ time_inc (value x t) c
delayed_time x t c true e = let z : c ≡ 0 = grind (arith, nat_tests) in sym (later_none (value x t)) ∙ ap (time_inc (value x t)) (sym z)
delayed_time x t c false e = refl

move : (front xs : List Time) (a : Time) → (front ++ a ∷ []) ++ xs ≡ front ++ a ∷ xs
move front xs a = append_assoc front (a ∷ []) xs

one_longer : (front : List Time) (a : Time) → length (front ++ a ∷ []) ≡ suc (length front)
one_longer front a = length-append front (a ∷ []) ∙ omega arith

pub numbers_are : (front xs : List Time) (es : List (Option ℕ)) (y : ℕ) → length es ≡ length xs → map (value (front ++ xs)) (number_terms y (length front) es) ≡ number_times y es xs
numbers_are front [] [] y l = refl
numbers_are front (a ∷ xs) [] y l = absurd (omega (arith, l))
numbers_are front [] (e ∷ es) y l = absurd (omega (arith, l))
numbers_are front (a ∷ xs) (None ∷ es) y l =
    ap (λ z. map (value z) (number_terms y (suc (length front)) es)) (sym (move front xs a))
    ∙ (ap (λ k. map (value ((front ++ a ∷ []) ++ xs)) (number_terms y k es)) (sym (one_longer front a)) ∙ numbers_are (front ++ a ∷ []) xs es y (omega (arith, l)))
numbers_are front (a ∷ xs) (Some e ∷ es) y l =
    let first : value (front ++ a ∷ xs) (delayed (tree.Input (length front)) (y - e)) ≡ time_inc a (y - e) =
    delayed_time (front ++ a ∷ xs) (tree.Input (length front)) (y - e) (nat_eq (y - e) 0) refl ∙ ap (λ t. time_inc t (y - e)) (time_there front xs a) in
    let rest : map (value (front ++ a ∷ xs)) (number_terms y (suc (length front)) es) ≡ number_times y es xs =
    ap (λ z. map (value z) (number_terms y (suc (length front)) es)) (sym (move front xs a))
    ∙ (ap (λ k. map (value ((front ++ a ∷ []) ++ xs)) (number_terms y k es)) (sym (one_longer front a)) ∙ numbers_are (front ++ a ∷ []) xs es y (omega (arith, l))) in
    ap (λ t. t ∷ map (value (front ++ a ∷ xs)) (number_terms y (suc (length front)) es)) first ∙ ap (λ ts. time_inc a (y - e) ∷ ts) rest

pub dashes_are : (front xs : List Time) (es : List (Option ℕ)) → length es ≡ length xs → map (value (front ++ xs)) (dash_terms (length front) es) ≡ dash_times es xs
dashes_are front [] [] l = refl
dashes_are front (a ∷ xs) [] l = absurd (omega (arith, l))
dashes_are front [] (e ∷ es) l = absurd (omega (arith, l))
dashes_are front (a ∷ xs) (Some e ∷ es) l =
    ap (λ z. map (value z) (dash_terms (suc (length front)) es)) (sym (move front xs a))
    ∙ (ap (λ k. map (value ((front ++ a ∷ []) ++ xs)) (dash_terms k es)) (sym (one_longer front a)) ∙ dashes_are (front ++ a ∷ []) xs es (omega (arith, l)))
dashes_are front (a ∷ xs) (None ∷ es) l =
    let rest : map (value (front ++ a ∷ xs)) (dash_terms (suc (length front)) es) ≡ dash_times es xs =
    ap (λ z. map (value z) (dash_terms (suc (length front)) es)) (sym (move front xs a))
    ∙ (ap (λ k. map (value ((front ++ a ∷ []) ++ xs)) (dash_terms k es)) (sym (one_longer front a)) ∙ dashes_are (front ++ a ∷ []) xs es (omega (arith, l))) in
    ap (λ t. t ∷ map (value (front ++ a ∷ xs)) (dash_terms (suc (length front)) es)) (time_there front xs a) ∙ ap (λ ts. a ∷ ts) rest

pub joined_min : (x : List Time) (t : Tree) (us : List Tree) → value x (joined tree.Min t us) ≡ fold time_min (value x t) (map (value x) us)
joined_min x t [] = refl
joined_min x t (u ∷ us) = joined_min x (tree.Min t u) us

pub joined_max : (x : List Time) (t : Tree) (us : List Tree) → value x (joined tree.Max t us) ≡ fold time_max (value x t) (map (value x) us)
joined_max x t [] = refl
joined_max x t (u ∷ us) = joined_max x (tree.Max t u) us

pub together_is : (x : List Time) (ts : List Tree) → value x (together ts) ≡ together_times (map (value x) ts)
together_is x [] = refl
together_is x (t ∷ []) = refl
together_is x (t ∷ u ∷ ts) =
    ap (λ a. time_lt a (time_inc (value x (joined tree.Min t (u ∷ ts))) 1)) (joined_max x t (u ∷ ts))
    ∙ ap (λ b. time_lt (fold time_max (value x t) (map (value x) (u ∷ ts))) (time_inc b 1)) (joined_min x t (u ∷ ts))

pub before_is : (x : List Time) (t : Tree) (us : List Tree) → value x (before_all t us) ≡ before_times (value x t) (map (value x) us)
before_is x t [] = refl
before_is x t (u ∷ us) = ap (time_lt (value x t)) (joined_min x u us)

-- ---- times that are all the same, and times that are all later

abbrev pub AllAt : ℕ → List Time → Type 0
AllAt v [] = Unit {0}
AllAt v (a ∷ ts) = (a ≡ At v) × AllAt v ts

abbrev pub IsLater : ℕ → Time → Type 0
IsLater v (At a) = v < a
IsLater v Never = Unit {0}

abbrev pub AllLater : ℕ → List Time → Type 0
AllLater v [] = Unit {0}
AllLater v (a ∷ ts) = IsLater v a × AllLater v ts

max_same : (v : ℕ) (ts : List Time) → AllAt v ts → fold time_max (At v) ts ≡ At v
max_same v [] h = refl
max_same v (a ∷ ts) h =
    let s : time_max (At v) (At v) ≡ At v = let e : max v v ≡ v = max-eq_left (omega arith) in ap At e in
    ap (λ z. fold time_max (time_max (At v) z) ts) h.0 ∙ (ap (λ z. fold time_max z ts) s ∙ max_same v ts h.1)

min_same : (v : ℕ) (ts : List Time) → AllAt v ts → fold time_min (At v) ts ≡ At v
min_same v [] h = refl
min_same v (a ∷ ts) h =
    let s : time_min (At v) (At v) ≡ At v = let e : min v v ≡ v = min-eq_left (omega arith) in ap At e in
    ap (λ z. fold time_min (time_min (At v) z) ts) h.0 ∙ (ap (λ z. fold time_min z ts) s ∙ min_same v ts h.1)

lt_next : (v : ℕ) → time_lt (At v) (At (v + 1)) ≡ At v
lt_next v = let e : nat_lt v (v + 1) ≡ true = grind (arith, nat_tests) in ap (λ (b : Bool). if b then At v else Never) e

pub together_from : (v : ℕ) (ts : List Time) → (ts ≡ [] → ⊥) → AllAt v ts → together_times ts ≡ At v
together_from v [] some h = absurd (some refl)
together_from v (a ∷ []) some h = h.0
together_from v (a ∷ b ∷ ts) some h =
    ap (λ z. time_lt (fold time_max z (b ∷ ts)) (time_inc (fold time_min z (b ∷ ts)) 1)) h.0
    ∙ (ap (λ z. time_lt z (time_inc (fold time_min (At v) (b ∷ ts)) 1)) (max_same v (b ∷ ts) h.1)
    ∙ (ap (λ z. time_lt (At v) (time_inc z 1)) (min_same v (b ∷ ts) h.1) ∙ lt_next v))

lt_gives : (a b : Time) (v : ℕ) → time_lt a b ≡ At v → (a ≡ At v) × IsLater v b
lt_gives Never b v h = absurd (cc)
lt_gives (At n) Never v h = (h, tt)
lt_gives (At n) (At k) v h = go (nat_lt n k) refl h
  where
    go : (c : Bool) → nat_lt n k ≡ c → (if c then At n else Never) ≡ At v → (At n ≡ At v) × (v < k)
    go true e f = let same : n ≡ v = cc in (f, let less : n < k = grind (arith, nat_tests) in omega (arith, same, less))
    go false e f = absurd (cc)

lt_later : (v : ℕ) (b : Time) → IsLater v b → time_lt (At v) b ≡ At v
lt_later v Never h = refl
lt_later v (At k) h = let e : nat_lt v k ≡ true = grind (arith, nat_tests) in ap (λ (c : Bool). if c then At v else Never) e

abbrev UpTo : ℕ → Time → Type 0
UpTo v (At u) = u ≤ v
UpTo v Never = ⊥

abbrev AllUpTo : ℕ → List Time → Type 0
AllUpTo v [] = Unit {0}
AllUpTo v (a ∷ ts) = UpTo v a × AllUpTo v ts

abbrev Down : ℕ → Time → Type 0
Down k (At u) = k ≤ u
Down k Never = Unit {0}

abbrev AllDown : ℕ → List Time → Type 0
AllDown k [] = Unit {0}
AllDown k (a ∷ ts) = Down k a × AllDown k ts

max_up_both : (v : ℕ) (a b : Time) → UpTo v (time_max a b) → UpTo v a × UpTo v b
max_up_both v (At n) (At k) h = (omega (arith, h, le-max_left n k), omega (arith, h, le-max_right n k))
max_up_both v (At n) Never h = absurd h
max_up_both v Never b h = absurd h

max_up : (a : Time) (ts : List Time) (v : ℕ) → fold time_max a ts ≡ At v → UpTo v a × AllUpTo v ts
max_up a [] v h = (subst (UpTo v) (sym h) (omega arith), tt)
max_up a (b ∷ ts) v h =
    let r = max_up (time_max a b) ts v h in
    let p = max_up_both v a b r.0 in
    (p.0, (p.1, r.1))

min_down_both : (k : ℕ) (a b : Time) → Down k (time_min a b) → Down k a × Down k b
min_down_both k (At n) (At m) h = (omega (arith, h, min-le_left n m), omega (arith, h, min-le_right n m))
min_down_both k (At n) Never h = (h, tt)
min_down_both k Never b h = (tt, h)

min_down : (a : Time) (ts : List Time) (k : ℕ) → fold time_min a ts ≡ At k → Down k a × AllDown k ts
min_down a [] k h = (subst (Down k) (sym h) (omega arith), tt)
min_down a (b ∷ ts) k h =
    let r = min_down (time_min a b) ts k h in
    let p = min_down_both k a b r.0 in
    (p.0, (p.1, r.1))

min_never : (a : Time) (ts : List Time) → fold time_min a ts ≡ Never → a ≡ Never
min_never a [] h = h
min_never a (b ∷ ts) h = left a b (min_never (time_min a b) ts h)
  where
    left : (p q : Time) → time_min p q ≡ Never → p ≡ Never
    left (At n) (At k) e = absurd (cc)
    left (At n) Never e = absurd (cc)
    left Never q e = refl

between : (v k : ℕ) (a : Time) → v ≤ k → UpTo v a → Down k a → a ≡ At v
between v k (At u) le up down = let e : u ≡ v = omega (arith, le, up, down) in ap At e
between v k Never le up down = absurd up

all_between : (v k : ℕ) (ts : List Time) → v ≤ k → AllUpTo v ts → AllDown k ts → AllAt v ts
all_between v k [] le up down = tt
all_between v k (a ∷ ts) le up down = (between v k a le up.0 down.0, all_between v k ts le up.1 down.1)

pub together_to : (ts : List Time) (v : ℕ) → together_times ts ≡ At v → (ts ≡ [] → ⊥) × AllAt v ts
together_to [] v h = absurd (cc)
together_to (a ∷ []) v h = (λ (e : a ∷ [] ≡ []). absurd (cc), (h, tt))
together_to (a ∷ b ∷ ts) v h = (λ (e : a ∷ b ∷ ts ≡ []). absurd (cc), go (fold time_min a (b ∷ ts)) refl)
  where
    parts : (fold time_max a (b ∷ ts) ≡ At v) × IsLater v (time_inc (fold time_min a (b ∷ ts)) 1)
    parts = lt_gives (fold time_max a (b ∷ ts)) (time_inc (fold time_min a (b ∷ ts)) 1) v h

    up : UpTo v a × AllUpTo v (b ∷ ts)
    up = max_up a (b ∷ ts) v parts.0

    no_time : (c : Time) → UpTo v c → c ≡ Never → ⊥
    no_time (At n) u e = absurd (cc)
    no_time Never u e = u

    go : (m : Time) → fold time_min a (b ∷ ts) ≡ m → AllAt v (a ∷ b ∷ ts)
    go (At k) e =
        let down = min_down a (b ∷ ts) k e in
        let late : v < k + 1 = subst (λ z. IsLater v (time_inc z 1)) e parts.1 in
        all_between v k (a ∷ b ∷ ts) (omega (arith, late)) up down
    go Never e = absurd (no_time a up.0 (min_never a (b ∷ ts) e))

later_min : (v : ℕ) (a b : Time) → IsLater v a → IsLater v b → IsLater v (time_min a b)
later_min v (At n) (At k) h g = go (cases_lt n k)
  where
    go : (n < k) ⊎ (k ≤ n) → v < min n k
    go (inl l) = let e : min n k ≡ n = min-eq_left (omega (arith, l)) in omega (arith, e, h)
    go (inr l) = let e : min n k ≡ k = min-eq_right l in omega (arith, e, g)
later_min v (At n) Never h g = h
later_min v Never b h g = g

later_fold : (v : ℕ) (a : Time) (ts : List Time) → IsLater v a → AllLater v ts → IsLater v (fold time_min a ts)
later_fold v a [] h g = h
later_fold v a (b ∷ ts) h g = later_fold v (time_min a b) ts (later_min v a b h g.0) g.1

later_both : (v : ℕ) (a b : Time) → IsLater v (time_min a b) → IsLater v a × IsLater v b
later_both v (At n) (At k) h = (omega (arith, h, min-le_left n k), omega (arith, h, min-le_right n k))
later_both v (At n) Never h = (h, tt)
later_both v Never b h = (tt, h)

later_all : (v : ℕ) (a : Time) (ts : List Time) → IsLater v (fold time_min a ts) → IsLater v a × AllLater v ts
later_all v a [] h = (h, tt)
later_all v a (b ∷ ts) h =
    let r = later_all v (time_min a b) ts h in
    let p = later_both v a b r.0 in
    (p.0, (p.1, r.1))

pub before_from : (v : ℕ) (ts : List Time) → AllLater v ts → before_times (At v) ts ≡ At v
before_from v [] h = refl
before_from v (b ∷ ts) h = lt_later v (fold time_min b ts) (later_fold v b ts h.0 h.1)

pub before_to : (a : Time) (ts : List Time) (v : ℕ) → before_times a ts ≡ At v → (a ≡ At v) × AllLater v ts
before_to a [] v h = (h, tt)
before_to a (b ∷ ts) v h =
    let p = lt_gives a (fold time_min b ts) v h in
    (p.0, later_all v b ts p.1)

-- ---- times that a row matches, m cycles later

abbrev pub Fits : ℕ → ℕ → List (Option ℕ) → List Time → Type 0
Fits m y [] [] = Unit {0}
Fits m y (Some e ∷ es) (a ∷ xs) = (a ≡ At (m + e)) × Fits m y es xs
Fits m y (None ∷ es) (a ∷ xs) = IsLater (m + y) a × Fits m y es xs
Fits m y _ _ = ⊥

least_down : (xs : List Time) (m : ℕ) → Down m (least xs) → AllDown m xs
least_down [] m h = tt
least_down (a ∷ xs) m h =
    let p = min_down_both m a (least xs) h in
    (p.0, least_down xs m p.1)

-- the row matches these times, of which m is the least
fits_from : (m y : ℕ) (es : List (Option ℕ)) (xs : List Time) → AllDown m xs → entries_match y es (map (taken_off m) xs) ≡ true → Fits m y es xs
fits_from m y [] [] d h = tt
fits_from m y [] (a ∷ xs) d h = absurd (cc)
fits_from m y (e ∷ es) [] d h = absurd (cc)
fits_from m y (Some e ∷ es) (a ∷ xs) d h =
    let p = and_parts (entry_matches y (Some e) (taken_off m a)) (entries_match y es (map (taken_off m) xs)) h in
    (at a d.0 p.0, fits_from m y es xs d.1 p.1)
  where
    at : (a : Time) → Down m a → entry_matches y (Some e) (taken_off m a) ≡ true → a ≡ At (m + e)
    at (At u) down g = let same : u - m ≡ e = grind (arith, nat_tests) in let k : u ≡ m + e = omega (arith, same, down) in ap At k
    at Never down g = absurd (cc)
fits_from m y (None ∷ es) (a ∷ xs) d h =
    let p = and_parts (entry_matches y None (taken_off m a)) (entries_match y es (map (taken_off m) xs)) h in
    (later a d.0 p.0, fits_from m y es xs d.1 p.1)
  where
    later : (a : Time) → Down m a → entry_matches y None (taken_off m a) ≡ true → IsLater (m + y) a
    later (At u) down g = let less : y < u - m = grind (arith, nat_tests) in omega (arith, less, down)
    later Never down g = tt

fits_to : (m y : ℕ) (es : List (Option ℕ)) (xs : List Time) → Fits m y es xs → entries_match y es (map (taken_off m) xs) ≡ true
fits_to m y [] [] f = refl
fits_to m y [] (a ∷ xs) f = absurd f
fits_to m y (None ∷ es) [] f = absurd f
fits_to m y (Some e ∷ es) [] f = absurd f
fits_to m y (Some e ∷ es) (a ∷ xs) f = and_from _ _ (ap (λ z. entry_matches y (Some e) (taken_off m z)) f.0 ∙ same) (fits_to m y es xs f.1)
  where
    same : (m + e - m == e) ≡ true
    same = grind (arith, nat_tests)
fits_to m y (None ∷ es) (a ∷ xs) f = and_from _ _ (later a f.0) (fits_to m y es xs f.1)
  where
    later : (a : Time) → IsLater (m + y) a → entry_matches y None (taken_off m a) ≡ true
    later (At u) g = grind (arith, nat_tests)
    later Never g = refl

abbrev AllUpToRow : ℕ → List (Option ℕ) → Type 0
AllUpToRow y es = AllByRecursion (IsUpTo y) es

numbers_at : (m y : ℕ) (es : List (Option ℕ)) (xs : List Time) → AllUpToRow y es → Fits m y es xs → AllAt (m + y) (number_times y es xs)
numbers_at m y [] [] u f = tt
numbers_at m y [] (a ∷ xs) u f = absurd f
numbers_at m y (None ∷ es) [] u f = absurd f
numbers_at m y (Some e ∷ es) [] u f = absurd f
numbers_at m y (None ∷ es) (a ∷ xs) u f = numbers_at m y es xs u.1 f.1
numbers_at m y (Some e ∷ es) (a ∷ xs) u f =
    (ap (λ z. time_inc z (y - e)) f.0 ∙ (let k : m + e + (y - e) ≡ m + y = omega (arith, u.0) in ap At k), numbers_at m y es xs u.1 f.1)

dashes_later : (m y : ℕ) (es : List (Option ℕ)) (xs : List Time) → Fits m y es xs → AllLater (m + y) (dash_times es xs)
dashes_later m y [] [] f = tt
dashes_later m y [] (a ∷ xs) f = absurd f
dashes_later m y (None ∷ es) [] f = absurd f
dashes_later m y (Some e ∷ es) [] f = absurd f
dashes_later m y (None ∷ es) (a ∷ xs) f = (f.0, dashes_later m y es xs f.1)
dashes_later m y (Some e ∷ es) (a ∷ xs) f = dashes_later m y es xs f.1

some_number : (y : ℕ) (es : List (Option ℕ)) (xs : List Time) → length es ≡ length xs → list_any is_zero es ≡ true → number_times y es xs ≡ [] → ⊥
some_number y [] xs l z e = absurd (cc)
some_number y (None ∷ es) [] l z e = absurd (omega (arith, l))
some_number y (Some n ∷ es) [] l z e = absurd (omega (arith, l))
some_number y (None ∷ es) (a ∷ xs) l z e = some_number y es xs (omega (arith, l)) z e
some_number y (Some n ∷ es) (a ∷ xs) l z e = absurd (cc)

-- times that come together as the minterm does, fit
fits_of : (m y v : ℕ) (es : List (Option ℕ)) (xs : List Time) → v ≡ m + y → length es ≡ length xs → AllUpToRow y es → AllAt v (number_times y es xs) → AllLater v (dash_times es xs) → Fits m y es xs
fits_of m y v [] [] s l u f g = tt
fits_of m y v [] (a ∷ xs) s l u f g = absurd (omega (arith, l))
fits_of m y v (None ∷ es) [] s l u f g = absurd (omega (arith, l))
fits_of m y v (Some e ∷ es) [] s l u f g = absurd (omega (arith, l))
fits_of m y v (None ∷ es) (a ∷ xs) s l u f g = (subst (λ k. IsLater k a) s g.0, fits_of m y v es xs s (omega (arith, l)) u.1 f g.1)
fits_of m y v (Some e ∷ es) (a ∷ xs) s l u f g = (at a f.0, fits_of m y v es xs s (omega (arith, l)) u.1 f.1 g)
  where
    at : (a : Time) → time_inc a (y - e) ≡ At v → a ≡ At (m + e)
    at (At n) h = let k : n + (y - e) ≡ v = cc in let i : n ≡ m + e = omega (arith, k, s, u.0) in ap At i
    at Never h = absurd (cc)

-- an entry 0 comes by the output, so the time of all is no less
zero_first : (y v : ℕ) (es : List (Option ℕ)) (xs : List Time) → length es ≡ length xs → list_any is_zero es ≡ true → AllAt v (number_times y es xs) → y ≤ v
zero_first y v [] xs l z f = absurd (cc)
zero_first y v (None ∷ es) [] l z f = absurd (omega (arith, l))
zero_first y v (Some n ∷ es) [] l z f = absurd (omega (arith, l))
zero_first y v (None ∷ es) (a ∷ xs) l z f = zero_first y v es xs (omega (arith, l)) z f
zero_first y v (Some n ∷ es) (a ∷ xs) l z f = go (λ g. zero_first y v es xs (omega (arith, l)) g f.1) (n == 0) refl z
  where
    at : (a : Time) → time_inc a (y - n) ≡ At v → n ≡ 0 → y ≤ v
    at (At k) h e = let i : k + (y - n) ≡ v = cc in omega (arith, i, e)
    at Never h e = absurd (cc)

    go : (list_any is_zero es ≡ true → y ≤ v) → (b : Bool) → (n == 0) ≡ b → (b || list_any is_zero es) ≡ true → y ≤ v
    go rest true e g = at a f.0 (grind (arith, nat_tests))
    go rest false e g = rest g

down_min : (m : ℕ) (a b : Time) → Down m a → Down m b → Down m (time_min a b)
down_min m (At n) (At k) g h = go (cases_lt n k)
  where
    go : (n < k) ⊎ (k ≤ n) → m ≤ min n k
    go (inl l) = let e : min n k ≡ n = min-eq_left (omega (arith, l)) in omega (arith, e, g)
    go (inr l) = let e : min n k ≡ k = min-eq_right l in omega (arith, e, h)
down_min m (At n) Never g h = g
down_min m Never b g h = h

up_left : (m : ℕ) (a b : Time) → UpTo m a → UpTo m (time_min a b)
up_left m (At n) (At k) g = omega (arith, g, min-le_left n k)
up_left m (At n) Never g = g
up_left m Never b g = absurd g

up_right : (m : ℕ) (a b : Time) → UpTo m b → UpTo m (time_min a b)
up_right m (At n) (At k) g = omega (arith, g, min-le_right n k)
up_right m (At n) Never g = absurd g
up_right m Never b g = g

-- no time that fits is before m
fits_down : (m y : ℕ) (es : List (Option ℕ)) (xs : List Time) → Fits m y es xs → Down m (least xs)
fits_down m y [] [] f = tt
fits_down m y [] (a ∷ xs) f = absurd f
fits_down m y (None ∷ es) [] f = absurd f
fits_down m y (Some e ∷ es) [] f = absurd f
fits_down m y (None ∷ es) (a ∷ xs) f = down_min m a (least xs) (lower a f.0) (fits_down m y es xs f.1)
  where
    lower : (a : Time) → IsLater (m + y) a → Down m a
    lower (At n) g = omega (arith, g)
    lower Never g = tt
fits_down m y (Some e ∷ es) (a ∷ xs) f = down_min m a (least xs) (subst (Down m) (sym f.0) (omega arith)) (fits_down m y es xs f.1)

-- and one comes at m, where some entry is 0
fits_up : (m y : ℕ) (es : List (Option ℕ)) (xs : List Time) → list_any is_zero es ≡ true → Fits m y es xs → UpTo m (least xs)
fits_up m y [] xs z f = absurd (cc)
fits_up m y (None ∷ es) [] z f = absurd f
fits_up m y (Some e ∷ es) [] z f = absurd f
fits_up m y (None ∷ es) (a ∷ xs) z f = up_right m a (least xs) (fits_up m y es xs z f.1)
fits_up m y (Some e ∷ es) (a ∷ xs) z f = go (λ g. fits_up m y es xs g f.1) (e == 0) refl z
  where
    go : (list_any is_zero es ≡ true → UpTo m (least xs)) → (b : Bool) → (e == 0) ≡ b → (b || list_any is_zero es) ≡ true → UpTo m (time_min a (least xs))
    go rest true h g = let zero_entry : e ≡ 0 = grind (arith, nat_tests) in up_left m a (least xs) (subst (UpTo m) (sym f.0) (omega (arith, zero_entry)))
    go rest false h g = up_right m a (least xs) (rest g)

fits_least : (m y : ℕ) (es : List (Option ℕ)) (xs : List Time) → list_any is_zero es ≡ true → Fits m y es xs → least xs ≡ At m
fits_least m y es xs z f = between m m (least xs) (omega arith) (fits_up m y es xs z f) (fits_down m y es xs f)

-- ---- the time of a row

abbrev pub matched_time : ℕ → List (Option ℕ) → List Time → Time → Time
matched_time y es xs (At m) = if entries_match y es (map (taken_off m) xs) then At (m + y) else Never
matched_time y es xs Never = Never

abbrev pub minterm_time : ℕ → List (Option ℕ) → List Time → Time
minterm_time y es xs = before_times (together_times (number_times y es xs)) (dash_times es xs)

-- what the minterm's time says, where it is a number
minterm_fits : (y v : ℕ) (es : List (Option ℕ)) (xs : List Time) → length es ≡ length xs → AllUpToRow y es → list_any is_zero es ≡ true → minterm_time y es xs ≡ At v → Fits (v - y) y es xs × (y ≤ v)
minterm_fits y v es xs l u z h =
    let b = before_to (together_times (number_times y es xs)) (dash_times es xs) v h in
    let t = together_to (number_times y es xs) v b.0 in
    let le = zero_first y v es xs l z t.1 in
    (fits_of (v - y) y v es xs (omega (arith, le)) l u t.1 b.1, le)

minterm_at : (m y : ℕ) (es : List (Option ℕ)) (xs : List Time) → length es ≡ length xs → AllUpToRow y es → list_any is_zero es ≡ true → Fits m y es xs → minterm_time y es xs ≡ At (m + y)
minterm_at m y es xs l u z f =
    ap (λ t. before_times t (dash_times es xs)) (together_from (m + y) (number_times y es xs) (some_number y es xs l z) (numbers_at m y es xs u f))
    ∙ before_from (m + y) (dash_times es xs) (dashes_later m y es xs f)

pub row_is : (y : ℕ) (es : List (Option ℕ)) (xs : List Time) → length es ≡ length xs → AllUpToRow y es → list_any is_zero es ≡ true → minterm_time y es xs ≡ matched_time y es xs (least xs)
row_is y es xs l u z = go (least xs) refl (minterm_time y es xs) refl
  where
    fits : (v : ℕ) → minterm_time y es xs ≡ At v → Fits (v - y) y es xs × (y ≤ v)
    fits v h = minterm_fits y v es xs l u z h

    matched : (m v : ℕ) (b : Bool) → least xs ≡ At m → minterm_time y es xs ≡ At v → entries_match y es (map (taken_off m) xs) ≡ b → At v ≡ (if b then At (m + y) else Never)
    matched m v true e h g =
        let f = fits v h in
        let same : At m ≡ At (v - y) = sym e ∙ fits_least (v - y) y es xs z f.0 in
        let k : m ≡ v - y = cc in
        let w : v ≡ m + y = omega (arith, k, f.1) in
        ap At w
    matched m v false e h g =
        let f = fits v h in
        let same : At m ≡ At (v - y) = sym e ∙ fits_least (v - y) y es xs z f.0 in
        let k : m ≡ v - y = cc in
        let yes_it_does : entries_match y es (map (taken_off m) xs) ≡ true = ap (λ i. entries_match y es (map (taken_off i) xs)) k ∙ fits_to (v - y) y es xs f.0 in
        absurd (true≢false (sym yes_it_does ∙ g))

    never : (m : ℕ) (b : Bool) → least xs ≡ At m → minterm_time y es xs ≡ Never → entries_match y es (map (taken_off m) xs) ≡ b → Never ≡ (if b then At (m + y) else Never)
    never m true e h g =
        let f = fits_from m y es xs (least_down xs m (subst (Down m) (sym e) (omega arith))) g in
        sym h ∙ minterm_at m y es xs l u z f
    never m false e h g = refl

    go : (t : Time) → least xs ≡ t → (r : Time) → minterm_time y es xs ≡ r → minterm_time y es xs ≡ matched_time y es xs (least xs)
    go (At m) e (At v) h = h ∙ (matched m v (entries_match y es (map (taken_off m) xs)) e h refl ∙ ap (matched_time y es xs) (sym e))
    go (At m) e Never h = h ∙ (never m (entries_match y es (map (taken_off m) xs)) e h refl ∙ ap (matched_time y es xs) (sym e))
    go Never e (At v) h = let f = fits v h in absurd (let same : Never ≡ At (v - y) = sym e ∙ fits_least (v - y) y es xs z f.0 in cc)
    go Never e Never h = h ∙ ap (matched_time y es xs) (sym e)
