-- The walk through the lists of a window, as far as a loop has come.
use Rattle.std.proofs.Common.{◌≡◌, ℕ, suc, ◌+◌, ◌-◌, ◌≤◌, ◌<◌, Bool, true, false, List, [], ◌∷◌, ◌++◌, length, map, take, drop, get_or, set, refl, ap, sym, ◌∙◌, subst, arith, Result, Ok, Err, append_assoc, length-append}
use Rattle.std.specs.Prelude.{nat_le, if◌then◌else◌}
use Rattle.std.specs.List.{flat_map, range_with_len}
use Rattle.std.proofs.lemmas.Bool.Decides.{nat_tests}
use Rattle.std.proofs.lemmas.List.{take_more, take_all, take_more_set, take-take, take-set, length-set, map-id, map-append, length-map, append-nil, take-append-drop, get_or-map, get_or_append_left, get_or_at}
use Rattle.std.proofs.lemmas.List.FromFn.{length-range_with_len, get_or-range_with_len}
use Rattle.rl_time.specs.declared.time.Time.{Time}
use Rattle.rl_time.specs.declared.time.Time.TheVariants.{At, Never}
use Rattle.func_table.specs.Table.{Row}
use Rattle.causality.specs.declared.fault.TabError.{TabError}
use Rattle.causality.specs.declared.fault.TabError.TheVariants as error
use Rattle.causality.specs.Window.{window_times, time_lists}
use Rattle.causality.specs.Walk.{IsWithin, window_time, visited, and_then, walked, behind, Gives}

-- the lists that begin with these times, then one of the first of the window, and then any
abbrev pub begun : ℕ → ℕ → List Time → ℕ → List (List Time)
begun w left front step = flat_map (λ a. behind (front ++ a ∷ []) (time_lists w left)) (take step (window_times w))

-- ---- the times of a window

many_times : (w : ℕ) → length (window_times w) ≡ w + 2
many_times w = length-append (map At (range_with_len 0 (w + 1))) (Never ∷ []) ∙ (ap (λ k. k + 1) (length-map (range_with_len 0 (w + 1)) At ∙ length-range_with_len 0 (w + 1)) ∙ omega arith)

number_at : (w step : ℕ) → step ≤ w → get_or (window_times w) step Never ≡ At step
number_at w step le =
    let many : length (map At (range_with_len 0 (w + 1))) ≡ w + 1 = length-map (range_with_len 0 (w + 1)) At ∙ length-range_with_len 0 (w + 1) in
    get_or_append_left (map At (range_with_len 0 (w + 1))) (Never ∷ []) Never step (omega (arith, many, le))
    ∙ (get_or-map At (range_with_len 0 (w + 1)) step 0 Never (omega (arith, le, length-range_with_len 0 (w + 1)))
    ∙ ap At (get_or-range_with_len 0 (w + 1) step 0 (omega (arith, le)) ∙ omega arith))

last_at : (w : ℕ) → get_or (window_times w) (w + 1) Never ≡ Never
last_at w = get_or_at (map At (range_with_len 0 (w + 1))) Never [] Never (w + 1) (length-map (range_with_len 0 (w + 1)) At ∙ length-range_with_len 0 (w + 1))

time_at_step : (w step : ℕ) → step < w + 2 → get_or (window_times w) step Never ≡ window_time w step
time_at_step w step lt = go (nat_le step w) refl
  where
    go : (b : Bool) → nat_le step w ≡ b → get_or (window_times w) step Never ≡ (if b then At step else Never)
    go true e = number_at w step (grind (arith, nat_tests))
    go false e = let k : step ≡ w + 1 = grind (arith, nat_tests) in subst (λ i. get_or (window_times w) i Never ≡ Never) (sym k) (last_at w)

pub within_step : (w step : ℕ) → IsWithin w (window_time w step)
within_step w step = go (nat_le step w) refl
  where
    go : (b : Bool) → nat_le step w ≡ b → IsWithin w (if b then At step else Never)
    go true e = grind (arith, nat_tests)
    go false e = tt

-- ---- the lists

flat_map_append : {X Y : Type 0} (f : X → List Y) (xs ys : List X) → flat_map f (xs ++ ys) ≡ flat_map f xs ++ flat_map f ys
flat_map_append f [] ys = refl
flat_map_append f (x ∷ xs) ys = ap (λ l. f x ++ l) (flat_map_append f xs ys) ∙ sym (append_assoc (f x) (flat_map f xs) (flat_map f ys))

pub begun_more : (w left step : ℕ) (front : List Time) → step < w + 2 → begun w left front (step + 1) ≡ begun w left front step ++ behind (front ++ window_time w step ∷ []) (time_lists w left)
begun_more w left step front lt =
    let f = λ (a : Time). behind (front ++ a ∷ []) (time_lists w left) in
    ap (flat_map f) (take_more (window_times w) step Never (omega (arith, lt, many_times w)) ∙ ap (λ a. take step (window_times w) ++ a ∷ []) (time_at_step w step lt))
    ∙ (flat_map_append f (take step (window_times w)) (window_time w step ∷ []) ∙ ap (λ l. begun w left front step ++ l) (append-nil (f (window_time w step))))

behind_one : (front : List Time) (a : Time) (vs : List (List Time)) → behind front (map (λ v. a ∷ v) vs) ≡ behind (front ++ a ∷ []) vs
behind_one front a [] = refl
behind_one front a (v ∷ vs) = ap (λ l. l ∷ behind front (map (λ v. a ∷ v) vs)) (sym (append_assoc front (a ∷ []) v)) ∙ ap (λ ls. ((front ++ a ∷ []) ++ v) ∷ ls) (behind_one front a vs)

behind_all : (front : List Time) (vs : List (List Time)) (ts : List Time) → behind front (flat_map (λ a. map (λ v. a ∷ v) vs) ts) ≡ flat_map (λ a. behind (front ++ a ∷ []) vs) ts
behind_all front vs [] = refl
behind_all front vs (t ∷ ts) =
    map-append (λ v. front ++ v) (map (λ v. t ∷ v) vs) (flat_map (λ a. map (λ v. a ∷ v) vs) ts)
    ∙ (ap (λ l. l ++ behind front (flat_map (λ a. map (λ v. a ∷ v) vs) ts)) (behind_one front t vs) ∙ ap (λ l. behind (front ++ t ∷ []) vs ++ l) (behind_all front vs ts))

pub begun_all : (w left : ℕ) (front : List Time) → behind front (time_lists w (suc left)) ≡ begun w left front (w + 2)
begun_all w left front =
    behind_all front (time_lists w left) (window_times w)
    ∙ ap (flat_map (λ a. behind (front ++ a ∷ []) (time_lists w left))) (sym (take_all (w + 2) (window_times w) (omega (arith, many_times w))))

begun_split : (w left step : ℕ) (front : List Time) → behind front (time_lists w (suc left)) ≡ begun w left front step ++ flat_map (λ a. behind (front ++ a ∷ []) (time_lists w left)) (drop step (window_times w))
begun_split w left step front =
    let f = λ (a : Time). behind (front ++ a ∷ []) (time_lists w left) in
    behind_all front (time_lists w left) (window_times w)
    ∙ (ap (flat_map f) (sym (take-append-drop step (window_times w))) ∙ flat_map_append f (take step (window_times w)) (drop step (window_times w)))

-- ---- the walk

walked_append : (f : List Time → Time) (w : ℕ) (rows : List Row) (us vs : List (List Time)) → walked f w rows (us ++ vs) ≡ and_then (walked f w rows us) (λ more. walked f w more vs)
walked_append f w rows [] vs = refl
walked_append f w rows (u ∷ us) vs = go (visited f w rows u) (λ more. walked_append f w more us vs)
  where
    go : (r : Result (List Row) ℕ) → ((more : List Row) → walked f w more (us ++ vs) ≡ and_then (walked f w more us) (λ z. walked f w z vs)) →
        and_then r (λ more. walked f w more (us ++ vs)) ≡ and_then (and_then r (λ more. walked f w more us)) (λ z. walked f w z vs)
    go (Ok more) rest = rest more
    go (Err y) rest = refl

-- one time more
pub walked_more : (f : List Time → Time) (w left step : ℕ) (front : List Time) (start rows : List Row) → step < w + 2 → walked f w start (begun w left front step) ≡ Ok rows →
    walked f w start (begun w left front (step + 1)) ≡ walked f w rows (behind (front ++ window_time w step ∷ []) (time_lists w left))
walked_more f w left step front start rows lt h =
    let here = behind (front ++ window_time w step ∷ []) (time_lists w left) in
    ap (walked f w start) (begun_more w left step front lt)
    ∙ (walked_append f w start (begun w left front step) here ∙ ap (λ r. and_then r (λ more. walked f w more here)) h)

-- a late value ends the walk
pub walked_late : (f : List Time → Time) (w left step y : ℕ) (front : List Time) (start : List Row) → walked f w start (begun w left front step) ≡ Err y →
    walked f w start (behind front (time_lists w (suc left))) ≡ Err y
walked_late f w left step y front start h =
    let rest = flat_map (λ a. behind (front ++ a ∷ []) (time_lists w left)) (drop step (window_times w)) in
    ap (walked f w start) (begun_split w left step front)
    ∙ (walked_append f w start (begun w left front step) rest ∙ ap (λ r. and_then r (λ more. walked f w more rest)) h)

-- ---- the list in place

pub front_more : (xs : List Time) (place : ℕ) (a : Time) (front : List Time) → place < length xs → take place xs ≡ front → take (place + 1) (set xs place a) ≡ front ++ a ∷ []
front_more xs place a front lt h = take_more_set xs place a lt ∙ ap (λ l. l ++ a ∷ []) h

-- ---- the goals of the loop

left_more : (xs : List Time) (place : ℕ) → place < length xs → length xs - place ≡ suc (length xs - (place + 1))
left_more xs place lt = omega (arith, lt)

pub walk_step : (f g : List Time → Time) (w place step : ℕ) (first xs : List Time) (start rows : List Row) (a : Time) → place < length first → step < w + 2 → take place xs ≡ take place first → length xs ≡ length first → a ≡ window_time w step → g ≡ f →
    walked f w start (begun w (length first - (place + 1)) (take place first) step) ≡ Ok rows →
    walked f w start (begun w (length first - (place + 1)) (take place first) (step + 1)) ≡ walked g w rows (behind (take (place + 1) (set xs place a)) (time_lists w (length (set xs place a) - (place + 1))))
walk_step f g w place step first xs start rows a lt small front many is same_function h =
    let left = length first - (place + 1) in
    let same : length first - (place + 1) ≡ length (set xs place a) - (place + 1) = ap (λ k. k - (place + 1)) (sym (length-set xs place a ∙ many)) in
    let fronts : take place first ++ window_time w step ∷ [] ≡ take (place + 1) (set xs place a) = ap (λ t. take place first ++ t ∷ []) (sym is) ∙ sym (front_more xs place a (take place first) (omega (arith, lt, many)) front) in
    walked_more f w left step (take place first) start rows small h
    ∙ (ap (λ l. walked f w rows (behind l (time_lists w left))) fronts ∙ ap (λ k. walked f w rows (behind (take (place + 1) (set xs place a)) (time_lists w k))) same
    ∙ ap (λ (h : List Time → Time). walked h w rows (behind (take (place + 1) (set xs place a)) (time_lists w (length (set xs place a) - (place + 1))))) (sym same_function))

pub walk_end : (f : List Time → Time) (w place step : ℕ) (first : List Time) (start rows : List Row) → place < length first → step ≡ w + 2 → walked f w start (begun w (length first - (place + 1)) (take place first) step) ≡ Ok rows →
    walked f w start (behind (take place first) (time_lists w (length first - place))) ≡ Ok rows
walk_end f w place step first start rows lt e h =
    ap (λ k. walked f w start (behind (take place first) (time_lists w k))) (left_more first place lt)
    ∙ (ap (walked f w start) (begun_all w (length first - (place + 1)) (take place first))
    ∙ (ap (λ k. walked f w start (begun w (length first - (place + 1)) (take place first) k)) (sym e) ∙ h))

pub walk_refused : (f : List Time → Time) (w place step : ℕ) (first : List Time) (start new : List Row) (told : Result (List Row) ℕ) (e : TabError) → place < length first →
    walked f w start (begun w (length first - (place + 1)) (take place first) (step + 1)) ≡ told → Gives told new (Err e) →
    Gives (walked f w start (behind (take place first) (time_lists w (length first - place)))) new (Err e)
walk_refused f w place step first start new told (error.TooLate y) lt h g =
    ap (λ k. walked f w start (behind (take place first) (time_lists w k))) (left_more first place lt)
    ∙ walked_late f w (length first - (place + 1)) (step + 1) y (take place first) start (h ∙ g)
walk_refused f w place step first start new told error.TooWide lt h g = g
walk_refused f w place step first start new told error.TooManyRows lt h g = g
walk_refused f w place step first start new told error.NoMemory lt h g = tt

pub front_stays : (place : ℕ) (first xs new : List Time) (a : Time) → take place xs ≡ take place first → take (place + 1) new ≡ take (place + 1) (set xs place a) → take place new ≡ take place first
front_stays place first xs new a front h =
    sym (take-take place (place + 1) new (omega arith)) ∙ (ap (take place) h ∙ (take-take place (place + 1) (set xs place a) (omega arith) ∙ (take-set xs place a ∙ front)))

and_then_ok : (r : Result (List Row) ℕ) → and_then r (λ more. Ok more) ≡ r
and_then_ok (Ok rows) = refl
and_then_ok (Err y) = refl

-- past the last place there is one list
pub walk_last : (f : List Time → Time) (w place : ℕ) (xs : List Time) (rows new : List Row) (r : Result (Unit {0}) TabError) → place ≡ length xs → Gives (visited f w rows xs) new r →
    Gives (walked f w rows (behind (take place xs) (time_lists w (length xs - place)))) new r
walk_last f w place xs rows new r e g =
    let none : length xs - place ≡ 0 = omega (arith, e) in
    let whole : take place xs ++ [] ≡ xs = append-nil (take place xs) ∙ take_all place xs (omega (arith, e)) in
    let same : walked f w rows (behind (take place xs) (time_lists w (length xs - place))) ≡ visited f w rows xs =
    ap (λ k. walked f w rows (behind (take place xs) (time_lists w k))) none ∙ (and_then_ok (visited f w rows (take place xs ++ [])) ∙ ap (visited f w rows) whole)
    in
    subst (λ told. Gives told new r) (sym same) g

-- ---- from the first place on

pub whole : (f : List Time → Time) (w n : ℕ) (rows : List Row) (xs : List Time) → rows ≡ [] → length xs ≡ n → walked f w rows (behind (take 0 xs) (time_lists w (length xs - 0))) ≡ walked f w [] (time_lists w n)
whole f w n rows xs e l =
    let k : length xs - 0 ≡ n = omega (arith, l) in
    ap (λ r. walked f w r (behind [] (time_lists w (length xs - 0)))) e ∙ (ap (λ i. walked f w [] (behind [] (time_lists w i))) k ∙ ap (walked f w []) (map-id (time_lists w n)))

pub refused_whole : (f : List Time → Time) (w n : ℕ) (rows new : List Row) (xs : List Time) (e : TabError) → rows ≡ [] → length xs ≡ n → Gives (walked f w rows (behind (take 0 xs) (time_lists w (length xs - 0)))) new (Err e) → Gives (walked f w [] (time_lists w n)) [] (Err e)
refused_whole f w n rows new xs (error.TooLate y) r l g = sym (whole f w n rows xs r l) ∙ g
refused_whole f w n rows new xs error.TooWide r l g = g
refused_whole f w n rows new xs error.TooManyRows r l g = g
refused_whole f w n rows new xs error.NoMemory r l g = tt
