-- The rows of a window are sound, and their function is the one that they are taken of.
use Rattle.std.proofs.Common.{◌≡◌, ℕ, zero, suc, ◌+◌, ◌-◌, ◌≤◌, ◌<◌, ◌^◌, Bool, true, false, cond, true≢false, List, [], ◌∷◌, ◌++◌, length, map, get_or, refl, ap, sym, ◌∙◌, subst, arith, Option, Some, None, Ok, Err, inl, inr, append_assoc}
use Rattle.std.specs.Prelude.{◌⊎◌, ◌||◌, not, nat_le, fold, slice_get, slice_index_or, if◌then◌else◌, All}
use Rattle.std.specs.List.{list_any, list_all, find, flat_map, AllByRecursion}
use Rattle.std.specs.Str.{bytes_eq}
use Rattle.std.proofs.Math.Nat.{pow-le-pow_left, pow-le-pow_right}
use Rattle.std.proofs.lemmas.Bool.{and_parts, and_from, or_right, cases_lt}
use Rattle.std.proofs.lemmas.Bool.Decides.{nat_tests}
use Rattle.std.proofs.lemmas.List.{length-map}
use Rattle.std.proofs.lemmas.List.Elements.{All-from_recursion}
use Rattle.std.proofs.lemmas.Option.{slice_get_within}
use Rattle.rl_time.specs.declared.time.Time.{Time}
use Rattle.rl_time.specs.declared.time.Time.TheVariants.{At, Never}
use Rattle.net_model.specs.Formula.{Equation, Net}
use Rattle.net_model.specs.Rules.{is_port_name, are_distinct, names_of, IsNetwork}
use Rattle.func_table.specs.Table.{Row, table}
use Rattle.func_table.specs.Rules.{IsUpTo, IsRow, IsTable}
use Rattle.func_table.specs.Function.{least, taken_off, table_function}
use Rattle.func_table.specs.Sound.{is_zero, IsInOrder, Conflict, AreSound}
use Rattle.spike_eval.specs.Causal.{IsAfter, AllAgree, IsCausal}
use Rattle.causality.specs.Window.{is_start, window_lists, entry_at, row_at, rows_at, same_row, with_row, window_rows, is_late, first_late, IsInReach}
use Rattle.causality.proofs.Fitting.{Fits, met, matched, least_is}
use Rattle.causality.proofs.Places.{same_rows}
use Rattle.causality.proofs.Following.{same_early, RowsDecide, hit}
use Rattle.causality.proofs.Following.{row_at as row_of_place}
use Rattle.causality.proofs.Faulting.{all_push, at_push}
use Rattle.causality.proofs.Order.{Member, member_left, member_right, member_flat, all_member, IsListOf, all_window, all_start}
use Rattle.causality.proofs.Lowering.{agree_more, agree_none, entry_low}
use Rattle.causality.specs.declared.fault.TabError.{TabError}
use Rattle.causality.specs.declared.fault.TabError.TheVariants as error
use Rattle.causality.specs.Window.{time_lists, IsCause}
use Rattle.causality.specs.Walk.{walked, Gives}
use Rattle.causality.proofs.Once.{row_is, row_same, any_member, walk_rows, walk_late}

-- ---- names

name_at : (es : List Equation) (k : ℕ) (e : Equation) → k < length es → e ≡ get_or es k e → e.name ≡ slice_index_or (names_of es) k []
name_at [] k e lt h = absurd (omega (arith, lt))
name_at (d ∷ es) zero e lt h = ap (λ x. x.name) h
name_at (d ∷ es) (suc k) e lt h = name_at es k e (omega (arith, lt)) h

pub name_there : (os es : List Equation) (k : ℕ) (e : Equation) → os ≡ es → e ≡ get_or os k e → k < length es → e.name ≡ slice_index_or (names_of es) k []
name_there os es k e same h lt = name_at es k e lt (subst (λ l. e ≡ get_or l k e) same h)

any_more : (p : List ℕ → Bool) (xs ys : List (List ℕ)) → ((y : List ℕ) → Member y ys → Member y xs) → list_any p xs ≡ false → list_any p ys ≡ false
any_more p xs [] sub h = refl
any_more p xs (y ∷ ys) sub h = go (p y) refl (any_more p xs ys (λ z m. sub z (inr m)) h)
  where
    found : (zs : List (List ℕ)) → Member y zs → p y ≡ true → list_any p zs ≡ true
    found [] m e = absurd m
    found (z ∷ zs) (inl k) e = ap (λ (b : Bool). b || list_any p zs) (ap p k ∙ e)
    found (z ∷ zs) (inr m) e = or_right (p z) (list_any p zs) (found zs m e)

    go : (b : Bool) → p y ≡ b → list_any p ys ≡ false → (b || list_any p ys) ≡ false
    go true e k = absurd (true≢false (sym (found xs (sub y (inl refl)) e) ∙ h))
    go false e k = k

not_true : (b : Bool) → not b ≡ true → b ≡ false
not_true true h = absurd (cc)
not_true false h = refl

distinct_with : (xs ys : List (List ℕ)) (o : List ℕ) → Member o ys → are_distinct (xs ++ ys) ≡ true → are_distinct (xs ++ o ∷ []) ≡ true
distinct_with [] ys o m h = refl
distinct_with (x ∷ xs) ys o m h =
    let p = and_parts (not (list_any (bytes_eq x) (xs ++ ys))) (are_distinct (xs ++ ys)) h in
    let none : list_any (bytes_eq x) (xs ++ o ∷ []) ≡ false = any_more (bytes_eq x) (xs ++ ys) (xs ++ o ∷ []) (within xs) (not_true (list_any (bytes_eq x) (xs ++ ys)) p.0) in
    and_from _ _ (ap not none) (distinct_with xs ys o m p.1)
  where
    within : (zs : List (List ℕ)) (z : List ℕ) → Member z (zs ++ o ∷ []) → Member z (zs ++ ys)
    within [] z (inl e) = subst (λ a. Member a ys) e m
    within [] z (inr k) = absurd k
    within (a ∷ zs) z (inl e) = inl e
    within (a ∷ zs) z (inr k) = inr (within zs z k)

all_with : (p : List ℕ → Bool) (xs : List (List ℕ)) (o : List ℕ) → list_all p xs ≡ true → p o ≡ true → list_all p (xs ++ o ∷ []) ≡ true
all_with p [] o h k = and_from _ _ k refl
all_with p (x ∷ xs) o h k = let q = and_parts (p x) (list_all p xs) h in and_from _ _ q.0 (all_with p xs o q.1 k)

all_here : (p : List ℕ → Bool) (xs : List (List ℕ)) (o : List ℕ) → list_all p xs ≡ true → Member o xs → p o ≡ true
all_here p [] o h m = absurd m
all_here p (x ∷ xs) o h (inl e) = let q = and_parts (p x) (list_all p xs) h in ap p (sym e) ∙ q.0
all_here p (x ∷ xs) o h (inr m) = let q = and_parts (p x) (list_all p xs) h in all_here p xs o q.1 m

name_member : (es : List Equation) (k : ℕ) → k < length es → Member (slice_index_or (names_of es) k []) (names_of es)
name_member [] k lt = absurd (omega (arith, lt))
name_member (e ∷ es) zero lt = inl refl
name_member (e ∷ es) (suc k) lt = inr (name_member es k (omega (arith, lt)))

-- ---- the rows of some lists, each once

with_member : (rows : List Row) (r s : Row) → Member s rows → Member s (with_row rows r)
with_member rows r s m = go (list_any (same_row r) rows)
  where
    go : (b : Bool) → Member s (cond b rows (rows ++ r ∷ []))
    go true = m
    go false = member_left s rows (r ∷ []) m

with_itself : (rows : List Row) (r : Row) → Member r (with_row rows r)
with_itself rows r = go (list_any (same_row r) rows) refl
  where
    go : (b : Bool) → list_any (same_row r) rows ≡ b → Member r (cond b rows (rows ++ r ∷ []))
    go true e = let q = any_member (same_row r) rows e in subst (λ s. Member s rows) (sym (row_is r q.0 q.2)) q.1
    go false e = member_right r rows (r ∷ []) (inl refl)

kept_member : (rows more : List Row) (s : Row) → Member s rows → Member s (fold with_row rows more)
kept_member rows [] s m = m
kept_member rows (r ∷ more) s m = kept_member (with_row rows r) more s (with_member rows r s m)

new_member : (rows more : List Row) (s : Row) → Member s more → Member s (fold with_row rows more)
new_member rows [] s m = absurd m
new_member rows (r ∷ more) s (inl e) = kept_member (with_row rows r) more s (subst (λ z. Member z (with_row rows r)) e (with_itself rows r))
new_member rows (r ∷ more) s (inr m) = new_member (with_row rows r) more s m

all_with_row : (P : Row → Type 0) (rows : List Row) (r : Row) → AllByRecursion P rows → P r → AllByRecursion P (with_row rows r)
all_with_row P rows r h p = go (list_any (same_row r) rows)
  where
    go : (b : Bool) → AllByRecursion P (cond b rows (rows ++ r ∷ []))
    go true = h
    go false = all_push P rows r h p

all_kept : (P : Row → Type 0) (rows more : List Row) → AllByRecursion P rows → AllByRecursion P more → AllByRecursion P (fold with_row rows more)
all_kept P rows [] h k = h
all_kept P rows (r ∷ more) h k = all_kept P (with_row rows r) more (all_with_row P rows r h k.0) k.1

-- no two rows are the same
abbrev Apart : List Row → Type 0
Apart rows = (i j : ℕ) (r s : Row) → i < j → slice_get rows i ≡ Some r → slice_get rows j ≡ Some s → r ≡ s → ⊥

place_member : (rows : List Row) (i : ℕ) (r : Row) → slice_get rows i ≡ Some r → Member r rows
place_member [] i r h = absurd (cc)
place_member (s ∷ rows) zero r h = let e : s ≡ r = cc in inl e
place_member (s ∷ rows) (suc i) r h = inr (place_member rows i r h)

pub member_place : (rows : List Row) (r : Row) → Member r rows → (i : ℕ) × (slice_get rows i ≡ Some r)
member_place [] r m = absurd m
member_place (s ∷ rows) r (inl e) = (0, ap (λ z. Some z) e)
member_place (s ∷ rows) r (inr m) = let q = member_place rows r m in (suc q.0, q.1)

none_same : (rows : List Row) (r s : Row) → list_any (same_row r) rows ≡ false → Member s rows → r ≡ s → ⊥
none_same [] r s h m e = m
none_same (z ∷ rows) r s h m e = go (same_row r z) refl h m (none_same rows r s)
  where
    go : (b : Bool) → same_row r z ≡ b → (b || list_any (same_row r) rows) ≡ false → Member s (z ∷ rows) → (list_any (same_row r) rows ≡ false → Member s rows → r ≡ s → ⊥) → ⊥
    go true k g n rest = true≢false g
    go false k g (inl d) rest = true≢false (sym (row_same r z (e ∙ sym d)) ∙ k)
    go false k g (inr n) rest = rest g n e

apart_with : (rows : List Row) (r : Row) → Apart rows → Apart (with_row rows r)
apart_with rows r apart = go (list_any (same_row r) rows) refl
  where
    pushed : list_any (same_row r) rows ≡ false → (i j : ℕ) (p q : Row) → i < j → (slice_get rows i ≡ Some p) ⊎ ((i ≡ length rows) × (r ≡ p)) → (slice_get rows j ≡ Some q) ⊎ ((j ≡ length rows) × (r ≡ q)) → p ≡ q → ⊥
    pushed h i j p q l (inl a) (inl b) e = apart i j p q l a b e
    pushed h i j p q l (inl a) (inr b) e = none_same rows r p h (place_member rows i p a) (b.1 ∙ sym e)
    pushed h i j p q l (inr a) (inl b) e = let k = slice_get_within rows j q b in let d = a.0 in omega (arith, k, d, l)
    pushed h i j p q l (inr a) (inr b) e = let k = b.0 in let d = a.0 in omega (arith, k, d, l)

    go : (b : Bool) → list_any (same_row r) rows ≡ b → Apart (cond b rows (rows ++ r ∷ []))
    go true h = apart
    go false h = λ i j p q l a b e. pushed h i j p q l (at_push rows r i p a) (at_push rows r j q b) e

apart_kept : (rows more : List Row) → Apart rows → Apart (fold with_row rows more)
apart_kept rows [] h = h
apart_kept rows (r ∷ more) h = apart_kept (with_row rows r) more (apart_with rows r h)

-- ---- the row of a list

row_fits : (y : ℕ) (v : List Time) → Fits 0 y (map (entry_at y) v) v
row_fits y [] = tt
row_fits y (At n ∷ v) = go (nat_le n y) refl (row_fits y v)
  where
    go : (b : Bool) → nat_le n y ≡ b → Fits 0 y (map (entry_at y) v) v → Fits 0 y ((if b then Some n else None) ∷ map (entry_at y) v) (At n ∷ v)
    go true e h = let k : n ≡ 0 + n = omega arith in (ap At k, h)
    go false e h = let k : y < n = grind (arith, nat_tests) in let l : 0 + y < n = omega (arith, k) in (l, h)
row_fits y (Never ∷ v) = (tt, row_fits y v)

row_low : (y : ℕ) (v : List Time) → AllByRecursion (IsUpTo y) (map (entry_at y) v)
row_low y [] = tt
row_low y (At n ∷ v) = go (nat_le n y) refl (row_low y v)
  where
    go : (b : Bool) → nat_le n y ≡ b → AllByRecursion (IsUpTo y) (map (entry_at y) v) → AllByRecursion (IsUpTo y) ((if b then Some n else None) ∷ map (entry_at y) v)
    go true e h = (grind (arith, nat_tests), h)
    go false e h = (tt, h)
row_low y (Never ∷ v) = (tt, row_low y v)

start_entry : (y : ℕ) (a : Time) → is_start a ≡ true → is_zero (entry_at y a) ≡ true
start_entry y (At n) h =
    let e : n ≡ 0 = grind (arith, nat_tests) in
    ap is_zero (entry_low y n (omega (arith, e))) ∙ h
start_entry y Never h = absurd (cc)

row_zero : (y : ℕ) (v : List Time) → list_any is_start v ≡ true → list_any is_zero (map (entry_at y) v) ≡ true
row_zero y [] h = absurd (cc)
row_zero y (a ∷ v) h = go (is_start a) refl h (row_zero y v)
  where
    go : (b : Bool) → is_start a ≡ b → (b || list_any is_start v) ≡ true → (list_any is_start v ≡ true → list_any is_zero (map (entry_at y) v) ≡ true) → (is_zero (entry_at y a) || list_any is_zero (map (entry_at y) v)) ≡ true
    go true e g rest = ap (λ (b : Bool). b || list_any is_zero (map (entry_at y) v)) (start_entry y a e)
    go false e g rest = or_right (is_zero (entry_at y a)) (list_any is_zero (map (entry_at y) v)) (rest g)

row_in_order : (y : ℕ) (v : List Time) → list_any is_start v ≡ true → IsInOrder (row_at y v)
row_in_order y v h = record { some_zero = row_zero y v h; none_greater = row_low y v }

-- times that fit the row of a list are alike up to the row's output
off_at : (m n : ℕ) (x : Time) → x ≡ At (m + n) → taken_off m x ≡ At n
off_at m n x e = ap (taken_off m) e ∙ (let k : m + n - m ≡ n = omega arith in ap At k)

off_after : (m y : ℕ) (x : Time) → IsAfter (m + y) x → IsAfter y (taken_off m x)
off_after m y (At n) h = omega (arith, h)
off_after m y Never h = tt

alike : (m y : ℕ) (u x : List Time) → Fits m y (map (entry_at y) u) x → AllAgree y u (map (taken_off m) x)
alike m y [] [] h = agree_none y
alike m y [] (b ∷ x) h = absurd h
alike m y (At n ∷ u) [] h = absurd (empty (nat_le n y) h)
  where
    empty : (b : Bool) → Fits m y ((if b then Some n else None) ∷ map (entry_at y) u) [] → ⊥
    empty true k = k
    empty false k = k
alike m y (Never ∷ u) [] h = absurd h
alike m y (At n ∷ u) (b ∷ x) h = go (nat_le n y) refl h (alike m y u x)
  where
    go : (c : Bool) → nat_le n y ≡ c → Fits m y ((if c then Some n else None) ∷ map (entry_at y) u) (b ∷ x) → (Fits m y (map (entry_at y) u) x → AllAgree y u (map (taken_off m) x)) → AllAgree y (At n ∷ u) (map (taken_off m) (b ∷ x))
    go true e k rest = agree_more y (At n) (taken_off m b) u (map (taken_off m) x) (inl (sym (off_at m n b k.0))) (rest k.1)
    go false e k rest = agree_more y (At n) (taken_off m b) u (map (taken_off m) x) (let l : y < n = grind (arith, nat_tests) in inr (l, off_after m y b k.0)) (rest k.1)
alike m y (Never ∷ u) (b ∷ x) h = agree_more y Never (taken_off m b) u (map (taken_off m) x) (inr (tt, off_after m y b h.0)) (alike m y u x h.1)

least_start : (v : List Time) → list_any is_start v ≡ true → least v ≡ At 0
least_start v h = least_is (row_at 0 v) v 0 (row_in_order 0 v h) (row_fits 0 v)

none_off : (v : List Time) → map (taken_off 0) v ≡ v
none_off [] = refl
none_off (At n ∷ v) = let k : n - 0 ≡ n = omega arith in ap (λ z. At z ∷ map (taken_off 0) v) k ∙ ap (λ l. At n ∷ l) (none_off v)
none_off (Never ∷ v) = ap (λ l. Never ∷ l) (none_off v)

-- ---- the rows of the window

-- the list of the window that a row is of
pub record IsOfList (f : List Time → Time) (w n : ℕ) (r : Row) : Type 0 where
  pub list : List Time
  pub there : Member list (window_lists w n)
  pub value : f list ≡ At r.out
  pub is : r ≡ row_at r.out list

of_lists : (f : List Time → Time) (w n : ℕ) (vs : List (List Time)) → ((v : List Time) → Member v vs → Member v (window_lists w n)) → AllByRecursion (IsOfList f w n) (flat_map (λ v. rows_at (f v) v) vs)
of_lists f w n [] sub = tt
of_lists f w n (v ∷ vs) sub = go (f v) refl (of_lists f w n vs (λ u m. sub u (inr m)))
  where
    go : (t : Time) → f v ≡ t → AllByRecursion (IsOfList f w n) (flat_map (λ u. rows_at (f u) u) vs) → AllByRecursion (IsOfList f w n) (rows_at t v ++ flat_map (λ u. rows_at (f u) u) vs)
    go (At y) e h = (record { list = v; there = sub v (inl refl); value = e; is = refl }, h)
    go Never e h = h

module _ (f : List Time → Time) (causal : IsCausal f) (w n : ℕ) where
  pub all_of_lists : AllByRecursion (IsOfList f w n) (window_rows f w n)
  all_of_lists = all_kept (IsOfList f w n) [] (flat_map (λ v. rows_at (f v) v) (window_lists w n)) tt (of_lists f w n (window_lists w n) (λ v m. m))

  starts : (v : List Time) → Member v (window_lists w n) → list_any is_start v ≡ true
  starts v m = all_member (λ z. list_any is_start z ≡ true) v (window_lists w n) (all_start w n) m

  of_list_in_order : (r : Row) → IsOfList f w n r → IsInOrder r
  of_list_in_order r h = subst IsInOrder (sym h.is) (row_in_order r.out h.list (starts h.list h.there))

  -- the value at times that fit a row, with the least taken off
  value_there : (r : Row) (m : ℕ) (x : List Time) → IsOfList f w n r → Fits m r.out r.entries x → f (map (taken_off m) x) ≡ At r.out
  value_there r m x h fits =
      let entries : r.entries ≡ map (entry_at r.out) h.list = ap (λ z. z.entries) h.is in
      let a = alike m r.out h.list x (subst (λ es. Fits m r.out es x) entries fits) in
      same_early r.out r.out (f h.list) (f (map (taken_off m) x)) (omega arith) (causal r.out h.list (map (taken_off m) x) a) h.value

  all_in_order : (rows : List Row) → AllByRecursion (IsOfList f w n) rows → AllByRecursion IsInOrder rows
  all_in_order [] h = tt
  all_in_order (r ∷ rows) h = (of_list_in_order r h.0, all_in_order rows h.1)

  same_outs : (r s : Row) → IsOfList f w n r → IsOfList f w n s → Conflict r s → r.out ≡ s.out
  same_outs r s p q c =
      let a = met r c.0 c.1 in
      let b = met s c.0 c.2 in
      let firsts : At a.first ≡ At b.first = sym a.is ∙ b.is in
      let k : a.first ≡ b.first = cc in
      let there = value_there r a.first c.0 p a.fits in
      let other = value_there s b.first c.0 q b.fits in
      let outs : At r.out ≡ At s.out = sym there ∙ (ap (λ m. f (map (taken_off m) c.0)) k ∙ other) in
      cc

  pub sound : AreSound (window_rows f w n)
  sound = record {
    in_order = all_in_order (window_rows f w n) all_of_lists;
    apart = λ i j r s l a b c. apart_kept [] (flat_map (λ v. rows_at (f v) v) (window_lists w n)) none_apart i j r s l a b (same r s (row_of_place (IsOfList f w n) (window_rows f w n) i r all_of_lists a) (row_of_place (IsOfList f w n) (window_rows f w n) j s all_of_lists b) c);
  }
    where
      none_apart : Apart []
      none_apart i j r s l a b e = absurd (cc)

      same : (r s : Row) → IsOfList f w n r → IsOfList f w n s → Conflict r s → r ≡ s
      same r s p q c = same_rows r s (of_list_in_order r p) (of_list_in_order s q) c (same_outs r s p q c)

  -- ---- the value at each list

  value_at_list : RowsDecide → (v : List Time) → Member v (window_lists w n) → (t : Time) → f v ≡ t → table_function (window_rows f w n) v ≡ f v
  value_at_list decides v m (At y) e =
      let in_rows : Member (row_at y v) (window_rows f w n) = new_member [] (flat_map (λ u. rows_at (f u) u) (window_lists w n)) (row_at y v)
      (member_flat (λ u. rows_at (f u) u) v (row_at y v) (window_lists w n) m (subst (λ t. Member (row_at y v) (rows_at t v)) (sym e) (inl refl))) in
      let place = member_place (window_rows f w n) (row_at y v) in_rows in
      let ordered = row_in_order y v (starts v m) in
      let k : 0 + y ≡ y = omega arith in
      decides (window_rows f w n) place.0 (row_at y v) v 0 sound place.1 (matched (row_at y v) v 0 ordered (row_fits y v)) (least_start v (starts v m)) ∙ (ap At k ∙ sym e)
  value_at_list decides v m Never e = go (table_function (window_rows f w n) v) refl
    where
      not_there : (y : ℕ) → table_function (window_rows f w n) v ≡ At y → ⊥
      not_there y h =
          let a = hit (window_rows f w n) v y h in
          let of : IsOfList f w n a.row = row_of_place (IsOfList f w n) (window_rows f w n) a.place a.row all_of_lists a.at in
          let first : At a.first ≡ At 0 = sym (least_is a.row v a.first (of_list_in_order a.row of) a.fits) ∙ least_start v (starts v m) in
          let k : a.first ≡ 0 = cc in
          let value : f v ≡ At (a.row).out = ap f (sym (none_off v)) ∙ (ap (λ i. f (map (taken_off i) v)) (sym k) ∙ value_there a.row a.first v of a.fits) in
          let bad : Never ≡ At (a.row).out = sym e ∙ value in
          absurd (cc)

      go : (t : Time) → table_function (window_rows f w n) v ≡ t → table_function (window_rows f w n) v ≡ f v
      go Never h = h ∙ sym e
      go (At y) h = absurd (not_there y h)

  values_from : RowsDecide → (vs : List (List Time)) → ((v : List Time) → Member v vs → Member v (window_lists w n)) → AllByRecursion (λ v. table_function (window_rows f w n) v ≡ f v) vs
  values_from decides [] sub = tt
  values_from decides (v ∷ vs) sub = (value_at_list decides v (sub v (inl refl)) (f v) refl, values_from decides vs (λ u m. sub u (inr m)))

  pub values : RowsDecide → All (λ v. table_function (window_rows f w n) v ≡ f v) (window_lists w n)
  values decides = All-from_recursion (λ v. table_function (window_rows f w n) v ≡ f v) (window_lists w n) (values_from decides (window_lists w n) (λ v m. m))

  -- ---- the table

  not_late : (vs : List (List Time)) (v : List Time) → find is_late (map f vs) ≡ None → Member v vs → is_late (f v) ≡ false
  not_late [] v h m = absurd m
  not_late (u ∷ vs) v h m = go (is_late (f u)) refl h m (not_late vs v)
    where
      go : (b : Bool) → is_late (f u) ≡ b → cond b (Some (f u)) (find is_late (map f vs)) ≡ None → Member v (u ∷ vs) → (find is_late (map f vs) ≡ None → Member v vs → is_late (f v) ≡ false) → is_late (f v) ≡ false
      go true e g k rest = absurd (cc)
      go false e g (inl d) rest = ap (λ z. is_late (f z)) (sym d) ∙ e
      go false e g (inr k) rest = rest g k

  of_list_small : first_late f w n ≡ None → (r : Row) → IsOfList f w n r → IsRow n r
  of_list_small none r h =
      let early : is_late (At r.out) ≡ false = ap is_late (sym h.value) ∙ not_late (window_lists w n) h.list none h.there in
      let low : r.out ≤ 255 = grind (arith, nat_tests) in
      let of : IsListOf w n h.list = all_member (IsListOf w n) h.list (window_lists w n) (all_window w n) h.there in
      let entries : r.entries ≡ map (entry_at r.out) h.list = ap (λ z. z.entries) h.is in
      record {
        one_for_each_input = ap length entries ∙ (length-map h.list (entry_at r.out) ∙ of.many);
        small_entries = subst (AllByRecursion (IsUpTo 255)) (sym entries) (raised (map (entry_at r.out) h.list) low (row_low r.out h.list));
        small_out = low;
      }
    where
      raise : (e : Option ℕ) → r.out ≤ 255 → IsUpTo r.out e → IsUpTo 255 e
      raise (Some k) low g = omega (arith, low, g)
      raise None low g = tt

      raised : (es : List (Option ℕ)) → r.out ≤ 255 → AllByRecursion (IsUpTo r.out) es → AllByRecursion (IsUpTo 255) es
      raised [] low g = tt
      raised (e ∷ es) low g = (raise e low g.0, raised es low g.1)

  all_small : first_late f w n ≡ None → (rows : List Row) → AllByRecursion (IsOfList f w n) rows → AllByRecursion (IsRow n) rows
  all_small none [] h = tt
  all_small none (r ∷ rows) h = (of_list_small none r h.0, all_small none rows h.1)

-- at most 16 inputs have so few lists
few_inputs : (w n : ℕ) → (w + 2) ^ n ≤ 65536 → n ≤ 16
few_inputs w n h = go (cases_lt 16 n)
  where
    go : (16 < n) ⊎ (n ≤ 16) → n ≤ 16
    go (inr le) = le
    go (inl lt) =
        let a : 2 ^ 17 ≤ 2 ^ n = pow-le-pow_right {n = 2} (omega arith) {i = 17} {j = n} (omega (arith, lt)) in
        let b : 2 ^ n ≤ (w + 2) ^ n = pow-le-pow_left {n = 2} {m = w + 2} (omega arith) n in
        absurd (omega (arith, a, b, h))

pub is_table : (net : Net) (f : List Time → Time) → IsCausal f → (w k : ℕ) → IsNetwork net → k < length net.outputs → IsInReach f w (length net.inputs) → length (window_rows f w (length net.inputs)) ≤ 256 →
    IsTable (table net.inputs (slice_index_or (names_of net.outputs) k []) (window_rows f w (length net.inputs)))
is_table net f causal w k net_is lt reach few =
    let o = slice_index_or (names_of net.outputs) k [] in
    record {
      some_input = net_is.some_input;
      few_inputs = few_inputs w (length net.inputs) reach.few_lists;
      names = all_with is_port_name net.inputs o net_is.input_names (all_here is_port_name (names_of net.outputs) o net_is.output_names (name_member net.outputs k lt));
      distinct = distinct_with net.inputs (names_of net.lets ++ names_of net.outputs) o (member_right o (names_of net.lets) (names_of net.outputs) (name_member net.outputs k lt)) (ap are_distinct (sym (append_assoc net.inputs (names_of net.lets) (names_of net.outputs))) ∙ net_is.distinct);
      few_rows = few;
      rows = all_small f causal w (length net.inputs) reach.none_late (window_rows f w (length net.inputs)) (all_of_lists f causal w (length net.inputs));
    }

-- ---- what the walk's answer means

pub cause_of : (f : List Time → Time) (w n : ℕ) (e : TabError) → (w + 2) ^ n ≤ 65536 → Gives (walked f w [] (time_lists w n)) [] (Err e) → IsCause f w n e
cause_of f w n (error.TooLate y) few h = (few, walk_late f w n y h)
cause_of f w n error.TooWide few h = absurd h
cause_of f w n error.TooManyRows few h = absurd h
cause_of f w n error.NoMemory few h = tt

pub in_reach : (f : List Time → Time) → IsCausal f → (w n : ℕ) (rows : List Row) → (w + 2) ^ n ≤ 65536 → walked f w [] (time_lists w n) ≡ Ok rows → IsInReach f w n
in_reach f causal w n rows few h = record { few_lists = few; none_late = (walk_rows f causal w n rows h).0 }

pub the_rows : (f : List Time → Time) → IsCausal f → (w n : ℕ) (rows : List Row) → walked f w [] (time_lists w n) ≡ Ok rows → rows ≡ window_rows f w n
the_rows f causal w n rows h = (walk_rows f causal w n rows h).1
