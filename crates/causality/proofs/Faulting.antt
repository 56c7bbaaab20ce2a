-- The first fault of rows.
use Rattle.std.proofs.Common.{◌≡◌, ℕ, zero, suc, ◌+◌, ◌≤◌, ◌<◌, ◌⊎◌, Bool, true, false, true≢false, cond, List, [], ◌∷◌, ◌++◌, length, take, get_or, refl, ap, sym, ◌∙◌, subst, arith, add-one, Option, Some, None, inl, inr}
use Rattle.std.specs.Prelude.{◌≢◌, slice_get, nat_lt, ◌==◌}
use Rattle.std.specs.List.{list_any, position, position_or_len, AllByRecursion}
use Rattle.std.proofs.lemmas.List.Sums.{fails_before_first}
use Rattle.std.proofs.lemmas.Bool.{cases_lt, ltb-false}
use Rattle.std.proofs.lemmas.Bool.Decides.{nat_tests}
use Rattle.std.proofs.lemmas.List.{take_more, take_all, get_or-take}
use Rattle.std.proofs.lemmas.List.Quantifiers.{position-Some}
use Rattle.std.proofs.lemmas.Option.{slice_get_within, slice_get_read, slice_get-get_or, get_or_from_slice_get, same_Some}
use Rattle.func_table.specs.Table.{Row, Table}
use Rattle.func_table.specs.Rules.{IsUpTo, IsRow, IsTable}
use Rattle.func_table.specs.Sound.{is_zero, IsInOrder, Conflict, AreSound}
use Rattle.causality.specs.declared.fault.RowFault.{RowFault}
use Rattle.causality.specs.declared.fault.RowFault.TheVariants as fault
use Rattle.causality.specs.Places.{is_greater, places_agree}
use Rattle.causality.specs.Faults.{HasNoZero, IsAcausalAt, IsFirst, IsFirstPair, IsRowFault, IsOrderFault, pair_fault}
use Rattle.causality.proofs.Places.{conflict_from, no_conflict_from, same_rows}
use Rattle.causality.proofs.Following.{row_at}

-- ---- lists

pub all_push : {X : Type 0} (P : X → Type 0) (xs : List X) (x : X) → AllByRecursion P xs → P x → AllByRecursion P (xs ++ x ∷ [])
all_push P [] x h p = (p, tt)
all_push P (y ∷ xs) x h p = (h.0, all_push P xs x h.1 p)

-- where a test first passes
pub first_passes : {X : Type 0} (p : X → Bool) (xs : List X) (i : ℕ) (d : X) → position p xs ≡ Some i → (slice_get xs i ≡ Some (get_or xs i d)) × (p (get_or xs i d) ≡ true) × ((k : ℕ) (x : X) → k < i → slice_get xs k ≡ Some x → p x ≡ false)
first_passes p xs i d h =
    let q = position-Some p xs i d h in
    (slice_get-get_or xs i d q.0, q.1, λ k x l e. ap p (sym (get_or_from_slice_get xs k x d e)) ∙ q.2 k l)

-- or it passes nowhere
pub none_passes : {X : Type 0} (p : X → Bool) (xs : List X) → position p xs ≡ None → (k : ℕ) (x : X) → slice_get xs k ≡ Some x → p x ≡ false
none_passes p xs h k x e = go (nat_lt (position_or_len p xs) (length xs)) refl h
  where
    go : (b : Bool) → nat_lt (position_or_len p xs) (length xs) ≡ b → cond b (Some (position_or_len p xs)) None ≡ None → p x ≡ false
    go true f g = absurd (cc)
    go false f g =
        let le = ltb-false (position_or_len p xs) (length xs) f in
        let l = slice_get_within xs k x e in
        ap p (sym (get_or_from_slice_get xs k x x e)) ∙ fails_before_first p xs k x (omega (arith, le, l))

pub at_take : {X : Type 0} (xs : List X) (i k : ℕ) (x : X) → slice_get (take i xs) k ≡ Some x → (k < i) × (slice_get xs k ≡ Some x)
at_take [] zero k x h = absurd (cc)
at_take [] (suc i) k x h = absurd (cc)
at_take (y ∷ xs) zero k x h = absurd (cc)
at_take (y ∷ xs) (suc i) zero x h = (omega arith, h)
at_take (y ∷ xs) (suc i) (suc k) x h = let p = at_take xs i k x h in let l = p.0 in (omega (arith, l), p.1)

take_at_place : {X : Type 0} (xs : List X) (i k : ℕ) (x : X) → k < i → slice_get xs k ≡ Some x → slice_get (take i xs) k ≡ Some x
take_at_place [] i k x l h = absurd (cc)
take_at_place (y ∷ xs) zero k x l h = absurd (omega (arith, l))
take_at_place (y ∷ xs) (suc i) zero x l h = h
take_at_place (y ∷ xs) (suc i) (suc k) x l h = take_at_place xs i k x (omega (arith, l)) h

pub at_push : {X : Type 0} (xs : List X) (y : X) (k : ℕ) (x : X) → slice_get (xs ++ y ∷ []) k ≡ Some x → (slice_get xs k ≡ Some x) ⊎ ((k ≡ length xs) × (y ≡ x))
at_push [] y zero x h = let e : y ≡ x = cc in inr (refl, e)
at_push [] y (suc k) x h = absurd (cc)
at_push (z ∷ xs) y zero x h = inl h
at_push (z ∷ xs) y (suc k) x h = go (at_push xs y k x h)
  where
    go : (slice_get xs k ≡ Some x) ⊎ ((k ≡ length xs) × (y ≡ x)) → (slice_get xs k ≡ Some x) ⊎ ((suc k ≡ suc (length xs)) × (y ≡ x))
    go (inl e) = inl e
    go (inr p) = inr (ap suc p.0, p.1)

pub read_place : {X : Type 0} (xs : List X) (i : ℕ) (x : X) → i < length xs → x ≡ get_or xs i x → slice_get xs i ≡ Some x
read_place xs i x l e = slice_get_read xs (length xs) i x refl l e

pub taken_more : {X : Type 0} (xs : List X) (i : ℕ) (x : X) → slice_get xs i ≡ Some x → take (i + 1) xs ≡ take i xs ++ x ∷ []
taken_more xs i x e = take_more xs i x (slice_get_within xs i x e) ∙ ap (λ z. take i xs ++ z ∷ []) (get_or_from_slice_get xs i x x e)

-- ---- one row

is_up_to : (y : ℕ) (e : Option ℕ) → is_greater y e ≡ false → IsUpTo y e
is_up_to y (Some e) h = grind (arith, nat_tests)
is_up_to y None h = tt

are_up_to : (y : ℕ) (es : List (Option ℕ)) → ((k : ℕ) (e : Option ℕ) → slice_get es k ≡ Some e → is_greater y e ≡ false) → AllByRecursion (IsUpTo y) es
are_up_to y [] f = tt
are_up_to y (e ∷ es) f = (is_up_to y e (f 0 e refl), are_up_to y es (λ k d h. f (suc k) d h))

pub in_order : (r : Row) → list_any is_zero r.entries ≡ true → position (is_greater r.out) r.entries ≡ None → IsInOrder r
in_order r z h = record { some_zero = z; none_greater = are_up_to r.out r.entries (none_passes (is_greater r.out) r.entries h) }

pub acausal : (r : Row) (k : ℕ) → list_any is_zero r.entries ≡ true → position (is_greater r.out) r.entries ≡ Some k → IsAcausalAt k r
acausal r k z h = go (get_or r.entries k None) refl
  where
    first : (slice_get r.entries k ≡ Some (get_or r.entries k None)) × (is_greater r.out (get_or r.entries k None) ≡ true) × ((i : ℕ) (e : Option ℕ) → i < k → slice_get r.entries i ≡ Some e → is_greater r.out e ≡ false)
    first = first_passes (is_greater r.out) r.entries k None h

    low : AllByRecursion (IsUpTo r.out) (take k r.entries)
    low = are_up_to r.out (take k r.entries) (λ i e f. let p = at_take r.entries k i e f in first.2 i e p.0 p.1)

    go : (e : Option ℕ) → get_or r.entries k None ≡ e → IsAcausalAt k r
    go (Some e) f =
        let high : is_greater r.out (Some e) ≡ true = ap (is_greater r.out) (sym f) ∙ first.1 in
        record { some_zero = z; entry = e; at = first.0 ∙ ap (λ d. Some d) f; greater = grind (arith, nat_tests); before = low }
    go None f = let high : is_greater r.out None ≡ true = ap (is_greater r.out) (sym f) ∙ first.1 in absurd (cc)

-- ---- the rows one after the other

pub in_order_more : (rows : List Row) (i : ℕ) (r : Row) → slice_get rows i ≡ Some r → AllByRecursion IsInOrder (take i rows) → IsInOrder r → AllByRecursion IsInOrder (take (i + 1) rows)
in_order_more rows i r at h p = subst (AllByRecursion IsInOrder) (sym (taken_more rows i r at)) (all_push IsInOrder (take i rows) r h p)

pub order_fault : (rows : List Row) (i n : ℕ) (r : Row) (f : RowFault) → slice_get rows i ≡ Some r → AllByRecursion IsInOrder (take i rows) → n ≡ i + 1 → IsOrderFault r n f → IsRowFault rows f
order_fault rows i n r (fault.NoZero zero) at before e h = let k = h.0 in absurd (omega (arith, k, e))
order_fault rows i n r (fault.NoZero (suc m)) at before e h =
    let k : i ≡ m = let l = h.0 in omega (arith, l, e) in
    subst (λ j. IsFirst rows j HasNoZero) k (record { row = r; at = at; is = h.1; before = before })
order_fault rows i n r (fault.Acausal m zero) at before e h = absurd h
order_fault rows i n r (fault.Acausal zero (suc k)) at before e h = let l = h.0 in absurd (omega (arith, l, e))
order_fault rows i n r (fault.Acausal (suc m) (suc k)) at before e h =
    let p : i ≡ m = let l = h.0 in omega (arith, l, e) in
    subst (λ j. IsFirst rows j (IsAcausalAt k)) p (record { row = r; at = at; is = h.1; before = before })
order_fault rows i n r (fault.Same a b) at before e h = absurd h
order_fault rows i n r (fault.Conflict a b) at before e h = absurd h

-- ---- the pairs

pub none_sound : AreSound []
none_sound = record { in_order = tt; apart = λ i j r s l a b c. absurd (cc) }

sound_push : (rows : List Row) (s : Row) → AreSound rows → IsInOrder s → ((k : ℕ) (r : Row) → slice_get rows k ≡ Some r → Conflict r s → ⊥) → AreSound (rows ++ s ∷ [])
sound_push rows s sound ordered none = record { in_order = all_push IsInOrder rows s sound.in_order ordered; apart = λ i j p q l a b c. go i j p q l (at_push rows s i p a) (at_push rows s j q b) c }
  where
    go : (i j : ℕ) (p q : Row) → i < j → (slice_get rows i ≡ Some p) ⊎ ((i ≡ length rows) × (s ≡ p)) → (slice_get rows j ≡ Some q) ⊎ ((j ≡ length rows) × (s ≡ q)) → Conflict p q → ⊥
    go i j p q l (inl a) (inl b) c = sound.apart i j p q l a b c
    go i j p q l (inl a) (inr b) c = none i p a (subst (λ z. Conflict p z) (sym b.1) c)
    go i j p q l (inr a) (inl b) c = let k = slice_get_within rows j q b in let e = a.0 in absurd (omega (arith, k, e, l))
    go i j p q l (inr a) (inr b) c = let k = b.0 in let e = a.0 in absurd (omega (arith, k, e, l))

pub sound_more : (rows : List Row) (j : ℕ) (s : Row) → AllByRecursion IsInOrder rows → slice_get rows j ≡ Some s → AreSound (take j rows) → position (λ r. places_agree r s) (take j rows) ≡ None → AreSound (take (j + 1) rows)
sound_more rows j s ordered at sound none =
    let last : IsInOrder s = row_at IsInOrder rows j s ordered at in
    subst AreSound (sym (taken_more rows j s at)) (sound_push (take j rows) s sound last
    (λ k r e c. let p = at_take rows j k r e in no_conflict_from r s (row_at IsInOrder rows k r ordered p.1) last (none_passes (λ z. places_agree z s) (take j rows) none k r e) c))

pub first_pair : (n : ℕ) (rows : List Row) (i j : ℕ) (r s : Row) → AllByRecursion (IsRow n) rows → AllByRecursion IsInOrder rows → slice_get rows j ≡ Some s → AreSound (take j rows) → position (λ z. places_agree z s) (take j rows) ≡ Some i → get_or rows i r ≡ r → (K : Row → Row → Type 0) → (Conflict r s → K r s) → (i < j) × IsFirstPair rows i j K
first_pair n rows i j r s long ordered at sound some same K kind =
    let q = first_passes (λ z. places_agree z s) (take j rows) i r some in
    let l : i < j = (at_take rows j i (get_or (take j rows) i r) q.0).0 in
    let there : get_or (take j rows) i r ≡ r = get_or-take j rows i r l ∙ same in
    let here : slice_get rows i ≡ Some r = (at_take rows j i (get_or (take j rows) i r) q.0).1 ∙ ap (λ z. Some z) there in
    let p : IsInOrder r = row_at IsInOrder rows i r ordered here in
    let last : IsInOrder s = row_at IsInOrder rows j s ordered at in
    let many : length r.entries ≡ length s.entries = (row_at (IsRow n) rows i r long here).one_for_each_input ∙ sym ((row_at (IsRow n) rows j s long at).one_for_each_input) in
    let c : Conflict r s = conflict_from r s p last many (ap (λ z. places_agree z s) (sym there) ∙ q.1) in (
      l,
      record {
        in_order = ordered;
        earlier = r;
        later = s;
        less = l;
        earlier_at = here;
        later_at = at;
        conflict = c;
        is = kind c;
        before = sound;
        first = λ k z m e d. no_conflict_from z s (row_at IsInOrder rows k z ordered e) last (q.2 k z m (take_at_place rows j k z (omega (arith, m, l)) e)) d;
      },
    )

pub pair_is : (n : ℕ) (rows : List Row) (i j : ℕ) (r s : Row) (b : Bool) → AllByRecursion (IsRow n) rows → AllByRecursion IsInOrder rows → slice_get rows j ≡ Some s → AreSound (take j rows) → position (λ z. places_agree z s) (take j rows) ≡ Some i → get_or rows i r ≡ r → (r.out == s.out) ≡ b → IsRowFault rows (pair_fault i j b)
pair_is n rows i j r s true long ordered at sound some same e =
    rw (add-one i, add-one j) ((first_pair n rows i j r s long ordered at sound some same (λ p q. p ≡ q) (λ c. same_rows r s (ordered_at i r here) (ordered_at j s at) c (grind (arith, nat_tests)))).1)
  where
    ordered_at : (k : ℕ) (z : Row) → slice_get rows k ≡ Some z → IsInOrder z
    ordered_at k z h = row_at IsInOrder rows k z ordered h

    here : slice_get rows i ≡ Some r
    here =
        let q = first_passes (λ z. places_agree z s) (take j rows) i r some in
        let p = at_take rows j i (get_or (take j rows) i r) q.0 in
        p.1 ∙ ap (λ z. Some z) (get_or-take j rows i r p.0 ∙ same)
pair_is n rows i j r s false long ordered at sound some same e =
    rw (add-one i, add-one j) ((first_pair n rows i j r s long ordered at sound some same (λ p q. p ≢ q) (λ c f. apart (ap (λ z. z.out) f))).1)
  where
    apart : r.out ≡ s.out → ⊥
    apart f = grind (arith, nat_tests)

-- ---- sound, or with a fault

abbrev Judged : List Row → Type 0 → Type 0
Judged rows P = P ⊎ ((f : RowFault) × IsRowFault rows f)

order_step : (rows : List Row) (i : ℕ) (r : Row) → slice_get rows i ≡ Some r → AllByRecursion IsInOrder (take i rows) → Judged rows (AllByRecursion IsInOrder (take (i + 1) rows))
order_step rows i r at h = zero_first (list_any is_zero r.entries) refl
  where
    greater : list_any is_zero r.entries ≡ true → (o : Option ℕ) → position (is_greater r.out) r.entries ≡ o → Judged rows (AllByRecursion IsInOrder (take (i + 1) rows))
    greater z (Some k) e = inr (fault.Acausal (suc i) (suc k), record { row = r; at = at; is = acausal r k z e; before = h })
    greater z None e = inl (in_order_more rows i r at h (in_order r z e))

    zero_first : (b : Bool) → list_any is_zero r.entries ≡ b → Judged rows (AllByRecursion IsInOrder (take (i + 1) rows))
    zero_first true e = greater e (position (is_greater r.out) r.entries) refl
    zero_first false e = inr (fault.NoZero (suc i), record { row = r; at = at; is = e; before = h })

some_row : (rows : List Row) (i : ℕ) → i < length rows → (r : Row) × (slice_get rows i ≡ Some r)
some_row [] i l = absurd (omega (arith, l))
some_row (r ∷ rows) zero l = (r, refl)
some_row (r ∷ rows) (suc i) l = some_row rows i (omega (arith, l))

order_judged : (rows : List Row) (i : ℕ) → i ≤ length rows → Judged rows (AllByRecursion IsInOrder (take i rows))
order_judged rows zero l = inl tt
order_judged rows (suc i) l = rw (sym (add-one i)) (go (order_judged rows i (omega (arith, l))))
  where
    go : Judged rows (AllByRecursion IsInOrder (take i rows)) → Judged rows (AllByRecursion IsInOrder (take (i + 1) rows))
    go (inl h) = let r = some_row rows i (omega (arith, l)) in order_step rows i r.0 r.1 h
    go (inr h) = inr h

pairs_step : (n : ℕ) (rows : List Row) (j : ℕ) (s : Row) → AllByRecursion (IsRow n) rows → AllByRecursion IsInOrder rows → slice_get rows j ≡ Some s → AreSound (take j rows) → Judged rows (AreSound (take (j + 1) rows))
pairs_step n rows j s long ordered at sound = go (position (λ r. places_agree r s) (take j rows)) refl
  where
    go : (o : Option ℕ) → position (λ r. places_agree r s) (take j rows) ≡ o → Judged rows (AreSound (take (j + 1) rows))
    go None e = inl (sound_more rows j s ordered at sound e)
    go (Some i) e =
        let q = first_passes (λ z. places_agree z s) (take j rows) i s e in
        let p = at_take rows j i (get_or (take j rows) i s) q.0 in
        let r = get_or (take j rows) i s in
        inr (pair_fault i j (r.out == s.out), pair_is n rows i j r s (r.out == s.out) long ordered at sound e (get_or_from_slice_get rows i r r p.1) refl)

pairs_judged : (n : ℕ) (rows : List Row) (j : ℕ) → AllByRecursion (IsRow n) rows → AllByRecursion IsInOrder rows → j ≤ length rows → Judged rows (AreSound (take j rows))
pairs_judged n rows zero long ordered l = inl none_sound
pairs_judged n rows (suc j) long ordered l = rw (sym (add-one j)) (go (pairs_judged n rows j long ordered (omega (arith, l))))
  where
    go : Judged rows (AreSound (take j rows)) → Judged rows (AreSound (take (j + 1) rows))
    go (inl h) = let r = some_row rows j (omega (arith, l)) in pairs_step n rows j r.0 long ordered r.1 h
    go (inr h) = inr h

pub sound_or_fault : (t : Table) → IsTable t → AreSound t.rows ⊎ ((f : RowFault) × IsRowFault t.rows f)
sound_or_fault t h = go (order_judged t.rows (length t.rows) (omega arith))
  where
    last : Judged t.rows (AreSound (take (length t.rows) t.rows)) → AreSound t.rows ⊎ ((f : RowFault) × IsRowFault t.rows f)
    last (inl s) = inl (subst AreSound (take_all (length t.rows) t.rows (omega arith)) s)
    last (inr f) = inr f

    go : Judged t.rows (AllByRecursion IsInOrder (take (length t.rows) t.rows)) → AreSound t.rows ⊎ ((f : RowFault) × IsRowFault t.rows f)
    go (inl o) = last (pairs_judged (length t.inputs) t.rows (length t.rows) h.rows (subst (AllByRecursion IsInOrder) (take_all (length t.rows) t.rows (omega arith)) o) (omega arith))
    go (inr f) = inr f

-- ---- never both, and at most one

no_zero_bad : (r : Row) → HasNoZero r → IsInOrder r → ⊥
no_zero_bad r h p = true≢false (sym p.some_zero ∙ h)

pub up_to_at : (y k : ℕ) (es : List (Option ℕ)) (e : ℕ) → AllByRecursion (IsUpTo y) es → slice_get es k ≡ Some (Some e) → e ≤ y
up_to_at y k [] e h g = absurd (cc)
up_to_at y zero (d ∷ es) e h g = let same : d ≡ Some e = cc in subst (IsUpTo y) same h.0
up_to_at y (suc k) (d ∷ es) e h g = up_to_at y k es e h.1 g

acausal_bad : (k : ℕ) (r : Row) → IsAcausalAt k r → IsInOrder r → ⊥
acausal_bad k r h p = let l = up_to_at r.out k r.entries h.entry p.none_greater h.at in let g = h.greater in omega (arith, l, g)

pub never_both : (rows : List Row) (f : RowFault) → AreSound rows → IsRowFault rows f → ⊥
never_both rows (fault.NoZero zero) s h = h
never_both rows (fault.NoZero (suc i)) s h = no_zero_bad h.row h.is (row_at IsInOrder rows i h.row s.in_order h.at)
never_both rows (fault.Acausal zero k) s h = h
never_both rows (fault.Acausal (suc i) zero) s h = h
never_both rows (fault.Acausal (suc i) (suc k)) s h = acausal_bad k h.row h.is (row_at IsInOrder rows i h.row s.in_order h.at)
never_both rows (fault.Same zero j) s h = h
never_both rows (fault.Same (suc i) zero) s h = h
never_both rows (fault.Same (suc i) (suc j)) s h = s.apart i j h.earlier h.later h.less h.earlier_at h.later_at h.conflict
never_both rows (fault.Conflict zero j) s h = h
never_both rows (fault.Conflict (suc i) zero) s h = h
never_both rows (fault.Conflict (suc i) (suc j)) s h = s.apart i j h.earlier h.later h.less h.earlier_at h.later_at h.conflict

first_place : (rows : List Row) (i j : ℕ) (K L : Row → Type 0) → ((r : Row) → K r → IsInOrder r → ⊥) → ((r : Row) → L r → IsInOrder r → ⊥) → IsFirst rows i K → IsFirst rows j L → i ≡ j
first_place rows i j K L bad worse f g = go (cases_lt i j)
  where
    go : (i < j) ⊎ (j ≤ i) → i ≡ j
    go (inl l) = absurd (bad f.row f.is (row_at IsInOrder (take j rows) i f.row g.before (take_at_place rows j i f.row l f.at)))
    go (inr l) = elim (cases_lt j i) [
      | inl m ↦ absurd (worse g.row g.is (row_at IsInOrder (take i rows) j g.row f.before (take_at_place rows i j g.row m g.at)))
      | inr m ↦ omega (arith, l, m)
    ]

one_row : (rows : List Row) (i j : ℕ) (r s : Row) → i ≡ j → slice_get rows i ≡ Some r → slice_get rows j ≡ Some s → r ≡ s
one_row rows i j r s e f g = same_Some r s (sym f ∙ (ap (slice_get rows) e ∙ g))

no_zero_acausal : (rows : List Row) (i j k : ℕ) → IsFirst rows i HasNoZero → IsFirst rows j (IsAcausalAt k) → ⊥
no_zero_acausal rows i j k f g =
    let e = first_place rows i j HasNoZero (IsAcausalAt k) no_zero_bad (acausal_bad k) f g in
    let same : f.row ≡ g.row = one_row rows i j f.row g.row e f.at g.at in
    true≢false (sym (g.is).some_zero ∙ subst HasNoZero same f.is)

-- a row's first entry that is greater has one place
first_entry : (r : Row) (k m : ℕ) → IsAcausalAt k r → IsAcausalAt m r → k ≡ m
first_entry r k m f g = go (cases_lt k m)
  where
    not_before : (a b : ℕ) → IsAcausalAt a r → IsAcausalAt b r → a < b → ⊥
    not_before a b f g l =
        let low = up_to_at r.out a (take b r.entries) f.entry g.before (take_at_place r.entries b a (Some f.entry) l f.at) in
        let high = f.greater in
        omega (arith, low, high)

    go : (k < m) ⊎ (m ≤ k) → k ≡ m
    go (inl l) = absurd (not_before k m f g l)
    go (inr l) = elim (cases_lt m k) [ inl n ↦ absurd (not_before m k g f n) | inr n ↦ omega (arith, l, n) ]

acausal_places : (rows : List Row) (i j k m : ℕ) → IsFirst rows i (IsAcausalAt k) → IsFirst rows j (IsAcausalAt m) → (i ≡ j) × (k ≡ m)
acausal_places rows i j k m f g =
    let e = first_place rows i j (IsAcausalAt k) (IsAcausalAt m) (acausal_bad k) (acausal_bad m) f g in
    let same : f.row ≡ g.row = one_row rows i j f.row g.row e f.at g.at in
    (e, first_entry g.row k m (subst (IsAcausalAt k) same f.is) g.is)

order_or_pair : (rows : List Row) (i a b : ℕ) (K : Row → Type 0) (L : Row → Row → Type 0) → ((r : Row) → K r → IsInOrder r → ⊥) → IsFirst rows i K → IsFirstPair rows a b L → ⊥
order_or_pair rows i a b K L bad f g = bad f.row f.is (row_at IsInOrder rows i f.row g.in_order f.at)

pair_places : (rows : List Row) (i j a b : ℕ) (K L : Row → Row → Type 0) → IsFirstPair rows i j K → IsFirstPair rows a b L → (i ≡ a) × (j ≡ b)
pair_places rows i j a b K L f g = (earlier (cases_lt i a) (cases_lt a i), later)
  where
    not_before : (i j a b : ℕ) (K L : Row → Row → Type 0) → IsFirstPair rows i j K → IsFirstPair rows a b L → j < b → ⊥
    not_before i j a b K L f g l =
        let s = g.before in
        let m = f.less in
        s.apart i j f.earlier f.later m (take_at_place rows b i f.earlier (omega (arith, m, l)) f.earlier_at) (take_at_place rows b j f.later l f.later_at) f.conflict

    later : j ≡ b
    later = elim (cases_lt j b) [
      | inl l ↦ absurd (not_before i j a b K L f g l)
      | inr l ↦ elim (cases_lt b j) [ inl m ↦ absurd (not_before a b i j L K g f m) | inr m ↦ omega (arith, l, m) ]
    ]

    same : f.later ≡ g.later
    same = one_row rows j b f.later g.later later f.later_at g.later_at

    earlier : (i < a) ⊎ (a ≤ i) → (a < i) ⊎ (i ≤ a) → i ≡ a
    earlier (inl l) m = absurd (g.first i f.earlier l f.earlier_at (subst (λ s. Conflict f.earlier s) same f.conflict))
    earlier (inr l) (inl m) = absurd (f.first a g.earlier m g.earlier_at (subst (λ s. Conflict g.earlier s) (sym same) g.conflict))
    earlier (inr l) (inr m) = omega (arith, l, m)

same_or_not : (rows : List Row) (i j a b : ℕ) → IsFirstPair rows i j (λ r s. r ≡ s) → IsFirstPair rows a b (λ r s. r ≢ s) → ⊥
same_or_not rows i j a b f g =
    let e = pair_places rows i j a b (λ r s. r ≡ s) (λ r s. r ≢ s) f g in
    let p : f.earlier ≡ g.earlier = one_row rows i a f.earlier g.earlier e.0 f.earlier_at g.earlier_at in
    let q : f.later ≡ g.later = one_row rows j b f.later g.later e.1 f.later_at g.later_at in
    g.is (sym p ∙ (f.is ∙ q))

-- a fault, and what it says
data Seen (rows : List Row) (f : RowFault) : Type 0 where
  no_zero : (i : ℕ) → f ≡ fault.NoZero (suc i) → IsFirst rows i HasNoZero → Seen rows f
  acausal_at : (i k : ℕ) → f ≡ fault.Acausal (suc i) (suc k) → IsFirst rows i (IsAcausalAt k) → Seen rows f
  same_pair : (i j : ℕ) → f ≡ fault.Same (suc i) (suc j) → IsFirstPair rows i j (λ r s. r ≡ s) → Seen rows f
  other_pair : (i j : ℕ) → f ≡ fault.Conflict (suc i) (suc j) → IsFirstPair rows i j (λ r s. r ≢ s) → Seen rows f

seen : (rows : List Row) (f : RowFault) → IsRowFault rows f → Seen rows f
seen rows (fault.NoZero zero) h = absurd h
seen rows (fault.NoZero (suc i)) h = no_zero i refl h
seen rows (fault.Acausal zero k) h = absurd h
seen rows (fault.Acausal (suc i) zero) h = absurd h
seen rows (fault.Acausal (suc i) (suc k)) h = acausal_at i k refl h
seen rows (fault.Same zero j) h = absurd h
seen rows (fault.Same (suc i) zero) h = absurd h
seen rows (fault.Same (suc i) (suc j)) h = same_pair i j refl h
seen rows (fault.Conflict zero j) h = absurd h
seen rows (fault.Conflict (suc i) zero) h = absurd h
seen rows (fault.Conflict (suc i) (suc j)) h = other_pair i j refl h

one_seen : (rows : List Row) (f g : RowFault) → Seen rows f → Seen rows g → f ≡ g
one_seen rows f g (no_zero i e h) (no_zero j d k) = let p = first_place rows i j HasNoZero HasNoZero no_zero_bad no_zero_bad h k in e ∙ (ap (λ (n : ℕ). fault.NoZero (suc n)) p ∙ sym d)
one_seen rows f g (no_zero i e h) (acausal_at j m d k) = absurd (no_zero_acausal rows i j m h k)
one_seen rows f g (no_zero i e h) (same_pair a b d k) = absurd (order_or_pair rows i a b HasNoZero (λ r s. r ≡ s) no_zero_bad h k)
one_seen rows f g (no_zero i e h) (other_pair a b d k) = absurd (order_or_pair rows i a b HasNoZero (λ r s. r ≢ s) no_zero_bad h k)
one_seen rows f g (acausal_at i n e h) (no_zero j d k) = absurd (no_zero_acausal rows j i n k h)
one_seen rows f g (acausal_at i n e h) (acausal_at j m d k) =
    let p = acausal_places rows i j n m h k in
    e ∙ (ap (λ (z : ℕ). fault.Acausal (suc z) (suc n)) p.0 ∙ (ap (λ (z : ℕ). fault.Acausal (suc j) (suc z)) p.1 ∙ sym d))
one_seen rows f g (acausal_at i n e h) (same_pair a b d k) = absurd (order_or_pair rows i a b (IsAcausalAt n) (λ r s. r ≡ s) (acausal_bad n) h k)
one_seen rows f g (acausal_at i n e h) (other_pair a b d k) = absurd (order_or_pair rows i a b (IsAcausalAt n) (λ r s. r ≢ s) (acausal_bad n) h k)
one_seen rows f g (same_pair i j e h) (no_zero a d k) = absurd (order_or_pair rows a i j HasNoZero (λ r s. r ≡ s) no_zero_bad k h)
one_seen rows f g (same_pair i j e h) (acausal_at a m d k) = absurd (order_or_pair rows a i j (IsAcausalAt m) (λ r s. r ≡ s) (acausal_bad m) k h)
one_seen rows f g (same_pair i j e h) (same_pair a b d k) =
    let p = pair_places rows i j a b (λ r s. r ≡ s) (λ r s. r ≡ s) h k in
    e ∙ (ap (λ (z : ℕ). fault.Same (suc z) (suc j)) p.0 ∙ (ap (λ (z : ℕ). fault.Same (suc a) (suc z)) p.1 ∙ sym d))
one_seen rows f g (same_pair i j e h) (other_pair a b d k) = absurd (same_or_not rows i j a b h k)
one_seen rows f g (other_pair i j e h) (no_zero a d k) = absurd (order_or_pair rows a i j HasNoZero (λ r s. r ≢ s) no_zero_bad k h)
one_seen rows f g (other_pair i j e h) (acausal_at a m d k) = absurd (order_or_pair rows a i j (IsAcausalAt m) (λ r s. r ≢ s) (acausal_bad m) k h)
one_seen rows f g (other_pair i j e h) (same_pair a b d k) = absurd (same_or_not rows a b i j k h)
one_seen rows f g (other_pair i j e h) (other_pair a b d k) =
    let p = pair_places rows i j a b (λ r s. r ≢ s) (λ r s. r ≢ s) h k in
    e ∙ (ap (λ (z : ℕ). fault.Conflict (suc z) (suc j)) p.0 ∙ (ap (λ (z : ℕ). fault.Conflict (suc a) (suc z)) p.1 ∙ sym d))

pub one_row_fault : (rows : List Row) (f g : RowFault) → IsRowFault rows f → IsRowFault rows g → f ≡ g
one_row_fault rows f g h k = one_seen rows f g (seen rows f h) (seen rows g k)
