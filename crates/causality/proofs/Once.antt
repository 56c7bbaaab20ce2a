-- What the walk leaves: the rows of the window, each once, or the first late value.
use Rattle.std.proofs.Common.{◌≡◌, ℕ, Bool, true, false, cond, List, [], ◌∷◌, ◌++◌, length, map, refl, ap, sym, ◌∙◌, subst, arith, Option, Some, None, Ok, Err, inl, inr, append_assoc, ltb}
use Rattle.std.specs.Prelude.{◌⊎◌, ◌||◌, ◌==◌, fold}
use Rattle.std.specs.List.{list_any, filter, find, flat_map}
use Rattle.std.proofs.lemmas.Bool.{and_parts, and_from, or_right}
use Rattle.std.proofs.lemmas.Bool.Decides.{nat_tests}
use Rattle.std.proofs.lemmas.List.{append-nil}
use Rattle.rl_time.specs.declared.time.Time.{Time}
use Rattle.rl_time.specs.declared.time.Time.TheVariants.{At, Never}
use Rattle.func_table.specs.Table.{Row}
use Rattle.spike_eval.specs.Causal.{IsCausal}
use Rattle.causality.specs.Window.{time_lists, is_start, window_lists, entry_at, row_at, rows_at, same_entry, same_entries, same_row, with_row, window_rows, is_late, first_late}
use Rattle.causality.specs.Walk.{is_first, valued, and_then, walked}
use Rattle.causality.proofs.Following.{same_early}
use Rattle.causality.proofs.Order.{Before, not_both, not_itself, InTurn, window_turn, Member, member_left, member_right, member_parts, member_flat, all_member, member_window, IsListOf, all_window, all_start}
use Rattle.causality.proofs.Lowering.{lowest, lowest_within, lowest_agrees, lowest_entries, lowest_first, lowest_start, lowest_before, first_is_first}

-- ---- rows that are the same

entry_is : (d e : Option ℕ) → same_entry d e ≡ true → d ≡ e
entry_is (Some a) (Some b) h = let k : a ≡ b = grind (arith, nat_tests) in ap (λ (n : ℕ). Some n) k
entry_is (Some a) None h = absurd (cc)
entry_is None (Some b) h = absurd (cc)
entry_is None None h = refl

same_itself : (e : Option ℕ) → same_entry e e ≡ true
same_itself (Some a) = grind (arith, nat_tests)
same_itself None = refl

entries_are : (ds es : List (Option ℕ)) → same_entries ds es ≡ true → ds ≡ es
entries_are [] [] h = refl
entries_are [] (e ∷ es) h = absurd (cc)
entries_are (d ∷ ds) [] h = absurd (cc)
entries_are (d ∷ ds) (e ∷ es) h =
    let p = and_parts (same_entry d e) (same_entries ds es) h in
    ap (λ x. x ∷ ds) (entry_is d e p.0) ∙ ap (λ xs. e ∷ xs) (entries_are ds es p.1)

entries_itself : (es : List (Option ℕ)) → same_entries es es ≡ true
entries_itself [] = refl
entries_itself (e ∷ es) = and_from _ _ (same_itself e) (entries_itself es)

abbrev row : List (Option ℕ) → ℕ → Row
row entries out = record { entries = entries; out = out }

pub row_is : (r s : Row) → same_row r s ≡ true → r ≡ s
row_is r s h =
    let p = and_parts (r.out == s.out) (same_entries r.entries s.entries) h in
    let k : (r.out == s.out) ≡ true = p.0 in
    let outs : r.out ≡ s.out = grind (arith, nat_tests) in
    ap (λ (es : List (Option ℕ)). row es r.out) (entries_are r.entries s.entries p.1) ∙ ap (λ (y : ℕ). row s.entries y) outs

row_itself : (r : Row) → same_row r r ≡ true
row_itself r = let k : (r.out == r.out) ≡ true = grind (arith, nat_tests) in and_from _ _ k (entries_itself r.entries)

pub row_same : (r s : Row) → r ≡ s → same_row r s ≡ true
row_same r s e = subst (λ z. same_row r z ≡ true) e (row_itself r)

any_some : (p : Row → Bool) (s : Row) (rows : List Row) → Member s rows → p s ≡ true → list_any p rows ≡ true
any_some p s [] m h = absurd m
any_some p s (r ∷ rows) (inl e) h = ap (λ (b : Bool). b || list_any p rows) (ap p e ∙ h)
any_some p s (r ∷ rows) (inr m) h = or_right (p r) (list_any p rows) (any_some p s rows m h)

any_none : (p : Row → Bool) (rows : List Row) → ((s : Row) → Member s rows → p s ≡ true → ⊥) → list_any p rows ≡ false
any_none p [] none = refl
any_none p (r ∷ rows) none = go (p r) refl (any_none p rows (λ s m h. none s (inr m) h))
  where
    go : (b : Bool) → p r ≡ b → list_any p rows ≡ false → (b || list_any p rows) ≡ false
    go true e h = absurd (none r (inl refl) e)
    go false e h = h

pub any_member : (p : Row → Bool) (rows : List Row) → list_any p rows ≡ true → (s : Row) × Member s rows × (p s ≡ true)
any_member p [] h = absurd (cc)
any_member p (r ∷ rows) h = go (p r) refl h (any_member p rows)
  where
    go : (b : Bool) → p r ≡ b → (b || list_any p rows) ≡ true → (list_any p rows ≡ true → (s : Row) × Member s rows × (p s ≡ true)) → (s : Row) × Member s (r ∷ rows) × (p s ≡ true)
    go true e g rest = (r, inl refl, e)
    go false e g rest = let q = rest g in (q.0, inr q.1, q.2)

-- ---- the row of a first list, and what a list leaves

abbrev pub new_at : ℕ → List Time → Time → List Row
new_at w v (At y) = cond (is_first w y v) (row_at y v ∷ []) []
new_at w v Never = []

abbrev pub new_rows : (List Time → Time) → ℕ → List (List Time) → List Row
new_rows f w vs = flat_map (λ v. new_at w v (f v)) vs

-- a row that a list leaves
record IsNew (w : ℕ) (v : List Time) (t : Time) (s : Row) : Type 0 where
  out : ℕ
  value : t ≡ At out
  is : s ≡ row_at out v

new_is : (w : ℕ) (v : List Time) (t : Time) (s : Row) → Member s (new_at w v t) → IsNew w v t s
new_is w v Never s m = absurd m
new_is w v (At y) s m = go (is_first w y v) m
  where
    go : (b : Bool) → Member s (cond b (row_at y v ∷ []) []) → IsNew w v (At y) s
    go true (inl e) = record { out = y; value = refl; is = sym e }
    go true (inr k) = absurd k
    go false k = absurd k

new_from : (f : List Time → Time) (w : ℕ) (s : Row) (vs : List (List Time)) → Member s (new_rows f w vs) → (v : List Time) × Member v vs × IsNew w v (f v) s
new_from f w s [] m = absurd m
new_from f w s (v ∷ vs) m = go (member_parts s (new_at w v (f v)) (new_rows f w vs) m) (new_from f w s vs)
  where
    go : Member s (new_at w v (f v)) ⊎ Member s (new_rows f w vs) → (Member s (new_rows f w vs) → (u : List Time) × Member u vs × IsNew w u (f u) s) → (u : List Time) × Member u (v ∷ vs) × IsNew w u (f u) s
    go (inl k) rest = (v, inl refl, new_is w v (f v) s k)
    go (inr k) rest = let q = rest k in (q.0, inr q.1, q.2)

new_there : (w y : ℕ) (v : List Time) (t : Time) → t ≡ At y → is_first w y v ≡ true → Member (row_at y v) (new_at w v t)
new_there w y v t e h = subst (λ a. Member (row_at y v) (new_at w v a)) (sym e) (subst (λ (b : Bool). Member (row_at y v) (cond b (row_at y v ∷ []) [])) (sym h) (inl refl))

flat_append : (f : List Time → Time) (w : ℕ) (us vs : List (List Time)) → new_rows f w (us ++ vs) ≡ new_rows f w us ++ new_rows f w vs
flat_append f w [] vs = refl
flat_append f w (u ∷ us) vs = ap (λ l. new_at w u (f u) ++ l) (flat_append f w us vs) ∙ sym (append_assoc (new_at w u (f u)) (new_rows f w us) (new_rows f w vs))

-- ---- what is before a list of the walk

earlier : (us : List (List Time)) (v : List Time) (vs : List (List Time)) (u : List Time) → InTurn (us ++ v ∷ vs) → Member u us → Before u v
earlier [] v vs u h m = absurd m
earlier (z ∷ us) v vs u h (inl e) = subst (λ x. Before x v) e (all_member (Before z) v (us ++ v ∷ vs) h.0 (member_right v us (v ∷ vs) (inl refl)))
earlier (z ∷ us) v vs u h (inr m) = earlier us v vs u h.1 m

later : (us : List (List Time)) (v : List Time) (vs : List (List Time)) (u : List Time) → InTurn (us ++ v ∷ vs) → Member u vs → Before v u
later [] v vs u h m = all_member (Before v) u vs h.0 m
later (z ∷ us) v vs u h m = later us v vs u h.1 m

stands_before : (us : List (List Time)) (v : List Time) (vs : List (List Time)) (u : List Time) → InTurn (us ++ v ∷ vs) → Member u (us ++ v ∷ vs) → Before u v → Member u us
stands_before us v vs u h m b = go (member_parts u us (v ∷ vs) m)
  where
    go : Member u us ⊎ Member u (v ∷ vs) → Member u us
    go (inl k) = k
    go (inr (inl e)) = absurd (not_itself u v (sym e) b)
    go (inr (inr k)) = absurd (not_both u v b (later us v vs u h k))

module _ (f : List Time → Time) (causal : IsCausal f) (w n : ℕ) where
  -- the row of a list is there already exactly where the list isn't the first that has it
  repeated : (y : ℕ) (us : List (List Time)) (v : List Time) (vs : List (List Time)) → us ++ v ∷ vs ≡ window_lists w n → f v ≡ At y → (b : Bool) → is_first w y v ≡ b → list_any (same_row (row_at y v)) (new_rows f w us) ≡ cond b false true
  repeated y us v vs e value true h = any_none (same_row (row_at y v)) (new_rows f w us) none
    where
      turn : InTurn (us ++ v ∷ vs)
      turn = subst InTurn (sym e) (window_turn w n)

      none : (s : Row) → Member s (new_rows f w us) → same_row (row_at y v) s ≡ true → ⊥
      none s m k =
          let q = new_from f w s us m in
          let u = q.0 in
          let same : row_at y v ≡ row_at (q.2).out u = row_is (row_at y v) s k ∙ (q.2).is in
          let outs : y ≡ (q.2).out = ap (λ r. r.out) same in
          let entries : map (entry_at (q.2).out) u ≡ map (entry_at y) v = sym (ap (λ r. r.entries) same) in
          let at_y : map (entry_at y) u ≡ map (entry_at y) v = ap (λ z. map (entry_at z) u) outs ∙ entries in
          let there : Member u (window_lists w n) = subst (Member u) e (member_left u us (v ∷ vs) q.1) in
          let of : IsListOf w n u = all_member (IsListOf w n) u (window_lists w n) (all_window w n) there in
          first_is_first w y u v of.within h at_y (earlier us v vs u turn q.1)
  repeated y us v vs e value false h = any_some (same_row (row_at y v)) (row_at y u) (new_rows f w us) there (row_same (row_at y v) (row_at y u) (ap (λ es. row es y) (sym (lowest_entries w y v))))
    where
      u : List Time
      u = lowest w y v

      turn : InTurn (us ++ v ∷ vs)
      turn = subst InTurn (sym e) (window_turn w n)

      here : Member v (window_lists w n)
      here = subst (Member v) e (member_right v us (v ∷ vs) (inl refl))

      of : IsListOf w n v
      of = all_member (IsListOf w n) v (window_lists w n) (all_window w n) here

      starts : list_any is_start v ≡ true
      starts = all_member (λ z. list_any is_start z ≡ true) v (window_lists w n) (all_start w n) here

      many : length u ≡ n
      many = sym ((lowest_agrees w y v).equally_long) ∙ of.many

      in_window : Member u (window_lists w n)
      in_window = member_window w n u many (lowest_within w y v of.within) (lowest_start w y v starts)

      before : Member u us
      before = stands_before us v vs u turn (subst (Member u) (sym e) in_window) (lowest_before w y v of.within h)

      same_value : f u ≡ At y
      same_value = same_early y y (f v) (f u) (omega arith) (causal y v u (lowest_agrees w y v)) value

      there : Member (row_at y u) (new_rows f w us)
      there = member_flat (λ z. new_at w z (f z)) u (row_at y u) us before (new_there w y u (f u) same_value (lowest_first w y v))

  grown : (us : List (List Time)) (v : List Time) (vs : List (List Time)) → us ++ v ∷ vs ≡ window_lists w n → (t : Time) → f v ≡ t → fold with_row (new_rows f w us) (rows_at t v) ≡ new_rows f w us ++ new_at w v t
  grown us v vs e Never h = sym (append-nil (new_rows f w us))
  grown us v vs e (At y) h = go (is_first w y v) refl (repeated y us v vs e h (is_first w y v) refl)
    where
      go : (b : Bool) → is_first w y v ≡ b → list_any (same_row (row_at y v)) (new_rows f w us) ≡ cond (is_first w y v) false true →
          with_row (new_rows f w us) (row_at y v) ≡ new_rows f w us ++ cond (is_first w y v) (row_at y v ∷ []) []
      go true k g =
          let no_such : list_any (same_row (row_at y v)) (new_rows f w us) ≡ false = g ∙ ap (λ (b : Bool). cond b false true) k in
          ap (λ (b : Bool). cond b (new_rows f w us) (new_rows f w us ++ row_at y v ∷ [])) no_such ∙ ap (λ (b : Bool). new_rows f w us ++ cond b (row_at y v ∷ []) []) (sym k)
      go false k g =
          let one_such : list_any (same_row (row_at y v)) (new_rows f w us) ≡ true = g ∙ ap (λ (b : Bool). cond b false true) k in
          ap (λ (b : Bool). cond b (new_rows f w us) (new_rows f w us ++ row_at y v ∷ [])) one_such
          ∙ (sym (append-nil (new_rows f w us)) ∙ ap (λ (b : Bool). new_rows f w us ++ cond b (row_at y v ∷ []) []) (sym k))

  fold_append : (rows more rest : List Row) → fold with_row rows (more ++ rest) ≡ fold with_row (fold with_row rows more) rest
  fold_append rows [] rest = refl
  fold_append rows (r ∷ more) rest = fold_append (with_row rows r) more rest

  once_from : (us vs : List (List Time)) → us ++ vs ≡ window_lists w n → fold with_row (new_rows f w us) (flat_map (λ v. rows_at (f v) v) vs) ≡ new_rows f w (window_lists w n)
  once_from us [] e = ap (new_rows f w) (sym (append-nil us) ∙ e)
  once_from us (v ∷ vs) e =
      let moved : (us ++ v ∷ []) ++ vs ≡ window_lists w n = append_assoc us (v ∷ []) vs ∙ e in
      let all_new : new_rows f w us ++ new_at w v (f v) ≡ new_rows f w (us ++ v ∷ []) = ap (λ l. new_rows f w us ++ l) (sym (append-nil (new_at w v (f v)))) ∙ sym (flat_append f w us (v ∷ [])) in
      fold_append (new_rows f w us) (rows_at (f v) v) (flat_map (λ z. rows_at (f z) z) vs)
      ∙ (ap (λ rows. fold with_row rows (flat_map (λ z. rows_at (f z) z) vs)) (grown us v vs e (f v) refl ∙ all_new) ∙ once_from (us ++ v ∷ []) vs moved)

  pub once : window_rows f w n ≡ new_rows f w (window_lists w n)
  once = once_from [] (window_lists w n) refl

-- ---- what the walk answers

module _ (f : List Time → Time) (w : ℕ) where
  abbrev starting : List (List Time) → List (List Time)
  starting vs = filter (list_any is_start) vs

  abbrev late_of : List (List Time) → Option Time
  late_of vs = find is_late (map f vs)

  done_at : (v : List Time) (vs fs : List (List Time)) (rows out : List Row) → ((more : List Row) → walked f w more vs ≡ Ok out → (late_of fs ≡ None) × (out ≡ more ++ new_rows f w fs)) →
      (t : Time) → and_then (valued w rows v t) (λ more. walked f w more vs) ≡ Ok out → (cond (is_late t) (Some t) (late_of fs) ≡ None) × (out ≡ rows ++ (new_at w v t ++ new_rows f w fs))
  done_at v vs fs rows out rest Never h = rest rows h
  done_at v vs fs rows out rest (At y) h = go (ltb 255 y) (is_first w y v) h
    where
      go : (c d : Bool) → and_then (cond c (Err y) (Ok (cond d (rows ++ row_at y v ∷ []) rows))) (λ more. walked f w more vs) ≡ Ok out → (cond c (Some (At y)) (late_of fs) ≡ None) × (out ≡ rows ++ (cond d (row_at y v ∷ []) [] ++ new_rows f w fs))
      go true d g = absurd (cc)
      go false true g = let q = rest (rows ++ row_at y v ∷ []) g in (q.0, q.1 ∙ append_assoc rows (row_at y v ∷ []) (new_rows f w fs))
      go false false g = rest rows g

  pub done : (vs : List (List Time)) (rows out : List Row) → walked f w rows vs ≡ Ok out → (late_of (starting vs) ≡ None) × (out ≡ rows ++ new_rows f w (starting vs))
  done [] rows out h = let e : rows ≡ out = cc in (refl, sym e ∙ sym (append-nil rows))
  done (v ∷ vs) rows out h = go (list_any is_start v) h (λ more g. done vs more out g)
    where
      go : (b : Bool) → and_then (cond b (valued w rows v (f v)) (Ok rows)) (λ more. walked f w more vs) ≡ Ok out → ((more : List Row) → walked f w more vs ≡ Ok out → (late_of (starting vs) ≡ None) × (out ≡ more ++ new_rows f w (starting vs))) →
          (late_of (cond b (v ∷ starting vs) (starting vs)) ≡ None) × (out ≡ rows ++ new_rows f w (cond b (v ∷ starting vs) (starting vs)))
      go true g rest = done_at v vs (starting vs) rows out rest (f v) g
      go false g rest = rest rows g

  late_at : (y : ℕ) (v : List Time) (vs fs : List (List Time)) (rows : List Row) → ((more : List Row) → walked f w more vs ≡ Err y → late_of fs ≡ Some (At y)) →
      (t : Time) → and_then (valued w rows v t) (λ more. walked f w more vs) ≡ Err y → cond (is_late t) (Some t) (late_of fs) ≡ Some (At y)
  late_at y v vs fs rows rest Never h = rest rows h
  late_at y v vs fs rows rest (At z) h = go (ltb 255 z) (is_first w z v) h
    where
      go : (c d : Bool) → and_then (cond c (Err z) (Ok (cond d (rows ++ row_at z v ∷ []) rows))) (λ more. walked f w more vs) ≡ Err y → cond c (Some (At z)) (late_of fs) ≡ Some (At y)
      go true d g = let k : z ≡ y = cc in ap (λ (m : ℕ). Some (At m)) k
      go false true g = rest (rows ++ row_at z v ∷ []) g
      go false false g = rest rows g

  pub too_late : (y : ℕ) (vs : List (List Time)) (rows : List Row) → walked f w rows vs ≡ Err y → late_of (starting vs) ≡ Some (At y)
  too_late y [] rows h = absurd (cc)
  too_late y (v ∷ vs) rows h = go (list_any is_start v) h (λ more g. too_late y vs more g)
    where
      go : (b : Bool) → and_then (cond b (valued w rows v (f v)) (Ok rows)) (λ more. walked f w more vs) ≡ Err y → ((more : List Row) → walked f w more vs ≡ Err y → late_of (starting vs) ≡ Some (At y)) → late_of (cond b (v ∷ starting vs) (starting vs)) ≡ Some (At y)
      go true g rest = late_at y v vs (starting vs) rows rest (f v) g
      go false g rest = rest rows g

-- the rows of the window are those that the walk leaves
pub walk_rows : (f : List Time → Time) → IsCausal f → (w n : ℕ) (out : List Row) → walked f w [] (time_lists w n) ≡ Ok out → (first_late f w n ≡ None) × (out ≡ window_rows f w n)
walk_rows f causal w n out h = let q = done f w (time_lists w n) [] out h in (q.0, q.1 ∙ sym (once f causal w n))

pub walk_late : (f : List Time → Time) (w n y : ℕ) → walked f w [] (time_lists w n) ≡ Err y → first_late f w n ≡ Some (At y)
walk_late f w n y h = too_late f w y (time_lists w n) [] h
