-- The function of sound rows is causal.
use Rattle.std.proofs.Common.{◌≡◌, ℕ, zero, suc, ◌+◌, ◌≤◌, ◌<◌, Bool, true, false, cond, List, [], ◌∷◌, map, refl, ap, sym, ◌∙◌, subst, arith, Option, Some, None, inl, inr}
use Rattle.std.specs.Prelude.{◌⊎◌, slice_get}
use Rattle.std.specs.List.{AllByRecursion}
use Rattle.std.proofs.lemmas.Bool.{cases_lt}
use Rattle.rl_time.specs.declared.time.Time.{Time}
use Rattle.rl_time.specs.declared.time.Time.TheVariants.{At, Never}
use Rattle.func_table.specs.Table.{Row}
use Rattle.func_table.specs.Rules.{IsUpTo}
use Rattle.func_table.specs.Function.{least, taken_off, matches, IsMatched, value_at, value_from, table_function}
use Rattle.func_table.specs.Sound.{IsInOrder, AreSound}
use Rattle.spike_eval.specs.Causal.{IsAfter, Agree, AllAgree, IsCausal}
use Rattle.causality.proofs.Fitting.{Fits, fits_at, least_is, matched}

-- ---- lists that agree

pub agree_rest : (t : ℕ) (a b : Time) (x y : List Time) → AllAgree t (a ∷ x) (b ∷ y) → AllAgree t x y
agree_rest t a b x y h = let e = h.equally_long in record { equally_long = omega (arith, e); in_every_place = λ i lt. h.in_every_place (suc i) (omega (arith, lt)) }

pub agree_first : (t : ℕ) (a b : Time) (x y : List Time) → AllAgree t (a ∷ x) (b ∷ y) → Agree t a b
agree_first t a b x y h = h.in_every_place 0 (omega arith)

pub turned : (t : ℕ) (a b : Time) → Agree t a b → Agree t b a
turned t a b (inl e) = inl (sym e)
turned t a b (inr p) = inr (p.1, p.0)

pub all_turned : (t : ℕ) (x y : List Time) → AllAgree t x y → AllAgree t y x
all_turned t x y h = let e = h.equally_long in record { equally_long = sym e; in_every_place = λ i lt. turned t _ _ (h.in_every_place i (omega (arith, lt, e))) }

-- a time up to t is the same in both
pub same_early : (t v : ℕ) (a b : Time) → v ≤ t → Agree t a b → a ≡ At v → b ≡ At v
same_early t v a b le (inl e) f = sym e ∙ f
same_early t v a b le (inr p) f = let l : t < v = subst (IsAfter t) f p.0 in absurd (omega (arith, l, le))

pub still_after : (t v : ℕ) (a b : Time) → v ≤ t → Agree t a b → IsAfter v a → IsAfter v b
still_after t v a b le (inl e) h = subst (IsAfter v) e h
still_after t v a (At n) le (inr p) h = let q = p.1 in omega (arith, q, le)
still_after t v a Never le (inr p) h = tt

fits_too : (t m y : ℕ) (es : List (Option ℕ)) (xs zs : List Time) → m + y ≤ t → AllByRecursion (IsUpTo y) es → AllAgree t xs zs → Fits m y es xs → Fits m y es zs
fits_too t m y [] [] [] le u h f = tt
fits_too t m y [] [] (b ∷ zs) le u h f = let e = h.equally_long in absurd (omega (arith, e))
fits_too t m y [] (a ∷ xs) zs le u h f = absurd f
fits_too t m y (Some e ∷ es) [] zs le u h f = absurd f
fits_too t m y (None ∷ es) [] zs le u h f = absurd f
fits_too t m y (e ∷ es) (a ∷ xs) [] le u h f = let k = h.equally_long in absurd (omega (arith, k))
fits_too t m y (Some e ∷ es) (a ∷ xs) (b ∷ zs) le u h f =
    let low = u.0 in
    (same_early t (m + e) a b (omega (arith, le, low)) (agree_first t a b xs zs h) f.0, fits_too t m y es xs zs le u.1 (agree_rest t a b xs zs h) f.1)
fits_too t m y (None ∷ es) (a ∷ xs) (b ∷ zs) le u h f =
    (still_after t (m + y) a b le (agree_first t a b xs zs h) f.0, fits_too t m y es xs zs le u.1 (agree_rest t a b xs zs h) f.1)

-- ---- the row that gives a number

pub record Hit (rows : List Row) (x : List Time) (v : ℕ) : Type 0 where
  pub place : ℕ
  pub row : Row
  pub at : slice_get rows place ≡ Some row
  pub first : ℕ
  pub fits : Fits first row.out row.entries x
  pub sum : v ≡ first + row.out

further : (r : Row) (rows : List Row) (x : List Time) (v : ℕ) → Hit rows x v → Hit (r ∷ rows) x v
further r rows x v h = record { place = suc h.place; row = h.row; at = h.at; first = h.first; fits = h.fits; sum = h.sum }

hit_at : (rows : List Row) (x : List Time) (v m : ℕ) → least x ≡ At m → value_at rows x m ≡ At v → Hit rows x v
hit_at [] x v m e h = absurd (cc)
hit_at (r ∷ rows) x v m e h = go (λ g. hit_at rows x v m e g) (matches r (map (taken_off m) x)) refl h
  where
    go : (value_at rows x m ≡ At v → Hit rows x v) → (b : Bool) → matches r (map (taken_off m) x) ≡ b → cond b (At (m + r.out)) (value_at rows x m) ≡ At v → Hit (r ∷ rows) x v
    go rest true f g = let k : v ≡ m + r.out = cc in record { place = 0; row = r; at = refl; first = m; fits = fits_at r x m e f; sum = k }
    go rest false f g = further r rows x v (rest g)

pub hit : (rows : List Row) (x : List Time) (v : ℕ) → table_function rows x ≡ At v → Hit rows x v
hit rows x v h = go (least x) refl h
  where
    go : (t : Time) → least x ≡ t → value_from rows x t ≡ At v → Hit rows x v
    go (At m) e g = hit_at rows x v m e g
    go Never e g = absurd (cc)

pub row_at : (P : Row → Type 0) (rows : List Row) (i : ℕ) (r : Row) → AllByRecursion P rows → slice_get rows i ≡ Some r → P r
row_at P [] i r h e = absurd (cc)
row_at P (s ∷ rows) zero r h e = let k : s ≡ r = cc in subst P k h.0
row_at P (s ∷ rows) (suc i) r h e = row_at P rows i r h.1 e

-- ---- causal

-- what a matching row says of the value
abbrev pub RowsDecide : Type 0
RowsDecide = (rows : List Row) (i : ℕ) (r : Row) (x : List Time) (m : ℕ) → AreSound rows → slice_get rows i ≡ Some r → IsMatched r x → least x ≡ At m → table_function rows x ≡ At (m + r.out)

module _ (decides : RowsDecide) (rows : List Row) (sound : AreSound rows) where
  follows : (t v : ℕ) (x y : List Time) → AllAgree t x y → v ≤ t → table_function rows x ≡ At v → table_function rows y ≡ At v
  follows t v x y h le e =
      let a = hit rows x v e in
      let ordered : IsInOrder a.row = row_at IsInOrder rows a.place a.row sound.in_order a.at in
      let k = a.sum in
      let f = fits_too t a.first a.row.out a.row.entries x y (omega (arith, k, le)) ordered.none_greater h a.fits in
      decides rows a.place a.row y a.first sound a.at (matched a.row y a.first ordered f) (least_is a.row y a.first ordered f) ∙ ap At (sym k)

  judged : (t : ℕ) (a b : Time) → ((v : ℕ) → v ≤ t → a ≡ At v → b ≡ At v) → ((v : ℕ) → v ≤ t → b ≡ At v → a ≡ At v) → Agree t a b
  judged t (At a) (At b) f g = go (cases_lt t a) (cases_lt t b)
    where
      go : (t < a) ⊎ (a ≤ t) → (t < b) ⊎ (b ≤ t) → Agree t (At a) (At b)
      go (inl p) (inl q) = inr (p, q)
      go (inr p) q = inl (sym (f a p refl))
      go (inl p) (inr q) = inl (g b q refl)
  judged t (At a) Never f g = go (cases_lt t a)
    where
      go : (t < a) ⊎ (a ≤ t) → Agree t (At a) Never
      go (inl p) = inr (p, tt)
      go (inr p) = inl (sym (f a p refl))
  judged t Never (At b) f g = go (cases_lt t b)
    where
      go : (t < b) ⊎ (b ≤ t) → Agree t Never (At b)
      go (inl p) = inr (tt, p)
      go (inr p) = inl (g b p refl)
  judged t Never Never f g = inl refl

  pub causal : IsCausal (table_function rows)
  causal t x y h = judged t _ _ (λ v le e. follows t v x y h le e) (λ v le e. follows t v y x (all_turned t x y h) le e)
