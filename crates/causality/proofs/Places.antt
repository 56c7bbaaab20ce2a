-- Two rows in order match the same times exactly where their entries agree in every place.
use Rattle.std.proofs.Common.{◌≡◌, ℕ, ◌+◌, ◌≤◌, ◌<◌, Bool, true, false, true≢false, List, [], ◌∷◌, length, refl, ap, sym, ◌∙◌, subst, arith, Option, Some, None}
use Rattle.std.specs.Prelude.{◌==◌, ◌↔◌, nat_lt, nat_le, IsTrue, if◌then◌else◌}
use Rattle.std.specs.List.{AllByRecursion}
use Rattle.std.proofs.lemmas.Bool.{and_parts, and_from, leb-true, leb-false}
use Rattle.std.proofs.lemmas.Bool.Decides.{nat_tests}
use Rattle.rl_time.specs.declared.time.Time.{Time}
use Rattle.rl_time.specs.declared.time.Time.TheVariants.{At, Never}
use Rattle.func_table.specs.Table.{Row}
use Rattle.func_table.specs.Rules.{IsUpTo}
use Rattle.func_table.specs.Sound.{IsInOrder, Conflict}
use Rattle.spike_eval.specs.Causal.{IsAfter}
use Rattle.causality.specs.Places.{agree, entries_agree, places_agree}
use Rattle.causality.proofs.Fitting.{Fits, Met, met, matched}

same_time : (m a b : ℕ) (t : Time) → t ≡ At (m + a) → t ≡ At (m + b) → a ≡ b
same_time m a b t e f = let g : At (m + a) ≡ At (m + b) = sym e ∙ f in let n : m + a ≡ m + b = cc in omega (arith, n)

after_at : (m y b : ℕ) (t : Time) → IsAfter (m + y) t → t ≡ At (m + b) → y < b
after_at m y b t h e = let l : m + y < m + b = subst (IsAfter (m + y)) e h in omega (arith, l)

agree_from : (m y z : ℕ) (es fs : List (Option ℕ)) (xs : List Time) → y ≤ z → AllByRecursion (IsUpTo y) es → Fits m y es xs → Fits m z fs xs → entries_agree y es fs ≡ true
agree_from m y z [] fs xs le u f g = refl
agree_from m y z (e ∷ es) [] xs le u f g = refl
agree_from m y z (Some a ∷ es) (b ∷ fs) [] le u f g = absurd f
agree_from m y z (None ∷ es) (b ∷ fs) [] le u f g = absurd f
agree_from m y z (Some a ∷ es) (Some b ∷ fs) (t ∷ xs) le u f g =
    let e : a ≡ b = same_time m a b t f.0 g.0 in
    let here : agree y (Some a) (Some b) ≡ true = grind (arith, nat_tests) in
    and_from _ _ here (agree_from m y z es fs xs le u.1 f.1 g.1)
agree_from m y z (Some a ∷ es) (None ∷ fs) (t ∷ xs) le u f g =
    let l : z < a = after_at m z a t g.0 f.0 in absurd (omega (arith, l, u.0, le))
agree_from m y z (None ∷ es) (Some b ∷ fs) (t ∷ xs) le u f g =
    let l : y < b = after_at m y b t f.0 g.0 in
    let here : agree y None (Some b) ≡ true = grind (arith, nat_tests) in
    and_from _ _ here (agree_from m y z es fs xs le u.1 f.1 g.1)
agree_from m y z (None ∷ es) (None ∷ fs) (t ∷ xs) le u f g = agree_from m y z es fs xs le u.1 f.1 g.1

-- times that both match
shared : List (Option ℕ) → List (Option ℕ) → List Time
shared (Some a ∷ es) (b ∷ fs) = At a ∷ shared es fs
shared (None ∷ es) (Some b ∷ fs) = At b ∷ shared es fs
shared (None ∷ es) (None ∷ fs) = Never ∷ shared es fs
shared _ _ = []

shared_fits : (y z : ℕ) (es fs : List (Option ℕ)) → length es ≡ length fs → entries_agree y es fs ≡ true → Fits 0 y es (shared es fs) × Fits 0 z fs (shared es fs)
unfolding shared
shared_fits y z [] [] l h = (tt, tt)
shared_fits y z [] (b ∷ fs) l h = absurd (omega (arith, l))
shared_fits y z (e ∷ es) [] l h = absurd (omega (arith, l))
shared_fits y z (Some a ∷ es) (Some b ∷ fs) l h =
    let p = and_parts (agree y (Some a) (Some b)) (entries_agree y es fs) h in
    let k : (a == b) ≡ true = p.0 in
    let e : a ≡ b = grind (arith, nat_tests) in
    let rest = shared_fits y z es fs (omega (arith, l)) p.1 in
    let here : a ≡ 0 + a = omega arith in
    let there : a ≡ 0 + b = omega (arith, e) in
    ((ap At here, rest.0), (ap At there, rest.1))
shared_fits y z (Some a ∷ es) (None ∷ fs) l h = absurd (cc)
shared_fits y z (None ∷ es) (Some b ∷ fs) l h =
    let p = and_parts (agree y None (Some b)) (entries_agree y es fs) h in
    let k : nat_lt y b ≡ true = p.0 in
    let less : 0 + y < b = grind (arith, nat_tests) in
    let rest = shared_fits y z es fs (omega (arith, l)) p.1 in
    let there : b ≡ 0 + b = omega arith in
    ((less, rest.0), (ap At there, rest.1))
shared_fits y z (None ∷ es) (None ∷ fs) l h = let rest = shared_fits y z es fs (omega (arith, l)) h in ((tt, rest.0), (tt, rest.1))

-- rows that match the same times fit them with the same number taken off
pub both_fit : (r s : Row) (x : List Time) (a : Met r x) (b : Met s x) → Fits a.first s.out s.entries x
both_fit r s x a b =
    let e : At b.first ≡ At a.first = sym b.is ∙ a.is in
    let k : b.first ≡ a.first = cc in
    subst (λ (m : ℕ). Fits m s.out s.entries x) k b.fits

from_conflict : (r s : Row) → IsInOrder r → r.out ≤ s.out → Conflict r s → entries_agree r.out r.entries s.entries ≡ true
from_conflict r s ordered le c =
    let a = met r c.0 c.1 in
    let b = met s c.0 c.2 in
    agree_from a.first r.out s.out r.entries s.entries c.0 le ordered.none_greater a.fits (both_fit r s c.0 a b)

to_conflict : (r s : Row) → IsInOrder r → IsInOrder s → length r.entries ≡ length s.entries → entries_agree r.out r.entries s.entries ≡ true → Conflict r s
to_conflict r s p q l h =
    let f = shared_fits r.out s.out r.entries s.entries l h in
    (shared r.entries s.entries, matched r _ 0 p f.0, matched s _ 0 q f.1)

pub by_places : (r s : Row) → IsInOrder r → IsInOrder s → length r.entries ≡ length s.entries → r.out ≤ s.out → (Conflict r s ↔ IsTrue (entries_agree r.out r.entries s.entries))
by_places r s p q l le = (from_conflict r s p le, to_conflict r s p q l)

-- ---- in any order of the outputs

turned : (r s : Row) → Conflict r s → Conflict s r
turned r s c = (c.0, c.2, c.1)

pub conflict_from : (r s : Row) → IsInOrder r → IsInOrder s → length r.entries ≡ length s.entries → places_agree r s ≡ true → Conflict r s
conflict_from r s p q l h = go (nat_le r.out s.out) refl h
  where
    go : (b : Bool) → nat_le r.out s.out ≡ b → (if b then entries_agree r.out r.entries s.entries else entries_agree s.out s.entries r.entries) ≡ true → Conflict r s
    go true e g = to_conflict r s p q l g
    go false e g = turned s r (to_conflict s r q p (sym l) g)

pub no_conflict_from : (r s : Row) → IsInOrder r → IsInOrder s → places_agree r s ≡ false → Conflict r s → ⊥
no_conflict_from r s p q h c = go (nat_le r.out s.out) refl h
  where
    go : (b : Bool) → nat_le r.out s.out ≡ b → (if b then entries_agree r.out r.entries s.entries else entries_agree s.out s.entries r.entries) ≡ false → ⊥
    go true e g = true≢false (sym (from_conflict r s p (leb-true r.out s.out e) c) ∙ g)
    go false e g = let lt = leb-false r.out s.out e in true≢false (sym (from_conflict s r q (omega (arith, lt)) (turned r s c)) ∙ g)

-- ---- rows of one output

same_entries : (m y : ℕ) (es fs : List (Option ℕ)) (xs : List Time) → AllByRecursion (IsUpTo y) es → AllByRecursion (IsUpTo y) fs → Fits m y es xs → Fits m y fs xs → es ≡ fs
same_entries m y [] [] xs u v f g = refl
same_entries m y [] (Some b ∷ fs) [] u v f g = absurd g
same_entries m y [] (None ∷ fs) [] u v f g = absurd g
same_entries m y [] (b ∷ fs) (t ∷ xs) u v f g = absurd f
same_entries m y (Some a ∷ es) [] [] u v f g = absurd f
same_entries m y (None ∷ es) [] [] u v f g = absurd f
same_entries m y (e ∷ es) [] (t ∷ xs) u v f g = absurd g
same_entries m y (Some a ∷ es) (b ∷ fs) [] u v f g = absurd f
same_entries m y (None ∷ es) (b ∷ fs) [] u v f g = absurd f
same_entries m y (Some a ∷ es) (Some b ∷ fs) (t ∷ xs) u v f g =
    let e : a ≡ b = same_time m a b t f.0 g.0 in
    let rest = same_entries m y es fs xs u.1 v.1 f.1 g.1 in cc
same_entries m y (Some a ∷ es) (None ∷ fs) (t ∷ xs) u v f g = let l : y < a = after_at m y a t g.0 f.0 in absurd (omega (arith, l, u.0))
same_entries m y (None ∷ es) (Some b ∷ fs) (t ∷ xs) u v f g = let l : y < b = after_at m y b t f.0 g.0 in absurd (omega (arith, l, v.0))
same_entries m y (None ∷ es) (None ∷ fs) (t ∷ xs) u v f g = ap (λ (l : List (Option ℕ)). None ∷ l) (same_entries m y es fs xs u.1 v.1 f.1 g.1)

row : List (Option ℕ) → ℕ → Row
row entries out = record { entries = entries; out = out }

-- rows that match the same times and have one output are the same
pub same_rows : (r s : Row) → IsInOrder r → IsInOrder s → Conflict r s → r.out ≡ s.out → r ≡ s
unfolding row
same_rows r s p q c e =
    let a = met r c.0 c.1 in
    let b = met s c.0 c.2 in
    let other : Fits a.first r.out s.entries c.0 = subst (λ (y : ℕ). Fits a.first y s.entries c.0) (sym e) (both_fit r s c.0 a b) in
    let low : AllByRecursion (IsUpTo r.out) s.entries = subst (λ (y : ℕ). AllByRecursion (IsUpTo y) s.entries) (sym e) q.none_greater in
    let entries : r.entries ≡ s.entries = same_entries a.first r.out r.entries s.entries c.0 p.none_greater low a.fits other in
    ap (λ (es : List (Option ℕ)). row es r.out) entries ∙ ap (λ (y : ℕ). row s.entries y) e
