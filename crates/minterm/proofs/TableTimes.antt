-- The time of a table's term is the table's.
use Rattle.std.proofs.Common.{◌≡◌, ℕ, suc, ◌+◌, ◌<◌, Bool, true, false, List, [], ◌∷◌, length, map, refl, ap, sym, ◌∙◌, subst, arith, Some}
use Rattle.std.specs.Prelude.{fold, if◌then◌else◌, slice_get, IsTrue}
use Rattle.std.specs.List.{AllByRecursion}
use Rattle.rl_time.specs.declared.time.Time.{Time}
use Rattle.rl_time.specs.declared.time.Time.TheVariants.{At, Never}
use Rattle.rl_time.specs.Time.{time_min}
use Rattle.term_store.specs.Tree.{Tree, value}
use Rattle.func_table.specs.Table.{Row, Table}
use Rattle.func_table.specs.Rules.{IsRow, IsTable}
use Rattle.func_table.specs.Function.{least, taken_off, matches, entries_match, row_matches_at, IsMatched, value_at, value_from, table_function}
use Rattle.func_table.specs.Sound.{IsInOrder, AreSound}
use Rattle.minterm.specs.Minterms.{number_terms, dash_terms, together, minterm, earliest, synthesised}
use Rattle.minterm.proofs.RowTimes.{numbers_are, dashes_are, together_is, before_is, joined_min, together_times, before_times, number_times, matched_time, row_is}

abbrev row_time : List Time → Row → Time
row_time x r = matched_time r.out r.entries x (least x)

minterm_is : (x : List Time) (n : ℕ) (r : Row) → IsRow n r → IsInOrder r → length x ≡ n → value x (minterm r) ≡ row_time x r
minterm_is x n r row ordered l =
    let many : length r.entries ≡ length x = row.one_for_each_input ∙ sym l in
    before_is x (together (number_terms r.out 0 r.entries)) (dash_terms 0 r.entries)
    ∙ (ap (λ a. before_times a (map (value x) (dash_terms 0 r.entries))) (together_is x (number_terms r.out 0 r.entries) ∙ ap together_times (numbers_are [] x r.entries r.out many))
    ∙ (ap (before_times (together_times (number_times r.out r.entries x))) (dashes_are [] x r.entries many)
    ∙ row_is r.out r.entries x many ordered.none_greater ordered.some_zero))

minterms_are : (x : List Time) (n : ℕ) (rows : List Row) → AllByRecursion (IsRow n) rows → AllByRecursion IsInOrder rows → length x ≡ n → map (value x) (map minterm rows) ≡ map (row_time x) rows
minterms_are x n [] row ordered l = refl
minterms_are x n (r ∷ rows) row ordered l =
    ap (λ a. a ∷ map (value x) (map minterm rows)) (minterm_is x n r row.0 ordered.0 l) ∙ ap (λ ts. row_time x r ∷ ts) (minterms_are x n rows row.1 ordered.1 l)

-- ---- the earliest of the rows' times, of which at most one is a number

-- no row matches
abbrev NoneMatches : List Time → List Row → Type 0
NoneMatches x rows = (j : ℕ) (s : Row) → slice_get rows j ≡ Some s → IsMatched s x → ⊥

-- no two rows match
abbrev Apart : List Time → List Row → Type 0
Apart x rows = (i j : ℕ) (r s : Row) → i < j → slice_get rows i ≡ Some r → slice_get rows j ≡ Some s → IsMatched r x → IsMatched s x → ⊥

min_after : (a : Time) → time_min a Never ≡ a
min_after (At n) = refl
min_after Never = refl

module _ (x : List Time) (m : ℕ) (is_least : least x ≡ At m) where
  matched : (r : Row) → entries_match r.out r.entries (map (taken_off m) x) ≡ true → IsMatched r x
  matched r h = subst (λ t. IsTrue (row_matches_at r x t)) (sym is_least) h

  time_of : (r : Row) (b : Bool) → entries_match r.out r.entries (map (taken_off m) x) ≡ b → row_time x r ≡ (if b then At (m + r.out) else Never)
  time_of r b e = ap (matched_time r.out r.entries x) is_least ∙ ap (λ (c : Bool). if c then At (m + r.out) else Never) e

  -- a time joined by rows that don't match stays what it is
  none_left : (a : Time) (rows : List Row) → NoneMatches x rows → fold time_min a (map (row_time x) rows) ≡ a
  none_left a [] none = refl
  none_left a (r ∷ rows) none = go (entries_match r.out r.entries (map (taken_off m) x)) refl (none_left a rows (λ j s e h. none (suc j) s e h))
    where
      go : (b : Bool) → entries_match r.out r.entries (map (taken_off m) x) ≡ b → fold time_min a (map (row_time x) rows) ≡ a → fold time_min a (map (row_time x) (r ∷ rows)) ≡ a
      go true e rest = absurd (none 0 r refl (matched r e))
      go false e rest = ap (λ t. fold time_min (time_min a t) (map (row_time x) rows)) (time_of r false e) ∙ (ap (λ t. fold time_min t (map (row_time x) rows)) (min_after a) ∙ rest)

  pub first_is : (rows : List Row) → Apart x rows → fold time_min Never (map (row_time x) rows) ≡ value_at rows x m
  first_is [] apart = refl
  first_is (r ∷ rows) apart = go (entries_match r.out r.entries (map (taken_off m) x)) refl (first_is rows (λ i j a b lt e f. apart (suc i) (suc j) a b (omega (arith, lt)) e f))
    where
      go : (b : Bool) → entries_match r.out r.entries (map (taken_off m) x) ≡ b → fold time_min Never (map (row_time x) rows) ≡ value_at rows x m →
          fold time_min (row_time x r) (map (row_time x) rows) ≡ (if matches r (map (taken_off m) x) then At (m + r.out) else value_at rows x m)
      go true e rest =
          ap (λ t. fold time_min t (map (row_time x) rows)) (time_of r true e)
          ∙ (none_left (At (m + r.out)) rows (λ j s f h. apart 0 (suc j) r s (omega arith) refl f (matched r e) h) ∙ ap (λ (b : Bool). if b then At (m + r.out) else value_at rows x m) (sym e))
      go false e rest =
          ap (λ t. fold time_min t (map (row_time x) rows)) (time_of r false e) ∙ (rest ∙ ap (λ (b : Bool). if b then At (m + r.out) else value_at rows x m) (sym e))

all_never : (x : List Time) (rows : List Row) → least x ≡ Never → fold time_min Never (map (row_time x) rows) ≡ Never
all_never x [] e = refl
all_never x (r ∷ rows) e = ap (λ t. fold time_min (matched_time r.out r.entries x t) (map (row_time x) rows)) e ∙ all_never x rows e

earliest_is : (x : List Time) (ts : List Tree) → value x (earliest ts) ≡ fold time_min Never (map (value x) ts)
earliest_is x [] = refl
earliest_is x (t ∷ ts) = joined_min x t ts

rows_are : (x : List Time) (rows : List Row) → Apart x rows → (t : Time) → least x ≡ t → fold time_min Never (map (row_time x) rows) ≡ value_from rows x t
rows_are x rows apart (At m) e = first_is x m e rows apart
rows_are x rows apart Never e = all_never x rows e

pub table_is : (t : Table) (x : List Time) → IsTable t → AreSound t.rows → length x ≡ length t.inputs → value x (synthesised t) ≡ table_function t.rows x
table_is t x table sound l =
    earliest_is x (map minterm t.rows)
    ∙ (ap (fold time_min Never) (minterms_are x (length t.inputs) t.rows table.rows sound.in_order l)
    ∙ rows_are x t.rows (λ i j r s lt e f p q. sound.apart i j r s lt e f (x, p, q)) (least x) refl)
