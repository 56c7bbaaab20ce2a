-- A table's term needs no more register bits than a module may have.
use Rattle.std.proofs.Common.{ℕ, suc, ◌≤◌, ◌-◌, ◌+◌, ◌*◌, arith, Bool, true, false, nat_eq, length, List, [], ◌∷◌, map, if◌then◌else◌, Option, Some, None}
use Rattle.std.specs.List.{AllByRecursion}
use Rattle.term_store.specs.Tree.{Tree, Never, Input, Min, Max, Lt, Inc}
use Rattle.term_store.specs.Terms.{delayed}
use Rattle.term_store.specs.Subterms.{IsShortDelay, IsInputBelow, distinct_subterms, join_count, delay_count, register_bits}
use Rattle.func_table.specs.Table.{Row, Table}
use Rattle.func_table.specs.Rules.{IsRow, IsTable}
use Rattle.minterm.specs.Minterms.{number_terms, dash_terms, together, minterm, synthesised}
use Rattle.minterm.proofs.FewTerms.{Keeps, Each, each_keeps, each_once, together_keeps, before_keeps, earliest_keeps, all_minterms, are_few}

-- inputs are delayed by at most 255 cycles, and other parts of the term by one
abbrev AreShort : Tree → Type 0
AreShort t = Each (IsShortDelay 255) t

short_keeps : Keeps AreShort
short_keeps = each_keeps (IsShortDelay 255) (record { never = tt; min = λ a b. tt; max = λ a b. tt; lt = λ a b. tt })

one_later : (t : Tree) → IsShortDelay 255 (Inc t 1)
one_later Never = omega arith
one_later (Input i) = omega arith
one_later (Min a b) = omega arith
one_later (Max a b) = omega arith
one_later (Lt a b) = omega arith
one_later (Inc a c) = omega arith

delayed_short : (i c : ℕ) → c ≤ 255 → AreShort (delayed (Input i) c)
delayed_short i c h = go (nat_eq c 0)
  where
    go : (b : Bool) → AreShort (if b then Input i else Inc (Input i) c)
    go true = (tt, tt)
    go false = (h, (tt, tt))

numbers_short : (y i : ℕ) (es : List (Option ℕ)) → y ≤ 255 → AllByRecursion AreShort (number_terms y i es)
numbers_short y i [] h = tt
numbers_short y i (Some e ∷ es) h = (delayed_short i (y - e) (omega (arith, h)), numbers_short y (suc i) es h)
numbers_short y i (None ∷ es) h = numbers_short y (suc i) es h

dashes_short : (i : ℕ) (es : List (Option ℕ)) → AllByRecursion AreShort (dash_terms i es)
dashes_short i [] = tt
dashes_short i (Some e ∷ es) = dashes_short (suc i) es
dashes_short i (None ∷ es) = ((tt, tt), dashes_short (suc i) es)

minterm_short : (n : ℕ) (r : Row) → IsRow n r → AreShort (minterm r)
minterm_short n r row =
    before_keeps AreShort short_keeps (together (number_terms r.out 0 r.entries)) (dash_terms 0 r.entries)
    (together_keeps AreShort AreShort short_keeps short_keeps (λ t h. h) (λ t h. (one_later t, h)) (number_terms r.out 0 r.entries) (numbers_short r.out 0 r.entries row.small_out))
    (dashes_short 0 r.entries)

table_short : (t : Table) → IsTable t → AreShort (synthesised t)
table_short t table = earliest_keeps AreShort short_keeps (map minterm t.rows) (all_minterms AreShort (length t.inputs) t.rows (minterm_short (length t.inputs)) table.rows)

-- what is known of the register bits of terms with short delays
abbrev pub NeedFewBits : Type 0
NeedFewBits = (m inputs : ℕ) (trees : List Tree) → 1 ≤ m → AllByRecursion (IsInputBelow inputs) (distinct_subterms trees) →
    AllByRecursion (IsShortDelay m) (distinct_subterms trees) → register_bits trees ≤ m * inputs + delay_count trees + join_count trees

-- 255 for each of 16 inputs, and 1 for each of 16,384 inc and as many min, max and lt
pub are_few_bits : NeedFewBits → (t : Table) → IsTable t → register_bits (synthesised t ∷ []) ≤ 65536
are_few_bits few_bits t table =
    let few = are_few t table in
    omega (arith, few_bits 255 (length t.inputs) (synthesised t ∷ []) (omega arith) few.inputs (each_once (IsShortDelay 255) (synthesised t) (table_short t table)), few.few_joins, few.few_delays, table.few_inputs)
