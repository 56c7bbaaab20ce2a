-- A table's term keeps the limits of a network's terms.
use Rattle.std.proofs.Common.{◌≡◌, ℕ, suc, ◌<◌, ◌≤◌, ◌+◌, ◌-◌, ◌*◌, refl, ap, subst, arith, sym, ◌∙◌, Bool, true, false, nat_eq, length, List, [], ◌∷◌, ◌++◌, map, filter, append-nil, length-append, if◌then◌else◌, Option, Some, None}
use Rattle.std.specs.List.{AllByRecursion}
use Rattle.std.proofs.lemmas.List.Elements.{filter-append}
use Rattle.term_store.specs.Tree.{Tree, Never, Input, Min, Max, Lt, Inc, span}
use Rattle.term_store.specs.Terms.{delayed}
use Rattle.term_store.specs.Subterms.{subterms, all_subterms, is_among, distinct, distinct_subterms, is_join, is_delay, IsInputBelow, AreNetworkTerms}
use Rattle.func_table.specs.Table.{Row, Table}
use Rattle.func_table.specs.Rules.{IsRow, IsTable}
use Rattle.minterm.specs.Minterms.{number_terms, dash_terms, joined, together, before_all, minterm, earliest, synthesised}
use Rattle.minterm.proofs.Entries.{all_entries}

-- ---- how many subterms pass a test, each as often as it is written

abbrev count : (Tree → Bool) → Tree → ℕ
count p t = length (filter p (subterms t))

-- of these terms, each joined by one that counts w
abbrev total : (Tree → Bool) → ℕ → List Tree → ℕ
total p w [] = 0
total p w (t ∷ ts) = w + count p t + total p w ts

both_parts : (p : Tree → Bool) (xs ys : List Tree) → length (filter p (xs ++ ys)) ≡ length (filter p xs) + length (filter p ys)
both_parts p xs ys = ap length (filter-append p xs ys) ∙ length-append (filter p xs) (filter p ys)

-- the operator counts w
abbrev Weighs : (Tree → Bool) → ℕ → (Tree → Tree → Tree) → Type 0
Weighs p w op = (a b : Tree) → count p (op a b) ≡ w + count p a + count p b

joins_min : Weighs is_join 1 Min
joins_min a b = omega (arith, both_parts is_join (subterms a) (subterms b))

joins_max : Weighs is_join 1 Max
joins_max a b = omega (arith, both_parts is_join (subterms a) (subterms b))

joins_lt : Weighs is_join 1 Lt
joins_lt a b = omega (arith, both_parts is_join (subterms a) (subterms b))

delays_min : Weighs is_delay 0 Min
delays_min a b = omega (arith, both_parts is_delay (subterms a) (subterms b))

delays_max : Weighs is_delay 0 Max
delays_max a b = omega (arith, both_parts is_delay (subterms a) (subterms b))

delays_lt : Weighs is_delay 0 Lt
delays_lt a b = omega (arith, both_parts is_delay (subterms a) (subterms b))

joined_weighs : (p : Tree → Bool) (w : ℕ) (op : Tree → Tree → Tree) → Weighs p w op → (t : Tree) (us : List Tree) → count p (joined op t us) ≡ count p t + total p w us
joined_weighs p w op h t [] = omega arith
joined_weighs p w op h t (u ∷ us) = omega (arith, joined_weighs p w op h (op t u) us, h t u)

together_joins : (ts : List Tree) → count is_join (together ts) ≤ 2 * total is_join 1 ts
together_joins [] = omega arith
together_joins (t ∷ []) = omega arith
together_joins (t ∷ u ∷ ts) =
    omega (
      arith,
      joins_lt (joined Max t (u ∷ ts)) (Inc (joined Min t (u ∷ ts)) 1),
      joined_weighs is_join 1 Max joins_max t (u ∷ ts),
      joined_weighs is_join 1 Min joins_min t (u ∷ ts),
    )

together_delays : (ts : List Tree) → count is_delay (together ts) ≤ 2 * total is_delay 0 ts + 1
together_delays [] = omega arith
together_delays (t ∷ []) = omega arith
together_delays (t ∷ u ∷ ts) =
    omega (
      arith,
      delays_lt (joined Max t (u ∷ ts)) (Inc (joined Min t (u ∷ ts)) 1),
      joined_weighs is_delay 0 Max delays_max t (u ∷ ts),
      joined_weighs is_delay 0 Min delays_min t (u ∷ ts),
    )

before_joins : (t : Tree) (us : List Tree) → count is_join (before_all t us) ≤ count is_join t + total is_join 1 us
before_joins t [] = omega arith
before_joins t (u ∷ us) = omega (arith, joins_lt t (joined Min u us), joined_weighs is_join 1 Min joins_min u us)

before_delays : (t : Tree) (us : List Tree) → count is_delay (before_all t us) ≤ count is_delay t + total is_delay 0 us
before_delays t [] = omega arith
before_delays t (u ∷ us) = omega (arith, delays_lt t (joined Min u us), joined_weighs is_delay 0 Min delays_min u us)

earliest_joins : (ts : List Tree) → count is_join (earliest ts) ≤ total is_join 1 ts
earliest_joins [] = omega arith
earliest_joins (t ∷ ts) = omega (arith, joined_weighs is_join 1 Min joins_min t ts)

earliest_delays : (ts : List Tree) → count is_delay (earliest ts) ≤ total is_delay 0 ts
earliest_delays [] = omega arith
earliest_delays (t ∷ ts) = omega (arith, joined_weighs is_delay 0 Min delays_min t ts)

-- ---- the terms of entries

delayed_joins : (i c : ℕ) → count is_join (delayed (Input i) c) ≡ 0
delayed_joins i c = go (nat_eq c 0)
  where
    go : (b : Bool) → count is_join (if b then Input i else Inc (Input i) c) ≡ 0
    go true = refl
    go false = refl

delayed_delays : (i c : ℕ) → count is_delay (delayed (Input i) c) ≤ 1
delayed_delays i c = go (nat_eq c 0)
  where
    go : (b : Bool) → count is_delay (if b then Input i else Inc (Input i) c) ≤ 1
    go true = omega arith
    go false = omega arith

number_joins : (y i : ℕ) (es : List (Option ℕ)) → total is_join 1 (number_terms y i es) ≡ length (number_terms y i es)
number_joins y i [] = refl
number_joins y i (Some e ∷ es) = omega (arith, delayed_joins i (y - e), number_joins y (suc i) es)
number_joins y i (None ∷ es) = number_joins y (suc i) es

number_delays : (y i : ℕ) (es : List (Option ℕ)) → total is_delay 0 (number_terms y i es) ≤ length (number_terms y i es)
number_delays y i [] = omega arith
number_delays y i (Some e ∷ es) = omega (arith, delayed_delays i (y - e), number_delays y (suc i) es)
number_delays y i (None ∷ es) = number_delays y (suc i) es

dash_joins : (i : ℕ) (es : List (Option ℕ)) → total is_join 1 (dash_terms i es) ≡ length (dash_terms i es)
dash_joins i [] = refl
dash_joins i (Some e ∷ es) = dash_joins (suc i) es
dash_joins i (None ∷ es) = omega (arith, dash_joins (suc i) es)

dash_delays : (i : ℕ) (es : List (Option ℕ)) → total is_delay 0 (dash_terms i es) ≡ 0
dash_delays i [] = refl
dash_delays i (Some e ∷ es) = dash_delays (suc i) es
dash_delays i (None ∷ es) = omega (arith, dash_delays (suc i) es)

minterm_joins : (n : ℕ) (r : Row) → n ≤ 16 → IsRow n r → count is_join (minterm r) ≤ 32
minterm_joins n r few row =
    omega (
      arith,
      few,
      row.one_for_each_input,
      before_joins (together (number_terms r.out 0 r.entries)) (dash_terms 0 r.entries),
      together_joins (number_terms r.out 0 r.entries),
      number_joins r.out 0 r.entries,
      dash_joins 0 r.entries,
      all_entries r.out 0 0 r.entries,
    )

minterm_delays : (n : ℕ) (r : Row) → n ≤ 16 → IsRow n r → count is_delay (minterm r) ≤ 33
minterm_delays n r few row =
    omega (
      arith,
      few,
      row.one_for_each_input,
      before_delays (together (number_terms r.out 0 r.entries)) (dash_terms 0 r.entries),
      together_delays (number_terms r.out 0 r.entries),
      number_delays r.out 0 r.entries,
      dash_delays 0 r.entries,
      all_entries r.out 0 0 r.entries,
    )

rows_joins : (n : ℕ) (rows : List Row) → n ≤ 16 → AllByRecursion (IsRow n) rows → total is_join 1 (map minterm rows) ≤ 33 * length rows
rows_joins n [] few all = omega arith
rows_joins n (r ∷ rows) few all = omega (arith, minterm_joins n r few all.0, rows_joins n rows few all.1)

rows_delays : (n : ℕ) (rows : List Row) → n ≤ 16 → AllByRecursion (IsRow n) rows → total is_delay 0 (map minterm rows) ≤ 33 * length rows
rows_delays n [] few all = omega arith
rows_delays n (r ∷ rows) few all = omega (arith, minterm_delays n r few all.0, rows_delays n rows few all.1)

-- ---- each once is no more

wider : (c : Bool) (t : Tree) (xs ys : List Tree) → length xs ≤ length ys → length xs ≤ length (if c then t ∷ ys else ys)
wider true t xs ys h = omega (arith, h)
wider false t xs ys h = h

both_wider : (c : Bool) (t : Tree) (xs ys : List Tree) → length xs ≤ length ys → length (if c then t ∷ xs else xs) ≤ length (if c then t ∷ ys else ys)
both_wider true t xs ys h = omega (arith, h)
both_wider false t xs ys h = h

once_less : (p : Tree → Bool) (ts : List Tree) → length (filter p (distinct ts)) ≤ length (filter p ts)
once_less p [] = omega arith
once_less p (t ∷ ts) = go (is_among t ts) (once_less p ts)
  where
    go : (b : Bool) → length (filter p (distinct ts)) ≤ length (filter p ts) → length (filter p (if b then distinct ts else t ∷ distinct ts)) ≤ length (filter p (t ∷ ts))
    go true h = wider (p t) t (filter p (distinct ts)) (filter p ts) h
    go false h = both_wider (p t) t (filter p (distinct ts)) (filter p ts) h

one_term : (p : Tree → Bool) (t : Tree) → length (filter p (distinct_subterms (t ∷ []))) ≤ count p t
one_term p t = subst (λ ts. length (filter p (distinct ts)) ≤ length (filter p (subterms t))) (sym (append-nil (subterms t))) (once_less p (subterms t))

all_once : (P : Tree → Type 0) (ts : List Tree) → AllByRecursion P ts → AllByRecursion P (distinct ts)
all_once P [] all = tt
all_once P (t ∷ ts) all = go (is_among t ts) (all_once P ts all.1)
  where
    go : (b : Bool) → AllByRecursion P (distinct ts) → AllByRecursion P (if b then distinct ts else t ∷ distinct ts)
    go true h = h
    go false h = (all.0, h)

-- ---- what the operators keep

pub record Keeps (P : Tree → Type 0) : Type 0 where
  pub never : P Never
  pub of_min : (a b : Tree) → P a → P b → P (Min a b)
  pub of_max : (a b : Tree) → P a → P b → P (Max a b)
  pub of_lt : (a b : Tree) → P a → P b → P (Lt a b)

joined_keeps : (P : Tree → Type 0) (op : Tree → Tree → Tree) → ((a b : Tree) → P a → P b → P (op a b)) → (t : Tree) (us : List Tree) → P t → AllByRecursion P us → P (joined op t us)
joined_keeps P op h t [] p all = p
joined_keeps P op h t (u ∷ us) p all = joined_keeps P op h (op t u) us (h t u p all.0) all.1

pub together_keeps : (P Q : Tree → Type 0) → Keeps P → Keeps Q → ((t : Tree) → P t → Q t) → ((t : Tree) → P t → Q (Inc t 1)) → (ts : List Tree) → AllByRecursion P ts → Q (together ts)
together_keeps P Q k m weak later [] all = m.never
together_keeps P Q k m weak later (t ∷ []) all = weak t all.0
together_keeps P Q k m weak later (t ∷ u ∷ ts) all =
    m.of_lt (joined Max t (u ∷ ts)) (Inc (joined Min t (u ∷ ts)) 1) (weak _ (joined_keeps P Max k.of_max t (u ∷ ts) all.0 all.1)) (later _ (joined_keeps P Min k.of_min t (u ∷ ts) all.0 all.1))

pub before_keeps : (P : Tree → Type 0) → Keeps P → (t : Tree) (us : List Tree) → P t → AllByRecursion P us → P (before_all t us)
before_keeps P k t [] p all = p
before_keeps P k t (u ∷ us) p all = k.of_lt t (joined Min u us) p (joined_keeps P Min k.of_min u us all.0 all.1)

pub earliest_keeps : (P : Tree → Type 0) → Keeps P → (ts : List Tree) → AllByRecursion P ts → P (earliest ts)
earliest_keeps P k [] all = k.never
earliest_keeps P k (t ∷ ts) all = joined_keeps P Min k.of_min t ts all.0 all.1

pub all_minterms : (P : Tree → Type 0) (n : ℕ) (rows : List Row) → ((r : Row) → IsRow n r → P (minterm r)) → AllByRecursion (IsRow n) rows → AllByRecursion P (map minterm rows)
all_minterms P n [] h all = tt
all_minterms P n (r ∷ rows) h all = (h r all.0, all_minterms P n rows h all.1)

-- spans

abbrev UpTo : ℕ → Tree → Type 0
UpTo m t = span t ≤ m

short_keeps : (m : ℕ) → Keeps (UpTo m)
short_keeps m = record {
  never = omega arith;
  of_min = λ a b p q. omega (arith, p, q);
  of_max = λ a b p q. omega (arith, p, q);
  of_lt = λ a b p q. omega (arith, p, q);
}

delayed_short : (i c : ℕ) → span (delayed (Input i) c) ≤ c
delayed_short i c = go (nat_eq c 0)
  where
    go : (b : Bool) → span (if b then Input i else Inc (Input i) c) ≤ c
    go true = omega arith
    go false = omega arith

numbers_short : (m y i : ℕ) (es : List (Option ℕ)) → y ≤ m → AllByRecursion (UpTo m) (number_terms y i es)
numbers_short m y i [] h = tt
numbers_short m y i (Some e ∷ es) h = (omega (arith, delayed_short i (y - e), h), numbers_short m y (suc i) es h)
numbers_short m y i (None ∷ es) h = numbers_short m y (suc i) es h

dashes_short : (m i : ℕ) (es : List (Option ℕ)) → AllByRecursion (UpTo m) (dash_terms i es)
dashes_short m i [] = tt
dashes_short m i (Some e ∷ es) = dashes_short m (suc i) es
dashes_short m i (None ∷ es) = (omega arith, dashes_short m (suc i) es)

minterm_short : (n : ℕ) (r : Row) → IsRow n r → UpTo 256 (minterm r)
minterm_short n r row =
    before_keeps (UpTo 256) (short_keeps 256) (together (number_terms r.out 0 r.entries)) (dash_terms 0 r.entries)
    (together_keeps (UpTo 255) (UpTo 256) (short_keeps 255) (short_keeps 256) (λ t h. omega (arith, h)) (λ t h. omega (arith, h)) (number_terms r.out 0 r.entries) (numbers_short 255 r.out 0 r.entries row.small_out))
    (dashes_short 256 0 r.entries)

pub is_short : (t : Table) → IsTable t → span (synthesised t) ≤ 256
is_short t table = earliest_keeps (UpTo 256) (short_keeps 256) (map minterm t.rows) (all_minterms (UpTo 256) (length t.inputs) t.rows (minterm_short (length t.inputs)) table.rows)

-- inputs

all_parts : (P : Tree → Type 0) (xs ys : List Tree) → AllByRecursion P xs → AllByRecursion P ys → AllByRecursion P (xs ++ ys)
all_parts P [] ys p q = q
all_parts P (x ∷ xs) ys p q = (p.0, all_parts P xs ys p.1 q)

-- each part of the term
abbrev pub Each : (Tree → Type 0) → Tree → Type 0
Each P t = AllByRecursion P (subterms t)

-- what is said of never and of every min, max and lt
pub record IsOfJoins (P : Tree → Type 0) : Type 0 where
  pub never : P Never
  pub min : (a b : Tree) → P (Min a b)
  pub max : (a b : Tree) → P (Max a b)
  pub lt : (a b : Tree) → P (Lt a b)

pub each_keeps : (P : Tree → Type 0) → IsOfJoins P → Keeps (Each P)
each_keeps P h = record {
  never = (h.never, tt);
  of_min = λ a b p q. (h.min a b, all_parts P (subterms a) (subterms b) p q);
  of_max = λ a b p q. (h.max a b, all_parts P (subterms a) (subterms b) p q);
  of_lt = λ a b p q. (h.lt a b, all_parts P (subterms a) (subterms b) p q);
}

pub each_once : (P : Tree → Type 0) (t : Tree) → Each P t → AllByRecursion P (distinct_subterms (t ∷ []))
each_once P t all = all_once P (all_subterms (t ∷ [])) (subst (AllByRecursion P) (sym (append-nil (subterms t))) all)

abbrev Below : ℕ → Tree → Type 0
Below n t = Each (IsInputBelow n) t

below_keeps : (n : ℕ) → Keeps (Below n)
below_keeps n = each_keeps (IsInputBelow n) (record { never = tt; min = λ a b. tt; max = λ a b. tt; lt = λ a b. tt })

delayed_below : (n i c : ℕ) → i < n → Below n (delayed (Input i) c)
delayed_below n i c h = go (nat_eq c 0)
  where
    go : (b : Bool) → Below n (if b then Input i else Inc (Input i) c)
    go true = (h, tt)
    go false = (tt, (h, tt))

numbers_below : (n y i : ℕ) (es : List (Option ℕ)) → i + length es ≤ n → AllByRecursion (Below n) (number_terms y i es)
numbers_below n y i [] h = tt
numbers_below n y i (Some e ∷ es) h = (delayed_below n i (y - e) (omega (arith, h)), numbers_below n y (suc i) es (omega (arith, h)))
numbers_below n y i (None ∷ es) h = numbers_below n y (suc i) es (omega (arith, h))

dashes_below : (n i : ℕ) (es : List (Option ℕ)) → i + length es ≤ n → AllByRecursion (Below n) (dash_terms i es)
dashes_below n i [] h = tt
dashes_below n i (Some e ∷ es) h = dashes_below n (suc i) es (omega (arith, h))
dashes_below n i (None ∷ es) h = ((omega (arith, h), tt), dashes_below n (suc i) es (omega (arith, h)))

minterm_below : (n : ℕ) (r : Row) → IsRow n r → Below n (minterm r)
minterm_below n r row =
    before_keeps (Below n) (below_keeps n) (together (number_terms r.out 0 r.entries)) (dash_terms 0 r.entries)
    (together_keeps (Below n) (Below n) (below_keeps n) (below_keeps n) (λ t h. h) (λ t h. (tt, h)) (number_terms r.out 0 r.entries) (numbers_below n r.out 0 r.entries (omega (arith, row.one_for_each_input))))
    (dashes_below n 0 r.entries (omega (arith, row.one_for_each_input)))

is_below : (t : Table) → IsTable t → Below (length t.inputs) (synthesised t)
is_below t table =
    earliest_keeps (Below (length t.inputs)) (below_keeps (length t.inputs)) (map minterm t.rows)
    (all_minterms (Below (length t.inputs)) (length t.inputs) t.rows (minterm_below (length t.inputs)) table.rows)

pub are_few : (t : Table) → IsTable t → AreNetworkTerms (length t.inputs) (synthesised t ∷ [])
are_few t table = record {
  few_joins =
      omega (arith, one_term is_join (synthesised t), earliest_joins (map minterm t.rows), rows_joins (length t.inputs) t.rows table.few_inputs table.rows, table.few_rows);
  few_delays =
      omega (arith, one_term is_delay (synthesised t), earliest_delays (map minterm t.rows), rows_delays (length t.inputs) t.rows table.few_inputs table.rows, table.few_rows);
  short = (omega (arith, is_short t table), tt);
  inputs = each_once (IsInputBelow (length t.inputs)) (synthesised t) (is_below t table);
}
