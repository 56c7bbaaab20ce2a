-- Rows of digits that grow, and the digits of a history that grows by states.
use Rattle.std.proofs.Common.{◌≡◌, ℕ, zero, suc, ◌+◌, ◌<◌, ◌≤◌, Bool, false, List, [], ◌∷◌, ◌++◌, length, get_or, set, take, drop, map, replicate, refl, ap, ◌∙◌, sym, arith, add-zero, add-one}
use Rattle.std.specs.List.{range_with_len}
use Rattle.std.proofs.lemmas.List.{length-map, map-append, replicate_more}
use Rattle.rl_time.specs.declared.time.Time.{Time}
use Rattle.circuit.specs.Meaning.{State, levels_at, levels_from}
use Rattle.levels.specs.Digits.{digit, output_digits, output_rows, with_digits}

-- the first k of the rows have so many digits more, those of the outputs from this one on, and their old capacity
abbrev pub HaveGrown : {V : Type 0} → (V → List ℕ) → (V → ℕ) → List Bool → ℕ → ℕ → ℕ → List V → List V → Type 0
HaveGrown items room outs count out zero old rows = rows ≡ old
HaveGrown items room outs count out (suc k) [] rows = rows ≡ []
HaveGrown items room outs count out (suc k) (o ∷ old) [] = ⊥
HaveGrown items room outs count out (suc k) (o ∷ old) (row ∷ rows) =
    (items row ≡ items o ++ replicate count (digit (get_or outs out false))) × (room row ≡ room o) × HaveGrown items room outs count (out + 1) k old rows

-- the row at place k is as it was
pub row_waits : {V : Type 0} (items : V → List ℕ) (room : V → ℕ) (outs : List Bool) (count out k : ℕ) (old rows : List V) (d : V) →
    HaveGrown items room outs count out k old rows → k < length old → get_or rows k d ≡ get_or old k d
row_waits items room outs count out zero old rows d h lt = ap (λ z. get_or z zero d) h
row_waits items room outs count out (suc k) [] rows d h lt = absurd (omega arith)
row_waits items room outs count out (suc k) (o ∷ old) [] d h lt = absurd h
row_waits items room outs count out (suc k) (o ∷ old) (row ∷ rows) d h lt = row_waits items room outs count (out + 1) k old rows d h.2 (omega arith)

one_more_grown : {V : Type 0} (items : V → List ℕ) (room : V → ℕ) (outs : List Bool) (count out k at : ℕ) (old rows : List V) (row d : V) →
    HaveGrown items room outs count out k old rows → k < length old → at ≡ out + k →
    items row ≡ items (get_or rows k d) ++ replicate count (digit (get_or outs at false)) → room row ≡ room (get_or rows k d) →
    HaveGrown items room outs count out (suc k) old (set rows k row)
one_more_grown items room outs count out zero at [] rows row d h lt place e c = absurd (omega arith)
one_more_grown items room outs count out zero at (o ∷ old) [] row d h lt place e c = absurd (cc)
one_more_grown items room outs count out zero at (o ∷ old) (r ∷ rows) row d h lt place e c =
    let same : r ≡ o = cc in
    let rest : rows ≡ old = cc in
    let here : at ≡ out = omega (arith, place) in (
      e ∙ (ap (λ z. items z ++ replicate count (digit (get_or outs at false))) same ∙ ap (λ n. items o ++ replicate count (digit (get_or outs n false))) here),
      c ∙ ap (λ z. room z) same,
      rest,
    )
one_more_grown items room outs count out (suc k) at [] rows row d h lt place e c = absurd (omega arith)
one_more_grown items room outs count out (suc k) at (o ∷ old) [] row d h lt place e c = absurd h
one_more_grown items room outs count out (suc k) at (o ∷ old) (r ∷ rows) row d h lt place e c =
    (h.0, h.1, one_more_grown items room outs count (out + 1) k at old rows row d h.2 (omega arith) (omega (arith, place)) e c)

pub grown_on : {V : Type 0} (items : V → List ℕ) (room : V → ℕ) (outs : List Bool) (count k : ℕ) (old rows : List V) (row d : V) →
    HaveGrown items room outs count 0 k old rows → k < length old →
    items row ≡ items (get_or rows k d) ++ replicate count (digit (get_or outs k false)) → room row ≡ room (get_or rows k d) →
    HaveGrown items room outs count 0 (k + 1) old (set rows k row)
grown_on items room outs count k old rows row d h lt e c =
    let here : k ≡ 0 + k = omega arith in
    rw add-one (one_more_grown items room outs count 0 k k old rows row d h lt here e c)

pub all_grown : {V : Type 0} (items : V → List ℕ) (room : V → ℕ) (outs : List Bool) (count out k : ℕ) (old rows : List V) →
    HaveGrown items room outs count out k old rows → length old ≤ k →
    (map (λ row. items row) rows ≡ with_digits outs count out (map (λ row. items row) old)) × (map (λ row. room row) rows ≡ map (λ row. room row) old)
all_grown items room outs count out zero [] rows h le = (ap (λ z. map (λ row. items row) z) h, ap (λ z. map (λ row. room row) z) h)
all_grown items room outs count out zero (o ∷ old) rows h le = absurd (omega arith)
all_grown items room outs count out (suc k) [] rows h le = (ap (λ z. map (λ row. items row) z) h, ap (λ z. map (λ row. room row) z) h)
all_grown items room outs count out (suc k) (o ∷ old) [] h le = absurd h
all_grown items room outs count out (suc k) (o ∷ old) (row ∷ rows) h le =
    let rest = all_grown items room outs count (out + 1) k old rows h.2 (omega arith) in (
      ap (λ z. z ∷ map (λ row. items row) rows) h.0 ∙ ap (λ z. (items o ++ replicate count (digit (get_or outs out false))) ∷ z) rest.0,
      ap (λ z. z ∷ map (λ row. room row) rows) h.1 ∙ ap (λ z. room o ∷ z) rest.1,
    )

digits_of_same : (s : State) (out count : ℕ) → replicate count (digit (get_or s.outs out false)) ≡ output_digits (replicate count s) out
digits_of_same s out zero = refl
digits_of_same s out (suc count) = ap (λ z. digit (get_or s.outs out false) ∷ z) (digits_of_same s out count)

digits_of_more : (states : List State) (s : State) (count out : ℕ) →
    output_digits states out ++ replicate count (digit (get_or s.outs out false)) ≡ output_digits (states ++ replicate count s) out
digits_of_more [] s count out = digits_of_same s out count
digits_of_more (t ∷ states) s count out = ap (λ z. output_digits (t ∷ []) out ++ z) (digits_of_more states s count out)

rows_of_more : (states : List State) (s : State) (count out n : ℕ) →
    with_digits s.outs count out (map (output_digits states) (range_with_len out n)) ≡ map (output_digits (states ++ replicate count s)) (range_with_len out n)
rows_of_more states s count out zero = refl
rows_of_more states s count out (suc n) =
    ap (λ z. z ∷ with_digits s.outs count (out + 1) (map (output_digits states) (range_with_len (out + 1) n))) (digits_of_more states s count out)
    ∙ ap (λ z. output_digits (states ++ replicate count s) out ∷ z) (rows_of_more states s count (out + 1) n)

-- the rows of a history with a outs so many times more
pub rows_on : (n : ℕ) (states : List State) (s : State) (count : ℕ) → with_digits s.outs count 0 (output_rows n states) ≡ output_rows n (states ++ replicate count s)
rows_on n states s count = rows_of_more states s count 0 n

empty_from : (out n : ℕ) → replicate n [] ≡ map (output_digits []) (range_with_len out n)
empty_from out zero = refl
empty_from out (suc n) = ap (λ z. [] ∷ z) (empty_from (out + 1) n)

-- the rows of no states
pub empty_are : (n : ℕ) → replicate n [] ≡ output_rows n []
empty_are n = empty_from 0 n

-- each row has one digit a cycle
pub row_length : {V : Type 0} (items : V → List ℕ) (rows : List V) (states : List State) (out n k : ℕ) (d : V) →
    map (λ row. items row) rows ≡ map (output_digits states) (range_with_len out n) → k < length rows →
    length (items (get_or rows k d)) ≡ length states
row_length items [] states out n k d h lt = absurd (omega arith)
row_length items (row ∷ rows) states out zero k d h lt = absurd (cc)
row_length items (row ∷ rows) states out (suc n) zero d h lt =
    let e : items row ≡ output_digits states out = cc in
    ap (λ z. length z) e ∙ length-map states (λ s. digit (get_or s.outs out false))
row_length items (row ∷ rows) states out (suc n) (suc k) d h lt =
    let e : map (λ row. items row) rows ≡ map (output_digits states) (range_with_len (out + 1) n) = cc in
    row_length items rows states (out + 1) n k d e (omega arith)

pub row_room : {V : Type 0} (room : V → ℕ) (rows : List V) (n cycles k : ℕ) (d : V) →
    map (λ row. room row) rows ≡ replicate n cycles → k < length rows → room (get_or rows k d) ≡ cycles
row_room room [] n cycles k d h lt = absurd (omega arith)
row_room room (row ∷ rows) zero cycles k d h lt = absurd (cc)
row_room room (row ∷ rows) (suc n) cycles zero d h lt = cc
row_room room (row ∷ rows) (suc n) cycles (suc k) d h lt =
    let e : map (λ row. room row) rows ≡ replicate n cycles = cc in
    row_room room rows n cycles k d e (omega arith)

-- a Vec's items after a call that writes them all
pub refilled : {X : Type 0} (n : ℕ) (old new : List X) → n ≡ length new → take n (new ++ drop (length new) old) ≡ new
refilled n old new e = ap (λ k. take k (new ++ drop (length new) old)) e ∙ front new (drop (length new) old) where
  front : {X : Type 0} (xs ys : List X) → take (length xs) (xs ++ ys) ≡ xs
  front [] ys = refl
  front (x ∷ xs) ys = ap (λ z. x ∷ z) (front xs ys)

pub length_from_map : {V W : Type 0} (f : V → W) (xs ys : List V) → map (λ x. f x) xs ≡ map (λ x. f x) ys → length xs ≡ length ys
length_from_map f xs ys e = sym (length-map xs (λ x. f x)) ∙ (ap (λ z. length z) e ∙ length-map ys (λ x. f x))

pub one_more_row : {V X : Type 0} (f : V → X) (rows : List V) (row : V) (n : ℕ) (x : X) → map (λ row. f row) rows ≡ replicate n x →
    f row ≡ x → map (λ row. f row) (rows ++ row ∷ []) ≡ replicate (n + 1) x
one_more_row f rows row n x h e =
    map-append (λ row. f row) rows (row ∷ []) ∙ (ap (λ z. z ++ f row ∷ []) h ∙ (ap (λ z. replicate n x ++ z ∷ []) e ∙ replicate_more n x))

-- ---- the levels of inputs

levels_from_on : (rises : List Time) (cycle n : ℕ) →
    levels_from rises cycle (suc n) ≡ levels_from rises cycle n ++ levels_at rises (cycle + n) ∷ []
levels_from_on rises cycle zero = ap (λ z. levels_at rises z ∷ []) (sym (add-zero cycle))
levels_from_on rises cycle (suc n) =
    let e : suc cycle + n ≡ cycle + suc n = omega arith in
    ap (λ z. levels_at rises cycle ∷ z) (levels_from_on rises (suc cycle) n
    ∙ ap (λ z. levels_from rises (suc cycle) n ++ levels_at rises z ∷ []) e)

pub levels_on : (rises : List Time) (n : ℕ) → levels_from rises 0 (n + 1) ≡ levels_from rises 0 n ++ levels_at rises n ∷ []
levels_on rises n =
    let e : 0 + n ≡ n = omega arith in
    rw add-one (levels_from_on rises 0 n ∙ ap (λ z. levels_from rises 0 n ++ levels_at rises z ∷ []) e)
