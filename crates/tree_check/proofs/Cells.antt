-- One fact more in the table.
use Rattle.std.proofs.Common.{◌≡◌, ℕ, suc, ◌+◌, ◌*◌, ◌≤◌, ◌<◌, List, ◌∷◌, length, refl, sym, ap, ◌∙◌, arith, Bool, true, false, ◌⊎◌, inl, inr, eq-eqb, lt-ltb, get_or-set_same, get_or-set_other, get_or, drop, drop-cons, add-one}
use Rattle.std.specs.Prelude.{ℤ, ◌≤ℤ◌, ◌<ℤ◌, int_le, nat_eq, ◌&&◌, ◌||◌, slice_index_or, slice_set}
use Rattle.std.proofs.lemmas.Bool.{ne_eqb, le-ltb, cases_eq, cases_lt, cases_Bool}
use Rattle.std.proofs.lemmas.Int.{ints}
use Rattle.refutation.specs.declared.item.Fact.{Fact}
use Rattle.tree_check.specs.declared.cell.Cell.{Cell}
use Rattle.tree_check.specs.Valid.{fact_says, listed}
use Rattle.tree_check.specs.Bounds.{empty_cell, cell_says, cells_say, AreCells}

or-false : (b : Bool) → (b || false) ≡ b
or-false true = refl
or-false false = refl

and-false : (b : Bool) → (b && false) ≡ false
and-false true = refl
and-false false = refl

elsewhere : (f : Fact) (i j : ℕ) (w : ℤ) → (f.from ≡ i → f.to ≡ j → ⊥) → fact_says f i j w ≡ false
elsewhere f i j w ne = elim (cases_eq f.from i) [
  | inr n ↦ rw (ne_eqb f.from i n) refl
  | inl e ↦ rw (ne_eqb f.to j (λ d. ne e d), and-false (nat_eq f.from i)) refl
]

here : (f : Fact) (i j : ℕ) (w : ℤ) → f.from ≡ i → f.to ≡ j → fact_says f i j w ≡ int_le f.bound w
here f i j w e d = rw (eq-eqb f.from i e, eq-eqb f.to j d) refl

-- the old cell isn't of this leaf, or has a greater bound
abbrev pub IsWorse : ℕ → ℤ → Cell → Type 0
IsWorse stamp bound c = (c.stamp ≡ stamp → ⊥) ⊎ (bound <ℤ c.bound)

better : (stamp : ℕ) (bound w : ℤ) (c : Cell) → IsWorse stamp bound c → int_le bound w ≡ (cell_says stamp w c || int_le bound w)
better stamp bound w c (inl ne) = rw (ne_eqb c.stamp stamp ne) refl
better stamp bound w c (inr lt) = go (nat_eq c.stamp stamp)
  where
    covered : (int_le c.bound w || int_le bound w) ≡ int_le bound w
    covered = elim (cases_Bool (int_le c.bound w)) [
      | inl e ↦ let p : int_le bound w ≡ true = grind (arith, ints, e, lt) in rw (e, p) refl
      | inr e ↦ rw e refl
    ]

    go : (b : Bool) → int_le bound w ≡ ((b && int_le c.bound w) || int_le bound w)
    go true = sym covered
    go false = refl

worse : (stamp : ℕ) (bound w : ℤ) (c : Cell) → c.stamp ≡ stamp → c.bound ≤ℤ bound → cell_says stamp w c ≡ (cell_says stamp w c || int_le bound w)
worse stamp bound w c e le = rw (eq-eqb c.stamp stamp e) covered
  where
    covered : int_le c.bound w ≡ (int_le c.bound w || int_le bound w)
    covered = elim (cases_Bool (int_le bound w)) [
      | inl e ↦ let p : int_le c.bound w ≡ true = grind (arith, ints, e, le) in rw (e, p) refl
      | inr e ↦ rw (e, or-false (int_le c.bound w)) refl
    ]

-- the table with the fact in its cell
pub cells-set : (cells : List Cell) (stamp : ℕ) (f : Fact) (i j : ℕ) (w : ℤ) → length cells ≡ 4096 → f.from < 64 → f.to < 64 → IsWorse stamp f.bound (slice_index_or cells (f.from * 64 + f.to) empty_cell) →
    cells_say (slice_set cells (f.from * 64 + f.to) (record { stamp = stamp; bound = f.bound })) stamp i j w ≡ (cells_say cells stamp i j w || fact_says f i j w)
cells-set cells stamp f i j w long hi hj is = elim (cases_lt i 64) [
  | inr ge ↦ rw (le-ltb i 64 ge, elsewhere f i j w (λ e d. omega arith)) refl
  | inl lt ↦ elim (cases_lt j 64) [
    | inr ge ↦ rw (lt-ltb i 64 lt, le-ltb j 64 ge, elsewhere f i j w (λ e d. omega arith)) refl
    | inl lt' ↦ elim (cases_eq (f.from * 64 + f.to) (i * 64 + j)) [
      | inl e ↦
          let from : f.from ≡ i = omega arith in
          let to : f.to ≡ j = omega arith in
          rw (lt-ltb i 64 lt, lt-ltb j 64 lt', here f i j w from to, ← e, get_or-set_same cells (f.from * 64 + f.to) (record { stamp = stamp; bound = f.bound }) empty_cell (omega arith), eq-eqb stamp stamp refl)
          (better stamp f.bound w (slice_index_or cells (f.from * 64 + f.to) empty_cell) is)
      | inr ne ↦
          rw (lt-ltb i 64 lt, lt-ltb j 64 lt', elsewhere f i j w (λ e d. ne (omega arith)), or-false (cell_says stamp w (slice_index_or cells (i * 64 + j) empty_cell)))
          (ap (cell_says stamp w) (get_or-set_other cells (f.from * 64 + f.to) (i * 64 + j) (record { stamp = stamp; bound = f.bound }) empty_cell (λ d. ne (sym d))))
    ]
  ]
]

-- a fact that the table says already
pub cells-same : (cells : List Cell) (stamp : ℕ) (f : Fact) (i j : ℕ) (w : ℤ) → f.from < 64 → f.to < 64 →
    (slice_index_or cells (f.from * 64 + f.to) empty_cell).stamp ≡ stamp → (slice_index_or cells (f.from * 64 + f.to) empty_cell).bound ≤ℤ f.bound →
    cells_say cells stamp i j w ≡ (cells_say cells stamp i j w || fact_says f i j w)
cells-same cells stamp f i j w hi hj e le = elim (cases_eq f.from i) [
  | inr ne ↦ rw (elsewhere f i j w (λ a b. ne a), or-false (cells_say cells stamp i j w)) refl
  | inl from ↦ elim (cases_eq f.to j) [
    | inr ne ↦ rw (elsewhere f i j w (λ a b. ne b), or-false (cells_say cells stamp i j w)) refl
    | inl to ↦
        let lt : i < 64 = omega arith in
        let lt' : j < 64 = omega arith in
        let same : f.from * 64 + f.to ≡ i * 64 + j = omega arith in
        rw (lt-ltb i 64 lt, lt-ltb j 64 lt', here f i j w from to, ← same)
        (worse stamp f.bound w (slice_index_or cells (f.from * 64 + f.to) empty_cell) e le)
  ]
]

-- a table whose stamps are older say nothing
pub cells-old : (cells : List Cell) (old stamp : ℕ) (i j : ℕ) (w : ℤ) → AreCells cells old → old < stamp → cells_say cells stamp i j w ≡ false
cells-old cells old stamp i j w t lt = elim (cases_lt i 64) [
  | inr ge ↦ rw (le-ltb i 64 ge) refl
  | inl a ↦ elim (cases_lt j 64) [
    | inr ge ↦ rw (lt-ltb i 64 a, le-ltb j 64 ge) refl
    | inl b ↦
        let long = t.long in
        let le : (slice_index_or cells (i * 64 + j) empty_cell).stamp ≤ old = t.older (i * 64 + j) empty_cell (omega arith) in
        rw (lt-ltb i 64 a, lt-ltb j 64 b, ne_eqb (slice_index_or cells (i * 64 + j) empty_cell).stamp stamp (λ e. omega arith)) refl
  ]
]

or-assoc : (a b c : Bool) → ((a || b) || c) ≡ (a || (b || c))
or-assoc true b c = refl
or-assoc false b c = refl

-- the loop over the facts: one more is in the table
pub cells-next : (old new : List Cell) (stamp : ℕ) (facts : List Fact) (n : ℕ) (f : Fact) → n < length facts → f ≡ get_or facts n f →
    ((i j : ℕ) (w : ℤ) → cells_say new stamp i j w ≡ (cells_say old stamp i j w || fact_says f i j w)) →
    ((i j : ℕ) (w : ℤ) → (cells_say old stamp i j w || listed (drop n facts) i j w) ≡ listed facts i j w) →
    (i j : ℕ) (w : ℤ) → (cells_say new stamp i j w || listed (drop (n + 1) facts) i j w) ≡ listed facts i j w
cells-next old new stamp facts n f lt is step before i j w =
    let split : drop n facts ≡ f ∷ drop (n + 1) facts = rw add-one (drop-cons facts n f lt ∙ ap (λ (g : Fact). g ∷ drop (suc n) facts) (sym is)) in
    ap (λ (b : Bool). b || listed (drop (n + 1) facts) i j w) (step i j w)
    ∙ (or-assoc (cells_say old stamp i j w) (fact_says f i j w) (listed (drop (n + 1) facts) i j w)
    ∙ (ap (λ (fs : List Fact). cells_say old stamp i j w || listed fs i j w) (sym split) ∙ before i j w))

-- the same, where the cell's bound is only equal to the fact's
pub cells-set-as : (cells : List Cell) (stamp : ℕ) (f : Fact) (v : ℤ) (i j : ℕ) (w : ℤ) → v ≡ f.bound → length cells ≡ 4096 → f.from < 64 → f.to < 64 → IsWorse stamp f.bound (slice_index_or cells (f.from * 64 + f.to) empty_cell) →
    cells_say (slice_set cells (f.from * 64 + f.to) (record { stamp = stamp; bound = v })) stamp i j w ≡ (cells_say cells stamp i j w || fact_says f i j w)
cells-set-as cells stamp f v i j w e long hi hj is = rw e (cells-set cells stamp f i j w long hi hj is)
