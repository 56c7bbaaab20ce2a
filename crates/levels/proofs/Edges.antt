-- A clock edge keeps a level for each bit of each register.
use Rattle.std.proofs.Common.{◌≡◌, ℕ, zero, suc, ◌+◌, ◌<◌, List, [], ◌∷◌, Bool, false, length, get_or, set, take, map, ◌≤◌, refl, ap, ◌∙◌, sym, arith, add-one}
use Rattle.std.proofs.lemmas.List.{length-replicate, length-take-le, same_lists, set-get_or}
use Rattle.circuit.specs.Circuit.{Register, Circuit}
use Rattle.circuit.specs.Meaning.{State, level, rows_after, row_at_start}
use Rattle.levels.specs.Levels.{HaveWidths, HasAllLevels, shifted, all_shifted}

-- the row at place k stays until it is shifted
row_stays : (firsts : List Bool) (rows : List (List Bool)) (k : ℕ) (d : List Bool) →
    get_or (all_shifted (take k firsts) rows) k d ≡ get_or rows k d
row_stays [] rows zero d = refl
row_stays [] rows (suc k) d = refl
row_stays (f ∷ fs) rows zero d = refl
row_stays (f ∷ fs) [] (suc k) d = refl
row_stays (f ∷ fs) (row ∷ rows) (suc k) d = row_stays fs rows k d

one_more_row : (firsts : List Bool) (rows : List (List Bool)) (k : ℕ) (d : List Bool) → k < length firsts → k < length rows →
    set (all_shifted (take k firsts) rows) k (shifted (get_or firsts k false) (get_or rows k d)) ≡ all_shifted (take (suc k) firsts) rows
one_more_row [] rows k d h w = absurd (omega arith)
one_more_row (f ∷ fs) [] k d h w = absurd (omega arith)
one_more_row (f ∷ fs) (row ∷ rows) zero d h w = refl
one_more_row (f ∷ fs) (row ∷ rows) (suc k) d h w = ap (λ z. shifted f row ∷ z) (one_more_row fs rows k d (omega arith) (omega arith))

pub rows_on : (firsts : List Bool) (old rows : List (List Bool)) (k : ℕ) (row d : List Bool) → rows ≡ all_shifted (take k firsts) old →
    k < length firsts → length firsts ≡ length old → row ≡ shifted (get_or firsts k false) (get_or rows k d) →
    set rows k row ≡ all_shifted (take (k + 1) firsts) old
rows_on firsts old rows k row d h lt same e = rw add-one (
    let here : get_or rows k d ≡ get_or old k d = ap (λ z. get_or z k d) h ∙ row_stays firsts old k d in
    ap (λ z. set z k row) h ∙ (ap (λ z. set (all_shifted (take k firsts) old) k z) (e ∙ ap (λ z. shifted (get_or firsts k false) z) here)
    ∙ one_more_row firsts old k d lt (omega arith)))

-- the rows after an edge, by their registers' widths or by their own lengths
pub rows_are : (s : State) (regs : List Register) (rows : List (List Bool)) → HaveWidths regs rows →
    all_shifted (map (λ r. level s r.next) regs) rows ≡ rows_after s regs rows
rows_are s [] [] h = refl
rows_are s [] (row ∷ rows) h = absurd (cc)
rows_are s (r ∷ rs) [] h = refl
rows_are s (r ∷ rs) (row ∷ rows) h =
    let w : length row ≡ r.width = cc in
    let rest : HaveWidths rs rows = cc in
    ap (λ n. take n (level s r.next ∷ row) ∷ all_shifted (map (λ r. level s r.next) rs) rows) w
    ∙ ap (λ z. take r.width (level s r.next ∷ row) ∷ z) (rows_are s rs rows rest)

pub widths_after : (s : State) (regs : List Register) (rows : List (List Bool)) → HaveWidths regs rows → HaveWidths regs (rows_after s regs rows)
widths_after s [] [] h = refl
widths_after s [] (row ∷ rows) h = absurd (cc)
widths_after s (r ∷ rs) [] h = absurd (cc)
widths_after s (r ∷ rs) (row ∷ rows) h =
    let w : length row ≡ r.width = cc in
    let rest : HaveWidths rs rows = cc in
    let long : length (take r.width (level s r.next ∷ row)) ≡ r.width = length-take-le r.width (level s r.next ∷ row) (omega arith) in
    ap (λ n. n ∷ map (λ z. length z) (rows_after s rs rows)) long ∙ ap (λ z. r.width ∷ z) (widths_after s rs rows rest)

pub widths_at_start : (regs : List Register) → HaveWidths regs (map row_at_start regs)
widths_at_start [] = refl
widths_at_start (r ∷ rs) = ap (λ n. n ∷ map (λ z. length z) (map row_at_start rs)) (length-replicate r.width false) ∙ ap (λ z. r.width ∷ z) (widths_at_start rs)

pub edge_keeps : (m : Circuit) (s : State) → HasAllLevels m s → HasAllLevels m (record s { regs = rows_after s m.regs s.regs })
edge_keeps m s h = record {
  inputs = h.inputs;
  regs = widths_after s m.regs s.regs h.regs;
  rest = record { wires = h.rest.wires; outs = h.rest.outs };
}

-- the first k registers have taken their first levels
pub record Shifted (firsts : List Bool) (old s : State) (k : ℕ) : Type 0 where
  pub rows : s.regs ≡ all_shifted (take k firsts) old.regs
  pub inputs : s.inputs ≡ old.inputs
  pub wires : s.wires ≡ old.wires
  pub outs : s.outs ≡ old.outs

pub shifted_start : (firsts : List Bool) (s : State) → Shifted firsts s s 0
shifted_start firsts s = record { rows = refl; inputs = refl; wires = refl; outs = refl }

length_all_shifted : (firsts : List Bool) (rows : List (List Bool)) → length (all_shifted firsts rows) ≡ length rows
length_all_shifted [] rows = refl
length_all_shifted (f ∷ fs) [] = refl
length_all_shifted (f ∷ fs) (row ∷ rows) = ap suc (length_all_shifted fs rows)

pub count_shifted : (firsts : List Bool) (old s : State) (k : ℕ) → Shifted firsts old s k → length s.regs ≡ length old.regs
count_shifted firsts old s k h = ap (λ z. length z) h.rows ∙ length_all_shifted (take k firsts) old.regs

pub shifted_on : (firsts : List Bool) (old s s' : State) (k : ℕ) (first : Bool) → Shifted firsts old s k → k < length firsts → length firsts ≡ length old.regs → first ≡ get_or firsts k false →
    s' ≡ record s { regs = set s.regs k (shifted first (get_or s.regs k [])) } → Shifted firsts old s' (k + 1)
shifted_on firsts old s s' k first h lt same is e = record {
  rows = ap (λ (z : State). z.regs) e ∙ rows_on firsts old.regs s.regs k (shifted first (get_or s.regs k [])) [] h.rows lt same (ap (λ z. shifted z (get_or s.regs k [])) is);
  inputs = ap (λ (z : State). z.inputs) e ∙ h.inputs;
  wires = ap (λ (z : State). z.wires) e ∙ h.wires;
  outs = ap (λ (z : State). z.outs) e ∙ h.outs;
}

pub shifted_all : (firsts : List Bool) (old s : State) (k : ℕ) → Shifted firsts old s k → take k firsts ≡ firsts → s ≡ record old { regs = all_shifted firsts old.regs }
shifted_all firsts old s k h all = state_is s old (all_shifted firsts old.regs) (h.rows ∙ ap (λ z. all_shifted z old.regs) all) h.inputs h.wires h.outs
  where
    made : List Bool → List (List Bool) → List Bool → List Bool → State
    made i r w o = record { inputs = i; regs = r; wires = w; outs = o }

    state_is : (s old : State) (rows : List (List Bool)) → s.regs ≡ rows → s.inputs ≡ old.inputs → s.wires ≡ old.wires → s.outs ≡ old.outs → s ≡ record old { regs = rows }
    state_is s old rows r i w o =
        ap (λ z. made z s.regs s.wires s.outs) i ∙ (ap (λ z. made old.inputs z s.wires s.outs) r ∙ (ap (λ z. made old.inputs rows z s.outs) w ∙ ap (λ z. made old.inputs rows old.wires z) o))

-- the state after a plain edge
pub edge_is : (m : Circuit) (s s' : State) (firsts : List Bool) → HasAllLevels m s → firsts ≡ map (λ r. level s r.next) m.regs → s' ≡ record s { regs = all_shifted firsts s.regs } →
    s' ≡ record s { regs = rows_after s m.regs s.regs }
edge_is m s s' firsts h f e =
    e ∙ (ap (λ z. let w : State = record s { regs = all_shifted z s.regs } in w) f ∙ ap (λ z. let w : State = record s { regs = z } in w) (rows_are s m.regs s.regs h.regs))

-- ---- one row

take_reads : (xs : List Bool) (n j : ℕ) → j < n → get_or (take n xs) j false ≡ get_or xs j false
take_reads xs zero j h = absurd (omega arith)
take_reads [] (suc n) j h = refl
take_reads (x ∷ xs) (suc n) zero h = refl
take_reads (x ∷ xs) (suc n) (suc j) h = take_reads xs n j (omega arith)

pub shifted_reads : (first : Bool) (row : List Bool) (j : ℕ) → j < length row → get_or (shifted first row) j false ≡ get_or (first ∷ row) j false
shifted_reads first row j h = take_reads (first ∷ row) (length row) j h

pub shifted_long : (first : Bool) (row : List Bool) → length (shifted first row) ≡ length row
shifted_long first row = length-take-le (length row) (first ∷ row) (omega arith)

-- ---- what does not move

pub same_shifted : (first : Bool) (row : List Bool) (n : ℕ) → length row ≤ n →
    ((j : ℕ) → 0 ≤ j → j < n → j < length row → get_or (first ∷ row) j false ≡ get_or row j false) → shifted first row ≡ row
same_shifted first row n le h = same_lists (shifted first row) row (shifted_long first row) (λ k d lt.
    let within : k < length row = omega (arith, lt, shifted_long first row) in
    read_any (shifted first row) k d lt ∙ (shifted_reads first row k within ∙ (h k (omega arith) (omega (arith, within, le)) within ∙ sym (read_any row k d within))))
  where
    read_any : (xs : List Bool) (k : ℕ) (d : Bool) → k < length xs → get_or xs k d ≡ get_or xs k false
    read_any [] k d lt = absurd (omega arith)
    read_any (x ∷ xs) zero d lt = refl
    read_any (x ∷ xs) (suc k) d lt = read_any xs k d (omega arith)

pub not_moved : (s : State) (reg : ℕ) (first : Bool) → shifted first (get_or s.regs reg []) ≡ get_or s.regs reg [] →
    record s { regs = set s.regs reg (shifted first (get_or s.regs reg [])) } ≡ s
not_moved s reg first e =
    ap (λ z. let w : State = record s { regs = set s.regs reg z } in w) e ∙ ap (λ z. let w : State = record s { regs = z } in w) (set-get_or s.regs reg [])
