-- Shifts of registers, and which items see them.
use Rattle.std.proofs.Common.{◌≡◌, ◌≢◌, ℕ, zero, suc, ◌+◌, ◌*◌, ◌<◌, ◌≤◌, Bool, false, List, [], ◌∷◌, length, get_or, set, take, replicate, refl, ap, ◌∙◌, sym, subst, inl, inr, arith, Some, get_or-set_same, get_or-set_other}
use Rattle.std.specs.Prelude.{slice_get, ◌⊎◌}
use Rattle.std.proofs.lemmas.List.{get_or_past, length-set}
use Rattle.std.proofs.lemmas.Option.{slice_get_within, slice_get-get_or, get_or_from_slice_get}
use Rattle.std.proofs.lemmas.Bool.{cases_lt, cases_eq}
use Rattle.circuit.specs.declared.bit.Target.{Target}
use Rattle.circuit.specs.declared.bit.Target.TheVariants as target
use Rattle.circuit.specs.Circuit.{Register, Circuit}
use Rattle.circuit.specs.Meaning.{State, level, at, row_after, rows_after}
use Rattle.levels.specs.Levels.{shifted, HaveWidths, HasAllLevels}
use Rattle.levels.specs.Marked.{mark_at, IsMarked, IsUnmarked, HasMore, HasAll}
use Rattle.levels.specs.Operands.{Operand, Input, Wire, Bit, value, place, AreReaders}
use Rattle.marked_steps.specs.UpToDate.{AllMarked, IsSeen, IsUpToDate}
use Rattle.marked_steps.specs.Shifts.{StaysSame, AreSeen, Edging, Taking}
use Rattle.levels.proofs.Listed.{unmarked_less, marked_unmarked}
use Rattle.levels.proofs.Edges.{shifted_reads, shifted_long}
use Rattle.marked_steps.proofs.Seen.{assign_seen, reg_seen, seen_on, seen_refl}
use Rattle.levels.proofs.Bits.{mark_either}
use Rattle.marked_steps.proofs.Activated.{all_listed}

-- ---- one row

-- where nothing changes, all bits are the first level
pub same_shifted : (first : Bool) (row : List Bool) → ((j : ℕ) → j < length row → get_or (first ∷ row) j false ≡ get_or row j false) →
    shifted first row ≡ replicate (length row) first
same_shifted first [] h = refl
same_shifted first (x ∷ xs) h =
    let e : first ≡ x = h 0 (omega arith) in
    ap (λ z. first ∷ z) (same_shifted x xs (λ j lt. h (suc j) (omega arith)) ∙ ap (λ z. replicate (length xs) z) (sym e))

pub take_same : (w : ℕ) (v : Bool) → take w (v ∷ replicate w v) ≡ replicate w v
take_same zero v = refl
take_same (suc w) v = ap (λ z. v ∷ z) (take_same w v)

pub stays_none : (first : Bool) (row : List Bool) (count : ℕ) → ((j : ℕ) → j < count → j < length row → get_or (first ∷ row) j false ≡ get_or row j false) → StaysSame first row count
stays_none first row count h = record { by = h }

pub quiet_row : (first : Bool) (row : List Bool) (words : List ℕ) (own : ℕ) → IsMarked words own ⊎ StaysSame first row (length row) → IsUnmarked words own →
    shifted first row ≡ replicate (length row) first
quiet_row first row words own h u = elim h [
  | inl m ↦ absurd (marked_unmarked words own m u)
  | inr s ↦ same_shifted first row (λ j lt. s.by j lt lt)
]

-- ---- what sees it

rows_read : (rows : List (List Bool)) (reg r : ℕ) (row : List Bool) → reg < length rows →
    ((r ≡ reg) × (get_or (set rows reg row) r [] ≡ row)) ⊎ ((r ≢ reg) × (get_or (set rows reg row) r [] ≡ get_or rows r []))
rows_read rows reg r row h = elim (cases_eq r reg) [
  | inl e ↦ inl (e, ap (λ n. get_or (set rows reg row) n []) e ∙ get_or-set_same rows reg row [] h)
  | inr ne ↦ inr (ne, get_or-set_other rows reg r row [] ne)
]

bit_seen : (m : Circuit) (starts : List ℕ) (lists : List (List ℕ)) (words : List ℕ) (reg j : ℕ) (first : Bool) (row : List Bool) →
    AreReaders m starts lists → length m.assigns + length m.regs ≤ 64 * length words →
    AreSeen m starts lists words reg first row (length row) → (get_or row j false ≡ get_or (shifted first row) j false) ⊎ AllMarked m words (Bit reg j)
bit_seen m starts lists words reg j first row readers room h = elim (cases_lt j (length row)) [
  | inl w ↦ elim (h.by j w w) [
    | inl e ↦ inl (sym (shifted_reads first row j w ∙ e))
    | inr all ↦ inr (all_listed m starts lists words (Bit reg j) readers all room)
  ]
  | inr w ↦
      let l = shifted_long first row in
      inl (get_or_past row j false w ∙ sym (get_or_past (shifted first row) j false (omega arith)))
]

abbrev pub with_row : State → ℕ → List Bool → State
with_row s reg row = record s { regs = set s.regs reg row }

pub shift_seen : (m : Circuit) (starts : List ℕ) (lists : List (List ℕ)) (s : State) (words : List ℕ) (reg : ℕ) (first : Bool) →
    reg < length s.regs → AreReaders m starts lists → length m.assigns + length m.regs ≤ 64 * length words →
    AreSeen m starts lists words reg first (get_or s.regs reg []) (length (get_or s.regs reg [])) →
    (x : Operand) → (value s x ≡ value (with_row s reg (shifted first (get_or s.regs reg []))) x) ⊎ AllMarked m words x
shift_seen m starts lists s words reg first lt readers room h (Input i) = inl refl
shift_seen m starts lists s words reg first lt readers room h (Wire w) = inl refl
shift_seen m starts lists s words reg first lt readers room h (Bit r j) =
    let row = get_or s.regs reg [] in
    elim (rows_read s.regs reg r (shifted first row) lt) [
      | inr e ↦ inl (ap (λ z. get_or z j false) (sym e.1))
      | inl e ↦ elim (bit_seen m starts lists words reg j first row readers room h) [
        | inl b ↦ inl (ap (λ n. get_or (get_or s.regs n []) j false) e.0 ∙ (b ∙ ap (λ z. get_or z j false) (sym e.1)))
        | inr all ↦ inr (subst (λ n. AllMarked m words (Bit n j)) (sym e.0) all)
      ]
    ]

-- ---- one more bit

pub seen_none : (m : Circuit) (starts : List ℕ) (lists : List (List ℕ)) (words : List ℕ) (reg : ℕ) (first : Bool) (row : List Bool) (count : ℕ) →
    ((j : ℕ) → j < count → j < length row → get_or (first ∷ row) j false ≡ get_or row j false) → AreSeen m starts lists words reg first row count
seen_none m starts lists words reg first row count h = record { by = λ j lt w. inl (h j lt w) }

all_more_listed : (words words' items : List ℕ) → HasMore words words' → HasAll words items → HasAll words' items
all_more_listed words words' items more h j i g room = let r = more.room in more.kept i (h j i g (omega arith))

pub bits_on : (m : Circuit) (starts : List ℕ) (lists : List (List ℕ)) (words words' : List ℕ) (reg : ℕ) (first : Bool) (row : List Bool) (k tap k' : ℕ) →
    AreSeen m starts lists words reg first row k → HasMore words words' → HasAll words' (get_or lists (place m starts (Bit reg k)) []) →
    ((j : ℕ) → k + 1 ≤ j → j < tap → get_or lists (place m starts (Bit reg j)) [] ≡ []) →
    ((j : ℕ) → tap ≤ j → j < k' → j < length row → get_or (first ∷ row) j false ≡ get_or row j false) →
    AreSeen m starts lists words' reg first row k'
bits_on m starts lists words words' reg first row k tap k' h more all empty none = record {
  by = λ j lt w. elim (cases_lt j k) [
    | inl b ↦ elim (h.by j b w) [ inl e ↦ inl e | inr a ↦ inr (all_more_listed words words' _ more a) ]
    | inr b ↦ elim (cases_eq j k) [
      | inl e ↦ inr (subst (λ n. HasAll words' (get_or lists (place m starts (Bit reg n)) [])) (sym e) all)
      | inr ne ↦
          let d : j ≢ k = ne in
          elim (cases_lt j tap) [
            | inl u ↦ inr (subst (λ z. HasAll words' z) (sym (empty j (omega arith) u)) (λ i n there. absurd (cc)))
            | inr u ↦ inl (none j u lt w)
          ]
    ]
  ];
}

-- ---- the edge

pub width_at : (regs : List Register) (rows : List (List Bool)) (r : ℕ) (q : Register) → HaveWidths regs rows → slice_get regs r ≡ Some q →
    length (get_or rows r []) ≡ q.width
width_at [] rows r q h there = absurd (cc)
width_at (p ∷ regs) [] r q h there = absurd (cc)
width_at (p ∷ regs) (row ∷ rows) zero q h there =
    let e : p ≡ q = cc in
    let w : length row ≡ p.width = cc in
    w ∙ ap (λ (z : Register). z.width) e
width_at (p ∷ regs) (row ∷ rows) (suc r) q h there = let rest : HaveWidths regs rows = cc in width_at regs rows r q rest there

pub rows_by : (s : State) (regs : List Register) (rows rows' : List (List Bool)) → length rows ≡ length regs → length rows' ≡ length regs →
    ((r : ℕ) (q : Register) → slice_get regs r ≡ Some q → get_or rows' r [] ≡ row_after s q (get_or rows r [])) → rows' ≡ rows_after s regs rows
rows_by s [] [] [] a b h = refl
rows_by s [] [] (row' ∷ rows') a b h = absurd (omega arith)
rows_by s [] (row ∷ rows) rows' a b h = absurd (omega arith)
rows_by s (q ∷ regs) [] rows' a b h = absurd (omega arith)
rows_by s (q ∷ regs) (row ∷ rows) [] a b h = absurd (omega arith)
rows_by s (q ∷ regs) (row ∷ rows) (row' ∷ rows') a b h =
    ap (λ z. z ∷ rows') (h 0 q refl) ∙ ap (λ z. row_after s q row ∷ z) (rows_by s regs rows rows' (omega arith) (omega arith) (λ r p there. h (suc r) p there))

pub edging_start : (m : Circuit) (s : State) (words0 words moving0 moving : List ℕ) (firsts : List Bool) → HasAllLevels m s → IsUpToDate m s words0 →
    length s.regs ≡ length m.regs →
    ((k : ℕ) → k < length m.assigns → IsUnmarked words k → IsUnmarked words0 k) →
    ((r : ℕ) → r < length m.regs → IsUnmarked moving r → IsUnmarked words0 (length m.assigns + r)) →
    ((r : ℕ) (q : Register) → slice_get m.regs r ≡ Some q → IsMarked moving r → get_or firsts r false ≡ level s q.next) →
    Edging m s s words0 words moving firsts
edging_start m s words0 words moving0 moving firsts levels up count assigns moved next =
    let holds : (r : ℕ) (q : Register) → slice_get m.regs r ≡ Some q → IsUnmarked moving r → get_or s.regs r [] ≡ replicate q.width (level s q.next) =
    λ r q there u. (
    let lt = slice_get_within m.regs r q there in
    up.regs r q (get_or s.regs r []) there (slice_get-get_or s.regs r [] (omega arith)) (moved r lt u)) in
    record {
      inputs = refl;
      wires = refl;
      outs = refl;
      count = count;
      seen = seen_refl m s words;
      assigns = assigns;
      done = λ r q there u.
          let e = holds r q there u in
          e ∙ (sym (take_same q.width (level s q.next)) ∙ ap (λ z. take q.width (level s q.next ∷ z)) (sym e));
      waits = λ r w. refl;
      quiet = λ r q there u v. holds r q there u;
      next = next;
    }

same_wires : (s s' : State) → s'.wires ≡ s.wires → s'.outs ≡ s.outs → (t : Target) → at s' t ≡ at s t
same_wires s s' w o (target.Wire i) = ap (λ z. get_or z i false) w
same_wires s s' w o (target.Out i) = ap (λ z. get_or z i false) o

pub up_on : (m : Circuit) (s s' : State) (words words' : List ℕ) → IsUpToDate m s words → HasMore words words' → IsSeen m s s' words' →
    s'.regs ≡ s.regs → s'.wires ≡ s.wires → s'.outs ≡ s.outs → IsUpToDate m s' words'
up_on m s s' words words' up more seen regs wires outs = record {
  assigns = λ k a there u.
      same_wires s s' wires outs a.target ∙ (up.assigns k a there (unmarked_less words words' k more (mark_either words k) u)
      ∙ assign_seen m s s' words' seen k a there u);
  regs = λ r q row there here u.
      up.regs r q row there (ap (λ z. slice_get z r) (sym regs) ∙ here) (unmarked_less words words' (length m.assigns + r) more (mark_either words (length m.assigns + r)) u)
      ∙ ap (λ v. replicate q.width v) (reg_seen m s s' words' seen r q there u);
}

pub edging_up : (m : Circuit) (s0 s : State) (words0 words moving : List ℕ) (firsts : List Bool) → IsUpToDate m s0 words0 → Edging m s0 s words0 words moving firsts →
    ((r : ℕ) → r < length m.regs → IsUnmarked moving r) → IsUpToDate m s words
edging_up m s0 s words0 words moving firsts up e none = record {
  assigns = λ k a there u.
      let lt = slice_get_within m.assigns k a there in
      same_wires s0 s e.wires e.outs a.target ∙ (up.assigns k a there (e.assigns k lt u) ∙ assign_seen m s0 s words e.seen k a there u);
  regs = λ r q row there here u.
      let lt = slice_get_within m.regs r q there in
      sym (get_or_from_slice_get s.regs r row [] here) ∙ (e.quiet r q there (none r lt) u
      ∙ ap (λ v. replicate q.width v) (reg_seen m s0 s words e.seen r q there u));
}

pub edging_rows : (m : Circuit) (s0 s : State) (words0 words moving : List ℕ) (firsts : List Bool) → Edging m s0 s words0 words moving firsts →
    length s0.regs ≡ length m.regs → ((r : ℕ) → r < length m.regs → IsUnmarked moving r) → s.regs ≡ rows_after s0 m.regs s0.regs
edging_rows m s0 s words0 words moving firsts e count none =
    rows_by s0 m.regs s0.regs s.regs count e.count (λ r q there. e.done r q there (none r (slice_get_within m.regs r q there)))

-- register reg takes its level
pub edging_on : (m : Circuit) (s0 s : State) (words0 words words' moving moving' : List ℕ) (firsts : List Bool) (reg : ℕ) (first : Bool) →
    HasAllLevels m s0 → Edging m s0 s words0 words moving firsts → reg < length m.regs → IsMarked moving reg → first ≡ get_or firsts reg false →
    IsUnmarked moving' reg → ((r : ℕ) → r ≢ reg → mark_at moving' r ≡ mark_at moving r) → HasMore words words' →
    IsSeen m s (with_row s reg (shifted first (get_or s.regs reg []))) words' →
    (IsUnmarked words' (length m.assigns + reg) → shifted first (get_or s.regs reg []) ≡ replicate (length (get_or s.regs reg [])) first) →
    Edging m s0 (with_row s reg (shifted first (get_or s.regs reg []))) words0 words' moving' firsts
edging_on m s0 s words0 words words' moving moving' firsts reg first levels e lt waiting is cleared others more seen quiet =
    let row0 = get_or s0.regs reg [] in
    let row = get_or s.regs reg [] in
    let same : row ≡ row0 = e.waits reg waiting in
    let count : reg < length s.regs = omega (arith, e.count) in
    let less : (r : ℕ) → IsUnmarked words' r → IsUnmarked words r = λ r u. unmarked_less words words' r more (mark_either words r) u in
    record {
      inputs = e.inputs;
      wires = e.wires;
      outs = e.outs;
      count = length-set s.regs reg (shifted first row) ∙ e.count;
      seen = seen_on m s0 s (with_row s reg (shifted first row)) words words' e.seen more seen;
      assigns = λ k w u. e.assigns k w (less k u);
      done = λ r q there u. elim (rows_read s.regs reg r (shifted first row) count) [
        | inl h ↦
            let there' : slice_get m.regs reg ≡ Some q = ap (λ n. slice_get m.regs n) (sym h.0) ∙ there in
            let v : first ≡ level s0 q.next = is ∙ e.next reg q there' waiting in
            let w : length row ≡ q.width = ap (λ z. length z) same ∙ width_at m.regs s0.regs reg q levels.regs there' in
            h.1 ∙ (ap (λ n. take n (first ∷ row)) w ∙ (ap (λ z. take q.width (z ∷ row)) v ∙ (ap (λ z. take q.width (level s0 q.next ∷ z)) same
            ∙ ap (λ n. take q.width (level s0 q.next ∷ get_or s0.regs n [])) (sym h.0))))
        | inr h ↦ h.1 ∙ e.done r q there (sym (others r h.0) ∙ u)
      ];
      waits = λ r w. elim (rows_read s.regs reg r (shifted first row) count) [
        | inl h ↦ absurd (marked_unmarked moving' reg (subst (λ n. IsMarked moving' n) h.0 w) cleared)
        | inr h ↦ h.1 ∙ e.waits r (sym (others r h.0) ∙ w)
      ];
      quiet = λ r q there u v. elim (rows_read s.regs reg r (shifted first row) count) [
        | inl h ↦
            let there' : slice_get m.regs reg ≡ Some q = ap (λ n. slice_get m.regs n) (sym h.0) ∙ there in
            let f : first ≡ level s0 q.next = is ∙ e.next reg q there' waiting in
            let w : length row ≡ q.width = ap (λ z. length z) same ∙ width_at m.regs s0.regs reg q levels.regs there' in
            h.1 ∙ (quiet (subst (λ n. IsUnmarked words' (length m.assigns + n)) h.0 v) ∙ (ap (λ n. replicate n first) w ∙ ap (λ z. replicate q.width z) f))
        | inr h ↦ h.1 ∙ e.quiet r q there (sym (others r h.0) ∙ u) (less (length m.assigns + r) v)
      ];
      next = λ r q there w. elim (cases_eq r reg) [
        | inl h ↦ absurd (marked_unmarked moving' reg (subst (λ n. IsMarked moving' n) h w) cleared)
        | inr h ↦ e.next r q there (sym (others r h) ∙ w)
      ];
    }

-- ---- taking the next levels

pub taking_start : (m : Circuit) (s : State) (words moving : List ℕ) (firsts : List Bool) (k : ℕ) →
    ((r : ℕ) → r < length m.regs → IsUnmarked moving r) → length m.assigns ≤ k → ((i : ℕ) → length m.assigns ≤ i → i < k → IsUnmarked words i) →
    Taking m s words words moving firsts k
taking_start m s words moving firsts k none low before = record {
  assigns = λ i lt u. u;
  later = λ r lt u. u;
  moved = λ r lt u. before (length m.assigns + r) (omega arith) lt;
  next = λ r q there w. absurd (marked_unmarked moving r w (none r (slice_get_within m.regs r q there)));
}

pub taking_on : (m : Circuit) (s : State) (words0 words words' moving moving' : List ℕ) (firsts : List Bool) (k k' reg : ℕ) (q : Register) (v : Bool) →
    Taking m s words0 words moving firsts k → k ≡ length m.assigns + reg → slice_get m.regs reg ≡ Some q → v ≡ level s q.next → reg < length firsts →
    ((i : ℕ) → i ≢ k → mark_at words' i ≡ mark_at words i) → ((r : ℕ) → r ≢ reg → mark_at moving' r ≡ mark_at moving r) → IsMarked moving' reg →
    ((i : ℕ) → k + 1 ≤ i → i < k' → IsUnmarked words' i) → k + 1 ≤ k' →
    Taking m s words0 words' moving' (set firsts reg v) k'
taking_on m s words0 words words' moving moving' firsts k k' reg q v t here there is room others moved_others marked none after = record {
  assigns = λ i lt u. t.assigns i lt (sym (others i (λ e. absurd (omega arith))) ∙ u);
  later = λ r lt u. t.later r (omega arith) (sym (others (length m.assigns + r) (λ e. absurd (omega arith))) ∙ u);
  moved = λ r lt u. elim (cases_eq r reg) [
    | inl e ↦ absurd (marked_unmarked moving' reg marked (subst (λ n. IsUnmarked moving' n) e u))
    | inr ne ↦ elim (cases_lt (length m.assigns + r) k) [
      | inl w ↦ t.moved r w (sym (moved_others r ne) ∙ u)
      | inr w ↦ t.later r (omega arith) (sym (others (length m.assigns + r) (λ e. absurd (ne (omega arith)))) ∙ none (length m.assigns + r) (let d : r ≢ reg = ne in omega arith) lt)
    ]
  ];
  next = λ r p hp w. elim (cases_eq r reg) [
    | inl e ↦
        let hp' : slice_get m.regs reg ≡ Some p = ap (λ n. slice_get m.regs n) (sym e) ∙ hp in
        let same : q ≡ p = cc in
        ap (λ n. get_or (set firsts reg v) n false) e ∙ (get_or-set_same firsts reg v false room ∙ (is ∙ ap (λ (z : Register). level s z.next) same))
    | inr ne ↦ get_or-set_other firsts reg r v false ne ∙ t.next r p hp (sym (moved_others r ne) ∙ w)
  ];
}

pub count_rows : (regs : List Register) (rows : List (List Bool)) → HaveWidths regs rows → length rows ≡ length regs
count_rows [] [] h = refl
count_rows [] (row ∷ rows) h = absurd (cc)
count_rows (r ∷ regs) [] h = absurd (cc)
count_rows (r ∷ regs) (row ∷ rows) h = let rest : HaveWidths regs rows = cc in ap suc (count_rows regs rows rest)

abbrev state_of : List Bool → List (List Bool) → List Bool → List Bool → State
state_of i r w o = record { inputs = i; regs = r; wires = w; outs = o }

pub state_by : (s0 s : State) (rows : List (List Bool)) → s.inputs ≡ s0.inputs → s.regs ≡ rows → s.wires ≡ s0.wires → s.outs ≡ s0.outs → s ≡ record s0 { regs = rows }
state_by s0 s rows i r w o =
    ap (λ x. state_of x s.regs s.wires s.outs) i ∙ (ap (λ x. state_of s0.inputs x s.wires s.outs) r ∙
    (ap (λ x. state_of s0.inputs rows x s.outs) w ∙ ap (λ x. state_of s0.inputs rows s0.wires x) o))
