-- Gates have a timing. Delays start as never and are computed again from themselves: each time their levels are right in one more cycle,
-- since each tap is at least a cycle later. No time of a timing is greater than the last input time and all widths together, so after
-- that many times the levels are right for good, and what would rise later never does.
use Rattle.std.proofs.Common.{◌≡◌, ℕ, zero, suc, ◌+◌, ◌<◌, ◌≤◌, Bool, true, false, length, get_or, List, [], ◌∷◌, refl, ap, ◌∙◌, sym, subst, inl, inr, ◌⊎◌, arith, Some, min, max}
use Rattle.std.specs.Prelude.{slice_get, not, ◌&&◌, ◌||◌, nat_le, nat_lt, if◌then◌else◌}
use Rattle.std.proofs.lemmas.Bool.{cases_lt}
use Rattle.std.proofs.lemmas.Bool.Decides.{nat_tests}
use Rattle.std.proofs.lemmas.Option.{slice_get_within, slice_get-get_or, get_or_from_slice_get, same_Some}
use Rattle.rl_time.specs.declared.time.Time.{Time}
use Rattle.rl_time.specs.declared.time.Time.TheVariants.{At, Never}
use Rattle.rl_time.specs.Time.{time_min, time_max, time_lt, time_inc, has_risen}
use Rattle.gate_lower.specs.declared.gates.Line.{Line}
use Rattle.gate_lower.specs.declared.gates.Line.TheVariants as line
use Rattle.gate_lower.specs.declared.gates.Gate.{Gate}
use Rattle.gate_lower.specs.declared.gates.Gate.TheVariants as gate
use Rattle.gate_lower.specs.declared.gates.Delay.{Delay}
use Rattle.gate_lower.specs.Netlist.{Netlist}
use Rattle.gate_lower.specs.Rules.{delay_bits, IsLine, HasLines, IsNetlist}
use Rattle.gate_lower.specs.Timing.{line_time, gate_time, IsTiming, HasTiming}
use Rattle.gate_lower.proofs.Risen.{risen_min, risen_max, risen_lt, risen_inc-suc, risen_inc-start, time_inc-zero}
use Rattle.gate_lower.proofs.OneTiming.{tap_same, self_risen, risen_le, same_number}

-- ---- times by their levels

-- the same levels in the first cycles
abbrev AreSame : ℕ → Time → Time → Type 0
AreSame c a b = (u : ℕ) → u < c → has_risen a u ≡ has_risen b u

min_same : (a b a' b' : Time) (c : ℕ) → AreSame c a a' → AreSame c b b' → AreSame c (time_min a b) (time_min a' b')
min_same a b a' b' c h k u lt = let p = h u lt in let q = k u lt in risen_min a b u ∙ (λ i. p i || q i) ∙ sym (risen_min a' b' u)

max_same : (a b a' b' : Time) (c : ℕ) → AreSame c a a' → AreSame c b b' → AreSame c (time_max a b) (time_max a' b')
max_same a b a' b' c h k u lt = let p = h u lt in let q = k u lt in risen_max a b u ∙ (λ i. p i && q i) ∙ sym (risen_max a' b' u)

held_same : (a b : Time) (u : ℕ) → has_risen a u ≡ has_risen b u → has_risen (time_inc a 1) (suc u) ≡ has_risen (time_inc b 1) (suc u)
held_same a b u e = risen_inc-suc a 0 u ∙ ap (λ (z : Time). has_risen z u) (time_inc-zero a) ∙ e ∙ ap (λ (z : Time). has_risen z u) (sym (time_inc-zero b)) ∙ sym (risen_inc-suc b 0 u)

lt_same : (a b a' b' : Time) (c : ℕ) → AreSame c a a' → AreSame c b b' → AreSame c (time_lt a b) (time_lt a' b')
lt_same a b a' b' c h k zero lt =
    let held = risen_inc-start (time_lt a b) 0 ∙ sym (risen_inc-start (time_lt a' b') 0) in
    let p = h 0 lt in
    let q = k 0 lt in
    risen_lt a b 0 ∙ (λ i. held i || (p i && not (q i))) ∙ sym (risen_lt a' b' 0)
lt_same a b a' b' c h k (suc u) lt =
    let held = held_same (time_lt a b) (time_lt a' b') u (lt_same a b a' b' c h k u (omega (arith, lt))) in
    let p = h (suc u) lt in
    let q = k (suc u) lt in
    risen_lt a b (suc u) ∙ (λ i. held i || (p i && not (q i))) ∙ sym (risen_lt a' b' (suc u))

-- a time among the first cycles is known by its levels in them
at_same : (t c : ℕ) (b : Time) → t < c → AreSame c (At t) b → b ≡ At t
at_same t c Never lt h = absurd (let e : true ≡ false = sym (self_risen t) ∙ h t lt in cc)
at_same t c (At s) lt h =
    let le : s ≤ t = risen_le s t (sym (h t lt) ∙ self_risen t) in
    let ge : t ≤ s = risen_le t s (h s (omega (arith, le, lt)) ∙ self_risen s) in
    ap At (same_number s t le ge)

never_same : (t c : ℕ) → AreSame c Never (At t) → c ≤ t
never_same t c h = elim (cases_lt t c) [
  | inl lt ↦ absurd (let e : false ≡ true = h t lt ∙ self_risen t in cc)
  | inr ge ↦ ge
]

-- ---- the first cycles of a time

abbrev cut : ℕ → Time → Time
cut c Never = Never
cut c (At t) = if nat_lt t c then At t else Never

cut_below : (t c : ℕ) → t < c → cut c (At t) ≡ At t
cut_below t c lt = grind (arith, nat_tests)

cut_from : (t c : ℕ) → c ≤ t → cut c (At t) ≡ Never
cut_from t c le = grind (arith, nat_tests)

late : (t u : ℕ) → u < t → nat_le t u ≡ false
late t u lt = grind (arith, nat_tests)

cut_same : (c : ℕ) (a : Time) → AreSame c a (cut c a)
cut_same c Never u lt = refl
cut_same c (At t) u lt = elim (cases_lt t c) [
  | inl h ↦ ap (λ (z : Time). has_risen z u) (sym (cut_below t c h))
  | inr h ↦ late t u (omega (arith, lt, h)) ∙ ap (λ (z : Time). has_risen z u) (sym (cut_from t c h))
]

not_never : (t : ℕ) → ◌≡◌ {A = Time} Never (At t) → {P : Type 0} → P
not_never t e = absurd (let f : false ≡ true = ap (λ (z : Time). has_risen z t) e ∙ self_risen t in cc)

same_At : (s t : ℕ) → ◌≡◌ {A = Time} (At s) (At t) → s ≡ t
same_At s t e = ap (λ (z : Time). elim z [ At n ↦ n | Never ↦ 0 ]) e

cut_is : (t c : ℕ) (a : Time) → cut c a ≡ At t → t < c
cut_is t c Never e = not_never t e
cut_is t c (At s) e = elim (cases_lt s c) [
  | inl h ↦ subst (λ n. n < c) (same_At s t (sym (cut_below s c h) ∙ e)) h
  | inr h ↦ not_never t (sym (cut_from s c h) ∙ e)
]

-- ---- what operators give is the time of an operand

module _ (P : ℕ → Type 0) where
  abbrev Only : Time → Type 0
  Only a = (t : ℕ) → a ≡ At t → P t

  only_never : Only Never
  only_never t e = not_never t e

  min_is : (m n : ℕ) → (min m n ≡ m) ⊎ (min m n ≡ n)
  min_is m n = grind (arith, nat_tests)

  max_is : (m n : ℕ) → (max m n ≡ m) ⊎ (max m n ≡ n)
  max_is m n = grind (arith, nat_tests)

  only_min : (a b : Time) → Only a → Only b → Only (time_min a b)
  only_min Never b h k = k
  only_min (At m) Never h k = h
  only_min (At m) (At n) h k = λ t e. elim (min_is m n) [
    | inl p ↦ h t (ap At (sym p) ∙ e)
    | inr p ↦ k t (ap At (sym p) ∙ e)
  ]

  only_max : (a b : Time) → Only a → Only b → Only (time_max a b)
  only_max Never b h k = only_never
  only_max (At m) Never h k = only_never
  only_max (At m) (At n) h k = λ t e. elim (max_is m n) [
    | inl p ↦ h t (ap At (sym p) ∙ e)
    | inr p ↦ k t (ap At (sym p) ∙ e)
  ]

  only_choice : (b : Bool) (a : Time) → Only a → Only (if b then a else Never)
  only_choice true a h = h
  only_choice false a h = only_never

  only_lt : (a b : Time) → Only a → Only (time_lt a b)
  only_lt Never b h = only_never
  only_lt (At m) Never h = h
  only_lt (At m) (At n) h = only_choice (nat_lt m n) (At m) h

-- ---- the last input time

abbrev last : List Time → ℕ
last [] = 0
last (At t ∷ x) = t + last x
last (Never ∷ x) = last x

last_is : (x : List Time) (i t : ℕ) → get_or x i Never ≡ At t → t ≤ last x
last_is [] i t e = not_never t e
last_is (At s ∷ x) zero t e = omega (arith, same_At s t e)
last_is (Never ∷ x) zero t e = not_never t e
last_is (At s ∷ x) (suc i) t e = omega (arith, last_is x i t e)
last_is (Never ∷ x) (suc i) t e = last_is x i t e

-- ---- the widths of delays that have risen

abbrev risen_width : Bool → ℕ → ℕ
risen_width true w = w
risen_width false w = 0

abbrev is_before : Time → ℕ → Bool
is_before Never t = false
is_before (At s) t = nat_lt s t

-- the widths together of the delays that rise before this cycle
abbrev widths : List Delay → (ℕ → Time) → ℕ → ℕ
widths [] d t = 0
widths (e ∷ es) d t = risen_width (is_before (d 0) t) e.width + widths es (λ n. d (suc n)) t

width_most : (b : Bool) (w : ℕ) → risen_width b w ≤ w
width_most true w = omega arith
width_most false w = omega arith

widths_most : (es : List Delay) (d : ℕ → Time) (t : ℕ) → widths es d t ≤ delay_bits es
widths_most [] d t = omega arith
widths_most (e ∷ es) d t = omega (arith, width_most (is_before (d 0) t) e.width, widths_most es (λ n. d (suc n)) t)

before_later : (m s t : ℕ) → s ≤ t → nat_lt m s ≡ true → nat_lt m t ≡ true
before_later m s t le e = grind (arith, nat_tests)

width_more : (b b' : Bool) (w : ℕ) → (b ≡ true → b' ≡ true) → risen_width b w ≤ risen_width b' w
width_more true b' w h = omega (arith, ap (λ z. risen_width z w) (h refl))
width_more false b' w h = omega arith

time_more : (a : Time) (s t w : ℕ) → s ≤ t → risen_width (is_before a s) w ≤ risen_width (is_before a t) w
time_more Never s t w le = omega arith
time_more (At m) s t w le = width_more (nat_lt m s) (nat_lt m t) w (before_later m s t le)

widths_more : (es : List Delay) (d : ℕ → Time) (s t : ℕ) → s ≤ t → widths es d s ≤ widths es d t
widths_more [] d s t le = omega arith
widths_more (e ∷ es) d s t le = omega (arith, time_more (d 0) s t e.width le, widths_more es (λ n. d (suc n)) s t le)

not_before : (s : ℕ) → nat_lt s s ≡ false
not_before s = grind (arith, nat_tests)

is_before_later : (s t : ℕ) → s < t → nat_lt s t ≡ true
is_before_later s t lt = grind (arith, nat_tests)

-- after a delay has risen its width is among them
widths_grow : (es : List Delay) (d : ℕ → Time) (n s t : ℕ) (e : Delay) → slice_get es n ≡ Some e → d n ≡ At s → s < t → widths es d s + e.width ≤ widths es d t
widths_grow [] d n s t e g r lt = absurd cc
widths_grow (f ∷ es) d zero s t e g r lt =
    let same : f ≡ e = same_Some f e g in
    let was : risen_width (is_before (d 0) s) f.width ≡ 0 = ap (λ (z : Time). risen_width (is_before z s) f.width) r ∙ ap (λ z. risen_width z f.width) (not_before s) in
    let now : risen_width (is_before (d 0) t) f.width ≡ f.width = ap (λ (z : Time). risen_width (is_before z t) f.width) r ∙ ap (λ z. risen_width z f.width) (is_before_later s t lt) in
    omega (arith, was, now, ap (λ z. z.width) same, widths_more es (λ n. d (suc n)) s t (omega (arith, lt)))
widths_grow (f ∷ es) d (suc n) s t e g r lt =
    omega (arith, time_more (d 0) s t f.width (omega (arith, lt)), widths_grow es (λ n. d (suc n)) n s t e g r lt)

-- ---- timings in the first cycles

module _ (g : Netlist) (ok : IsNetlist g) (x : List Time) where
  abbrev no_gate : Gate
  no_gate = gate.Or line.Low line.Low

  abbrev no_delay : Delay
  no_delay = record { from = line.Low; width = 0 }

  -- the times of gates by those of delays: right for the first n gates
  abbrev gates_by : (ℕ → Time) → ℕ → ℕ → Time
  gates_by d zero k = Never
  gates_by d (suc n) k = gate_time x (gates_by d n) d (get_or g.gates k no_gate)

  -- the times of delays once more, by themselves
  abbrev again : (ℕ → Time) → ℕ → Time
  again d n = line_time x (gates_by d (length g.gates)) d (get_or g.delays n no_delay).from

  gate_is : (k : ℕ) → k < length g.gates → HasLines g k (get_or g.gates k no_gate)
  gate_is k lt = ok.gates k (get_or g.gates k no_gate) (slice_get-get_or g.gates k no_gate lt)

  -- ---- times of gates stay as they are

  line_stays : (d gt gt' : ℕ → Time) (n : ℕ) → ((k : ℕ) → k < n → gt k ≡ gt' k) → (l : Line) → IsLine g n l → line_time x gt d l ≡ line_time x gt' d l
  line_stays d gt gt' n h line.Low is = refl
  line_stays d gt gt' n h (line.Input i) is = refl
  line_stays d gt gt' n h (line.Gate k) is = h k is
  line_stays d gt gt' n h (line.Tap m c) is = refl

  gate_stays : (d gt gt' : ℕ → Time) (n : ℕ) → ((k : ℕ) → k < n → gt k ≡ gt' k) → (q : Gate) → HasLines g n q → gate_time x gt d q ≡ gate_time x gt' d q
  gate_stays d gt gt' n h (gate.Or a b) is = let p = line_stays d gt gt' n h a is.0 in let q = line_stays d gt gt' n h b is.1 in λ i. time_min (p i) (q i)
  gate_stays d gt gt' n h (gate.And a b) is = let p = line_stays d gt gt' n h a is.0 in let q = line_stays d gt gt' n h b is.1 in λ i. time_max (p i) (q i)
  gate_stays d gt gt' n h (gate.Latch a b) is = let p = line_stays d gt gt' n h a is.0 in let q = line_stays d gt gt' n h b is.1 in λ i. time_lt (p i) (q i)

  gates_stay : (d : ℕ → Time) (n k : ℕ) → k < n → k < length g.gates → gates_by d n k ≡ gates_by d (suc n) k
  gates_stay d zero k lt w = absurd (omega (arith, lt))
  gates_stay d (suc n) k lt w =
      gate_stays d (gates_by d n) (gates_by d (suc n)) k (λ j h. gates_stay d n j (omega (arith, h, lt)) (omega (arith, h, w))) (get_or g.gates k no_gate) (gate_is k w)

  -- ---- levels of more cycles

  abbrev DelaysSame : ℕ → (ℕ → Time) → (ℕ → Time) → Type 0
  DelaysSame c d d' = (n : ℕ) → n < length g.delays → AreSame c (d n) (d' n)

  module _ (c : ℕ) (d d' : ℕ → Time) (same : DelaysSame c d d') where
    tap_more : (m w : ℕ) → m < length g.delays → 1 ≤ w → AreSame (suc c) (time_inc (d m) w) (time_inc (d' m) w)
    tap_more m w lt some u h = tap_same (d m) (d' m) w u some (λ v b. same m lt v (omega (arith, b, h)))

    line_more : (gt gt' : ℕ → Time) (n : ℕ) → ((k : ℕ) → k < n → AreSame (suc c) (gt k) (gt' k)) → (l : Line) → IsLine g n l → AreSame (suc c) (line_time x gt d l) (line_time x gt' d' l)
    line_more gt gt' n h line.Low is u lt = refl
    line_more gt gt' n h (line.Input i) is u lt = refl
    line_more gt gt' n h (line.Gate k) is u lt = h k is u lt
    line_more gt gt' n h (line.Tap m w) is u lt = tap_more m w (slice_get_within g.delays m is.0 is.1) is.2 u lt

    gate_more : (gt gt' : ℕ → Time) (n : ℕ) → ((k : ℕ) → k < n → AreSame (suc c) (gt k) (gt' k)) → (q : Gate) → HasLines g n q → AreSame (suc c) (gate_time x gt d q) (gate_time x gt' d' q)
    gate_more gt gt' n h (gate.Or a b) is = min_same (line_time x gt d a) (line_time x gt d b) (line_time x gt' d' a) (line_time x gt' d' b) (suc c) (line_more gt gt' n h a is.0) (line_more gt gt' n h b is.1)
    gate_more gt gt' n h (gate.And a b) is = max_same (line_time x gt d a) (line_time x gt d b) (line_time x gt' d' a) (line_time x gt' d' b) (suc c) (line_more gt gt' n h a is.0) (line_more gt gt' n h b is.1)
    gate_more gt gt' n h (gate.Latch a b) is = lt_same (line_time x gt d a) (line_time x gt d b) (line_time x gt' d' a) (line_time x gt' d' b) (suc c) (line_more gt gt' n h a is.0) (line_more gt gt' n h b is.1)

    gates_more : (n k : ℕ) → k < length g.gates → AreSame (suc c) (gates_by d n k) (gates_by d' n k)
    gates_more zero k lt u h = refl
    gates_more (suc n) k lt u h = gate_more (gates_by d n) (gates_by d' n) k (λ j b. gates_more n j (omega (arith, b, lt))) (get_or g.gates k no_gate) (gate_is k lt) u h

    again_more : DelaysSame (suc c) (again d) (again d')
    again_more n lt =
        line_more (gates_by d (length g.gates)) (gates_by d' (length g.gates)) (length g.gates) (gates_more (length g.gates))
        (get_or g.delays n no_delay).from (ok.delays n (get_or g.delays n no_delay) (slice_get-get_or g.delays n no_delay lt))

  -- never, computed again so often
  abbrev times_by : ℕ → ℕ → Time
  times_by zero = λ n. Never
  times_by (suc c) = again (times_by c)

  times_same : (c : ℕ) → DelaysSame c (times_by c) (times_by (suc c))
  times_same zero n lt u h = absurd (omega (arith, h))
  times_same (suc c) n lt u h = again_more c (times_by c) (times_by (suc c)) (times_same c) n lt u h

  -- ---- no time is late

  -- a finite time is at most the last input time and the widths of the delays that rise before it
  abbrev IsEarly : (ℕ → Time) → ℕ → Type 0
  IsEarly d t = t ≤ last x + widths g.delays d t

  -- what holds of input times and of times of taps holds of all times
  module _ (d : ℕ → Time) (P : ℕ → Type 0) (inputs : (i : ℕ) → Only P (get_or x i Never))
      (taps : (m w : ℕ) (e : Delay) → slice_get g.delays m ≡ Some e → 1 ≤ w → w ≤ e.width → Only P (time_inc (d m) w)) where
    line_only : (gt : ℕ → Time) (n : ℕ) → ((k : ℕ) → k < n → Only P (gt k)) → (l : Line) → IsLine g n l → Only P (line_time x gt d l)
    line_only gt n h line.Low is = only_never P
    line_only gt n h (line.Input i) is = inputs i
    line_only gt n h (line.Gate k) is = h k is
    line_only gt n h (line.Tap m w) is = taps m w is.0 is.1 is.2 is.3

    gate_only : (gt : ℕ → Time) (n : ℕ) → ((k : ℕ) → k < n → Only P (gt k)) → (q : Gate) → HasLines g n q → Only P (gate_time x gt d q)
    gate_only gt n h (gate.Or a b) is = only_min P (line_time x gt d a) (line_time x gt d b) (line_only gt n h a is.0) (line_only gt n h b is.1)
    gate_only gt n h (gate.And a b) is = only_max P (line_time x gt d a) (line_time x gt d b) (line_only gt n h a is.0) (line_only gt n h b is.1)
    gate_only gt n h (gate.Latch a b) is = only_lt P (line_time x gt d a) (line_time x gt d b) (line_only gt n h a is.0)

    gates_only : (n k : ℕ) → k < length g.gates → Only P (gates_by d n k)
    gates_only zero k lt = only_never P
    gates_only (suc n) k lt = gate_only (gates_by d n) k (λ j h. gates_only n j (omega (arith, h, lt))) (get_or g.gates k no_gate) (gate_is k lt)

    again_only : (n : ℕ) → n < length g.delays → Only P (again d n)
    again_only n lt =
        line_only (gates_by d (length g.gates)) (length g.gates) (gates_only (length g.gates))
        (get_or g.delays n no_delay).from (ok.delays n (get_or g.delays n no_delay) (slice_get-get_or g.delays n no_delay lt))

  module _ (c : ℕ) (d : ℕ → Time) (same : DelaysSame c d (again d)) where
    abbrev EarlyBelow : ℕ → Type 0
    EarlyBelow t = (n s : ℕ) → n < length g.delays → s < t → s < c → d n ≡ At s → IsEarly d s

    tap_early : (t : ℕ) → EarlyBelow t → t < c → (m w : ℕ) (e : Delay) → slice_get g.delays m ≡ Some e → 1 ≤ w → w ≤ e.width →
        (a : Time) → d m ≡ a → (s : ℕ) → time_inc a w ≡ At s → s ≤ t → IsEarly d s
    tap_early t below lt m w e get some few Never is s r le = not_never s r
    tap_early t below lt m w e get some few (At q) is s r le =
        let sum : q + w ≡ s = same_At (q + w) s r in
        let was = below m q (slice_get_within g.delays m e get) (omega (arith, sum, some, le)) (omega (arith, sum, some, le, lt)) is in
        omega (arith, sum, few, was, widths_grow g.delays d m q s e get is (omega (arith, sum, some)))

    early_at : (t : ℕ) → EarlyBelow t → t < c → (n : ℕ) → n < length g.delays → d n ≡ At t → IsEarly d t
    early_at t below lt n w e =
        let is : again d n ≡ At t = at_same t c (again d n) lt (subst (λ (z : Time). AreSame c z (again d n)) e (same n w)) in
        again_only d (λ s. s ≤ t → IsEarly d s)
        (λ i s r le. omega (arith, last_is x i s r))
        (λ m v f get some few s r le. tap_early t below lt m v f get some few (d m) refl s r le)
        n w t is (omega arith)

    early_below : (t : ℕ) → EarlyBelow t
    early_below zero n s w lt few e = absurd (omega (arith, lt))
    early_below (suc t) n s w lt few e = elim (cases_lt s t) [
      | inl h ↦ early_below t n s w h few e
      | inr h ↦
          let is : t ≡ s = omega (arith, h, lt) in
          subst (IsEarly d) is (early_at t (early_below t) (subst (λ z. z < c) (sym is) few) n w (e ∙ ap At (sym is)))
    ]

    early : (n s : ℕ) → n < length g.delays → s < c → d n ≡ At s → IsEarly d s
    early n s w few e = early_below c n s w few few e

  -- ---- the timing

  -- a cycle in which all has risen that ever rises
  abbrev end : ℕ
  end = suc (last x + delay_bits g.delays)

  abbrev delay_times : ℕ → Time
  delay_times n = cut end (times_by end n)

  cut_times : DelaysSame end (times_by end) delay_times
  cut_times n lt = cut_same end (times_by end n)

  again_same : DelaysSame end delay_times (again delay_times)
  again_same n lt u h =
      sym (cut_times n lt u h) ∙ times_same end n lt u h ∙ again_more end (times_by end) delay_times cut_times n lt u (omega (arith, h))

  tap_ends : (m w : ℕ) (e : Delay) → slice_get g.delays m ≡ Some e → 1 ≤ w → w ≤ e.width → (a : Time) → delay_times m ≡ a → Only (λ t. t < end) (time_inc a w)
  tap_ends m w e get some few Never is t r = not_never t r
  tap_ends m w e get some few (At s) is t r =
      let sum : s + w ≡ t = same_At (s + w) t r in
      let was = early end delay_times again_same m s (slice_get_within g.delays m e get) (cut_is s end (times_by end m) is) is in
      omega (arith, sum, few, was, widths_grow g.delays delay_times m s (suc s) e get is (omega arith), widths_most g.delays delay_times (suc s))

  again_ends : (n : ℕ) → n < length g.delays → Only (λ t. t < end) (again delay_times n)
  again_ends = again_only delay_times (λ t. t < end) (λ i t r. omega (arith, last_is x i t r)) (λ m w e get some few. tap_ends m w e get some few (delay_times m) refl)

  same_times : (n : ℕ) → n < length g.delays → (a b : Time) → delay_times n ≡ a → again delay_times n ≡ b → AreSame end a b → a ≡ b
  same_times n lt (At t) b e f h = sym (at_same t end b (cut_is t end (times_by end n) e) h)
  same_times n lt Never Never e f h = refl
  same_times n lt Never (At t) e f h = absurd (omega (arith, never_same t end h, again_ends n lt t f))

  timing : IsTiming g x (gates_by delay_times (length g.gates)) delay_times
  timing = record {
    each_gate = λ k q e.
        let lt = slice_get_within g.gates k q e in
        gates_stay delay_times (length g.gates) k lt lt
        ∙ ap (λ (z : Gate). gate_time x (gates_by delay_times (length g.gates)) delay_times z) (get_or_from_slice_get g.gates k q no_gate e);
    each_delay = λ n e get.
        let lt = slice_get_within g.delays n e get in
        same_times n lt (delay_times n) (again delay_times n) refl refl (again_same n lt)
        ∙ ap (λ (z : Delay). line_time x (gates_by delay_times (length g.gates)) delay_times z.from) (get_or_from_slice_get g.delays n e no_delay get);
  }

pub timing_exists : (g : Netlist) (x : List Time) → IsNetlist g → HasTiming g x
timing_exists g x ok = (gates_by g ok x (delay_times g ok x) (length g.gates), delay_times g ok x, timing g ok x)
