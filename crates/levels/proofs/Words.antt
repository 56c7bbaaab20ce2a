-- Words moved up by one bit, and the rows that they are.
use Rattle.std.proofs.Common.{◌≡◌, ◌≢◌, ℕ, zero, suc, ◌+◌, ◌-◌, ◌*◌, ◌/◌, ◌%◌, ◌^◌, ◌<◌, ◌≤◌, Bool, false, List, ◌∷◌, length, get_or, set, replicate, refl, ap, ◌∙◌, sym, subst, inl, inr, arith, add-one, get_or-set_same, get_or-set_other}
use Rattle.std.specs.Prelude.{◌==◌}
use Rattle.std.specs.Int.{bit_at}
use Rattle.std.specs.Int.RustNames.{bit_or, bit_xor}
use Rattle.std.proofs.lemmas.List.{length-set, same_lists, get_or_default, length-replicate, get_or-replicate, get_or_past}
use Rattle.std.proofs.lemmas.List.FromFn.{get_or-map-range_with_len, length-map-range_with_len}
use Rattle.std.proofs.lemmas.Bool.{cases_eq, cases_lt}
use Rattle.std.proofs.lemmas.Nat.Bits.{bit_at_lowest, bit_at-suc, bit_at-lt, bit_at_or, bit_at_xor, bit_at_cat_low, bit_at_above}
use Rattle.levels.specs.Levels.{shifted}
use Rattle.levels.specs.Marked.{mark_at}
use Rattle.levels.specs.Rows.{row_of, IsPulled, HasTop, AllPulled, ArePulled, moved_at}
use Rattle.levels.proofs.Edges.{shifted_reads, shifted_long}

-- ---- one word

cut_bit : (n i : ℕ) → i < 64 → bit_at (n % 2 ^ 64) i ≡ bit_at n i
cut_bit n i h =
    let e : n / 2 ^ 64 * 2 ^ 64 + n % 2 ^ 64 ≡ n = omega arith in
    sym (bit_at_cat_low (n / 2 ^ 64) 64 (n % 2 ^ 64) i h) ∙ ap (λ z. bit_at z i) e

twice_low : (n : ℕ) → bit_at (n * 2 ^ 1) 0 ≡ 0
twice_low n = let e = bit_at_lowest (n * 2) in let f : n * 2 % 2 ≡ 0 = omega arith in e ∙ f

twice_high : (n i : ℕ) → bit_at (n * 2 ^ 1) (suc i) ≡ bit_at n i
twice_high n i = let f : n * 2 / 2 ≡ n = omega arith in bit_at-suc (n * 2) i ∙ ap (λ z. bit_at z i) f

pub pulled : (word before : ℕ) → before < 2 ^ 64 → IsPulled word before (bit_or (word * 2 ^ 1 % 2 ^ 64) (before / 2 ^ 63))
pulled word before small =
    let a = word * 2 ^ 1 % 2 ^ 64 in
    let b = before / 2 ^ 63 in
    record {
      low =
          let o = bit_at_or a b 0 in
          let x : bit_at a 0 ≡ 0 = cut_bit (word * 2 ^ 1) 0 (omega arith) ∙ twice_low word in
          let y : bit_at b 0 ≡ bit_at before 63 = bit_at_lowest b in
          omega arith;
      rest = λ i lt. rw add-one (
          let o = bit_at_or a b (suc i) in
          let x : bit_at a (suc i) ≡ bit_at word i = cut_bit (word * 2 ^ 1) (suc i) (omega arith) ∙ twice_high word i in
          let y : bit_at b (suc i) ≡ 0 = bit_at_above b 1 (suc i) (omega arith) (omega arith) in
          omega arith);
    }

-- a bit that a difference doesn't have is the same
same_bit : (a b i : ℕ) → bit_at (bit_xor a b) i ≡ 0 → bit_at a i ≡ bit_at b i
same_bit a b i h =
    let x = bit_at_xor a b i in
    let p = bit_at-lt a i in
    let q = bit_at-lt b i in
    omega arith

-- ---- all words

mark_in : (words : List ℕ) (p i : ℕ) → i < 64 → mark_at words (64 * p + i) ≡ bit_at (get_or words p 0) i
unfolding mark_at
mark_in words p i lt =
    let e : (64 * p + i) / 64 ≡ p = omega arith in
    let r : (64 * p + i) % 64 ≡ i = omega arith in
    ap (λ z. bit_at (get_or words z 0) ((64 * p + i) % 64)) e ∙ ap (λ z. bit_at (get_or words p 0) z) r

-- one moved word's bits are the moved bits
moved_in : (words : List ℕ) (start p i word : ℕ) → i < 64 → IsPulled (get_or words p 0) (get_or (start ∷ words) p 0) word →
    bit_at word i ≡ moved_at start words (64 * p + i)
moved_in words start zero zero word lt h = h.low
moved_in words start (suc p) zero word lt h =
    let e : 64 * suc p + 0 ≡ suc (64 * p + 63) = omega arith in
    rw e (h.low ∙ sym (mark_in words p 63 (omega arith)))
moved_in words start p (suc i) word lt h =
    let e : 64 * p + suc i ≡ suc (64 * p + i) = omega arith in
    rw e (rw add-one at (h.rest i (omega arith)) ∙ sym (mark_in words p i (omega arith)))

pub moved_all : (old : List ℕ) (start : ℕ) (words : List ℕ) (j : ℕ) → AllPulled old start words → j < 64 * length old → mark_at words j ≡ moved_at start old j
moved_all old start words j h lt =
    let e : 64 * (j / 64) + j % 64 ≡ j = omega arith in
    let w : j / 64 < length old = omega arith in
    let s : j % 64 < 64 = omega arith in
    subst (λ n. mark_at words n ≡ moved_at start old n) e
    (mark_in words (j / 64) (j % 64) s ∙ moved_in old start (j / 64) (j % 64) (get_or words (j / 64) 0) s (h.by (j / 64) w))

pub changes_none : (words : List ℕ) (start p i word : ℕ) → i < 64 → IsPulled (get_or words p 0) (get_or (start ∷ words) p 0) word →
    bit_at (bit_xor (get_or words p 0) word) i ≡ 0 → moved_at start words (64 * p + i) ≡ mark_at words (64 * p + i)
changes_none words start p i word lt h z =
    sym (moved_in words start p i word lt h) ∙ (sym (same_bit (get_or words p 0) word i z) ∙ sym (mark_in words p i lt))

-- no change up to a bit of word p
pub same_on : (words : List ℕ) (start from p low bit : ℕ) → ((j : ℕ) → from ≤ j → j < 64 * p + low → j < 64 * length words → moved_at start words j ≡ mark_at words j) →
    ((i : ℕ) → low ≤ i → i < bit → moved_at start words (64 * p + i) ≡ mark_at words (64 * p + i)) →
    (j : ℕ) → from ≤ j → j < 64 * p + bit → j < 64 * length words → moved_at start words j ≡ mark_at words j
same_on words start from p low bit h here j ge lt w = elim (cases_lt j (64 * p + low)) [
  | inl u ↦ h j ge u w
  | inr u ↦
      let i : ℕ = j - 64 * p in
      let e : 64 * p + (j - 64 * p) ≡ j = omega arith in
      subst (λ n. moved_at start words n ≡ mark_at words n) e (here (j - 64 * p) (omega arith) (omega arith))
]

pub pulled_none : (words : List ℕ) (start : ℕ) → ArePulled words start 0 words start
pulled_none words start = record { count = refl; below = λ p lt. absurd (omega arith); above = λ p lt. refl; carry = refl }

pub pulled_on : (old words : List ℕ) (start place before before' word : ℕ) → ArePulled old start place words before → place < length old →
    IsPulled (get_or words place 0) before word → before' ≡ get_or words place 0 → ArePulled old start (place + 1) (set words place word) before'
pulled_on old words start place before before' word h lt p e =
    let here : get_or words place 0 ≡ get_or old place 0 = h.above place (omega arith) in
    record {
      count = length-set words place word ∙ h.count;
      below = λ q less w. elim (cases_eq q place) [
        | inl same ↦
            let there : get_or (set words place word) q 0 ≡ word = ap (λ n. get_or (set words place word) n 0) same ∙ get_or-set_same words place word 0 (omega (arith, h.count)) in
            let first : IsPulled (get_or old place 0) (get_or (start ∷ old) place 0) word =
            subst (λ z. IsPulled z (get_or (start ∷ old) place 0) word) here (subst (λ z. IsPulled (get_or words place 0) z word) h.carry p) in
            subst (λ z. IsPulled (get_or old q 0) (get_or (start ∷ old) q 0) z) (sym there)
            (subst (λ n. IsPulled (get_or old n 0) (get_or (start ∷ old) n 0) word) (sym same) first)
        | inr ne ↦ subst (λ z. IsPulled (get_or old q 0) (get_or (start ∷ old) q 0) z) (sym (get_or-set_other words place q word 0 ne)) (h.below q (let d : q ≢ place = ne in omega arith) w)
      ];
      above = λ q less. get_or-set_other words place q word 0 (λ d. absurd (omega arith)) ∙ h.above q (omega arith);
      carry = rw add-one (e ∙ here);
    }

pub pulled_all : (old words : List ℕ) (start place before : ℕ) → ArePulled old start place words before → length old ≤ place → AllPulled old start words
pulled_all old words start place before h le = record { count = h.count; by = λ p lt. h.below p (omega arith) lt }

-- ---- rows

pub row_long : (width : ℕ) (words : List ℕ) → length (row_of width words) ≡ width
row_long width words = length-map-range_with_len (λ k. mark_at words k == 1) 0 width

pub row_reads : (width : ℕ) (words : List ℕ) (j : ℕ) (d : Bool) → j < width → get_or (row_of width words) j d ≡ (mark_at words j == 1)
row_reads width words j d lt = get_or-map-range_with_len (λ k. mark_at words k == 1) 0 width j j d lt (omega arith)

pub moved_reads : (width : ℕ) (words : List ℕ) (start : ℕ) (first : Bool) (j : ℕ) → HasTop first start → j < width →
    get_or (first ∷ row_of width words) j false ≡ (moved_at start words j == 1)
moved_reads width words start first zero top lt = sym top.top
moved_reads width words start first (suc k) top lt = row_reads width words k false (omega arith)

pub row_moved : (width : ℕ) (old words : List ℕ) (start : ℕ) (first : Bool) → HasTop first start → AllPulled old start words → width ≤ 64 * length old →
    row_of width words ≡ shifted first (row_of width old)
row_moved width old words start first top h le =
    let a = row_long width words in
    let b = row_long width old in
    let c = shifted_long first (row_of width old) in
    same_lists (row_of width words) (shifted first (row_of width old)) (a ∙ (sym b ∙ sym c)) (λ k d lt.
    let w : k < width = omega arith in
    row_reads width words k d w ∙ (ap (λ z. z == 1) (moved_all old start words k h (omega arith)) ∙ (sym (moved_reads width old start first k top w)
    ∙ (sym (shifted_reads first (row_of width old) k (omega arith)) ∙ get_or_default (shifted first (row_of width old)) k false d (omega arith)))))

pub row_low : (width n : ℕ) (words : List ℕ) → words ≡ replicate n 0 → ((k : ℕ) → mark_at words k ≡ 0) → row_of width words ≡ replicate width false
row_low width n words e none =
    let a = row_long width words in
    same_lists (row_of width words) (replicate width false) (a ∙ sym (length-replicate width false)) (λ k d lt.
    let w : k < width = omega arith in
    row_reads width words k d w ∙ (ap (λ z. z == 1) (none k) ∙ sym (get_or-replicate width k false d w)))

pub row_past : (width : ℕ) (words : List ℕ) (j : ℕ) → width ≤ j → get_or (row_of width words) j false ≡ false
row_past width words j le = get_or_past (row_of width words) j false (let a = row_long width words in omega arith)

pub row_same : (width : ℕ) (words : List ℕ) (start : ℕ) (first : Bool) (j : ℕ) → HasTop first start → j < width → moved_at start words j ≡ mark_at words j →
    get_or (first ∷ row_of width words) j false ≡ get_or (row_of width words) j false
row_same width words start first j top lt e = moved_reads width words start first j top lt ∙ (ap (λ z. z == 1) e ∙ sym (row_reads width words j false lt))

pub before_first : (words : List ℕ) (start place : ℕ) → place ≡ 0 → start ≡ get_or (start ∷ words) place 0
before_first words start place e = sym (ap (λ n. get_or (start ∷ words) n 0) e)

pub before_next : (words : List ℕ) (start place : ℕ) → (place ≡ 0 → ⊥) → get_or words (place - 1) 0 ≡ get_or (start ∷ words) place 0
before_next words start zero ne = absurd (ne refl)
before_next words start (suc p) ne = let e : suc p - 1 ≡ p = omega arith in rw e

pub row_bit : (width : ℕ) (words slice : List ℕ) (j : ℕ) → slice ≡ words → j < width →
    (bit_at (get_or slice (j / 64) 0) (j % 64) == 1) ≡ get_or (row_of width words) j false
row_bit width words slice j e lt =
    let w : j % 64 < 64 = omega arith in
    let d : 64 * (j / 64) + j % 64 ≡ j = omega arith in
    ap (λ z. bit_at (get_or z (j / 64) 0) (j % 64) == 1) e ∙ (ap (λ z. z == 1) (sym (mark_in words (j / 64) (j % 64) w) ∙ ap (λ n. mark_at words n) d)
    ∙ sym (row_reads width words j false lt))
