-- One bit of words.
use Rattle.std.proofs.Common.{◌≡◌, ◌≢◌, ℕ, Bool, true, false, ◌==◌, ◌+◌, ◌*◌, ◌/◌, ◌%◌, ◌^◌, ◌-◌, min, ◌<◌, ◌≤◌, List, length, get_or, set, replicate, refl, ap, ◌∙◌, sym, subst, arith, inl, inr, get_or-set_same, get_or-set_other}
use Rattle.std.specs.Prelude.{◌⊎◌}
use Rattle.std.specs.Int.{bit_at, bit_not, trailing_zeros, w64}
use Rattle.std.specs.Int.RustNames.{bit_or}
use lib.Bits.{bit_and}
use Rattle.std.proofs.lemmas.List.{length-set, get_or-replicate, get_or_past, length-replicate}
use Rattle.std.proofs.lemmas.Bool.{cases_eq, cases_lt, eqb-true, eqb-false}
use Rattle.std.proofs.lemmas.Nat.{and_le_l}
use Rattle.std.proofs.lemmas.Nat.Bits.{bit_at_set_same, bit_at_set_other, bit_at_clear_same, bit_at_clear_other, bit_at-zero, bit_at_and, bit_at_mask_below, bit_at_mask_inside, bit_at-lt, bit_at_ones, ones_shl, bit_at-trailing_zeros}
use Rattle.levels.specs.Marked.{mark_at, IsMarked, IsUnmarked, HasMore, NoneFrom}

pub parts : (k : ℕ) → (64 * (k / 64) + k % 64 ≡ k) × (k % 64 < 64)
parts k = (omega arith, omega arith)

pub mark_set : (words : List ℕ) (k v : ℕ) → k < 64 * length words → v ≡ bit_or (get_or words (k / 64) 0) (1 * 2 ^ (k % 64) % 2 ^ 64) →
    mark_at (set words (k / 64) v) k ≡ 1
unfolding mark_at
mark_set words k v h e =
    let lt : k / 64 < length words = omega arith in
    ap (λ z. bit_at z (k % 64)) (get_or-set_same words (k / 64) v 0 lt ∙ e) ∙ bit_at_set_same w64 (get_or words (k / 64) 0) (k % 64) (omega arith)

pub mark_cleared : (words : List ℕ) (k v : ℕ) → k < 64 * length words → v ≡ bit_and (get_or words (k / 64) 0) (bit_not w64 (1 * 2 ^ (k % 64) % 2 ^ 64)) →
    mark_at (set words (k / 64) v) k ≡ 0
unfolding mark_at
mark_cleared words k v h e =
    let lt : k / 64 < length words = omega arith in
    ap (λ z. bit_at z (k % 64)) (get_or-set_same words (k / 64) v 0 lt ∙ e) ∙ bit_at_clear_same w64 (get_or words (k / 64) 0) (k % 64) (omega arith)

-- other numbers stay, where the word's other bits do
stays : (words : List ℕ) (k v i : ℕ) → k < 64 * length words → ((j : ℕ) → j < 64 → j ≢ k % 64 → bit_at v j ≡ bit_at (get_or words (k / 64) 0) j) → i ≢ k →
    mark_at (set words (k / 64) v) i ≡ mark_at words i
unfolding mark_at
stays words k v i h others ne = elim (cases_eq (i / 64) (k / 64)) [
  | inl e ↦
      let lt : k / 64 < length words = omega arith in
      let there : get_or (set words (k / 64) v) (i / 64) 0 ≡ v = ap (λ z. get_or (set words (k / 64) v) z 0) e ∙ get_or-set_same words (k / 64) v 0 lt in
      let differ : i % 64 ≢ k % 64 = λ q. ne (omega arith) in
      ap (λ z. bit_at z (i % 64)) there ∙ (others (i % 64) (omega arith) differ ∙ ap (λ z. bit_at (get_or words z 0) (i % 64)) (sym e))
  | inr e ↦ ap (λ z. bit_at z (i % 64)) (get_or-set_other words (k / 64) (i / 64) v 0 e)
]

pub set_stays : (words : List ℕ) (k v i : ℕ) → k < 64 * length words → v ≡ bit_or (get_or words (k / 64) 0) (1 * 2 ^ (k % 64) % 2 ^ 64) → i ≢ k →
    mark_at (set words (k / 64) v) i ≡ mark_at words i
set_stays words k v i h e ne = stays words k v i h (λ j lt q. ap (λ z. bit_at z j) e ∙ bit_at_set_other w64 (get_or words (k / 64) 0) (k % 64) (omega arith) j q) ne

pub clear_stays : (words : List ℕ) (k v i : ℕ) → k < 64 * length words → v ≡ bit_and (get_or words (k / 64) 0) (bit_not w64 (1 * 2 ^ (k % 64) % 2 ^ 64)) → i ≢ k →
    mark_at (set words (k / 64) v) i ≡ mark_at words i
clear_stays words k v i h e ne = stays words k v i h (λ j lt q. ap (λ z. bit_at z j) e ∙ bit_at_clear_other w64 (get_or words (k / 64) 0) (k % 64) (omega arith) j lt q) ne

pub more_set : (words : List ℕ) (k v : ℕ) → k < 64 * length words → v ≡ bit_or (get_or words (k / 64) 0) (1 * 2 ^ (k % 64) % 2 ^ 64) →
    HasMore words (set words (k / 64) v)
more_set words k v h e = record {
  room = length-set words (k / 64) v;
  kept = λ i m. elim (cases_eq i k) [
    | inl q ↦ subst (λ z. IsMarked (set words (k / 64) v) z) (sym q) (mark_set words k v h e)
    | inr q ↦ set_stays words k v i h e q ∙ m
  ];
}

zeros_at : (n i : ℕ) → get_or {A = ℕ} (replicate n 0) i 0 ≡ 0
zeros_at n i = elim (cases_lt i n) [
  | inl w ↦ get_or-replicate n i 0 0 w
  | inr w ↦ get_or_past (replicate n 0) i 0 (let e : length {A = ℕ} (replicate n 0) ≡ n = length-replicate n 0 in omega arith)
]

pub none_marked : (words : List ℕ) (n k : ℕ) → words ≡ replicate n 0 → IsUnmarked words k
unfolding mark_at
none_marked words n k e =
    ap (λ z. bit_at (get_or z (k / 64) 0) (k % 64)) e ∙ (ap (λ z. bit_at z (k % 64)) (zeros_at n (k / 64)) ∙ bit_at-zero (k % 64))

-- none up to a bit of word p
pub none_on : (words : List ℕ) (from p low bit : ℕ) → NoneFrom words from (64 * p + low) → ((j : ℕ) → low ≤ j → j < bit → bit_at (get_or words p 0) j ≡ 0) → bit ≤ 64 →
    NoneFrom words from (64 * p + bit)
unfolding mark_at
none_on words from p low bit h bits le k ge lt = elim (cases_lt k (64 * p + low)) [
  | inl w ↦ h k ge w
  | inr w ↦
      let e : k / 64 ≡ p = omega arith in
      ap (λ z. bit_at (get_or words z 0) (k % 64)) e ∙ bits (k % 64) (omega arith) (omega arith)
]

pub none_at_start : (words : List ℕ) (from : ℕ) → NoneFrom words from (64 * (from / 64) + from % 64)
none_at_start words from k ge lt = absurd (omega arith)

pub marked_at : (words : List ℕ) (p bit : ℕ) → bit < 64 → bit_at (get_or words p 0) bit ≡ 1 → IsMarked words (64 * p + bit)
unfolding mark_at
marked_at words p bit lt h =
    let e : (64 * p + bit) / 64 ≡ p = omega arith in
    let r : (64 * p + bit) % 64 ≡ bit = omega arith in
    ap (λ z. bit_at (get_or words z 0) ((64 * p + bit) % 64)) e ∙ (ap (λ z. bit_at (get_or words p 0) z) r ∙ h)

-- a word without its low bits
low_bits : (word from j : ℕ) → from < 64 → j < from → bit_at (bit_and word (2 ^ 64 - 2 ^ from)) j ≡ 0
low_bits word from j h lt =
    let e : bit_at (bit_and word (2 ^ 64 - 2 ^ from)) j ≡ min (bit_at word j) (bit_at (2 ^ 64 - 2 ^ from) j) = bit_at_and word (2 ^ 64 - 2 ^ from) j in
    let m = bit_at_mask_below from 64 j lt in
    omega arith

high_bits : (word from j : ℕ) → from ≤ j → j < 64 → bit_at (bit_and word (2 ^ 64 - 2 ^ from)) j ≡ bit_at word j
high_bits word from j ge lt =
    let e : bit_at (bit_and word (2 ^ 64 - 2 ^ from)) j ≡ min (bit_at word j) (bit_at (2 ^ 64 - 2 ^ from) j) = bit_at_and word (2 ^ 64 - 2 ^ from) j in
    let m = bit_at_mask_inside from 64 j ge lt in
    let b = bit_at-lt word j in
    omega arith

pub record FirstBit (word from bit : ℕ) : Type 0 where
  pub low : from ≤ bit
  pub high : bit ≤ 64
  pub none : (j : ℕ) → from ≤ j → j < bit → bit_at word j ≡ 0
  pub found : bit < 64 → bit_at word bit ≡ 1

pub no_bit : (word from rest : ℕ) → from < 64 → rest ≡ bit_and word ((2 ^ 64 - 1) * 2 ^ from % 2 ^ 64) → rest ≡ 0 → FirstBit word from 64
no_bit word from rest h e z =
    let r : rest ≡ bit_and word (2 ^ 64 - 2 ^ from) = e ∙ ap (λ n. bit_and word n) (ones_shl 64 from (omega arith)) in
    record {
      low = omega arith;
      high = omega arith;
      none = λ j ge lt. sym (high_bits word from j ge lt) ∙ (ap (λ n. bit_at n j) (sym r ∙ z) ∙ bit_at-zero j);
      found = λ lt. absurd (omega arith);
    }

pub some_bit : (word from rest bit : ℕ) → from < 64 → rest ≡ bit_and word ((2 ^ 64 - 1) * 2 ^ from % 2 ^ 64) → 0 < rest → rest < 2 ^ 64 → bit ≡ trailing_zeros w64 rest → FirstBit word from bit
some_bit word from rest bit h e pos small is =
    let r : rest ≡ bit_and word (2 ^ 64 - 2 ^ from) = e ∙ ap (λ n. bit_and word n) (ones_shl 64 from (omega arith)) in
    let t = bit_at-trailing_zeros w64 rest pos small in
    let lt : bit < 64 = omega (arith, t.0) in
    let one : bit_at rest bit ≡ 1 = ap (λ n. bit_at rest n) is ∙ t.1 in
    let low : from ≤ bit = elim (cases_lt bit from) [
      | inl w ↦ let z = low_bits word from bit h w in let q = ap (λ n. bit_at n bit) r in absurd (omega arith)
      | inr w ↦ w
    ] in
    record {
      low = low;
      high = omega arith;
      none = λ j ge w. sym (high_bits word from j ge (omega arith)) ∙ (ap (λ n. bit_at n j) (sym r) ∙ t.2 j (omega arith));
      found = λ w. sym (high_bits word from bit low w) ∙ (ap (λ n. bit_at n bit) (sym r) ∙ one);
    }

pub and_small : (word mask : ℕ) → word < 2 ^ 64 → bit_and word mask < 2 ^ 64
and_small word mask h = omega (arith, and_le_l word mask)

pub mark_either : (words : List ℕ) (k : ℕ) → (mark_at words k ≡ 0) ⊎ (mark_at words k ≡ 1)
unfolding mark_at
mark_either words k =
    let b = bit_at-lt (get_or words (k / 64) 0) (k % 64) in
    elim (cases_lt (bit_at (get_or words (k / 64) 0) (k % 64)) 1) [ inl w ↦ inl (omega arith) | inr w ↦ inr (omega arith) ]

pub all_marked : (words : List ℕ) (count k : ℕ) → words ≡ replicate (count / 64 + 1) 18446744073709551615 → k < count → IsMarked words k
unfolding mark_at
all_marked words count k e lt =
    let w : k / 64 < count / 64 + 1 = omega arith in
    let n : 18446744073709551615 ≡ 2 ^ 64 - 1 = refl in
    ap (λ z. bit_at (get_or z (k / 64) 0) (k % 64)) e ∙ (ap (λ z. bit_at z (k % 64)) (get_or-replicate (count / 64 + 1) (k / 64) 18446744073709551615 0 w)
    ∙ bit_at_ones 64 (k % 64) (omega arith))

-- ---- whether a number is in the set

pub marked_in : (words : List ℕ) (k word : ℕ) → word ≡ get_or words (k / 64) 0 → (bit_at word (k % 64) == 1) ≡ true → IsMarked words k
unfolding mark_at
marked_in words k word e h = ap (λ z. bit_at z (k % 64)) (sym e) ∙ eqb-true (bit_at word (k % 64)) 1 h

pub unmarked_in : (words : List ℕ) (k word : ℕ) → word ≡ get_or words (k / 64) 0 → (bit_at word (k % 64) == 1) ≡ false → IsUnmarked words k
unfolding mark_at
unmarked_in words k word e h =
    let b = bit_at-lt word (k % 64) in
    let d : bit_at word (k % 64) ≢ 1 = eqb-false (bit_at word (k % 64)) 1 h in
    ap (λ z. bit_at z (k % 64)) (sym e) ∙ omega (arith, b)

-- ---- downwards

pub none_in : (words : List ℕ) (k : ℕ) → k % 64 ≡ 0 → 0 < k → get_or words (k / 64 - 1) 0 ≡ 0 → NoneFrom words (k - 64) k
unfolding mark_at
none_in words k r pos e i ge lt =
    let p : i / 64 ≡ k / 64 - 1 = omega arith in
    ap (λ z. bit_at (get_or words z 0) (i % 64)) p ∙ (ap (λ z. bit_at z (i % 64)) e ∙ bit_at-zero (i % 64))

pub none_one : (words : List ℕ) (k : ℕ) → 0 < k → IsUnmarked words (k - 1) → NoneFrom words (k - 1) k
none_one words k pos u i ge lt = let e : i ≡ k - 1 = omega arith in subst (λ n. IsUnmarked words n) (sym e) u

pub none_joined : (words : List ℕ) (from mid end : ℕ) → NoneFrom words from mid → NoneFrom words mid end → NoneFrom words from end
none_joined words from mid end a b i ge lt = elim (cases_lt i mid) [ inl w ↦ a i ge w | inr w ↦ b i w lt ]
