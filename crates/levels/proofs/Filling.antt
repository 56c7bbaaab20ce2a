-- Sets that are filled from a number on.
use Rattle.std.proofs.Common.{◌≡◌, ℕ, ◌+◌, ◌*◌, ◌/◌, ◌%◌, ◌^◌, ◌-◌, ◌<◌, ◌≤◌, List, length, get_or, set, ap, ◌∙◌, sym, subst, arith, inl, inr, get_or-set_same, get_or-set_other}
use Rattle.std.specs.Int.{bit_at}
use Rattle.std.proofs.lemmas.Bool.{cases_eq, cases_lt}
use Rattle.std.proofs.lemmas.Nat.Bits.{bit_at-zero, bit_at_mask_below, bit_at_mask_inside, bit_at_ones, ones_shl}
use Rattle.levels.specs.Marked.{mark_at, IsMarked, IsUnmarked, IsFilled, AreFilled}
use Rattle.std.proofs.lemmas.List.{get_or_past}

pub all_filled : (place from : ℕ) → from ≤ 64 * place → IsFilled place from 18446744073709551615
all_filled place from le = record {
  below = λ j lt no. absurd (omega (arith, le, no));
  above = λ j lt yes_. bit_at_ones 64 j lt;
}

pub none_filled : (place from : ℕ) → 64 * place + 64 ≤ from → IsFilled place from 0
none_filled place from le = record {
  below = λ j lt h. bit_at-zero j;
  above = λ j lt h. absurd (omega (arith, le, lt, h));
}

pub some_filled : (place from word : ℕ) → 64 * place < from → from - 64 * place < 64 → word ≡ (2 ^ 64 - 1) * 2 ^ (from - 64 * place) % 2 ^ 64 → IsFilled place from word
some_filled place from word lt few e =
    let r : word ≡ 2 ^ 64 - 2 ^ (from - 64 * place) = e ∙ ones_shl 64 (from - 64 * place) (omega (arith, few)) in
    record {
      below = λ j h no. ap (λ n. bit_at n j) r ∙ bit_at_mask_below (from - 64 * place) 64 j (omega (arith, no));
      above = λ j h ge. ap (λ n. bit_at n j) r ∙ bit_at_mask_inside (from - 64 * place) 64 j (omega (arith, ge)) h;
    }

pub filled_on : (words : List ℕ) (place from word : ℕ) → place < length words → AreFilled words place from → IsFilled place from word → AreFilled (set words place word) (place + 1) from
filled_on words place from word lt so_far here = record {
  by = λ p h. elim (cases_eq p place) [
    | inl e ↦ subst (λ z. IsFilled z from (get_or (set words place word) z 0)) (sym e) (subst (λ z. IsFilled place from z) (sym (get_or-set_same words place word 0 lt)) here)
    | inr ne ↦ subst (λ z. IsFilled p from z) (sym (get_or-set_other words place p word 0 ne)) (so_far.by p (omega (arith, h, ne)))
  ];
}

pub filled_below : (words : List ℕ) (place from k : ℕ) → AreFilled words place from → length words ≤ place → k < from → IsUnmarked words k
unfolding mark_at
filled_below words place from k h le lt = elim (cases_lt (k / 64) (length words)) [
  | inl w ↦ (h.by (k / 64) (omega (arith, w, le))).below (k % 64) (omega arith) (omega (arith, lt))
  | inr past ↦ ap (λ z. bit_at z (k % 64)) (get_or_past words (k / 64) 0 (omega (arith, past))) ∙ bit_at-zero (k % 64)
]

pub filled_above : (words : List ℕ) (place from k : ℕ) → AreFilled words place from → length words ≤ place → from ≤ k → k < 64 * length words → IsMarked words k
unfolding mark_at
filled_above words place from k h le ge lt = (h.by (k / 64) (omega (arith, lt, le))).above (k % 64) (omega arith) (omega (arith, ge))
