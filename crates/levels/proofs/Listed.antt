-- Marks of the items on a list, one after another.
use Rattle.std.proofs.Common.{◌≡◌, ◌≢◌, ℕ, ◌+◌, ◌*◌, ◌<◌, ◌≤◌, List, length, refl, ap, ◌∙◌, sym, subst, inl, inr, arith, Some}
use Rattle.std.specs.Prelude.{slice_get, ◌⊎◌}
use Rattle.std.proofs.lemmas.Option.{slice_get_within}
use Rattle.std.proofs.lemmas.Bool.{cases_lt}
use Rattle.levels.specs.Marked.{mark_at, IsMarked, IsUnmarked, HasMore, HasFirst, HasFirstAbove, HasAll, HasAllAbove, NoneFrom}

pub more_refl : (words : List ℕ) → HasMore words words
more_refl words = record { room = refl; kept = λ k h. h }

pub more_on : (a b c : List ℕ) → HasMore a b → HasMore b c → HasMore a c
more_on a b c h g = record { room = g.room ∙ h.room; kept = λ k m. g.kept k (h.kept k m) }

pub first_none : (words items : List ℕ) → HasFirst words items 0
first_none words items = record { by = λ j i lt. absurd (omega arith) }

pub first_above_none : (words items : List ℕ) (last : ℕ) → HasFirstAbove words last items 0
first_above_none words items last = record { by = λ j i lt. absurd (omega arith) }

same_at : (items : List ℕ) (j n i k : ℕ) → slice_get items j ≡ Some i → slice_get items n ≡ Some k → j ≡ n → i ≡ k
same_at items j n i k a b e = let h : slice_get items j ≡ Some k = ap (λ z. slice_get items z) e ∙ b in cc

pub first_on : (words words' items : List ℕ) (n k : ℕ) → HasFirst words items n → HasMore words words' → slice_get items n ≡ Some k →
    (k < 64 * length words → IsMarked words' k) → HasFirst words' items (n + 1)
first_on words words' items n k h more there new = record {
  by = λ j i lt g room. elim (cases_lt j n) [
    | inl w ↦ let r = more.room in more.kept i (h.by j i w g (omega arith))
    | inr w ↦
        let r = more.room in
        let e : j ≡ n = omega arith in
        let same : i ≡ k = same_at items j n i k g there e in
        subst (λ z. IsMarked words' z) (sym same) (new (omega arith))
  ];
}

pub first_above_on : (words words' items : List ℕ) (last n k : ℕ) → HasFirstAbove words last items n → HasMore words words' → slice_get items n ≡ Some k →
    (last < k → k < 64 * length words → IsMarked words' k) → HasFirstAbove words' last items (n + 1)
first_above_on words words' items last n k h more there new = record {
  by = λ j i lt g above room. elim (cases_lt j n) [
    | inl w ↦ let r = more.room in more.kept i (h.by j i w g above (omega arith))
    | inr w ↦
        let r = more.room in
        let e : j ≡ n = omega arith in
        let same : i ≡ k = same_at items j n i k g there e in
        subst (λ z. IsMarked words' z) (sym same) (new (omega arith) (omega arith))
  ];
}

pub all_of_first : (words items : List ℕ) (n : ℕ) → HasFirst words items n → length items ≤ n → HasAll words items
all_of_first words items n h le j i g room = let lt = slice_get_within items j i g in h.by j i (omega arith) g room

pub all_above_of_first : (words items : List ℕ) (last n : ℕ) → HasFirstAbove words last items n → length items ≤ n → HasAllAbove words last items
all_above_of_first words items last n h le j i g above room = let lt = slice_get_within items j i g in h.by j i (omega arith) g above room

-- none before the next one, after the one at k was removed
pub none_through : (words words' : List ℕ) (k k' : ℕ) → NoneFrom words 0 k → IsUnmarked words' k → ((i : ℕ) → i ≢ k → mark_at words' i ≡ mark_at words i) →
    NoneFrom words' (k + 1) k' → NoneFrom words' 0 k'
none_through words words' k k' before cleared others after i ge lt = elim (cases_lt i k) [
  | inl w ↦ others i (λ e. absurd (omega arith)) ∙ before i (omega arith) w
  | inr w ↦ elim (cases_lt k i) [
    | inl u ↦ after i (omega arith) lt
    | inr u ↦ let e : i ≡ k = omega arith in subst (λ n. IsUnmarked words' n) (sym e) cleared
  ]
]

pub marked_unmarked : (words : List ℕ) (k : ℕ) → IsMarked words k → IsUnmarked words k → ⊥
marked_unmarked words k m u = omega (arith, m, u)

-- what isn't marked in more isn't marked in less
pub unmarked_less : (words words' : List ℕ) (k : ℕ) → HasMore words words' → ((mark_at words k ≡ 0) ⊎ (mark_at words k ≡ 1)) → IsUnmarked words' k → IsUnmarked words k
unmarked_less words words' k more either u = elim either [
  | inl e ↦ e
  | inr e ↦ absurd (marked_unmarked words' k (more.kept k e) u)
]
