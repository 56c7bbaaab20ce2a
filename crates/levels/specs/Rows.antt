-- The bits of a register in words of 64 bits.
use Rattle.std.specs.Prelude.{◌≡◌, ℕ, zero, suc, ◌+◌, ◌<◌, ◌==◌, Bool, List, ◌∷◌, length, map, slice_index_or}
use Rattle.std.specs.List.{range_with_len}
use Rattle.std.specs.Int.{bit_at}
use Rattle.levels.specs.Marked.{mark_at}

-- the first bits of the words
abbrev pub row_of : ℕ → List ℕ → List Bool
row_of width words = map (λ k. mark_at words k == 1) (range_with_len 0 width)

-- the word moved up by one bit, with the top bit of the word before it at its low end
pub record IsPulled (word before pulled : ℕ) : Type 0 where
  pub low : bit_at pulled 0 ≡ bit_at before 63
  pub rest : (i : ℕ) → i < 63 → bit_at pulled (i + 1) ≡ bit_at word i

-- a word whose top bit is this level
pub record HasTop (level : Bool) (word : ℕ) : Type 0 where
  pub top : (bit_at word 63 == 1) ≡ level

-- each word is moved up, the first one after the start
pub record AllPulled (old : List ℕ) (start : ℕ) (words : List ℕ) : Type 0 where
  pub count : length words ≡ length old
  pub by : (p : ℕ) → p < length old → IsPulled (slice_index_or old p 0) (slice_index_or (start ∷ old) p 0) (slice_index_or words p 0)

-- what bit j is after all bits are moved up
abbrev pub moved_at : ℕ → List ℕ → ℕ → ℕ
moved_at start words zero = bit_at start 63
moved_at start words (suc k) = mark_at words k

-- the words below one place are moved up, and the others are as before
pub record ArePulled (old : List ℕ) (start : ℕ) (place : ℕ) (words : List ℕ) (before : ℕ) : Type 0 where
  pub count : length words ≡ length old
  pub below : (p : ℕ) → p < place → p < length old → IsPulled (slice_index_or old p 0) (slice_index_or (start ∷ old) p 0) (slice_index_or words p 0)
  pub above : (p : ℕ) → place < p + 1 → slice_index_or words p 0 ≡ slice_index_or old p 0
  pub carry : before ≡ slice_index_or (start ∷ old) place 0
