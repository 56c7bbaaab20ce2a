-- The levels of a module's outputs over a history, as texts of digits.
use Rattle.std.specs.Prelude.{ℕ, ◌+◌, Bool, true, false, List, [], ◌∷◌, ◌++◌, map, replicate, slice_index_or}
use Rattle.std.specs.List.{range_with_len}
use Rattle.circuit.specs.Meaning.{State}

-- the byte `0` for low and `1` for high
abbrev pub digit : Bool → ℕ
digit false = 48
digit true = 49

-- the digits of one output, one for each state
abbrev pub output_digits : List State → ℕ → List ℕ
output_digits states out = map (λ s. digit (slice_index_or s.outs out false)) states

-- the digits of the first outputs, in order
abbrev pub output_rows : ℕ → List State → List (List ℕ)
output_rows outputs states = map (output_digits states) (range_with_len 0 outputs)

-- the rows of the outputs from this one on, each with its output's level as so many digits more
abbrev pub with_digits : List Bool → ℕ → ℕ → List (List ℕ) → List (List ℕ)
with_digits outs count out [] = []
with_digits outs count out (row ∷ rows) = (row ++ replicate count (digit (slice_index_or outs out false))) ∷ with_digits outs count (out + 1) rows
