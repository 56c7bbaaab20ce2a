-- Times as they are written.
use Rattle.std.specs.Prelude.{◌≡◌, ℕ, ◌<◌, ◌^◌, List, length, codes, decimal, slice_index}
use Rattle.std.specs.Str.Parse.{IsNumeral, digits_value}
use Rattle.rl_time.specs.declared.time.Time.{Time}
use Rattle.rl_time.specs.declared.time.Time.TheVariants.{At, Never}

-- the digits of the number, or the word never
abbrev pub time_text : Time → List ℕ
time_text (At a) = decimal a
time_text Never = codes "never"

-- the time is a number of 64 bits, or never
abbrev pub FitsIn64Bits : Time → Type 0
FitsIn64Bits (At a) = a < 2 ^ 64
FitsIn64Bits Never = Unit {0}

-- digits that write a number of 64 bits; the first is 0 only in the text 0
pub record IsNumber (text : List ℕ) : Type 0 where
  pub digits : IsNumeral 10 text
  pub no_leading_zero : slice_index text 0 ≡ 48 → length text ≡ 1
  pub fits : digits_value 10 text < 2 ^ 64
