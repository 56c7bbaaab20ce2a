-- The words of a command.
use Rattle.std.specs.Prelude.{ℕ, ◌-◌, Bool, not, ◌&&◌, ◌||◌, ◌==◌, nat_le, if◌then◌else◌, List, [], ◌∷◌, length, map, codes, decimal, slice_index_or, Option, Some, None, String, string_bytes}
use Rattle.std.specs.Option.{option_map}
use Rattle.std.specs.List.{list_all}
use Rattle.std.specs.Str.{bytes_eq}
use Rattle.std.specs.Str.Parse.{digits_value}
use Rattle.std.specs.declared.alloc.Global.{Global}
use Rattle.rl_time.specs.declared.time.Time.{Time}
use Rattle.rl_time.specs.declared.time.Time.TheVariants.{At, Never}

-- a word that may name a file: 1 to 4,096 bytes, of which the first isn't `-`
abbrev pub is_file_word : List ℕ → Bool
is_file_word word = nat_le 1 (length word) && nat_le (length word) 4096 && not (slice_index_or word 0 0 == 45)

-- the word is a number in decimal, without a leading zero, and at most this
abbrev pub is_number_word : ℕ → List ℕ → Bool
is_number_word most word = nat_le (digits_value 10 word) most && bytes_eq word (decimal (digits_value 10 word))

-- the number that a word writes so, if it is one
abbrev pub number_word : ℕ → List ℕ → Option ℕ
number_word most word = if is_number_word most word then Some (digits_value 10 word) else None

-- the time that a word writes: `never`, or a number up to 1,000,000,000,000 without a leading zero
abbrev pub time_word : List ℕ → Option Time
time_word word =
    if bytes_eq word (codes "never") then Some Never
    else if is_number_word 1000000000000 word then Some (At (digits_value 10 word))
    else None

abbrev pub before : Option Time → Option (List Time) → Option (List Time)
before None rest = None
before (Some t) rest = option_map (λ ts. t ∷ ts) rest

-- the times that words write, in order, if each of them writes one
abbrev pub written_times : List (List ℕ) → Option (List Time)
written_times [] = Some []
written_times (word ∷ words) = before (time_word word) (written_times words)

-- the same of 1 to 64 words
abbrev pub times_of : List (List ℕ) → Option (List Time)
times_of words = if nat_le 1 (length words) && nat_le (length words) 64 then written_times words else None

abbrev is_between : ℕ → ℕ → ℕ → Bool
is_between low high b = nat_le low b && nat_le b high

-- a to z, or A to Z
abbrev pub is_letter : ℕ → Bool
is_letter b = is_between 97 122 b || is_between 65 90 b

-- a letter, a digit or `_`
abbrev pub is_name_byte : ℕ → Bool
is_name_byte b = is_letter b || is_between 48 57 b || (b == 95)

-- a word that may name an output: 1 to 32 bytes, a letter and then letters, digits and `_`
abbrev pub is_name_word : List ℕ → Bool
is_name_word word = nat_le 1 (length word) && nat_le (length word) 32 && is_letter (slice_index_or word 0 0) && list_all is_name_byte word

-- a word that writes a number of cycles: 1 to 100,000
abbrev pub is_cycles_word : List ℕ → Bool
is_cycles_word word = is_number_word 100000 word && nat_le 1 (digits_value 10 word)

-- the last two words are `--order` and another
abbrev pub names_order : List (List ℕ) → Bool
names_order words = nat_le 2 (length words) && bytes_eq (slice_index_or words (length words - 2) []) (codes "--order")

-- the number of an order that the last word writes: at most 1,000,000,000
abbrev pub order_word : List (List ℕ) → Option ℕ
order_word words = number_word 1000000000 (slice_index_or words (length words - 1) [])

-- a word that writes the number of a large network: 1 to 16,384
abbrev pub is_big_word : List ℕ → Bool
is_big_word word = is_number_word 16384 word && nat_le 1 (digits_value 10 word)

-- a word that writes a budget: 1 to 1,000,000
abbrev pub is_budget_word : List ℕ → Bool
is_budget_word word = is_number_word 1000000 word && nat_le 1 (digits_value 10 word)

-- the words as lists of bytes
abbrev pub texts_of : List (String Global) → List (List ℕ)
texts_of words = map string_bytes words
