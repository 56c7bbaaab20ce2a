-- Texts of numbers.
use Rattle.std.proofs.Common.{◌≡◌, ℕ, zero, suc, ◌<◌, ◌≤◌, ◌^◌, List, [], ◌∷◌, length, refl, sym, ap, subst, ◌∙◌, arith}
use Rattle.std.specs.Prelude.{◌≢◌, Some, codes, decimal, slice_index}
use Rattle.std.specs.Str.{IsUtf8}
use Rattle.std.specs.Str.Parse.{IsNumeral, digits_value}
use Rattle.std.proofs.lemmas.Str.{IsUtf8-from_ascii}
use Rattle.std.proofs.lemmas.Str.Parse.{numerals_by_value, tells_digits, digit_from_value}
use Rattle.std.proofs.lemmas.Fmt.{decimal_is_IsNumeral, decimal-digits_value, first_decimal, decimal_digit, IsAscii-from_digits}
use Rattle.rl_time.specs.declared.time.Time.{Time}
use Rattle.rl_time.specs.declared.time.Time.TheVariants as time
use Rattle.rl_time.specs.Text.{time_text, FitsIn64Bits, IsNumber}

-- what a text of digits begins with
first_is_digit : (text : List ℕ) (c : ℕ) → IsNumeral 10 text → slice_index text 0 ≡ c → (48 ≤ c) × (c ≤ 57)
first_is_digit [] c digits e = absurd (omega (arith, digits.0))
first_is_digit (d ∷ text) c digits e = let range = digit_from_value d digits.1.0 in (omega (arith, range, e), omega (arith, range, e))

pub is_utf8 : (text : List ℕ) → IsNumber text → IsUtf8 text
is_utf8 text number = IsUtf8-from_ascii text (IsAscii-from_digits text number.digits.1)

pub number_written : (text : List ℕ) → IsNumber text → text ≡ decimal (digits_value 10 text)
number_written text number =
    sym (decimal-digits_value (numerals_by_value _ tells_digits) text number.digits.1 number.digits.0 number.no_leading_zero number.fits)

leads : (n : ℕ) → n < 2 ^ 64 → slice_index (decimal n) 0 ≡ 48 → length (decimal n) ≡ 1
leads zero fits e = ap length (decimal_digit 0 (omega arith))
leads (suc n) fits e = let more = first_decimal (suc n) (omega arith) fits in absurd (omega (arith, more, e))

pub decimal_is_number : (n : ℕ) → n < 2 ^ 64 → IsNumber (decimal n)
decimal_is_number n fits = record {
  digits = (decimal_is_IsNumeral n fits).0;
  no_leading_zero = leads n fits;
  fits = subst (λ m. m < 2 ^ 64) (sym (decimal_is_IsNumeral n fits).1) fits;
}

pub decimal_value : (n : ℕ) → n < 2 ^ 64 → digits_value 10 (decimal n) ≡ n
decimal_value n fits = (decimal_is_IsNumeral n fits).1

pub never_is_no_number : IsNumber (codes "never") → ⊥
never_is_no_number number = let range = first_is_digit (codes "never") 110 number.digits refl in absurd (omega (arith, range.1))

-- what is read of a text that some time has
pub never_read : (text : List ℕ) → text ≡ codes "never" → (t : Time) → FitsIn64Bits t → text ≡ time_text t → Some time.Never ≡ Some t
never_read text e time.Never fits is = refl
never_read text e (time.At a) fits is = absurd (never_is_no_number (subst IsNumber (sym is ∙ e) (decimal_is_number a fits)))

pub number_read : (text : List ℕ) (n : ℕ) → IsNumber text → n ≡ digits_value 10 text → (t : Time) → FitsIn64Bits t → text ≡ time_text t → Some (time.At n) ≡ Some t
number_read text n number value time.Never fits is = absurd (never_is_no_number (subst IsNumber is number))
number_read text n number value (time.At a) fits is = ap (λ (m : ℕ). Some (time.At m)) (value ∙ ap (digits_value 10) is ∙ decimal_value a fits)

pub nothing_read : (text : List ℕ) → text ≢ codes "never" → (IsNumber text → ⊥) → (t : Time) → FitsIn64Bits t → text ≡ time_text t → ⊥
nothing_read text no_never no_number time.Never fits is = no_never is
nothing_read text no_never no_number (time.At a) fits is = no_number (subst IsNumber (sym is) (decimal_is_number a fits))
