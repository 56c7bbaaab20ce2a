-- A number's decimal digits are a number as modules write it.
use Rattle.std.proofs.Common.{◌≡◌, ℕ, ◌+◌, ◌*◌, ◌-◌, ◌/◌, ◌%◌, ◌^◌, ◌≤◌, ◌<◌, Bool, true, false, not, ◌&&◌, List, [], ◌∷◌, ◌++◌, refl, ◌∙◌, arith, eqb}
use Rattle.std.specs.Prelude.{decimal}
use Rattle.std.specs.List.{list_all}
use Rattle.std.proofs.lemmas.Bool.{and_from}
use Rattle.std.proofs.lemmas.Bool.Decides.{nat_tests}
use Rattle.std.proofs.lemmas.List.Folds.{list_all-append}
use Rattle.std.proofs.lemmas.Fmt.{decimal_by_steps}
use Rattle.rl_text.specs.Names.{is_digit}
use Rattle.rl_text.specs.Pieces.{is_number}
use Rattle.verilog_text.specs.Grammar.{is_plain}
use Rattle.verilog_text.specs.Judging.{number_from, number_of}

-- there is a first digit, and it is not 0
leads : List ℕ → Bool
leads [] = false
leads (d ∷ digits) = not (eqb d 48)

record AreDigits (n : ℕ) (ds : List ℕ) : Type 0 where
  digits : list_all is_digit ds ≡ true
  plain : is_plain ds ≡ true
  begins : 1 ≤ n → leads ds ≡ true
  value : number_of ds ≡ n

a_digit : (n : ℕ) → n < 10 → is_digit (48 + n) ≡ true
a_digit n h = grind (arith, nat_tests)

not_zero : (n : ℕ) → 1 ≤ n → not (eqb (48 + n) 48) ≡ true
not_zero n h = grind (arith, nat_tests)

one : (n : ℕ) → n < 10 → AreDigits n ((48 + n) ∷ [])
unfolding leads
one n h = record {
  digits = and_from (is_digit (48 + n)) true (a_digit n h) refl;
  plain = refl;
  begins = not_zero n;
  value = omega arith;
}

plain_more : (digits : List ℕ) (d : ℕ) → leads digits ≡ true → is_plain (digits ++ d ∷ []) ≡ true
unfolding leads
plain_more [] d h = absurd cc
plain_more (c ∷ []) d h = h
plain_more (c ∷ e ∷ digits) d h = h

leads_more : (digits : List ℕ) (d : ℕ) → leads digits ≡ true → leads (digits ++ d ∷ []) ≡ true
unfolding leads
leads_more [] d h = absurd cc
leads_more (c ∷ digits) d h = h

number_last : (n : ℕ) (digits : List ℕ) (d : ℕ) → number_from n (digits ++ d ∷ []) ≡ number_from n digits * 10 + (d - 48)
number_last n [] d = refl
number_last n (c ∷ digits) d = number_last (n * 10 + (c - 48)) digits d

more : (n : ℕ) (digits : List ℕ) → 10 ≤ n → AreDigits (n / 10) digits → AreDigits n (digits ++ (48 + n % 10) ∷ [])
more n digits h a =
    let low : 1 ≤ n / 10 = omega arith in
    let last : n % 10 < 10 = omega arith in
    let v = a.value in
    let w = number_last 0 digits (48 + n % 10) in
    record {
      digits = list_all-append is_digit digits ((48 + n % 10) ∷ []) ∙ and_from (list_all is_digit digits) (is_digit (48 + n % 10) && true) a.digits (and_from (is_digit (48 + n % 10)) true (a_digit (n % 10) last) refl);
      plain = plain_more digits (48 + n % 10) (a.begins low);
      begins = λ _. leads_more digits (48 + n % 10) (a.begins low);
      value = omega (arith, v, w);
    }

number_is : (digits : List ℕ) → is_plain digits ≡ true → list_all is_digit digits ≡ true → is_number digits ≡ true
number_is [] p h = absurd cc
number_is (d ∷ digits) p h = h

-- the digits of a number are one, plain, and write it
pub record IsConstant (n : ℕ) (digits : List ℕ) : Type 0 where
  pub number : is_number digits ≡ true
  pub plain : is_plain digits ≡ true
  pub value : number_of digits ≡ n

pub decimal_is : (n : ℕ) → n ≤ 1000000 → IsConstant n (decimal n)
decimal_is n h =
    let small : n < 2 ^ 64 = omega arith in
    let a = decimal_by_steps AreDigits one more n small in
    record { number = number_is (decimal n) a.plain a.digits; plain = a.plain; value = a.value }
