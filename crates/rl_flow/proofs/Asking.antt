-- The times that words ask for.
use Rattle.std.proofs.Common.{◌≡◌, ℕ, ◌<◌, ◌≤◌, ◌^◌, Bool, true, false, List, [], ◌∷◌, length, map, refl, sym, ap, subst, ◌∙◌, arith, Option, Some, None}
use Rattle.std.specs.Prelude.{nat_le, codes, decimal, String, string_bytes}
use Rattle.std.specs.declared.alloc.Global.{Global}
use Rattle.std.specs.Str.{bytes_eq}
use Rattle.std.specs.Str.Parse.{IsNumeral, digits_value}
use Rattle.std.proofs.lemmas.Bool.{le-leb, leb-true}
use Rattle.std.proofs.lemmas.Fmt.{decimal_is_IsNumeral}
use Rattle.std.proofs.lemmas.Slice.Eq.{bytes_eq-Decides}
use Rattle.rl_time.specs.declared.time.Time.{Time}
use Rattle.rl_time.specs.declared.time.Time.TheVariants as time
use Rattle.rl_time.specs.Text.{time_text, FitsIn64Bits}
use Rattle.rl_flow.specs.Task.{command_of, check_command, compare_command, of_one_file}
use Rattle.rl_flow.specs.Words.{number_word, time_word}

-- r is what a reader gives of each text that some time has
abbrev pub Reads : List ℕ → Option Time → Type 0
Reads word r = (t : Time) → FitsIn64Bits t → word ≡ time_text t → r ≡ Some t

-- a word that no time has
no_time : (word : List ℕ) (p q s : Bool) → bytes_eq word (codes "never") ≡ p → nat_le (digits_value 10 word) 1000000000000 ≡ q → bytes_eq word (decimal (digits_value 10 word)) ≡ s → Reads word None →
    None ≡ time_word word
no_time word true q s p' q' s' h = absurd (let e : None ≡ Some time.Never = h time.Never tt ((bytes_eq-Decides word (codes "never")).0 p') in cc)
no_time word false false s p' q' s' h = rw (p', q') refl
no_time word false true false p' q' s' h = rw (p', q', s') refl
no_time word false true true p' q' s' h =
    let small = leb-true (digits_value 10 word) 1000000000000 q' in
    absurd (let e : None ≡ Some (time.At (digits_value 10 word)) = h (time.At (digits_value 10 word)) (omega (arith, small)) ((bytes_eq-Decides word (decimal (digits_value 10 word))).0 s') in cc)

pub unread : (word text : List ℕ) → text ≡ word → Reads text None → None ≡ time_word word
unread word text same h = no_time word _ _ _ refl refl refl (λ t fits is. h t fits (same ∙ is))

value : (word : List ℕ) (n : ℕ) → n < 2 ^ 64 → word ≡ decimal n → digits_value 10 word ≡ n
value word n fits e = ap (digits_value 10) e ∙ (decimal_is_IsNumeral n fits).1

abbrev pub bounded : ℕ → Bool → Option Time
bounded n true = Some (time.At n)
bounded n false = None

-- a word that writes a number
number : (word : List ℕ) (n : ℕ) (p q : Bool) → bytes_eq word (codes "never") ≡ p → nat_le n 1000000000000 ≡ q → Reads word (Some (time.At n)) → digits_value 10 word ≡ n → word ≡ decimal n →
    time_word word ≡ bounded n q
number word n true q p' q' h v e = absurd (let f : Some (time.At n) ≡ Some time.Never = h time.Never tt ((bytes_eq-Decides word (codes "never")).0 p') in cc)
number word n false false p' q' h v e = rw (p', v, q') refl
number word n false true p' q' h v e = rw (p', v, q', (bytes_eq-Decides word (decimal n)).1 e) refl

-- what is read of a word with a number's text
reads_number : (word text : List ℕ) (t : Time) (n : ℕ) → text ≡ word → t ≡ time.At n → Reads text (Some t) → Reads word (Some (time.At n))
reads_number word text t n same at h u fits is = ap (λ (s : Time). Some s) (sym at) ∙ h u fits (same ∙ is)

pub writes_time : (word text : List ℕ) (t : Time) (n : ℕ) (q : Bool) → text ≡ word → t ≡ time.At n → Reads text (Some t) → FitsIn64Bits t × (text ≡ time_text t) → nat_le n 1000000000000 ≡ q →
    bounded n q ≡ time_word word
writes_time word text t n q same at h w q' =
    let written = subst (λ (s : Time). FitsIn64Bits s × (text ≡ time_text s)) at w in
    let e : word ≡ decimal n = sym same ∙ written.1 in
    sym (number word n _ q refl q' (reads_number word text t n same at h) (value word n written.0 e) e)

pub early : (n : ℕ) → n ≤ 1000000000000 → nat_le n 1000000000000 ≡ true
early n small = le-leb n 1000000000000 small

pub late : (n : ℕ) → 1000000000000 < n → nat_le n 1000000000000 ≡ false
late n great = over _ refl where
  over : (q : Bool) → nat_le n 1000000000000 ≡ q → nat_le n 1000000000000 ≡ false
  over true f = absurd (let small = leb-true n 1000000000000 f in omega (arith, small, great))
  over false f = f

-- ---- numbers

no_numeral : (word : List ℕ) (most : ℕ) (q s : Bool) → nat_le (digits_value 10 word) most ≡ q → bytes_eq word (decimal (digits_value 10 word)) ≡ s → most < 2 ^ 64 → Reads word None →
    None ≡ number_word most word
no_numeral word most false s q' s' fits h = rw (q') refl
no_numeral word most true false q' s' fits h = rw (q', s') refl
no_numeral word most true true q' s' fits h =
    let small = leb-true (digits_value 10 word) most q' in
    absurd (let e : None ≡ Some (time.At (digits_value 10 word)) = h (time.At (digits_value 10 word)) (omega (arith, small, fits)) ((bytes_eq-Decides word (decimal (digits_value 10 word))).0 s') in cc)

pub no_number : (word text : List ℕ) (most : ℕ) → most < 2 ^ 64 → text ≡ word → Reads text None → None ≡ number_word most word
no_number word text most fits same h = no_numeral word most _ _ refl refl fits (λ t f is. h t f (same ∙ is))

-- what never writes is no number
not_decimal : (n : ℕ) → n < 2 ^ 64 → codes "never" ≡ decimal n → ⊥
not_decimal n fits e =
    let digits : IsNumeral 10 (codes "never") = subst (IsNumeral 10) (sym e) (decimal_is_IsNumeral n fits).0 in
    let first = digits.1.0 in
    absurd (omega (arith, first))

never : (word : List ℕ) (most : ℕ) (q s : Bool) → nat_le (digits_value 10 word) most ≡ q → bytes_eq word (decimal (digits_value 10 word)) ≡ s → most < 2 ^ 64 → word ≡ codes "never" →
    None ≡ number_word most word
never word most false s q' s' fits e = rw (q') refl
never word most true false q' s' fits e = rw (q', s') refl
never word most true true q' s' fits e =
    let small = leb-true (digits_value 10 word) most q' in
    let is = (bytes_eq-Decides word (decimal (digits_value 10 word))).0 s' in
    absurd (not_decimal (digits_value 10 word) (omega (arith, small, fits)) (sym e ∙ is))

pub never_no_number : (word text : List ℕ) (most : ℕ) (t : Time) → most < 2 ^ 64 → text ≡ word → t ≡ time.Never → FitsIn64Bits t × (text ≡ time_text t) → None ≡ number_word most word
never_no_number word text most t fits same at w = never word most _ _ refl refl fits (sym same ∙ (w.1 ∙ ap time_text at))

abbrev pub number_up_to : ℕ → Bool → Option ℕ
number_up_to n true = Some n
number_up_to n false = None

numeral : (word : List ℕ) (most n : ℕ) (q : Bool) → nat_le n most ≡ q → digits_value 10 word ≡ n → word ≡ decimal n → number_up_to n q ≡ number_word most word
numeral word most n false q' v e = rw (v, q') refl
numeral word most n true q' v e = rw (v, q', (bytes_eq-Decides word (decimal n)).1 e) refl

pub is_number_word : (word text : List ℕ) (most : ℕ) (t : Time) (n : ℕ) (q : Bool) → text ≡ word → t ≡ time.At n → FitsIn64Bits t × (text ≡ time_text t) → nat_le n most ≡ q →
    number_up_to n q ≡ number_word most word
is_number_word word text most t n q same at w q' =
    let written = subst (λ (s : Time). FitsIn64Bits s × (text ≡ time_text s)) at w in
    let e : word ≡ decimal n = sym same ∙ written.1 in
    numeral word most n q q' (value word n written.0 e) e

pub up_to : (n most : ℕ) → n ≤ most → nat_le n most ≡ true
up_to n most small = le-leb n most small

pub not_up_to : (n most : ℕ) → most < n → nat_le n most ≡ false
not_up_to n most great = over _ refl where
  over : (q : Bool) → nat_le n most ≡ q → nat_le n most ≡ false
  over true f = absurd (let small = leb-true n most f in omega (arith, small, great))
  over false f = f

-- ---- words

pub no_words : (words : List (String Global)) → length words < 1 → None ≡ command_of (map string_bytes words)
unfolding command_of
no_words [] few = refl
no_words (a ∷ words) few = absurd (omega (arith, few))

pub no_file : (command : List ℕ) (words : List (String Global)) → length words < 1 → None ≡ of_one_file command (map string_bytes words)
unfolding of_one_file
no_file command [] few = refl
no_file command (a ∷ words) few = absurd (omega (arith, few))

pub not_three : (words : List (String Global)) → (length words ≡ 3 → ⊥) → None ≡ check_command (map string_bytes words)
unfolding check_command
not_three [] other = refl
not_three (a ∷ []) other = refl
not_three (a ∷ b ∷ []) other = refl
not_three (a ∷ b ∷ c ∷ []) other = absurd (other refl)
not_three (a ∷ b ∷ c ∷ d ∷ words) other = refl

pub no_pair : (words : List (String Global)) → length words < 2 → None ≡ compare_command (map string_bytes words)
unfolding compare_command
no_pair [] few = refl
no_pair (a ∷ []) few = refl
no_pair (a ∷ b ∷ words) few = absurd (omega (arith, few))
