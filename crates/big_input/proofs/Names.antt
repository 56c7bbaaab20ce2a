-- The names of the inputs, lets and outputs: a letter and a number.
use Rattle.std.proofs.Common.{◌≡◌, ℕ, zero, suc, ◌+◌, ◌<◌, ◌≤◌, ◌^◌, ◌%◌, refl, ap, arith, sym, ◌∙◌, Bool, true, false, true≢false, not, ◌||◌, length, List, [], ◌∷◌, ◌++◌, codes, decimal, length-append, append_assoc}
use Rattle.std.specs.Prelude.{bytes_eq, nat_le, ◌==◌}
use Rattle.std.specs.List.{list_all, list_any}
use Rattle.std.proofs.lemmas.Bool.{le-leb, ne_eqb, and_parts, and_from, and_left, and_right, leb-true, both_ways}
use Rattle.std.proofs.lemmas.Bool.Decides.{nat_tests}
use Rattle.std.proofs.lemmas.List.{append_cancel_left}
use Rattle.std.proofs.lemmas.List.Folds.{list_all-append, list_any-append}
use Rattle.std.proofs.lemmas.Slice.Eq.{bytes_eq-Decides}
use Rattle.std.proofs.lemmas.Fmt.{decimal_injective, decimal_by_steps, length-decimal-le}
use Rattle.rl_text.specs.Names.{is_letter, is_name_byte, is_name, is_digit}
use Rattle.net_model.specs.Rules.{reserved_words, is_reserved, is_let_name, is_port_name, are_distinct}
use Rattle.big_input.specs.Generated.{numbered, names_below}

-- ---- each is a name

abbrev AreDigits : ℕ → List ℕ → Type 0
AreDigits n ds = (list_all is_digit ds ≡ true) × (0 < length ds)

one_digit : (b : ℕ) → 48 ≤ b → b ≤ 57 → is_digit b ≡ true
one_digit b low high = grind (arith, nat_tests)

decimal_digits : (n : ℕ) → n < 2 ^ 64 → AreDigits n (decimal n)
decimal_digits = decimal_by_steps AreDigits
    (λ n lt. (and_from _ _ (one_digit (48 + n) (omega arith) (omega arith)) refl, omega arith))
    (λ n ds le h. (list_all-append is_digit ds _ ∙ and_from _ _ h.0 (and_from _ _ (one_digit (48 + n % 10) (omega arith) (omega arith)) refl), omega (arith, length-append ds ((48 + n % 10) ∷ []))))

digit_passes : (b : ℕ) → is_digit b ≡ true → is_name_byte b ≡ true
digit_passes b h = rw h (go _ _)
  where
    go : (p q : Bool) → ((p || true) || q) ≡ true
    go true q = refl
    go false q = refl

digits_pass : (ds : List ℕ) → list_all is_digit ds ≡ true → list_all is_name_byte ds ≡ true
digits_pass [] h = refl
digits_pass (d ∷ ds) h = let p = and_parts _ _ h in and_from _ _ (digit_passes d p.0) (digits_pass ds p.1)

-- a word whose second byte is a letter in lower case
abbrev second_is_letter : List ℕ → Bool
second_is_letter [] = false
second_is_letter (a ∷ []) = false
second_is_letter (a ∷ b ∷ bs) = nat_le 97 b

-- a byte and digits are none of these words
not_among : (c d : ℕ) (ds : List ℕ) → d < 97 → (words : List (List ℕ)) → list_all second_is_letter words ≡ true → list_any (bytes_eq (c ∷ d ∷ ds)) words ≡ false
not_among c d ds low [] h = refl
not_among c d ds low ([] ∷ words) h = absurd (both_ways _ refl h)
not_among c d ds low ((a ∷ []) ∷ words) h = absurd (both_ways _ refl h)
not_among c d ds low ((a ∷ b ∷ bs) ∷ words) h =
    let p = and_parts _ _ h in
    let high : 97 ≤ b = leb-true 97 b p.0 in
    let other : (d == b) ≡ false = ne_eqb d b (λ e. absurd (omega arith)) in
    let not_this : bytes_eq (c ∷ d ∷ ds) (a ∷ b ∷ bs) ≡ false = and_right _ _ (and_left _ _ other) in
    ap (λ v. v || list_any (bytes_eq (c ∷ d ∷ ds)) words) not_this ∙ not_among c d ds low words p.1

not_reserved : (c : ℕ) (ds : List ℕ) → list_all is_digit ds ≡ true → 0 < length ds → is_reserved (c ∷ ds) ≡ false
not_reserved c [] h some = absurd (omega arith)
not_reserved c (d ∷ ds) h some =
    let digit : is_digit d ≡ true = (and_parts (is_digit d) (list_all is_digit ds) h).0 in
    let high : d ≤ 57 = leb-true d 57 (and_parts (nat_le 48 d) (nat_le d 57) digit).1 in
    not_among c d ds (omega arith) reserved_words refl

first_passes : (c : ℕ) → is_letter c ≡ true → (q : Bool) → (is_letter c || q) ≡ true
first_passes c h q = rw h refl

let_name : (c k : ℕ) → is_letter c ≡ true → k < 2 ^ 32 → is_let_name (numbered (c ∷ []) k) ≡ true
let_name c k letter low =
    let ds = decimal_digits k (omega arith) in
    let short : length (decimal k) ≤ 10 = length-decimal-le 10 k (omega arith) (omega arith) (omega arith) in
    let word : is_name (c ∷ decimal k) ≡ true = and_from _ _ (first_passes c letter _) (digits_pass (decimal k) ds.0) in
    let len : nat_le (length (c ∷ decimal k)) 32 ≡ true = le-leb _ _ (omega arith) in
    and_from _ _ (and_from _ _ word len) (ap not (not_reserved c (decimal k) ds.0 ds.1))

pub let_names : (c k : ℕ) → is_letter c ≡ true → k ≤ 2 ^ 32 → list_all is_let_name (names_below (c ∷ []) k) ≡ true
let_names c zero letter le = refl
let_names c (suc k) letter le =
    list_all-append is_let_name (names_below (c ∷ []) k) (numbered (c ∷ []) k ∷ [])
    ∙ and_from _ _ (let_names c k letter (omega arith)) (and_from _ _ (let_name c k letter (omega arith)) refl)

-- a letter is no underscore
letter_begins : (c : ℕ) → is_letter c ≡ true → (c == 95) ≡ false
letter_begins c h = grind (arith, nat_tests)

pub port_names : (c k : ℕ) → is_letter c ≡ true → k ≤ 2 ^ 32 → list_all is_port_name (names_below (c ∷ []) k) ≡ true
port_names c zero letter le = refl
port_names c (suc k) letter le =
    let here : is_port_name (numbered (c ∷ []) k) ≡ true = and_from _ _ (let_name c k letter (omega arith)) (ap not (letter_begins c letter)) in
    list_all-append is_port_name (names_below (c ∷ []) k) (numbered (c ∷ []) k ∷ []) ∙ and_from _ _ (port_names c k letter (omega arith)) (and_from _ _ here refl)

-- ---- no name is there twice

not_same : (a b : List ℕ) → (a ≡ b → ⊥) → bytes_eq a b ≡ false
not_same a b h = go (bytes_eq a b) refl
  where
    go : (p : Bool) → bytes_eq a b ≡ p → bytes_eq a b ≡ false
    go true e = absurd (h ((bytes_eq-Decides a b).0 e))
    go false e = e

number_is_new : (c j k : ℕ) → j < k → k < 2 ^ 64 → bytes_eq (numbered (c ∷ []) j) (numbered (c ∷ []) k) ≡ false
number_is_new c j k lt low =
    not_same (numbered (c ∷ []) j) (numbered (c ∷ []) k)
    (λ e. let same : j ≡ k = decimal_injective j k (omega arith) low (append_cancel_left (c ∷ []) (decimal j) (decimal k) e) in absurd (omega (arith, lt, same)))

other_letter : (b c j k : ℕ) → (b == c) ≡ false → bytes_eq (numbered (b ∷ []) j) (numbered (c ∷ []) k) ≡ false
other_letter b c j k e = and_left _ _ e

or_false : (p q : Bool) → p ≡ false → q ≡ false → (p || q) ≡ false
or_false p q e f = ap (λ b. b || q) e ∙ f

-- a name that is none of the first n with a letter
absent : (c n : ℕ) (name : List ℕ) → ((k : ℕ) → k < n → bytes_eq name (numbered (c ∷ []) k) ≡ false) → list_any (bytes_eq name) (names_below (c ∷ []) n) ≡ false
absent c zero name h = refl
absent c (suc n) name h =
    list_any-append (bytes_eq name) (names_below (c ∷ []) n) (numbered (c ∷ []) n ∷ [])
    ∙ or_false _ _ (absent c n name (λ k lt. h k (omega arith))) (or_false _ _ (h n (omega arith)) refl)

-- Names before the others, of which each is none of these: they stay distinct.
abbrev pub AreApart : List (List ℕ) → List (List ℕ) → Type 0
AreApart [] others = Unit {0}
AreApart (name ∷ names) others = (list_any (bytes_eq name) others ≡ false) × AreApart names others

apart_push : (names others : List (List ℕ)) (name : List ℕ) → AreApart names others → list_any (bytes_eq name) others ≡ false → AreApart (names ++ name ∷ []) others
apart_push [] others name h e = (e, tt)
apart_push (m ∷ names) others name h e = (h.0, apart_push names others name h.1 e)

apart_more : (names xs ys : List (List ℕ)) → AreApart names xs → AreApart names ys → AreApart names (xs ++ ys)
apart_more [] xs ys h k = tt
apart_more (name ∷ names) xs ys h k = (list_any-append (bytes_eq name) xs ys ∙ or_false _ _ h.0 k.0, apart_more names xs ys h.1 k.1)

not_true : (p : Bool) → not p ≡ true → p ≡ false
not_true true e = absurd (true≢false (sym e))
not_true false e = refl

pub distinct_append : (xs ys : List (List ℕ)) → are_distinct xs ≡ true → are_distinct ys ≡ true → AreApart xs ys → are_distinct (xs ++ ys) ≡ true
distinct_append [] ys dx dy h = dy
distinct_append (x ∷ xs) ys dx dy h =
    let d = and_parts (not (list_any (bytes_eq x) xs)) (are_distinct xs) dx in
    let none : list_any (bytes_eq x) (xs ++ ys) ≡ false = list_any-append (bytes_eq x) xs ys ∙ or_false _ _ (not_true _ d.0) h.0 in
    and_from _ _ (ap not none) (distinct_append xs ys d.1 dy h.1)

numbers_apart : (c n k : ℕ) → n ≤ k → k < 2 ^ 64 → AreApart (names_below (c ∷ []) n) (numbered (c ∷ []) k ∷ [])
numbers_apart c zero k le low = tt
numbers_apart c (suc n) k le low =
    apart_push (names_below (c ∷ []) n) (numbered (c ∷ []) k ∷ []) (numbered (c ∷ []) n) (numbers_apart c n k (omega arith) low) (or_false _ _ (number_is_new c n k (omega arith) low) refl)

pub numbers_distinct : (c n : ℕ) → n ≤ 2 ^ 64 → are_distinct (names_below (c ∷ []) n) ≡ true
numbers_distinct c zero le = refl
numbers_distinct c (suc n) le =
    distinct_append (names_below (c ∷ []) n) (numbered (c ∷ []) n ∷ []) (numbers_distinct c n (omega arith)) refl (numbers_apart c n n (omega arith) (omega arith))

-- names with different letters
pub letters_apart : (b c m n : ℕ) → (b == c) ≡ false → AreApart (names_below (b ∷ []) m) (names_below (c ∷ []) n)
letters_apart b c zero n e = tt
letters_apart b c (suc m) n e =
    apart_push (names_below (b ∷ []) m) (names_below (c ∷ []) n) (numbered (b ∷ []) m) (letters_apart b c m n e)
    (absent c n (numbered (b ∷ []) m) (λ k lt. other_letter b c m k e))

-- the inputs, the lets and the outputs
pub all_distinct : (i n y : ℕ) → i ≤ 2 ^ 64 → n ≤ 2 ^ 64 → y ≤ 2 ^ 64 → are_distinct (names_below (codes "i") i ++ names_below (codes "n") n ++ names_below (codes "y") y) ≡ true
all_distinct i n y li ln ly =
    let inputs = names_below (codes "i") i in
    let lets = names_below (codes "n") n in
    let outputs = names_below (codes "y") y in
    ap are_distinct (append_assoc inputs lets outputs)
    ∙ distinct_append inputs (lets ++ outputs) (numbers_distinct 105 i li)
    (distinct_append lets outputs (numbers_distinct 110 n ln) (numbers_distinct 121 y ly) (letters_apart 110 121 n y refl))
    (apart_more inputs lets outputs (letters_apart 105 110 i n refl) (letters_apart 105 121 i y refl))
