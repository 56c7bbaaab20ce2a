-- The first places of a store in order, and what is listed over them.
use Rattle.std.proofs.Common.{◌≡◌, ℕ, zero, suc, ◌+◌, ◌≤◌, ◌<◌, Bool, true, false, List, [], ◌∷◌, ◌++◌, length, get_or, map, refl, ap, sym, ◌∙◌, arith, length-append, inl, inr}
use Rattle.std.specs.Prelude.{filter, nat_lt}
use Rattle.std.proofs.lemmas.List.{map-append, length-map}
use Rattle.std.proofs.lemmas.List.Elements.{filter-append}
use Rattle.std.proofs.lemmas.Bool.{cases_lt}
use Rattle.std.proofs.lemmas.Bool.Decides.{nat_tests}
use Rattle.term_store.specs.Places.{places}

pub same_list : {A : Type 0} (xs ys : List A) (d : A) → length xs ≡ length ys → ((k : ℕ) → k < length xs → get_or xs k d ≡ get_or ys k d) → xs ≡ ys
same_list [] [] d l h = refl
same_list [] (y ∷ ys) d l h = absurd (omega (arith, l))
same_list (x ∷ xs) [] d l h = absurd (omega (arith, l))
same_list (x ∷ xs) (y ∷ ys) d l h =
    ap (λ z. z ∷ xs) (h zero (omega arith)) ∙ ap (λ zs. y ∷ zs) (same_list xs ys d (omega (arith, l)) (λ k lt. h (suc k) (omega (arith, lt))))

pub length_places : (n : ℕ) → length (places n) ≡ n
length_places zero = refl
length_places (suc n) = length-append (places n) (n ∷ []) ∙ omega (arith, length_places n)

pub map_next : {A : Type 0} (f : ℕ → A) (n : ℕ) → map f (places (suc n)) ≡ map f (places n) ++ f n ∷ []
map_next f n = map-append f (places n) (n ∷ [])

pub length_listed : {A : Type 0} (f : ℕ → A) (n : ℕ) → length (map f (places n)) ≡ n
length_listed f n = length-map (places n) f ∙ length_places n

get_before : {A : Type 0} (xs ys : List A) (k : ℕ) (d : A) → k < length xs → get_or (xs ++ ys) k d ≡ get_or xs k d
get_before [] ys k d lt = absurd (omega (arith, lt))
get_before (x ∷ xs) ys zero d lt = refl
get_before (x ∷ xs) ys (suc k) d lt = get_before xs ys k d (omega (arith, lt))

get_last : {A : Type 0} (xs : List A) (y : A) (d : A) → get_or (xs ++ y ∷ []) (length xs) d ≡ y
get_last [] y d = refl
get_last (x ∷ xs) y d = get_last xs y d

-- what is at a place of a list over the first places
pub at_listed : {A : Type 0} (f : ℕ → A) (n k : ℕ) (d : A) → k < n → get_or (map f (places n)) k d ≡ f k
at_listed f zero k d lt = absurd (omega (arith, lt))
at_listed f (suc n) k d lt = ap (λ xs. get_or xs k d) (map_next f n) ∙ elim (cases_lt k n) [
  | inl l ↦ get_before (map f (places n)) (f n ∷ []) k d (omega (arith, l, length_listed f n)) ∙ at_listed f n k d l
  | inr l ↦
      let e : k ≡ length (map f (places n)) = omega (arith, l, lt, length_listed f n) in
      let same : k ≡ n = omega (arith, l, lt) in
      ap (λ i. get_or (map f (places n) ++ f n ∷ []) i d) e ∙ (get_last (map f (places n)) (f n) d ∙ ap f (sym same))
]

-- a list is one over the first places where it has what the function gives at each
pub listed_is : {A : Type 0} (xs : List A) (f : ℕ → A) (n : ℕ) (d : A) → length xs ≡ n → ((k : ℕ) → k < n → get_or xs k d ≡ f k) → xs ≡ map f (places n)
listed_is xs f n d l h = same_list xs (map f (places n)) d (l ∙ sym (length_listed f n)) (λ k lt. h k (omega (arith, lt, l)) ∙ sym (at_listed f n k d (omega (arith, lt, l))))

pub map_same : {A : Type 0} (f g : ℕ → A) (n : ℕ) → ((k : ℕ) → k < n → f k ≡ g k) → map f (places n) ≡ map g (places n)
map_same f g zero h = refl
map_same f g (suc n) h =
    map_next f n ∙ (ap (λ xs. xs ++ f n ∷ []) (map_same f g n (λ k lt. h k (omega (arith, lt)))) ∙ (ap (λ x. map g (places n) ++ x ∷ []) (h n (omega arith)) ∙ sym (map_next g n)))

abbrev pub kept : Bool → ℕ → List ℕ
kept true n = n ∷ []
kept false n = []

abbrev pub one_if : Bool → ℕ
one_if true = 1
one_if false = 0

filter_one : (test : ℕ → Bool) (n : ℕ) (b : Bool) → test n ≡ b → filter test (n ∷ []) ≡ kept b n
filter_one test n true e = rw e refl
filter_one test n false e = rw e refl

pub filter_next : (test : ℕ → Bool) (n : ℕ) → filter test (places (suc n)) ≡ filter test (places n) ++ kept (test n) n
filter_next test n = filter-append test (places n) (n ∷ []) ∙ ap (λ xs. filter test (places n) ++ xs) (filter_one test n (test n) refl)

-- one more where the test is passed
pub one_more : (c d : ℕ) (b : Bool) → d ≡ c + 1 → b ≡ true → d ≡ c + one_if b
one_more c d b e f = e ∙ ap (λ z. c + one_if z) (sym f)

pub none_more : (c d : ℕ) (b : Bool) → d ≡ c → b ≡ false → d ≡ c + one_if b
none_more c d b e f = e ∙ (omega arith ∙ ap (λ z. c + one_if z) (sym f))

pub is_less : (m n : ℕ) → m < n → nat_lt m n ≡ true
is_less m n h = grind (arith, nat_tests)

pub is_no_less : (m n : ℕ) → (m < n → ⊥) → nat_lt m n ≡ false
is_no_less m n h = grind (arith, nat_tests)

length_kept : (b : Bool) (n : ℕ) → length (kept b n) ≡ one_if b
length_kept true n = refl
length_kept false n = refl

-- how many of the first places pass a test
abbrev pub count : (ℕ → Bool) → ℕ → ℕ
count test n = length (filter test (places n))

pub count_next : (test : ℕ → Bool) (n : ℕ) → count test (suc n) ≡ count test n + one_if (test n)
count_next test n =
    ap length (filter_next test n) ∙ (length-append (filter test (places n)) (kept (test n) n) ∙ ap (λ k. count test n + k) (length_kept (test n) n))

one_if_le : (b : Bool) → one_if b ≤ 1
one_if_le true = omega arith
one_if_le false = omega arith

pub count_le : (test : ℕ → Bool) (n : ℕ) → count test n ≤ n
count_le test zero = omega arith
count_le test (suc n) = omega (arith, count_next test n, count_le test n, one_if_le (test n))

pub filter_same : (f g : ℕ → Bool) (n : ℕ) → ((k : ℕ) → k < n → f k ≡ g k) → filter f (places n) ≡ filter g (places n)
filter_same f g zero h = refl
filter_same f g (suc n) h =
    filter_next f n ∙ (ap (λ xs. xs ++ kept (f n) n) (filter_same f g n (λ k lt. h k (omega (arith, lt)))) ∙ (ap (λ b. filter g (places n) ++ kept b n) (h n (omega arith)) ∙ sym (filter_next g n)))
