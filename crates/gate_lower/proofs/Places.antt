-- The first places of a store in order, what is listed over them, and the numbers of those that pass a test.
use Rattle.std.proofs.Common.{◌≡◌, ℕ, zero, suc, ◌+◌, ◌≤◌, ◌<◌, Bool, true, false, List, [], ◌∷◌, ◌++◌, length, get_or, map, refl, ap, sym, ◌∙◌, subst, arith, length-append, Some, inl, inr}
use Rattle.std.specs.Prelude.{slice_get, filter, ◌⊎◌, nat_lt}
use Rattle.std.proofs.lemmas.List.{map-append, length-map, append-nil}
use Rattle.std.proofs.lemmas.List.Elements.{filter-append}
use Rattle.std.proofs.lemmas.Bool.{cases_lt}
use Rattle.std.proofs.lemmas.Bool.Decides.{nat_tests}
use Rattle.term_store.specs.Places.{places}
use Rattle.gate_lower.proofs.Gets.{get_left, get_right}

pub same_list : {A : Type 0} (xs ys : List A) (d : A) → length xs ≡ length ys → ((k : ℕ) → k < length xs → get_or xs k d ≡ get_or ys k d) → xs ≡ ys
same_list [] [] d l h = refl
same_list [] (y ∷ ys) d l h = absurd (omega (arith, l))
same_list (x ∷ xs) [] d l h = absurd (omega (arith, l))
same_list (x ∷ xs) (y ∷ ys) d l h =
    ap (λ z. z ∷ xs) (h zero (omega arith)) ∙ ap (λ zs. y ∷ zs) (same_list xs ys d (omega (arith, l)) (λ k lt. h (suc k) (omega (arith, lt))))

pub length_places : (n : ℕ) → length (places n) ≡ n
length_places zero = refl
length_places (suc n) = length-append (places n) (n ∷ []) ∙ omega (arith, length_places n)

pub map_next : {A : Type 0} (f : ℕ → A) (n : ℕ) → map f (places (suc n)) ≡ map f (places n) ++ f n ∷ []
map_next f n = map-append f (places n) (n ∷ [])

pub length_listed : {A : Type 0} (f : ℕ → A) (n : ℕ) → length (map f (places n)) ≡ n
length_listed f n = length-map (places n) f ∙ length_places n

get_before : {A : Type 0} (xs ys : List A) (k : ℕ) (d : A) → k < length xs → get_or (xs ++ ys) k d ≡ get_or xs k d
get_before [] ys k d lt = absurd (omega (arith, lt))
get_before (x ∷ xs) ys zero d lt = refl
get_before (x ∷ xs) ys (suc k) d lt = get_before xs ys k d (omega (arith, lt))

get_last : {A : Type 0} (xs : List A) (y : A) (d : A) → get_or (xs ++ y ∷ []) (length xs) d ≡ y
get_last [] y d = refl
get_last (x ∷ xs) y d = get_last xs y d

-- what is at a place of a list over the first places
pub at_listed : {A : Type 0} (f : ℕ → A) (n k : ℕ) (d : A) → k < n → get_or (map f (places n)) k d ≡ f k
at_listed f zero k d lt = absurd (omega (arith, lt))
at_listed f (suc n) k d lt = ap (λ xs. get_or xs k d) (map_next f n) ∙ elim (cases_lt k n) [
  | inl l ↦ get_before (map f (places n)) (f n ∷ []) k d (omega (arith, l, length_listed f n)) ∙ at_listed f n k d l
  | inr l ↦
      let e : k ≡ length (map f (places n)) = omega (arith, l, lt, length_listed f n) in
      let same : k ≡ n = omega (arith, l, lt) in
      ap (λ i. get_or (map f (places n) ++ f n ∷ []) i d) e ∙ (get_last (map f (places n)) (f n) d ∙ ap f (sym same))
]

-- a list is one over the first places where it has what the function gives at each
pub listed_is : {A : Type 0} (xs : List A) (f : ℕ → A) (n : ℕ) (d : A) → length xs ≡ n → ((k : ℕ) → k < n → get_or xs k d ≡ f k) → xs ≡ map f (places n)
listed_is xs f n d l h = same_list xs (map f (places n)) d (l ∙ sym (length_listed f n)) (λ k lt. h k (omega (arith, lt, l)) ∙ sym (at_listed f n k d (omega (arith, lt, l))))

pub map_same : {A : Type 0} (f g : ℕ → A) (n : ℕ) → ((k : ℕ) → k < n → f k ≡ g k) → map f (places n) ≡ map g (places n)
map_same f g zero h = refl
map_same f g (suc n) h =
    map_next f n ∙ (ap (λ xs. xs ++ f n ∷ []) (map_same f g n (λ k lt. h k (omega (arith, lt)))) ∙ (ap (λ x. map g (places n) ++ x ∷ []) (h n (omega arith)) ∙ sym (map_next g n)))

abbrev pub kept : Bool → ℕ → List ℕ
kept true n = n ∷ []
kept false n = []

abbrev pub one_if : Bool → ℕ
one_if true = 1
one_if false = 0

filter_one : (test : ℕ → Bool) (n : ℕ) (b : Bool) → test n ≡ b → filter test (n ∷ []) ≡ kept b n
filter_one test n true e = rw e refl
filter_one test n false e = rw e refl

pub filter_next : (test : ℕ → Bool) (n : ℕ) → filter test (places (suc n)) ≡ filter test (places n) ++ kept (test n) n
filter_next test n = filter-append test (places n) (n ∷ []) ∙ ap (λ xs. filter test (places n) ++ xs) (filter_one test n (test n) refl)

-- one more where the test is passed
pub one_more : (c d : ℕ) (b : Bool) → d ≡ c + 1 → b ≡ true → d ≡ c + one_if b
one_more c d b e f = e ∙ ap (λ z. c + one_if z) (sym f)

pub none_more : (c d : ℕ) (b : Bool) → d ≡ c → b ≡ false → d ≡ c + one_if b
none_more c d b e f = e ∙ (omega arith ∙ ap (λ z. c + one_if z) (sym f))

pub is_less : (m n : ℕ) → m < n → nat_lt m n ≡ true
is_less m n h = grind (arith, nat_tests)

pub is_no_less : (m n : ℕ) → (m < n → ⊥) → nat_lt m n ≡ false
is_no_less m n h = grind (arith, nat_tests)

length_kept : (b : Bool) (n : ℕ) → length (kept b n) ≡ one_if b
length_kept true n = refl
length_kept false n = refl

-- how many of the first places pass a test
abbrev pub count : (ℕ → Bool) → ℕ → ℕ
count test n = length (filter test (places n))

pub count_next : (test : ℕ → Bool) (n : ℕ) → count test (suc n) ≡ count test n + one_if (test n)
count_next test n =
    ap length (filter_next test n) ∙ (length-append (filter test (places n)) (kept (test n) n) ∙ ap (λ k. count test n + k) (length_kept (test n) n))

one_if_le : (b : Bool) → one_if b ≤ 1
one_if_le true = omega arith
one_if_le false = omega arith

pub count_le : (test : ℕ → Bool) (n : ℕ) → count test n ≤ n
count_le test zero = omega arith
count_le test (suc n) = omega (arith, count_next test n, count_le test n, one_if_le (test n))

pub filter_same : (f g : ℕ → Bool) (n : ℕ) → ((k : ℕ) → k < n → f k ≡ g k) → filter f (places n) ≡ filter g (places n)
filter_same f g zero h = refl
filter_same f g (suc n) h =
    filter_next f n ∙ (ap (λ xs. xs ++ kept (f n) n) (filter_same f g n (λ k lt. h k (omega (arith, lt)))) ∙ (ap (λ b. filter g (places n) ++ kept b n) (h n (omega arith)) ∙ sym (filter_next g n)))

-- the count never falls, and it grows after a place that passes
pub count_mono : (test : ℕ → Bool) (m n : ℕ) → m ≤ n → count test m ≤ count test n
count_mono test m zero le = let e : m ≡ 0 = omega (arith, le) in rw e (omega arith)
count_mono test m (suc n) le = elim (cases_lt n m) [
  | inl l ↦ let e : m ≡ suc n = omega (arith, l, le) in rw e (omega arith)
  | inr l ↦ omega (arith, count_mono test m n l, count_next test n)
]

pub count_below : (test : ℕ → Bool) (m n : ℕ) → m < n → test m ≡ true → count test m < count test n
count_below test m n lt t =
    let next : count test (suc m) ≡ count test m + 1 = count_next test m ∙ ap (λ b. count test m + one_if b) t in
    omega (arith, next, count_mono test (suc m) n lt)

-- two places that pass and have as many before them are the same
pub count_apart : (test : ℕ → Bool) (m n : ℕ) → test m ≡ true → test n ≡ true → count test m ≡ count test n → m ≡ n
count_apart test m n s t e = elim (cases_lt m n) [
  | inl l ↦ absurd (omega (arith, count_below test m n l s, e))
  | inr l ↦ elim (cases_lt n m) [
    | inl k ↦ absurd (omega (arith, count_below test n m k t, e))
    | inr k ↦ omega (arith, l, k)
  ]
]

-- a place that passes is in the list of those that do, after as many as there are before it
pub get_kept : (test : ℕ → Bool) (n p : ℕ) → p < n → test p ≡ true → slice_get (filter test (places n)) (count test p) ≡ Some p
get_kept test zero p lt t = absurd (omega (arith, lt))
get_kept test (suc n) p lt t = ap (λ xs. slice_get xs (count test p)) (filter_next test n) ∙ elim (cases_lt p n) [
  | inl l ↦ get_left (filter test (places n)) (kept (test n) n) (count test p) p (get_kept test n p l t)
  | inr l ↦
      let e : p ≡ n = omega (arith, l, lt) in
      let last : test n ≡ true = ap test (sym e) ∙ t in
      ap (λ b. slice_get (filter test (places n) ++ kept b n) (count test p)) last
      ∙ (ap (slice_get (filter test (places n) ++ n ∷ [])) (ap (count test) e ∙ omega arith)
      ∙ (get_right (filter test (places n)) (n ∷ []) 0 ∙ ap Some (sym e)))
]

-- what is in the list of those that pass
pub record IsKept (test : ℕ → Bool) (n k p : ℕ) : Type 0 where
  pub within : p < n
  pub passes : test p ≡ true
  pub number : k ≡ count test p

kept_more : (test : ℕ → Bool) (n k p : ℕ) → IsKept test n k p → IsKept test (suc n) k p
kept_more test n k p h = record { within = omega (arith, h.within); passes = h.passes; number = h.number }

-- what is in two lists joined is in one of them
get_either : {A : Type 0} (xs ys : List A) (k : ℕ) (x : A) → slice_get (xs ++ ys) k ≡ Some x →
    (slice_get xs k ≡ Some x) ⊎ ((i : ℕ) × (k ≡ length xs + i) × (slice_get ys i ≡ Some x))
get_either [] ys k x h = inr (k, omega arith, h)
get_either (y ∷ xs) ys zero x h = inl h
get_either (y ∷ xs) ys (suc k) x h = elim (get_either xs ys k x h) [
  | inl l ↦ inl l
  | inr r ↦ inr (r.0, omega (arith, r.1), r.2)
]

kept_last : (test : ℕ → Bool) (n k p i : ℕ) (b : Bool) → test n ≡ b → k ≡ count test n + i → slice_get (kept b n) i ≡ Some p → IsKept test (suc n) k p
kept_last test n k p zero true e f h =
    let same : n ≡ p = cc in
    subst (λ q. IsKept test (suc n) k q) same (record { within = omega arith; passes = e; number = omega (arith, f) })
kept_last test n k p (suc i) true e f h = absurd (cc)
kept_last test n k p i false e f h = absurd (cc)

pub is_kept : (test : ℕ → Bool) (n k p : ℕ) → slice_get (filter test (places n)) k ≡ Some p → IsKept test n k p
is_kept test zero k p h = absurd (cc)
is_kept test (suc n) k p h =
    let h' : slice_get (filter test (places n) ++ kept (test n) n) k ≡ Some p = ap (λ xs. slice_get xs k) (sym (filter_next test n)) ∙ h in
    elim (get_either (filter test (places n)) (kept (test n) n) k p h') [
      | inl l ↦ kept_more test n k p (is_kept test n k p l)
      | inr r ↦ kept_last test n k p r.0 (test n) refl r.1 r.2
    ]

-- what is in a list of what a function gives
pub get_map : {A B : Type 0} (f : A → B) (xs : List A) (k : ℕ) (y : B) → slice_get (map f xs) k ≡ Some y → (x : A) × (slice_get xs k ≡ Some x) × (y ≡ f x)
get_map f [] k y h = absurd (cc)
get_map f (x ∷ xs) zero y h = (x, refl, cc)
get_map f (x ∷ xs) (suc k) y h = get_map f xs k y h

pub get_mapped : {A B : Type 0} (f : A → B) (xs : List A) (k : ℕ) (x : A) → slice_get xs k ≡ Some x → slice_get (map f xs) k ≡ Some (f x)
get_mapped f [] k x h = absurd (cc)
get_mapped f (y ∷ xs) zero x h = let e : y ≡ x = cc in ap (λ z. Some (f z)) e
get_mapped f (y ∷ xs) (suc k) x h = get_mapped f xs k x h

-- a list of what a function gives at the places that pass a test, with a place more
pub more_kept : {A : Type 0} (f : ℕ → A) (test : ℕ → Bool) (n : ℕ) (xs ys : List A) (y : A) → xs ≡ map f (filter test (places n)) → test n ≡ true → ys ≡ xs ++ y ∷ [] → y ≡ f n →
    ys ≡ map f (filter test (places (n + 1)))
more_kept f test n xs ys y e t g h =
    let s : suc n ≡ n + 1 = omega arith in
    g ∙ (ap (λ zs. zs ++ y ∷ []) e ∙ (ap (λ z. map f (filter test (places n)) ++ z ∷ []) h
    ∙ (sym (map-append f (filter test (places n)) (n ∷ [])) ∙ (ap (λ b. map f (filter test (places n) ++ kept b n)) (sym t)
    ∙ (ap (map f) (sym (filter_next test n)) ∙ ap (λ k. map f (filter test (places k))) s)))))

pub same_kept : {A : Type 0} (f : ℕ → A) (test : ℕ → Bool) (n : ℕ) (xs ys : List A) → xs ≡ map f (filter test (places n)) → test n ≡ false → ys ≡ xs →
    ys ≡ map f (filter test (places (n + 1)))
same_kept f test n xs ys e t g =
    let s : suc n ≡ n + 1 = omega arith in
    g ∙ (e ∙ (ap (map f) (sym (append-nil (filter test (places n))) ∙ (ap (λ b. filter test (places n) ++ kept b n) (sym t) ∙ sym (filter_next test n))) ∙ ap (λ k. map f (filter test (places k))) s))
