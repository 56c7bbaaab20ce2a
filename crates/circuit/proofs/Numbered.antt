-- Names made of a prefix and a number: what they are, that they are valid, and that no two are the same.
use Rattle.std.proofs.Common.{◌≡◌, ◌≢◌, ℕ, zero, suc, ◌+◌, ◌-◌, ◌<◌, ◌≤◌, ◌^◌, ◌%◌, List, [], ◌∷◌, ◌++◌, length, map, get_or, refl, ap, ◌∙◌, sym, inl, inr, arith, true, false, Bool, All, IsTrue, codes, decimal, not, ◌||◌, length-append, subst}
use Rattle.std.specs.Prelude.{AllPairs, ◌==◌, bytes_eq, nat_le}
use Rattle.std.specs.List.{list_all, list_any}
use Rattle.std.specs.Char.{is_ascii_alphabetic, is_ascii_digit}
use Rattle.std.proofs.lemmas.List.{get_or_append_left, append_cancel_left, get_or-append_right, get_or-map, length-map}
use Rattle.std.proofs.lemmas.List.Elements.{All-append}
use Rattle.std.proofs.lemmas.Bool.{cases_lt, le-leb, ne_eqb, and_parts, and_from, and_left, and_right, leb-true, both_ways}
use Rattle.std.proofs.lemmas.List.Folds.{list_all-append}
use Rattle.std.proofs.lemmas.Bool.Decides.{nat_tests}
use Rattle.std.proofs.lemmas.Fmt.{decimal_injective, decimal_by_steps, length-decimal-le}
use Rattle.circuit.specs.Names.{numbered, numbered_name, is_own_name, is_own_first, is_own_byte, is_reserved, reserved_words, in_name, out_name}
use Rattle.circuit.specs.Circuit.{Circuit}
use Rattle.circuit.specs.Numbering.{HasNumberedNames, HasPortNames}
use Rattle.circuit.specs.Valid.{HasValidNames}
use Rattle.circuit.proofs.Distinct.{AllAcross, AllBegin, all_pairs-append, across_from_first, inputs_begin, outputs_begin, own_names, declared_names_distinct}

pub length-numbered : (prefix : List ℕ) (n : ℕ) → length (numbered prefix n) ≡ n
length-numbered prefix zero = refl
length-numbered prefix (suc n) = omega (arith, length-append (numbered prefix n) (numbered_name prefix n ∷ []), length-numbered prefix n)

pub get_or-numbered : (prefix : List ℕ) (n k : ℕ) (d : List ℕ) → k < n → get_or (numbered prefix n) k d ≡ numbered_name prefix k
get_or-numbered prefix zero k d lt = absurd (omega arith)
get_or-numbered prefix (suc n) k d lt = elim (cases_lt k n) [
  | inl h ↦ get_or_append_left (numbered prefix n) (numbered_name prefix n ∷ []) d k (omega (arith, length-numbered prefix n)) ∙ get_or-numbered prefix n k d h
  | inr h ↦
      let e : n ≡ k = omega arith in
      subst (λ q. get_or (numbered prefix n ++ numbered_name prefix n ∷ []) q d ≡ numbered_name prefix q) e (last prefix n d)
]
  where
    last : (prefix : List ℕ) (n : ℕ) (d : List ℕ) → get_or (numbered prefix n ++ numbered_name prefix n ∷ []) n d ≡ numbered_name prefix n
    last prefix n d =
        let e : n ≡ length (numbered prefix n) = sym (length-numbered prefix n) in
        let none : n - n ≡ 0 = omega arith in
        get_or-append_right (numbered prefix n) (numbered_name prefix n ∷ []) n n d (sym e) (omega arith) ∙ rw none refl

-- no two numbers give the same name
pub numbered_name-one : (prefix : List ℕ) (j k : ℕ) → j < 2 ^ 64 → k < 2 ^ 64 → numbered_name prefix j ≡ numbered_name prefix k → j ≡ k
numbered_name-one prefix j k lj lk e = decimal_injective j k lj lk (append_cancel_left prefix (decimal j) (decimal k) e)

pub numbered_distinct : (prefix : List ℕ) (n : ℕ) → n ≤ 2 ^ 64 → AllPairs (λ a b. a ≢ b) (numbered prefix n)
numbered_distinct prefix n le = λ i j d lt lj same.
    let len = length-numbered prefix n in
    let e : i ≡ j = numbered_name-one prefix i j (omega (arith, len)) (omega (arith, len))
    (sym (get_or-numbered prefix n i d (omega (arith, len))) ∙ (same ∙ get_or-numbered prefix n j d (omega (arith, len)))) in
    absurd (omega arith)

-- what holds of the name of each number below n
pub all_numbered : (P : List ℕ → Type 0) (prefix : List ℕ) (n : ℕ) → ((k : ℕ) → k < n → P (numbered_name prefix k)) → All P (numbered prefix n)
all_numbered P prefix n h = λ k d lt.
    let lk : k < n = omega (arith, length-numbered prefix n) in
    subst P (sym (get_or-numbered prefix n k d lk)) (h k lk)

-- what a number's decimal is
abbrev IsDigits : ℕ → List ℕ → Type 0
IsDigits n ds = (list_all is_ascii_digit ds ≡ true) × (0 < length ds)

one_digit : (b : ℕ) → 48 ≤ b → b ≤ 57 → is_ascii_digit b ≡ true
one_digit b low high = grind (arith, nat_tests)

decimal_digits : (n : ℕ) → n < 2 ^ 64 → IsDigits n (decimal n)
decimal_digits = decimal_by_steps IsDigits
    (λ n lt. (and_from _ _ (one_digit (48 + n) (omega arith) (omega arith)) refl, omega arith))
    (λ n ds le h. (list_all-append is_ascii_digit ds _ ∙ and_from _ _ h.0 (and_from _ _ (one_digit (48 + n % 10) (omega arith) (omega arith)) refl), omega (arith, length-append ds ((48 + n % 10) ∷ []))))

digit_passes : (b : ℕ) → is_ascii_digit b ≡ true → is_own_byte b ≡ true
digit_passes b h = rw h refl

digits_pass : (ds : List ℕ) → list_all is_ascii_digit ds ≡ true → list_all is_own_byte ds ≡ true
digits_pass [] h = refl
digits_pass (d ∷ ds) h = let p = and_parts _ _ h in and_from _ _ (digit_passes d p.0) (digits_pass ds p.1)

-- a word whose second byte is a letter in lower case
abbrev second_is_letter : List ℕ → Bool
second_is_letter [] = false
second_is_letter (a ∷ []) = false
second_is_letter (a ∷ b ∷ bs) = nat_le 97 b

-- a byte and digits are none of these words
not_among : (c d : ℕ) (ds : List ℕ) → d < 97 → (words : List (List ℕ)) → list_all second_is_letter words ≡ true → list_any (bytes_eq (c ∷ d ∷ ds)) words ≡ false
not_among c d ds low [] h = refl
not_among c d ds low ([] ∷ words) h = absurd (both_ways _ refl h)
not_among c d ds low ((a ∷ []) ∷ words) h = absurd (both_ways _ refl h)
not_among c d ds low ((a ∷ b ∷ bs) ∷ words) h =
    let p = and_parts _ _ h in
    let high : 97 ≤ b = leb-true 97 b p.0 in
    let other : (d == b) ≡ false = ne_eqb d b (λ e. absurd (omega arith)) in
    let not_this : bytes_eq (c ∷ d ∷ ds) (a ∷ b ∷ bs) ≡ false = and_right _ _ (and_left _ _ other) in
    ap (λ v. v || list_any (bytes_eq (c ∷ d ∷ ds)) words) not_this ∙ not_among c d ds low words p.1

not_reserved : (c : ℕ) (ds : List ℕ) → list_all is_ascii_digit ds ≡ true → 0 < length ds → is_reserved (c ∷ ds) ≡ false
not_reserved c [] h some = absurd (omega arith)
not_reserved c (d ∷ ds) h some =
    let digit : is_ascii_digit d ≡ true = (and_parts (is_ascii_digit d) (list_all is_ascii_digit ds) h).0 in
    let high : d ≤ 57 = leb-true d 57 (and_parts (nat_le 48 d) (nat_le d 57) digit).1 in
    not_among c d ds (omega arith) reserved_words refl

-- a letter and a number are a name that a wire or register may have
pub own_numbered_name : (c k : ℕ) → is_ascii_alphabetic c ≡ true → k < 2 ^ 32 → IsTrue (is_own_name (numbered_name (c ∷ []) k))
own_numbered_name c k letter low =
    let ds = decimal_digits k (omega arith) in
    let short : length (decimal k) ≤ 10 = length-decimal-le 10 k (omega arith) (omega arith) (omega arith) in
    let first : is_own_first c ≡ true = rw letter refl in
    let word = and_from _ _ first (digits_pass (decimal k) ds.0) in
    let len : nat_le (length (c ∷ decimal k)) 40 ≡ true = le-leb _ _ (omega arith) in
    and_from _ _ (and_from _ _ word len) (ap not (not_reserved c (decimal k) ds.0 ds.1))

-- such names for all numbers below n
pub own_numbered : (c n : ℕ) → is_ascii_alphabetic c ≡ true → n ≤ 2 ^ 32 → All (λ name. IsTrue (is_own_name name)) (numbered (c ∷ []) n)
own_numbered c n letter le = all_numbered (λ name. IsTrue (is_own_name name)) (c ∷ []) n (λ k lt. own_numbered_name c k letter (omega arith))

pub numbered_begin : (c n : ℕ) → AllBegin c (numbered (c ∷ []) n)
numbered_begin c n = all_numbered (λ name. get_or name 0 0 ≡ c) (c ∷ []) n (λ k lt. refl)

-- wires w0, w1, .. and registers r0, r1, .. give a module valid names, where its ports have them
pub numbered_names : (m : Circuit) → HasNumberedNames m → HasPortNames m → HasValidNames m
numbered_names m n p =
    let w = length m.wires in
    let r = length m.regs in
    let ws : List (List ℕ) = numbered (codes "w") w in
    let rs : List (List ℕ) = numbered (codes "r") r in
    let own : own_names m ≡ ws ++ rs = ap (λ z. z ++ map (λ q. q.name) m.regs) n.wires ∙ ap (λ z. ws ++ z) n.regs in
    let valid_w = own_numbered 119 w refl (omega (arith, n.few_wires)) in
    let valid_r = own_numbered 114 r refl (omega (arith, n.few_regs)) in
    let distinct : AllPairs (λ a b. a ≢ b) (ws ++ rs) =
    all_pairs-append (λ a b. a ≢ b) ws rs (numbered_distinct (codes "w") w (omega (arith, n.few_wires))) (numbered_distinct (codes "r") r (omega (arith, n.few_regs)))
    (across_from_first 119 114 ws rs (λ e. absurd (omega (arith, e))) (numbered_begin 119 w) (numbered_begin 114 r)) in
    let across : (b : ℕ) (ports : List (List ℕ)) → b < 114 → AllBegin b ports → AllAcross (λ x y. x ≢ y) ports (ws ++ rs) = λ b ports lb h k d lt.
    All-append (λ y. get_or ports k d ≢ y) ws rs
    (across_from_first b 119 ports ws (λ e. absurd (omega arith)) h (numbered_begin 119 w) k d lt)
    (across_from_first b 114 ports rs (λ e. absurd (omega arith)) h (numbered_begin 114 r) k d lt) in
    record {
      inputs = p.inputs;
      outputs = p.outputs;
      wires = subst (λ z. All (λ name. IsTrue (is_own_name name)) z) (sym n.wires) valid_w;
      regs = λ k d lt. subst (λ z. IsTrue (is_own_name z)) (get_or-map (λ q. q.name) m.regs k d [] lt)
          (subst (λ z. All (λ name. IsTrue (is_own_name name)) z) (sym n.regs) valid_r k [] (omega (arith, length-map m.regs (λ q. q.name))));
      distinct = declared_names_distinct m p.distinct_inputs p.distinct_outputs
          (subst (λ z. AllPairs (λ a b. a ≢ b) z) (sym own) distinct)
          (subst (λ z. All (λ name. IsTrue (is_own_name name)) z) (sym own) (All-append (λ name. IsTrue (is_own_name name)) ws rs valid_w valid_r))
          (subst (λ z. AllAcross (λ x y. x ≢ y) (map in_name m.inputs) z) (sym own) (across 105 _ (omega arith) (inputs_begin m.inputs)))
          (subst (λ z. AllAcross (λ x y. x ≢ y) (map out_name m.outputs) z) (sym own) (across 111 _ (omega arith) (outputs_begin m.outputs)));
    }
