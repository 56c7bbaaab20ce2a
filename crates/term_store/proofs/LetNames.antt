-- The names of an extracted network's lets.
use Rattle.std.proofs.Common.{◌≡◌, ℕ, zero, suc, ◌+◌, ◌<◌, ◌≤◌, ◌^◌, ◌%◌, refl, ap, arith, sym, ◌∙◌, Bool, true, false, true≢false, not, ◌||◌, length, List, [], ◌∷◌, ◌++◌, codes, decimal, length-append}
use Rattle.std.specs.Prelude.{bytes_eq, nat_le}
use Rattle.std.specs.List.{list_all, list_any}
use Rattle.std.proofs.lemmas.Bool.{le-leb, and_parts, and_from}
use Rattle.std.proofs.lemmas.Bool.Decides.{nat_tests}
use Rattle.std.proofs.lemmas.List.{append_cancel_left, map-append}
use Rattle.std.proofs.lemmas.List.Folds.{list_all-append, list_any-append}
use Rattle.std.proofs.lemmas.Slice.Eq.{bytes_eq-Decides}
use Rattle.std.proofs.lemmas.Fmt.{decimal_injective, decimal_by_steps, length-decimal-le}
use Rattle.rl_text.specs.Names.{is_name_byte, is_name, is_digit}
use Rattle.net_model.specs.Formula.{Equation}
use Rattle.net_model.specs.Rules.{is_reserved, is_let_name, is_port_name, begins_with_underscore, are_distinct, names_of}
use Rattle.term_store.specs.declared.node.Node.{Node}
use Rattle.term_store.specs.Extracted.{becomes_let, let_places, let_number, let_name, let_at, lets_below}
use Rattle.term_store.proofs.Lets.{places_yes, places_no, lets_yes, lets_no}

-- the names of so many lets
abbrev pub let_names : ℕ → List (List ℕ)
let_names zero = []
let_names (suc k) = let_names k ++ let_name k ∷ []

pub names_are : (ns : List Node) (r : ℕ → Bool) (n : ℕ) → names_of (lets_below ns r n) ≡ let_names (let_number ns r n)
names_are ns r zero = refl
names_are ns r (suc n) = go (becomes_let ns r n) refl (names_are ns r n)
  where
    go : (b : Bool) → becomes_let ns r n ≡ b → names_of (lets_below ns r n) ≡ let_names (let_number ns r n) → names_of (lets_below ns r (suc n)) ≡ let_names (let_number ns r (suc n))
    go true e rest =
        let count : let_number ns r (suc n) ≡ suc (let_number ns r n) = omega (arith, ap length (places_yes ns r n e), length-append (let_places ns r n) (n ∷ [])) in
        ap names_of (lets_yes ns r n e) ∙ map-append (λ (x : Equation). x.name) (lets_below ns r n) (let_at ns r n ∷ [])
        ∙ ap (λ (xs : List (List ℕ)). xs ++ let_name (let_number ns r n) ∷ []) rest
        ∙ ap let_names (sym count)
    go false e rest = ap names_of (lets_no ns r n e) ∙ rest ∙ ap (λ ps. let_names (length ps)) (sym (places_no ns r n e))

-- each is a name that a let may have

abbrev IsDigits : ℕ → List ℕ → Type 0
IsDigits n ds = list_all is_name_byte ds ≡ true

one_digit : (b : ℕ) → 48 ≤ b → b ≤ 57 → is_digit b ≡ true
one_digit b low high = grind (arith, nat_tests)

digit_passes : (b : ℕ) → is_digit b ≡ true → is_name_byte b ≡ true
digit_passes b h = rw h (go _ _)
  where
    go : (p q : Bool) → ((p || true) || q) ≡ true
    go true q = refl
    go false q = refl

digit_byte : (b : ℕ) → 48 ≤ b → b ≤ 57 → is_name_byte b ≡ true
digit_byte b low high = digit_passes b (one_digit b low high)

decimal_digits : (n : ℕ) → n < 2 ^ 64 → list_all is_name_byte (decimal n) ≡ true
decimal_digits = decimal_by_steps IsDigits
    (λ n lt. and_from _ _ (digit_byte (48 + n) (omega arith) (omega arith)) refl)
    (λ n ds le h. list_all-append is_name_byte ds _ ∙ and_from _ _ h (and_from _ _ (digit_byte (48 + n % 10) (omega arith) (omega arith)) refl))

not_reserved : (ds : List ℕ) → is_reserved (95 ∷ ds) ≡ false
not_reserved ds = refl

pub let_name_valid : (k : ℕ) → k < 2 ^ 32 → is_let_name (let_name k) ≡ true
let_name_valid k low =
    let short : length (decimal k) ≤ 10 = length-decimal-le 10 k (omega arith) (omega arith) (omega arith) in
    let word : is_name (let_name k) ≡ true = and_from true (list_all is_name_byte (decimal k)) refl (decimal_digits k (omega arith)) in
    let len : nat_le (length (let_name k)) 32 ≡ true = le-leb _ _ (omega arith) in
    and_from _ _ (and_from _ _ word len) (ap not (not_reserved (decimal k)))

pub names_valid : (k : ℕ) → k ≤ 2 ^ 32 → list_all is_let_name (let_names k) ≡ true
names_valid zero le = refl
names_valid (suc k) le =
    list_all-append is_let_name (let_names k) (let_name k ∷ []) ∙ and_from _ _ (names_valid k (omega arith)) (and_from _ _ (let_name_valid k (omega arith)) refl)

pub names_begin : (k : ℕ) → list_all begins_with_underscore (let_names k) ≡ true
names_begin zero = refl
names_begin (suc k) = list_all-append begins_with_underscore (let_names k) (let_name k ∷ []) ∙ and_from _ _ (names_begin k) refl

-- no name occurs twice

same_name : (a b : List ℕ) → bytes_eq a b ≡ true → a ≡ b
same_name a b h = (bytes_eq-Decides a b).0 h

from_same : (a b : List ℕ) → a ≡ b → bytes_eq a b ≡ true
from_same a b e = (bytes_eq-Decides a b).1 e

not_same : (a b : List ℕ) → (a ≡ b → ⊥) → bytes_eq a b ≡ false
not_same a b h = go (bytes_eq a b) refl
  where
    go : (p : Bool) → bytes_eq a b ≡ p → bytes_eq a b ≡ false
    go true e = absurd (h (same_name a b e))
    go false e = e

name_is_new : (j k : ℕ) → j < k → k < 2 ^ 64 → bytes_eq (let_name k) (let_name j) ≡ false
name_is_new j k lt low =
    not_same (let_name k) (let_name j) (λ e. let same : k ≡ j = decimal_injective k j low (omega arith) (append_cancel_left (codes "_") (decimal k) (decimal j) e) in absurd (omega (arith, lt, same)))

or_false : (p q : Bool) → p ≡ false → q ≡ false → (p || q) ≡ false
or_false p q e f = ap (λ b. b || q) e ∙ f

or_parts : (p q : Bool) → (p || q) ≡ false → (p ≡ false) × (q ≡ false)
or_parts true q e = absurd (true≢false e)
or_parts false q e = (refl, e)

not_true : (p : Bool) → not p ≡ true → p ≡ false
not_true true e = absurd (true≢false (sym e))
not_true false e = refl

none_so_far : (j k : ℕ) → j ≤ k → k < 2 ^ 64 → list_any (bytes_eq (let_name k)) (let_names j) ≡ false
none_so_far zero k le low = refl
none_so_far (suc j) k le low =
    list_any-append (bytes_eq (let_name k)) (let_names j) (let_name j ∷ [])
    ∙ or_false _ _ (none_so_far j k (omega arith) low) (or_false _ _ (name_is_new j k (omega arith) low) refl)

sym_false : (a b : List ℕ) → bytes_eq a b ≡ false → bytes_eq b a ≡ false
sym_false a b h = not_same b a (λ e. true≢false (sym (from_same a b (sym e)) ∙ h))

distinct_push : (xs : List (List ℕ)) (x : List ℕ) → are_distinct xs ≡ true → list_any (bytes_eq x) xs ≡ false → are_distinct (xs ++ x ∷ []) ≡ true
distinct_push [] x d h = refl
distinct_push (y ∷ xs) x d h =
    let a = and_parts (not (list_any (bytes_eq y) xs)) (are_distinct xs) d in
    let b = or_parts (bytes_eq x y) (list_any (bytes_eq x) xs) h in
    let none : list_any (bytes_eq y) (xs ++ x ∷ []) ≡ false =
    list_any-append (bytes_eq y) xs (x ∷ []) ∙ or_false _ _ (not_true _ a.0) (or_false _ _ (sym_false x y b.0) refl) in
    and_from (not (list_any (bytes_eq y) (xs ++ x ∷ []))) (are_distinct (xs ++ x ∷ [])) (ap not none) (distinct_push xs x a.1 b.1)

names_distinct : (k : ℕ) → k ≤ 2 ^ 64 → are_distinct (let_names k) ≡ true
names_distinct zero le = refl
names_distinct (suc k) le = distinct_push (let_names k) (let_name k) (names_distinct k (omega arith)) (none_so_far k k (omega arith) (omega arith))

-- names that begin with `_`, between others that don't

unlike : (a b : List ℕ) → begins_with_underscore a ≡ true → begins_with_underscore b ≡ false → a ≡ b → ⊥
unlike a b p q e = true≢false (sym p ∙ ap begins_with_underscore e ∙ q)

port_begins : (name : List ℕ) → is_port_name name ≡ true → begins_with_underscore name ≡ false
port_begins name e = not_true (begins_with_underscore name) (and_parts (is_let_name name) (not (begins_with_underscore name)) e).1

no_port : (m : List ℕ) (ports : List (List ℕ)) → begins_with_underscore m ≡ true → list_all is_port_name ports ≡ true → list_any (bytes_eq m) ports ≡ false
no_port m [] b h = refl
no_port m (p ∷ ports) b h =
    let k = and_parts (is_port_name p) (list_all is_port_name ports) h in
    or_false _ _ (not_same m p (unlike m p b (port_begins p k.0))) (no_port m ports b k.1)

no_let : (p : List ℕ) (ms : List (List ℕ)) → begins_with_underscore p ≡ false → list_all begins_with_underscore ms ≡ true → list_any (bytes_eq p) ms ≡ false
no_let p [] b h = refl
no_let p (m ∷ ms) b h =
    let k = and_parts (begins_with_underscore m) (list_all begins_with_underscore ms) h in
    or_false _ _ (not_same p m (λ e. unlike m p k.0 b (sym e))) (no_let p ms b k.1)

lets_then_ports : (ms ys : List (List ℕ)) → are_distinct ms ≡ true → are_distinct ys ≡ true → list_all begins_with_underscore ms ≡ true → list_all is_port_name ys ≡ true → are_distinct (ms ++ ys) ≡ true
lets_then_ports [] ys dm dy b h = dy
lets_then_ports (m ∷ ms) ys dm dy b h =
    let d = and_parts (not (list_any (bytes_eq m) ms)) (are_distinct ms) dm in
    let k = and_parts (begins_with_underscore m) (list_all begins_with_underscore ms) b in
    let none : list_any (bytes_eq m) (ms ++ ys) ≡ false = list_any-append (bytes_eq m) ms ys ∙ or_false _ _ (not_true _ d.0) (no_port m ys k.0 h) in
    and_from (not (list_any (bytes_eq m) (ms ++ ys))) (are_distinct (ms ++ ys)) (ap not none) (lets_then_ports ms ys d.1 dy k.1 h)

distinct_between : (xs ms ys : List (List ℕ)) → are_distinct (xs ++ ys) ≡ true → are_distinct ms ≡ true → list_all is_port_name xs ≡ true → list_all begins_with_underscore ms ≡ true → list_all is_port_name ys ≡ true
    → are_distinct (xs ++ (ms ++ ys)) ≡ true
distinct_between [] ms ys d dm hx b hy = lets_then_ports ms ys dm d b hy
distinct_between (x ∷ xs) ms ys d dm hx b hy =
    let e = and_parts (not (list_any (bytes_eq x) (xs ++ ys))) (are_distinct (xs ++ ys)) d in
    let f = or_parts _ _ (sym (list_any-append (bytes_eq x) xs ys) ∙ not_true _ e.0) in
    let k = and_parts (is_port_name x) (list_all is_port_name xs) hx in
    let none : list_any (bytes_eq x) (xs ++ (ms ++ ys)) ≡ false =
    list_any-append (bytes_eq x) xs (ms ++ ys)
    ∙ or_false _ _ f.0 (list_any-append (bytes_eq x) ms ys ∙ or_false _ _ (no_let x ms (port_begins x k.0) b) f.1) in
    and_from (not (list_any (bytes_eq x) (xs ++ (ms ++ ys)))) (are_distinct (xs ++ (ms ++ ys))) (ap not none) (distinct_between xs ms ys e.1 dm k.1 b hy)

-- names of ports stay distinct with the names of lets between them
pub names_between : (inputs outputs : List (List ℕ)) (k : ℕ) → k ≤ 2 ^ 64 → are_distinct (inputs ++ outputs) ≡ true → list_all is_port_name inputs ≡ true → list_all is_port_name outputs ≡ true
    → are_distinct (inputs ++ (let_names k ++ outputs)) ≡ true
names_between inputs outputs k le d hi ho = distinct_between inputs (let_names k) outputs d (names_distinct k le) hi (names_begin k) ho

-- the names of a network's ports are those that an extracted network may have
pub distinct_without : (xs ms ys : List (List ℕ)) → are_distinct (xs ++ (ms ++ ys)) ≡ true → are_distinct (xs ++ ys) ≡ true
distinct_without [] [] ys d = d
distinct_without [] (m ∷ ms) ys d = distinct_without [] ms ys (and_parts (not (list_any (bytes_eq m) (ms ++ ys))) (are_distinct (ms ++ ys)) d).1
distinct_without (x ∷ xs) ms ys d =
    let a = and_parts (not (list_any (bytes_eq x) (xs ++ (ms ++ ys)))) (are_distinct (xs ++ (ms ++ ys))) d in
    let b = or_parts _ _ (sym (list_any-append (bytes_eq x) xs (ms ++ ys)) ∙ not_true _ a.0) in
    let c = or_parts _ _ (sym (list_any-append (bytes_eq x) ms ys) ∙ b.1) in
    let none : list_any (bytes_eq x) (xs ++ ys) ≡ false = list_any-append (bytes_eq x) xs ys ∙ or_false _ _ b.0 c.1 in
    and_from (not (list_any (bytes_eq x) (xs ++ ys))) (are_distinct (xs ++ ys)) (ap not none) (distinct_without xs ms ys a.1)
