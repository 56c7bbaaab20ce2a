-- A network's port names are those of a module, and no two of its inputs or outputs have one.
use Rattle.std.proofs.Common.{◌≡◌, ◌≢◌, ℕ, Bool, true, false, List, [], ◌∷◌, ◌++◌, length, refl, ap, ◌∙◌, arith, All, IsTrue}
use Rattle.std.specs.Prelude.{◌&&◌, ◌||◌, not, nat_le, bytes_eq, AllPairs}
use Rattle.std.specs.List.{list_all, list_any}
use Rattle.std.specs.Char.{is_ascii_alphabetic}
use Rattle.std.proofs.lemmas.Bool.{and_parts, and_from}
use Rattle.std.proofs.lemmas.Bool.Decides.{nat_tests}
use Rattle.std.proofs.lemmas.List.Kept.{AllPairs-cons}
use Rattle.std.proofs.lemmas.List.Elements.{All-cons}
use Rattle.std.proofs.lemmas.Slice.Eq.{bytes_eq-Decides}
use Rattle.rl_text.specs.Names.{is_underscore, is_name_start, is_name_byte, is_name}
use Rattle.net_model.specs.Rules as net
use Rattle.circuit.specs.Names.{is_port_name, is_port_byte}

byte_passes : (b : ℕ) → is_name_byte b ≡ true → is_port_byte b ≡ true
byte_passes b h = grind (arith, nat_tests)

bytes_pass : (bytes : List ℕ) → list_all is_name_byte bytes ≡ true → list_all is_port_byte bytes ≡ true
bytes_pass [] h = refl
bytes_pass (b ∷ bytes) h = let p = and_parts (is_name_byte b) (list_all is_name_byte bytes) h in and_from _ _ (byte_passes b p.0) (bytes_pass bytes p.1)

letter_starts : (b : ℕ) → is_name_start b ≡ true → not (is_underscore b) ≡ true → is_ascii_alphabetic b ≡ true
letter_starts b h g = grind (arith, nat_tests)

pub port_name : (name : List ℕ) → net.is_port_name name ≡ true → is_port_name name ≡ true
port_name [] h = absurd (cc)
port_name (b ∷ bytes) h =
    let p = and_parts (net.is_let_name (b ∷ bytes)) (not (is_underscore b)) h in
    let q = and_parts (is_name (b ∷ bytes) && nat_le (length (b ∷ bytes)) 32) (not (net.is_reserved (b ∷ bytes))) p.0 in
    let r = and_parts (is_name (b ∷ bytes)) (nat_le (length (b ∷ bytes)) 32) q.0 in
    let s = and_parts (is_name_start b) (list_all is_name_byte bytes) r.0 in
    and_from _ _ (and_from _ _ (letter_starts b s.0 p.1) (bytes_pass bytes s.1)) r.1

abbrev IsPort : List ℕ → Type 0
IsPort name = IsTrue (is_port_name name)

pub port_names : (names : List (List ℕ)) → list_all net.is_port_name names ≡ true → All IsPort names
port_names [] h = λ k d lt. absurd (omega arith)
port_names (name ∷ names) h =
    let p = and_parts (net.is_port_name name) (list_all net.is_port_name names) h in
    All-cons IsPort name names (port_name name p.0) (port_names names p.1)

none_left : (p q : Bool) → not (p || q) ≡ true → (p ≡ false) × (not q ≡ true)
none_left true q h = absurd (cc)
none_left false q h = (refl, h)

others : (name : List ℕ) (names : List (List ℕ)) → not (list_any (bytes_eq name) names) ≡ true → All (λ other. name ≢ other) names
others name [] h = λ k d lt. absurd (omega arith)
others name (other ∷ names) h =
    let p = none_left (bytes_eq name other) (list_any (bytes_eq name) names) h in
    All-cons (λ (z : List ℕ). name ≢ z) other names (λ e. let t : bytes_eq name other ≡ true = (bytes_eq-Decides name other).1 e in absurd (cc)) (others name names p.1)

pub distinct : (names : List (List ℕ)) → net.are_distinct names ≡ true → AllPairs (λ a b. a ≢ b) names
distinct [] h = λ i j d lt l. absurd (omega arith)
distinct (name ∷ names) h =
    let p = and_parts (not (list_any (bytes_eq name) names)) (net.are_distinct names) h in
    AllPairs-cons (λ (a b : List ℕ). a ≢ b) name names (others name names p.0) (distinct names p.1)

none_front : (name : List ℕ) (xs ys : List (List ℕ)) → not (list_any (bytes_eq name) (xs ++ ys)) ≡ true → not (list_any (bytes_eq name) xs) ≡ true
none_front name [] ys h = refl
none_front name (x ∷ xs) ys h =
    let p = none_left (bytes_eq name x) (list_any (bytes_eq name) (xs ++ ys)) h in
    ap (λ v. not (v || list_any (bytes_eq name) xs)) p.0 ∙ none_front name xs ys p.1

pub distinct_front : (xs ys : List (List ℕ)) → net.are_distinct (xs ++ ys) ≡ true → net.are_distinct xs ≡ true
distinct_front [] ys h = refl
distinct_front (x ∷ xs) ys h =
    let p = and_parts (not (list_any (bytes_eq x) (xs ++ ys))) (net.are_distinct (xs ++ ys)) h in
    and_from _ _ (none_front x xs ys p.0) (distinct_front xs ys p.1)

pub distinct_back : (xs ys : List (List ℕ)) → net.are_distinct (xs ++ ys) ≡ true → net.are_distinct ys ≡ true
distinct_back [] ys h = h
distinct_back (x ∷ xs) ys h =
    let p = and_parts (not (list_any (bytes_eq x) (xs ++ ys))) (net.are_distinct (xs ++ ys)) h in
    distinct_back xs ys p.1
