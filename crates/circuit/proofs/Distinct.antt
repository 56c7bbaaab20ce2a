-- Lists of names in which no name occurs twice.
use Rattle.std.proofs.Common.{◌≡◌, ◌≢◌, ℕ, zero, suc, List, [], ◌∷◌, ◌++◌, map, get_or, refl, ap, ◌∙◌, sym, arith, true, false, All, IsTrue, codes, append_assoc, subst}
use Rattle.std.specs.Prelude.{AllPairs}
use Rattle.std.proofs.lemmas.List.{get_or-map, length-map, append_cancel_left}
use Rattle.std.proofs.lemmas.List.Kept.{AllPairs-cons}
use Rattle.std.proofs.lemmas.List.Elements.{All-append, All-map, All-cons}
use Rattle.std.proofs.lemmas.Bool.{and_parts, not-true, both_ways}
use Rattle.circuit.specs.Circuit.{Circuit}
use Rattle.circuit.specs.Names.{in_name, out_name, is_own_name, is_reserved, declared_names}

-- R holds of each element of the first list and each of the second
abbrev pub AllAcross : {X : Type 0} → (X → X → Type 0) → List X → List X → Type 0
AllAcross {X} R xs ys = All (λ x. All (R x) ys) xs

all_pairs-tail : {X : Type 0} (R : X → X → Type 0) (x : X) (xs : List X) → AllPairs R (x ∷ xs) → AllPairs R xs
all_pairs-tail R x xs h = λ i j d lt le. h (suc i) (suc j) d (omega arith) (omega arith)

all-head : {X : Type 0} (P : X → Type 0) (x : X) (xs : List X) → All P (x ∷ xs) → P x
all-head P x xs h = h zero x (omega arith)

all-tail : {X : Type 0} (P : X → Type 0) (x : X) (xs : List X) → All P (x ∷ xs) → All P xs
all-tail P x xs h = λ k d lt. h (suc k) d (omega arith)

pub all_pairs-append : {X : Type 0} (R : X → X → Type 0) (xs ys : List X) → AllPairs R xs → AllPairs R ys → AllAcross R xs ys → AllPairs R (xs ++ ys)
all_pairs-append R [] ys p q across = q
all_pairs-append R (x ∷ xs) ys p q across =
    AllPairs-cons R x (xs ++ ys)
    (All-append (R x) xs ys (λ k d lt. p zero (suc k) d (omega arith) (omega arith)) (all-head (λ z. All (R z) ys) x xs across))
    (all_pairs-append R xs ys (all_pairs-tail R x xs p) q (all-tail (λ z. All (R z) ys) x xs across))

-- distinct names stay distinct under a function that is one to one
pub all_pairs-map : (f : List ℕ → List ℕ) → ((a b : List ℕ) → f a ≡ f b → a ≡ b) → (xs : List (List ℕ)) → AllPairs (λ a b. a ≢ b) xs → AllPairs (λ a b. a ≢ b) (map f xs)
all_pairs-map f one xs h = λ i j d lt le same.
    let n = length-map xs f in
    h i j [] lt (omega (arith, n)) (one _ _ (sym (get_or-map f xs i [] d (omega (arith, n))) ∙ (same ∙ get_or-map f xs j [] d (omega (arith, n)))))

-- every name begins with this byte
abbrev pub AllBegin : ℕ → List (List ℕ) → Type 0
AllBegin b names = All (λ name. get_or name 0 0 ≡ b) names

-- names that begin with different bytes are different
pub across_from_first : (a b : ℕ) (xs ys : List (List ℕ)) → a ≢ b → AllBegin a xs → AllBegin b ys → AllAcross (λ x y. x ≢ y) xs ys
across_from_first a b xs ys ne p q = λ k d lt j e le same. ne (sym (p k d lt) ∙ (ap (λ z. get_or z 0 0) same ∙ q j e le))

pub inputs_begin : (names : List (List ℕ)) → AllBegin 105 (map in_name names)
inputs_begin names = All-map (λ z. get_or z 0 0 ≡ 105) in_name names (λ k d lt. refl)

pub outputs_begin : (names : List (List ℕ)) → AllBegin 111 (map out_name names)
outputs_begin names = All-map (λ z. get_or z 0 0 ≡ 111) out_name names (λ k d lt. refl)

-- prefixes keep names distinct
pub distinct_inputs : (names : List (List ℕ)) → AllPairs (λ a b. a ≢ b) names → AllPairs (λ a b. a ≢ b) (map in_name names)
distinct_inputs = all_pairs-map in_name (λ a b. append_cancel_left (codes "in_") a b)

pub distinct_outputs : (names : List (List ℕ)) → AllPairs (λ a b. a ≢ b) names → AllPairs (λ a b. a ≢ b) (map out_name names)
distinct_outputs = all_pairs-map out_name (λ a b. append_cancel_left (codes "out_") a b)

-- a wire's or register's name is no reserved word
pub own_not_reserved : (name : List ℕ) → IsTrue (is_own_name name) → is_reserved name ≡ false
own_not_reserved name h = not-true (is_reserved name) (and_parts _ _ h).1

reserved_apart : (word : List ℕ) (names : List (List ℕ)) → is_reserved word ≡ true → All (λ name. IsTrue (is_own_name name)) names → All (λ name. word ≢ name) names
reserved_apart word names r h = λ k d lt same. both_ways (is_reserved (get_or names k d)) (own_not_reserved (get_or names k d) (h k d lt)) (ap is_reserved (sym same) ∙ r)

first_apart : (a b : ℕ) (word : List ℕ) (names : List (List ℕ)) → a ≢ b → get_or word 0 0 ≡ a → AllBegin b names → All (λ name. word ≢ name) names
first_apart a b word names ne w h = λ k d lt same. ne (sym w ∙ (ap (λ z. get_or z 0 0) same ∙ h k d lt))

-- The declared names are distinct where the inputs are, the outputs are, the wires and registers are, and no wire or
-- register has the name of a port.
module _ (m : Circuit) where
  abbrev pub own_names : List (List ℕ)
  own_names = m.wires ++ map (λ r. r.name) m.regs

  abbrev ports : List (List ℕ)
  ports = map in_name m.inputs ++ map out_name m.outputs

  reserved_word_apart : (word : List ℕ) → is_reserved word ≡ true → get_or word 0 0 ≢ 105 → get_or word 0 0 ≢ 111 → All (λ name. IsTrue (is_own_name name)) own_names → All (λ name. word ≢ name) (ports ++ own_names)
  reserved_word_apart word r not_in not_out h =
      All-append (λ name. word ≢ name) ports own_names
      (All-append (λ name. word ≢ name) (map in_name m.inputs) (map out_name m.outputs)
      (first_apart _ 105 word _ not_in refl (inputs_begin m.inputs))
      (first_apart _ 111 word _ not_out refl (outputs_begin m.outputs)))
      (reserved_apart word own_names r h)

  words_before : (a b : List ℕ) (names : List (List ℕ)) → a ≢ b → All (λ name. a ≢ name) names → All (λ name. b ≢ name) names → AllPairs (λ x y. x ≢ y) names → AllPairs (λ x y. x ≢ y) (a ∷ b ∷ names)
  words_before a b names ne ha hb h =
      AllPairs-cons (λ x y. x ≢ y) a (b ∷ names) (All-cons (λ name. a ≢ name) b names ne ha) (AllPairs-cons (λ x y. x ≢ y) b names hb h)

  ports_distinct : AllPairs (λ a b. a ≢ b) m.inputs → AllPairs (λ a b. a ≢ b) m.outputs → AllPairs (λ a b. a ≢ b) ports
  ports_distinct hi ho =
      all_pairs-append (λ a b. a ≢ b) (map in_name m.inputs) (map out_name m.outputs) (distinct_inputs m.inputs hi) (distinct_outputs m.outputs ho)
      (across_from_first 105 111 _ _ (λ e. absurd (omega (arith, e))) (inputs_begin m.inputs) (outputs_begin m.outputs))

  pub declared_names_distinct : AllPairs (λ a b. a ≢ b) m.inputs → AllPairs (λ a b. a ≢ b) m.outputs → AllPairs (λ a b. a ≢ b) own_names →
      All (λ name. IsTrue (is_own_name name)) own_names → AllAcross (λ a b. a ≢ b) (map in_name m.inputs) own_names → AllAcross (λ a b. a ≢ b) (map out_name m.outputs) own_names →
      AllPairs (λ a b. a ≢ b) (declared_names m)
  declared_names_distinct hi ho hw valid ai ao =
      let all : AllPairs (λ a b. a ≢ b) (ports ++ own_names) =
      all_pairs-append (λ a b. a ≢ b) ports own_names (ports_distinct hi ho) hw (All-append (λ x. All (λ y. x ≢ y) own_names) (map in_name m.inputs) (map out_name m.outputs) ai ao) in
      let same : declared_names m ≡ codes "clk" ∷ codes "rst" ∷ (ports ++ own_names) = ap (λ z. codes "clk" ∷ codes "rst" ∷ z) (append_assoc ports m.wires (map (λ r. r.name) m.regs)) in
      subst (λ z. AllPairs (λ a b. a ≢ b) z) (sym same)
      (words_before (codes "clk") (codes "rst") (ports ++ own_names) (λ e. let first : 99 ≡ 114 = ap (λ z. get_or z 0 0) e in absurd (omega (arith, first)))
      (reserved_word_apart (codes "clk") refl (λ e. absurd (omega (arith, e))) (λ e. absurd (omega (arith, e))) valid)
      (reserved_word_apart (codes "rst") refl (λ e. absurd (omega (arith, e))) (λ e. absurd (omega (arith, e))) valid) all)
