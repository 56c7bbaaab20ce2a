-- What a plan is made of: the longest delays after a node more, and what is numbered.
use Rattle.std.proofs.Common.{◌≡◌, ℕ, zero, suc, ◌+◌, ◌≤◌, ◌<◌, Bool, true, false, List, [], ◌∷◌, ◌++◌, length, get_or, map, max, refl, ap, sym, ◌∙◌, arith}
use Rattle.std.specs.Prelude.{◌↔◌, slice_get, Some, fold, if◌then◌else◌, nat_eq, nat_lt, slice_set}
use Rattle.std.proofs.lemmas.Bool.{eqb-true, eqb-false}
use Rattle.std.proofs.lemmas.List.{get_or-set_other}
use Rattle.std.proofs.lemmas.List.Sums.{fold-append}
use Rattle.std.proofs.lemmas.Grind.{get_or-set_at}
use Rattle.std.proofs.Math.Nat.{max-zero}
use Rattle.term_store.specs.declared.node.Node.{Node}
use Rattle.term_store.specs.declared.node.Node.TheVariants.{Input, Never, Min, Max, Lt, Inc}
use Rattle.term_store.specs.Nodes.{node_at}
use Rattle.term_store.specs.declared.node.Term.{Term}
use Rattle.term_store.specs.Reach.{is_reached, IsReached}
use Rattle.term_store.specs.Places.{places, reach_marks, is_marked, node_delay, marked_delay, longest_upto, longest_at}
use Rattle.gate_lower.specs.declared.gates.Line.{Line}
use Rattle.gate_lower.specs.declared.gates.Delay.{Delay}
use Rattle.gate_lower.specs.Lowered.{is_delayed, delay_number}
use Rattle.gate_lower.specs.Planned.{raised, is_positive, count_positive}
use Rattle.gate_lower.proofs.Places.{count, one_if, count_next, map_next, map_same, at_listed, listed_is, length_listed, filter_same}

max_zero : (n : ℕ) → max n 0 ≡ n
max_zero n = max-zero n

pub longest_next : (nodes : List Node) (marks : List Bool) (n place : ℕ) → longest_upto nodes marks (suc n) place ≡ max (longest_upto nodes marks n place) (marked_delay nodes marks place n)
longest_next nodes marks n place =
    ap (fold max 0) (map_next (marked_delay nodes marks place) n) ∙ fold-append max 0 (map (marked_delay nodes marks place) (places n)) (marked_delay nodes marks place n ∷ [])

raised_set : (xs : List ℕ) (i k c : ℕ) (b : Bool) → nat_eq i k ≡ b → k < length xs → get_or (slice_set xs i (max (get_or xs i 0) c)) k 0 ≡ max (get_or xs k 0) (if b then c else 0)
raised_set xs i k c true e lt =
    let same : i ≡ k = eqb-true i k e in
    get_or-set_at xs i k (max (get_or xs i 0) c) 0 (sym same) (omega (arith, lt, same)) ∙ ap (λ j. max (get_or xs j 0) c) same
raised_set xs i k c false e lt =
    get_or-set_other xs i k (max (get_or xs i 0) c) 0 (λ (q : k ≡ i). eqb-false i k e (sym q)) ∙ sym (max_zero (get_or xs k 0))

-- what a node more makes of the longest delays
pub raised_at : (n : Node) (xs : List ℕ) (k : ℕ) → k < length xs → get_or (raised n xs) k 0 ≡ max (get_or xs k 0) (node_delay k n)
raised_at (Input i) xs k lt = sym (max_zero (get_or xs k 0))
raised_at Never xs k lt = sym (max_zero (get_or xs k 0))
raised_at (Min a b) xs k lt = sym (max_zero (get_or xs k 0))
raised_at (Max a b) xs k lt = sym (max_zero (get_or xs k 0))
raised_at (Lt a b) xs k lt = sym (max_zero (get_or xs k 0))
raised_at (Inc a c) xs k lt = raised_set xs a.0 k c (nat_eq a.0 k) refl lt

length_set : (xs : List ℕ) (i v : ℕ) → length (slice_set xs i v) ≡ length xs
length_set [] i v = refl
length_set (x ∷ xs) zero v = refl
length_set (x ∷ xs) (suc i) v = ap suc (length_set xs i v)

length_raised : (n : Node) (xs : List ℕ) → length (raised n xs) ≡ length xs
length_raised (Input i) xs = refl
length_raised Never xs = refl
length_raised (Min a b) xs = refl
length_raised (Max a b) xs = refl
length_raised (Lt a b) xs = refl
length_raised (Inc a c) xs = length_set xs a.0 (max (get_or xs a.0 0) c)

module _ (nodes : List Node) (marks : List Bool) where
  delays : ℕ → List ℕ
  delays n = map (longest_upto nodes marks n) (places (length nodes))

  -- a marked node raises the delays, and another leaves them
  pub raised_delays : (n : ℕ) (xs : List ℕ) → xs ≡ map (longest_upto nodes marks n) (places (length nodes)) → is_marked marks n ≡ true →
      raised (node_at nodes n) xs ≡ map (longest_upto nodes marks (suc n)) (places (length nodes))
  raised_delays n xs e m =
      let l : length xs ≡ length nodes = ap length e ∙ length_listed (longest_upto nodes marks n) (length nodes) in
      listed_is (raised (node_at nodes n) xs) (longest_upto nodes marks (suc n)) (length nodes) 0 (length_raised (node_at nodes n) xs ∙ l)
      (λ k lt. raised_at (node_at nodes n) xs k (omega (arith, lt, l))
      ∙ (ap (λ v. max v (node_delay k (node_at nodes n))) (ap (λ ys. get_or ys k 0) e ∙ at_listed (longest_upto nodes marks n) (length nodes) k 0 lt)
      ∙ (ap (λ (b : Bool). max (longest_upto nodes marks n k) (if b then node_delay k (node_at nodes n) else 0)) (sym m) ∙ sym (longest_next nodes marks n k))))

  pub same_delays : (n : ℕ) (xs : List ℕ) → xs ≡ map (longest_upto nodes marks n) (places (length nodes)) → is_marked marks n ≡ false →
      xs ≡ map (longest_upto nodes marks (suc n)) (places (length nodes))
  same_delays n xs e m =
      let l : length xs ≡ length nodes = ap length e ∙ length_listed (longest_upto nodes marks n) (length nodes) in
      listed_is xs (longest_upto nodes marks (suc n)) (length nodes) 0 l
      (λ k lt. ap (λ ys. get_or ys k 0) e ∙ (at_listed (longest_upto nodes marks n) (length nodes) k 0 lt
      ∙ (sym (max_zero (longest_upto nodes marks n k))
      ∙ (ap (λ (b : Bool). max (longest_upto nodes marks n k) (if b then node_delay k (node_at nodes n) else 0)) (sym m) ∙ sym (longest_next nodes marks n k)))))

  pub no_delays : (xs : List ℕ) → length xs ≡ length nodes → ((k : ℕ) → get_or xs k 0 ≡ 0) → xs ≡ map (longest_upto nodes marks 0) (places (length nodes))
  no_delays xs l h = listed_is xs (longest_upto nodes marks 0) (length nodes) 0 l (λ k lt. h k)

  -- the places that are delayed are those whose longest delay is positive
  pub counted : (xs : List ℕ) (k : ℕ) → xs ≡ map (longest_at nodes marks) (places (length nodes)) → k ≤ length nodes → count_positive xs k ≡ delay_number nodes marks k
  counted xs k e le =
      ap length (filter_same (is_positive xs) (is_delayed nodes marks) k (λ j lt. ap (nat_lt 0) (ap (λ ys. get_or ys j 0) e ∙ at_listed (longest_at nodes marks) (length nodes) j 0 (omega (arith, lt, le)))))

  pub counted_all : (xs : List ℕ) → xs ≡ map (longest_at nodes marks) (places (length nodes)) →
      map (count_positive xs) (places (length xs)) ≡ map (delay_number nodes marks) (places (length nodes))
  counted_all xs e =
      let l : length xs ≡ length nodes = ap length e ∙ length_listed (longest_at nodes marks) (length nodes) in
      ap (λ n. map (count_positive xs) (places n)) l ∙ map_same (count_positive xs) (delay_number nodes marks) (length nodes) (λ k lt. counted xs k e (omega (arith, lt)))

-- one number more, and the count after it
pub next_numbers : (test : ℕ → Bool) (n : ℕ) (xs ys : List ℕ) (c d : ℕ) → xs ≡ map (count test) (places n) → c ≡ count test n → ys ≡ xs ++ c ∷ [] → d ≡ c + one_if (test n) →
    (ys ≡ map (count test) (places (n + 1))) × (d ≡ count test (n + 1))
next_numbers test n xs ys c d e f g h =
    let s : n + 1 ≡ suc n = omega arith in
    let all : ys ≡ map (count test) (places (suc n)) = g ∙ (ap (λ zs. zs ++ c ∷ []) e ∙ (ap (λ z. map (count test) (places n) ++ z ∷ []) f ∙ sym (map_next (count test) n))) in
    let next : d ≡ count test (suc n) = h ∙ (ap (λ k. k + one_if (test n)) f ∙ sym (count_next test n)) in
    (all ∙ ap (λ m. map (count test) (places m)) (sym s), next ∙ ap (count test) (sym s))

-- marks are those of the reached places where they tell of each whether it is reached
pub marks_are : (nodes : List Node) (roots : List Term) (marks : List Bool) → length marks ≡ length nodes →
    ((p : ℕ) → p < length nodes → (get_or marks p false ≡ true) ↔ IsReached nodes roots p) → marks ≡ reach_marks nodes roots
marks_are nodes roots marks l h = listed_is marks (is_reached nodes roots) (length nodes) false l (λ k lt. same_bool _ _ (h k lt))
  where
    same_bool : (a b : Bool) → (a ≡ true) ↔ (b ≡ true) → a ≡ b
    same_bool true b h = sym (h.0 refl)
    same_bool false true h = h.1 refl
    same_bool false false h = refl

pub same_delay : (f g : Line) (v w : ℕ) → f ≡ g → v ≡ w → ◌≡◌ {A = Delay} (record { from = f; width = v }) (record { from = g; width = w })
same_delay f g v w e h = ap (λ (z : Line). delay_from z v) e ∙ ap (delay_from g) h
  where
    delay_from : Line → ℕ → Delay
    delay_from z u = record { from = z; width = u }

-- the greatest of one number more
pub fold_next : (f : ℕ → ℕ) (n : ℕ) → fold max 0 (map f (places (suc n))) ≡ max (fold max 0 (map f (places n))) (f n)
fold_next f n = ap (fold max 0) (map_next f n) ∙ fold-append max 0 (map f (places n)) (f n ∷ [])

pub length_some : {A : Type 0} (xs : List A) (k : ℕ) (x : A) → slice_get xs k ≡ Some x → k < length xs
length_some [] k x e = absurd (cc)
length_some (y ∷ xs) zero x e = omega arith
length_some (y ∷ xs) (suc k) x e = omega (arith, length_some xs k x e)
