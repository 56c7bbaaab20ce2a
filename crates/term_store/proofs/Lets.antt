-- The lets of a store's places.
use Rattle.std.proofs.Common.{◌≡◌, ℕ, zero, suc, ◌<◌, ◌≤◌, ◌+◌, refl, ap, subst, arith, sym, ◌∙◌, Bool, true, false, ◌&&◌, length, List, [], ◌∷◌, ◌++◌, map, take, length-append, if◌then◌else◌, add-one, inl, inr}
use Rattle.std.specs.List.{All, slice_index_or}
use Rattle.std.proofs.lemmas.Bool.{cases_lt}
use Rattle.std.proofs.lemmas.List.{get_or_append_left, get_or_push, map-append, length-map}
use Rattle.net_model.specs.Formula.{Formula, Equation}
use Rattle.net_model.specs.Formula as formula
use Rattle.term_store.specs.declared.node.Term.{Term}
use Rattle.term_store.specs.declared.node.Node.{Node}
use Rattle.term_store.specs.declared.node.Node.TheVariants as node
use Rattle.term_store.specs.Nodes.{node_at, IsNodeOver, IsNodes}
use Rattle.term_store.specs.Extracted.{is_operator, becomes_let, let_places, let_number, let_name, named, operand, let_body, equation, let_at, lets_below, root_outputs}
use Rattle.term_store.specs.Extracting.{marked, numbered, let_numbers, with_let}

-- a place more

pub places_yes : (nodes : List Node) (r : ℕ → Bool) (n : ℕ) → becomes_let nodes r n ≡ true → let_places nodes r (suc n) ≡ let_places nodes r n ++ n ∷ []
places_yes nodes r n e = ap (λ b. if b then let_places nodes r n ++ n ∷ [] else let_places nodes r n) e

pub places_no : (nodes : List Node) (r : ℕ → Bool) (n : ℕ) → becomes_let nodes r n ≡ false → let_places nodes r (suc n) ≡ let_places nodes r n
places_no nodes r n e = ap (λ b. if b then let_places nodes r n ++ n ∷ [] else let_places nodes r n) e

pub lets_yes : (nodes : List Node) (r : ℕ → Bool) (n : ℕ) → becomes_let nodes r n ≡ true → lets_below nodes r (suc n) ≡ lets_below nodes r n ++ let_at nodes r n ∷ []
lets_yes nodes r n e = ap (map (let_at nodes r)) (places_yes nodes r n e) ∙ map-append (let_at nodes r) (let_places nodes r n) (n ∷ [])

pub lets_no : (nodes : List Node) (r : ℕ → Bool) (n : ℕ) → becomes_let nodes r n ≡ false → lets_below nodes r (suc n) ≡ lets_below nodes r n
lets_no nodes r n e = ap (map (let_at nodes r)) (places_no nodes r n e)

pub length_places : (nodes : List Node) (r : ℕ → Bool) (n : ℕ) → length (let_places nodes r n) ≤ n
length_places nodes r zero = omega arith
length_places nodes r (suc n) = go (becomes_let nodes r n) refl (length_places nodes r n)
  where
    go : (b : Bool) → becomes_let nodes r n ≡ b → length (let_places nodes r n) ≤ n → length (let_places nodes r (suc n)) ≤ suc n
    go true e h = omega (arith, h, ap length (places_yes nodes r n e), length-append (let_places nodes r n) (n ∷ []))
    go false e h = omega (arith, h, ap length (places_no nodes r n e))

pub length_lets : (nodes : List Node) (r : ℕ → Bool) (n : ℕ) → length (lets_below nodes r n) ≡ let_number nodes r n
length_lets nodes r n = length-map (let_places nodes r n) (let_at nodes r)

-- numbers that agree below a bound give a node over it one formula
pub body_agree : (nodes : List Node) (m : ℕ) (f g : ℕ → ℕ) (n : Node) → IsNodeOver m n → ((p : ℕ) → p < m → f p ≡ g p) → let_body nodes f n ≡ let_body nodes g n
body_agree nodes m f g (node.Input i) over same = refl
body_agree nodes m f g node.Never over same = refl
body_agree nodes m f g (node.Min a b) over same =
    λ i. formula.Min (named (node_at nodes a.0) (same a.0 over.0 i)) (named (node_at nodes b.0) (same b.0 over.1 i))
body_agree nodes m f g (node.Max a b) over same =
    λ i. formula.Max (named (node_at nodes a.0) (same a.0 over.0 i)) (named (node_at nodes b.0) (same b.0 over.1 i))
body_agree nodes m f g (node.Lt a b) over same =
    λ i. formula.Lt (named (node_at nodes a.0) (same a.0 over.0 i)) (named (node_at nodes b.0) (same b.0 over.1 i))
body_agree nodes m f g (node.Inc a c) over same = λ i. formula.Inc (named (node_at nodes a.0) (same a.0 over.0 i)) c

pub length_numbers : (nodes : List Node) (r : ℕ → Bool) (n : ℕ) → length (let_numbers nodes r n) ≡ n
length_numbers nodes r zero = refl
length_numbers nodes r (suc n) = omega (arith, length_numbers nodes r n, length-append (let_numbers nodes r n) (let_number nodes r n ∷ []))

-- the number that the list has for a place
pub numbers_at : (nodes : List Node) (r : ℕ → Bool) (n p : ℕ) → p < n → numbered (let_numbers nodes r n) p ≡ let_number nodes r p
numbers_at nodes r zero p h = absurd (omega arith)
numbers_at nodes r (suc n) p h = elim (cases_lt p n) [
  | inl b ↦ get_or_append_left (let_numbers nodes r n) (let_number nodes r n ∷ []) 0 p (omega (arith, length_numbers nodes r n)) ∙ numbers_at nodes r n p b
  | inr b ↦ let e : n ≡ p = omega arith in
      subst (λ q. numbered (let_numbers nodes r n ++ let_number nodes r n ∷ []) q ≡ let_number nodes r q) e
      (get_or_push (let_numbers nodes r n) (let_number nodes r n) 0 n (length_numbers nodes r n))
]

-- the let of a place that becomes one, by the numbers in the list
pub lets_more : (nodes : List Node) (marks : List Bool) (numbers : List ℕ) (reached : Bool) (n : ℕ) (lets next : List Equation) → IsNodes nodes → n < length nodes → reached ≡ marked marks n
    → numbers ≡ let_numbers nodes (marked marks) n → lets ≡ lets_below nodes (marked marks) n → next ≡ with_let nodes numbers reached n lets → next ≡ lets_below nodes (marked marks) (n + 1)
lets_more nodes marks numbers reached n lets next s h er en el e = rw (add-one n) (e ∙ go (reached && is_operator (node_at nodes n)) refl)
  where
    r : ℕ → Bool
    r = marked marks

    same : (b : Bool) → (reached && is_operator (node_at nodes n)) ≡ b → becomes_let nodes (marked marks) n ≡ b
    same b f = ap (λ q. q && is_operator (node_at nodes n)) (sym er) ∙ f

    go : (b : Bool) → (reached && is_operator (node_at nodes n)) ≡ b → with_let nodes numbers reached n lets ≡ lets_below nodes (marked marks) (suc n)
    go true f =
        let body : let_body nodes (numbered numbers) (node_at nodes n) ≡ let_body nodes (let_number nodes (marked marks)) (node_at nodes n) =
        body_agree nodes n (numbered numbers) (let_number nodes (marked marks)) (node_at nodes n) (s.lower n h) (λ p b. ap (λ xs. numbered xs p) en ∙ numbers_at nodes (marked marks) n p b) in
        let count : length lets ≡ let_number nodes (marked marks) n = ap length el ∙ length_lets nodes (marked marks) n in
        let here : equation (let_name (length lets)) (let_body nodes (numbered numbers) (node_at nodes n)) ≡ let_at nodes (marked marks) n = λ i. equation (let_name (count i)) (body i) in
        ap (λ b. if b then lets ++ equation (let_name (length lets)) (let_body nodes (numbered numbers) (node_at nodes n)) ∷ [] else lets) f
        ∙ (λ i. el i ++ here i ∷ [])
        ∙ sym (lets_yes nodes (marked marks) n (same true f))
    go false f =
        ap (λ b. if b then lets ++ equation (let_name (length lets)) (let_body nodes (numbered numbers) (node_at nodes n)) ∷ [] else lets) f
        ∙ el
        ∙ sym (lets_no nodes (marked marks) n (same false f))

pub numbers_more : (nodes : List Node) (r : ℕ → Bool) (n : ℕ) (numbers next : List ℕ) (number : ℕ) → numbers ≡ let_numbers nodes r n → number ≡ let_number nodes r n → next ≡ numbers ++ number ∷ [] → next ≡ let_numbers nodes r (n + 1)
numbers_more nodes r n numbers next number en ek e = rw (add-one n) (e ∙ (λ i. en i ++ ek i ∷ []))

-- one output more
pub outputs_more : (nodes : List Node) (number : ℕ → ℕ) (roots : List Term) (names : List (List ℕ)) (i : ℕ) (d : Term) (e : List ℕ) → length names ≡ length roots → i < length roots
    → root_outputs nodes number (take (i + 1) roots) names ≡ root_outputs nodes number (take i roots) names ++ equation (slice_index_or names i e) (operand nodes number (slice_index_or roots i d)) ∷ []
outputs_more nodes number [] names i d e len h = absurd (omega arith)
outputs_more nodes number (root ∷ roots) [] i d e len h = absurd (omega (arith, len))
outputs_more nodes number (root ∷ roots) (name ∷ names) zero d e len h = refl
outputs_more nodes number (root ∷ roots) (name ∷ names) (suc i) d e len h =
    let next : suc i + 1 ≡ suc (i + 1) = omega arith in
    rw next (ap (λ (es : List Equation). equation name (operand nodes number root) ∷ es) (outputs_more nodes number roots names i d e (omega (arith, len)) (omega (arith, h))))

-- the output of a root was pushed
pub output_pushed : (nodes : List Node) (number : ℕ → ℕ) (roots : List Term) (names : List (List ℕ)) (i k : ℕ) (outputs next : List Equation) (value : Equation) (name : List ℕ) (body : Formula) (d : Term) (e : List ℕ)
    → length names ≡ length roots → i < length roots → k ≡ i → outputs ≡ root_outputs nodes number (take i roots) names → next ≡ outputs ++ value ∷ [] → value ≡ equation name body
    → name ≡ slice_index_or names k e → body ≡ operand nodes number (slice_index_or roots i d) → next ≡ root_outputs nodes number (take (i + 1) roots) names
output_pushed nodes number roots names i k outputs next value name body d e len h ek eo en ev ename ebody =
    en
    ∙ (λ j. eo j ++ (ev ∙ (λ j. equation ((ename ∙ ap (λ q. slice_index_or names q e) ek) j) (ebody j))) j ∷ [])
    ∙ sym (outputs_more nodes number roots names i d e len h)

-- places that are reached alike become lets alike

pub becomes_agree : (nodes : List Node) (f g : ℕ → Bool) (n : ℕ) → f n ≡ g n → becomes_let nodes f n ≡ becomes_let nodes g n
becomes_agree nodes f g n e = ap (λ b. b && is_operator (node_at nodes n)) e

pub places_agree : (nodes : List Node) (f g : ℕ → Bool) (n : ℕ) → ((p : ℕ) → p < n → f p ≡ g p) → let_places nodes f n ≡ let_places nodes g n
places_agree nodes f g zero same = refl
places_agree nodes f g (suc n) same =
    let rest = places_agree nodes f g n (λ p h. same p (omega arith)) in
    let here = becomes_agree nodes f g n (same n (omega arith)) in
    λ i. if here i then rest i ++ n ∷ [] else rest i

pub number_agree : (nodes : List Node) (f g : ℕ → Bool) (n p : ℕ) → ((q : ℕ) → q < n → f q ≡ g q) → p ≤ n → let_number nodes f p ≡ let_number nodes g p
number_agree nodes f g n p same h = ap length (places_agree nodes f g p (λ q b. same q (omega arith)))

pub lets_agree : (nodes : List Node) (f g : ℕ → Bool) (n : ℕ) → IsNodes nodes → n ≤ length nodes → ((p : ℕ) → p < n → f p ≡ g p) → lets_below nodes f n ≡ lets_below nodes g n
lets_agree nodes f g zero s le same = refl
lets_agree nodes f g (suc n) s le same = go (becomes_let nodes f n) refl (lets_agree nodes f g n s (omega arith) (λ p h. same p (omega arith)))
  where
    go : (b : Bool) → becomes_let nodes f n ≡ b → lets_below nodes f n ≡ lets_below nodes g n → lets_below nodes f (suc n) ≡ lets_below nodes g (suc n)
    go true e rest =
        let number : let_number nodes f n ≡ let_number nodes g n = number_agree nodes f g (suc n) n same (omega arith) in
        let body : let_body nodes (let_number nodes f) (node_at nodes n) ≡ let_body nodes (let_number nodes g) (node_at nodes n) =
        body_agree nodes n (let_number nodes f) (let_number nodes g) (node_at nodes n) (s.lower n (omega arith)) (λ p b. number_agree nodes f g (suc n) p same (omega arith)) in
        let here : let_at nodes f n ≡ let_at nodes g n = λ i. equation (let_name (number i)) (body i) in
        lets_yes nodes f n e ∙ (λ i. rest i ++ here i ∷ []) ∙ sym (lets_yes nodes g n (sym (becomes_agree nodes f g n (same n (omega arith))) ∙ e))
    go false e rest = lets_no nodes f n e ∙ rest ∙ sym (lets_no nodes g n (sym (becomes_agree nodes f g n (same n (omega arith))) ∙ e))

pub outputs_agree : (nodes : List Node) (m : ℕ) (f g : ℕ → ℕ) (roots : List Term) (names : List (List ℕ)) → All (λ t. t.0 < m) roots → ((p : ℕ) → p < m → f p ≡ g p)
    → root_outputs nodes f roots names ≡ root_outputs nodes g roots names
outputs_agree nodes m f g [] names w same = refl
outputs_agree nodes m f g (root ∷ roots) [] w same = refl
outputs_agree nodes m f g (root ∷ roots) (name ∷ names) w same =
    let rest = outputs_agree nodes m f g roots names (λ k d h. w (suc k) d (omega arith)) same in
    let here = same root.0 (w 0 root (omega arith)) in
    λ i. equation name (named (node_at nodes root.0) (here i)) ∷ rest i
