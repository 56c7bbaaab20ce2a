-- The lets of a network name only lets that it has.
use Rattle.std.proofs.Common.{◌≡◌, ℕ, suc, ◌+◌, ◌≤◌, List, [], ◌∷◌, length, sym, subst, arith}
use Rattle.std.specs.List.{AllByRecursion}
use Rattle.net_model.specs.Formula.{Formula, Never, Input, Named, Min, Max, Lt, Inc, Equation, Net}
use Rattle.net_model.specs.Rules.{IsOver, AreLets, IsNetwork}

-- what names only the first k lets names only the first m, where there are as many
over_more : (i k m : ℕ) (t : Formula) → k ≤ m → IsOver i k t → IsOver i m t
over_more i k m Never q h = tt
over_more i k m (Input n) q h = h
over_more i k m (Named n) q h = omega (arith, h, q)
over_more i k m (Min a b) q h = (over_more i k m a q h.0, over_more i k m b q h.1)
over_more i k m (Max a b) q h = (over_more i k m a q h.0, over_more i k m b q h.1)
over_more i k m (Lt a b) q h = (over_more i k m a q h.0, over_more i k m b q h.1)
over_more i k m (Inc a c) q h = over_more i k m a q h

lets_name_lets : (i k m : ℕ) (es : List Equation) → k + length es ≤ m → AreLets i k es → AllByRecursion (λ e. IsOver i m e.body) es
lets_name_lets i k m [] q h = tt
lets_name_lets i k m (e ∷ es) q h =
    let first : k ≤ m = omega (arith, q) in
    let rest : suc k + length es ≤ m = omega (arith, q) in
    (over_more i k m e.body first h.0, lets_name_lets i (suc k) m es rest h.1)

-- each let names inputs and lets of its network
pub lets_are_over : (n : Net) (inputs : List (List ℕ)) (lets : List Equation) → inputs ≡ n.inputs → lets ≡ n.lets → IsNetwork n → AllByRecursion (λ e. IsOver (length inputs) (length lets) e.body) lets
lets_are_over n inputs lets p q h =
    let all : AllByRecursion (λ (e : Equation). IsOver (length n.inputs) (length n.lets) e.body) n.lets = lets_name_lets (length n.inputs) 0 (length n.lets) n.lets (omega arith) h.lets_over in
    subst (λ (is : List (List ℕ)). AllByRecursion (λ (e : Equation). IsOver (length is) (length lets) e.body) lets) (sym p)
    (subst (λ (ls : List Equation). AllByRecursion (λ (e : Equation). IsOver (length n.inputs) (length ls) e.body) ls) (sym q) all)

-- each output names inputs and lets of its network
pub outputs_are_over : (n : Net) (inputs : List (List ℕ)) (lets outputs : List Equation) → inputs ≡ n.inputs → lets ≡ n.lets → outputs ≡ n.outputs → IsNetwork n → AllByRecursion (λ e. IsOver (length inputs) (length lets) e.body) outputs
outputs_are_over n inputs lets outputs p q r h =
    subst (λ (is : List (List ℕ)). AllByRecursion (λ (e : Equation). IsOver (length is) (length lets) e.body) outputs) (sym p)
    (subst (λ (ls : List Equation). AllByRecursion (λ (e : Equation). IsOver (length n.inputs) (length ls) e.body) outputs) (sym q)
    (subst (AllByRecursion (λ (e : Equation). IsOver (length n.inputs) (length n.lets) e.body)) (sym r) h.outputs_over))
