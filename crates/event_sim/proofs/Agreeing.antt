-- What does not depend on the order of activations.
use Rattle.std.proofs.Common.{◌≡◌, ℕ, ◌+◌, ◌*◌, Bool, true, false, List, [], ◌∷◌, length, refl, ap, ◌∙◌, sym, subst, inl, inr, arith}
use Rattle.std.proofs.lemmas.Bool.{cases_lt}
use Rattle.circuit.specs.Circuit.{Circuit}
use Rattle.circuit.specs.Valid.{IsOrdered}
use Rattle.circuit.specs.Meaning.{State, activate_all}
use Rattle.circuit.proofs.Settling.{all_keep, one_settled}
use Rattle.levels.specs.Levels.{all_low}
use Rattle.event_sim.specs.Standing.{edge_after}
use Rattle.event_sim.specs.Passes.{AllOrdersAgree, passes, ArePasses}
use Rattle.event_sim.specs.Runs.{RunsFrom, MakeHistories}

pub orders_agree : (m : Circuit) → IsOrdered m → AllOrdersAgree m
orders_agree m ord s s' ks ks' inputs regs a b =
    let k = all_keep m s ks in
    let k' = all_keep m s' ks' in
    one_settled m ord (activate_all m s ks) (activate_all m s' ks') a b (sym k.inputs ∙ (inputs ∙ k'.inputs)) (sym k.regs ∙ (regs ∙ k'.regs))

pub make_histories : (m : Circuit) → MakeHistories m
make_histories m = record {
  start = λ inputs ks h.
      let k = all_keep m (edge_after m false (all_low m) inputs) ks in
      record { settled = h; inputs_are = sym k.inputs; regs_are = sym k.regs };
  next = λ before inputs ks h.
      let k = all_keep m (edge_after m true before inputs) ks in
      record { settled = h; inputs_are = sym k.inputs; regs_are = sym k.regs };
}

-- passes from one state end in one, after one number of activations
pub record AreSame (a b : State) (i j : ℕ) : Type 0 where
  pub state : a ≡ b
  pub count : i ≡ j

same_changing : (m : Circuit) (ks : List ℕ) (s a b : State) (i j : ℕ) (p : ArePasses m ks s a i) (q : ArePasses m ks s b j) → p.changing ≡ q.changing
same_changing m ks s a b i j p q = elim (cases_lt p.changing q.changing) [
  | inl w ↦ absurd (q.rests.first p.changing w p.rests.still)
  | inr w ↦ elim (cases_lt q.changing p.changing) [
    | inl u ↦ absurd (p.rests.first q.changing u q.rests.still)
    | inr u ↦ omega arith
  ]
]

pub same_passes : (m : Circuit) (ks : List ℕ) (s a b : State) (i j : ℕ) → ArePasses m ks s a i → ArePasses m ks s b j → AreSame a b i j
same_passes m ks s a b i j p q =
    let e = same_changing m ks s a b i j p q in
    record {
      state = p.state ∙ (ap (λ n. passes m ks n s) e ∙ sym q.state);
      count = p.amount ∙ (ap (λ n. (n + 1) * length ks) e ∙ sym q.amount);
    }

-- the states of two runs, and their numbers of activations
pub record AreSameRuns (a b : List State) (i j : ℕ) : Type 0 where
  pub states : a ≡ b
  pub count : i ≡ j

pub same_runs : (m : Circuit) (ks : List ℕ) (started : Bool) (s : State) (us : List (List Bool)) (a b : List State) (i j : ℕ) →
    RunsFrom m ks started s us a i → RunsFrom m ks started s us b j → AreSameRuns a b i j
same_runs m ks started s [] [] [] i j p q = record { states = refl; count = p ∙ sym q }
same_runs m ks started s [] [] (y ∷ b) i j p q = absurd q
same_runs m ks started s [] (x ∷ a) b i j p q = absurd p
same_runs m ks started s (u ∷ us) [] b i j p q = absurd p
same_runs m ks started s (u ∷ us) (x ∷ a) [] i j p q = absurd q
same_runs m ks started s (u ∷ us) (x ∷ a) (y ∷ b) i j (n, rest, total, first, more) (n', rest', total', first', more') =
    let one = same_passes m ks (edge_after m started s u) x y n n' first first' in
    let others = same_runs m ks true y us a b rest rest' (subst (λ z. RunsFrom m ks true z us a rest) one.state more) more' in
    record {
      states = ap (λ z. z ∷ a) one.state ∙ ap (λ z. y ∷ z) others.states;
      count = let p = one.count in let q = others.count in omega arith;
    }
