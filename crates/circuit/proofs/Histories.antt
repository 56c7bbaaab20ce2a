-- A module has one history.
use Rattle.std.proofs.Common.{◌≡◌, ℕ, zero, suc, Bool, false, List, [], ◌∷◌, length, replicate, map, refl, ap, ◌∙◌, sym, subst, inl}
use Rattle.std.proofs.lemmas.List.{length-replicate}
use Rattle.circuit.specs.Circuit.{Circuit}
use Rattle.circuit.specs.Valid.{IsOrdered}
use Rattle.circuit.specs.Meaning.{State, IsSettled, HasLevels, InOrder, upto, activate_all, row_at_start, rows_after, Follows, IsHistory, HasOneHistory}
use Rattle.circuit.proofs.Settling.{settles, one_settled, all_keep}

-- the n numbers from j on occur in themselves in order
pub in_order_self : (j n : ℕ) → InOrder (upto j n) (upto j n)
in_order_self j zero = tt
in_order_self j (suc n) = inl (refl, in_order_self (suc j) n)

-- the settled state with these inputs and registers
pub settled_of : Circuit → List Bool → List (List Bool) → State
settled_of m u rows = activate_all m (record { inputs = u; regs = rows; wires = replicate (length m.wires) false; outs = replicate (length m.outputs) false }) (upto 0 (length m.assigns))

record IsSettledOf (m : Circuit) (u : List Bool) (rows : List (List Bool)) (s : State) : Type 0 where
  settled : IsSettled m s
  inputs : s.inputs ≡ u
  regs : s.regs ≡ rows

settled_is : (m : Circuit) → IsOrdered m → (u : List Bool) (rows : List (List Bool)) → IsSettledOf m u rows (settled_of m u rows)
unfolding settled_of
settled_is m ord u rows =
    let s0 : State = record { inputs = u; regs = rows; wires = replicate (length m.wires) false; outs = replicate (length m.outputs) false } in
    let ks = upto 0 (length m.assigns) in
    let keep = all_keep m s0 ks in
    let fits : HasLevels m s0 = record { wires = length-replicate (length m.wires) false; outs = length-replicate (length m.outputs) false } in
    record {
      settled = settles m ord s0 ks fits (in_order_self 0 (length m.assigns));
      inputs = sym keep.inputs;
      regs = sym keep.regs;
    }

-- the only states that follow
record OneFollows (m : Circuit) (s : State) (us : List (List Bool)) : Type 0 where
  states : List State
  is : Follows m s us states
  only : (others : List State) → Follows m s us others → others ≡ states

same_cons : (x y : State) (xs ys : List State) → x ≡ y → xs ≡ ys → (x ∷ xs) ≡ (y ∷ ys)
same_cons x y xs ys e f = ap (λ z. z ∷ xs) e ∙ ap (λ z. y ∷ z) f

only_none : (m : Circuit) (s : State) (others : List State) → Follows m s [] others → others ≡ []
only_none m s [] h = refl
only_none m s (o ∷ os) h = absurd h

module _ (m : Circuit) (ord : IsOrdered m) where
  -- the state after s under these input levels
  abbrev after : State → List Bool → State
  after s u = settled_of m u (rows_after s m.regs s.regs)

  only_more : (s : State) (u : List Bool) (us : List (List Bool)) (rest : OneFollows m (after s u) us) (others : List State) →
      Follows m s (u ∷ us) others → others ≡ (after s u ∷ rest.states)
  only_more s u us rest [] h = absurd h
  only_more s u us rest (o ∷ os) h =
      let i = settled_is m ord u (rows_after s m.regs s.regs) in
      let e : o ≡ after s u = one_settled m ord o (after s u) h.0.settled i.settled (h.0.inputs_are ∙ sym i.inputs) (h.0.regs_are ∙ sym i.regs) in
      same_cons o (after s u) os rest.states e (rest.only os (subst (λ z. Follows m z us os) e h.1))

  one_follows : (us : List (List Bool)) (s : State) → OneFollows m s us
  one_follows [] s = record { states = []; is = tt; only = only_none m s }
  one_follows (u ∷ us) s =
      let i = settled_is m ord u (rows_after s m.regs s.regs) in
      let rest = one_follows us (after s u) in
      record {
        states = after s u ∷ rest.states;
        is = (record { settled = i.settled; inputs_are = i.inputs; regs_are = i.regs }, rest.is);
        only = only_more s u us rest;
      }

  abbrev first : List Bool → State
  first u = settled_of m u (map row_at_start m.regs)

  only_history : (u : List Bool) (us : List (List Bool)) (rest : OneFollows m (first u) us) (others : List State) →
      IsHistory m (u ∷ us) others → others ≡ (first u ∷ rest.states)
  only_history u us rest [] h = absurd h
  only_history u us rest (o ∷ os) h =
      let i = settled_is m ord u (map row_at_start m.regs) in
      let e : o ≡ first u = one_settled m ord o (first u) h.0.settled i.settled (h.0.inputs_are ∙ sym i.inputs) (h.0.regs_are ∙ sym i.regs) in
      same_cons o (first u) os rest.states e (rest.only os (subst (λ z. Follows m z us os) e h.1))

  only_empty : (others : List State) → IsHistory m [] others → others ≡ []
  only_empty [] h = refl
  only_empty (o ∷ os) h = absurd h

  pub one_history : (us : List (List Bool)) → HasOneHistory m us
  one_history [] = record { states = []; is = tt; only = only_empty }
  one_history (u ∷ us) =
      let i = settled_is m ord u (map row_at_start m.regs) in
      let rest = one_follows us (first u) in
      record {
        states = first u ∷ rest.states;
        is = (record { settled = i.settled; inputs_are = i.inputs; regs_are = i.regs }, rest.is);
        only = only_history u us rest;
      }
