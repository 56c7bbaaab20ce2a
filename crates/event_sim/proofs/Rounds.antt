-- Rounds and passes settle.
use Rattle.std.proofs.Common.{◌≡◌, ℕ, zero, suc, ◌+◌, ◌<◌, ◌≤◌, Bool, true, false, List, [], ◌∷◌, length, get_or, refl, ap, ◌∙◌, sym, subst, arith, Option, Some, None, inl, inr}
use Rattle.std.specs.Prelude.{slice_get, Contains, All, ◌≢◌, ◌||◌, take, ◌*◌}
use Rattle.std.proofs.lemmas.List.{set-get_or, get_or-set_same, get_or_default}
use Rattle.std.proofs.lemmas.List.Elements.{Contains-get_or}
use Rattle.std.proofs.lemmas.Bool.{cases_lt, false≢true}
use Rattle.std.proofs.lemmas.Option.{slice_get_within}
use Rattle.circuit.specs.declared.bit.Target.{Target}
use Rattle.circuit.specs.declared.bit.Target.TheVariants as target
use Rattle.circuit.specs.Circuit.{Assignment, Circuit}
use Rattle.circuit.specs.Valid.{IsTarget, IsOrdered, IsValid}
use Rattle.circuit.specs.Meaning.{State, level, at, put, IsSettled, HasLevels, InOrder, activate, activate_one, activate_all}
use Rattle.levels.specs.Levels.{HasPlace, HaveWidths, HasAllLevels}
use Rattle.circuit.proofs.Settling.{Holds, Keeps, holds_all, all_keep, keep_fits}
use Rattle.marked_steps.proofs.Single.{put_same, at_put_is, in_state}
use Rattle.event_sim.specs.Passes.{IsRound, activate_rounds, SettlesInRounds, passes, ChangesNothing, ArePasses}

in_order_at : (ks : List ℕ) (j i : ℕ) → i < length ks → get_or ks i j ≡ j → InOrder (j ∷ []) ks
in_order_at [] j i h e = absurd (omega arith)
in_order_at (k ∷ ks) j zero h e = inl (e, tt)
in_order_at (k ∷ ks) j (suc i) h e = inr (in_order_at ks j i (omega arith) e)

none_yet : (m : Circuit) (s : State) → Holds m s 0
none_yet m s = record { by = λ k a lt ka. absurd (omega arith) }

pub fits_after : (m : Circuit) (s : State) (ks : List ℕ) → HasLevels m s → HasLevels m (activate_all m s ks)
fits_after m s ks f = keep_fits m s (activate_all m s ks) (all_keep m s ks) f

pub settled_from : (m : Circuit) (s : State) → HasLevels m s → Holds m s (length m.assigns) → IsSettled m s
settled_from m s f h = record { wires = f.wires; outs = f.outs; each = λ k a ka. h.by k a (slice_get_within m.assigns k a ka) ka }

-- one more assign holds after a round
one_round : (m : Circuit) → IsOrdered m → (s : State) (ks : List ℕ) (j : ℕ) → HasLevels m s → Holds m s j → IsRound (length m.assigns) ks → j < length m.assigns → Holds m (activate_all m s ks) (suc j)
one_round m ord s ks j f h r lt =
    let c = r j lt in
    let e : j + 1 ≡ suc j = omega arith in
    subst (λ q. Holds m (activate_all m s ks) q) e (holds_all m ord ks s j 1 f h (in_order_at ks j c.0 c.1 c.2))

rounds_hold : (m : Circuit) → IsOrdered m → (rounds : List (List ℕ)) (s : State) (j : ℕ) → HasLevels m s → Holds m s j → j + length rounds ≡ length m.assigns →
    All (IsRound (length m.assigns)) rounds → IsSettled m (activate_rounds m s rounds)
rounds_hold m ord [] s j f h e all = let same : j ≡ length m.assigns = omega arith in settled_from m s f (subst (λ q. Holds m s q) same h)
rounds_hold m ord (ks ∷ rounds) s j f h e all =
    rounds_hold m ord rounds (activate_all m s ks) (suc j) (fits_after m s ks f)
    (one_round m ord s ks j f h (all 0 ks (omega arith)) (omega arith)) (omega arith) (λ k d w. all (suc k) d (omega arith))

pub rounds_settle : (m : Circuit) → IsOrdered m → SettlesInRounds m
rounds_settle m ord s rounds f e all = rounds_hold m ord rounds s 0 f (none_yet m s) (omega arith) all

settled_one : (m : Circuit) (s : State) → IsSettled m s → (k : ℕ) (o : Option Assignment) → slice_get m.assigns k ≡ o → activate_one s o ≡ s
settled_one m s h k None e = refl
settled_one m s h k (Some a) e = ap (λ v. put s a.target v) (sym (h.each k a e)) ∙ put_same s a.target

pub settled_quiet : (m : Circuit) (s : State) (ks : List ℕ) → IsSettled m s → ChangesNothing m ks s
settled_quiet m s ks h k c = settled_one m s h k (slice_get m.assigns k) refl

-- after n passes the first n assigns hold
passes_hold : (m : Circuit) → IsOrdered m → (ks : List ℕ) (n : ℕ) (s : State) (j : ℕ) → HasLevels m s → Holds m s j → IsRound (length m.assigns) ks → j + n ≡ length m.assigns →
    IsSettled m (passes m ks n s)
passes_hold m ord ks zero s j f h r e = let same : j ≡ length m.assigns = omega arith in settled_from m s f (subst (λ q. Holds m s q) same h)
passes_hold m ord ks (suc n) s j f h r e =
    passes_hold m ord ks n (activate_all m s ks) (suc j) (fits_after m s ks f) (one_round m ord s ks j f h r (omega arith)) r (omega arith)

pub passes_settle : (m : Circuit) → IsOrdered m → (ks : List ℕ) (s : State) → HasLevels m s → IsRound (length m.assigns) ks → ChangesNothing m ks (passes m ks (length m.assigns) s)
passes_settle m ord ks s f r = settled_quiet m (passes m ks (length m.assigns) s) ks (passes_hold m ord ks (length m.assigns) s 0 f (none_yet m s) r (omega arith))

passes_more : (m : Circuit) (ks : List ℕ) (n : ℕ) (s : State) → passes m ks (suc n) s ≡ activate_all m (passes m ks n s) ks
passes_more m ks zero s = refl
passes_more m ks (suc n) s = passes_more m ks n (activate_all m s ks)

quiet_all : (m : Circuit) (s : State) (ks : List ℕ) → ((i : ℕ) → i < length ks → activate m s (get_or ks i 0) ≡ s) → activate_all m s ks ≡ s
quiet_all m s [] q = refl
quiet_all m s (k ∷ ks) q = ap (λ z. activate_all m z ks) (q 0 (omega arith)) ∙ quiet_all m s ks (λ i h. q (suc i) (omega arith))

pub quiet_pass : (m : Circuit) (s : State) (ks : List ℕ) → ChangesNothing m ks s → activate_all m s ks ≡ s
quiet_pass m s ks q = quiet_all m s ks (λ i h. q (get_or ks i 0) (Contains-get_or ks i 0 h))

quiet_option : (s : State) (o : Option Assignment) (a : Assignment) → o ≡ Some a → HasPlace s a.target → activate_one s o ≡ s → at s a.target ≡ level s a.bit
quiet_option s None a e h q = (cc)
quiet_option s (Some b) a e h q =
    let same : b ≡ a = cc in
    let q' : put s a.target (level s a.bit) ≡ s = subst (λ (z : Assignment). put s z.target (level s z.bit) ≡ s) same q in
    sym (ap (λ (z : State). at z a.target) q') ∙ at_put_is s a.target (level s a.bit) h

pub quiet_settled : (m : Circuit) → IsOrdered m → (s : State) (ks : List ℕ) → HasLevels m s → IsRound (length m.assigns) ks → ChangesNothing m ks s → IsSettled m s
quiet_settled m ord s ks f r q = record {
  wires = f.wires;
  outs = f.outs;
  each = λ k a e.
      quiet_option s (slice_get m.assigns k) a e (in_state m s a.target f (ord.targets k a e)) (q k (r k (slice_get_within m.assigns k a e)));
}

-- what n passes that changed something left
pub record Running (m : Circuit) (ks : List ℕ) (old s : State) (n count : ℕ) : Type 0 where
  pub state : s ≡ passes m ks n old
  pub fits : HasLevels m s
  pub moved : (i : ℕ) → i < n → ChangesNothing m ks (passes m ks i old) → ⊥
  pub amount : count ≡ n * length ks
  pub small : count ≤ n * 131136

pub running_none : (m : Circuit) (ks : List ℕ) (s : State) → HasLevels m s → Running m ks s s 0 0
running_none m ks s f = record { state = refl; fits = f; moved = λ i h. absurd (omega arith); amount = omega arith; small = omega arith }

pub running_more : (m : Circuit) (ks : List ℕ) (old s s' : State) (n count : ℕ) → Running m ks old s n count → length ks ≤ 131136 →
    s' ≡ activate_all m s ks → (ChangesNothing m ks s → ⊥) → Running m ks old s' (n + 1) (count + length ks)
running_more m ks old s s' n count r few e q =
    let k : n + 1 ≡ suc n = omega arith in
    record {
      state = e ∙ (ap (λ z. activate_all m z ks) r.state ∙ (sym (passes_more m ks n old) ∙ ap (λ z. passes m ks z old) (sym k)));
      fits = subst (λ z. HasLevels m z) (sym e) (fits_after m s ks r.fits);
      moved = λ i h. elim (cases_lt i n) [
        | inl w ↦ r.moved i w
        | inr w ↦ let here : n ≡ i = omega arith in subst (λ z. ChangesNothing m ks (passes m ks z old) → ⊥) here (subst (λ z. ChangesNothing m ks z → ⊥) r.state q)
      ];
      amount = omega (arith, r.amount);
      small = omega (arith, r.small);
    }

pub rested : (m : Circuit) (ks : List ℕ) (old s s' : State) (n count : ℕ) → Running m ks old s n count → n ≤ length m.assigns →
    s' ≡ activate_all m s ks → ChangesNothing m ks s → ArePasses m ks old s' (count + length ks)
rested m ks old s s' n count r le e q = record {
  changing = n;
  rests = record { still = subst (λ z. ChangesNothing m ks z) r.state q; first = r.moved };
  state = e ∙ (quiet_pass m s ks q ∙ r.state);
  few = le;
  amount = omega (arith, r.amount);
}

pub rested_settled : (m : Circuit) → IsOrdered m → (ks : List ℕ) (old s s' : State) (n count : ℕ) → Running m ks old s n count → IsRound (length m.assigns) ks →
    s' ≡ activate_all m s ks → ChangesNothing m ks s → IsSettled m s'
rested_settled m ord ks old s s' n count r round e q =
    subst (λ z. IsSettled m z) (sym (e ∙ quiet_pass m s ks q)) (quiet_settled m ord s ks r.fits round q)

-- M passes are enough
pub running_quiet : (m : Circuit) → IsOrdered m → (ks : List ℕ) (old s : State) (n count : ℕ) → Running m ks old s n count → HasLevels m old → IsRound (length m.assigns) ks → n ≡ length m.assigns → ChangesNothing m ks s
running_quiet m ord ks old s n count r f round e =
    subst (λ z. ChangesNothing m ks z) (sym (r.state ∙ ap (λ z. passes m ks z old) e)) (passes_settle m ord ks old f round)

-- ---- any module

pub some_assign : (m : Circuit) → IsValid m → 0 < length m.assigns
some_assign m v =
    let k = v.ordered.given (target.Out 0) (let some = v.some_output in omega arith) in
    let lt = slice_get_within m.assigns k.0 k.1 k.2 in
    omega arith

pub passes_keep : (m : Circuit) (ks : List ℕ) (n : ℕ) (s : State) → Keeps s (passes m ks n s)
passes_keep m ks zero s = all_keep m s []
passes_keep m ks (suc n) s =
    let one = all_keep m s ks in
    let rest = passes_keep m ks n (activate_all m s ks) in
    record { inputs = one.inputs ∙ rest.inputs; regs = one.regs ∙ rest.regs; wires = rest.wires ∙ one.wires; outs = rest.outs ∙ one.outs }

pub keeps_all : (m : Circuit) (s s' : State) → Keeps s s' → HasAllLevels m s → HasAllLevels m s'
keeps_all m s s' k h = record {
  inputs = ap (λ z. length z) (sym k.inputs) ∙ h.inputs;
  regs = subst (λ z. HaveWidths m.regs z) k.regs h.regs;
  rest = keep_fits m s s' k h.rest;
}
