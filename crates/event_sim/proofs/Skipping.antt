-- Stretches of activations, one after another, and those that change nothing.
use Rattle.std.proofs.Common.{◌≡◌, ℕ, zero, suc, ◌+◌, ◌-◌, ◌<◌, ◌≤◌, Bool, true, false, List, [], ◌∷◌, ◌++◌, length, get_or, reverse, refl, ap, ◌∙◌, sym, subst, inl, inr, arith, add-zero}
use Rattle.std.specs.Prelude.{Contains, ◌≢◌, ◌||◌}
use Rattle.std.proofs.lemmas.Bool.{false≢true}
use Rattle.std.proofs.lemmas.List.{get_or-reverse, reverse-append, append-nil, length-reverse}
use Rattle.std.proofs.lemmas.List.Elements.{Contains-append_left, Contains-append_right, Contains-append_cases}
use Rattle.circuit.specs.Circuit.{Circuit}
use Rattle.circuit.specs.Meaning.{State, IsSettled, HasLevels, SettlesInOrder, activate, activate_all, upto}
use Rattle.levels.specs.Marked.{NoneFrom}
use Rattle.marked_steps.specs.UpToDate.{IsUpToDate}
use Rattle.marked_steps.proofs.Single.{unmarked_quiet}
use Rattle.marked_steps.proofs.Filling.{in_order_alone}
use Rattle.event_sim.specs.Orders.{begins, from_on, numbered_order}
use Rattle.event_sim.specs.Passes.{ChangesNothing, IsPass}
use Rattle.event_sim.proofs.Numbering.{upto_long, upto_at}
use Rattle.event_sim.proofs.Rounds.{quiet_pass, fits_after}

-- ---- lists of numbers

pub upto_joined : (j a b : ℕ) → upto j a ++ upto (j + a) b ≡ upto j (a + b)
upto_joined j zero b =
    let e : b ≡ 0 + b = omega arith in
    ap (λ n. upto n b) (add-zero j) ∙ ap (λ n. upto j n) e
upto_joined j (suc a) b =
    let e : j + suc a ≡ suc j + a = omega arith in
    let f : suc (a + b) ≡ suc a + b = omega arith in
    ap (λ n. j ∷ (upto (suc j) a ++ upto n b)) e ∙ (ap (λ z. j ∷ z) (upto_joined (suc j) a b) ∙ ap (λ n. upto j n) f)

upto_met : (from mid end : ℕ) → from ≤ mid → mid ≤ end → upto from (mid - from) ++ upto mid (end - mid) ≡ upto from (end - from)
upto_met from mid end a b =
    let e : mid ≡ from + (mid - from) = omega arith in
    let f : (mid - from) + (end - mid) ≡ end - from = omega arith in
    ap (λ n. upto from (mid - from) ++ upto n (end - mid)) e ∙ (upto_joined from (mid - from) (end - mid) ∙ ap (λ n. upto from n) f)

within_upto : (j n k : ℕ) → Contains (upto j n) k → (j ≤ k) × (k < j + n)
within_upto j n k c =
    let lt : c.0 < n = omega (arith, upto_long j n, c.1) in
    let e : k ≡ j + c.0 = sym c.2 ∙ upto_at j n c.0 k lt in
    (omega arith, omega arith)

within_reverse : (j n k : ℕ) → Contains (reverse (upto j n)) k → (j ≤ k) × (k < j + n)
within_reverse j n k c =
    let long = upto_long j n in
    let lt : c.0 < length (upto j n) = omega (arith, length-reverse (upto j n), c.1) in
    let e : k ≡ j + (length (upto j n) - 1 - c.0) =
    sym c.2 ∙ (get_or-reverse (upto j n) c.0 k lt ∙ upto_at j n (length (upto j n) - 1 - c.0) k (omega (arith, long, lt))) in
    (omega arith, omega (arith, long))

-- ---- one stretch after another

all_joined : (m : Circuit) (s : State) (ks ks' : List ℕ) → activate_all m s (ks ++ ks') ≡ activate_all m (activate_all m s ks) ks'
all_joined m s [] ks' = refl
all_joined m s (k ∷ ks) ks' = all_joined m (activate m s k) ks ks'

or_false : (p q : Bool) → (p || q) ≡ false → (p ≡ false) × (q ≡ false)
or_false true q h = absurd (false≢true (sym h))
or_false false q h = (refl, h)

or_none : (p : Bool) → (p || false) ≡ p
or_none true = refl
or_none false = refl

-- whether one of two changed something, as the code reckons it
pub or_first : (before r after : Bool) → before ≡ true → after ≡ before → (before || r) ≡ after
or_first before r after h e = ap (λ z. z || r) h ∙ (sym h ∙ sym e)

pub or_second : (before r after : Bool) → before ≡ false → after ≡ r → (before || r) ≡ after
or_second before r after h e = ap (λ z. z || r) h ∙ sym e

pub fits : (m : Circuit) (ks : List ℕ) (s s' : State) (changed : Bool) → IsPass m ks s s' changed → HasLevels m s → HasLevels m s'
fits m ks s s' changed p f = subst (λ z. HasLevels m z) (sym p.state) (fits_after m s ks f)

-- where nothing changed, the next stretch begins in the same state
same_after : (m : Circuit) (ks : List ℕ) (s s' : State) (changed : Bool) → IsPass m ks s s' changed → ChangesNothing m ks s → s' ≡ s
same_after m ks s s' changed p q = p.state ∙ quiet_pass m s ks q

moved_either : (m : Circuit) (ks ks' : List ℕ) (s s' s'' : State) (a b : Bool) → IsPass m ks s s' a → IsPass m ks' s' s'' b → (a || b) ≡ true →
    ChangesNothing m (ks ++ ks') s → ⊥
moved_either m ks ks' s s' s'' true b p p' e q = p.moved refl (λ k c. q k (Contains-append_left ks ks' k c))
moved_either m ks ks' s s' s'' false b p p' e q =
    let here : s' ≡ s = same_after m ks s s' false p (p.still refl) in
    p'.moved e (subst (λ z. ChangesNothing m ks' z) (sym here) (λ k c. q k (Contains-append_right ks ks' k c)))

still_both : (m : Circuit) (ks ks' : List ℕ) (s s' s'' : State) (a b : Bool) → IsPass m ks s s' a → IsPass m ks' s' s'' b → (a || b) ≡ false →
    ChangesNothing m (ks ++ ks') s
still_both m ks ks' s s' s'' a b p p' e k c =
    let q = or_false a b e in
    let here : s' ≡ s = same_after m ks s s' a p (p.still q.0) in
    elim (Contains-append_cases ks ks' k c) [
      | inl w ↦ p.still q.0 k w
      | inr w ↦ subst (λ z. ChangesNothing m ks' z) here (p'.still q.1) k w
    ]

pub joined : (m : Circuit) (ks ks' : List ℕ) (s s' s'' : State) (a b : Bool) → IsPass m ks s s' a → IsPass m ks' s' s'' b → IsPass m (ks ++ ks') s s'' (a || b)
joined m ks ks' s s' s'' a b p p' = record {
  state = p'.state ∙ (ap (λ z. activate_all m z ks') p.state ∙ sym (all_joined m s ks ks'));
  still = λ e. still_both m ks ks' s s' s'' a b p p' e;
  moved = λ e. moved_either m ks ks' s s' s'' a b p p' e;
}

pub resting : (m : Circuit) (ks : List ℕ) (s : State) → ChangesNothing m ks s → IsPass m ks s s false
resting m ks s q = record { state = sym (quiet_pass m s ks q); still = λ e. q; moved = λ e. absurd (false≢true e) }

pub one : (m : Circuit) (k : ℕ) (s s' : State) (changed : Bool) → s' ≡ activate m s k → (changed ≡ false → s' ≡ s) → (changed ≡ true → s' ≢ s) →
    IsPass m (k ∷ []) s s' changed
one m k s s' changed e same moved = record {
  state = e;
  still = λ h i c. let w = within_upto k 1 i c in let is : k ≡ i = omega arith in subst (λ z. activate m s z ≡ s) is (sym e ∙ same h);
  moved = λ h q. moved h (e ∙ q k (0, omega arith, refl));
}

-- ---- what isn't marked

pub resting_up : (m : Circuit) (s : State) (words : List ℕ) (from end : ℕ) → IsUpToDate m s words → NoneFrom words from end → IsPass m (upto from (end - from)) s s false
resting_up m s words from end up none =
    resting m (upto from (end - from)) s (λ k c. let w = within_upto from (end - from) k c in unmarked_quiet m s words k up (none k w.0 (omega (arith, w.0, w.1))))

pub resting_down : (m : Circuit) (s : State) (words : List ℕ) (from end : ℕ) → IsUpToDate m s words → NoneFrom words from end →
    IsPass m (reverse (upto from (end - from))) s s false
resting_down m s words from end up none =
    resting m (reverse (upto from (end - from))) s (λ k c. let w = within_reverse from (end - from) k c in unmarked_quiet m s words k up (none k w.0 (omega (arith, w.0, w.1))))

-- an activation upwards, and on to the next marked assign
pub rises : (m : Circuit) (old s s' : State) (words : List ℕ) (from next next' : ℕ) (changed now : Bool) → IsPass m (upto from (next - from)) old s changed →
    from ≤ next → next + 1 ≤ next' → s' ≡ activate m s next → (now ≡ false → s' ≡ s) → (now ≡ true → s' ≢ s) → IsUpToDate m s' words →
    NoneFrom words (next + 1) next' → IsPass m (upto from (next' - from)) old s' (changed || now)
rises m old s s' words from next next' changed now p low on e same moved up none =
    let here = joined m (upto from (next - from)) (next ∷ []) old s s' changed now p (one m next s s' now e same moved) in
    let all = joined m (upto from (next - from) ++ next ∷ []) (upto (next + 1) (next' - (next + 1))) old s' s' (changed || now) false here
    (resting_up m s' words (next + 1) next' up none) in
    let n : (next + 1) - next ≡ 1 = omega arith in
    let a : upto from (next - from) ++ next ∷ [] ≡ upto from ((next + 1) - from) =
    ap (λ z. upto from (next - from) ++ upto next z) (sym n) ∙ upto_met from next (next + 1) low (omega arith) in
    let b : (upto from (next - from) ++ next ∷ []) ++ upto (next + 1) (next' - (next + 1)) ≡ upto from (next' - from) =
    ap (λ z. z ++ upto (next + 1) (next' - (next + 1))) a ∙ upto_met from (next + 1) next' (omega arith) on in
    subst (λ z. IsPass m (upto from (next' - from)) old s' z) (or_none (changed || now)) (subst (λ z. IsPass m z old s' ((changed || now) || false)) b all)

-- the same without marks
pub rises_one : (m : Circuit) (old s s' : State) (from k : ℕ) (changed now : Bool) → IsPass m (upto from (k - from)) old s changed →
    from ≤ k → s' ≡ activate m s k → (now ≡ false → s' ≡ s) → (now ≡ true → s' ≢ s) → IsPass m (upto from ((k + 1) - from)) old s' (changed || now)
rises_one m old s s' from k changed now p low e same moved =
    let n : (k + 1) - k ≡ 1 = omega arith in
    let a : upto from (k - from) ++ k ∷ [] ≡ upto from ((k + 1) - from) =
    ap (λ z. upto from (k - from) ++ upto k z) (sym n) ∙ upto_met from k (k + 1) low (omega arith) in
    subst (λ z. IsPass m z old s' (changed || now)) a (joined m (upto from (k - from)) (k ∷ []) old s s' changed now p (one m k s s' now e same moved))

-- downwards
reverse_met : (from mid end : ℕ) → from ≤ mid → mid ≤ end → reverse (upto mid (end - mid)) ++ reverse (upto from (mid - from)) ≡ reverse (upto from (end - from))
reverse_met from mid end a b = sym (reverse-append (upto from (mid - from)) (upto mid (end - mid))) ∙ ap reverse (upto_met from mid end a b)

pub falls : (m : Circuit) (old s s' : State) (words : List ℕ) (count end end' k : ℕ) (changed now : Bool) → IsPass m (reverse (upto end (count - end))) old s changed →
    end ≤ count → k + 1 ≡ end → end' ≤ k → s' ≡ activate m s k → (now ≡ false → s' ≡ s) → (now ≡ true → s' ≢ s) → IsUpToDate m s' words →
    NoneFrom words end' k → IsPass m (reverse (upto end' (count - end'))) old s' (changed || now)
falls m old s s' words count end end' k changed now p high is on e same moved up none =
    let here = joined m (reverse (upto end (count - end))) (k ∷ []) old s s' changed now p (one m k s s' now e same moved) in
    let all = joined m (reverse (upto end (count - end)) ++ k ∷ []) (reverse (upto end' (k - end'))) old s' s' (changed || now) false here
    (resting_down m s' words end' k up none) in
    let n : end - k ≡ 1 = omega arith in
    let a : reverse (upto end (count - end)) ++ k ∷ [] ≡ reverse (upto k (count - k)) =
    ap (λ z. reverse (upto end (count - end)) ++ reverse (upto k z)) (sym n) ∙ reverse_met k end count (omega arith) high in
    let b : (reverse (upto end (count - end)) ++ k ∷ []) ++ reverse (upto end' (k - end')) ≡ reverse (upto end' (count - end')) =
    ap (λ z. z ++ reverse (upto end' (k - end'))) a ∙ reverse_met end' k count on (omega arith) in
    subst (λ z. IsPass m (reverse (upto end' (count - end'))) old s' z) (or_none (changed || now)) (subst (λ z. IsPass m z old s' ((changed || now) || false)) b all)

-- ---- whole passes

-- one stretch, and from where it ended on to the end
pub risen : (m : Circuit) (from mid end : ℕ) (s s' s'' : State) (a b : Bool) → from ≤ mid → mid ≤ end → IsPass m (upto from (mid - from)) s s' a →
    IsPass m (upto mid (end - mid)) s' s'' b → IsPass m (upto from (end - from)) s s'' (a || b)
risen m from mid end s s' s'' a b low high p p' = subst (λ z. IsPass m z s s'' (a || b)) (upto_met from mid end low high) (joined m (upto from (mid - from)) (upto mid (end - mid)) s s' s'' a b p p')

-- all assigns upwards settle
pub risen_settled : (m : Circuit) (from end : ℕ) (s s' : State) (changed : Bool) → SettlesInOrder m → HasLevels m s → IsPass m (upto from (end - from)) s s' changed →
    from ≡ 0 → end ≡ length m.assigns → IsSettled m s'
risen_settled m from end s s' changed settles f p low high =
    let e : upto from (end - from) ≡ upto 0 (length m.assigns) = ap (λ n. upto n (end - from)) low ∙ ap (λ n. upto 0 n) (omega arith) in
    subst (λ z. IsSettled m z) (sym (p.state ∙ ap (λ z. activate_all m s z) e)) (settles s (upto 0 (length m.assigns)) f (in_order_alone 0 (length m.assigns)))

order_split : (count order : ℕ) → order ≢ 1 → numbered_order count order ≡ upto (begins count order) (count - begins count order) ++ upto 0 (begins count order - 0)
order_split count zero ne =
    let e : count ≡ count - 0 = omega arith in
    sym (append-nil (upto 0 count)) ∙ ap (λ n. upto 0 n ++ []) e
order_split count (suc zero) ne = absurd (ne refl)
order_split count (suc (suc n)) ne =
    let b = begins count (suc (suc n)) in
    let e : b ≡ b - 0 = omega arith in
    ap (λ z. upto b (count - b) ++ upto 0 z) e

-- a pass that isn't downwards: from where it begins to the last assign, and then from the first one on
pub passed_up : (m : Circuit) (count order begin : ℕ) (s s' s'' : State) (a b : Bool) → order ≢ 1 → begin ≡ begins count order → IsPass m (upto begin (count - begin)) s s' a →
    IsPass m (upto 0 (begin - 0)) s' s'' b → IsPass m (numbered_order count order) s s'' (a || b)
passed_up m count order begin s s' s'' a b ne is p p' =
    let e : upto begin (count - begin) ++ upto 0 (begin - 0) ≡ numbered_order count order =
    ap (λ n. upto n (count - n) ++ upto 0 (n - 0)) is ∙ sym (order_split count order ne) in
    subst (λ z. IsPass m z s s'' (a || b)) e (joined m (upto begin (count - begin)) (upto 0 (begin - 0)) s s' s'' a b p p')
