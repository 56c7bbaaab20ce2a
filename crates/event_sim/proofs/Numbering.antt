-- Numbered orders, place by place.
use Rattle.std.proofs.Common.{◌≡◌, ◌≢◌, ℕ, zero, suc, ◌+◌, ◌-◌, ◌<◌, ◌≤◌, length, get_or, reverse, refl, ap, ◌∙◌, sym, inl, inr, arith}
use Rattle.std.proofs.lemmas.Bool.{cases_lt}
use Rattle.std.proofs.lemmas.List.{get_or-reverse, length-reverse, length-append, get_or_append_left, get_or-append-add}
use Rattle.circuit.specs.Meaning.{upto}
use Rattle.event_sim.specs.Orders.{begins, from_on, numbered_order}
use Rattle.event_sim.specs.Passes.{IsRound}

pub upto_long : (j n : ℕ) → length (upto j n) ≡ n
upto_long j zero = refl
upto_long j (suc n) = ap suc (upto_long (suc j) n)

pub upto_at : (j n i d : ℕ) → i < n → get_or (upto j n) i d ≡ j + i
upto_at j zero i d lt = absurd (omega arith)
upto_at j (suc n) zero d lt = omega arith
upto_at j (suc n) (suc i) d lt = let e = upto_at (suc j) n i d (omega arith) in omega (arith, e)

from_long : (count begin : ℕ) → begin ≤ count → length (from_on count begin) ≡ count
from_long count begin le = omega (arith, length-append (upto begin (count - begin)) (upto 0 begin), upto_long begin (count - begin), upto_long 0 begin, le)

from_low : (count begin i d : ℕ) → i < count - begin → get_or (from_on count begin) i d ≡ begin + i
from_low count begin i d lt =
    get_or_append_left (upto begin (count - begin)) (upto 0 begin) d i (omega (arith, upto_long begin (count - begin), lt)) ∙ upto_at begin (count - begin) i d lt

from_high : (count begin i d : ℕ) → i < begin → begin ≤ count → get_or (from_on count begin) (count - begin + i) d ≡ i
from_high count begin i d lt le =
    ap (λ n. get_or (from_on count begin) (n + i) d) (sym (upto_long begin (count - begin)))
    ∙ (get_or-append-add (upto begin (count - begin)) (upto 0 begin) i d ∙ (upto_at 0 begin i d lt ∙ omega arith))

pub begins_within : (count order : ℕ) → 0 < count → begins count order < count
begins_within count zero lt = lt
begins_within count (suc zero) lt = lt
begins_within count (suc (suc n)) lt = omega (arith, lt)

pub order_long : (count order : ℕ) → 0 < count → length (numbered_order count order) ≡ count
order_long count zero lt = upto_long 0 count
order_long count (suc zero) lt = length-reverse (upto 0 count) ∙ upto_long 0 count
order_long count (suc (suc n)) lt = from_long count (begins count (suc (suc n))) (let b = begins_within count (suc (suc n)) lt in omega arith)

back_at : (count place d : ℕ) → place < count → get_or (reverse (upto 0 count)) place d ≡ count - 1 - place
back_at count place d lt =
    let long = upto_long 0 count in
    get_or-reverse (upto 0 count) place d (omega (arith, long, lt))
    ∙ (ap (λ n. get_or (upto 0 count) (n - 1 - place) d) long ∙ (upto_at 0 count (count - 1 - place) d (omega (arith, lt)) ∙ omega arith))

-- ---- each assign is in each order

pub order_is_round : (count order : ℕ) → 0 < count → IsRound count (numbered_order count order)
order_is_round count zero some j lt = (j, omega (arith, upto_long 0 count, lt), upto_at 0 count j j lt ∙ omega arith)
order_is_round count (suc zero) some j lt =
    (count - 1 - j, omega (arith, order_long count 1 some, lt), back_at count (count - 1 - j) j (omega (arith, lt)) ∙ omega (arith, lt))
order_is_round count (suc (suc n)) some j lt =
    let order = suc (suc n) in
    let begin = begins count order in
    let b = begins_within count order some in
    let long = order_long count order some in
    elim (cases_lt j begin) [
      | inl w ↦ (count - begin + j, omega (arith, long, w, b), from_high count begin j j w (omega (arith, b)))
      | inr w ↦ (j - begin, omega (arith, long, lt, w), from_low count begin (j - begin) j (omega (arith, lt, w)) ∙ omega (arith, w))
    ]
