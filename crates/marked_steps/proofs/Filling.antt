-- What is up to date after a set of marks is filled, and the order of the module.
use Rattle.std.proofs.Common.{ℕ, zero, suc, ◌+◌, ◌*◌, ◌<◌, ◌≤◌, List, length, refl, inl, arith}
use Rattle.std.proofs.lemmas.Option.{slice_get_within}
use Rattle.circuit.specs.Circuit.{Circuit}
use Rattle.circuit.specs.Meaning.{State, IsSettled, InOrder, upto}
use Rattle.levels.specs.Marked.{IsMarked}
use Rattle.levels.proofs.Listed.{marked_unmarked}
use Rattle.marked_steps.specs.UpToDate.{IsUpToDate}

-- where all is settled and each register is marked, what isn't marked is up to date
pub all_up : (m : Circuit) (s : State) (words : List ℕ) → IsSettled m s → ((k : ℕ) → length m.assigns ≤ k → k < 64 * length words → IsMarked words k) →
    length m.assigns + length m.regs ≤ 64 * length words → IsUpToDate m s words
all_up m s words settled marked room = record {
  assigns = λ k a there u. settled.each k a there;
  regs = λ r q row there has u. absurd (marked_unmarked words (length m.assigns + r) (marked (length m.assigns + r) (omega arith) (let lt = slice_get_within m.regs r q there in omega (arith, lt, room))) u);
}

-- where all is marked, nothing is asked
pub none_known : (m : Circuit) (s : State) (words : List ℕ) → ((k : ℕ) → k < 64 * length words → IsMarked words k) → length m.assigns + length m.regs ≤ 64 * length words → IsUpToDate m s words
none_known m s words marked room = record {
  assigns = λ k a there u. absurd (marked_unmarked words k (marked k (let lt = slice_get_within m.assigns k a there in omega (arith, lt, room))) u);
  regs = λ r q row there has u. absurd (marked_unmarked words (length m.assigns + r) (marked (length m.assigns + r) (let lt = slice_get_within m.regs r q there in omega (arith, lt, room))) u);
}

-- the numbers from j on occur in themselves in order
pub in_order_alone : (j n : ℕ) → InOrder (upto j n) (upto j n)
in_order_alone j zero = tt
in_order_alone j (suc n) = inl (refl, in_order_alone (suc j) n)
