-- One pass over the assigns.
use Rattle.std.proofs.Common.{◌≡◌, ℕ, zero, suc, ◌+◌, ◌<◌, List, length, ap, ◌∙◌, sym, arith, add-zero}
use Rattle.std.proofs.lemmas.Option.{slice_get_within}
use Rattle.circuit.specs.Circuit.{Circuit}
use Rattle.circuit.specs.Meaning.{State, activate, activate_all, HasLevels, upto, IsSettled}
use Rattle.levels.specs.Marked.{IsUnmarked}
use Rattle.marked_steps.specs.UpToDate.{IsUpToDate}

pub one_more_from : (m : Circuit) (s : State) (j n : ℕ) → activate_all m s (upto j (suc n)) ≡ activate m (activate_all m s (upto j n)) (j + n)
one_more_from m s j zero = ap (λ z. activate m s z) (sym (add-zero j))
one_more_from m s j (suc n) =
    let e : suc j + n ≡ j + suc n = omega arith in
    one_more_from m (activate m s j) (suc j) n ∙ ap (λ z. activate m (activate_all m (activate m s j) (upto (suc j) n)) z) e

-- no assign is marked: the state is settled
pub settled_all : (m : Circuit) (s : State) (words : List ℕ) → HasLevels m s → IsUpToDate m s words → ((k : ℕ) → k < length m.assigns → IsUnmarked words k) → IsSettled m s
settled_all m s words f up none = record {
  wires = f.wires;
  outs = f.outs;
  each = λ k a there. up.assigns k a there (none k (slice_get_within m.assigns k a there));
}
