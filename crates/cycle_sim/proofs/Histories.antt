-- Histories grow at their ends.
use Rattle.std.proofs.Common.{◌≡◌, Bool, List, [], ◌∷◌, ◌++◌, refl, sym, subst, Option, Some, None}
use Rattle.circuit.specs.Circuit.{Circuit}
use Rattle.circuit.specs.Meaning.{State, IsHistory, Follows}
use Rattle.cycle_sim.specs.Standing.{IsStep, last_state, Ran, RanOn}

last_of_more : (s : State) (states : List State) → last_state (states ++ s ∷ []) ≡ Some s
last_of_more s [] = refl
last_of_more s (t ∷ []) = refl
last_of_more s (t ∷ t' ∷ states) = last_of_more s (t' ∷ states)

followed_on : (m : Circuit) (first : State) (us : List (List Bool)) (states : List State) (inputs : List Bool) (s : State) →
    Follows m first us states → IsStep m (last_state (first ∷ states)) (Some s) inputs →
    Follows m first (us ++ inputs ∷ []) (states ++ s ∷ [])
followed_on m first [] [] inputs s h step = (step, tt)
followed_on m first [] (t ∷ states) inputs s h step = absurd h
followed_on m first (u ∷ us) [] inputs s h step = absurd h
followed_on m first (u ∷ us) (t ∷ states) inputs s h step = (h.0, followed_on m t us states inputs s h.1 step)

history_on : (m : Circuit) (us : List (List Bool)) (states : List State) (inputs : List Bool) (s : State) →
    IsHistory m us states → IsStep m (last_state states) (Some s) inputs → IsHistory m (us ++ inputs ∷ []) (states ++ s ∷ [])
history_on m [] [] inputs s h step = (step, tt)
history_on m [] (t ∷ states) inputs s h step = absurd h
history_on m (u ∷ us) [] inputs s h step = absurd h
history_on m (u ∷ us) (t ∷ states) inputs s h step = (h.0, followed_on m t us states inputs s h.1 step)

pub ran_on : (m : Circuit) (us : List (List Bool)) (states : List State) (inputs : List Bool) (before after : Option State) →
    Ran m us states before → IsStep m before after inputs → RanOn m us states inputs after
ran_on m us states inputs before None r step = absurd step
ran_on m us states inputs before (Some s) r step = (
  s,
  refl,
  record {
    history = history_on m us states inputs s r.history (subst (λ z. IsStep m z (Some s) inputs) r.last step);
    last = sym (last_of_more s states);
  },
)
