-- A network fits into the store.
use Rattle.std.proofs.Common.{◌≡◌, ℕ, suc, ◌<◌, ◌≤◌, ◌+◌, true, subst, arith, sym, length, List, [], ◌∷◌, ◌++◌, fold, map}
use Rattle.std.specs.List.{AllByRecursion, sum_by}
use Rattle.std.proofs.lemmas.List.Sums.{sum_by-cons, sum_by-append}
use Rattle.net_model.specs.Formula.{Formula, Never, Input, Named, Min, Max, Lt, Inc, Equation, Net}
use Rattle.net_model.specs.Rules.{joins, delays, span, let_spans, IsOver, AreLets, IsNetwork}
use Rattle.term_store.specs.declared.node.Node.{Node}
use Rattle.term_store.specs.declared.node.Node.TheVariants as node
use Rattle.term_store.specs.Nodes.{Contents, holds}
use Rattle.term_store.specs.Trees.{IsPrefix}
use Rattle.term_store.specs.Planting.{operators, all_operators, HasRoomBesideNever, TakesRoomBesideNever, IsReady, AreReadyLets, AreReadyOutputs}
use Rattle.term_store.proofs.Room.{cost_small}
use Rattle.term_store.proofs.Ready.{ready_more}

abbrev pub AreShort : List ℕ → Type 0
AreShort spans = AllByRecursion (λ s. s ≤ 1000000) spans

-- the first inputs are held
abbrev pub HeldInputs : List Node → ℕ → Type 0
HeldInputs ns count = (i : ℕ) → i < count → holds ns (node.Input i) ≡ true

-- a formula within bounds is ready, once the inputs are held
over_ready : (ns : List Node) (count k : ℕ) (spans : List ℕ) (f : Formula) → count ≤ 64 → HeldInputs ns count → IsOver count k f → span spans f ≤ 1000000 → IsReady ns k f
over_ready ns count k spans Never few held o h = tt
over_ready ns count k spans (Input i) few held o h = (omega (arith, o, few), held i o)
over_ready ns count k spans (Named j) few held o h = o
over_ready ns count k spans (Min a b) few held o h = (over_ready ns count k spans a few held o.0 (omega (arith, h)), over_ready ns count k spans b few held o.1 (omega (arith, h)))
over_ready ns count k spans (Max a b) few held o h = (over_ready ns count k spans a few held o.0 (omega (arith, h)), over_ready ns count k spans b few held o.1 (omega (arith, h)))
over_ready ns count k spans (Lt a b) few held o h = (over_ready ns count k spans a few held o.0 (omega (arith, h)), over_ready ns count k spans b few held o.1 (omega (arith, h)))
over_ready ns count k spans (Inc a c) few held o h = (over_ready ns count k spans a few held o (omega (arith, h)), omega (arith, h))

last_is_short : (spans : List ℕ) (s : ℕ) → AreShort (spans ++ s ∷ []) → s ≤ 1000000
last_is_short [] s h = h.0
last_is_short (r ∷ spans) s h = last_is_short spans s h.1

front_is_short : (spans : List ℕ) (s : ℕ) → AreShort (spans ++ s ∷ []) → AreShort spans
front_is_short [] s h = tt
front_is_short (r ∷ spans) s h = (h.0, front_is_short spans s h.1)

first_are_short : (spans : List ℕ) (es : List Equation) → AreShort (fold (λ spans e. spans ++ span spans e.body ∷ []) spans es) → AreShort spans
first_are_short spans [] h = h
first_are_short spans (e ∷ es) h = front_is_short spans (span spans e.body) (first_are_short (spans ++ span spans e.body ∷ []) es h)

lets_ready : (ns : List Node) (count k : ℕ) (spans : List ℕ) (es : List Equation) → count ≤ 64 → HeldInputs ns count → AreLets count k es
    → AreShort (fold (λ spans e. spans ++ span spans e.body ∷ []) spans es) → AreReadyLets ns k es
lets_ready ns count k spans [] few held o h = tt
lets_ready ns count k spans (e ∷ es) few held o h = (
  over_ready ns count k spans e.body few held o.0 (last_is_short spans (span spans e.body) (first_are_short _ es h)),
  lets_ready ns count (suc k) (spans ++ span spans e.body ∷ []) es few held o.1 h,
)

outputs_ready : (ns : List Node) (count k : ℕ) (spans : List ℕ) (es : List Equation) → count ≤ 64 → HeldInputs ns count → AllByRecursion (λ e. IsOver count k e.body) es
    → AreShort (map (λ e. span spans e.body) es) → AreReadyOutputs ns k es
outputs_ready ns count k spans [] few held o h = tt
outputs_ready ns count k spans (e ∷ es) few held o h = (over_ready ns count k spans e.body few held o.0 h.0, outputs_ready ns count k spans es few held o.1 h.1)

-- a network's lets are ready, once its inputs are held
pub network_lets_ready : (ns : List Node) (n : Net) → IsNetwork n → HeldInputs ns (length n.inputs) → AreReadyLets ns 0 n.lets
network_lets_ready ns n rules held = lets_ready ns (length n.inputs) 0 [] n.lets rules.few_inputs held rules.lets_over rules.short_lets

ready_still : (ns ms : List Node) (k : ℕ) (es : List Equation) → IsPrefix ns ms → AreReadyOutputs ns k es → AreReadyOutputs ms k es
ready_still ns ms k [] p r = tt
ready_still ns ms k (e ∷ es) p r = (ready_more ns ms k e.body p r.0, ready_still ns ms k es p r.1)

-- and so are its outputs, once there are more nodes too
pub network_outputs_ready : (ns ms : List Node) (n : Net) (k : ℕ) → k ≡ length n.lets → IsNetwork n → HeldInputs ns (length n.inputs) → IsPrefix ns ms → AreReadyOutputs ms k n.outputs
network_outputs_ready ns ms n k len rules held p =
    subst (λ m. AreReadyOutputs ms m n.outputs) (sym len)
    (ready_still ns ms (length n.lets) n.outputs p (outputs_ready ns (length n.inputs) (length n.lets) (let_spans n.lets) n.outputs rules.few_inputs held rules.outputs_over rules.short_outputs))

operators_are : (es : List Equation) → all_operators es ≡ sum_by (λ e. joins e.body) es + sum_by (λ e. delays e.body) es
operators_are [] = omega arith
operators_are (e ∷ es) =
    omega (arith, operators_are es, sum_by-cons (λ (x : Equation). joins x.body) e es, sum_by-cons (λ (x : Equation). delays x.body) e es, sum_by-cons (λ (x : Equation). operators x.body) e es)

-- a network has few operators
pub few_operators : (n : Net) → IsNetwork n → all_operators n.lets + all_operators n.outputs ≤ 32768
few_operators n rules =
    omega (
      arith,
      operators_are n.lets,
      operators_are n.outputs,
      rules.few_joins,
      rules.few_delays,
      sum_by-append (λ (e : Equation). joins e.body) n.lets n.outputs,
      sum_by-append (λ (e : Equation). delays e.body) n.lets n.outputs,
    )

-- the room for a whole network is there
pub room_at_first : (s : Contents) (n : Net) → IsNetwork n → length s.nodes ≤ 196608 → 32833 ≤ s.spare → HasRoomBesideNever s (length n.inputs + (all_operators n.lets + all_operators n.outputs))
room_at_first s n rules few spare = record {
  places = omega (arith, rules.few_inputs, few_operators n rules, few, cost_small s.nodes node.Never);
  memory = omega (arith, rules.few_inputs, few_operators n rules, spare, cost_small s.nodes node.Never);
}

-- less room is there too
pub room_less : (s : Contents) (j k : ℕ) → j ≤ k → HasRoomBesideNever s k → HasRoomBesideNever s j
room_less s j k h r = record { places = omega (arith, h, r.places); memory = omega (arith, h, r.memory) }

-- all that a network takes
pub few_added : (a b : Contents) (n : Net) (i j k : ℕ) → IsNetwork n → i ≤ length n.inputs → j ≡ all_operators n.lets → k ≡ all_operators n.outputs → TakesRoomBesideNever a b (i + j + k) → length b.nodes ≤ length a.nodes + 32833
few_added a b n i j k rules hi hj hk t = omega (arith, rules.few_inputs, few_operators n rules, hi, hj, hk, t.places, cost_small a.nodes node.Never)
