-- What a simulation shows of a module whose outputs have the levels of their values.
use Rattle.std.proofs.Common.{◌≡◌, ℕ, zero, suc, ◌+◌, ◌<◌, ◌≤◌, refl, ap, ◌∙◌, sym, subst, arith, Bool, true, false, ◌&&◌, length, List, [], ◌∷◌, map, take, if◌then◌else◌, add-one}
use Rattle.std.specs.Prelude.{slice_index_or}
use Rattle.std.specs.List.{count_by}
use Rattle.std.proofs.Math.Bool.{beq}
use Rattle.std.proofs.lemmas.List.{length-map}
use Rattle.std.proofs.lemmas.List.Sums.{count_by_more_yes, count_by_more_no}
use Rattle.rl_time.specs.declared.time.Time.{Time}
use Rattle.rl_time.specs.declared.time.Time.TheVariants.{Never}
use Rattle.rl_time.specs.Time.{has_risen}
use Rattle.net_model.specs.Formula.{Equation, Net}
use Rattle.net_model.specs.Value.{time_at, value, let_values, space_time_function}
use Rattle.term_store.specs.Subterms.{join_count, register_bits}
use Rattle.term_store.specs.Terms.{network_trees}
use Rattle.circuit.specs.Circuit.{Circuit}
use Rattle.circuit.specs.Circuit as circuit
use Rattle.circuit.specs.Meaning.{State, IsHistory, levels_at, levels_from}
use Rattle.rl_jobs.specs.declared.source.Source.TheVariants.{OfNetwork}
use Rattle.rl_jobs.specs.Compiled.{RealisesSource}
use Rattle.rl_flow.specs.declared.counts.Counts.{Counts}
use Rattle.rl_flow.specs.Counted.{counts_of}
use Rattle.rl_flow.specs.Compared.{count_below, has_levels, agrees, is_high}
use Rattle.rl_flow.proofs.Histories.{count_same}

-- ---- levels

pub level_of : (values : List Time) (out cycle : ℕ) → slice_index_or (levels_at values cycle) out false ≡ has_risen (time_at values out) cycle
level_of [] out cycle = refl
level_of (v ∷ values) zero cycle = refl
level_of (v ∷ values) (suc out) cycle = level_of values out cycle

same_level : (b : Bool) → beq b b ≡ true
same_level true = refl
same_level false = refl

right_from : (values : List Time) (cycle n : ℕ) (states : List State) (out : ℕ) → map (λ s. s.outs) states ≡ levels_from values cycle n → has_levels cycle states (time_at values out) out ≡ true
right_from values cycle n [] out e = refl
right_from values cycle zero (s ∷ states) out e = absurd (cc)
right_from values cycle (suc n) (s ∷ states) out e =
    let first : s.outs ≡ levels_at values cycle = cc in
    let rest : map (λ (s : State). s.outs) states ≡ levels_from values (suc cycle) n = cc in
    let here : slice_index_or s.outs out false ≡ has_risen (time_at values out) cycle = ap (λ z. slice_index_or z out false) first ∙ level_of values out cycle in
    ap (λ z. beq z (has_risen (time_at values out) cycle) && has_levels (suc cycle) states (time_at values out) out) here
    ∙ ap (λ z. z && has_levels (suc cycle) states (time_at values out) out) (same_level (has_risen (time_at values out) cycle))
    ∙ right_from values (suc cycle) n states out rest

last_right : (values : List Time) (cycle n : ℕ) (states : List State) (out : ℕ) → map (λ s. s.outs) states ≡ levels_from values cycle (suc n) → is_high states out ≡ has_risen (time_at values out) (cycle + n)
last_right values cycle n [] out e = absurd (cc)
last_right values cycle zero (s ∷ []) out e =
    let first : s.outs ≡ levels_at values cycle = cc in
    let here : cycle ≡ cycle + 0 = omega arith in
    ap (λ z. slice_index_or z out false) first ∙ level_of values out cycle ∙ ap (has_risen (time_at values out)) here
last_right values cycle (suc n) (s ∷ []) out e = absurd (cc)
last_right values cycle zero (s ∷ s' ∷ states) out e = absurd (cc)
last_right values cycle (suc n) (s ∷ s' ∷ states) out e =
    let rest : map (λ (s : State). s.outs) (s' ∷ states) ≡ levels_from values (suc cycle) (suc n) = cc in
    let here : suc cycle + n ≡ cycle + suc n = omega arith in
    last_right values (suc cycle) n (s' ∷ states) out rest ∙ ap (has_risen (time_at values out)) here

-- ---- counts

count_all : (p : ℕ → Bool) (n : ℕ) → ((k : ℕ) → k < n → p k ≡ true) → count_below p n ≡ n
count_all p zero h = refl
count_all p (suc n) h =
    ap (λ (b : Bool). if b then count_below p n + 1 else count_below p n) (h n (omega arith)) ∙ omega (arith, count_all p n (λ k lt. h k (omega arith)))

count_up : (p : Time → Bool) (values : List Time) (k : ℕ) → k ≤ length values → count_below (λ o. p (time_at values o)) k ≡ count_by p (take k values)
count_up p values zero le = refl
count_up p values (suc k) le = go (p (time_at values k)) refl (count_up p values k (omega arith))
  where
    go : (b : Bool) → p (time_at values k) ≡ b → count_below (λ o. p (time_at values o)) k ≡ count_by p (take k values) → count_below (λ o. p (time_at values o)) (suc k) ≡ count_by p (take (suc k) values)
    go true e rest =
        ap (λ (b : Bool). if b then count_below (λ o. p (time_at values o)) k + 1 else count_below (λ o. p (time_at values o)) k) e
        ∙ ap (λ z. z + 1) rest ∙ sym (count_by_more_yes p values k Never (omega arith) e) ∙ ap (λ z. count_by p (take z values)) (add-one k)
    go false e rest =
        ap (λ (b : Bool). if b then count_below (λ o. p (time_at values o)) k + 1 else count_below (λ o. p (time_at values o)) k) e
        ∙ rest ∙ sym (count_by_more_no p values k Never (omega arith) e) ∙ ap (λ z. count_by p (take z values)) (add-one k)

take_all : (values : List Time) → take (length values) values ≡ values
take_all [] = refl
take_all (v ∷ values) = ap (λ z. v ∷ z) (take_all values)

-- all outputs agree, and those are high in the end whose values are no later
pub all_agree : (values : List Time) (cycles outputs : ℕ) (states : List State) → map (λ s. s.outs) states ≡ levels_from values 0 cycles → count_below (agrees states values) outputs ≡ outputs
all_agree values cycles outputs states e = count_all (agrees states values) outputs (λ k lt. right_from values 0 cycles states k e)

pub those_risen : (values : List Time) (last outputs : ℕ) (states : List State) → outputs ≡ length values → map (λ s. s.outs) states ≡ levels_from values 0 (suc last) →
    count_below (is_high states) outputs ≡ count_by (λ t. has_risen t last) values
those_risen values last outputs states one_each e =
    let here : 0 + last ≡ last = omega arith in
    count_same (is_high states) (λ o. has_risen (time_at values o) last) outputs (λ k lt. last_right values 0 last states k e ∙ ap (has_risen (time_at values k)) here)
    ∙ ap (count_below (λ o. has_risen (time_at values o) last)) one_each
    ∙ count_up (λ t. has_risen t last) values (length values) (omega arith)
    ∙ ap (count_by (λ t. has_risen t last)) (take_all values)

-- ---- all counts

abbrev made : ℕ → ℕ → ℕ → ℕ → ℕ → ℕ → Counts
made operators gates bits outputs risen agree = record { operators = operators; gates = gates; bits = bits; outputs = outputs; risen = risen; agree = agree }

-- what a module that does what its network says shows in so many cycles, at the network's values
pub counts_right : (n last gates bits outputs risen agree : ℕ) (net : Net) (x values x' values' : List Time) (m : Circuit) → last ≡ 63 → RealisesSource (OfNetwork net) m → length x ≡ length net.inputs →
    values ≡ space_time_function net x → x' ≡ x → values' ≡ values → gates ≡ length m.wires → bits ≡ circuit.register_bits m → outputs ≡ length m.outputs →
    ((states : List State) × IsHistory m (levels_from x' 0 (suc last)) states × (risen ≡ count_below (is_high states) (length m.outputs)) × (agree ≡ count_below (agrees states values') (length m.outputs))) →
    made n gates bits outputs risen agree ≡ counts_of n net x
counts_right n last gates bits outputs risen agree net x values x' values' m is_last right one_each values_are same_x same_values gates_are bits_are outputs_are shown =
    let states = shown.0 in
    let f = space_time_function net x in
    let history : IsHistory m (levels_from x 0 (suc last)) states = subst (λ (z : List Time). IsHistory m (levels_from z 0 (suc last)) states) same_x shown.1 in
    let outs : map (λ (s : State). s.outs) states ≡ levels_from f 0 (suc last) = right.levels x (suc last) states one_each history in
    let count : length m.outputs ≡ length net.outputs = ap length right.outputs_are ∙ length-map net.outputs (λ (e : Equation). e.name) in
    let one_value : length m.outputs ≡ length f = count ∙ sym (length-map net.outputs (λ (e : Equation). value x (let_values x net.lets) e.body)) in
    let g : gates ≡ join_count (network_trees net) = gates_are ∙ right.wires in
    let b : bits ≡ register_bits (network_trees net) = bits_are ∙ right.bits in
    let o : outputs ≡ length net.outputs = outputs_are ∙ count in
    let r : risen ≡ count_by (λ t. has_risen t 63) f = shown.2 ∙ those_risen f last (length m.outputs) states one_value outs ∙ ap (λ z. count_by (λ t. has_risen t z) f) is_last in
    let a : agree ≡ length net.outputs =
    shown.3 ∙ ap (λ (z : List Time). count_below (agrees states z) (length m.outputs)) (same_values ∙ values_are) ∙ all_agree f (suc last) (length m.outputs) states outs ∙ count in
    λ i. made n (g i) (b i) (o i) (r i) (a i)
