-- Where time is level, a module does what its network says.
use Rattle.std.proofs.Common.{◌≡◌, ℕ, zero, suc, ◌+◌, Bool, false, List, [], ◌∷◌, length, get_or, map, refl, ap, ◌∙◌, sym, subst, arith, Some}
use Rattle.std.specs.Prelude.{slice_get}
use Rattle.std.proofs.lemmas.List.{length-map}
use Rattle.rl_time.specs.declared.time.Time.{Time}
use Rattle.rl_time.specs.Time.{has_risen}
use Rattle.term_store.specs.Tree.{Tree, value}
use Rattle.term_store.specs.Subterms.{join_count, register_bits}
use Rattle.circuit.specs.Circuit.{Circuit}
use Rattle.circuit.specs.Circuit as circuit
use Rattle.circuit.specs.Repeats.{HasNoRepeatedGate}
use Rattle.circuit.specs.Valid.{IsValid, IsOrdered}
use Rattle.circuit.specs.Meaning.{State, IsSettled, Follows, IsHistory, HasOneHistory, levels_at, levels_from}
use Rattle.gate_lower.specs.Netlist.{Output, Netlist}
use Rattle.gate_lower.specs.Rules.{output_names}
use Rattle.gate_lower.specs.Timing.{line_time, TimeIsLevel, AreGatesOf}
use Rattle.net_model.specs.Formula.{Net}
use Rattle.term_store.specs.Laws.{HaveItsValues}
use Rattle.func_table.specs.Function.{table_function}
use Rattle.func_table.specs.Rules.{IsTable}
use Rattle.func_table.specs.Sound.{AreSound}
use Rattle.func_table.specs.Table.{Table}
use Rattle.minterm.specs.Minterms.{synthesised}
use Rattle.rl_jobs.specs.declared.source.Source.{Source}
use Rattle.rl_jobs.specs.declared.source.Source.TheVariants.{OfNetwork, OfTable}
use Rattle.rl_jobs.specs.Sources.{IsRuled, IsSound, inputs_of, terms_of, function_of}
use Rattle.rl_jobs.specs.Compiled.{Realises}

-- each state of a history is settled
follows_settled : (m : Circuit) (s : State) (us : List (List Bool)) (ss : List State) → Follows m s us ss → (i : ℕ) (z : State) → slice_get ss i ≡ Some z → IsSettled m z
follows_settled m s [] [] f i z e = absurd (cc)
follows_settled m s [] (y ∷ ss) f i z e = absurd f
follows_settled m s (u ∷ us) [] f i z e = absurd f
follows_settled m s (u ∷ us) (y ∷ ss) f zero z e = let same : y ≡ z = cc in subst (IsSettled m) same f.0.settled
follows_settled m s (u ∷ us) (y ∷ ss) f (suc i) z e = follows_settled m y us ss f.1 i z e

history_settled : (m : Circuit) (us : List (List Bool)) (ss : List State) → IsHistory m us ss → (i : ℕ) (z : State) → slice_get ss i ≡ Some z → IsSettled m z
history_settled m [] [] h i z e = absurd (cc)
history_settled m [] (y ∷ ss) h i z e = absurd h
history_settled m (u ∷ us) [] h i z e = absurd h
history_settled m (u ∷ us) (y ∷ ss) h zero z e = let same : y ≡ z = cc in subst (IsSettled m) same h.0.settled
history_settled m (u ∷ us) (y ∷ ss) h (suc i) z e = follows_settled m y us ss h.1 i z e

-- a history has a state for each cycle
follows_length : (m : Circuit) (s : State) (us : List (List Bool)) (ss : List State) → Follows m s us ss → length ss ≡ length us
follows_length m s [] [] f = refl
follows_length m s [] (y ∷ ss) f = absurd f
follows_length m s (u ∷ us) [] f = absurd f
follows_length m s (u ∷ us) (y ∷ ss) f = ap suc (follows_length m y us ss f.1)

history_length : (m : Circuit) (us : List (List Bool)) (ss : List State) → IsHistory m us ss → length ss ≡ length us
history_length m [] [] h = refl
history_length m [] (y ∷ ss) h = absurd h
history_length m (u ∷ us) [] h = absurd h
history_length m (u ∷ us) (y ∷ ss) h = ap suc (follows_length m y us ss h.1)

length_levels : (x : List Time) (c n : ℕ) → length (levels_from x c n) ≡ n
length_levels x c zero = refl
length_levels x c (suc n) = ap suc (length_levels x (suc c) n)

-- a list that is right at each place
each_place : (f : Output → Time) (t : ℕ) (os : List Bool) (ls : List Output) → length os ≡ length ls → ((o : ℕ) (l : Output) → slice_get ls o ≡ Some l → get_or os o false ≡ has_risen (f l) t) →
    os ≡ levels_at (map f ls) t
each_place f t [] [] e h = refl
each_place f t [] (l ∷ ls) e h = absurd (omega arith)
each_place f t (o ∷ os) [] e h = absurd (omega arith)
each_place f t (o ∷ os) (l ∷ ls) e h =
    ap (λ z. z ∷ os) (h 0 l refl) ∙ ap (λ z. has_risen (f l) t ∷ z) (each_place f t os ls (omega arith) (λ i z y. h (suc i) z y))

each_cycle : (values : List Time) (c n : ℕ) (ss : List State) → length ss ≡ n → ((i : ℕ) (s : State) → slice_get ss i ≡ Some s → s.outs ≡ levels_at values (c + i)) → map (λ s. s.outs) ss ≡ levels_from values c n
each_cycle values c zero [] e h = refl
each_cycle values c (suc n) [] e h = absurd (omega arith)
each_cycle values c zero (s ∷ ss) e h = absurd (omega arith)
each_cycle values c (suc n) (s ∷ ss) e h =
    let first : c + 0 ≡ c = omega arith in
    ap (λ z. z ∷ map (λ (s : State). s.outs) ss) (h 0 s refl ∙ ap (levels_at values) first)
    ∙ ap (λ z. levels_at values c ∷ z) (each_cycle values (suc c) n ss (omega arith) (λ i z y. let next : c + suc i ≡ suc c + i = omega arith in h (suc i) z y ∙ ap (levels_at values) next))

pub realises : (ins outs : List (List ℕ)) (function : List Time → List Time) (trees : List Tree) (g : Netlist) (m : Circuit) → AreGatesOf ins outs trees g →
    ((x : List Time) → length x ≡ length ins → map (value x) trees ≡ function x) → m.inputs ≡ g.inputs → m.outputs ≡ output_names g.outputs → TimeIsLevel g m → IsValid m →
    HasNoRepeatedGate m → length m.wires ≡ join_count trees → circuit.register_bits m ≡ register_bits trees →
    ((m : Circuit) (us : List (List Bool)) → IsOrdered m → HasOneHistory m us) → Realises ins outs function trees m
realises ins outs function trees g m gates values inputs outputs levels valid no_repeated_gate wires bits law = record {
  inputs_are = inputs ∙ gates.inputs_are;
  outputs_are = outputs ∙ gates.outputs_are;
  one_history = λ x cycles. law m (levels_from x 0 cycles) valid.ordered;
  levels = λ x cycles states one_each h.
      let timing = gates.timed x in
      let f : Output → Time = λ o. line_time x timing.0 timing.1 o.line in
      let right : (i : ℕ) (s : State) → slice_get states i ≡ Some s → s.outs ≡ levels_at (map f g.outputs) (0 + i) = λ i s e.
      let settled = history_settled m (levels_from x 0 cycles) states h i s e in
      let count : length s.outs ≡ length g.outputs = settled.outs ∙ (ap length outputs ∙ length-map g.outputs (λ (o : Output). o.name)) in
      let same : 0 + i ≡ i = omega arith in
      each_place f i s.outs g.outputs count (levels x timing.0 timing.1 timing.2 cycles states h i s e).outs ∙ ap (levels_at (map f g.outputs)) (sym same) in
      each_cycle (map f g.outputs) 0 cycles states (history_length m (levels_from x 0 cycles) states h ∙ length_levels x 0 cycles) right
      ∙ (ap (λ z. levels_from z 0 cycles) timing.3 ∙ ap (λ z. levels_from z 0 cycles) (values x one_each));
  no_repeated_gate = no_repeated_gate;
  wires = wires;
  bits = bits;
}

-- the terms of a source have its values
pub source_values : ((n : Net) → HaveItsValues n) → ((t : Table) (x : List Time) → IsTable t → AreSound t.rows → length x ≡ length t.inputs → value x (synthesised t) ≡ table_function t.rows x) →
    (s : Source) → IsRuled s → IsSound s → (x : List Time) → length x ≡ length (inputs_of s) → map (value x) (terms_of s) ≡ function_of s x
source_values nets tables (OfNetwork n) ruled sound x one_each = nets n x
source_values nets tables (OfTable t) ruled sound x one_each = ap (λ (a : Time). a ∷ []) (tables t x ruled sound one_each)
