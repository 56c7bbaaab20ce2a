-- What the operations of expressions and assigns compute.
use Rattle.std.proofs.Common.{◌≡◌, ℕ, suc, ◌+◌, ◌/◌, ◌<◌, Bool, false, not, ◌&&◌, ◌||◌, List, [], ◌∷◌, ◌++◌, length, get_or, set, refl, ap, ◌∙◌, sym, subst, inl, inr, arith, Some, All, add-one, get_or-set_same, get_or-set_other}
use Rattle.std.specs.Prelude.{slice_get}
use Rattle.std.proofs.lemmas.List.{length-set, append_assoc}
use Rattle.std.proofs.lemmas.Option.{slice_get_within, get_or_from_slice_get}
use Rattle.std.proofs.lemmas.Bool.{cases_eq}
use Rattle.circuit.specs.declared.bit.Target.{Target}
use Rattle.circuit.specs.declared.bit.Target.TheVariants as target
use Rattle.circuit.specs.Circuit as l
use Rattle.circuit.specs.Circuit.{Logic, Assignment, Circuit}
use Rattle.circuit.specs.Valid.{IsTarget, IsInRange}
use Rattle.circuit.specs.Meaning.{State, level, put, activate, activate_one, activate_all, upto}
use Rattle.circuit.proofs.Settling.{all_keep}
use Rattle.cycle_sim.specs.declared.operation.Places.{Places}
use Rattle.cycle_sim.specs.declared.operation.Formula.{Formula}
use Rattle.cycle_sim.specs.declared.operation.Operation.{Operation}
use Rattle.cycle_sim.specs.Operations.{at, literal_level, formula_level, all_done, wire_place, out_place, free_place, target_place, ArePlaces, IsPlaced, Fits, Plan, with_operation, IsWithin, IsSound, AreLaid, Represents, Computes, Activates, IsPlanOfFirst}
use Rattle.cycle_sim.proofs.Operated.{done_append, done_length, done_keeps, literal_same, alone_level, only_factor_level, product_level, sum_level}
use Rattle.cycle_sim.proofs.Planned.{of_left, of_right, still, reads, both}
use Rattle.cycle_sim.proofs.Passes.{one_more_from}

abbrev pub alone : ℕ → Formula
alone n = record { first = n; second = 0; third = 0 }

abbrev pub only_factor : ℕ → Formula
only_factor n = record { first = 0; second = 1; third = n }

pub alone_within : (room n : ℕ) (f : Formula) → f ≡ alone n → 0 < room → n / 2 < room → IsWithin room f
alone_within room n f e some lt = subst (λ z. IsWithin room z) (sym e) (record { first = lt; second = omega (arith, some); third = omega (arith, some) })

pub only_factor_within : (room n : ℕ) (f : Formula) → f ≡ only_factor n → 0 < room → n / 2 < room → IsWithin room f
only_factor_within room n f e some lt = subst (λ z. IsWithin room z) (sym e) (record { first = omega (arith, some); second = omega (arith, some); third = lt })

-- a formula of one literal
pub alone_computes : (p q : Plan) (f : Formula) (n : ℕ) (e : Logic) → f ≡ alone n → Computes p q (λ values. literal_level values n) e → Computes p q (λ values. formula_level values f) e
alone_computes p q f n e is c = subst (λ z. Computes p q (λ values. formula_level values z) e) (sym is)
    (reads p q (λ values. literal_level values n) (λ values. formula_level values (alone n)) e (λ values low. alone_level values (alone n) n refl refl refl low) c)

pub only_factor_computes : (p q : Plan) (f : Formula) (n : ℕ) (e : Logic) → f ≡ only_factor n → Computes p q (λ values. literal_level values n) e →
    Computes p q (λ values. formula_level values f) e
only_factor_computes p q f n e is c = subst (λ z. Computes p q (λ values. formula_level values z) e) (sym is)
    (reads p q (λ values. literal_level values n) (λ values. formula_level values (only_factor n)) e (λ values low. only_factor_level values (only_factor n) n refl refl refl low) c)

pub not_computes : (p q : Plan) (n k : ℕ) (e : Logic) → ((values : List Bool) → literal_level values k ≡ not (literal_level values n)) →
    Computes p q (λ values. literal_level values n) e → Computes p q (λ values. literal_level values k) (l.Not e)
not_computes p q n k e other c = record {
  before = c.before;
  after = c.after;
  grows = c.grows;
  level = λ s values rep. other (all_done values c.grows.added) ∙ ap (λ z. not z) (c.level s values rep);
}

below : (n room : ℕ) → n / 2 < room → (u v : List Bool) → ((k : ℕ) → k < room → at u k ≡ at v k) → literal_level u n ≡ literal_level v n
below n room lt u v same = literal_same u v n (same (n / 2) lt)

-- a product of two literals
pub and_computes : (p q r : Plan) (a b : ℕ) (x y : Logic) → a / 2 < q.room → Computes p q (λ values. literal_level values a) x →
    Computes q r (λ values. literal_level values b) y →
    Computes p r (λ values. formula_level values (record { first = 0; second = a; third = b })) (l.And x y)
and_computes p q r a b x y lt c d =
    let f : Formula = record { first = 0; second = a; third = b } in
    reads p r (λ values. literal_level values a && literal_level values b) (λ values. formula_level values f) (l.And x y)
    (λ values low. product_level values f refl low)
    (both (λ u v. u && v) p q r (l.And x y) x y (λ values. literal_level values a) (λ values. literal_level values b) (below a q.room lt) (λ s. refl) c d)

-- a literal or another one
pub or_computes : (p q r : Plan) (a b : ℕ) (x y : Logic) → a / 2 < q.room → Computes p q (λ values. literal_level values a) x →
    Computes q r (λ values. literal_level values b) y →
    Computes p r (λ values. formula_level values (record { first = a; second = 1; third = b })) (l.Or x y)
or_computes p q r a b x y lt c d =
    let f : Formula = record { first = a; second = 1; third = b } in
    reads p r (λ values. literal_level values a || literal_level values b) (λ values. formula_level values f) (l.Or x y)
    (λ values low. sum_level values f refl low)
    (both (λ u v. u || v) p q r (l.Or x y) x y (λ values. literal_level values a) (λ values. literal_level values b) (below a q.room lt) (λ s. refl) c d)

-- a literal or a product
pub join_computes : (p q r : Plan) (a : ℕ) (g : Formula) (x y : Logic) → g.first ≡ 0 → a / 2 < q.room → Computes p q (λ values. literal_level values a) x →
    Computes q r (λ values. formula_level values g) y →
    Computes p r (λ values. formula_level values (record { first = a; second = g.second; third = g.third })) (l.Or x y)
join_computes p q r a g x y none lt c d =
    let f : Formula = record { first = a; second = g.second; third = g.third } in
    reads p r (λ values. literal_level values a || formula_level values g) (λ values. formula_level values f) (l.Or x y)
    (λ values low. ap (λ z. literal_level values a || z) (sym (product_level values g none low)))
    (both (λ u v. u || v) p q r (l.Or x y) x y (λ values. literal_level values a) (λ values. formula_level values g) (below a q.room lt) (λ s. refl) c d)

pub fits : (m : Circuit) (places : Places) (e : Logic) → ArePlaces m places → IsInRange m e → Fits places e
fits m places l.Zero h r = tt
fits m places l.One h r = tt
fits m places (l.Input i) h r = omega (arith, r, h.inputs)
fits m places (l.Wire w) h r = omega (arith, r, h.wires)
fits m places (l.Reg r k) h x = tt
fits m places (l.Not x) h r = fits m places x h r
fits m places (l.And x y) h r = (fits m places x h r.0, fits m places y h r.1)
fits m places (l.Or x y) h r = (fits m places x h r.0, fits m places y h r.1)

pub placed : (m : Circuit) (places : Places) (t : Target) → ArePlaces m places → IsTarget m t → IsPlaced places t
placed m places (target.Wire w) h lt = omega (arith, lt, h.wires)
placed m places (target.Out o) h lt = omega (arith, lt, h.outs)

-- where a level is written to a place of the state, and read
set_both : (values row : List Bool) (from i j : ℕ) (b : Bool) → from + i < length values → i < length row → at values (from + j) ≡ get_or row j false →
    at (set values (from + i) b) (from + j) ≡ get_or (set row i b) j false
set_both values row from i j b lt lt' same = elim (cases_eq j i) [
  | inl e ↦
      subst (λ k. at (set values (from + i) b) (from + k) ≡ get_or (set row i b) k false) (sym e)
      (get_or-set_same values (from + i) b false lt ∙ sym (get_or-set_same row i b false lt'))
  | inr ne ↦
      get_or-set_other values (from + i) (from + j) b false (λ e. ne (omega (arith, e)))
      ∙ (same ∙ sym (get_or-set_other row i j b false ne))
]

-- a level is put at a wire or an output, and written to its place
pub put_there : (p : Plan) (s : State) (values : List Bool) (t : Target) (b : Bool) → IsSound p → IsPlaced p.places t → Represents p s values →
    Represents p (put s t b) (set values (target_place p.places t) b)
put_there p s values (target.Wire w) b h lt r =
    let to = wire_place p.places w in
    let n = h.places in
    let m = r.room in
    let other : (q : ℕ) → (q ≡ to → ⊥) → at (set values to b) q ≡ at values q = λ q ne. get_or-set_other values to q b false ne in
    record {
      room = let k = length-set values to b in omega (arith, k, m);
      laid = record {
        wire_count = length-set s.wires w b ∙ r.laid.wire_count;
        out_count = r.laid.out_count;
        low = other 0 (λ e. absurd (omega (arith, e))) ∙ r.laid.low;
        inputs = λ i l. other (1 + i) (λ e. absurd (omega (arith, e, l))) ∙ r.laid.inputs i l;
        wires = λ v l. set_both values s.wires (1 + p.places.inputs) w v b (omega (arith, lt, n, m)) (omega (arith, lt, r.laid.wire_count)) (r.laid.wires v l);
        outs = λ o l. other (out_place p.places o) (λ e. absurd (omega (arith, e, lt))) ∙ r.laid.outs o l;
      };
      tapped = λ j t there. let k = (h.taps j t there).0 in other t.to (λ e. absurd (omega (arith, e, lt, k))) ∙ r.tapped j t there;
    }
put_there p s values (target.Out o) b h lt r =
    let to = out_place p.places o in
    let n = h.places in
    let m = r.room in
    let other : (q : ℕ) → (q ≡ to → ⊥) → at (set values to b) q ≡ at values q = λ q ne. get_or-set_other values to q b false ne in
    record {
      room = let k = length-set values to b in omega (arith, k, m);
      laid = record {
        wire_count = r.laid.wire_count;
        out_count = length-set s.outs o b ∙ r.laid.out_count;
        low = other 0 (λ e. absurd (omega (arith, e))) ∙ r.laid.low;
        inputs = λ i l. other (1 + i) (λ e. absurd (omega (arith, e, l))) ∙ r.laid.inputs i l;
        wires = λ w l. other (wire_place p.places w) (λ e. absurd (omega (arith, e, l))) ∙ r.laid.wires w l;
        outs = λ v l. set_both values s.outs (1 + p.places.inputs + p.places.wires) o v b (omega (arith, lt, n, m)) (omega (arith, lt, r.laid.out_count)) (r.laid.outs v l);
      };
      tapped = λ j t there. let k = (h.taps j t there).0 in other t.to (λ e. absurd (omega (arith, e, lt, k))) ∙ r.tapped j t there;
    }

activates_there : (p q : Plan) (a : Assignment) (f : Formula) → (let r = with_operation q (target_place q.places a.target) f in IsSound r →
    IsPlaced q.places a.target → Computes p q (λ values. formula_level values f) a.bit → Activates p r a)
activates_there p q a f h lt c =
    let to = target_place q.places a.target in
    let o : Operation = record { to = to; formula = f } in
    let r = with_operation q to f in
    let g = c.grows in
    record {
      after = h;
      added = g.added ++ o ∷ [];
      operations = ap (λ z. z ++ o ∷ []) g.operations ∙ append_assoc p.operations g.added (o ∷ []);
      places = g.places;
      room = g.room;
      taps = g.taps;
      run = λ s values rep.
          let v = all_done values g.added in
          let here : Represents r s v = still r s values g.added h
          (λ i x there. let n = g.new i x there in let k = c.before.places in let e : free_place q.places ≡ free_place p.places = ap free_place g.places in omega (arith, n, k, e))
          (λ i x there.
          let y = of_right p.operations g.added i x there in
          (y.0, of_left q.operations (o ∷ []) y.0 x (ap (λ z. slice_get z y.0) g.operations ∙ y.1)))
          rep in
          let same : formula_level v f ≡ level s a.bit = c.level s values (record { room = rep.room; laid = rep.laid; tapped = rep.tapped }) in
          subst (λ z. Represents r (put s a.target (level s a.bit)) z) (sym (done_append values g.added (o ∷ [])))
          (subst (λ b. Represents r (put s a.target (level s a.bit)) (set v to b)) (sym same) (put_there r s v a.target (level s a.bit) h lt here));
    }

-- an assign's operations, and one that writes to the target's place
pub activates : (p q r : Plan) (a : Assignment) (f : Formula) (to : ℕ) → to ≡ target_place q.places a.target → r ≡ with_operation q to f → IsSound r →
    IsPlaced p.places a.target → Computes p q (λ values. formula_level values f) a.bit → Activates p r a
activates p q r a f to there is h lt c =
    let e : r ≡ with_operation q (target_place q.places a.target) f = is ∙ ap (λ n. with_operation q n f) there in
    subst (λ z. Activates p z a) (sym e)
    (activates_there p q a f (subst (λ z. IsSound z) e h) (subst (λ z. IsPlaced z a.target) (sym c.grows.places) lt) c)

pub in_range_at : (m : Circuit) (k : ℕ) (a : Assignment) → All (λ (a : Assignment). IsInRange m a.bit) m.assigns → slice_get m.assigns k ≡ Some a → IsInRange m a.bit
in_range_at m k a all there =
    subst (λ (z : Assignment). IsInRange m z.bit) (get_or_from_slice_get m.assigns k a a there) (all k a (slice_get_within m.assigns k a there))

pub first_more : (m : Circuit) (p p' : Plan) (k : ℕ) (a : Assignment) → slice_get m.assigns k ≡ Some a → IsPlanOfFirst m k p → Activates p p' a →
    IsPlanOfFirst m (k + 1) p'
first_more m p p' k a there h act = rw add-one (record {
  places = subst (λ z. ArePlaces m z) (sym act.places) h.places;
  run = λ s values rep.
      let v = all_done values p.operations in
      let u = activate_all m s (upto 0 k) in
      let before : Represents p u v = h.run s values (record {
        room = let x = act.room in let y = rep.room in omega (arith, x, y);
        laid = subst (λ z. AreLaid z s values) act.places rep.laid;
        tapped = λ j t here. rep.tapped j t (act.taps j t here);
      }) in
      let regs : s.regs ≡ u.regs = (all_keep m s (upto 0 k)).regs in
      let now : Represents p' u v = record {
        room = let x = done_length values p.operations in let y = rep.room in omega (arith, x, y);
        laid = subst (λ z. AreLaid z u v) (sym act.places) before.laid;
        tapped = λ j t here.
            done_keeps values p.operations t.to (λ i o at_i e.
            let x = of_left p.operations act.added i o at_i in
            act.after.apart i j o t (ap (λ z. slice_get z i) act.operations ∙ x) here e)
            ∙ (rep.tapped j t here ∙ ap (λ z. get_or (get_or z t.reg []) t.bit false) regs);
      } in
      let next = act.run u v now in
      let state : activate_all m s (upto 0 (suc k)) ≡ put u a.target (level u a.bit) =
      let here : 0 + k ≡ k = omega arith in
      one_more_from m s 0 k ∙ (ap (λ n. activate m u n) here ∙ ap (λ o. activate_one u o) there) in
      let values_are : all_done values p'.operations ≡ all_done v act.added = ap (λ z. all_done values z) act.operations ∙ done_append values p.operations act.added in
      subst (λ z. Represents p' z (all_done values p'.operations)) (sym state) (subst (λ z. Represents p' (put u a.target (level u a.bit)) z) (sym values_are) next);
})
