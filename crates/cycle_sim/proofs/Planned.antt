-- Plans that grow, and what their operations compute.
use Rattle.std.proofs.Common.{◌≡◌, ◌≢◌, ℕ, zero, suc, ◌+◌, ◌^◌, ◌<◌, ◌≤◌, Bool, false, List, [], ◌∷◌, ◌++◌, length, refl, ap, ◌∙◌, sym, subst, inl, inr, arith, Some}
use Rattle.std.specs.Prelude.{slice_get, ◌⊎◌}
use Rattle.std.proofs.lemmas.List.{append-nil, append_assoc}
use Rattle.circuit.specs.Circuit as l
use Rattle.circuit.specs.Circuit.{Logic, Assignment, Circuit}
use Rattle.circuit.specs.Meaning.{State, level}
use Rattle.cycle_sim.specs.declared.operation.Places.{Places}
use Rattle.cycle_sim.specs.declared.operation.Formula.{Formula}
use Rattle.cycle_sim.specs.declared.operation.Operation.{Operation}
use Rattle.cycle_sim.specs.declared.operation.Tap.{Tap}
use Rattle.cycle_sim.specs.Operations.{at, formula_level, all_done, wire_place, out_place, free_place, Plan, plan, with_tap, with_operation, IsWithin, IsSound, AreLaid, Represents, Grows, Computes}
use Rattle.cycle_sim.proofs.Operated.{done_append, done_length, done_keeps, done_last}

-- an item of two lists joined is of one of them
pub of_either : {X : Type 0} (xs ys : List X) (i : ℕ) (x : X) → slice_get (xs ++ ys) i ≡ Some x → ((j : ℕ) × (slice_get xs j ≡ Some x)) ⊎ ((j : ℕ) × (slice_get ys j ≡ Some x))
of_either [] ys i x h = inr (i, h)
of_either (y ∷ xs) ys zero x h = inl (zero, h)
of_either (y ∷ xs) ys (suc i) x h = elim (of_either xs ys i x h) [ inl g ↦ inl (suc g.0, g.1) | inr g ↦ inr g ]

pub of_left : {X : Type 0} (xs ys : List X) (i : ℕ) (x : X) → slice_get xs i ≡ Some x → slice_get (xs ++ ys) i ≡ Some x
of_left [] ys i x h = absurd (cc)
of_left (y ∷ xs) ys zero x h = h
of_left (y ∷ xs) ys (suc i) x h = of_left xs ys i x h

pub of_right : {X : Type 0} (xs ys : List X) (i : ℕ) (x : X) → slice_get ys i ≡ Some x → (j : ℕ) × (slice_get (xs ++ ys) j ≡ Some x)
of_right [] ys i x h = (i, h)
of_right (y ∷ xs) ys i x h = let g = of_right xs ys i x h in (suc g.0, g.1)

-- an item of a list that is one longer is the last one, at its place, or an earlier one
pub of_more : {X : Type 0} (xs : List X) (y : X) (i : ℕ) (x : X) → slice_get (xs ++ y ∷ []) i ≡ Some x → (slice_get xs i ≡ Some x) ⊎ ((i ≡ length xs) × (x ≡ y))
of_more [] y zero x h = inr (refl, (let e : Some y ≡ Some x = h in cc))
of_more [] y (suc i) x h = absurd (cc)
of_more (z ∷ xs) y zero x h = inl h
of_more (z ∷ xs) y (suc i) x h = elim (of_more xs y i x h) [ inl g ↦ inl g | inr g ↦ inr (ap suc g.0, g.1) ]

-- each item of the first list is in the second
abbrev pub Part : {X : Type 0} → List X → List X → Type 0
Part xs ys = (i : ℕ) (x : _) → slice_get xs i ≡ Some x → (j : ℕ) × (slice_get ys j ≡ Some x)

within_more : (room more : ℕ) (f : Formula) → room ≤ more → IsWithin room f → IsWithin more f
within_more room more f le h =
    let a = h.first in
    let b = h.second in
    let c = h.third in
    record { first = omega arith; second = omega arith; third = omega arith }

-- more places
pub sound_roomier : (p : Plan) (room : ℕ) → IsSound p → p.room ≤ room → room ≤ 2 ^ 31 → IsSound (record p { room = room })
sound_roomier p room h le few = record {
  few = few;
  places = let a = h.places in omega arith;
  operations = λ i o there. let g = h.operations i o there in let a = g.0 in (omega arith, within_more p.room room o.formula le g.1);
  taps = λ j t there. let g = h.taps j t there in let a = g.1 in (g.0, omega arith);
  apart = h.apart;
  own = h.own;
}

pub sound_tapped : (p : Plan) (reg bit : ℕ) → IsSound p → p.room + 1 ≤ 2 ^ 31 → IsSound (with_tap p reg bit)
sound_tapped p reg bit h few =
    let t : Tap = record { to = p.room; reg = reg; bit = bit } in
    let wide = sound_roomier p (p.room + 1) h (omega arith) few in
    record {
      few = few;
      places = wide.places;
      operations = wide.operations;
      taps = λ j u there. elim (of_more p.taps t j u there) [
        | inl g ↦ wide.taps j u g
        | inr g ↦
            let e : u.to ≡ p.room = ap (λ (z : Tap). z.to) g.1 in
            let a = h.places in
            (omega arith, omega arith)
      ];
      apart = λ i j o u here there e. elim (of_more p.taps t j u there) [
        | inl g ↦ h.apart i j o u here g e
        | inr g ↦
            let f : u.to ≡ p.room = ap (λ (z : Tap). z.to) g.1 in
            let a = (h.operations i o here).0 in
            absurd (omega (arith, e, f, a))
      ];
      own = λ i j u w hu hw e. elim (of_more p.taps t i u hu) [
        | inl g ↦ elim (of_more p.taps t j w hw) [
          | inl k ↦ h.own i j u w g k e
          | inr k ↦ let f : w.to ≡ p.room = ap (λ (z : Tap). z.to) k.1 in let a = (h.taps i u g).1 in absurd (omega (arith, e, f, a))
        ]
        | inr g ↦ elim (of_more p.taps t j w hw) [
          | inl k ↦ let f : u.to ≡ p.room = ap (λ (z : Tap). z.to) g.1 in let a = (h.taps j w k).1 in absurd (omega (arith, e, f, a))
          | inr k ↦ g.0 ∙ sym k.0
        ]
      ];
    }

pub sound_operated : (p : Plan) (to : ℕ) (f : Formula) → IsSound p → to < p.room → IsWithin p.room f → ((j : ℕ) (t : Tap) → slice_get p.taps j ≡ Some t → to ≢ t.to) →
    IsSound (with_operation p to f)
sound_operated p to f h lt within ne =
    let q : Operation = record { to = to; formula = f } in
    record {
      few = h.few;
      places = h.places;
      operations = λ i o there. elim (of_more p.operations q i o there) [
        | inl g ↦ h.operations i o g
        | inr g ↦ subst (λ (z : Operation). (z.to < p.room) × IsWithin p.room z.formula) (sym g.1) (lt, within)
      ];
      taps = h.taps;
      apart = λ i j o t here there. elim (of_more p.operations q i o here) [
        | inl g ↦ h.apart i j o t g there
        | inr g ↦ subst (λ (z : Operation). z.to ≢ t.to) (sym g.1) (ne j t there)
      ];
      own = h.own;
    }

-- a tap at the place of one level more
pub sound_tap : (places : Places) (os : List Operation) (taps taps' : List Tap) (values values' : List Bool) (to reg bit : ℕ) → IsSound (plan places os taps values) →
    to ≡ length values → taps' ≡ taps ++ record { to = to; reg = reg; bit = bit } ∷ [] → length values' ≡ length values + 1 → length values' ≤ 2 ^ 31 →
    IsSound (plan places os taps' values')
sound_tap places os taps taps' values values' to reg bit h at_end is long few =
    let all = sound_tapped (plan places os taps values) reg bit h (omega (arith, long, few)) in
    let same : taps' ≡ taps ++ record { to = length values; reg = reg; bit = bit } ∷ [] = is ∙ ap (λ n. taps ++ record { to = n; reg = reg; bit = bit } ∷ []) at_end in
    subst (λ n. IsSound (record { places = places; operations = os; taps = taps'; room = n })) (sym long)
    (subst (λ z. IsSound (record { places = places; operations = os; taps = z; room = length values + 1 })) (sym same) all)

-- an operation more, under a plan as it is seen
pub sound_operation : (places : Places) (os os' : List Operation) (taps : List Tap) (values : List Bool) (p : Plan) (to : ℕ) (f : Formula) → plan places os taps values ≡ p →
    IsSound (plan places os taps values) → to < p.room → IsWithin p.room f → ((j : ℕ) (t : Tap) → slice_get p.taps j ≡ Some t → to ≢ t.to) →
    os' ≡ os ++ record { to = to; formula = f } ∷ [] → IsSound (plan places os' taps values)
sound_operation places os os' taps values p to f view h lt within ne is =
    let q = plan places os taps values in
    let lt' : to < q.room = subst (λ (z : Plan). to < z.room) (sym view) lt in
    let within' : IsWithin q.room f = subst (λ (z : Plan). IsWithin z.room f) (sym view) within in
    let ne' : (j : ℕ) (t : Tap) → slice_get q.taps j ≡ Some t → to ≢ t.to =
    subst (λ (z : Plan). (j : ℕ) (t : Tap) → slice_get z.taps j ≡ Some t → to ≢ t.to) (sym view) ne in
    subst (λ z. IsSound (record { places = places; operations = z; taps = taps; room = length values })) (sym is) (sound_operated q to f h lt' within' ne')

-- values of the plan's levels, after some of its operations that leave the places of inputs, wires and outputs
pub still : (p : Plan) (s : State) (values : List Bool) (os : List Operation) → IsSound p → ((i : ℕ) (o : Operation) → slice_get os i ≡ Some o → free_place p.places ≤ o.to) →
    Part os p.operations → Represents p s values → Represents p s (all_done values os)
still p s values os h new part r =
    let keeps : (q : ℕ) → q < free_place p.places → at (all_done values os) q ≡ at values q =
    λ q lt. done_keeps values os q (λ i o there e. let a = new i o there in absurd (omega (arith, a, e, lt))) in
    record {
      room = let n = done_length values os in let m = r.room in omega arith;
      laid = record {
        wire_count = r.laid.wire_count;
        out_count = r.laid.out_count;
        low = keeps 0 (omega arith) ∙ r.laid.low;
        inputs = λ i lt. keeps (1 + i) (omega arith) ∙ r.laid.inputs i lt;
        wires = λ w lt. keeps (wire_place p.places w) (omega arith) ∙ r.laid.wires w lt;
        outs = λ o lt. keeps (out_place p.places o) (omega arith) ∙ r.laid.outs o lt;
      };
      tapped = λ j t there. done_keeps values os t.to (λ i o here. let g = part i o here in h.apart g.0 j o t g.1 there) ∙ r.tapped j t there;
    }

-- what represents a state under a plan, does so under the plan from which it grew
pub earlier : (p p' : Plan) (s : State) (values : List Bool) → Grows p p' → Represents p' s values → Represents p s values
earlier p p' s values g r = record {
  room = let a = g.room in let b = r.room in omega arith;
  laid = subst (λ z. AreLaid z s values) g.places r.laid;
  tapped = λ j t there. r.tapped j t (g.taps j t there);
}

abbrev pub grows_none : (p : Plan) → Grows p p
grows_none p = record {
  added = [];
  operations = sym (append-nil p.operations);
  places = refl;
  room = omega arith;
  taps = λ j t there. there;
  new = λ i o there. absurd (cc);
}

abbrev pub grows_on : (p q r : Plan) → Grows p q → Grows q r → Grows p r
grows_on p q r g h = record {
  added = g.added ++ h.added;
  operations = h.operations ∙ (ap (λ z. z ++ h.added) g.operations ∙ append_assoc p.operations g.added h.added);
  places = h.places ∙ g.places;
  room = let a = g.room in let b = h.room in omega arith;
  taps = λ j t there. h.taps j t (g.taps j t there);
  new = λ i o there. elim (of_either g.added h.added i o there) [
    | inl x ↦ g.new x.0 o x.1
    | inr x ↦ let a = h.new x.0 o x.1 in let b = g.room in omega arith
  ];
}

-- what was added first is of the last plan
first_part : (p q r : Plan) (g : Grows p q) → Grows q r → Part g.added r.operations
first_part p q r g h = λ i o there.
    let a = of_right p.operations g.added i o there in
    let b : slice_get q.operations a.0 ≡ Some o = ap (λ z. slice_get z a.0) g.operations ∙ a.1 in
    (a.0, ap (λ z. slice_get z a.0) h.operations ∙ of_left q.operations h.added a.0 o b)

last_part : (q r : Plan) (h : Grows q r) → Part h.added r.operations
last_part q r h = λ i o there.
    let a = of_right q.operations h.added i o there in
    (a.0, ap (λ z. slice_get z a.0) h.operations ∙ a.1)

-- what was added at new places leaves the state's levels
still_first : (p q r : Plan) (s : State) (values : List Bool) (g : Grows p q) (h : Grows q r) → IsSound p → IsSound r → Represents r s values →
    Represents r s (all_done values g.added)
still_first p q r s values g h a b rep =
    still r s values g.added b
    (λ i o there. let n = g.new i o there in let k = a.places in let e : free_place r.places ≡ free_place p.places = ap free_place (h.places ∙ g.places) in omega (arith, n, k, e))
    (first_part p q r g h) rep

-- the same level is read in another form, where place 0 is low
pub reads : (p p' : Plan) (r r' : List Bool → Bool) (e : Logic) → ((values : List Bool) → at values 0 ≡ false → r' values ≡ r values) → Computes p p' r e → Computes p p' r' e
reads p p' r r' e same c = record {
  before = c.before;
  after = c.after;
  grows = c.grows;
  level = λ s values rep.
      let here = still_first p p' p' s values c.grows (grows_none p') c.before c.after rep in
      same (all_done values c.grows.added) here.laid.low ∙ c.level s values rep;
}

-- two expressions, one after the other, and a level that depends on both
pub both : (f : Bool → Bool → Bool) (p q r : Plan) (e x y : Logic) (a b : List Bool → Bool) →
    ((u v : List Bool) → ((n : ℕ) → n < q.room → at u n ≡ at v n) → a u ≡ a v) →
    ((s : State) → level s e ≡ f (level s x) (level s y)) →
    Computes p q a x → Computes q r b y → Computes p r (λ values. f (a values) (b values)) e
both f p q r e x y a b below is c d = record {
  before = c.before;
  after = d.after;
  grows = grows_on p q r c.grows d.grows;
  level = λ s values rep.
      let v = all_done values c.grows.added in
      let w = all_done v d.grows.added in
      let one : a v ≡ level s x = c.level s values (earlier q r s values d.grows rep) in
      let here = still_first p q r s values c.grows d.grows c.before d.after rep in
      let two : b w ≡ level s y = d.level s v here in
      let kept : a w ≡ a v = below w v (λ n lt. done_keeps v d.grows.added n (λ i o there k. let m = d.grows.new i o there in absurd (omega (arith, m, k, lt)))) in
      ap (λ z. f (a z) (b z)) (done_append values c.grows.added d.grows.added)
      ∙ (ap (λ z. f z (b w)) (kept ∙ one) ∙ (ap (λ z. f (level s x) z) two ∙ sym (is s)));
}

-- an expression with nothing to add
pub at_once : (p : Plan) (r : List Bool → Bool) (e : Logic) → IsSound p → ((s : State) (values : List Bool) → Represents p s values → r values ≡ level s e) → Computes p p r e
at_once p r e h same = record { before = h; after = h; grows = grows_none p; level = same }

-- a bit of a register, by a tap
pub by_tap : (p p' : Plan) (reg bit : ℕ) → IsSound p → IsSound p' → p' ≡ with_tap p reg bit → Computes p p' (λ values. at values p.room) (l.Reg reg bit)
by_tap p p' reg bit h h' e =
    let t : Tap = record { to = p.room; reg = reg; bit = bit } in
    let taps : p'.taps ≡ p.taps ++ t ∷ [] = ap (λ (z : Plan). z.taps) e in
    let room : p'.room ≡ p.room + 1 = ap (λ (z : Plan). z.room) e in
    record {
      before = h;
      after = h';
      grows = record {
        added = [];
        operations = ap (λ (z : Plan). z.operations) e ∙ sym (append-nil p.operations);
        places = ap (λ (z : Plan). z.places) e;
        room = omega arith;
        taps = λ j u there. ap (λ z. slice_get z j) taps ∙ of_left p.taps (t ∷ []) j u there;
        new = λ i o there. absurd (cc);
      };
      level = λ s values rep.
          let here = of_right p.taps (t ∷ []) 0 t refl in
          rep.tapped here.0 t (ap (λ z. slice_get z here.0) taps ∙ here.1);
    }

-- a formula's level at a new place, by an operation
pub by_operation : (p q r : Plan) (f : Formula) (e : Logic) → IsSound r → r ≡ with_operation (record q { room = q.room + 1 }) q.room f →
    Computes p q (λ values. formula_level values f) e → Computes p r (λ values. at values q.room) e
by_operation p q r f e h' is c =
    let o : Operation = record { to = q.room; formula = f } in
    let operations : r.operations ≡ q.operations ++ o ∷ [] = ap (λ (z : Plan). z.operations) is in
    let room : r.room ≡ q.room + 1 = ap (λ (z : Plan). z.room) is in
    let more : Grows q r = record {
      added = o ∷ [];
      operations = operations;
      places = ap (λ (z : Plan). z.places) is;
      room = omega arith;
      taps = λ j t there. ap (λ (z : Plan). slice_get z.taps j) is ∙ there;
      new = λ i x there. elim (of_more [] o i x there) [ inl g ↦ absurd (cc) | inr g ↦ let k : x.to ≡ q.room = ap (λ (z : Operation). z.to) g.1 in omega (arith, k) ];
    } in
    record {
      before = c.before;
      after = h';
      grows = grows_on p q r c.grows more;
      level = λ s values rep.
          let lt = rep.room in
          done_last values c.grows.added o (omega arith) ∙ c.level s values (earlier q r s values more rep);
    }
