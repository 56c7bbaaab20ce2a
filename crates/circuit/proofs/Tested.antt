-- A module that passes the test is valid.
use Rattle.std.proofs.Common.{◌≡◌, ◌≢◌, ℕ, List, [], ◌∷◌, length, get_or, refl, arith, true, not, Option, Some, None}
use Rattle.std.specs.Prelude.{AllPairs, slice_get, nat_le, bytes_eq}
use Rattle.std.specs.List.{list_any, list_all}
use Rattle.std.proofs.lemmas.Bool.{and_parts, not-true, both_ways, ltb-true, leb-true}
use Rattle.std.proofs.lemmas.List.Sums.{AllPass-from_list_all}
use Rattle.std.proofs.lemmas.List.Folds.{list_any_at}
use Rattle.std.proofs.lemmas.List.Kept.{AllPairs-cons}
use Rattle.std.proofs.lemmas.Slice.Eq.{bytes_eq-Decides}
use Rattle.circuit.specs.Circuit.{Logic, Zero, One, Input, Wire, Reg, Not, And, Or, Register, Circuit, register_bits}
use Rattle.circuit.specs.Names.{is_port_name, is_own_name, declared_names}
use Rattle.circuit.specs.Tested.{all_distinct, has_bit, is_in_range, has_few, has_names, in_order, is_valid}
use Rattle.circuit.specs.Valid.{HasBit, IsInRange, HasValidNames, IsValid}
use Rattle.circuit.proofs.Order.{ordered-from_test}

distinct-from_test : (xs : List (List ℕ)) → all_distinct xs ≡ true → AllPairs (λ a b. a ≢ b) xs
distinct-from_test [] h = λ i j d lt le. absurd (omega arith)
distinct-from_test (x ∷ xs) h =
    let p = and_parts (not (list_any (bytes_eq x) xs)) (all_distinct xs) h in
    AllPairs-cons (λ a b. a ≢ b) x xs
    (λ k d lt same. both_ways _ (not-true _ p.0) (list_any_at (bytes_eq x) xs k d lt ((bytes_eq-Decides x (get_or xs k d)).1 same)))
    (distinct-from_test xs p.1)

has_bit-true : (r : Option Register) (k : ℕ) → has_bit r k ≡ true → HasBit r k
has_bit-true None k h = absurd (both_ways _ refl h)
has_bit-true (Some r) k h = ltb-true k r.width h

in_range-from_test : (m : Circuit) (e : Logic) → is_in_range m e ≡ true → IsInRange m e
in_range-from_test m Zero h = tt
in_range-from_test m One h = tt
in_range-from_test m (Input i) h = ltb-true i (length m.inputs) h
in_range-from_test m (Wire w) h = ltb-true w (length m.wires) h
in_range-from_test m (Reg r k) h = has_bit-true (slice_get m.regs r) k h
in_range-from_test m (Not x) h = in_range-from_test m x h
in_range-from_test m (And x y) h =
    let p = and_parts (is_in_range m x) (is_in_range m y) h in (in_range-from_test m x p.0, in_range-from_test m y p.1)
in_range-from_test m (Or x y) h =
    let p = and_parts (is_in_range m x) (is_in_range m y) h in (in_range-from_test m x p.0, in_range-from_test m y p.1)

names-from_test : (m : Circuit) → has_names m ≡ true → HasValidNames m
names-from_test m h =
    let p = and_parts (list_all is_port_name m.inputs) _ h in
    let q = and_parts (list_all is_port_name m.outputs) _ p.1 in
    let r = and_parts (list_all is_own_name m.wires) _ q.1 in
    let s = and_parts (list_all (λ r. is_own_name r.name) m.regs) (all_distinct (declared_names m)) r.1 in
    record {
      inputs = AllPass-from_list_all is_port_name m.inputs p.0;
      outputs = AllPass-from_list_all is_port_name m.outputs q.0;
      wires = AllPass-from_list_all is_own_name m.wires r.0;
      regs = AllPass-from_list_all (λ r. is_own_name r.name) m.regs s.0;
      distinct = distinct-from_test (declared_names m) s.1;
    }

pub valid-from_test : (m : Circuit) → is_valid m ≡ true → IsValid m
valid-from_test m h =
    let a = and_parts (has_few m) _ h in
    let b = and_parts (has_names m) _ a.1 in
    let c = and_parts (list_all (λ r. nat_le 1 r.width) m.regs) _ b.1 in
    let d = and_parts (list_all (λ x. is_in_range m x.bit) m.assigns) _ c.1 in
    let e = and_parts (list_all (λ r. is_in_range m r.next) m.regs) (in_order m [] m.assigns) d.1 in
    let i = and_parts (nat_le 1 (length m.inputs)) _ a.0 in
    let j = and_parts (nat_le (length m.inputs) 64) _ i.1 in
    let k = and_parts (nat_le 1 (length m.outputs)) _ j.1 in
    let l = and_parts (nat_le (length m.outputs) 64) _ k.1 in
    let n = and_parts (nat_le (length m.wires) 65536) (nat_le (register_bits m) 65536) l.1 in
    record {
      some_input = leb-true 1 (length m.inputs) i.0;
      few_inputs = leb-true (length m.inputs) 64 j.0;
      some_output = leb-true 1 (length m.outputs) k.0;
      few_outputs = leb-true (length m.outputs) 64 l.0;
      few_wires = leb-true (length m.wires) 65536 n.0;
      few_bits = leb-true (register_bits m) 65536 n.1;
      widths = λ k d lt. leb-true 1 (get_or m.regs k d).width (AllPass-from_list_all (λ r. nat_le 1 r.width) m.regs c.0 k d lt);
      names = names-from_test m b.0;
      assigned_in_range = λ k x lt. in_range-from_test m (get_or m.assigns k x).bit (AllPass-from_list_all (λ x. is_in_range m x.bit) m.assigns d.0 k x lt);
      next_in_range = λ k x lt. in_range-from_test m (get_or m.regs k x).next (AllPass-from_list_all (λ r. is_in_range m r.next) m.regs e.0 k x lt);
      ordered = ordered-from_test m e.1;
    }
