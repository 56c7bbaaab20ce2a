-- The module of statements that are finished is valid.
use Rattle.std.proofs.Common.{◌≡◌, ◌≢◌, ℕ, zero, suc, ◌+◌, ◌<◌, ◌≤◌, Bool, true, false, not, ◌&&◌, ◌||◌, ltb, List, [], ◌∷◌, ◌++◌, length, map, get_or, All, IsTrue, Option, Some, None, refl, sym, ap, subst, ◌∙◌, arith, codes}
use Rattle.std.specs.Prelude.{slice_get, count_by, sum_by, is_some, AllPairs}
use Rattle.std.specs.List.{list_all}
use Rattle.std.proofs.lemmas.List.Kept.{AllPairs-cons}
use Rattle.std.proofs.lemmas.List.Elements.{All-append, All-cons}
use Rattle.std.proofs.lemmas.List.Sums.{sum_by-cons}
use Rattle.std.proofs.lemmas.Option.{get_or_from_slice_get}
use Rattle.std.proofs.lemmas.Bool.{and_parts, or_parts, lt-ltb}
use Rattle.circuit.specs.declared.bit.Target.{Target}
use Rattle.circuit.specs.declared.bit.Target.TheVariants as target
use Rattle.circuit.specs.Circuit.{Logic, Register}
use Rattle.circuit.specs.Names.{in_name, out_name, is_port_name, is_own_name, is_reserved, declared_names}
use Rattle.circuit.specs.Valid.{IsTarget, IsInRange, IsOrdered, HasValidNames, IsValid}
use Rattle.circuit.specs.Meaning.{upto}
use Rattle.verilog_text.specs.Judging.{SoFar, Declared, Entry, Meaning, InputAt, OutputAt, WireAt, RegAt, found, bits_of, is_input_port, is_output_port, register_of, is_given, is_unfinished, module_of, next_of}
use Rattle.verilog_laws.specs.Sound.{NextInRange, IsSound}
use Rattle.verilog_laws.proofs.Places.{get_within}
use Rattle.verilog_laws.proofs.Sound.{given_at}

-- ---- from places to all elements

all_from : {X : Type 0} (P : X → Type 0) (xs : List X) → ((k : ℕ) (x : X) → slice_get xs k ≡ Some x → P x) → All P xs
all_from P xs h = λ k d lt. let w = get_within xs k lt in subst P (sym (get_or_from_slice_get xs k w.0 d w.1)) (h k w.0 w.1)

get_unmap : {X Y : Type 0} (f : X → Y) (xs : List X) (k : ℕ) (y : Y) → slice_get (map f xs) k ≡ Some y → (x : X) × (slice_get xs k ≡ Some x) × (y ≡ f x)
get_unmap f [] k y e = absurd cc
get_unmap f (x ∷ xs) zero y e = (x, refl, cc)
get_unmap f (x ∷ xs) (suc k) y e = get_unmap f xs k y e

-- ---- distinct names

abbrev Across : List (List ℕ) → List (List ℕ) → Type 0
Across xs ys = All (λ x. All (λ y. x ≢ y) ys) xs

abbrev Distinct : List (List ℕ) → Type 0
Distinct xs = AllPairs (λ a b. a ≢ b) xs

pairs_tail : (x : List ℕ) (xs : List (List ℕ)) → Distinct (x ∷ xs) → Distinct xs
pairs_tail x xs h = λ i j d lt le. h (suc i) (suc j) d (omega arith) (omega arith)

joined : (xs ys : List (List ℕ)) → Distinct xs → Distinct ys → Across xs ys → Distinct (xs ++ ys)
joined [] ys p q across = q
joined (x ∷ xs) ys p q across =
    AllPairs-cons (λ a b. a ≢ b) x (xs ++ ys)
    (All-append (λ b. x ≢ b) xs ys (λ k d lt. p zero (suc k) d (omega arith) (omega arith)) (across zero x (omega arith)))
    (joined xs ys (pairs_tail x xs p) q (λ k d lt. across (suc k) d (omega arith)))

-- names that mean their places
abbrev Tagged : List Entry → (ℕ → Meaning) → List (List ℕ) → Type 0
Tagged es tag ns = (k : ℕ) (n : List ℕ) → slice_get ns k ≡ Some n → found n es ≡ Some (tag k)

one_tag : (es : List Entry) (tag : ℕ → Meaning) (ns : List (List ℕ)) → ((i j : ℕ) → Some (tag i) ≡ Some (tag j) → i ≡ j) → Tagged es tag ns → Distinct ns
one_tag es tag ns one h = λ i j d lt le same.
    let v = get_within ns i (omega (arith, lt, le)) in
    let w = get_within ns j le in
    let a = get_or_from_slice_get ns i v.0 d v.1 in
    let b = get_or_from_slice_get ns j w.0 d w.1 in
    let e = one i j (sym (h i v.0 v.1) ∙ ap (λ (n : List ℕ). found n es) (sym a ∙ same ∙ b) ∙ h j w.0 w.1) in
    absurd (omega (arith, e, lt))

two_tags : (es : List Entry) (tag tag' : ℕ → Meaning) (ns ms : List (List ℕ)) → ((i j : ℕ) → Some (tag i) ≡ Some (tag' j) → ⊥) → Tagged es tag ns → Tagged es tag' ms → Across ns ms
two_tags es tag tag' ns ms apart h k = all_from (λ n. All (λ m. n ≢ m) ms) ns (λ i n e. all_from (λ m. n ≢ m) ms (λ j m f same.
    apart i j (sym (h i n e) ∙ ap (λ (z : List ℕ). found z es) same ∙ k j m f)))

tag_inputs : (x : SoFar) → IsSound x → Tagged x.entries InputAt (map in_name x.inputs)
tag_inputs x s k n e = let u = get_unmap in_name x.inputs k n e in ap (λ (z : List ℕ). found z x.entries) u.2 ∙ (s.inputs k u.0 u.1).1

tag_outputs : (x : SoFar) → IsSound x → Tagged x.entries OutputAt (map out_name x.outputs)
tag_outputs x s k n e = let u = get_unmap out_name x.outputs k n e in ap (λ (z : List ℕ). found z x.entries) u.2 ∙ (s.outputs k u.0 u.1).1

tag_wires : (x : SoFar) → IsSound x → Tagged x.entries WireAt x.wires
tag_wires x s k n e = (s.wires k n e).1

abbrev reg_names : SoFar → List (List ℕ)
reg_names x = map (λ r. r.name) (map register_of x.regs)

reg_name_at : (x : SoFar) (k : ℕ) (n : List ℕ) → slice_get (reg_names x) k ≡ Some n → (r : Declared) × (slice_get x.regs k ≡ Some r) × (n ≡ r.name)
reg_name_at x k n e =
    let u = get_unmap (λ (r : Register). r.name) (map register_of x.regs) k n e in
    let v = get_unmap register_of x.regs k u.0 u.1 in
    (v.0, v.1, u.2 ∙ ap (λ (r : Register). r.name) v.2)

tag_regs : (x : SoFar) → IsSound x → Tagged x.entries RegAt (reg_names x)
tag_regs x s k n e = let u = reg_name_at x k n e in ap (λ (z : List ℕ). found z x.entries) u.2 ∙ (s.regs k u.0 u.1).named

own_apart : (word n : List ℕ) → is_reserved word ≡ true → is_own_name n ≡ true → word ≢ n
own_apart word n r own same =
    let p = and_last _ (not (is_reserved n)) own in
    let q : false ≡ true = ap not (sym r) ∙ ap (λ (z : List ℕ). not (is_reserved z)) same ∙ p in cc where
      and_last : (a b : Bool) → (a && b) ≡ true → b ≡ true
      and_last a b h = (and_parts a b h).1

-- a word of the clock's or the reset's kind is no declared name
word_apart : (x : SoFar) → IsSound x → (word : List ℕ) → is_reserved word ≡ true → ((n : List ℕ) → word ≢ in_name n) → ((n : List ℕ) → word ≢ out_name n) →
    All (λ n. word ≢ n) (map in_name x.inputs ++ map out_name x.outputs ++ x.wires ++ reg_names x)
word_apart x s word r i o =
    let P : List ℕ → Type 0 = λ n. word ≢ n in
    All-append P (map in_name x.inputs ++ map out_name x.outputs ++ x.wires) (reg_names x)
    (All-append P (map in_name x.inputs ++ map out_name x.outputs) x.wires
    (All-append P (map in_name x.inputs) (map out_name x.outputs)
    (all_from P (map in_name x.inputs) (λ k n e same. let u = get_unmap in_name x.inputs k n e in i u.0 (same ∙ u.2)))
    (all_from P (map out_name x.outputs) (λ k n e same. let u = get_unmap out_name x.outputs k n e in o u.0 (same ∙ u.2))))
    (all_from P x.wires (λ k n e. own_apart word n r (s.wires k n e).0)))
    (all_from P (reg_names x) (λ k n e. let u = reg_name_at x k n e in own_apart word n r (ap is_own_name u.2 ∙ (s.regs k u.0 u.1).own)))

distinct : (x : SoFar) → IsSound x → Distinct (declared_names (module_of x))
distinct x s =
    let es = x.entries in
    let a = map in_name x.inputs in
    let b = map out_name x.outputs in
    let c = x.wires in
    let d = reg_names x in
    let ta = tag_inputs x s in
    let tb = tag_outputs x s in
    let tc = tag_wires x s in
    let td = tag_regs x s in
    let ab = joined a b (one_tag es InputAt a (λ i j e. cc) ta) (one_tag es OutputAt b (λ i j e. cc) tb) (two_tags es InputAt OutputAt a b (λ i j e. cc) ta tb) in
    let abc = joined (a ++ b) c ab (one_tag es WireAt c (λ i j e. cc) tc) (All-append (λ n. All (λ m. n ≢ m) c) a b (two_tags es InputAt WireAt a c (λ i j e. cc) ta tc) (two_tags es OutputAt WireAt b c (λ i j e. cc) tb tc)) in
    let abcd = joined (a ++ b ++ c) d abc (one_tag es RegAt d (λ i j e. cc) td)
    (All-append (λ n. All (λ m. n ≢ m) d) (a ++ b) c
    (All-append (λ n. All (λ m. n ≢ m) d) a b (two_tags es InputAt RegAt a d (λ i j e. cc) ta td) (two_tags es OutputAt RegAt b d (λ i j e. cc) tb td))
    (two_tags es WireAt RegAt c d (λ i j e. cc) tc td)) in
    let clk = word_apart x s (codes "clk") refl (λ n e. let f : 99 ≡ 105 = ap (λ (z : List ℕ). get_or z 0 0) e in absurd (omega (arith, f))) (λ n e. let f : 99 ≡ 111 = ap (λ (z : List ℕ). get_or z 0 0) e in absurd (omega (arith, f))) in
    let rst = word_apart x s (codes "rst") refl (λ n e. let f : 114 ≡ 105 = ap (λ (z : List ℕ). get_or z 0 0) e in absurd (omega (arith, f))) (λ n e. let f : 114 ≡ 111 = ap (λ (z : List ℕ). get_or z 0 0) e in absurd (omega (arith, f))) in
    AllPairs-cons (λ x y. x ≢ y) (codes "clk") (codes "rst" ∷ (a ++ b ++ c ++ d))
    (All-cons (λ n. codes "clk" ≢ n) (codes "rst") (a ++ b ++ c ++ d) (λ e. let f : 99 ≡ 114 = ap (λ (z : List ℕ). get_or z 0 0) e in absurd (omega (arith, f))) clk)
    (AllPairs-cons (λ x y. x ≢ y) (codes "rst") (a ++ b ++ c ++ d) rst abcd)

-- ---- what is finished

not_false : (b : Bool) → not b ≡ false → b ≡ true
not_false true h = refl
not_false false h = absurd cc

-- how many ports a module has or is to have
pub record HasPorts (x : SoFar) : Type 0 where
  pub some_input : 1 ≤ count_by is_input_port x.to_declare + length x.inputs
  pub some_output : 1 ≤ count_by is_output_port x.to_declare + length x.outputs

record IsFinished (x : SoFar) : Type 0 where
  declared : x.to_declare ≡ []
  wires : list_all (λ w. is_given x.assigns (target.Wire w)) (upto 0 (length x.wires)) ≡ true
  outputs : list_all (λ o. is_given x.assigns (target.Out o)) (upto 0 (length x.outputs)) ≡ true

no_length : (xs : List (List ℕ)) → ltb 0 (length xs) ≡ false → xs ≡ []
no_length [] h = refl
no_length (x ∷ xs) h = absurd (let t : false ≡ true = sym h ∙ lt-ltb 0 (length (x ∷ xs)) (omega arith) in cc)

finished : (x : SoFar) → is_unfinished x ≡ false → IsFinished x
finished x h =
    let a = or_parts ((ltb 0 (length x.to_declare) || not (list_all (λ w. is_given x.assigns (target.Wire w)) (upto 0 (length x.wires)))) || not (list_all (λ o. is_given x.assigns (target.Out o)) (upto 0 (length x.outputs)))) (not (list_all (λ r. is_some r.next) x.regs)) h in
    let b = or_parts (ltb 0 (length x.to_declare) || not (list_all (λ w. is_given x.assigns (target.Wire w)) (upto 0 (length x.wires)))) (not (list_all (λ o. is_given x.assigns (target.Out o)) (upto 0 (length x.outputs)))) a.0 in
    let c = or_parts (ltb 0 (length x.to_declare)) (not (list_all (λ w. is_given x.assigns (target.Wire w)) (upto 0 (length x.wires)))) b.0 in
    record { declared = no_length x.to_declare c.0; wires = not_false _ c.1; outputs = not_false _ b.1 }

each_upto : (f : ℕ → Bool) (j n : ℕ) → list_all f (upto j n) ≡ true → (k : ℕ) → k < n → f (j + k) ≡ true
each_upto f j zero h k lt = absurd (omega (arith, lt))
each_upto f j (suc n) h zero lt = let p = and_parts (f j) (list_all f (upto (suc j) n)) h in let z : j + 0 ≡ j = omega arith in ap f z ∙ p.0
each_upto f j (suc n) h (suc k) lt =
    let p = and_parts (f j) (list_all f (upto (suc j) n)) h in
    let z : j + suc k ≡ suc j + k = omega arith in
    ap f z ∙ each_upto f (suc j) n p.1 k (omega (arith, lt))

bits_same : (rs : List Declared) → sum_by (λ r. r.width) (map register_of rs) ≡ bits_of rs
bits_same [] = refl
bits_same (r ∷ rs) =
    let a = sum_by-cons (λ (q : Register). q.width) (register_of r) (map register_of rs) in
    let b = sum_by-cons (λ (q : Declared). q.width) r rs in
    let c = bits_same rs in
    omega (arith, a, b, c)

next_in : (x : SoFar) (o : Option Logic) → NextInRange (module_of x) o → IsInRange (module_of x) (next_of o)
next_in x None h = tt
next_in x (Some bit) h = h

each_given : (x : SoFar) → IsFinished x → (t : Target) → IsTarget (module_of x) t → is_given x.assigns t ≡ true
each_given x f (target.Wire w) lt = let z : 0 + w ≡ w = omega arith in ap (λ (k : ℕ). is_given x.assigns (target.Wire k)) (sym z) ∙ each_upto (λ w. is_given x.assigns (target.Wire w)) 0 (length x.wires) f.wires w lt
each_given x f (target.Out w) lt = let z : 0 + w ≡ w = omega arith in ap (λ (k : ℕ). is_given x.assigns (target.Out k)) (sym z) ∙ each_upto (λ o. is_given x.assigns (target.Out o)) 0 (length x.outputs) f.outputs w lt

ordered : (x : SoFar) → IsSound x → IsFinished x → IsOrdered (module_of x)
ordered x s f = record {
  targets = λ k a e. (s.assigns k a e).has_target;
  once = λ i j a b e g same. (s.assigns i a e).once j b g same;
  given = λ t h. given_at x.assigns t (each_given x f t h);
  earlier = λ k a e w h. (s.assigns k a e).earlier w h;
}

names : (x : SoFar) → IsSound x → HasValidNames (module_of x)
names x s = record {
  inputs = all_from (λ n. IsTrue (is_port_name n)) x.inputs (λ k n e. (s.inputs k n e).0);
  outputs = all_from (λ n. IsTrue (is_port_name n)) x.outputs (λ k n e. (s.outputs k n e).0);
  wires = all_from (λ n. IsTrue (is_own_name n)) x.wires (λ k n e. (s.wires k n e).0);
  regs = all_from (λ r. IsTrue (is_own_name r.name)) (map register_of x.regs) (λ k r e. let u = get_unmap register_of x.regs k r e in ap (λ (q : Register). is_own_name q.name) u.2 ∙ (s.regs k u.0 u.1).own);
  distinct = distinct x s;
}

pub is_valid : (x : SoFar) → IsSound x → HasPorts x → is_unfinished x ≡ false → IsValid (module_of x)
is_valid x s p h =
    let f = finished x h in
    let some_i = p.some_input in
    let some_o = p.some_output in
    let few_i = s.few_inputs in
    let few_o = s.few_outputs in
    let no_i : count_by is_input_port x.to_declare ≡ 0 = ap (count_by is_input_port) f.declared in
    let no_o : count_by is_output_port x.to_declare ≡ 0 = ap (count_by is_output_port) f.declared in
    let few_b = s.few_bits in
    let same = bits_same x.regs in
    record {
      some_input = omega (arith, some_i, no_i);
      few_inputs = omega (arith, few_i, no_i);
      some_output = omega (arith, some_o, no_o);
      few_outputs = omega (arith, few_o, no_o);
      few_wires = s.few_wires;
      few_bits = omega (arith, few_b, same);
      widths = all_from (λ r. 1 ≤ r.width) (map register_of x.regs) (λ k r e. let u = get_unmap register_of x.regs k r e in subst (λ (q : Register). 1 ≤ q.width) (sym u.2) (s.regs k u.0 u.1).some_bit);
      names = names x s;
      assigned_in_range = all_from (λ a. IsInRange (module_of x) a.bit) x.assigns (λ k a e. (s.assigns k a e).in_range);
      next_in_range = all_from (λ r. IsInRange (module_of x) r.next) (map register_of x.regs) (λ k r e. let u = get_unmap register_of x.regs k r e in subst (λ (q : Register). IsInRange (module_of x) q.next) (sym u.2) (next_in x u.0.next (s.regs k u.0 u.1).next));
      ordered = ordered x s f;
    }
