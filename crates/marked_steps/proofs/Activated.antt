-- What an activation of a marked assign leaves.
use Rattle.std.proofs.Common.{◌≡◌, ◌≢◌, ℕ, ◌+◌, ◌*◌, ◌<◌, ◌≤◌, Bool, true, false, List, [], length, get_or, set, replicate, refl, ap, ◌∙◌, sym, subst, inl, inr, arith, Some, get_or-set_same, get_or-set_other}
use Rattle.std.specs.Prelude.{slice_get, ◌⊎◌}
use Rattle.std.proofs.lemmas.List.{set_past}
use Rattle.std.proofs.lemmas.Option.{slice_get_within}
use Rattle.std.proofs.lemmas.Bool.{cases_lt, cases_eq, eq-eqb, or_left, or_right}
use Rattle.circuit.specs.declared.bit.Target.{Target}
use Rattle.circuit.specs.declared.bit.Target.TheVariants as target
use Rattle.circuit.specs.Circuit.{Logic, Assignment, Register, Circuit, names_wire}
use Rattle.circuit.specs.Circuit as l
use Rattle.circuit.specs.Valid.{IsTarget, IsOrdered}
use Rattle.circuit.specs.Meaning.{State, level, at, put, HasLevels, IsSettled}
use Rattle.levels.specs.Marked.{IsUnmarked, HasAll, HasAllAbove}
use Rattle.levels.specs.Operands.{Operand, Input, Wire, Bit, value, Names, place, AreReaders}
use Rattle.marked_steps.specs.UpToDate.{AllMarked, IsSeen, IsUpToDate}
use Rattle.marked_steps.proofs.Seen.{assign_seen, reg_seen}

set_read : (xs : List Bool) (i j : ℕ) (v : Bool) → (get_or (set xs i v) j false ≡ get_or xs j false) ⊎ ((i ≡ j) × (get_or (set xs i v) j false ≡ v))
set_read xs i j v = elim (cases_eq j i) [
  | inr ne ↦ inl (get_or-set_other xs i j v false ne)
  | inl e ↦ elim (cases_lt i (length xs)) [
    | inl w ↦ inr (sym e, ap (λ n. get_or (set xs i v) n false) e ∙ get_or-set_same xs i v false w)
    | inr w ↦ inl (ap (λ l. get_or l j false) (set_past xs i v w))
  ]
]

at_put : (s : State) (t u : Target) (v : Bool) → (at (put s t v) u ≡ at s u) ⊎ ((t ≡ u) × (at (put s t v) u ≡ v))
at_put s (target.Wire i) (target.Wire j) v = elim (set_read s.wires i j v) [ inl h ↦ inl h | inr h ↦ inr (ap target.Wire h.0, h.1) ]
at_put s (target.Wire i) (target.Out j) v = inl refl
at_put s (target.Out i) (target.Wire j) v = inl refl
at_put s (target.Out i) (target.Out j) v = elim (set_read s.outs i j v) [ inl h ↦ inl h | inr h ↦ inr (ap target.Out h.0, h.1) ]

at_put_same : (m : Circuit) (s : State) (t : Target) (v : Bool) → HasLevels m s → IsTarget m t → at (put s t v) t ≡ v
at_put_same m s (target.Wire i) v f h = get_or-set_same s.wires i v false (omega (arith, f.wires))
at_put_same m s (target.Out i) v f h = get_or-set_same s.outs i v false (omega (arith, f.outs))

-- a written level, read at any operand
value_put : (s : State) (t : Target) (v : Bool) (x : Operand) →
    (value (put s t v) x ≡ value s x) ⊎ ((w : ℕ) × (t ≡ target.Wire w) × (x ≡ Wire w) × (value (put s t v) x ≡ v))
value_put s (target.Wire i) v (Input j) = inl refl
value_put s (target.Wire i) v (Wire j) = elim (set_read s.wires i j v) [ inl h ↦ inl h | inr h ↦ inr (i, refl, ap Wire (sym h.0), h.1) ]
value_put s (target.Wire i) v (Bit r k) = inl refl
value_put s (target.Out i) v (Input j) = inl refl
value_put s (target.Out i) v (Wire j) = inl refl
value_put s (target.Out i) v (Bit r k) = inl refl

put_regs : (s : State) (t : Target) (v : Bool) → (put s t v).regs ≡ s.regs
put_regs s (target.Wire w) v = refl
put_regs s (target.Out o) v = refl

same_assign : (m : Circuit) (i k : ℕ) (a c : Assignment) → slice_get m.assigns i ≡ Some a → slice_get m.assigns k ≡ Some c → i ≡ k → a ≡ c
same_assign m i k a c ha hc e =
    let h : slice_get m.assigns i ≡ Some c = ap (λ n. slice_get m.assigns n) e ∙ hc in cc

-- the heart: assign k takes its level, loses its mark, and what could see the change is marked
pub activated : (m : Circuit) → IsOrdered m → (s : State) (words words' : List ℕ) (k : ℕ) (a : Assignment) → HasLevels m s →
    IsUpToDate m s words → slice_get m.assigns k ≡ Some a → IsUnmarked words' k →
    ((i : ℕ) → i ≢ k → IsUnmarked words' i → IsUnmarked words i) → IsSeen m s (put s a.target (level s a.bit)) words' →
    IsUpToDate m (put s a.target (level s a.bit)) words'
activated m ord s words words' k a f up there clear less seen =
    let s' : State = put s a.target (level s a.bit) in
    record {
      assigns = λ i c hc u.
          let same : level s c.bit ≡ level s' c.bit = assign_seen m s s' words' seen i c hc u in
          elim (cases_eq i k) [
            | inl e ↦
                let ca : c ≡ a = same_assign m i k c a hc there e in
                ap (λ (z : Assignment). at s' z.target) ca ∙ (at_put_same m s a.target (level s a.bit) f (ord.targets k a there)
                ∙ (ap (λ (z : Assignment). level s z.bit) (sym ca) ∙ same))
            | inr ne ↦ elim (at_put s a.target c.target (level s a.bit)) [
              | inl kept ↦ kept ∙ (up.assigns i c hc (less i ne u) ∙ same)
              | inr hit ↦ absurd (ne (sym (ord.once k i a c there hc hit.0)))
            ]
          ];
      regs = λ r q row hq hrow u.
          let lt = slice_get_within m.assigns k a there in
          let ne : length m.assigns + r ≢ k = omega arith in
          let hrow' : slice_get s.regs r ≡ Some row = ap (λ z. slice_get z r) (sym (put_regs s a.target (level s a.bit))) ∙ hrow in
          up.regs r q row hq hrow' (less (length m.assigns + r) ne u)
          ∙ ap (λ v. replicate q.width v) (reg_seen m s s' words' seen r q hq u);
    }

-- nothing changed
pub seen_same : (m : Circuit) (s : State) (t : Target) (v : Bool) (words : List ℕ) → at s t ≡ v → IsSeen m s (put s t v) words
seen_same m s t v words e = record {
  by = λ x. elim (value_put s t v x) [
    | inl h ↦ inl (sym h)
    | inr h ↦
        let was : value s x ≡ v = ap (λ z. value s z) h.2 ∙ (ap (λ z. at s z) (sym h.1) ∙ e) in
        inl (was ∙ sym h.3)
  ];
}

-- an output is named by nothing
pub seen_out : (m : Circuit) (s : State) (t : Target) (o : ℕ) (v : Bool) (words : List ℕ) → t ≡ target.Out o → IsSeen m s (put s t v) words
seen_out m s t o v words e = record {
  by = λ x. elim (value_put s t v x) [ inl h ↦ inl (sym h) | inr h ↦ let no : target.Out o ≡ target.Wire h.0 = sym e ∙ h.1 in absurd (cc) ];
}

names_is : (e : Logic) (w : ℕ) → Names e (Wire w) → names_wire e w ≡ true
names_is l.Zero w h = absurd h
names_is l.One w h = absurd h
names_is (l.Input i) w h = absurd (cc)
names_is (l.Wire v) w h = let e : w ≡ v = cc in eq-eqb w v e
names_is (l.Reg r k) w h = absurd (cc)
names_is (l.Not e) w h = names_is e w h
names_is (l.And e f) w h = elim h [ inl n ↦ or_left (names_wire e w) (names_wire f w) (names_is e w n) | inr n ↦ or_right (names_wire e w) (names_wire f w) (names_is f w n) ]
names_is (l.Or e f) w h = elim h [ inl n ↦ or_left (names_wire e w) (names_wire f w) (names_is e w n) | inr n ↦ or_right (names_wire e w) (names_wire f w) (names_is f w n) ]

-- all that name the wire of assign k come after it
pub all_above : (m : Circuit) → IsOrdered m → (starts : List ℕ) (lists : List (List ℕ)) (words : List ℕ) (k w : ℕ) (a : Assignment) →
    AreReaders m starts lists → slice_get m.assigns k ≡ Some a → a.target ≡ target.Wire w →
    HasAllAbove words k (get_or lists (length m.inputs + w) []) → length m.assigns + length m.regs ≤ 64 * length words → AllMarked m words (Wire w)
all_above m ord starts lists words k w a readers there t all room = record {
  assigns = λ i c hc n.
      let r = readers.assigns i c (Wire w) hc n in
      let g = ord.earlier i c hc w (names_is c.bit w n) in
      let e : g.0 ≡ k = ord.once g.0 k g.1 a g.3 there (g.4 ∙ sym t) in
      let lt = slice_get_within m.assigns i c hc in
      all r.0 i r.1 (omega (arith, g.2, e)) (omega arith);
  regs = λ i q hq n.
      let r = readers.regs i q (Wire w) hq n in
      let lt = slice_get_within m.assigns k a there in
      let lq = slice_get_within m.regs i q hq in
      all r.0 (length m.assigns + i) r.1 (omega arith) (omega arith);
}

pub seen_wire : (m : Circuit) → (s : State) (t : Target) (w : ℕ) (v : Bool) (words : List ℕ) → t ≡ target.Wire w → AllMarked m words (Wire w) →
    IsSeen m s (put s t v) words
seen_wire m s t w v words e all = record {
  by = λ x. elim (value_put s t v x) [
    | inl h ↦ inl (sym h)
    | inr h ↦
        let q : target.Wire w ≡ target.Wire h.0 = sym e ∙ h.1 in
        let same : w ≡ h.0 = cc in
        inr (subst (λ z. AllMarked m words z) (sym (h.2 ∙ ap Wire (sym same))) all)
  ];
}

-- the same for any operand, where all that is on its list is marked
pub all_listed : (m : Circuit) (starts : List ℕ) (lists : List (List ℕ)) (words : List ℕ) (x : Operand) → AreReaders m starts lists →
    HasAll words (get_or lists (place m starts x) []) → length m.assigns + length m.regs ≤ 64 * length words → AllMarked m words x
all_listed m starts lists words x readers all room = record {
  assigns = λ i c hc n.
      let r = readers.assigns i c x hc n in
      let lt = slice_get_within m.assigns i c hc in
      all r.0 i r.1 (omega arith);
  regs = λ i q hq n.
      let r = readers.regs i q x hq n in
      let lq = slice_get_within m.regs i q hq in
      all r.0 (length m.assigns + i) r.1 (omega arith);
}

seen_change_at : (m : Circuit) → IsOrdered m → (starts : List ℕ) (lists : List (List ℕ)) (s : State) (words : List ℕ) (k : ℕ) (a : Assignment) (v : Bool) →
    slice_get m.assigns k ≡ Some a → AreReaders m starts lists → length m.assigns + length m.regs ≤ 64 * length words →
    ((w : ℕ) → a.target ≡ target.Wire w → (at s a.target ≡ v) ⊎ HasAllAbove words k (get_or lists (length m.inputs + w) [])) →
    (t : Target) → a.target ≡ t → IsSeen m s (put s a.target v) words
seen_change_at m ord starts lists s words k a v there readers room h (target.Out o) e = seen_out m s a.target o v words e
seen_change_at m ord starts lists s words k a v there readers room h (target.Wire w) e = elim (h w e) [
  | inl same ↦ seen_same m s a.target v words same
  | inr all ↦ seen_wire m s a.target w v words e (all_above m ord starts lists words k w a readers there e all room)
]

pub seen_change : (m : Circuit) → IsOrdered m → (starts : List ℕ) (lists : List (List ℕ)) (s : State) (words : List ℕ) (k : ℕ) (a : Assignment) (v : Bool) →
    slice_get m.assigns k ≡ Some a → AreReaders m starts lists → length m.assigns + length m.regs ≤ 64 * length words →
    ((w : ℕ) → a.target ≡ target.Wire w → (at s a.target ≡ v) ⊎ HasAllAbove words k (get_or lists (length m.inputs + w) [])) →
    IsSeen m s (put s a.target v) words
seen_change m ord starts lists s words k a v there readers room h = seen_change_at m ord starts lists s words k a v there readers room h a.target refl
