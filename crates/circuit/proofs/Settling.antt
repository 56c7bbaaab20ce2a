-- Activations, and the one settled state.
use Rattle.std.proofs.Common.{◌≡◌, ℕ, zero, suc, ◌+◌, ◌<◌, ◌≤◌, Bool, true, false, List, [], ◌∷◌, length, get_or, set, refl, ap, ◌∙◌, sym, subst, inl, inr, arith, Option, Some, None, add-zero}
use Rattle.std.specs.Prelude.{slice_get, ◌⊎◌}
use Rattle.std.proofs.lemmas.List.{get_or-set_same, get_or-set_other, set_past, length-set, same_lists, get_or_default}
use Rattle.std.proofs.lemmas.Option.{slice_get_within}
use Rattle.std.proofs.lemmas.Bool.{cases_lt}
use Rattle.circuit.specs.declared.bit.Target.{Target}
use Rattle.circuit.specs.declared.bit.Target.TheVariants as target
use Rattle.circuit.specs.Circuit.{Assignment, Circuit, names_wire}
use Rattle.circuit.specs.Valid.{IsTarget, IsOrdered}
use Rattle.circuit.specs.Meaning.{State, level, at, IsSettled, put, activate, activate_one, activate_all, HasLevels, InOrder, upto, SettlesInOrder, HasOneSettled}
use Rattle.circuit.proofs.Levels.{level_same}

-- one write to a list, read anywhere: unchanged, or the written value at its place
set_read : (xs : List Bool) (i j : ℕ) (v : Bool) → (get_or (set xs i v) j false ≡ get_or xs j false) ⊎ ((i ≡ j) × (get_or (set xs i v) j false ≡ v))
set_read xs i j v = elim (cases_lt i j) [
  | inl h ↦ inl (get_or-set_other xs i j v false (λ e. absurd (omega arith)))
  | inr h ↦ elim (cases_lt j i) [
    | inl g ↦ inl (get_or-set_other xs i j v false (λ e. absurd (omega arith)))
    | inr g ↦ elim (cases_lt i (length xs)) [
      | inl w ↦ let e : i ≡ j = omega arith in inr (e, subst (λ n. get_or (set xs i v) n false ≡ v) e (get_or-set_same xs i v false w))
      | inr w ↦ inl (ap (λ l. get_or l j false) (set_past xs i v w))
    ]
  ]
]

at_put : (s : State) (t u : Target) (v : Bool) → (at (put s t v) u ≡ at s u) ⊎ ((t ≡ u) × (at (put s t v) u ≡ v))
at_put s (target.Wire i) (target.Wire j) v = elim (set_read s.wires i j v) [ inl h ↦ inl h | inr h ↦ inr (ap target.Wire h.0, h.1) ]
at_put s (target.Wire i) (target.Out j) v = inl refl
at_put s (target.Out i) (target.Wire j) v = inl refl
at_put s (target.Out i) (target.Out j) v = elim (set_read s.outs i j v) [ inl h ↦ inl h | inr h ↦ inr (ap target.Out h.0, h.1) ]

at_put_same : (m : Circuit) (s : State) (t : Target) (v : Bool) → HasLevels m s → IsTarget m t → at (put s t v) t ≡ v
at_put_same m s (target.Wire i) v f h = get_or-set_same s.wires i v false (omega (arith, f.wires))
at_put_same m s (target.Out i) v f h = get_or-set_same s.outs i v false (omega (arith, f.outs))

-- inputs, registers and lengths stay
pub record Keeps (s s' : State) : Type 0 where
  pub inputs : s.inputs ≡ s'.inputs
  pub regs : s.regs ≡ s'.regs
  pub wires : length s'.wires ≡ length s.wires
  pub outs : length s'.outs ≡ length s.outs

put_keeps : (s : State) (t : Target) (v : Bool) → Keeps s (put s t v)
put_keeps s (target.Wire i) v = record { inputs = refl; regs = refl; wires = length-set s.wires i v; outs = refl }
put_keeps s (target.Out i) v = record { inputs = refl; regs = refl; wires = refl; outs = length-set s.outs i v }

one_keeps : (s : State) (o : Option Assignment) → Keeps s (activate_one s o)
one_keeps s None = record { inputs = refl; regs = refl; wires = refl; outs = refl }
one_keeps s (Some a) = put_keeps s a.target (level s a.bit)

pub all_keep : (m : Circuit) (s : State) (ks : List ℕ) → Keeps s (activate_all m s ks)
all_keep m s [] = record { inputs = refl; regs = refl; wires = refl; outs = refl }
all_keep m s (k ∷ ks) =
    let one = one_keeps s (slice_get m.assigns k) in
    let rest = all_keep m (activate m s k) ks in
    record { inputs = one.inputs ∙ rest.inputs; regs = one.regs ∙ rest.regs; wires = rest.wires ∙ one.wires; outs = rest.outs ∙ one.outs }

pub keep_fits : (m : Circuit) (s s' : State) → Keeps s s' → HasLevels m s → HasLevels m s'
keep_fits m s s' k f = record { wires = k.wires ∙ f.wires; outs = k.outs ∙ f.outs }

-- the first j assigns hold
pub record Holds (m : Circuit) (s : State) (j : ℕ) : Type 0 where
  pub by : (k : ℕ) (a : Assignment) → k < j → slice_get m.assigns k ≡ Some a → at s a.target ≡ level s a.bit

same_some : {A : Type 0} (o : Option A) (x y : A) → o ≡ Some x → o ≡ Some y → x ≡ y
same_some o x y p q = cc

-- what an activation of assign i leaves of the first j assigns that hold
module _ (m : Circuit) (ord : IsOrdered m) (s : State) (j : ℕ) (h : Holds m s j) (i : ℕ) (c : Assignment) (ic : slice_get m.assigns i ≡ Some c) where
  abbrev after : State
  after = put s c.target (level s c.bit)

  -- a wire that one of the first j + 1 assigns names_wire keeps its level
  wire_kept : (k : ℕ) (a : Assignment) → k ≤ j → slice_get m.assigns k ≡ Some a → (w : ℕ) → names_wire a.bit w ≡ true → get_or after.wires w false ≡ get_or s.wires w false
  wire_kept k a le ka w n = elim (at_put s c.target (target.Wire w) (level s c.bit)) [
    | inl e ↦ e
    | inr e ↦
        let g = ord.earlier k a ka w n in
        let same : i ≡ g.0 = ord.once i g.0 c g.1 ic g.3 (e.0 ∙ sym g.4) in
        let ic' : slice_get m.assigns g.0 ≡ Some c = subst (λ q. slice_get m.assigns q ≡ Some c) same ic in
        let held : at s c.target ≡ level s c.bit = h.by g.0 c (omega (arith, g.2)) ic' in
        e.1 ∙ (sym held ∙ ap (λ t. at s t) e.0)
  ]

  bit_kept : (k : ℕ) (a : Assignment) → k ≤ j → slice_get m.assigns k ≡ Some a → level after a.bit ≡ level s a.bit
  bit_kept k a le ka =
      let p = put_keeps s c.target (level s c.bit) in
      level_same after s (sym p.inputs) (sym p.regs) a.bit (wire_kept k a le ka)

  holds_after : Holds m after j
  holds_after = record {
    by = λ k a lt ka. elim (at_put s c.target a.target (level s c.bit)) [
      | inl e ↦ e ∙ (h.by k a lt ka ∙ sym (bit_kept k a (omega arith) ka))
      | inr e ↦
          let same : i ≡ k = ord.once i k c a ic ka e.0 in
          let ca : c ≡ a = same_some (slice_get m.assigns k) c a (subst (λ q. slice_get m.assigns q ≡ Some c) same ic) ka in
          e.1 ∙ (ap (λ z. level s z.bit) ca ∙ sym (bit_kept k a (omega arith) ka))
    ];
  }

  holds_one_more : HasLevels m s → i ≡ j → Holds m after (suc j)
  holds_one_more f here = record {
    by = λ k a lt ka. elim (cases_lt k j) [
      | inl w ↦ holds_after.by k a w ka
      | inr w ↦
          let same : i ≡ k = omega arith in
          let ca : c ≡ a = same_some (slice_get m.assigns k) c a (subst (λ q. slice_get m.assigns q ≡ Some c) same ic) ka in
          let put_c = at_put_same m s c.target (level s c.bit) f (ord.targets i c ic) in
          subst (λ z. at after z.target ≡ level after z.bit) ca (put_c ∙ sym (bit_kept i c (omega arith) ic))
    ];
  }

holds_option : (m : Circuit) → IsOrdered m → (s : State) (j : ℕ) → Holds m s j → (i : ℕ) (o : Option Assignment) → slice_get m.assigns i ≡ o → Holds m (activate_one s o) j
holds_option m ord s j h i None e = h
holds_option m ord s j h i (Some c) e = holds_after m ord s j h i c e

holds_activate : (m : Circuit) → IsOrdered m → (s : State) (j : ℕ) → Holds m s j → (i : ℕ) → Holds m (activate m s i) j
holds_activate m ord s j h i = holds_option m ord s j h i (slice_get m.assigns i) refl

more_option : (m : Circuit) → IsOrdered m → (s : State) (j : ℕ) → HasLevels m s → Holds m s j → (o : Option Assignment) → slice_get m.assigns j ≡ o → Holds m (activate_one s o) (suc j)
more_option m ord s j f h None e = record {
  by = λ k a lt ka. elim (cases_lt k j) [
    | inl w ↦ h.by k a w ka
    | inr w ↦ let same : k ≡ j = omega arith in let none : None ≡ Some a = sym e ∙ subst (λ q. slice_get m.assigns q ≡ Some a) same ka in (cc)
  ];
}
more_option m ord s j f h (Some c) e = holds_one_more m ord s j h j c e f refl

more_activate : (m : Circuit) → IsOrdered m → (s : State) (j : ℕ) → HasLevels m s → Holds m s j → Holds m (activate m s j) (suc j)
more_activate m ord s j f h = more_option m ord s j f h (slice_get m.assigns j) refl

-- activations in which n assigns from j on occur in order
pub holds_all : (m : Circuit) → IsOrdered m → (ks : List ℕ) (s : State) (j n : ℕ) → HasLevels m s → Holds m s j → InOrder (upto j n) ks → Holds m (activate_all m s ks) (j + n)
holds_all m ord [] s j zero f h o = subst (λ q. Holds m s q) (sym (add-zero j)) h
holds_all m ord [] s j (suc n) f h o = absurd o
holds_all m ord (k ∷ ks) s j zero f h o =
    holds_all m ord ks (activate m s k) j zero (keep_fits m s (activate m s k) (one_keeps s (slice_get m.assigns k)) f) (holds_activate m ord s j h k) tt
holds_all m ord (k ∷ ks) s j (suc n) f h o =
    let f' = keep_fits m s (activate m s k) (one_keeps s (slice_get m.assigns k)) f in
    elim o [
      | inl p ↦
          let h' : Holds m (activate m s k) (suc j) = subst (λ q. Holds m (activate m s q) (suc j)) (sym p.0) (more_activate m ord s j f h) in
          let e : suc j + n ≡ j + suc n = omega arith in
          subst (λ q. Holds m (activate_all m (activate m s k) ks) q) e (holds_all m ord ks (activate m s k) (suc j) n f' h' p.1)
      | inr p ↦ holds_all m ord ks (activate m s k) j (suc n) f' (holds_activate m ord s j h k) p
    ]

pub settles : (m : Circuit) → IsOrdered m → SettlesInOrder m
settles m ord s ks f o =
    let none : Holds m s 0 = record { by = λ k a lt ka. absurd (omega arith) } in
    let all = holds_all m ord ks s 0 (length m.assigns) f none o in
    let f' = keep_fits m s (activate_all m s ks) (all_keep m s ks) f in
    record {
      wires = f'.wires;
      outs = f'.outs;
      each = λ k a ka. all.by k a (let w = slice_get_within m.assigns k a ka in omega arith) ka;
    }

-- two settled states agree at the first k targets
agree_below : (m : Circuit) → IsOrdered m → (s s' : State) → IsSettled m s → IsSettled m s' → s.inputs ≡ s'.inputs → s.regs ≡ s'.regs →
    (n k : ℕ) (a : Assignment) → k < n → slice_get m.assigns k ≡ Some a → at s a.target ≡ at s' a.target
agree_below m ord s s' p q hi hr zero k a lt ka = absurd (omega arith)
agree_below m ord s s' p q hi hr (suc n) k a lt ka =
    let bits = level_same s s' hi hr a.bit (λ w nm.
    let g = ord.earlier k a ka w nm in
    let t = agree_below m ord s s' p q hi hr n g.0 g.1 (omega (arith, g.2)) g.3 in
    subst (λ z. at s z ≡ at s' z) g.4 t) in
    p.each k a ka ∙ (bits ∙ sym (q.each k a ka))

agree_at : (m : Circuit) → IsOrdered m → (s s' : State) → IsSettled m s → IsSettled m s' → s.inputs ≡ s'.inputs → s.regs ≡ s'.regs →
    (t : Target) → IsTarget m t → at s t ≡ at s' t
agree_at m ord s s' p q hi hr t is =
    let g = ord.given t is in
    subst (λ z. at s z ≡ at s' z) g.3 (agree_below m ord s s' p q hi hr (suc g.0) g.0 g.1 (omega arith) g.2)

read_false : (xs ys : List Bool) (k : ℕ) (d : Bool) → length xs ≡ length ys → k < length xs → get_or xs k false ≡ get_or ys k false → get_or xs k d ≡ get_or ys k d
read_false xs ys k d l w e = get_or_default xs k d false w ∙ (e ∙ get_or_default ys k false d (omega arith))

abbrev state_of : List Bool → List (List Bool) → List Bool → List Bool → State
state_of i r w o = record { inputs = i; regs = r; wires = w; outs = o }

pub same_state : (s s' : State) → s.inputs ≡ s'.inputs → s.regs ≡ s'.regs → s.wires ≡ s'.wires → s.outs ≡ s'.outs → s ≡ s'
same_state s s' i r w o =
    ap (λ x. state_of x s.regs s.wires s.outs) i ∙ (ap (λ x. state_of s'.inputs x s.wires s.outs) r ∙
    (ap (λ x. state_of s'.inputs s'.regs x s.outs) w ∙ ap (λ x. state_of s'.inputs s'.regs s'.wires x) o))

pub one_settled : (m : Circuit) → IsOrdered m → HasOneSettled m
one_settled m ord s s' p q hi hr =
    let lw : length s.wires ≡ length s'.wires = omega (arith, p.wires, q.wires) in
    let lo : length s.outs ≡ length s'.outs = omega (arith, p.outs, q.outs) in
    let w = same_lists s.wires s'.wires lw (λ k d h. read_false s.wires s'.wires k d lw h (agree_at m ord s s' p q hi hr (target.Wire k) (omega (arith, p.wires)))) in
    let o = same_lists s.outs s'.outs lo (λ k d h. read_false s.outs s'.outs k d lo h (agree_at m ord s s' p q hi hr (target.Out k) (omega (arith, p.outs)))) in
    same_state s s' hi hr w o
