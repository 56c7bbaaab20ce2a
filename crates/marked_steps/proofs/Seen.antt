-- Levels that depend on the named operands only, and what stays up to date.
use Rattle.std.proofs.Common.{◌≡◌, ℕ, ◌+◌, List, length, refl, ap, ◌∙◌, inl, inr, Some}
use Rattle.std.specs.Prelude.{not, ◌&&◌, ◌||◌, slice_get}
use Rattle.circuit.specs.Circuit as l
use Rattle.circuit.specs.Circuit.{Logic, Assignment, Register, Circuit}
use Rattle.circuit.specs.Meaning.{State, level}
use Rattle.levels.specs.Marked.{IsUnmarked, HasMore}
use Rattle.levels.proofs.Listed.{marked_unmarked}
use Rattle.levels.specs.Operands.{Operand, Input, Wire, Bit, value, Names}
use Rattle.marked_steps.specs.UpToDate.{AllMarked, IsSeen}

-- a level depends on the named operands only
pub level_by : (s s' : State) (e : Logic) → ((x : Operand) → Names e x → value s x ≡ value s' x) → level s e ≡ level s' e
level_by s s' l.Zero h = refl
level_by s s' l.One h = refl
level_by s s' (l.Input i) h = h (Input i) refl
level_by s s' (l.Wire w) h = h (Wire w) refl
level_by s s' (l.Reg r k) h = h (Bit r k) refl
level_by s s' (l.Not e) h = ap not (level_by s s' e h)
level_by s s' (l.And e f) h =
    ap (λ v. v && level s f) (level_by s s' e (λ x n. h x (inl n))) ∙ ap (λ v. level s' e && v) (level_by s s' f (λ x n. h x (inr n)))
level_by s s' (l.Or e f) h =
    ap (λ v. v || level s f) (level_by s s' e (λ x n. h x (inl n))) ∙ ap (λ v. level s' e || v) (level_by s s' f (λ x n. h x (inr n)))

-- an assign that isn't marked has the same level in both states
pub assign_seen : (m : Circuit) (s s' : State) (words : List ℕ) → IsSeen m s s' words → (k : ℕ) (a : Assignment) → slice_get m.assigns k ≡ Some a →
    IsUnmarked words k → level s a.bit ≡ level s' a.bit
assign_seen m s s' words h k a there u = level_by s s' a.bit (λ x n. elim (h.by x) [
  | inl e ↦ e
  | inr all ↦ absurd (marked_unmarked words k (all.assigns k a there n) u)
])

pub reg_seen : (m : Circuit) (s s' : State) (words : List ℕ) → IsSeen m s s' words → (r : ℕ) (q : Register) → slice_get m.regs r ≡ Some q →
    IsUnmarked words (length m.assigns + r) → level s q.next ≡ level s' q.next
reg_seen m s s' words h r q there u = level_by s s' q.next (λ x n. elim (h.by x) [
  | inl e ↦ e
  | inr all ↦ absurd (marked_unmarked words (length m.assigns + r) (all.regs r q there n) u)
])

pub all_more : (m : Circuit) (words words' : List ℕ) (x : Operand) → AllMarked m words x → HasMore words words' → AllMarked m words' x
all_more m words words' x h more = record {
  assigns = λ k a there n. more.kept k (h.assigns k a there n);
  regs = λ r q there n. more.kept (length m.assigns + r) (h.regs r q there n);
}

pub seen_refl : (m : Circuit) (s : State) (words : List ℕ) → IsSeen m s s words
seen_refl m s words = record { by = λ x. inl refl }

-- one change after another
pub seen_on : (m : Circuit) (s s' s'' : State) (words words' : List ℕ) → IsSeen m s s' words → HasMore words words' → IsSeen m s' s'' words' →
    IsSeen m s s'' words'
seen_on m s s' s'' words words' h more h' = record {
  by = λ x. elim (h'.by x) [
    | inr all ↦ inr all
    | inl e' ↦ elim (h.by x) [ inl e ↦ inl (e ∙ e') | inr all ↦ inr (all_more m words words' x all more) ]
  ];
}
