-- Mentions of operands, one item after another.
use Rattle.std.specs.Prelude.{◌≡◌, ℕ, ◌+◌, ◌≤◌, ◌<◌, List, length, slice_get, slice_index_or, Some}
use Rattle.circuit.specs.Circuit.{Logic, Assignment, Register, Circuit}
use Rattle.levels.specs.declared.mention.Mention.{Mention}
use Rattle.levels.specs.Flat.{Tallied}
use Rattle.levels.specs.Operands.{Operand, Names, place}

-- the number of places is right, and each register's bits have places
pub record HasPlaces (m : Circuit) (starts : List ℕ) (count : ℕ) : Type 0 where
  pub few_inputs : length m.inputs ≤ 64
  pub few_wires : length m.wires ≤ 65536
  pub levels : length m.inputs + length m.wires ≤ count
  pub few : count ≤ 2000000
  pub bits : (r : ℕ) (q : Register) → slice_get m.regs r ≡ Some q →
      length m.inputs + length m.wires + slice_index_or starts r 0 + q.width ≤ count

-- what was mentioned stays so
pub record IsKept (t t' : Tallied) : Type 0 where
  pub count : length t'.counts ≡ length t.counts
  pub kept : (i : ℕ) (x : Mention) → slice_get t.list i ≡ Some x → slice_get t'.list i ≡ Some x

-- the item mentions the place
pub record IsMentioned (t : Tallied) (p item : ℕ) : Type 0 where
  pub at : ℕ
  pub mention : Mention
  pub there : slice_get t.list at ≡ Some mention
  pub place_is : mention.place ≡ p
  pub item_is : mention.item ≡ item

pub record IsPut (t t' : Tallied) (p item : ℕ) : Type 0 where
  pub kept : IsKept t t'
  pub there : IsMentioned t' p item

pub record IsRecorded (m : Circuit) (starts : List ℕ) (e : Logic) (item : ℕ) (t t' : Tallied) : Type 0 where
  pub kept : IsKept t t'
  pub named : (x : Operand) → Names e x → IsMentioned t' (place m starts x) item

pub record AreAssignsRecorded (m : Circuit) (starts : List ℕ) (t : Tallied) (count : ℕ) : Type 0 where
  pub by : (k : ℕ) (a : Assignment) (x : Operand) → k < count → slice_get m.assigns k ≡ Some a → Names a.bit x → IsMentioned t (place m starts x) k

pub record AreRegsRecorded (m : Circuit) (starts : List ℕ) (t : Tallied) (count : ℕ) : Type 0 where
  pub by : (r : ℕ) (q : Register) (x : Operand) → r < count → slice_get m.regs r ≡ Some q → Names q.next x →
      IsMentioned t (place m starts x) (length m.assigns + r)
