-- Gates have at most one timing: cycle by cycle, and in a cycle gate by gate, two timings have the same levels.
use Rattle.std.proofs.Common.{◌≡◌, ℕ, zero, suc, ◌<◌, ◌≤◌, true, false, length, get_or, List, refl, ap, ◌∙◌, sym, subst, inl, inr, arith, Some}
use Rattle.std.specs.Prelude.{slice_get, not, ◌&&◌, ◌||◌, nat_le}
use Rattle.std.proofs.lemmas.Bool.{cases_lt}
use Rattle.std.proofs.lemmas.Bool.Decides.{nat_tests}
use Rattle.std.proofs.lemmas.Option.{slice_get_within, slice_get-get_or}
use Rattle.rl_time.specs.declared.time.Time.{Time}
use Rattle.rl_time.specs.declared.time.Time.TheVariants.{At, Never}
use Rattle.rl_time.specs.Time.{time_lt, time_inc, has_risen}
use Rattle.gate_lower.specs.declared.gates.Line.{Line}
use Rattle.gate_lower.specs.declared.gates.Line.TheVariants as line
use Rattle.gate_lower.specs.declared.gates.Gate.{Gate}
use Rattle.gate_lower.specs.declared.gates.Gate.TheVariants as gate
use Rattle.gate_lower.specs.declared.gates.Delay.{Delay}
use Rattle.gate_lower.specs.Netlist.{Netlist}
use Rattle.gate_lower.specs.Rules.{IsLine, HasLines, IsNetlist}
use Rattle.gate_lower.specs.Timing.{line_time, gate_time, IsTiming, TimingsAgree}
use Rattle.gate_lower.proofs.Risen.{risen_min, risen_max, risen_lt, risen_inc-suc, risen_inc-start, time_inc-zero}

-- ---- times by their levels

pub self_risen : (m : ℕ) → nat_le m m ≡ true
self_risen m = grind (arith, nat_tests)

pub risen_le : (m n : ℕ) → nat_le m n ≡ true → m ≤ n
risen_le m n e = grind (arith, nat_tests)

pub same_number : (m n : ℕ) → m ≤ n → n ≤ m → m ≡ n
same_number m n a b = omega (arith, a, b)

times_same : (a b : Time) → ((t : ℕ) → has_risen a t ≡ has_risen b t) → a ≡ b
times_same Never Never h = refl
times_same (At m) Never h = absurd (let e : true ≡ false = sym (self_risen m) ∙ h m in cc)
times_same Never (At n) h = absurd (let e : false ≡ true = h n ∙ self_risen n in cc)
times_same (At m) (At n) h = ap At (same_number m n (risen_le m n (h n ∙ self_risen n)) (risen_le n m (sym (h m) ∙ self_risen m)))

-- a later time has the same levels where the earlier ones have
inc_same : (a b : Time) (c t : ℕ) → ((u : ℕ) → u ≤ t → has_risen a u ≡ has_risen b u) → has_risen (time_inc a c) t ≡ has_risen (time_inc b c) t
inc_same a b zero t h = ap (λ (z : Time). has_risen z t) (time_inc-zero a) ∙ h t (omega arith) ∙ ap (λ (z : Time). has_risen z t) (sym (time_inc-zero b))
inc_same a b (suc c) zero h = risen_inc-start a c ∙ sym (risen_inc-start b c)
inc_same a b (suc c) (suc t) h = risen_inc-suc a c t ∙ inc_same a b c t (λ u le. h u (omega (arith, le))) ∙ sym (risen_inc-suc b c t)

pub tap_same : (a b : Time) (c t : ℕ) → 1 ≤ c → ((u : ℕ) → u < t → has_risen a u ≡ has_risen b u) → has_risen (time_inc a c) t ≡ has_risen (time_inc b c) t
tap_same a b zero t some h = absurd (omega (arith, some))
tap_same a b (suc c) zero some h = risen_inc-start a c ∙ sym (risen_inc-start b c)
tap_same a b (suc c) (suc t) some h = risen_inc-suc a c t ∙ inc_same a b c t (λ u le. h u (omega (arith, le))) ∙ sym (risen_inc-suc b c t)

module _ (g : Netlist) (ok : IsNetlist g) (x : List Time) (gt dt gt' dt' : ℕ → Time) (tm : IsTiming g x gt dt) (tm' : IsTiming g x gt' dt') where
  -- the levels of a cycle are the same
  record Same (t : ℕ) : Type 0 where
    gates : (k : ℕ) → k < length g.gates → has_risen (gt k) t ≡ has_risen (gt' k) t
    delays : (n : ℕ) → n < length g.delays → has_risen (dt n) t ≡ has_risen (dt' n) t

  module _ (t : ℕ) (before : (u : ℕ) → u < t → Same u) where
    record SameBelow (n : ℕ) : Type 0 where
      by : (k : ℕ) → k < n → k < length g.gates → has_risen (gt k) t ≡ has_risen (gt' k) t

    line_same : (n : ℕ) → n ≤ length g.gates → SameBelow n → (l : Line) → IsLine g n l → has_risen (line_time x gt dt l) t ≡ has_risen (line_time x gt' dt' l) t
    line_same n le w line.Low h = refl
    line_same n le w (line.Input i) h = refl
    line_same n le w (line.Gate j) h = w.by j h (omega (arith, h, le))
    line_same n le w (line.Tap i c) h = tap_same (dt i) (dt' i) c t h.2 (λ u lt. (before u lt).delays i (slice_get_within g.delays i h.0 h.1))

    gate_same : (k : ℕ) (q : Gate) → k < length g.gates → SameBelow k → slice_get g.gates k ≡ Some q → HasLines g k q → has_risen (gate_time x gt dt q) t ≡ has_risen (gate_time x gt' dt' q) t
    gate_same k (gate.Or a b) lt w e h =
        let ea = line_same k (omega (arith, lt)) w a h.0 in
        let eb = line_same k (omega (arith, lt)) w b h.1 in
        risen_min (line_time x gt dt a) (line_time x gt dt b) t ∙ (λ i. ea i || eb i) ∙ sym (risen_min (line_time x gt' dt' a) (line_time x gt' dt' b) t)
    gate_same k (gate.And a b) lt w e h =
        let ea = line_same k (omega (arith, lt)) w a h.0 in
        let eb = line_same k (omega (arith, lt)) w b h.1 in
        risen_max (line_time x gt dt a) (line_time x gt dt b) t ∙ (λ i. ea i && eb i) ∙ sym (risen_max (line_time x gt' dt' a) (line_time x gt' dt' b) t)
    gate_same k (gate.Latch a b) lt w e h =
        let ea = line_same k (omega (arith, lt)) w a h.0 in
        let eb = line_same k (omega (arith, lt)) w b h.1 in
        let l = time_lt (line_time x gt dt a) (line_time x gt dt b) in
        let l' = time_lt (line_time x gt' dt' a) (line_time x gt' dt' b) in
        let held = tap_same l l' 1 t (omega arith) (λ u lu. ap (λ (z : Time). has_risen z u) (sym (tm.each_gate k (gate.Latch a b) e)) ∙ (before u lu).gates k lt ∙ ap (λ (z : Time). has_risen z u) (tm'.each_gate k (gate.Latch a b) e)) in
        risen_lt (line_time x gt dt a) (line_time x gt dt b) t ∙ (λ i. held i || (ea i && not (eb i))) ∙ sym (risen_lt (line_time x gt' dt' a) (line_time x gt' dt' b) t)

    same_below : (n : ℕ) → SameBelow n
    same_below zero = record { by = λ k lt w. absurd (omega arith) }
    same_below (suc n) = record {
      by = λ k lt w.
          let before_k : SameBelow k = record { by = λ j h u. (same_below n).by j (omega (arith, h, lt)) u } in
          let d : Gate = gate.Or line.Low line.Low in
          let q = get_or g.gates k d in
          let e = slice_get-get_or g.gates k d w in
          ap (λ (z : Time). has_risen z t) (tm.each_gate k q e) ∙ gate_same k q w before_k e (ok.gates k q e) ∙ ap (λ (z : Time). has_risen z t) (sym (tm'.each_gate k q e));
    }

    same_at : Same t
    same_at = record {
      gates = λ k lt. (same_below (length g.gates)).by k lt lt;
      delays = λ n lt.
          let f : Delay = record { from = line.Low; width = 0 } in
          let d = get_or g.delays n f in
          let e = slice_get-get_or g.delays n f lt in
          ap (λ (z : Time). has_risen z t) (tm.each_delay n d e)
          ∙ line_same (length g.gates) (omega arith) (same_below (length g.gates)) d.from (ok.delays n d e)
          ∙ ap (λ (z : Time). has_risen z t) (sym (tm'.each_delay n d e));
    }

  before : (t u : ℕ) → u < t → Same u
  before zero u lt = absurd (omega arith)
  before (suc t) u lt = elim (cases_lt u t) [
    | inl h ↦ before t u h
    | inr h ↦ let e : t ≡ u = omega (arith, h, lt) in subst Same e (same_at t (before t))
  ]

  same : (t : ℕ) → Same t
  same t = before (suc t) t (omega arith)

  pub agree : ((k : ℕ) → k < length g.gates → gt k ≡ gt' k) × ((n : ℕ) → n < length g.delays → dt n ≡ dt' n)
  agree = (λ k lt. times_same (gt k) (gt' k) (λ t. (same t).gates k lt), λ n lt. times_same (dt n) (dt' n) (λ t. (same t).delays n lt))

pub timings_agree : (g : Netlist) (x : List Time) → IsNetlist g → TimingsAgree g x
timings_agree g x ok gt dt gt' dt' tm tm' = agree g ok x gt dt gt' dt' tm tm'
