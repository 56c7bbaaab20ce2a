-- What the reader's tests say of a declaration, and of the header.
use Rattle.std.proofs.Common.{◌≡◌, ℕ, ◌+◌, ◌<◌, ◌≤◌, Bool, true, false, not, ◌||◌, eqb, ltb, List, length, Option, Some, None, refl, sym, ap, ◌∙◌, arith, inl, inr, codes}
use Rattle.std.specs.Prelude.{min}
use Rattle.std.specs.Str.{bytes_eq}
use Rattle.std.proofs.lemmas.List.{length-map}
use Rattle.std.proofs.lemmas.Bool.{cases_lt, lt-ltb, le-ltb}
use Rattle.std.proofs.lemmas.Bool.Decides.{nat_tests}
use Rattle.verilog_text.specs.declared.rule.Rule.TheVariants as rule
use Rattle.verilog_text.specs.Grammar as g
use Rattle.verilog_text.specs.Judging as j
use Rattle.verilog_text.specs.Judging.{SoFar, nothing_yet, bits_of, register_of, width_of, number_of, first_rule}
use Rattle.verilog_read.specs.declared.draft.Draft as source
use Rattle.verilog_read.specs.Known.{capped_width, narrow}
use Rattle.verilog_read.specs.Draft.{IsDraft, input_misnamed_by, output_misnamed_by, own_misnamed_by}
use Rattle.verilog_read.proofs.Kept.{name_broken, width_broken, limit_broken, none_broken, input_misnamed_is, output_misnamed_is, own_misnamed_is}

-- ---- bounds

module _ (d : source.Draft) (x : SoFar) (h : IsDraft d x) where
  pub few_inputs : length d.inputs.items ≤ 64
  few_inputs = let a = h.sound.few_inputs in let b = ap length h.inputs in omega (arith, a, b)

  pub few_outputs : length d.outputs.items ≤ 64
  few_outputs = let a = h.sound.few_outputs in let b = ap length h.outputs in omega (arith, a, b)

  pub few_wires : length d.wires.items ≤ 65536
  few_wires = let a = h.sound.few_wires in let b = ap length h.wires in omega (arith, a, b)

  pub few_regs : length d.regs.items ≤ 65536
  few_regs = let a = h.sound.few_bits in let b = h.sound.few_regs in let c = ap length h.regs in let l = length-map x.regs register_of in omega (arith, a, b, c, l)

  pub few_bits : d.bits ≤ 65536
  few_bits = let a = h.sound.few_bits in let b = h.bits in omega (arith, a, b)

-- ---- ports

module _ (d : source.Draft) (x : SoFar) (h : IsDraft d x) (n : List ℕ) (b : Bool) where
  pub input_broken : b ≡ input_misnamed_by d n → b ≡ true → first_rule x (g.Input n) ≡ Some rule.Name
  input_broken e t = name_broken x (g.Input n) (sym (input_misnamed_is d x h n) ∙ sym e ∙ t)

  pub input_stands : b ≡ input_misnamed_by d n → b ≡ false → first_rule x (g.Input n) ≡ None
  input_stands e t = none_broken x (g.Input n) (sym (input_misnamed_is d x h n) ∙ sym e ∙ t) refl refl refl

  pub output_broken : b ≡ output_misnamed_by d n → b ≡ true → first_rule x (g.Output n) ≡ Some rule.Name
  output_broken e t = name_broken x (g.Output n) (sym (output_misnamed_is d x h n) ∙ sym e ∙ t)

  pub output_stands : b ≡ output_misnamed_by d n → b ≡ false → first_rule x (g.Output n) ≡ None
  output_stands e t = none_broken x (g.Output n) (sym (output_misnamed_is d x h n) ∙ sym e ∙ t) refl refl refl

  -- ---- wires

  pub wire_misnamed : b ≡ own_misnamed_by d n → b ≡ true → first_rule x (g.Wire n) ≡ Some rule.Name
  wire_misnamed e t = name_broken x (g.Wire n) (sym (own_misnamed_is d x h n) ∙ sym e ∙ t)

  wires_is : ltb 65536 (length d.wires.items + 1) ≡ j.breaks_limit x (g.Wire n)
  wires_is = ap (λ (ws : List (List ℕ)). ltb 65536 (length ws + 1)) h.wires

  pub wire_over : b ≡ own_misnamed_by d n → b ≡ false → 65536 < length d.wires.items + 1 → first_rule x (g.Wire n) ≡ Some rule.Limit
  wire_over e t lt = limit_broken x (g.Wire n) (sym (own_misnamed_is d x h n) ∙ sym e ∙ t) refl refl (sym wires_is ∙ lt-ltb 65536 _ lt)

  pub wire_stands : b ≡ own_misnamed_by d n → b ≡ false → length d.wires.items + 1 ≤ 65536 → first_rule x (g.Wire n) ≡ None
  wire_stands e t le = none_broken x (g.Wire n) (sym (own_misnamed_is d x h n) ∙ sym e ∙ t) refl refl (sym wires_is ∙ le-ltb 65536 _ le)

-- ---- registers

eq_false : (n : ℕ) → 1 ≤ n → eqb n 0 ≡ false
eq_false n h = grind (arith, nat_tests)

capped_zero : (k : ℕ) → eqb k 0 ≡ eqb (min k 100000) 0
capped_zero k = elim (cases_lt 0 k) [
  | inl lt ↦ eq_false k (omega arith) ∙ sym (eq_false (min k 100000) (omega arith))
  | inr le ↦ let z : min k 100000 ≡ k = omega arith in ap (λ (n : ℕ). eqb n 0) (sym z)
]

pub small_width : (l : Option (List ℕ)) → capped_width l ≤ 100001
small_width None = omega arith
small_width (Some m) = omega arith

module _ (d : source.Draft) (x : SoFar) (h : IsDraft d x) (l : Option (List ℕ)) (n : List ℕ) (b : Bool) where
  width_is : (l : Option (List ℕ)) → j.breaks_width x (g.Reg l n) ≡ narrow l
  width_is None = refl
  width_is (Some m) = capped_zero (number_of m)

  pub reg_misnamed : b ≡ own_misnamed_by d n → b ≡ true → first_rule x (g.Reg l n) ≡ Some rule.Name
  reg_misnamed e t = name_broken x (g.Reg l n) (sym (own_misnamed_is d x h n) ∙ sym e ∙ t)

  pub reg_narrow : b ≡ own_misnamed_by d n → b ≡ false → narrow l ≡ true → first_rule x (g.Reg l n) ≡ Some rule.Width
  reg_narrow e t w = width_broken x (g.Reg l n) (sym (own_misnamed_is d x h n) ∙ sym e ∙ t) refl (width_is l ∙ w)

  pub reg_over : b ≡ own_misnamed_by d n → b ≡ false → narrow l ≡ false → 65536 < d.bits + capped_width l → first_rule x (g.Reg l n) ≡ Some rule.Limit
  reg_over e t w lt = limit_broken x (g.Reg l n) (sym (own_misnamed_is d x h n) ∙ sym e ∙ t) refl (width_is l ∙ w)
      (lt-ltb 65536 (bits_of x.regs + width_of l) (let b = h.bits in let c = less l in omega (arith, b, c, lt))) where
        less : (l : Option (List ℕ)) → capped_width l ≤ width_of l
        less None = omega arith
        less (Some m) = omega arith

  pub reg_stands : b ≡ own_misnamed_by d n → b ≡ false → narrow l ≡ false → d.bits + capped_width l ≤ 65536 → first_rule x (g.Reg l n) ≡ None
  reg_stands e t w le = none_broken x (g.Reg l n) (sym (own_misnamed_is d x h n) ∙ sym e ∙ t) refl (width_is l ∙ w)
      (le-ltb 65536 (bits_of x.regs + width_of l) (let b = h.bits in let c = same l le in omega (arith, b, c, le))) where
        same : (l : Option (List ℕ)) → d.bits + capped_width l ≤ 65536 → capped_width l ≡ width_of l
        same None le = refl
        same (Some m) le = omega (arith, le)

-- ---- the header

pub header_misnamed : (x : SoFar) (n : List ℕ) (ports : List (List ℕ)) → bytes_eq n (codes "race") ≡ false → first_rule x (g.Header n ports) ≡ Some rule.Name
header_misnamed x n ports e = name_broken x (g.Header n ports) (ap (λ (b : Bool). not b || not (j.are_ports ports)) e)

pub header_unlisted : (x : SoFar) (n : List ℕ) (ports : List (List ℕ)) → j.are_ports ports ≡ false → first_rule x (g.Header n ports) ≡ Some rule.Name
header_unlisted x n ports e = name_broken x (g.Header n ports) (ap (λ (b : Bool). not (bytes_eq n (codes "race")) || not b) e ∙ last (not (bytes_eq n (codes "race")))) where
  last : (b : Bool) → (b || true) ≡ true
  last true = refl
  last false = refl

named_well : (n : List ℕ) (ports : List (List ℕ)) (x : SoFar) → bytes_eq n (codes "race") ≡ true → j.are_ports ports ≡ true → j.breaks_name x (g.Header n ports) ≡ false
named_well n ports x e f = λ i. not (e i) || not (f i)

pub header_over : (x : SoFar) (n : List ℕ) (ports : List (List ℕ)) → bytes_eq n (codes "race") ≡ true → j.are_ports ports ≡ true → j.are_few ports ≡ false → first_rule x (g.Header n ports) ≡ Some rule.Limit
header_over x n ports e f k = limit_broken x (g.Header n ports) (named_well n ports x e f) refl refl (ap not k)

pub header_stands : (x : SoFar) (n : List ℕ) (ports : List (List ℕ)) → bytes_eq n (codes "race") ≡ true → j.are_ports ports ≡ true → j.are_few ports ≡ true → first_rule x (g.Header n ports) ≡ None
header_stands x n ports e f k = none_broken x (g.Header n ports) (named_well n ports x e f) refl refl (ap not k)
