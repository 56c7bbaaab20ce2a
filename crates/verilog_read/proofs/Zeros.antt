-- So many bits, all 0, as they are written.
use Rattle.std.proofs.Common.{◌≡◌, ℕ, ◌-◌, Bool, true, false, List, ◌++◌, length, take, drop, refl, sym, ap, ◌∙◌, arith, codes}
use Rattle.std.specs.Prelude.{decimal}
use Rattle.std.specs.Str.{bytes_eq}
use Rattle.std.proofs.lemmas.List.{take-append-drop, append_cancel_right, drop_at, length-append}
use Rattle.verilog_text.specs.Judging.{zero_bits}
use Rattle.verilog_read.proofs.Looked.{eq_same, eq_refl}

same_bools : (a b : Bool) → (a ≡ true → b ≡ true) → (b ≡ true → a ≡ true) → a ≡ b
same_bools true b h k = sym (h refl)
same_bools false true h k = k refl
same_bools false false h k = refl

abbrev tail : List ℕ
tail = codes "'b0"

pub zero_some : (z digits : List ℕ) (w : ℕ) (b : Bool) → bytes_eq (drop (length z - 3) z) tail ≡ true → digits ≡ take (length z - 3) z → b ≡ bytes_eq digits (decimal w) → b ≡ bytes_eq z (zero_bits w)
zero_some z digits w b e f g =
    let n = length z - 3 in
    let whole : digits ++ tail ≡ z = (λ i. f i ++ sym (eq_same (drop n z) tail e) i) ∙ take-append-drop n z in
    g ∙ same_bools (bytes_eq digits (decimal w)) (bytes_eq z (zero_bits w))
    (λ h. ap (λ (y : List ℕ). bytes_eq y (zero_bits w)) (sym whole ∙ ap (λ (d : List ℕ). d ++ tail) (eq_same digits (decimal w) h)) ∙ eq_refl (zero_bits w))
    (λ h. let s = append_cancel_right digits (decimal w) tail (whole ∙ eq_same z (zero_bits w) h) in ap (λ (d : List ℕ). bytes_eq d (decimal w)) s ∙ eq_refl (decimal w))

pub zero_none : (z : List ℕ) (w : ℕ) → bytes_eq (drop (length z - 3) z) tail ≡ false → false ≡ bytes_eq z (zero_bits w)
zero_none z w e = either (bytes_eq z (zero_bits w)) refl where
  either : (b : Bool) → bytes_eq z (zero_bits w) ≡ b → false ≡ b
  either false h = refl
  either true h = absurd (
      let s = eq_same z (zero_bits w) h in
      let l : length (decimal w) ≡ length z - 3 = let a = length-append (decimal w) tail in let b = ap length s in omega (arith, a, b) in
      let d : drop (length z - 3) z ≡ tail = ap (drop (length z - 3)) s ∙ drop_at (decimal w) tail (length z - 3) l in
      let t : false ≡ true = sym e ∙ ap (λ (y : List ℕ). bytes_eq y tail) d ∙ eq_refl tail in cc)
