-- The flags of a draft, all together.
use Rattle.std.proofs.Common.{◌≡◌, ℕ, suc, ◌+◌, ◌<◌, Bool, false, ◌&&◌, zero, List, [], ◌∷◌, length, map, get_or, refl, sym, ap, ◌∙◌, arith}
use Rattle.std.specs.Prelude.{is_some}
use Rattle.std.specs.List.{list_all}
use Rattle.circuit.specs.Meaning.{upto}
use Rattle.verilog_text.specs.Judging.{Declared}
use Rattle.verilog_read.specs.Draft.{AreFlags}

all_flags : (f : ℕ → Bool) (flags : List Bool) (j : ℕ) → ((k : ℕ) → k < length flags → get_or flags k false ≡ f (j + k)) → list_all (λ b. b) flags ≡ list_all f (upto j (length flags))
all_flags f [] j h = refl
all_flags f (b ∷ flags) j h =
    let z : j + 0 ≡ j = omega arith in
    let head : b ≡ f j = h zero (omega arith) ∙ ap f z in
    λ i. head i && all_flags f flags (suc j) (λ k lt. let y : j + suc k ≡ suc j + k = omega arith in h (suc k) (omega (arith, lt)) ∙ ap f y) i

pub flags_all : (flags : List Bool) (n : ℕ) (f : ℕ → Bool) → AreFlags flags n f → list_all (λ b. b) flags ≡ list_all f (upto 0 n)
flags_all flags n f h =
    all_flags f flags 0 (λ k lt. let z : 0 + k ≡ k = omega arith in let l = h.len in h.each k (omega (arith, l, lt)) ∙ ap f (sym z)) ∙ ap (λ (m : ℕ). list_all f (upto 0 m)) h.len

pub nexts_all : (rs : List Declared) → list_all (λ b. b) (map (λ r. is_some r.next) rs) ≡ list_all (λ r. is_some r.next) rs
nexts_all [] = refl
nexts_all (r ∷ rs) = ap (λ (b : Bool). is_some r.next && b) (nexts_all rs)
