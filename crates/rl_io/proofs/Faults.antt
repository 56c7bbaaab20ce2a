-- The faults of a shelf in memory: how their counts move with the count of calls.
use Rattle.std.proofs.Common.{◌≡◌, ℕ, ◌+◌, ◌-◌, ◌^◌, ◌<◌, ◌≤◌, List, [], ◌∷◌, subst, arith, inl, inr}
use Rattle.std.specs.Prelude.{All, Bool, true, false, cond, is_some, min, nat_le, ◌==◌, ◌||◌}
use Rattle.std.specs.List.{list_any, AllByRecursion}
use Rattle.std.specs.Map.{lookup}
use Rattle.std.specs.Str.{bytes_eq}
use Rattle.std.proofs.lemmas.Bool.{or_cases, eqb-true}
use Rattle.std.proofs.lemmas.Bool.Decides.{nat_tests}
use Rattle.std.proofs.lemmas.List.Elements.{recursion_from_All}
use Rattle.rl_io.specs.Causes.{Rose}
use Rattle.rl_io.specs.Files.{Files}
use Rattle.rl_io.specs.MemShelf.{count_upto, mem_faults}

one_more : (f before now a b : ℕ) → before < now → a ≤ b → cond (nat_le f before) 1 0 + a ≤ cond (nat_le f now) 1 0 + b
one_more f before now a b lt le = grind (arith, nat_tests)

pub stays : (fails : List ℕ) (before now : ℕ) → before ≤ now → count_upto before fails ≤ count_upto now fails
stays [] before now le = omega arith
stays (f ∷ fs) before now le = let h = stays fs before now le in grind (arith, nat_tests)

one_rises : (f before now a b : ℕ) (any : Bool) → before < now → a ≤ b → (any ≡ true → a + 1 ≤ b) → (f == now || any) ≡ true → cond (nat_le f before) 1 0 + a + 1 ≤ cond (nat_le f now) 1 0 + b
one_rises f before now a b any lt le h e = grind (arith, nat_tests)

pub rises : (fails : List ℕ) (before now : ℕ) → before < now → list_any (λ f. f == now) fails ≡ true → count_upto before fails + 1 ≤ count_upto now fails
rises [] before now lt any = absurd (cc)
rises (f ∷ fs) before now lt any =
    one_rises f before now (count_upto before fs) (count_upto now fs) (list_any (λ f. f == now) fs) lt (stays fs before now (omega arith)) (rises fs before now lt) any

-- a counter that is not at its end, of 64 bits
abbrev pub IsEarly : ℕ → Type 0
IsEarly f = f < 2 ^ 64 - 1

early_by : (fails : List ℕ) (now : ℕ) → AllByRecursion IsEarly fails → list_any (λ f. f == now) fails ≡ true → now < 2 ^ 64 - 1
early_by [] now all any = absurd (cc)
early_by (f ∷ fs) now all any =
    elim (or_cases (f == now) (list_any (λ f. f == now) fs) any) [ inl e ↦ subst IsEarly (eqb-true f now e) all.0 | inr r ↦ early_by fs now all.1 r ]

pub early_now : (fails : List ℕ) (now : ℕ) → All (λ f. f < 2 ^ 64 - 1) fails → list_any (λ f. f == now) fails ≡ true → now < 2 ^ 64 - 1
early_now fails now all any = early_by fails now (recursion_from_All IsEarly fails all) any

rose_of : (held : Bool) (fails : List ℕ) (before now : ℕ) → now ≡ before + 1 → list_any (λ f. f == now) fails ≡ true → Rose (cond held (count_upto before fails) before) (cond held (count_upto now fails) now)
rose_of true fails before now e any = let h = rises fails before now (omega arith) any in omega arith
rose_of false fails before now e any = omega arith

pub rose_at : (files : Files) (fails name : List ℕ) (before now : ℕ) → All (λ f. f < 2 ^ 64 - 1) fails → now ≡ min (before + 1) (2 ^ 64 - 1) → list_any (λ f. f == now) fails ≡ true → Rose (mem_faults files fails before name) (mem_faults files fails now name)
rose_at files fails name before now all e any =
    let lt = early_now fails now all any in
    rose_of (is_some (lookup (bytes_eq name) files)) fails before now (omega arith) any
