-- A chain, one assumption longer at its end.
use Rattle.std.proofs.Common.{◌≡◌, ℕ, ◌<◌, ◌≤◌, ◌+◌, refl, ap, subst, arith, sym, ◌∙◌, List, [], ◌∷◌, ◌++◌, inl, inr, length, true, append_assoc}
use Rattle.std.specs.Prelude.{pos, ◌+ℤ◌, ◌-ℤ◌, ◌≤ℤ◌, nat_lt, nat_eq, ◌&&◌}
use Rattle.std.proofs.lemmas.Int.{ints}
use Rattle.std.proofs.lemmas.List.{append-nil}
use Rattle.std.proofs.lemmas.Bool.Decides.{nat_tests}
use Rattle.refutation.specs.declared.assumption.Assumption.{Assumption}
use Rattle.refutation.specs.Path.{at, runs, sum_of}
use Rattle.diff_bounds.specs.Search.{raised, IsStep, IsRunning, HasChain, AreMet}
use Rattle.diff_bounds.proofs.Ending.{and_is, chain_step}
use Rattle.diff_bounds.proofs.Least.{and_true, equal}

pub runs_last : (edges : List Assumption) (i k e : ℕ) (chain : List ℕ) → runs edges i k chain ≡ true → e < length edges → (at edges e).from ≡ k
    → runs edges i (at edges e).to (chain ++ e ∷ []) ≡ true
runs_last edges i k e [] h lt from = chain_step edges i (at edges e).to e [] lt (from ∙ sym (equal i k h)) (same (at edges e).to)
  where
    same : (i : ℕ) → nat_eq i i ≡ true
    same i = grind (arith, nat_tests)
runs_last edges i k e (f ∷ chain) h lt from =
    let p = and_true (nat_lt f (length edges) && nat_eq (at edges f).from i) _ h in
    and_is (nat_lt f (length edges) && nat_eq (at edges f).from i) _ p.0 (runs_last edges (at edges f).to k e chain p.1 lt from)

pub sum_last : (edges : List Assumption) (e : ℕ) (chain : List ℕ) → sum_of edges (chain ++ e ∷ []) ≡ (sum_of edges chain +ℤ (at edges e).bound)
sum_last edges e [] = omega (arith, ints)
sum_last edges e (f ∷ chain) = let h = sum_last edges e chain in omega (arith, ints, h)

-- an input below the limit that is not the target has a step, to an input below the limit
pub has_step : (n : ℕ) (edges : List Assumption) (y d v t : ℕ → ℕ) (turn target limit k e l : ℕ) → AreMet n edges y → IsRunning n edges y d v t turn target limit k e
    → l < n → d l < limit → (l ≡ target → ⊥) → IsStep n edges y d v t l × (d (at edges (v l)).to < limit)
has_step n edges y d v t turn target limit k e l met r hl low other = elim (r.steps l hl) [
  | inl q ↦ absurd (other q)
  | inr (inl m) ↦ absurd (omega (arith, m, low))
  | inr (inr s) ↦ (s, nearer s)
]
  where
    nearer : IsStep n edges y d v t l → d (at edges (v l)).to < limit
    nearer s = let x = s.exact in let m = subst (λ (a : ℕ). (pos (y a) -ℤ pos (y (at edges (v l)).to)) ≤ℤ (at edges (v l)).bound) s.from (met (v l) s.known).1.1.0 in omega (arith, ints, x, m, low)

pub length_last : (chain : List ℕ) (e : ℕ) → length (chain ++ e ∷ []) ≡ length chain + 1
length_last [] e = refl
length_last (f ∷ chain) e = let h = length_last chain e in omega (arith, h)

-- the chain so far: after what was there before come steps from i to l
abbrev pub Way : List Assumption → (ℕ → ℕ) → (ℕ → ℕ) → (ℕ → ℕ) → List ℕ → List ℕ → ℕ → ℕ → Type 0
Way edges y d t before chain i l = (steps : List ℕ) × ((chain ≡ before ++ steps) × ((runs edges i l steps ≡ true)
    × ((sum_of edges steps ≡ (raised y d i -ℤ raised y d l)) × (length steps + t l ≤ t i))))

pub way_begins : (edges : List Assumption) (y d t : ℕ → ℕ) (before : List ℕ) (i : ℕ) → Way edges y d t before before i i
way_begins edges y d t before i = ([], (sym (append-nil before), (same i, (omega (arith, ints), omega arith))))
  where
    same : (i : ℕ) → nat_eq i i ≡ true
    same i = grind (arith, nat_tests)

pub way_goes_on : (n : ℕ) (edges : List Assumption) (y d v t : ℕ → ℕ) (before chain after : List ℕ) (i l e : ℕ) → IsStep n edges y d v t l → v l ≡ e → after ≡ chain ++ e ∷ []
    → Way edges y d t before chain i l → Way edges y d t before after i (at edges e).to
way_goes_on n edges y d v t before chain after i l e s q is way =
    subst (λ (e : ℕ). after ≡ chain ++ e ∷ [] → Way edges y d t before after i (at edges e).to) q
    (λ is. (
      way.0 ++ v l ∷ [],
      (
        is ∙ ap (λ chain. chain ++ v l ∷ []) way.1.0 ∙ append_assoc before way.0 (v l ∷ []),
        (
          runs_last edges i l (v l) way.0 way.1.1.0 s.known s.from,
          (
            (let so_far = way.1.1.1.0 in let sum = sum_last edges (v l) way.0 in let exact = s.exact in omega (arith, ints, so_far, sum, exact)),
            (let short = way.1.1.1.1 in let long = length_last way.0 (v l) in let b = s.before in omega (arith, short, long, b)),
          ),
        ),
      ),
    ))
    is

pub way_ends : (n : ℕ) (edges : List Assumption) (y d t : ℕ → ℕ) (before chain : List ℕ) (i l target : ℕ) → l ≡ target → t i < n → Way edges y d t before chain i l
    → (h : HasChain n edges i target (raised y d i -ℤ raised y d target)) × (chain ≡ before ++ h.chain)
way_ends n edges y d t before chain i l target q settled way =
    subst (λ (l : ℕ). (h : HasChain n edges i l (raised y d i -ℤ raised y d l)) × (chain ≡ before ++ h.chain)) q
    (record { chain = way.0; runs = way.1.1.0; sum = way.1.1.1.0; short = let short = way.1.1.1.1 in omega (arith, short, settled) }, way.1.0)
