-- What the kept solution gives a search, and what a search gives it.
use Rattle.std.proofs.Common.{◌≡◌, ℕ, zero, suc, ◌<◌, ◌≤◌, ap, subst, arith, sym, ◌∙◌, List, [], ◌∷◌, ◌++◌, length, get_or, Option, None}
use Rattle.std.specs.Prelude.{IfNone, ℤ, pos, ◌+ℤ◌, ◌-ℤ◌, ◌≤ℤ◌}
use Rattle.std.proofs.lemmas.Int.{ints}
use Rattle.refutation.specs.declared.assumption.Assumption.{Assumption}
use Rattle.refutation.specs.Path.{Meets, MeetsAll, at, assumption}
use Rattle.diff_bounds.specs.declared.search.Search.{Search}
use Rattle.diff_bounds.specs.Bounds.{more, integers, IsSolution, Implies}
use Rattle.diff_bounds.specs.Pressing.{IsNear, AreNear}
use Rattle.diff_bounds.specs.Search.{of, AreMet, IsEnded, IsRunning, IsBounds, IsSearched}
use Rattle.diff_bounds.proofs.Ending.{met_at, walk}
use Rattle.diff_bounds.proofs.Held.{meets_more}
use Rattle.diff_bounds.proofs.Least.{chain_shows}

near_at : (n : ℕ) (edges : List Assumption) (f : ℕ) → f < length edges → AreNear n edges → IsNear n (at edges f)
near_at n [] f h m = absurd (omega arith)
near_at n (a ∷ edges) zero h m = m.0
near_at n (a ∷ edges) (suc f) h m = near_at n edges f (omega arith) m.1

pub are_met : (n : ℕ) (edges : List Assumption) (ys : List ℕ) → IsBounds n edges ys → AreMet n edges (of ys)
are_met n edges ys b f h = let near = near_at n edges f h b.near in (near.from, (near.to, (met_at (integers ys) edges f h b.solution.meets, near.high)))

pub near_more : (n : ℕ) (edges : List Assumption) (a : Assumption) → AreNear n edges → IsNear n a → AreNear n (edges ++ a ∷ [])
near_more n [] a m h = (h, tt)
near_more n (b ∷ edges) a m h = (m.0, near_more n edges a m.1 h)

pub near_fewer : (n : ℕ) (edges others : List Assumption) → AreNear n (edges ++ others) → AreNear n edges
near_fewer n [] others m = tt
near_fewer n (a ∷ edges) others m = (m.0, near_fewer n edges others m.1)

pub meets_fewer : (x : ℕ → ℤ) (edges others : List Assumption) → MeetsAll x (edges ++ others) → MeetsAll x edges
meets_fewer x [] others m = tt
meets_fewer x (a ∷ edges) others m = (m.0, meets_fewer x edges others m.1)

pub meets_last : (x : ℕ → ℤ) (edges : List Assumption) (a : Assumption) → MeetsAll x (edges ++ a ∷ []) → Meets x a
meets_last x [] a m = m.0
meets_last x (b ∷ edges) a m = meets_last x edges a m.1

-- a solution of more assumptions is one of fewer
pub solves_fewer : (n : ℕ) (edges others : List Assumption) (ys : List ℕ) → IsSolution n (edges ++ others) ys → IsSolution n edges ys
solves_fewer n edges others ys s = record { long = s.long; meets = meets_fewer (integers ys) edges others s.meets; zero = s.zero; small = s.small }

-- a chain below what the kept numbers leave shows the assumption
pub held : (n : ℕ) (edges : List Assumption) (ys : List ℕ) (s : Search) (i j room stop enough : ℕ) (w : ℤ) → IsBounds n edges ys → IsSearched n edges ys s j room stop i enough → i < n
    → get_or s.distances.items i 0 < room → ((pos (get_or ys i 0) -ℤ pos (get_or ys j 0)) +ℤ pos room) ≡ (w +ℤ pos 1) → Implies edges i j w
held n edges ys s i j room stop enough w b f hi lt is x m =
    let r = f.running in
    let chain = walk n edges (of ys) (of s.distances.items) (of s.vias.items) (of s.turns.items) r.0 j room r.1.0 0 (get_or s.turns.items i 0) i (are_met n edges ys b) r.1.1 hi lt (omega arith) in
    let a = chain_shows x edges i j chain.0 m chain.1 in let sum = chain.2 in let z = r.1.1.here in omega (arith, ints, a, sum, z, is, lt)

-- numbers that break it, and meet the others, show that it isn't implied
pub broken : (edges : List Assumption) (ys : List ℕ) (i j need : ℕ) (w : ℤ) → MeetsAll (integers ys) edges
    → (pos (get_or ys i 0) -ℤ pos (get_or ys j 0)) ≡ (w +ℤ pos need) → 0 < need → Implies edges i j w → ⊥
broken edges ys i j need w m is lt all = let a = all (integers ys) m in omega (arith, ints, a, is, lt)

pub solves_more : (n : ℕ) (edges : List Assumption) (ys : List ℕ) (i j : ℕ) (w : ℤ) → IsSolution n edges ys → (pos (get_or ys i 0) -ℤ pos (get_or ys j 0)) ≤ℤ w
    → IsSolution n (more edges i j w) ys
solves_more n edges ys i j w s h = record { long = s.long; meets = meets_more (integers ys) edges (assumption i j w) s.meets h; zero = s.zero; small = s.small }

pub pressed_solution : (n : ℕ) (edges : List Assumption) (a : Assumption) (ys zs : List ℕ) → length ys ≡ n → length zs ≡ n → AreNear n edges → IsNear n a
    → MeetsAll (integers ys) (edges ++ a ∷ [])
    → (k : ℕ) × (k < length ys) × (get_or zs k 0 ≡ 0) → ((k : ℕ) → k < length ys → get_or zs k 0 ≤ 63000063)
    → ((edges : List Assumption) → AreNear (length ys) edges → MeetsAll (integers ys) edges → MeetsAll (integers zs) edges) → IsSolution n (edges ++ a ∷ []) zs
pressed_solution n edges a ys zs long same near new met low small keeps = record {
  long = same;
  meets = keeps (edges ++ a ∷ []) (subst (λ (n : ℕ). AreNear n (edges ++ a ∷ [])) (sym long) (near_more n edges a near new)) met;
  zero = (low.0, (let h = low.1 in omega (arith, h, long)), low.2);
  small = λ k h. small k (omega (arith, h, long));
}

-- a chain of one number, and then others
pub chain_with : (none one all : List ℕ) (k : ℕ) (rest : List ℕ) → none ≡ [] → one ≡ none ++ k ∷ [] → all ≡ one ++ rest → all ≡ k ∷ rest
chain_with none one all k rest p q r = r ∙ ap (λ one. one ++ rest) (q ∙ ap (λ none. none ++ k ∷ []) p)

pub chain_is : (none all rest : List ℕ) → none ≡ [] → all ≡ none ++ rest → all ≡ rest
chain_is none all rest p r = r ∙ ap (λ none. none ++ rest) p

pub if_none : {A : Type 0} {P : Type 0} (o : Option A) → o ≡ None → IfNone o P → P
if_none {A} {P} o q h = subst (λ (o : Option A). IfNone o P) q h

pub searched : (n : ℕ) (edges : List Assumption) (ys : List ℕ) (s : Search) (ds vs ts xs : List ℕ) (target limit stop asked enough : ℕ)
    → s.distances.items ≡ ds → s.vias.items ≡ vs → s.turns.items ≡ ts → s.reached.items ≡ xs
    → length ds ≡ n → length vs ≡ n → length ts ≡ n → length xs ≡ n
    → IsEnded n (of ds) (of ts) stop asked enough
    → (turn : ℕ) × ((k : ℕ) × IsRunning n edges (of ys) (of ds) (of vs) (of ts) turn target limit k 0)
    → IsSearched n edges ys s target limit stop asked enough
searched n edges ys s ds vs ts xs target limit stop asked enough p q r o long_d long_v long_t long_x ended running = record {
  sized = record { distances = ap length p ∙ long_d; vias = ap length q ∙ long_v; turns = ap length r ∙ long_t; reached = ap length o ∙ long_x };
  ended = subst (λ ds. IsEnded n (of ds) (of s.turns.items) stop asked enough) (sym p) (subst (λ ts. IsEnded n (of ds) (of ts) stop asked enough) (sym r) ended);
  running = (
    running.0,
    (
      running.1.0,
      subst (λ ds. IsRunning n edges (of ys) (of ds) (of s.vias.items) (of s.turns.items) running.0 target limit running.1.0 0) (sym p)
          (subst (λ vs. IsRunning n edges (of ys) (of ds) (of vs) (of s.turns.items) running.0 target limit running.1.0 0) (sym q)
          (subst (λ ts. IsRunning n edges (of ys) (of ds) (of vs) (of ts) running.0 target limit running.1.0 0) (sym r) running.1.1)),
    ),
  );
}

-- numbers that are all 0 are a solution of no assumptions
pub no_bounds : (n : ℕ) (ys : List ℕ) → 0 < n → n ≤ 64 → length ys ≡ n → ((k : ℕ) → k < n → get_or ys k 0 ≡ 0) → IsBounds n [] ys
no_bounds n ys some few long zeros = record {
  some = some;
  few = few;
  numbers = omega arith;
  near = tt;
  solution = record { long = long; meets = tt; zero = (0, some, zeros 0 some); small = λ k h. let z = zeros k h in omega (arith, z) };
}
