-- What follows from what a search found: mending, contradictions, least bounds.
use Rattle.std.proofs.Common.{◌≡◌, ℕ, zero, suc, ◌<◌, ◌≤◌, ◌+◌, refl, ap, subst, arith, sym, List, [], ◌∷◌, ◌++◌, length, Bool, true, false, get_or}
use Rattle.std.specs.Prelude.{ℤ, pos, negsuc, ◌+ℤ◌, ◌-ℤ◌, ◌≤ℤ◌, nat_lt, nat_eq, ◌&&◌, int_le}
use Rattle.std.proofs.lemmas.Bool.{false≢true}
use Rattle.std.proofs.lemmas.Int.{ints}
use Rattle.std.proofs.lemmas.Bool.Decides.{nat_tests}
use Rattle.refutation.specs.declared.assumption.Assumption.{Assumption}
use Rattle.refutation.specs.Path.{Meets, MeetsAll, at, assumption, runs, sum_of, shows, is_negative}
use Rattle.diff_bounds.specs.Bounds.{integers}
use Rattle.diff_bounds.specs.Search.{raised, HasChain, IsFound, AreMet}
use Rattle.diff_bounds.proofs.Ending.{all_of, met_at, and_is}
pub use Rattle.diff_bounds.proofs.Held.{meets_more}

pub and_true : (a b : Bool) → (a && b) ≡ true → (a ≡ true) × (b ≡ true)
and_true true b h = (refl, h)
and_true false b h = absurd (false≢true h)

pub equal : (a b : ℕ) → nat_eq a b ≡ true → a ≡ b
equal a b h = grind (arith, nat_tests)

pub int_true : (a b : ℤ) → a ≤ℤ b → int_le a b ≡ true
int_true a b h = grind (arith, ints)

meets_any : (x : ℕ → ℤ) (path : List Assumption) (k : ℕ) → MeetsAll x path → Meets x (at path k)
meets_any x [] k m = omega (arith, ints)
meets_any x (a ∷ path) zero m = m.0
meets_any x (a ∷ path) (suc k) m = meets_any x path k m.1

-- a chain's sum is at least the difference of its ends in each solution
pub chain_shows : (x : ℕ → ℤ) (path : List Assumption) (i j : ℕ) (chain : List ℕ) → MeetsAll x path → runs path i j chain ≡ true → (x i -ℤ x j) ≤ℤ sum_of path chain
chain_shows x path i j [] m h = let e = equal i j h in subst (λ (j : ℕ). (x i -ℤ x j) ≤ℤ pos 0) e (omega (arith, ints))
chain_shows x path i j (k ∷ chain) m h =
    let p = and_true (nat_lt k (length path) && nat_eq (at path k).from i) _ h in
    let q = and_true (nat_lt k (length path)) _ p.0 in
    let e = equal (at path k).from i q.1 in
    let rest = chain_shows x path (at path k).to j chain m p.1 in
    let here = meets_any x path k m in
    subst (λ (i : ℕ). (x i -ℤ x j) ≤ℤ ((at path k).bound +ℤ sum_of path chain)) e (omega (arith, ints, rest, here))

pub none_meets : (x : ℕ → ℤ) (path : List Assumption) (chain : List ℕ) → MeetsAll x path → is_negative path chain ≡ true → ⊥
none_meets x path [] m h = false≢true h
none_meets x path (k ∷ chain) m h =
    let i = (at path k).from in
    let p = and_true (runs path i i (k ∷ chain)) _ h in
    let a = chain_shows x path i i (k ∷ chain) m p.0 in
    let b : sum_of path (k ∷ chain) ≤ℤ negsuc 0 = grind (arith, ints, p.1) in
    absurd (omega (arith, ints, a, b))

-- where the new assumption asks for no more than was found, the raised solution meets it too
pub mended : (n : ℕ) (edges : List Assumption) (y d : ℕ → ℕ) (i j need : ℕ) (w : ℤ) → IsFound n edges y d i need
    → (pos (y i) -ℤ pos (y j)) ≡ (w +ℤ pos need) → need ≤ d j → MeetsAll (raised y d) (edges ++ assumption i j w ∷ [])
mended n edges y d i j need w f is le = meets_more (raised y d) edges (assumption i j w) f.meets (let z = f.here in omega (arith, ints, is, le, z))

pub at_more : (edges : List Assumption) (a : Assumption) (k : ℕ) → k < length edges → at (edges ++ a ∷ []) k ≡ at edges k
at_more [] a k h = absurd (omega arith)
at_more (b ∷ edges) a zero h = refl
at_more (b ∷ edges) a (suc k) h = at_more edges a k (omega arith)

pub at_new : (edges : List Assumption) (a : Assumption) → at (edges ++ a ∷ []) (length edges) ≡ a
at_new [] a = refl
at_new (b ∷ edges) a = at_new edges a

pub length_more : (edges : List Assumption) (a : Assumption) → length (edges ++ a ∷ []) ≡ length edges + 1
length_more [] a = refl
length_more (b ∷ edges) a = let h = length_more edges a in omega (arith, h)

pub lt_of : (a b : ℕ) → nat_lt a b ≡ true → a < b
lt_of a b h = grind (arith, nat_tests)

pub le_of : (a b : ℕ) → nat_lt a b ≡ false → b ≤ a
le_of a b h = grind (arith, nat_tests)

pub lt_is : (a b : ℕ) → a < b → nat_lt a b ≡ true
lt_is a b h = grind (arith, nat_tests)

-- a chain is one of the longer list too, with the same sum
pub runs_more : (edges : List Assumption) (a : Assumption) (i j : ℕ) (chain : List ℕ) → runs edges i j chain ≡ true
    → (runs (edges ++ a ∷ []) i j chain ≡ true) × (sum_of (edges ++ a ∷ []) chain ≡ sum_of edges chain)
runs_more edges a i j [] h = (h, refl)
runs_more edges a i j (k ∷ chain) h =
    let p = and_true (nat_lt k (length edges) && nat_eq (at edges k).from i) _ h in
    let q = and_true (nat_lt k (length edges)) _ p.0 in
    let lt = lt_of k (length edges) q.0 in
    let long = length_more edges a in
    let rest = runs_more edges a (at edges k).to j chain p.1 in
    let is = at_more edges a k lt in (
      and_is (nat_lt k (length (edges ++ a ∷ [])) && nat_eq (at (edges ++ a ∷ []) k).from i) _
          (and_is (nat_lt k (length (edges ++ a ∷ []))) _ (lt_is k (length (edges ++ a ∷ [])) (omega (arith, lt, long))) (subst (λ b. nat_eq b.from i ≡ true) (sym is) q.1))
          (subst (λ b. runs (edges ++ a ∷ []) b.to j chain ≡ true) (sym is) rest.0),
      (subst (λ b. (b.bound +ℤ sum_of (edges ++ a ∷ []) chain) ≡ ((at edges k).bound +ℤ sum_of edges chain)) (sym is) (ap (λ s. (at edges k).bound +ℤ s) rest.1)),
    )

-- where it asks for more, a chain that begins with it and leads back has a negative sum
pub negative : (n : ℕ) (edges : List Assumption) (y d : ℕ → ℕ) (i j need : ℕ) (w : ℤ) → d i ≡ 0
    → (pos (y i) -ℤ pos (y j)) ≡ (w +ℤ pos need) → d j < need → (h : HasChain n edges j i (raised y d j -ℤ raised y d i))
    → is_negative (edges ++ assumption i j w ∷ []) (length edges ∷ h.chain) ≡ true
negative n edges y d i j need w z is lt h =
    let path = edges ++ assumption i j w ∷ [] in
    let new : at path (length edges) ≡ assumption i j w = at_new edges (assumption i j w) in
    let more = runs_more edges (assumption i j w) j i h.chain h.runs in
    let long = length_more edges (assumption i j w) in
    let run : runs path i i (length edges ∷ h.chain) ≡ true =
    and_is (nat_lt (length edges) (length path) && nat_eq (at path (length edges)).from i) _
    (and_is (nat_lt (length edges) (length path)) _ (lt_is (length edges) (length path) (omega (arith, long))) (subst (λ b. nat_eq b.from i ≡ true) (sym new) (eq_is i)))
    (subst (λ b. runs path b.to i h.chain ≡ true) (sym new) more.0) in
    let sum : sum_of path (length edges ∷ h.chain) ≤ℤ negsuc 0 =
    subst (λ b. (b.bound +ℤ sum_of path h.chain) ≤ℤ negsuc 0) (sym new) (let s = h.sum in let m = more.1 in omega (arith, ints, s, m, z, is, lt)) in
    let both : shows path (length edges ∷ h.chain) i i (negsuc 0) ≡ true = and_is (runs path i i (length edges ∷ h.chain)) _ run (int_true _ _ sum) in
    subst (λ b. shows path (length edges ∷ h.chain) b.from b.from (negsuc 0) ≡ true) (sym new) both
  where
    eq_is : (i : ℕ) → nat_eq i i ≡ true
    eq_is i = grind (arith, nat_tests)

-- the kept list, raised, meets the assumptions and the new one
pub mended_list : (n : ℕ) (edges : List Assumption) (y d : ℕ → ℕ) (kept : List ℕ) (i j need : ℕ) (w : ℤ) → AreMet n edges y → IsFound n edges y d i need
    → (pos (y i) -ℤ pos (y j)) ≡ (w +ℤ pos need) → need ≤ d j → i < n → j < n → ((k : ℕ) → k < n → get_or kept k 0 ≡ y k + d k)
    → MeetsAll (integers kept) (edges ++ assumption i j w ∷ [])
mended_list n edges y d kept i j need w met f is le hi hj same =
    meets_more (integers kept) edges (assumption i j w)
    (all_of (integers kept) edges (λ e h. let m = met_at (raised y d) edges e h f.meets in let a = same (at edges e).from (met e h).0 in let b = same (at edges e).to (met e h).1.0 in omega (arith, ints, m, a, b)))
    (let a = same i hi in let b = same j hj in let z = f.here in omega (arith, ints, a, b, z, is, le))
