-- What a search for the chains into one input finds: how far each number of the kept solution is to be raised.
use Rattle.std.specs.Prelude.{◌≡◌, ℕ, ℤ, pos, ◌<◌, ◌≤◌, ◌+◌, ◌+ℤ◌, ◌-ℤ◌, ◌≤ℤ◌, true, List, [], ◌∷◌, length, take, get_or, nat_lt, if◌then◌else◌, ◌⊎◌}
use Rattle.refutation.specs.declared.assumption.Assumption.{Assumption}
use Rattle.refutation.specs.Path.{Meets, MeetsAll, at, runs, sum_of}
use Rattle.diff_bounds.specs.declared.ends.ByInput.{ByInput}
use Rattle.diff_bounds.specs.declared.ends.Ends.{Ends}
use Rattle.diff_bounds.specs.declared.search.Search.{Search}
use Rattle.diff_bounds.specs.Bounds.{IsSolution, Implies}
use Rattle.diff_bounds.specs.Pressing.{AreNear}

-- y, each number raised
abbrev pub raised : (ℕ → ℕ) → (ℕ → ℕ) → ℕ → ℤ
raised y d k = pos (y k) +ℤ pos (d k)

-- a chain from k to the target with just this sum, shorter than n
pub record HasChain (n : ℕ) (edges : List Assumption) (k target : ℕ) (w : ℤ) : Type 0 where
  pub chain : List ℕ
  pub runs : runs edges k target chain ≡ true
  pub sum : sum_of edges chain ≡ w
  pub short : length chain < n

-- raised by d, y still meets the assumptions; where it is raised by less than the limit, a chain shows that by no more
pub record IsFound (n : ℕ) (edges : List Assumption) (y d : ℕ → ℕ) (target limit : ℕ) : Type 0 where
  pub here : d target ≡ 0
  pub most : (k : ℕ) → k < n → d k ≤ limit
  pub meets : MeetsAll (raised y d) edges
  pub shown : (k : ℕ) → k < n → (limit ≤ d k) ⊎ HasChain n edges k target (raised y d k -ℤ raised y d target)

-- the assumption of this number is implied by those before it
abbrev pub IsHeld : List Assumption → ℕ → Type 0
IsHeld edges f = Implies (take f edges) (at edges f).from (at edges f).to (at edges f).bound

-- the step from l that its number in v names
pub record IsStep (n : ℕ) (edges : List Assumption) (y d v t : ℕ → ℕ) (l : ℕ) : Type 0 where
  pub known : v l < length edges
  pub from : (at edges (v l)).from ≡ l
  pub to : (at edges (v l)).to < n
  pub before : t (at edges (v l)).to < t l
  pub exact : raised y d l ≡ (at edges (v l)).bound +ℤ raised y d (at edges (v l)).to

-- in the middle of a search. An input is settled where its turn in t is below n; otherwise that is n.
-- k is the last settled, and the assumptions from number e on are done for it
pub record IsRunning (n : ℕ) (edges : List Assumption) (y d v t : ℕ → ℕ) (turn target limit k e : ℕ) : Type 0 where
  pub here : d target ≡ 0
  pub most : (l : ℕ) → l < n → d l ≤ limit
  pub order : (a b : ℕ) → a < n → b < n → t a < n → n ≤ t b → d a ≤ d b
  pub top : (a : ℕ) → a < n → t a < n → d a ≤ d k
  pub closed : (f : ℕ) → f < length edges → (n ≤ t (at edges f).to) ⊎ ((((at edges f).to ≡ k) × (f < e)) ⊎ (Meets (raised y d) (at edges f) ⊎ IsHeld edges f))
  pub steps : (l : ℕ) → l < n → (l ≡ target) ⊎ ((limit ≤ d l) ⊎ IsStep n edges y d v t l)
  pub late : (l : ℕ) → l < n → (t l < turn) ⊎ (t l ≡ n)
  pub turns : turn ≤ n

-- the list as a function
abbrev pub of : List ℕ → ℕ → ℕ
of xs k = get_or xs k 0

-- each assumption names inputs below n and is met by y
abbrev pub AreMet : ℕ → List Assumption → (ℕ → ℕ) → Type 0
AreMet n edges y = (f : ℕ) → f < length edges → ((at edges f).from < n) × (((at edges f).to < n) × (((pos (y (at edges f).from) -ℤ pos (y (at edges f).to)) ≤ℤ (at edges f).bound) × ((at edges f).bound ≤ℤ pos 1000001)))

-- how many are not below n: turns of inputs that are not settled, or distances of inputs that are not reached
abbrev pub unset : ℕ → List ℕ → ℕ
unset n [] = 0
unset n (t ∷ ts) = (if nat_lt t n then 0 else 1) + unset n ts

-- one assumption is looked at: it is met already, or its beginning a is lowered to what it allows
pub record IsLowered (y d v d' v' : ℕ → ℕ) (edge : Assumption) (e : ℕ) : Type 0 where
  pub others : (l : ℕ) → (l ≡ edge.from) ⊎ ((d' l ≡ d l) × (v' l ≡ v l))
  pub less : d' edge.from < d edge.from
  pub via : v' edge.from ≡ e
  pub exact : raised y d' edge.from ≡ (edge.bound +ℤ raised y d edge.to)

abbrev pub IsRelaxed : (ℕ → ℕ) → List ℕ → List ℕ → List ℕ → List ℕ → Assumption → ℕ → Type 0
IsRelaxed y ds vs ds' vs' edge e = ((ds' ≡ ds) × ((vs' ≡ vs) × Meets (raised y (of ds)) edge)) ⊎ IsLowered y (of ds) (of vs) (of ds') (of vs') edge e

-- h is one more than the number of the last assumption before number e that is listed for k, which is its end, 0 where none
-- is: each after it of which k is the end is implied by those before it
pub record IsLast (end : Assumption → ℕ) (edges : List Assumption) (k e h : ℕ) : Type 0 where
  pub before : h ≤ e
  pub leads : (f : ℕ) → f + 1 ≡ h → end (at edges f) ≡ k
  pub others : (f : ℕ) → h ≤ f → f < e → end (at edges f) ≡ k → IsHeld edges f

-- for each of n inputs the last assumption that is listed for it, and for each assumption the one listed before it for the same input
pub record IsByInput (end : Assumption → ℕ) (n : ℕ) (edges : List Assumption) (list : ByInput) : Type 0 where
  pub inputs : length list.lasts.items ≡ n
  pub numbers : length list.earlier.items ≡ length edges
  pub lasts : (k : ℕ) → k < n → IsLast end edges k (length edges) (get_or list.lasts.items k 0)
  pub earlier : (e : ℕ) → e < length edges → IsLast end edges (end (at edges e)) e (get_or list.earlier.items e 0)

-- the assumptions by the input that each leads to, and by the input that each begins at
pub record IsListed (n : ℕ) (edges : List Assumption) (ends : Ends) : Type 0 where
  pub to : IsByInput (λ a. a.to) n edges ends.to
  pub from : IsByInput (λ a. a.from) n edges ends.from

-- for each assumption that begins at k the difference of y can grow by the lead, or those before it imply it
abbrev pub IsLead : List Assumption → (ℕ → ℕ) → ℕ → ℕ → Type 0
IsLead edges y k lead = (f : ℕ) → f < length edges → (at edges f).from ≡ k → (((pos (y k) +ℤ pos lead) -ℤ pos (y (at edges f).to)) ≤ℤ (at edges f).bound) ⊎ IsHeld edges f

-- the first numbers of the list are inputs, and each input that is reached and not settled is among them; there is room for all that are not reached
pub record IsOpen (n : ℕ) (ds : List ℕ) (t : ℕ → ℕ) (limit : ℕ) (reached : List ℕ) (count : ℕ) : Type 0 where
  pub room : count + unset limit ds ≤ n
  pub inside : (i : ℕ) → i < count → get_or reached i 0 < n
  pub has : (l : ℕ) → l < n → (t l < n) ⊎ ((limit ≤ get_or ds l 0) ⊎ ((i : ℕ) × ((i < count) × (get_or reached i 0 ≡ l))))

-- k was put at the end if its distance fell below the limit
abbrev pub IsOpened : ℕ → ℕ → ℕ → ℕ → ℕ → List ℕ → List ℕ → ℕ → Type 0
IsOpened before after limit k count xs xs' count' =
    ((limit ≤ before) × ((after < limit) × ((count' ≡ count + 1) × ((get_or xs' count 0 ≡ k) × ((i : ℕ) → (i ≡ count) ⊎ (get_or xs' i 0 ≡ get_or xs i 0))))))
    ⊎ (((before < limit) ⊎ (limit ≤ after)) × ((count' ≡ count) × (xs' ≡ xs)))

-- room for n inputs
pub record IsSized (n : ℕ) (s : Search) : Type 0 where
  pub distances : length s.distances.items ≡ n
  pub vias : length s.vias.items ≡ n
  pub turns : length s.turns.items ≡ n
  pub reached : length s.reached.items ≡ n

-- n inputs, at most 65,536 assumptions on them, and a solution
pub record IsBounds (n : ℕ) (edges : List Assumption) (ys : List ℕ) : Type 0 where
  pub some : 0 < n
  pub few : n ≤ 64
  pub numbers : length edges ≤ 65536
  pub near : AreNear n edges
  pub solution : IsSolution n edges ys

-- a search is at its end: the input asked for is so near as is enough, or it is settled, or each input that is nearer than the stop is settled
abbrev pub IsEnded : ℕ → (ℕ → ℕ) → (ℕ → ℕ) → ℕ → ℕ → ℕ → Type 0
IsEnded n d t stop asked enough = (d asked < enough) ⊎ ((t asked < n) ⊎ ((l : ℕ) → l < n → (t l < n) ⊎ (stop ≤ d l)))

-- a search of the chains to the target is done
pub record IsSearched (n : ℕ) (edges : List Assumption) (ys : List ℕ) (s : Search) (target limit stop asked enough : ℕ) : Type 0 where
  pub sized : IsSized n s
  pub ended : IsEnded n (of s.distances.items) (of s.turns.items) stop asked enough
  pub running : (turn : ℕ) × ((k : ℕ) × IsRunning n edges (of ys) (of s.distances.items) (of s.vias.items) (of s.turns.items) turn target limit k 0)
