-- Only the laws of a term's own operator can fit it.
use Rattle.std.proofs.Common.{◌≡◌, ℕ, refl}
use Rattle.term_store.specs.Tree.{Tree, Min, Max, Lt, Inc}
use Rattle.simplify.specs.Simplified.{law, first_law}
use Rattle.simplify.specs.Outcomes.{min_laws, max_laws, lt_laws, inc_laws, stride}

pub min_choice : (a b : Tree) → first_law min_laws (Min a b) ≡ stride (Min a b)
unfolding law stride
min_choice a b = refl

pub max_choice : (a b : Tree) → first_law max_laws (Max a b) ≡ stride (Max a b)
unfolding law stride
max_choice a b = refl

pub lt_choice : (a b : Tree) → first_law lt_laws (Lt a b) ≡ stride (Lt a b)
unfolding stride
lt_choice a b = refl

pub inc_choice : (a : Tree) (c : ℕ) → first_law inc_laws (Inc a c) ≡ stride (Inc a c)
unfolding law stride
inc_choice a c = refl
