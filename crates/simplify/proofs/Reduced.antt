-- Reduced terms are those that no law fits.
use Rattle.std.proofs.Common.{◌≡◌, refl, Option, Some, None, List, [], ◌∷◌, map, inl, inr}
use Rattle.std.specs.List.{AllByRecursion}
use Rattle.term_store.specs.Tree.{Tree, Never, Input, Min, Max, Lt, Inc}
use Rattle.term_store.proofs.Parts.{IsIn, in_self, among_from_in, in_from_among}
use Rattle.simplify.specs.Laws.{IsReduced}
use Rattle.simplify.specs.Simplified.{law, simplified}
use Rattle.simplify.proofs.Stepping.{FitsNone}
use Rattle.simplify.proofs.Matching.{law_sound, law_complete}
use Rattle.simplify.proofs.Simp.{input_none, never_none, simp_good, simp_reduced}
use Rattle.simplify.proofs.Inside.{reduced_in, no_law}

pub fits_reduced : (t : Tree) → FitsNone t → IsReduced t
fits_reduced t f = λ s u h l. law_complete s u l (no_law s (reduced_in s t f (in_from_among s t h)))

none_of : (t : Tree) → IsReduced t → law t ≡ None
none_of t r = go (law t) refl
  where
    go : (o : Option Tree) → law t ≡ o → law t ≡ None
    go None e = e
    go (Some u) e = absurd (r t u (among_from_in t t (in_self t)) (law_sound t u e))

part_of : (a t : Tree) → ((s : Tree) → IsIn s a → IsIn s t) → IsReduced t → IsReduced a
part_of a t in_t r = λ s u h l. r s u (among_from_in s t (in_t s (in_from_among s a h))) l

pub reduced_fits : (t : Tree) → IsReduced t → FitsNone t
reduced_fits (Input i) r = input_none i
reduced_fits Never r = never_none
reduced_fits (Min a b) r = (none_of (Min a b) r, reduced_fits a (part_of a (Min a b) (λ s h. inr (inl h)) r), reduced_fits b (part_of b (Min a b) (λ s h. inr (inr h)) r))
reduced_fits (Max a b) r = (none_of (Max a b) r, reduced_fits a (part_of a (Max a b) (λ s h. inr (inl h)) r), reduced_fits b (part_of b (Max a b) (λ s h. inr (inr h)) r))
reduced_fits (Lt a b) r = (none_of (Lt a b) r, reduced_fits a (part_of a (Lt a b) (λ s h. inr (inl h)) r), reduced_fits b (part_of b (Lt a b) (λ s h. inr (inr h)) r))
reduced_fits (Inc a c) r = (none_of (Inc a c) r, reduced_fits a (part_of a (Inc a c) (λ s h. inr h) r))

pub simplified_is_reduced : (t : Tree) → IsReduced (simplified t)
simplified_is_reduced t = fits_reduced (simplified t) (simp_good t).reduced

pub reduced_stays : (t : Tree) → IsReduced t → simplified t ≡ t
reduced_stays t r = simp_reduced t (reduced_fits t r)

pub all_reduced : (ts : List Tree) → AllByRecursion IsReduced (map simplified ts)
all_reduced [] = tt
all_reduced (t ∷ ts) = (simplified_is_reduced t, all_reduced ts)
