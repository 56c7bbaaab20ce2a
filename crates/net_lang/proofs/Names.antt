-- Names one after another, as a loop takes them.
use Rattle.std.proofs.Common.{◌≡◌, ℕ, true, false, List, [], ◌∷◌, ◌++◌, Option, Some, None, refl, sym, ap, ◌∙◌, append_assoc}
use Rattle.std.proofs.lemmas.List.{append-nil}
use Rattle.rl_text.specs.Lines.{Word}
use Rattle.net_lang.specs.FormReading.{is_name, names_at}
use Rattle.net_lang.specs.Reading.{◌>>=◌}

abbrev pub with_names : List (List ℕ) → Option (List (List ℕ)) → Option (List (List ℕ))
with_names before read = read >>= λ ns. Some (before ++ ns)

regroup : (before : List (List ℕ)) (n : List ℕ) (r : Option (List (List ℕ))) → with_names before (r >>= λ ns. Some (n ∷ ns)) ≡ with_names (before ++ n ∷ []) r
regroup before n (Some ns) = ap (λ (x : List (List ℕ)). Some x) (sym (append_assoc before (n ∷ []) ns))
regroup before n None = refl

pub one_more : (before : List (List ℕ)) (ws rest : List Word) (w : Word) → ws ≡ w ∷ rest → is_name w.kind ≡ true → with_names before (names_at ws) ≡ with_names (before ++ w.bytes ∷ []) (names_at rest)
unfolding names_at
one_more before ws rest w e h = ap (λ (x : List Word). with_names before (names_at x)) e ∙ rw h (regroup before w.bytes (names_at rest))

pub none_more : (before : List (List ℕ)) (ws rest : List Word) (w : Word) → ws ≡ w ∷ rest → is_name w.kind ≡ false → with_names before (names_at ws) ≡ None
unfolding names_at
none_more before ws rest w e h = ap (λ (x : List Word). with_names before (names_at x)) e ∙ rw h refl

pub all_done : (before : List (List ℕ)) (ws : List Word) → ws ≡ [] → with_names before (names_at ws) ≡ Some before
unfolding names_at
all_done before ws e = ap (λ (x : List Word). with_names before (names_at x)) e ∙ ap (λ (x : List (List ℕ)). Some x) (append-nil before)

pub from_none : (r : Option (List (List ℕ))) → with_names [] r ≡ r
from_none (Some ns) = refl
from_none None = refl
