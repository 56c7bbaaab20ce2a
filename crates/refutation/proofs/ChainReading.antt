-- The numbers of a chain one after the other, as a loop takes them.
use Rattle.std.proofs.Common.{◌≡◌, ℕ, List, [], ◌∷◌, ◌++◌, Option, Some, None, refl, sym, ap, ◌∙◌, append_assoc}
use Rattle.std.proofs.lemmas.List.{append-nil}
use Rattle.rl_text.specs.Lines.{Word}
use Rattle.std.specs.Prelude.{Result, Ok, Err, IsErrAnd}
use Rattle.line_lang.specs.declared.error.LineError.{LineError}
use Rattle.line_lang.specs.declared.error.LineError.TheVariants.{Broken, NoMemory}
use Rattle.refutation.specs.declared.reader.rules.Rule.{Rule}
use Rattle.refutation.specs.Draft.{Gives}
use Rattle.refutation.specs.Limits.{numbers_end}
use Rattle.refutation.specs.FormReading.{◌>>=◌, number_at, chain_at}

-- what was read before, and then this
abbrev pub put_before : List ℕ → Option (List ℕ) → Option (List ℕ)
put_before before read = read >>= λ chain. Some (before ++ chain)

pub nothing_before : (r : Option (List ℕ)) → put_before [] r ≡ r
nothing_before (Some chain) = refl
nothing_before None = refl

regroup : (before : List ℕ) (k : ℕ) (r : Option (List ℕ)) → put_before before (r >>= λ chain. Some (k ∷ chain)) ≡ put_before (before ++ k ∷ []) r
regroup before k (Some chain) = ap (λ l. Some l) (sym (append_assoc before (k ∷ []) chain))
regroup before k None = refl

pub one_more : (before : List ℕ) (words left : List Word) (w : Word) (k : ℕ) → words ≡ w ∷ left → number_at numbers_end w ≡ Some k → put_before before (chain_at words) ≡ put_before (before ++ k ∷ []) (chain_at left)
unfolding chain_at
one_more before words left w k h n = ap (λ (x : List Word). put_before before (chain_at x)) h ∙ rw n (regroup before k (chain_at left))

pub none_more : (before : List ℕ) (words left : List Word) (w : Word) → words ≡ w ∷ left → number_at numbers_end w ≡ None → put_before before (chain_at words) ≡ None
unfolding chain_at
none_more before words left w h n = ap (λ (x : List Word). put_before before (chain_at x)) h ∙ rw n refl

pub all_read : (before : List ℕ) (words : List Word) → words ≡ [] → put_before before (chain_at words) ≡ Some before
unfolding chain_at
all_read before words h = ap (λ (x : List Word). put_before before (chain_at x)) h ∙ ap (λ (x : List ℕ). Some x) (append-nil before)

-- an error that is passed on
pub passed_on : {X Y V W : Type 0} (v : X → Y) (w : V → W) (r : Result V (LineError Rule)) (e : LineError Rule) (read : Option Y) (more : Option W) → IsErrAnd r (λ f. f ≡ e) → Gives v (Err e) read → (read ≡ None → more ≡ None) → Gives w r more
passed_on v w (Ok x) e read more h g f = absurd h
passed_on v w (Err (Broken r)) (Broken q) read more h g f = (ap rule_in h ∙ g.0, f g.1) where
  rule_in : LineError Rule → Rule
  rule_in (Broken s) = s
  rule_in NoMemory = r
passed_on v w (Err (Broken r)) NoMemory read more h g f = absurd cc
passed_on v w (Err NoMemory) e read more h g f = tt
