-- The forms of a line, and the words of each.
use Rattle.std.specs.Prelude.{◌≡◌, ℕ, ℤ, pos, neg_ℤ, ◌+◌, min, true, List, [], ◌∷◌, ◌++◌, codes}
use Rattle.rl_text.specs.Lines.{Word}
use Rattle.rl_text.specs.Writing.{name, number, sign}
use Rattle.rl_text.specs.Numbers.{is_plain, number_of}
use Rattle.net_model.specs.Limits.{most_ports}
use Rattle.refutation.specs.declared.reader.form.Difference.{Difference}
use Rattle.refutation.specs.Limits.{most_bound, numbers_end}

-- a line, with the numbers as far as they matter: one that is greater than its limit counts as the limit
pub data Form : Type 0 where
  Header : Form
  Begin : List ℕ → Form
  Split : Difference → Form
  Leaf : Form
  Fact : Difference → List ℕ → Form
  Closed : List ℕ → Form
  Open : Form
  End : Form

-- the word is a number with no leading zero, which is n, or counts as it
pub record IsNumber (limit n : ℕ) (w : Word) : Type 0 where
  pub digits : List ℕ
  pub word : w ≡ number digits
  pub plain : is_plain digits ≡ true
  pub counts : n ≡ min (number_of digits) limit

-- the words are a number, or `-` and a number
abbrev pub IsBound : ℤ → List Word → Type 0
IsBound b (w ∷ []) = (n : ℕ) × IsNumber (most_bound + 1) n w × (b ≡ pos n)
IsBound b (s ∷ w ∷ []) = (s ≡ sign (codes "-")) × ((n : ℕ) × IsNumber (most_bound + 1) n w × (b ≡ neg_ℤ (pos n)))
IsBound b _ = ⊥

-- the words are the places of two inputs, and a bound
abbrev pub IsDifference : Difference → List Word → Type 0
IsDifference d (i ∷ j ∷ ws) = IsNumber most_ports d.from i × IsNumber most_ports d.to j × IsBound d.bound ws
IsDifference d _ = ⊥

-- the words are the numbers of a chain
abbrev pub IsChain : List ℕ → List Word → Type 0
IsChain [] [] = Unit {0}
IsChain (k ∷ chain) (w ∷ ws) = IsNumber numbers_end k w × IsChain chain ws
IsChain _ _ = ⊥

-- the words of a line are this form
abbrev pub IsLine : List Word → Form → Type 0
IsLine ws Header = ws ≡ name (codes "racetree") ∷ number (codes "1") ∷ []
IsLine ws (Begin n) = ws ≡ name (codes "tree") ∷ name n ∷ []
IsLine ws (Split d) = (ds : List Word) × (ws ≡ name (codes "split") ∷ ds) × IsDifference d ds
IsLine ws Leaf = ws ≡ name (codes "leaf") ∷ []
IsLine ws (Fact d chain) = (ds ks : List Word) × (ws ≡ name (codes "fact") ∷ ds ++ sign (codes ":") ∷ ks) × IsDifference d ds × IsChain chain ks
IsLine ws (Closed chain) = (ks : List Word) × (ws ≡ name (codes "closed") ∷ ks) × IsChain chain ks
IsLine ws Open = ws ≡ name (codes "open") ∷ []
IsLine ws End = ws ≡ name (codes "end") ∷ []
