-- The form of a line, read from left to right. That what is read is what is spelled so, is a law.
use Rattle.std.specs.Prelude.{ℕ, ℤ, pos, neg_ℤ, ◌+◌, min, Bool, true, false, ◌&&◌, if◌then◌else◌, List, [], ◌∷◌, Option, Some, None, codes}
use Rattle.std.specs.Str.{bytes_eq}
use Rattle.rl_text.specs.declared.token.Kind.{Kind}
use Rattle.rl_text.specs.declared.token.Kind.TheVariants as kind
use Rattle.rl_text.specs.Lines.{Word}
use Rattle.rl_text.specs.Numbers.{is_plain, number_of}
use Rattle.net_model.specs.Limits.{most_ports}
use Rattle.refutation.specs.declared.reader.form.Difference.{Difference}
use Rattle.refutation.specs.Limits.{most_bound, numbers_end}
use Rattle.refutation.specs.Forms.{Form, Header, Begin, Split, Leaf, Fact, Closed, Open, End}

infixl 10 ◌>>=◌
abbrev pub ◌>>=◌ : {A B : Type 0} → Option A → (A → Option B) → Option B
(Some x) >>= f = f x
None >>= f = None

abbrev pub is_name : Kind → Bool
is_name kind.Name = true
is_name _ = false

abbrev pub is_number : Kind → Bool
is_number kind.Number = true
is_number _ = false

abbrev pub is_symbol : Kind → Bool
is_symbol kind.Symbol = true
is_symbol _ = false

-- the word is this sign
abbrev pub is_sign : List ℕ → Word → Bool
is_sign t w = is_symbol w.kind && bytes_eq w.bytes t

-- a value and the words after it
abbrev pub Read : Type 0 → Type 0
Read A = Option (A × List Word)

-- the number that a word is, as far as it matters
unfoldable pub number_at : ℕ → Word → Option ℕ
number_at limit w = if is_number w.kind && is_plain w.bytes then Some (min (number_of w.bytes) limit) else None

unfoldable pub number_first : ℕ → List Word → Read ℕ
number_first limit [] = None
number_first limit (w ∷ ws) = number_at limit w >>= λ n. Some (n, ws)

unfoldable pub bound_first : List Word → Read ℤ
bound_first [] = None
bound_first (w ∷ ws) =
    if is_sign (codes "-") w then (number_first (most_bound + 1) ws >>= λ n. Some (neg_ℤ (pos n.0), n.1))
    else (number_at (most_bound + 1) w >>= λ n. Some (pos n, ws))

unfoldable pub difference_first : List Word → Read Difference
difference_first ws = do
  i ← number_first most_ports ws
  j ← number_first most_ports i.1
  w ← bound_first j.1
  Some (record { from = i.0; to = j.0; bound = w.0 }, w.1)

-- the words after a colon
unfoldable pub after_colon : List Word → Option (List Word)
after_colon [] = None
after_colon (w ∷ ws) = if is_sign (codes ":") w then Some ws else None

-- words that are all numbers of a chain
unfoldable pub chain_at : List Word → Option (List ℕ)
chain_at [] = Some []
chain_at (w ∷ ws) = number_at numbers_end w >>= λ k. chain_at ws >>= λ chain. Some (k ∷ chain)

-- the words are no more
abbrev pub ended : {A : Type 0} → A → List Word → Option A
ended x [] = Some x
ended x (w ∷ ws) = None

unfoldable pub split_at : List Word → Option Form
split_at ws = difference_first ws >>= λ d. ended (Split d.0) d.1

unfoldable pub fact_at : List Word → Option Form
fact_at ws = do
  d ← difference_first ws
  rest ← after_colon d.1
  chain ← chain_at rest
  Some (Fact d.0 chain)

unfoldable pub header_at : List Word → Option Form
header_at [] = None
header_at (w ∷ ws) = if is_number w.kind && bytes_eq w.bytes (codes "1") then ended Header ws else None

unfoldable pub begin_at : List Word → Option Form
begin_at [] = None
begin_at (w ∷ ws) = if is_name w.kind then ended (Begin w.bytes) ws else None

unfoldable pub by_word : List ℕ → List Word → Option Form
by_word t ws =
    if bytes_eq t (codes "fact") then fact_at ws
    else (if bytes_eq t (codes "split") then split_at ws
    else (if bytes_eq t (codes "leaf") then ended Leaf ws
    else (if bytes_eq t (codes "closed") then chain_at ws >>= (λ chain. Some (Closed chain))
    else (if bytes_eq t (codes "open") then ended Open ws
    else (if bytes_eq t (codes "tree") then begin_at ws
    else (if bytes_eq t (codes "end") then ended End ws
    else (if bytes_eq t (codes "racetree") then header_at ws
    else None)))))))

unfoldable pub form_at : List Word → Option Form
form_at [] = None
form_at (w ∷ ws) = if is_name w.kind then by_word w.bytes ws else None
