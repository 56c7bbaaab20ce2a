-- What the names of a network in the making mean.
use Rattle.std.specs.Prelude.{ℕ, ◌+◌, Bool, true, ◌&&◌, if◌then◌else◌, List, [], ◌∷◌, ◌++◌, Option, Some, None}
use Rattle.std.specs.List.{list_any}
use Rattle.std.specs.Str.{bytes_eq}
use Rattle.rl_text.specs.Numbers.{number_of}
use Rattle.net_model.specs.Formula as f
use Rattle.net_model.specs.Formula.{Formula, Net}
use Rattle.net_model.specs.Rules.{names_of}
use Rattle.net_lang.specs.Grammar.{Expression, Never, Name, Min, Max, Lt, Inc}

-- the place of a name among names, where the first of them has the place i
abbrev pub place_from : ℕ → List ℕ → List (List ℕ) → Option ℕ
place_from i name [] = None
place_from i name (n ∷ names) = if bytes_eq name n then Some i else place_from (i + 1) name names

abbrev pub place_of : List ℕ → List (List ℕ) → Option ℕ
place_of name names = place_from 0 name names

-- the formula of a name, by its places among the inputs and among the lets; Never where it has none
abbrev pub named : Option ℕ → Option ℕ → Formula
named (Some i) j = f.Input i
named None (Some j) = f.Named j
named None None = f.Never

-- the formula that an expression means
abbrev pub resolved : Net → Expression → Formula
resolved n Never = f.Never
resolved n (Name t) = named (place_of t n.inputs) (place_of t (names_of n.lets))
resolved n (Min a b) = f.Min (resolved n a) (resolved n b)
resolved n (Max a b) = f.Max (resolved n a) (resolved n b)
resolved n (Lt a b) = f.Lt (resolved n a) (resolved n b)
resolved n (Inc a digits) = f.Inc (resolved n a) (number_of digits)

-- whether each name of the expression is an input or a let
abbrev pub knows : Net → Expression → Bool
knows n Never = true
knows n (Name t) = list_any (bytes_eq t) (n.inputs ++ names_of n.lets)
knows n (Min a b) = knows n a && knows n b
knows n (Max a b) = knows n a && knows n b
knows n (Lt a b) = knows n a && knows n b
knows n (Inc a digits) = knows n a
