-- The printing of a network.
use Rattle.std.specs.Prelude.{ℕ, List, [], ◌∷◌, ◌++◌, flat_map, codes, slice_index_or, decimal}
use Rattle.net_model.specs.Formula.{Formula, Never, Input, Named, Min, Max, Lt, Inc, Equation, Net}
use Rattle.net_model.specs.Rules.{names_of}

-- a call of an operator, as `min(a, b)`
abbrev pub call_text : List ℕ → List ℕ → List ℕ → List ℕ
call_text word a b = word ++ a ++ codes ", " ++ b ++ codes ")"

-- a formula, by the names of the inputs and of the lets
abbrev pub formula_text : List (List ℕ) → List (List ℕ) → Formula → List ℕ
formula_text inputs lets Never = codes "never"
formula_text inputs lets (Input i) = slice_index_or inputs i []
formula_text inputs lets (Named j) = slice_index_or lets j []
formula_text inputs lets (Min a b) = call_text (codes "min(") (formula_text inputs lets a) (formula_text inputs lets b)
formula_text inputs lets (Max a b) = call_text (codes "max(") (formula_text inputs lets a) (formula_text inputs lets b)
formula_text inputs lets (Lt a b) = call_text (codes "lt(") (formula_text inputs lets a) (formula_text inputs lets b)
formula_text inputs lets (Inc a c) = call_text (codes "inc(") (formula_text inputs lets a) (decimal c)

-- a line such as `let p = min(a, b)`
abbrev pub equation_text : List ℕ → List (List ℕ) → List (List ℕ) → Equation → List ℕ
equation_text word inputs lets e = word ++ e.name ++ codes " = " ++ formula_text inputs lets e.body ++ codes "\n"

abbrev pub equations_text : List ℕ → List (List ℕ) → List (List ℕ) → List Equation → List ℕ
equations_text word inputs lets all = flat_map (equation_text word inputs lets) all

-- each name after one space
abbrev pub spaced_names : List (List ℕ) → List ℕ
spaced_names names = flat_map (λ name. 32 ∷ name) names

-- the header, the one line of the inputs, a line for each let, and a line for each output
unfoldable pub network_text : Net → List ℕ
network_text n =
    codes "racenet 1\ninput" ++ spaced_names n.inputs ++ codes "\n"
    ++ equations_text (codes "let ") n.inputs (names_of n.lets) n.lets
    ++ equations_text (codes "output ") n.inputs (names_of n.lets) n.outputs
