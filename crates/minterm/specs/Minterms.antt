-- The minterms of a table: terms that have the row's value where it matches, and else never.
use Rattle.std.specs.Prelude.{ℕ, suc, ◌-◌, List, [], ◌∷◌, ◌++◌, length, map, flat_map, Option, Some, None}
use Rattle.term_store.specs.Tree.{Tree, Never, Input, Min, Max, Lt, Inc}
use Rattle.term_store.specs.Terms.{delayed, input_trees}
use Rattle.func_table.specs.Table.{Row, Table}

-- For each input at a number: the input, later by so much that it comes with the output y where the row matches. The first entry is
-- that of input i.
abbrev pub number_terms : ℕ → ℕ → List (Option ℕ) → List Tree
number_terms y i [] = []
number_terms y i (Some e ∷ entries) = delayed (Input i) (y - e) ∷ number_terms y (suc i) entries
number_terms y i (None ∷ entries) = number_terms y (suc i) entries

-- the inputs at `-`
abbrev pub dash_terms : ℕ → List (Option ℕ) → List Tree
dash_terms i [] = []
dash_terms i (Some e ∷ entries) = dash_terms (suc i) entries
dash_terms i (None ∷ entries) = Input i ∷ dash_terms (suc i) entries

-- a term and others, joined from left to right
abbrev pub joined : (Tree → Tree → Tree) → Tree → List Tree → Tree
joined op t [] = t
joined op t (u ∷ terms) = joined op (op t u) terms

-- the time of all terms where they come at once, and else never
abbrev pub together : List Tree → Tree
together [] = Never
together (t ∷ []) = t
together (t ∷ u ∷ terms) = Lt (joined Max t (u ∷ terms)) (Inc (joined Min t (u ∷ terms)) 1)

-- the term where it comes before all others
abbrev pub before_all : Tree → List Tree → Tree
before_all t [] = t
before_all t (u ∷ terms) = Lt t (joined Min u terms)

abbrev pub minterm : Row → Tree
minterm r = before_all (together (number_terms r.out 0 r.entries)) (dash_terms 0 r.entries)

-- the earliest of all terms
abbrev pub earliest : List Tree → Tree
earliest [] = Never
earliest (t ∷ terms) = joined Min t terms

-- the term of a table: the earliest of its rows' minterms
abbrev pub synthesised : Table → Tree
synthesised t = earliest (map minterm t.rows)

-- the terms of a row in the order in which they are planted
abbrev pub row_terms : Row → List Tree
row_terms r = number_terms r.out 0 r.entries ++ minterm r ∷ []

-- all terms of a table in the order in which they are planted: the inputs, each row's, and then the joins of the minterms
abbrev pub table_terms : Table → List Tree
table_terms t = input_trees (length t.inputs) ++ flat_map row_terms t.rows ++ synthesised t ∷ []
