-- The rules that every network keeps.
use Rattle.std.specs.Prelude.{ℕ, suc, ◌+◌, ◌<◌, ◌≤◌, max, Bool, true, false, not, ◌&&◌, nat_le, IsTrue, List, [], ◌∷◌, ◌++◌, length, map, fold, codes, slice_index_or, sum_by}
use Rattle.std.specs.List.{list_all, list_any, AllByRecursion}
use Rattle.std.specs.Str.{bytes_eq}
use Rattle.rl_text.specs.Names.{is_name, is_underscore}
use Rattle.net_model.specs.Limits.{most_ports, most_name_bytes, most_joins, most_delays, most_nesting, most_span}
use Rattle.net_model.specs.Formula.{Formula, Never, Input, Named, Min, Max, Lt, Inc, Equation, Net}

-- the words of expressions, which are no names
abbrev pub reserved_words : List (List ℕ)
reserved_words = codes "min" ∷ codes "max" ∷ codes "lt" ∷ codes "inc" ∷ codes "never" ∷ []

abbrev pub is_reserved : List ℕ → Bool
is_reserved name = list_any (bytes_eq name) reserved_words

-- a name that a let may have: of few bytes, and no reserved word
abbrev pub is_let_name : List ℕ → Bool
is_let_name name = is_name name && nat_le (length name) most_name_bytes && not (is_reserved name)

abbrev pub begins_with_underscore : List ℕ → Bool
begins_with_underscore [] = false
begins_with_underscore (b ∷ bytes) = is_underscore b

-- a name that an input or an output may have: that of a let which doesn't begin with `_`
abbrev pub is_port_name : List ℕ → Bool
is_port_name name = is_let_name name && not (begins_with_underscore name)

-- no name is there twice
abbrev pub are_distinct : List (List ℕ) → Bool
are_distinct [] = true
are_distinct (name ∷ names) = not (list_any (bytes_eq name) names) && are_distinct names

abbrev pub names_of : List Equation → List (List ℕ)
names_of equations = map (λ e. e.name) equations

-- all names that a network declares
abbrev pub declared_names : Net → List (List ℕ)
declared_names n = n.inputs ++ names_of n.lets ++ names_of n.outputs

-- how many of min, max and lt are written in a formula
abbrev pub joins : Formula → ℕ
joins Never = 0
joins (Input i) = 0
joins (Named j) = 0
joins (Min a b) = joins a + joins b + 1
joins (Max a b) = joins a + joins b + 1
joins (Lt a b) = joins a + joins b + 1
joins (Inc a c) = joins a

-- how many incs are written in a formula, those by 0 too
abbrev pub delays : Formula → ℕ
delays Never = 0
delays (Input i) = 0
delays (Named j) = 0
delays (Min a b) = delays a + delays b
delays (Max a b) = delays a + delays b
delays (Lt a b) = delays a + delays b
delays (Inc a c) = delays a + 1

-- how deep the operators are nested
abbrev pub nesting : Formula → ℕ
nesting Never = 0
nesting (Input i) = 0
nesting (Named j) = 0
nesting (Min a b) = max (nesting a) (nesting b) + 1
nesting (Max a b) = max (nesting a) (nesting b) + 1
nesting (Lt a b) = max (nesting a) (nesting b) + 1
nesting (Inc a c) = nesting a + 1

-- the span of a formula, over the spans of the lets: how much later than an input it can be
abbrev pub span : List ℕ → Formula → ℕ
span lets Never = 0
span lets (Input i) = 0
span lets (Named j) = slice_index_or lets j 0
span lets (Min a b) = max (span lets a) (span lets b)
span lets (Max a b) = max (span lets a) (span lets b)
span lets (Lt a b) = max (span lets a) (span lets b)
span lets (Inc a c) = span lets a + c

-- the spans of the lets, in order
abbrev pub let_spans : List Equation → List ℕ
let_spans lets = fold (λ spans e. spans ++ span spans e.body ∷ []) [] lets

abbrev pub output_spans : Net → List ℕ
output_spans n = map (λ e. span (let_spans n.lets) e.body) n.outputs

-- it names only the first i inputs and the first k lets
abbrev pub IsOver : ℕ → ℕ → Formula → Type 0
IsOver i k Never = Unit {0}
IsOver i k (Input n) = n < i
IsOver i k (Named n) = n < k
IsOver i k (Min a b) = IsOver i k a × IsOver i k b
IsOver i k (Max a b) = IsOver i k a × IsOver i k b
IsOver i k (Lt a b) = IsOver i k a × IsOver i k b
IsOver i k (Inc a c) = IsOver i k a

-- the first of these lets has the place k, and each names only earlier lets
abbrev pub AreLets : ℕ → ℕ → List Equation → Type 0
AreLets i k [] = Unit {0}
AreLets i k (e ∷ equations) = IsOver i k e.body × AreLets i (suc k) equations

abbrev pub equations : Net → List Equation
equations n = n.lets ++ n.outputs

pub record IsNetwork (n : Net) : Type 0 where
  pub some_input : 1 ≤ length n.inputs
  pub few_inputs : length n.inputs ≤ most_ports
  pub some_output : 1 ≤ length n.outputs
  pub few_outputs : length n.outputs ≤ most_ports
  pub input_names : IsTrue (list_all is_port_name n.inputs)
  pub let_names : IsTrue (list_all is_let_name (names_of n.lets))
  pub output_names : IsTrue (list_all is_port_name (names_of n.outputs))
  pub distinct : IsTrue (are_distinct (declared_names n))
  pub lets_over : AreLets (length n.inputs) 0 n.lets
  pub outputs_over : AllByRecursion (λ e. IsOver (length n.inputs) (length n.lets) e.body) n.outputs
  pub few_joins : sum_by (λ e. joins e.body) (equations n) ≤ most_joins
  pub few_delays : sum_by (λ e. delays e.body) (equations n) ≤ most_delays
  pub shallow : AllByRecursion (λ e. nesting e.body ≤ most_nesting) (equations n)
  pub short_lets : AllByRecursion (λ s. s ≤ most_span) (let_spans n.lets)
  pub short_outputs : AllByRecursion (λ s. s ≤ most_span) (output_spans n)
