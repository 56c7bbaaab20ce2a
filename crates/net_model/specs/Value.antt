-- The space-time function of a network: the time of each output at the times of the inputs. Times have no bound here.
use Rattle.std.specs.Prelude.{ℕ, List, [], ◌∷◌, ◌++◌, fold, map, slice_index_or}
use Rattle.rl_time.specs.declared.time.Time.{Time}
use Rattle.rl_time.specs.declared.time.Time.TheVariants as time
use Rattle.rl_time.specs.Time.{time_min, time_max, time_lt, time_inc}
use Rattle.net_model.specs.Formula.{Formula, Never, Input, Named, Min, Max, Lt, Inc, Equation, Net}

-- the time at a place, and never past the end, where no network looks
abbrev pub time_at : List Time → ℕ → Time
time_at times place = slice_index_or times place time.Never

-- the time of a formula, at the times x of the inputs and the times of the lets
abbrev pub value : List Time → List Time → Formula → Time
value x lets Never = time.Never
value x lets (Input i) = time_at x i
value x lets (Named j) = time_at lets j
value x lets (Min a b) = time_min (value x lets a) (value x lets b)
value x lets (Max a b) = time_max (value x lets a) (value x lets b)
value x lets (Lt a b) = time_lt (value x lets a) (value x lets b)
value x lets (Inc a c) = time_inc (value x lets a) c

-- the times of the lets, in order
abbrev pub let_values : List Time → List Equation → List Time
let_values x lets = fold (λ times e. times ++ value x times e.body ∷ []) [] lets

-- the times of the outputs, in order
abbrev pub space_time_function : Net → List Time → List Time
space_time_function n x = map (λ e. value x (let_values x n.lets) e.body) n.outputs
