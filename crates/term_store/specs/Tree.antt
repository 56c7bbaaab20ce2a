-- A term written out as a tree, its value and its span.
use Rattle.std.specs.Prelude.{ℕ, ◌+◌, max, List}
use Rattle.rl_time.specs.declared.time.Time.{Time}
use Rattle.rl_time.specs.declared.time.Time.TheVariants as time
use Rattle.rl_time.specs.Time.{time_min, time_max, time_lt, time_inc}
use Rattle.net_model.specs.Value.{time_at}

-- operators over inputs, each named by its place
pub data Tree : Type 0 where
  Never : Tree
  Input : ℕ → Tree
  Min : Tree → Tree → Tree
  Max : Tree → Tree → Tree
  Lt : Tree → Tree → Tree
  Inc : Tree → ℕ → Tree

-- the time of a term, at the times x of the inputs
abbrev pub value : List Time → Tree → Time
value x Never = time.Never
value x (Input i) = time_at x i
value x (Min a b) = time_min (value x a) (value x b)
value x (Max a b) = time_max (value x a) (value x b)
value x (Lt a b) = time_lt (value x a) (value x b)
value x (Inc a c) = time_inc (value x a) c

-- how much later than an input a term can be
abbrev pub span : Tree → ℕ
span Never = 0
span (Input i) = 0
span (Min a b) = max (span a) (span b)
span (Max a b) = max (span a) (span b)
span (Lt a b) = max (span a) (span b)
span (Inc a c) = span a + c
