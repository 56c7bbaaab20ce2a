-- The steps by which terms are valued, and the numbers for times in them.
use Rattle.std.specs.Prelude.{ℕ, ◌<◌, ◌+◌, min, max, nat_lt, nat_eq, if◌then◌else◌, List, length, map}
use Rattle.std.specs.List.{slice_index_or}
use Rattle.rl_time.specs.declared.time.Time.{Time}
use Rattle.rl_time.specs.declared.time.Time.TheVariants as time
use Rattle.term_store.specs.declared.node.Node.{Node}
use Rattle.term_store.specs.declared.node.Node.TheVariants as node
use Rattle.term_store.specs.declared.step.Operator.{Operator}
use Rattle.term_store.specs.declared.step.Operator.TheVariants.{Min, Max, Lt, Inc}
use Rattle.term_store.specs.declared.step.Step.{Step}
use Rattle.term_store.specs.declared.step.Step.TheVariants.{Input, Never, Operation}
use Rattle.net_model.specs.Value.{time_at}
use Rattle.term_store.specs.Nodes.{IsNodes}
use Rattle.term_store.specs.Trees.{term}

abbrev pub operation_node : Operator → ℕ → ℕ → ℕ → Node
operation_node Min a b by = node.Min (term a) (term b)
operation_node Max a b by = node.Max (term a) (term b)
operation_node Lt a b by = node.Lt (term a) (term b)
operation_node Inc a b by = node.Inc (term a) by

-- the node that is valued by a step
abbrev pub step_node : Step → Node
step_node (Input i) = node.Input i
step_node Never = node.Never
step_node (Operation o) = operation_node o.operator o.first o.second o.by

abbrev pub step_nodes : List Step → List Node
step_nodes steps = map step_node steps

abbrev pub step_at : List Step → ℕ → Step
step_at steps place = slice_index_or steps place Never

-- the step may be after m others: it reads only those
abbrev pub IsStepOver : ℕ → Step → Type 0
IsStepOver m (Input i) = Unit {0}
IsStepOver m Never = Unit {0}
IsStepOver m (Operation o) = (o.first < m) × (o.second < m)

-- the steps of the nodes of a store, each over those before it
pub record AreSteps (steps : List Step) : Type 0 where
  pub nodes : IsNodes (step_nodes steps)
  pub lower : (place : ℕ) → place < length steps → IsStepOver place (step_at steps place)

-- the number for never, the greatest of 64 bits
abbrev pub never : ℕ
never = 18446744073709551615

abbrev pub number : Time → ℕ
number (time.At a) = a
number time.Never = never

abbrev pub time_of : ℕ → Time
time_of n = if nat_eq n never then time.Never else time.At n

-- the number at a place
abbrev pub number_at : List ℕ → ℕ → ℕ
number_at numbers place = slice_index_or numbers place 0

-- what the operator gives at two numbers; inc adds a third to the first
abbrev pub answer : Operator → ℕ → ℕ → ℕ → ℕ
answer Min p q by = min p q
answer Max p q by = max p q
answer Lt p q by = if nat_lt p q then p else never
answer Inc p q by = min (p + by) never

-- the number that a step gives, at the times x and the numbers of the steps before it
abbrev pub step_number : List Time → List ℕ → Step → ℕ
step_number x numbers (Input i) = number (time_at x i)
step_number x numbers Never = never
step_number x numbers (Operation o) = answer o.operator (number_at numbers o.first) (number_at numbers o.second) o.by
