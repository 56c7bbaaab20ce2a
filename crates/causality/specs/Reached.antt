-- What an output reaches, and its place there.
use Rattle.std.specs.Prelude.{ℕ, List}
use Rattle.rl_time.specs.declared.time.Time.{Time}
use Rattle.term_store.specs.declared.node.Node.{Node}
use Rattle.term_store.specs.Tree.{value}
use Rattle.term_store.specs.Trees.{tree}

pub record Reached : Type 0 where
  pub nodes : List Node
  pub place : ℕ

-- the time of the output, at times of the inputs
abbrev pub time_of : Reached → List Time → Time
time_of r x = value x (tree r.nodes r.place)
