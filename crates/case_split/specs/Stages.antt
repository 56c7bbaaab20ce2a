-- One place of the walk through the cases, and those that are pending.
use Rattle.std.specs.Prelude.{ℕ, ◌++◌, List, [], ◌∷◌, length, map}
use Rattle.refutation.specs.declared.assumption.Assumption.{Assumption}
use Rattle.refutation.specs.declared.item.Fact.{Fact}
use Rattle.refutation.specs.Cases.{Path}
use Rattle.tree_check.specs.declared.form.Form.{Form}

-- what is assumed, the facts that were derived from it, and the forms of the store's first places
pub record Stage : Type 0 where
  pub path : Path
  pub facts : List Fact
  pub forms : List Form

-- this stage, and those with which the pending sides begin, the next one first
pub record Stages : Type 0 where
  pub inputs : ℕ
  pub now : Stage
  pub later : List Stage

-- the paths of the pending subtrees
abbrev pub pending : Stages → List Path
pending s = s.now.path ∷ map (λ l. l.path) s.later

-- what an assumption says by itself, where it is the next of a path
abbrev pub its_fact : Path → Assumption → Fact
its_fact path a = record { from = a.from; to = a.to; bound = a.bound; chain = length path ∷ [] }

-- a stage where one thing more is assumed, which gives the next place its form
abbrev pub assumed : Stage → Assumption → Form → Stage
assumed s a f = record { path = s.path ++ a ∷ []; facts = s.facts ++ its_fact s.path a ∷ []; forms = s.forms ++ f ∷ [] }

abbrev pub learned : Stage → Fact → Stage
learned s f = record { path = s.path; facts = s.facts ++ f ∷ []; forms = s.forms }

abbrev pub settled : Stage → Form → Stage
settled s f = record { path = s.path; facts = s.facts; forms = s.forms ++ f ∷ [] }
