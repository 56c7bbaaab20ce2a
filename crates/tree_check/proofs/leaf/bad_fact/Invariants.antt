use Rattle.std.proofs.Common.{◌≡◌, drop}
use Rattle.tree_check.specs.Verdict.{bad_fact}
use Rattle.tree_check.proofs.leaf.bad_fact.Given as goal

abbrev pub invariant-loop-fact : goal.invariant-loop-fact
invariant-loop-fact l =
    record {
      here : l.n ≡ l.fact-index;
      rest : bad_fact l.path l.n (drop l.fact-index l.facts) ≡ bad_fact l.path 0 l.facts;
    }
