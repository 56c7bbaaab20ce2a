use Rattle.std.proofs.Common.{◌≡◌, ◌++◌, take}
use Rattle.refutation.specs.Text.{facts_text}
use Rattle.refutation.proofs.print.put_facts.Given as goal

abbrev pub invariant-loop-fact : goal.invariant-loop-fact
invariant-loop-fact l = l.text.items ≡ l.initial.text.items ++ facts_text (take l.fact-index l.facts)
