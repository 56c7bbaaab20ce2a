use Rattle.std.proofs.Common.{◌≡◌, ◌++◌, take}
use Rattle.refutation.specs.Text.{chain_text}
use Rattle.refutation.proofs.print.put_chain.Given as goal

abbrev pub invariant-loop-number : goal.invariant-loop-number
invariant-loop-number l = l.text.items ≡ l.initial.text.items ++ chain_text (take l.number-index l.chain)
