use Rattle.std.proofs.Common.{◌≡◌, ◌++◌, take}
use Rattle.net_model.specs.Rules.{names_of}
use Rattle.net_model.specs.Text.{equations_text}
use Rattle.net_model.proofs.print.put_equations.Given as goal

abbrev pub invariant-loop-binding : goal.invariant-loop-binding
invariant-loop-binding l = l.text.items ≡ l.initial.text.items ++ equations_text l.word l.inputs (names_of l.lets) (take l.binding-index l.all)
