use Rattle.std.proofs.Common.{drop}
use Rattle.std.specs.Prelude.{map}
use Rattle.net_lang.proofs.Declaring.{Declaring}
use Rattle.net_lang.proofs.reader.inputs.declare.Given as goal

abbrev pub invariant-loop-name : goal.invariant-loop-name
invariant-loop-name l = Declaring l.scope l.initial.inputs.items (map (λ n. n.now) l.names) l.inputs.items (map (λ n. n.now) (drop l.name-index l.names))
