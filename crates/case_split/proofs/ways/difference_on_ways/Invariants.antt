use Rattle.std.proofs.Common.{◌≡◌, []}
use Rattle.tree_check.specs.Valid.{root}
use Rattle.case_split.proofs.ways.difference_on_ways.Given as goal

abbrev pub invariant-loop-way : goal.invariant-loop-way
invariant-loop-way l =
    record {
      now : l.stages.now ≡ record { path = root l.premises; facts = []; forms = [] };
      inputs : l.stages.inputs ≡ l.inputs;
    }
