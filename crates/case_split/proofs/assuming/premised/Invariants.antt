use Rattle.std.proofs.Common.{◌≡◌, take}
use Rattle.tree_check.specs.Valid.{root}
use Rattle.case_split.proofs.assuming.premised.Given as goal

abbrev pub invariant-loop-p : goal.invariant-loop-p
invariant-loop-p l =
    record {
      inputs : l.bounds.inputs ≡ l.inputs;
      so_far : l.bounds.assumptions ≡ root (take l.p-index l.premises);
    }
