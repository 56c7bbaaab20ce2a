use Rattle.std.proofs.Common.{◌≡◌, ◌∷◌, [], ◌∙◌, sym, length, None}
use Rattle.tree_check.specs.Valid.{outputs, root}
use Rattle.tree_check.specs.Verdict.{misshapen, flawed}
use Rattle.tree_check.proofs.walk.check.Goals as goal

pub returns-in-Ok-None-clause-valid : goal.returns-in-Ok-None-clause-valid
returns-in-Ok-None-clause-valid c e =
    let pair = outputs c.args.first.now c.args.second.now c.args.out in
    let shape : misshapen (length c.args.first.now.inputs) 1 0 c.args.tree.now ≡ None = rw (← c.inputs.ensures, ← c.items-items.ensures) (sym c.in_default.ensures) in
    let flaws : flawed pair (root c.args.premises.now ∷ []) 0 c.args.tree.now ≡ None = rw (← c.items-items.ensures) (sym c.in-Ok-None.ensures ∙ c.in-Ok-None.field-0-is) in
    (c.valid_or_fault.ensures c.args.premises.now pair c.args.tree.now).0 (rw shape flaws)

pub returns-in-Ok-None-clause-equal : goal.returns-in-Ok-None-clause-equal
returns-in-Ok-None-clause-equal c e =
    c.valid_trees_decide.ensures c.args.premises.now (outputs c.args.first.now c.args.second.now c.args.out) c.args.tree.now c.requires.premises_name_inputs (returns-in-Ok-None-clause-valid c e)
