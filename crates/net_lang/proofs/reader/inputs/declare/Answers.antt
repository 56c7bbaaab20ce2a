use Rattle.std.proofs.Common.{ap, ◌∙◌, ℕ, List, ◌++◌, [], ◌∷◌, arith}
use Rattle.net_lang.proofs.Declaring.{begins, turn, found, all_done}
use Rattle.net_lang.proofs.reader.inputs.declare.Goals as goal

pub loop-name-init : goal.loop-name-init
loop-name-init c = begins _ _ _ c.requires

pub loop-name-preserved : goal.loop-name-preserved
loop-name-preserved c =
    turn c.loop-name.scope c.args.inputs.now.items c.loop-name.inputs.items c.args.names.now c.loop-name.name-index _ c.loop-name-test.true c.loop-name.invariant
    c.add.new.self c.push.new.self.items c.len-place.result c.get.result c.is_some.result c.get.ensures c.is_some.ensures c.if-is_some.false
    (omega (arith, c.len-place.ensures, c.loop-name.inputs.ok)) c.in_ok-add.ensures
    (c.in_ok-push.ensures.items ∙ ap (λ (x : List ℕ). c.loop-name.inputs.items ++ x ∷ []) c.in_ok-input.ensures)

pub returns-then-is_some : goal.returns-then-is_some
returns-then-is_some c =
    found c.loop-name.scope c.args.inputs.now.items c.loop-name.inputs.items c.args.names.now c.loop-name.name-index _ c.loop-name-test.true c.loop-name.invariant
    c.get.result c.is_some.result c.get.ensures c.is_some.ensures c.if-is_some.true

pub returns : goal.returns
returns c = all_done c.loop-name.scope c.args.inputs.now.items c.loop-name.inputs.items c.args.names.now c.loop-name.name-index c.loop-name-test.false c.loop-name.invariant
