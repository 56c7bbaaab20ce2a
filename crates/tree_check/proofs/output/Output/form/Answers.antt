use Rattle.tree_check.specs.Bounds.{known}
use Rattle.tree_check.proofs.Setting.{output_room, output_same}
use Rattle.tree_check.proofs.output.Output.form.Goals as goal

pub form-requires : goal.form-requires
form-requires c =
    let set = rw (c.lets-lets.ensures, c.deref.ensures.value) at c.set_forms.ensures.set in
    let is = rw c.outputs.ensures at c.index-outputs-self.is in
    rw (c.deref-2.ensures.value, c.body-body.ensures)
    (output_room (known c.args.table.now) c.self.inside.network.now c.self.inside.place c.self.inside.needed.items c.set_forms.new.forms.items c.index-outputs-self.result
    c.self.invariant.rules c.self.invariant.there is c.self.invariant.needed set)

pub returns-clause-form : goal.returns-clause-form
returns-clause-form c =
    let set = rw (c.lets-lets.ensures, c.deref.ensures.value) at c.set_forms.ensures.set in
    let is = rw c.outputs.ensures at c.index-outputs-self.is in
    let same = output_same (known c.args.table.now) c.self.inside.network.now c.self.inside.place c.self.inside.needed.items c.set_forms.new.forms.items c.index-outputs-self.result
    c.self.invariant.rules c.self.invariant.there is c.self.invariant.needed set in
    rw (← c.self.view_is, c.form.ensures, c.deref-2.ensures.value, c.body-body.ensures) same
