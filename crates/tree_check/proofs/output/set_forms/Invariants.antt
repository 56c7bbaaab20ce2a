use Rattle.std.proofs.Common.{◌≡◌, length, take}
use Rattle.tree_check.specs.Bounds.{known}
use Rattle.tree_check.proofs.Setting.{AreSet}
use Rattle.tree_check.proofs.output.set_forms.Given as goal

abbrev pub invariant-loop-place : goal.invariant-loop-place
invariant-loop-place l =
    record {
      long : length l.forms.items ≡ length l.lets;
      set : AreSet (known l.table) l.lets (take l.place-index l.places) l.forms.items;
    }
