use Rattle.std.proofs.Common.{◌≡◌, length}
use Rattle.std.specs.Prelude.{map}
use Rattle.net_lang.specs.FormReading.{names_at}
use Rattle.net_lang.proofs.Names.{with_names}
use Rattle.net_lang.proofs.reader.form.names_at.Given as goal

abbrev pub invariant-loop-w : goal.invariant-loop-w
invariant-loop-w l = with_names (map (λ n. n.now) l.names.items) (names_at l.rest) ≡ names_at l.fn.words

abbrev pub decreases-loop-w : goal.decreases-loop-w
decreases-loop-w l = length l.rest
