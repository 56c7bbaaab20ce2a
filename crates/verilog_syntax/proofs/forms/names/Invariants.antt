use Rattle.std.proofs.Common.{◌≡◌, length, map}
use Rattle.verilog_text.specs.Reading.{more_names, names_at}
use Rattle.verilog_syntax.proofs.NameLists.{with_front}
use Rattle.verilog_syntax.proofs.forms.names.Given as goal

abbrev pub invariant-loop-words : goal.invariant-loop-words
invariant-loop-words l = with_front (map (λ n. n.now) l.all.items) (more_names l.words) ≡ names_at l.fn.words

abbrev pub decreases-loop-words : goal.decreases-loop-words
decreases-loop-words l = length l.words
