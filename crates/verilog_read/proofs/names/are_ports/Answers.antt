use Rattle.std.proofs.Common.{ap, ◌∙◌, List, ℕ}
use denote.Bor.{Bor}
use Rattle.std.specs.List.{list_all}
use Rattle.verilog_text.specs.Judging.{is_output_port}
use Rattle.std.proofs.lemmas.List.{take_rest}
use Rattle.verilog_read.proofs.Ports.{ports_then, ports_else}
use Rattle.verilog_read.proofs.names.are_ports.Goals as goal

pub returns-then-are_clock_and_reset : goal.returns-then-are_clock_and_reset
returns-then-are_clock_and_reset c = ports_then c.args.ports.now _ (take_rest c.args.ports.now 2) c.inputs_in-inputs.result c.inputs_in-inputs.ensures.count _ _ c.are_clock_and_reset.result c.are_outputs.result c.in-len2-up.len_at_least c.are_clock_and_reset.ensures c.if-are_clock_and_reset.true
    (c.are_outputs.ensures ∙ ap (λ (qs : List (Bor (List ℕ))). list_all (λ p. is_output_port p.now) qs) (take_rest _ c.inputs_in-inputs.result))

pub returns-else-are_clock_and_reset : goal.returns-else-are_clock_and_reset
returns-else-are_clock_and_reset c = ports_else c.args.ports.now _ (take_rest c.args.ports.now 2) c.inputs_in-inputs.result c.inputs_in-inputs.ensures.count _ _ c.are_clock_and_reset.result c.in-len2-up.len_at_least c.are_clock_and_reset.ensures c.if-are_clock_and_reset.false
