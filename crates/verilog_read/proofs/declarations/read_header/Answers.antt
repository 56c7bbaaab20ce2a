use Rattle.std.proofs.Common.{refl, sym, ap, ◌∙◌}
use Rattle.verilog_text.specs.Judging.{are_ports, are_few}
use Rattle.verilog_read.proofs.Ports.{all_now}
use Rattle.verilog_read.proofs.Kept.{header_kept}
use Rattle.verilog_read.proofs.Verdicts.{header_misnamed, header_unlisted, header_over, header_stands}
use Rattle.verilog_read.proofs.declarations.read_header.Goals as goal

pub returns-then-not-is_race : goal.returns-then-not-is_race
returns-then-not-is_race c = λ x h. header_misnamed x c.args.name.now (all_now c.args.ports.items) (sym c.is_race.ensures ∙ c.if-not-is_race.true)

pub returns-then-not-are_ports : goal.returns-then-not-are_ports
returns-then-not-are_ports c = λ x h.
    header_unlisted x c.args.name.now (all_now c.args.ports.items) (sym (c.are_ports.ensures ∙ ap (λ ps. are_ports (all_now ps)) c.deref.ensures.value) ∙ c.if-not-are_ports.true)

pub returns-then-not-are_few : goal.returns-then-not-are_few
returns-then-not-are_few c = λ x h.
    header_over x c.args.name.now (all_now c.args.ports.items) (sym c.is_race.ensures ∙ c.if-not-is_race.false) (sym (c.are_ports.ensures ∙ ap (λ ps. are_ports (all_now ps)) c.deref.ensures.value) ∙ c.if-not-are_ports.false)
    (sym (c.are_few.ensures ∙ ap (λ ps. are_few (all_now ps)) c.deref-2.ensures.value) ∙ c.if-not-are_few.true)

pub returns : goal.returns
returns c = λ x h more.
    let rule =
    header_stands x c.args.name.now (all_now c.args.ports.items) (sym c.is_race.ensures ∙ c.if-not-is_race.false) (sym (c.are_ports.ensures ∙ ap (λ ps. are_ports (all_now ps)) c.deref.ensures.value) ∙ c.if-not-are_ports.false)
    (sym (c.are_few.ensures ∙ ap (λ ps. are_few (all_now ps)) c.deref-2.ensures.value) ∙ c.if-not-are_few.false) in
    (rule, header_kept c.args.draft.now _ x c.args.name.now (all_now c.args.ports.items) c.requires (more rule) rule refl refl)
