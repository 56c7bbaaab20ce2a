use Rattle.std.proofs.Common.{◌≡◌, ◌∙◌, ℕ, List, sym, subst}
use Rattle.verilog_text.specs.Spelling.{SpellsModule}
use Rattle.verilog_text.specs.Text.{module_text}
use Rattle.rl_flow.proofs.Reading.{only_memory}
use Rattle.rl_flow.proofs.compiling.read_again.Goals as goal

pub out_of_memory-requires : goal.out_of_memory-requires
out_of_memory-requires c =
    let m = c.args.m.now in
    let written : c.deref.result.now ≡ module_text m = c.deref.ensures.value ∙ c.in_ok-text.ensures in
    let spells : SpellsModule c.deref.result.now m = subst (λ (t : List ℕ). SpellsModule t m) (sym written) (c.printing_spells.ensures m c.rules.ensures c.requires.shallow) in
    record { only = only_memory c.deref.result.now m c.in-Err.error c.no_broken_rule.ensures spells c.in-Err.ensures.cause }
