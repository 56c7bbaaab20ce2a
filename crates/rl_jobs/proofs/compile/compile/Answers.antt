use Rattle.std.proofs.Common.{◌≡◌, ◌≤◌, List, ℕ, length, subst, sym}
use Rattle.verilog_text.specs.Spelling.{SpellsModule}
use Rattle.verilog_text.specs.Text.{module_text}
use Rattle.rl_jobs.proofs.compile.compile.Goals as goal

pub returns-clause-text : goal.returns-clause-text
returns-clause-text c =
    let m = c.in-Ok.module in
    let text = c.in_ok-text.text.items in
    let written : text ≡ module_text m = c.in_ok-text.ensures in
    let spells : SpellsModule text m = subst (λ (t : List ℕ). SpellsModule t m) (sym written) (c.printing_spells.ensures m c.rules.ensures c.in-Ok.ensures.shallow) in
    record {
      source = c.in_ok-source.source;
      read = c.in_ok-source.ensures.source;
      few = c.in-Ok.ensures.few;
      compiled = m;
      is = c.in-Ok.ensures.is;
      written = written;
      spells = spells;
      no_other = λ n s. c.one_module.ensures text n m s spells;
      short = subst (λ (t : List ℕ). length t ≤ 16777216) (sym written) c.in-Ok.ensures.short;
      right = c.in-Ok.ensures.right;
    }
