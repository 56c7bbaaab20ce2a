-- That every text has one answer: a module, or a broken rule.
use Rattle.std.specs.Prelude.{ℕ, List, ◌⊎◌}
use Rattle.circuit.specs.Circuit.{Circuit}
use Rattle.verilog_text.specs.declared.rule.Rule.{Rule}
use Rattle.verilog_text.specs.Spelling.{SpellsModule, IsBroken}

-- the text spells a module, or it breaks a rule first
abbrev pub HasAnswer : List ℕ → Type 0
HasAnswer text = ((m : Circuit) × SpellsModule text m) ⊎ ((r : Rule) × (line : ℕ) × IsBroken text r line)
