-- The text of a module is read as the module.
use Rattle.std.proofs.Common.{◌≡◌, ℕ, List, refl}
use Rattle.circuit.specs.Circuit.{Circuit}
use Rattle.verilog_text.specs.declared.rule.Rule.{Rule}
use Rattle.verilog_text.specs.declared.rule.Rule.TheVariants as rule
use Rattle.verilog_text.specs.Spelling.{SpellsModule, IsBroken}
use Rattle.verilog_read.specs.declared.error.VerilogError.{VerilogError}
use Rattle.verilog_read.specs.declared.error.VerilogError.TheVariants as error
use Rattle.verilog_read.specs.Outcome.{IsCause}

-- the reader of a text that spells a module can only run out of memory
pub only_memory : (text : List ℕ) (m : Circuit) (e : VerilogError) → ((text : List ℕ) (m : Circuit) (r : Rule) (line : ℕ) → SpellsModule text m → IsBroken text r line → ⊥) →
    SpellsModule text m → IsCause text e → e ≡ error.NoMemory
only_memory text m (error.Syntax n) law spells cause = absurd (law text m rule.Syntax n spells cause)
only_memory text m (error.Name n) law spells cause = absurd (law text m rule.Name n spells cause)
only_memory text m (error.Order n) law spells cause = absurd (law text m rule.Order n spells cause)
only_memory text m (error.Width n) law spells cause = absurd (law text m rule.Width n spells cause)
only_memory text m (error.Limit n) law spells cause = absurd (law text m rule.Limit n spells cause)
only_memory text m error.NoMemory law spells cause = refl
