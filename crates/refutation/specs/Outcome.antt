-- What an error of the reader says of a text.
use Rattle.std.specs.Prelude.{ℕ, List}
use Rattle.refutation.specs.declared.reader.rules.Rule.{Rule}
use Rattle.refutation.specs.declared.reader.rules.Rule.TheVariants as rule
use Rattle.refutation.specs.declared.reader.error.TreeError.{TreeError}
use Rattle.refutation.specs.declared.reader.error.TreeError.TheVariants as error
use Rattle.refutation.specs.Spelling.{IsBrokenText}

abbrev pub error_of : Rule → ℕ → TreeError
error_of rule.Syntax n = error.Syntax n
error_of rule.Range n = error.Range n
error_of rule.Long n = error.Long n
error_of rule.Count n = error.Count n

-- the cause of an error: the rule that it names is broken first, on its line; running out of memory has no cause in the text
abbrev pub IsCause : List ℕ → TreeError → Type 0
IsCause text (error.Syntax n) = IsBrokenText text rule.Syntax n
IsCause text (error.Range n) = IsBrokenText text rule.Range n
IsCause text (error.Long n) = IsBrokenText text rule.Long n
IsCause text (error.Count n) = IsBrokenText text rule.Count n
IsCause text error.NoMemory = Unit {0}
