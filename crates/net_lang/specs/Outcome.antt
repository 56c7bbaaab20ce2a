-- What an error of the reader says of a text.
use Rattle.std.specs.Prelude.{ℕ, List}
use Rattle.net_lang.specs.declared.reader.rules.Rule.{Rule}
use Rattle.net_lang.specs.declared.reader.rules.Rule.TheVariants as rule
use Rattle.net_lang.specs.declared.reader.error.NetError.{NetError}
use Rattle.net_lang.specs.declared.reader.error.NetError.TheVariants as error
use Rattle.net_lang.specs.Spelling.{IsBrokenNetwork}

abbrev pub error_of : Rule → ℕ → NetError
error_of rule.Syntax n = error.Syntax n
error_of rule.Name n = error.Name n
error_of rule.Doubled n = error.Doubled n
error_of rule.Unknown n = error.Unknown n
error_of rule.Count n = error.Count n
error_of rule.Span n = error.Span n

-- the cause of an error: the rule that it names is broken first, on its line; running out of memory has no cause in the text
abbrev pub IsCause : List ℕ → NetError → Type 0
IsCause text (error.Syntax n) = IsBrokenNetwork text rule.Syntax n
IsCause text (error.Name n) = IsBrokenNetwork text rule.Name n
IsCause text (error.Span n) = IsBrokenNetwork text rule.Span n
IsCause text (error.Doubled n) = IsBrokenNetwork text rule.Doubled n
IsCause text (error.Unknown n) = IsBrokenNetwork text rule.Unknown n
IsCause text (error.Count n) = IsBrokenNetwork text rule.Count n
IsCause text error.NoMemory = Unit {0}
