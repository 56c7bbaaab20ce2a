-- What the expression of the code is.
use Rattle.std.specs.Prelude.{◌≡◌, List, Option, Some, None, Result, Ok, Err}
use Rattle.rl_text.specs.Lines.{Word}
use Rattle.net_lang.specs.declared.reader.written.Written.{Written}
use Rattle.net_lang.specs.declared.reader.written.Written.TheVariants as w
use Rattle.line_lang.specs.declared.error.LineError.{LineError}
use Rattle.line_lang.specs.declared.error.LineError.TheVariants.{Broken, NoMemory}
use Rattle.line_lang.specs.Judging as judging
use Rattle.net_lang.specs.declared.reader.rules.Rule.{Rule}
use Rattle.net_lang.specs.declared.reader.rules.Rule.TheVariants as rule
use Rattle.net_lang.specs.Grammar.{Expression, Never, Name, Min, Max, Lt, Inc}

abbrev pub expression : Written → Expression
expression w.Never = Never
expression (w.Name t) = Name t.now
expression (w.Min' p a q b) = Min (expression a) (expression b)
expression (w.Max' p a q b) = Max (expression a) (expression b)
expression (w.Lt' p a q b) = Lt (expression a) (expression b)
expression (w.Inc' p a t) = Inc (expression a) t.now

-- what the code reads is this value; where there is none, it reports bad syntax
abbrev pub Gives : {X Y : Type 0} → (X → Y) → Result X (LineError Rule) → Option Y → Type 0
Gives view result read = judging.Gives view rule.Syntax result read

-- what the code takes from the front of some words is this value, and these are left; where there is none, it reports bad syntax
abbrev pub Takes : {X Y : Type 0} → (X → Y) → Result X (LineError Rule) → List Word → Option (Y × List Word) → Type 0
Takes view (Ok x) left read = read ≡ Some (view x, left)
Takes view (Err (Broken r)) left read = (r ≡ rule.Syntax) × (read ≡ None)
Takes view (Err NoMemory) left read = Unit {0}

-- the same of a word that has no value
abbrev pub TakesSign : Result (Unit {0}) (LineError Rule) → List Word → Option (List Word) → Type 0
TakesSign (Ok u) left read = read ≡ Some left
TakesSign (Err (Broken r)) left read = (r ≡ rule.Syntax) × (read ≡ None)
TakesSign (Err NoMemory) left read = Unit {0}

-- the same of two values
abbrev pub TakesTwo : {X Y Z : Type 0} → (X → Y) → (X → Z) → Result X (LineError Rule) → List Word → Option (Y × Z × List Word) → Type 0
TakesTwo first second (Ok x) left read = read ≡ Some (first x, second x, left)
TakesTwo first second (Err (Broken r)) left read = (r ≡ rule.Syntax) × (read ≡ None)
TakesTwo first second (Err NoMemory) left read = Unit {0}
