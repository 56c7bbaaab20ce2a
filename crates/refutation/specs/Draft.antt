-- What the code reads of a line, and keeps of the lines before.
use Rattle.std.specs.Prelude.{◌≡◌, List, Option, Some, None, Result, Ok, Err}
use Rattle.line_lang.specs.declared.error.LineError.{LineError}
use Rattle.line_lang.specs.declared.error.LineError.TheVariants.{Broken, NoMemory}
use Rattle.line_lang.specs.Judging as judging
use Rattle.rl_text.specs.Lines.{Word}
use Rattle.refutation.specs.declared.reader.draft.Draft as source
use Rattle.refutation.specs.declared.reader.form.Form as source_form
use Rattle.refutation.specs.declared.reader.form.Form.TheVariants as f
use Rattle.refutation.specs.declared.reader.rules.Rule.{Rule}
use Rattle.refutation.specs.declared.reader.rules.Rule.TheVariants as rule
use Rattle.refutation.specs.Forms.{Form, Header, Begin, Split, Leaf, Fact, Closed, Open, End}
use Rattle.refutation.specs.FormReading.{Read}
use Rattle.refutation.specs.LineRules.{SoFar}
use Rattle.refutation.specs.Spelling.{trees}

abbrev pub form : source_form.Form → Form
form f.Header = Header
form (f.Begin n) = Begin n.now
form (f.Split d) = Split d
form f.Leaf = Leaf
form (f.Fact d chain) = Fact d chain
form (f.Closed chain) = Closed chain
form f.Open = Open
form f.End = End

-- what the code reads is this value; where there is none, it reports bad syntax
abbrev pub Gives : {X Y : Type 0} → (X → Y) → Result X (LineError Rule) → Option Y → Type 0
Gives view result read = judging.Gives view rule.Syntax result read

-- what the code takes from the front of some words is this value, and these are left; where there is none, it reports bad syntax
abbrev pub Takes : {X : Type 0} → Result X (LineError Rule) → List Word → Read X → Type 0
Takes (Ok x) left read = read ≡ Some (x, left)
Takes (Err (Broken r)) left read = (r ≡ rule.Syntax) × (read ≡ None)
Takes (Err NoMemory) left read = Unit {0}

-- the same of a word that has no value
abbrev pub TakesWord : Result (Unit {0}) (LineError Rule) → List Word → Option (List Word) → Type 0
TakesWord (Ok u) left read = read ≡ Some left
TakesWord (Err (Broken r)) left read = (r ≡ rule.Syntax) × (read ≡ None)
TakesWord (Err NoMemory) left read = Unit {0}

abbrev pub so_far : source.Draft → SoFar
so_far d = record { stage = d.stage; trees = d.trees.items; name = d.name; items = d.tree; facts = d.facts }

-- of a form that its place allows: it breaks no rule, and the draft has it more; or it breaks this rule first
abbrev pub Judges : source.Draft → Form → source.Draft → Result (Unit {0}) (LineError Rule) → Type 0
Judges old f new result = judging.Judges trees (so_far old) f (so_far new) result
