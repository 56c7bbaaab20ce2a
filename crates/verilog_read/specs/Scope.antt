-- The names that a module declares.
use Rattle.std.specs.Prelude.{◌≡◌, ℕ, List, map, Option, Some, bytes_eq}
use Rattle.std.specs.Borrow.{Bor}
use Rattle.std.specs.List.{All}
use Rattle.std.specs.Map.{lookup}
use Rattle.std.specs.BTreeMap.{BTreeMap}
use Rattle.verilog_read.specs.declared.scope.Declared.{Declared}
use Rattle.verilog_read.specs.declared.scope.Meaning.{Meaning}

-- names, and what each of them means
abbrev pub Names : Type 0
Names = List (List ℕ × Meaning)

-- what a name means
abbrev pub find : Names → List ℕ → Option Meaning
find names t = lookup (bytes_eq t) names

-- the names of a map
abbrev pub names_of : BTreeMap (Bor (List ℕ)) Meaning → Names
names_of m = map (λ e. (e.0.now, e.1)) m.entries

-- each of these names means what is listed for it
abbrev pub AreFound : Names → List Declared → Type 0
AreFound names listed = All (λ d. find names d.name.now ≡ Some d.meaning) listed
