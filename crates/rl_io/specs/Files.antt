-- Files by name, and what is known of bytes that are exposed.
use Rattle.std.specs.Prelude.{◌≡◌, ℕ, List, ◌++◌, map, Option, IfSome, IsSomeAnd, Vec, String, string_bytes, AllPairs}
use Rattle.std.specs.Option.{option_map}
use Rattle.std.specs.Map.{lookup}
use Rattle.std.specs.Str.{bytes_eq}
use Rattle.std.specs.declared.alloc.Global.{Global}

-- names and bytes: a file's bytes are those under its name
abbrev pub Files : Type 0
Files = List (List ℕ × List ℕ)

-- the bytes under a name, if a file has that name
abbrev pub file_under : List ℕ → Files → Option (List ℕ)
file_under name files = lookup (bytes_eq name) files

-- if files are exposed, there is one under the name, and it has P
abbrev pub OnFile : Option Files → List ℕ → (List ℕ → Type 0) → Type 0
OnFile told name P = IfSome told (λ files. IsSomeAnd (lookup (bytes_eq name) files) P)

-- the exposed bytes gained these at their end
abbrev pub Adds : Option (List ℕ) → Option (List ℕ) → List ℕ → Type 0
Adds before now text = now ≡ option_map (λ bytes. bytes ++ text) before

-- the files of a list of names and bytes
abbrev pub entries : List (String Global × Vec ℕ Global) → Files
entries files = map (λ f. (string_bytes f.0, f.1.items)) files

-- no two files have one name
abbrev pub AreDistinct : Files → Type 0
AreDistinct files = AllPairs (λ f g. f.0 ≡ g.0 → ⊥) files
