-- What a map of names finds.
use Rattle.std.specs.Prelude.{◌≡◌, ℕ, if◌then◌else◌, List, Option, Some}
use Rattle.std.specs.Str.{bytes_eq}
use Rattle.std.specs.Ordering.{nat_cmp}
use Rattle.std.specs.Cmp.Lexicographic.{slice_cmp}
use Rattle.std.specs.BTreeMap.{get_by}
use Rattle.rl_text.specs.declared.name_map.NameMap as source

abbrev pub find : {T : Type 0} → source.NameMap T → List ℕ → Option T
find m t = get_by (λ k. slice_cmp nat_cmp t k.now) m.map

abbrev pub AddsName : {T : Type 0} → source.NameMap T → source.NameMap T → List ℕ → T → Type 0
AddsName old new name value = (t : List ℕ) → find new t ≡ (if bytes_eq name t then Some value else find old t)
