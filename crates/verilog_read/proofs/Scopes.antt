-- A scope's names are those of its map, and stay what they are when a new one is declared.
use Rattle.std.proofs.Common.{◌≡◌, ℕ, zero, suc, Bool, true, false, cond, arith, List, [], ◌∷◌, ◌++◌, slice_index_or, map, Some, None, refl, sym, ap, ◌∙◌, Bor}
use Rattle.std.specs.Str.{bytes_eq}
use Rattle.std.specs.List.{All}
use Rattle.std.specs.Map.{lookup}
use Rattle.std.specs.Ordering.{nat_cmp, is_eq}
use Rattle.std.specs.Cmp.Lexicographic.{slice_cmp}
use Rattle.std.specs.BTreeMap as tree
use Rattle.std.specs.BTreeMap.{BTreeMap}
use Rattle.std.proofs.lemmas.Map.Text.{btree_map_updates_str, is_eq-slice_cmp}
use Rattle.std.proofs.lemmas.Slice.Eq.{bytes_eq-Decides}
use Rattle.std.proofs.lemmas.List.Elements.{All-append}
use Rattle.verilog_read.specs.declared.scope.Declared.{Declared}
use Rattle.verilog_read.specs.declared.scope.Meaning.{Meaning}
use Rattle.verilog_read.specs.Scope.{Names, find, names_of, AreFound}

in_entries : (es : List (Bor (List ℕ) × Meaning)) (t : List ℕ) →
    lookup (λ k. is_eq (slice_cmp nat_cmp t k.now)) es ≡ lookup (bytes_eq t) (map (λ e. (e.0.now, e.1)) es)
in_entries [] t = refl
in_entries (e ∷ es) t =
    ap (λ b. cond b (Some e.1) (lookup (λ k. is_eq (slice_cmp nat_cmp t k.now)) es)) (is_eq-slice_cmp t e.0.now)
    ∙ ap (λ o. cond (bytes_eq t e.0.now) (Some e.1) o) (in_entries es t)

-- what the map has at a name is what the name means
pub in_map : (m : BTreeMap (Bor (List ℕ)) Meaning) (t : List ℕ) → tree.get_by (λ k. slice_cmp nat_cmp t k.now) m ≡ find (names_of m) t
in_map m t = in_entries m.entries t

module _ (old new : BTreeMap (Bor (List ℕ)) Meaning) (n : List ℕ) (x : Meaning)
    (u : tree.UpdatesBy (λ x y. slice_cmp nat_cmp x.now y.now) (λ k. slice_cmp nat_cmp n k.now) old new (Some x)) where
  -- the name means this now, and each other what it meant
  pub declared : (t : List ℕ) → find (names_of new) t ≡ cond (bytes_eq n t) (Some x) (find (names_of old) t)
  declared t = sym (in_map new t) ∙ (btree_map_updates_str n old new (Some x) u t ∙ ap (λ o. cond (bytes_eq n t) (Some x) o) (in_map old t))

  kept : (d : Declared) → find (names_of old) n ≡ None → find (names_of old) d.name.now ≡ Some d.meaning → (b : Bool) → b ≡ bytes_eq n d.name.now →
      find (names_of new) d.name.now ≡ Some d.meaning
  kept d none was true e =
      let same : n ≡ d.name.now = (bytes_eq-Decides n d.name.now).0 (sym e) in
      let p : None ≡ Some d.meaning = sym none ∙ (ap (λ t. find (names_of old) t) same ∙ was) in
      absurd cc
  kept d none was false e = declared d.name.now ∙ (ap (λ b. cond b (Some x) (find (names_of old) d.name.now)) (sym e) ∙ was)

  -- where it is new, all that is listed is found still
  pub still_found : (listed : List Declared) → find (names_of old) n ≡ None → AreFound (names_of old) listed → AreFound (names_of new) listed
  still_found listed none h k d lt = let e : Declared = slice_index_or listed k d in kept e none (h k d lt) (bytes_eq n e.name.now) refl

  pub found_itself : find (names_of new) n ≡ Some x
  found_itself = declared n ∙ ap (λ b. cond b (Some x) (find (names_of old) n)) ((bytes_eq-Decides n n).1 refl)

pub found_more : (names : Names) (listed : List Declared) (d : Declared) → AreFound names listed → find names d.name.now ≡ Some d.meaning → AreFound names (listed ++ d ∷ [])
found_more names listed d h e = All-append (λ (z : Declared). find names z.name.now ≡ Some z.meaning) listed (d ∷ []) h one where
  one : All (λ (z : Declared). find names z.name.now ≡ Some z.meaning) (d ∷ [])
  one zero z lt = e
  one (suc k) z lt = absurd (omega (arith, lt))
