-- The output of a name, and its table.
use Rattle.std.proofs.Common.{◌≡◌, ℕ, zero, suc, ◌<◌, ◌≤◌, List, [], ◌∷◌, length, refl, ◌∙◌, arith, Some}
use Rattle.std.specs.Prelude.{All, slice_index_or}
use Rattle.std.specs.Str.{bytes_eq}
use Rattle.std.proofs.lemmas.List.Quantifiers.{position-Some}
use Rattle.std.proofs.lemmas.Slice.Eq.{bytes_eq-Decides}
use Rattle.net_model.specs.Formula.{Formula, Equation, Net}
use Rattle.net_model.specs.Formula as formula
use Rattle.net_model.specs.Rules.{names_of}
use Rattle.spike_eval.specs.Outputs.{output_function}
use Rattle.func_table.specs.Function.{table_function}
use Rattle.func_table.specs.Sound.{AreSound}
use Rattle.func_table.specs.Table.{Table}
use Rattle.causality.specs.Window.{window_lists, window_rows, IsInReach}
use Rattle.rl_jobs.specs.Windows.{output_place, IsWindowTable}

name_at : (es : List Equation) (k : ℕ) (d : Equation) → k < length es → slice_index_or (names_of es) k [] ≡ (slice_index_or es k d).name
name_at [] k d few = absurd (omega (arith, few))
name_at (e ∷ es) zero d few = refl
name_at (e ∷ es) (suc k) d few = name_at es k d (omega (arith, few))

nothing : Equation
nothing = record { name = []; body = formula.Never }

-- the output at the place of a name has this name
named : (name : List ℕ) (n : Net) (k : ℕ) → output_place name n ≡ Some k → slice_index_or (names_of n.outputs) k [] ≡ name
named name n k e =
    let found = position-Some (λ (z : Equation). bytes_eq z.name name) n.outputs k nothing e in
    name_at n.outputs k nothing found.0 ∙ (bytes_eq-Decides (slice_index_or n.outputs k nothing).name name).0 found.1

pub window_table : (name : List ℕ) (w : ℕ) (n : Net) (k : ℕ) (t : Table) → output_place name n ≡ Some k → t.inputs ≡ n.inputs → t.output ≡ slice_index_or (names_of n.outputs) k [] →
    t.rows ≡ window_rows (output_function n k) w (length n.inputs) → IsInReach (output_function n k) w (length n.inputs) → length t.rows ≤ 256 → AreSound t.rows →
    All (λ v. table_function t.rows v ≡ output_function n k v) (window_lists w (length n.inputs)) → IsWindowTable name w n t
window_table name w n k t e inputs output rows reach few sound values = record {
  place = k;
  named = e;
  inputs_are = inputs;
  output_is = output ∙ named name n k e;
  rows_are = rows;
  in_reach = reach;
  few = few;
  sound = sound;
  values = values;
}
