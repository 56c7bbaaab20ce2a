-- What a statement that breaks no rule keeps.
use Rattle.std.proofs.Common.{◌≡◌, ℕ, ◌≤◌, Bool, true, false, not, ◌||◌, ltb, List, length, Option, Some, None, refl, sym, ◌∙◌, arith, inl, inr}
use Rattle.std.specs.Prelude.{is_some}
use Rattle.std.specs.List.{list_any}
use Rattle.std.specs.Str.{bytes_eq}
use Rattle.std.proofs.lemmas.Bool.{or_parts, cases_lt, lt-ltb}
use Rattle.circuit.specs.Names.{is_own_name}
use Rattle.verilog_text.specs.Grammar.{Form}
use Rattle.verilog_text.specs.Judging as j
use Rattle.verilog_text.specs.Judging.{SoFar, found, is_next, width_of, first_of, first_rule}
use Rattle.verilog_laws.proofs.Places.{none_of}

-- each rule is kept
pub record Keeps (x : SoFar) (f : Form) : Type 0 where
  pub name : j.breaks_name x f ≡ false
  pub order : j.breaks_order x f ≡ false
  pub width : j.breaks_width x f ≡ false
  pub limit : j.breaks_limit x f ≡ false

pub keeps : (x : SoFar) (f : Form) → first_rule x f ≡ None → Keeps x f
keeps x f h = either (j.breaks_name x f) (j.breaks_order x f) (j.breaks_width x f) (j.breaks_limit x f) refl refl refl refl h where
  either : (a b c d : Bool) → j.breaks_name x f ≡ a → j.breaks_order x f ≡ b → j.breaks_width x f ≡ c → j.breaks_limit x f ≡ d → first_of a b c d ≡ None → Keeps x f
  either false false false false n o w l h = record { name = n; order = o; width = w; limit = l }
  either true b c d n o w l h = absurd cc
  either false true c d n o w l h = absurd cc
  either false false true d n o w l h = absurd cc
  either false false false true n o w l h = absurd cc

-- a name that is not misnamed is not declared yet
pub fresh_is : (x : SoFar) (n : List ℕ) → j.is_misnamed x n ≡ false → found n x.entries ≡ None
fresh_is x n h = none_of (found n x.entries) (or_parts (ltb 40 (length n)) (is_some (found n x.entries)) h).1

pub not_false : (b : Bool) → not b ≡ false → b ≡ true
not_false true h = refl
not_false false h = absurd cc

-- a port that is not misplaced is the next
pub next_of : (x : SoFar) (n : List ℕ) → j.is_misplaced x n ≡ false → is_next n x.to_declare ≡ true
next_of x n h =
    let a = or_parts (not (is_next n x.to_declare) || ltb 0 (length x.wires)) (ltb 0 (length x.regs)) h in
    let b = or_parts (not (is_next n x.to_declare)) (ltb 0 (length x.wires)) a.0 in
    not_false (is_next n x.to_declare) b.0

pub record IsNextPort (x : SoFar) (n : List ℕ) (good : Bool) : Type 0 where
  pub fresh : found n x.entries ≡ None
  pub next : is_next n x.to_declare ≡ true
  pub good_name : good ≡ true

pub port_parts : (x : SoFar) (n : List ℕ) (good : Bool) → (j.is_misnamed x n || j.is_misplaced x n || not good) ≡ false → IsNextPort x n good
port_parts x n good h =
    let a = or_parts (j.is_misnamed x n || j.is_misplaced x n) (not good) h in
    let b = or_parts (j.is_misnamed x n) (j.is_misplaced x n) a.0 in
    record { fresh = fresh_is x n b.0; next = next_of x n b.1; good_name = not_false good a.1 }

pub own_parts : (x : SoFar) (n : List ℕ) → j.own_misnamed x n ≡ false → (found n x.entries ≡ None) × (is_own_name n ≡ true)
own_parts x n h =
    let a = or_parts (j.is_misnamed x n || not (is_own_name n)) (list_any (bytes_eq n) x.to_declare) h in
    let b = or_parts (j.is_misnamed x n) (not (is_own_name n)) a.0 in
    (fresh_is x n b.0, not_false (is_own_name n) b.1)

pub not_over : (limit n : ℕ) → ltb limit n ≡ false → n ≤ limit
not_over limit n h = elim (cases_lt limit n) [ inl lt ↦ absurd (let f : false ≡ true = sym h ∙ lt-ltb limit n lt in cc) | inr le ↦ le ]

pub some_width : (l : Option (List ℕ)) → 1 ≤ width_of l
some_width None = omega arith
some_width (Some digits) = omega arith
