-- What the names of a network in the making mean, as a reader looks them up.
use Rattle.std.specs.Prelude.{◌≡◌, ℕ, ◌+◌, ◌^◌, ◌<◌, ◌≤◌, max, min, Bool, true, false, ◌&&◌, List, Option, Some, None, slice_index_or}
use Rattle.std.specs.List.{list_any}
use Rattle.std.specs.Str.{bytes_eq}
use Rattle.net_lang.specs.declared.reader.scope.Known.{Known}
use Rattle.net_lang.specs.declared.reader.scope.Measured.{Measured}
use Rattle.net_lang.specs.declared.reader.scope.Place.{Place}
use Rattle.net_lang.specs.declared.reader.scope.Place.TheVariants as place
use Rattle.net_model.specs.Formula as f
use Rattle.net_model.specs.Formula.{Formula, Net}
use Rattle.net_model.specs.Rules.{names_of, let_spans}
use Rattle.net_lang.specs.Grammar.{Expression, Never, Name, Min, Max, Lt, Inc}
use Rattle.net_lang.specs.Names.{place_of}
use Rattle.rl_text.specs.Numbers.{number_of}

abbrev pub known : Place → ℕ → Known
known p s = record { place = p; span = s }

-- by the places among inputs and lets, whether it is an output, and the spans of the lets
abbrev pub known_by : Option ℕ → Option ℕ → Bool → List ℕ → Option Known
known_by (Some i) j o spans = Some (known (place.Input i) 0)
known_by None (Some j) o spans = Some (known (place.Let j) (slice_index_or spans j 0))
known_by None None true spans = Some (known place.Output 0)
known_by None None false spans = None

abbrev pub known_in : Net → List ℕ → Option Known
known_in n t = known_by (place_of t n.inputs) (place_of t (names_of n.lets)) (list_any (bytes_eq t) (names_of n.outputs)) (let_spans n.lets)

-- ---- what a reader finds out of an expression by a look-up

abbrev pub formula_at : Option Known → Formula
formula_at None = f.Never
formula_at (Some k) = at_place k.place where
  at_place : Place → Formula
  at_place (place.Input i) = f.Input i
  at_place (place.Let j) = f.Named j
  at_place place.Output = f.Never

abbrev pub found_formula : (List ℕ → Option Known) → Expression → Formula
found_formula find Never = f.Never
found_formula find (Name t) = formula_at (find t)
found_formula find (Min a b) = f.Min (found_formula find a) (found_formula find b)
found_formula find (Max a b) = f.Max (found_formula find a) (found_formula find b)
found_formula find (Lt a b) = f.Lt (found_formula find a) (found_formula find b)
found_formula find (Inc a digits) = f.Inc (found_formula find a) (number_of digits)

abbrev pub span_at : Option Known → ℕ
span_at None = 0
span_at (Some k) = k.span

abbrev pub found_span : (List ℕ → Option Known) → Expression → ℕ
found_span find Never = 0
found_span find (Name t) = span_at (find t)
found_span find (Min a b) = max (found_span find a) (found_span find b)
found_span find (Max a b) = max (found_span find a) (found_span find b)
found_span find (Lt a b) = max (found_span find a) (found_span find b)
found_span find (Inc a digits) = found_span find a + number_of digits

abbrev pub HasSmallPlace : Option Known → Type 0
HasSmallPlace None = Unit {0}
HasSmallPlace (Some k) = place_number k.place < 2 ^ 32 where
  place_number : Place → ℕ
  place_number (place.Input i) = i
  place_number (place.Let j) = j
  place_number place.Output = 0

-- no name that is declared has a span past the limit, nor a place that is too great for its type
pub record IsSmall (find : List ℕ → Option Known) : Type 0 where
  pub spans : (t : List ℕ) → span_at (find t) ≤ 1000000
  pub places : (t : List ℕ) → HasSmallPlace (find t)

abbrev pub is_inner : Place → Bool
is_inner place.Output = false
is_inner _ = true

abbrev pub is_value : Option Known → Bool
is_value None = false
is_value (Some k) = is_inner k.place

abbrev pub finds_all : (List ℕ → Option Known) → Expression → Bool
finds_all find Never = true
finds_all find (Name t) = is_value (find t)
finds_all find (Min a b) = finds_all find a && finds_all find b
finds_all find (Max a b) = finds_all find a && finds_all find b
finds_all find (Lt a b) = finds_all find a && finds_all find b
finds_all find (Inc a digits) = finds_all find a

abbrev pub written_joins : Expression → ℕ
written_joins Never = 0
written_joins (Name t) = 0
written_joins (Min a b) = written_joins a + written_joins b + 1
written_joins (Max a b) = written_joins a + written_joins b + 1
written_joins (Lt a b) = written_joins a + written_joins b + 1
written_joins (Inc a digits) = written_joins a

abbrev pub written_delays : Expression → ℕ
written_delays Never = 0
written_delays (Name t) = 0
written_delays (Min a b) = written_delays a + written_delays b
written_delays (Max a b) = written_delays a + written_delays b
written_delays (Lt a b) = written_delays a + written_delays b
written_delays (Inc a digits) = written_delays a + 1

-- what was measured of an expression: whether its names are known, and its counts and its span, as far as they matter
pub record Measures (find : List ℕ → Option Known) (t : Expression) (m : Measured) : Type 0 where
  pub known : m.known ≡ finds_all find t
  pub joins : m.joins ≡ min (written_joins t) 20000
  pub delays : m.delays ≡ min (written_delays t) 20000
  pub span : m.span ≡ min (found_span find t) 1000001
