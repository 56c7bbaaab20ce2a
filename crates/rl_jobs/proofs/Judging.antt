-- A text is read as exactly one thing, or has exactly one fault.
use Rattle.std.proofs.Common.{◌≡◌, ℕ, ◌≤◌, ◌<◌, ◌⊎◌, List, length, refl, sym, ◌∙◌, ap, subst, arith, inl, inr, Bool, true, false, Option, Some, None}
use Rattle.std.specs.Prelude.{◌≢◌, codes}
use Rattle.std.specs.Str.{bytes_eq}
use Rattle.std.proofs.lemmas.Bool.{cases_lt, cases_eq}
use Rattle.std.proofs.lemmas.Slice.Eq.{bytes_eq-Decides}
use Rattle.rl_text.specs.declared.token.Kind.{Kind}
use Rattle.rl_text.specs.declared.token.Kind.TheVariants as kind
use Rattle.rl_text.specs.declared.token.Style.{Style}
use Rattle.rl_text.specs.declared.token.Style.TheVariants as style
use Rattle.rl_text.specs.Lines.{Word}
use Rattle.rl_text.specs.First.{BeginsWith}
use Rattle.net_lang.specs.declared.reader.rules.Rule.{Rule}
use Rattle.net_lang.specs.declared.reader.rules.Rule.TheVariants as rule
use Rattle.net_lang.specs.declared.reader.error.NetError.{NetError}
use Rattle.net_lang.specs.declared.reader.error.NetError.TheVariants as error
use Rattle.net_model.specs.Formula.{Net}
use Rattle.net_lang.specs.Spelling.{SpellsNetwork}
use Rattle.net_lang.specs.Outcome as net
use Rattle.func_table.specs.declared.reader.error.TableError.{TableError}
use Rattle.func_table.specs.declared.reader.error.TableError.TheVariants as table_error
use Rattle.func_table.specs.declared.reader.rules.Rule.{Rule as TableRule}
use Rattle.func_table.specs.declared.reader.rules.Rule.TheVariants as table_rule
use Rattle.func_table.specs.Outcome as table
use Rattle.func_table.specs.Rules.{IsTable}
use Rattle.func_table.specs.Sound.{AreSound}
use Rattle.func_table.specs.Spelling.{SpellsTable}
use Rattle.func_table.specs.Table.{Row, Table}
use Rattle.causality.specs.declared.fault.RowFault.{RowFault}
use Rattle.causality.specs.declared.fault.TabError.{TabError}
use Rattle.causality.specs.declared.fault.TabError.TheVariants as tab
use Rattle.causality.specs.Faults.{IsRowFault}
use Rattle.causality.specs.Window.{window_rows, IsInReach, IsCause as IsWindowCause}
use Rattle.spike_eval.specs.Outputs.{output_function}
use Rattle.rl_time.specs.declared.time.Time.{Time}
use Rattle.term_store.specs.Terms.{network_trees}
use Rattle.term_store.specs.Subterms.{register_bits}
use Rattle.rl_jobs.specs.Readings.{IsReading, OneEach, reads_staged}
use Rattle.rl_jobs.specs.declared.source.Source.{Source}
use Rattle.rl_jobs.specs.declared.source.Source.TheVariants.{OfNetwork, OfTable}
use Rattle.rl_jobs.specs.Sources.{table_word, IsTableText, inputs_of, IsNoNetwork, SpellsSoundTable, BreaksTable, HasBadRows, IsNoTable, SpellsSource, IsNoSource}
use Rattle.rl_jobs.specs.Compiled.{HasFewBits, NeedsManyBits, IsNotCompiled}
use Rattle.rl_jobs.specs.Values.{HasOtherInputs, IsNotValued}
use Rattle.rl_jobs.specs.Windows.{output_place, HasNoTable, CanBeWritten, CannotBeWritten, IsNotTabulated}
use Rattle.rl_jobs.specs.declared.fault.Fault.{Fault}
use Rattle.rl_jobs.specs.declared.fault.Fault.TheVariants as fault

abbrev pub OneNetwork : Type 0
OneNetwork = (text : List ℕ) (m n : Net) → SpellsNetwork text m → SpellsNetwork text n → m ≡ n

abbrev pub NoCause : Type 0
NoCause = (text : List ℕ) (n : Net) (e : NetError) → SpellsNetwork text n → net.IsCause text e → e ≡ error.NoMemory

abbrev pub OneCause : Type 0
OneCause = (text : List ℕ) (e f : NetError) → net.IsCause text e → net.IsCause text f → (e ≡ error.NoMemory → ⊥) → (f ≡ error.NoMemory → ⊥) → e ≡ f

abbrev pub NetworkOrCause : Type 0
NetworkOrCause = (text : List ℕ) → ((n : Net) × SpellsNetwork text n) ⊎ ((e : NetError) × (e ≢ error.NoMemory) × net.IsCause text e)

-- ---- networks

-- an error that names a rule isn't `NoMemory`
names_rule : (r : Rule) (k : ℕ) → net.error_of r k ≡ error.NoMemory → ⊥
names_rule rule.Syntax k e = absurd (cc)
names_rule rule.Name k e = absurd (cc)
names_rule rule.Span k e = absurd (cc)
names_rule rule.Doubled k e = absurd (cc)
names_rule rule.Unknown k e = absurd (cc)
names_rule rule.Count k e = absurd (cc)

abbrev fault_of : ℕ → NetError → Fault
fault_of file (error.Syntax k) = fault.Network file rule.Syntax k
fault_of file (error.Name k) = fault.Network file rule.Name k
fault_of file (error.Span k) = fault.Network file rule.Span k
fault_of file (error.Doubled k) = fault.Network file rule.Doubled k
fault_of file (error.Unknown k) = fault.Network file rule.Unknown k
fault_of file (error.Count k) = fault.Network file rule.Count k
fault_of file error.NoMemory = fault.Inputs 0

is_of : (file : ℕ) (r : Rule) (k : ℕ) → fault_of file (net.error_of r k) ≡ fault.Network file r k
is_of file rule.Syntax k = refl
is_of file rule.Name k = refl
is_of file rule.Span k = refl
is_of file rule.Doubled k = refl
is_of file rule.Unknown k = refl
is_of file rule.Count k = refl

-- a cause is a fault of the file
network_fault : (file : ℕ) (bytes : List ℕ) (e : NetError) → e ≢ error.NoMemory → net.IsCause bytes e → (f : Fault) × IsNoNetwork file bytes f
network_fault file bytes (error.Syntax k) p h = (fault.Network file rule.Syntax k, (rule.Syntax, k, refl, h))
network_fault file bytes (error.Name k) p h = (fault.Network file rule.Name k, (rule.Name, k, refl, h))
network_fault file bytes (error.Span k) p h = (fault.Network file rule.Span k, (rule.Span, k, refl, h))
network_fault file bytes (error.Doubled k) p h = (fault.Network file rule.Doubled k, (rule.Doubled, k, refl, h))
network_fault file bytes (error.Unknown k) p h = (fault.Network file rule.Unknown k, (rule.Unknown, k, refl, h))
network_fault file bytes (error.Count k) p h = (fault.Network file rule.Count k, (rule.Count, k, refl, h))
network_fault file bytes error.NoMemory p h = absurd (p refl)

network_or_fault : (file : ℕ) (bytes : List ℕ) → ((n : Net) × SpellsNetwork bytes n) ⊎ ((e : NetError) × (e ≢ error.NoMemory) × net.IsCause bytes e) →
    ((n : Net) × SpellsNetwork bytes n) ⊎ ((f : Fault) × IsNoNetwork file bytes f)
network_or_fault file bytes (inl x) = inl x
network_or_fault file bytes (inr x) = inr (network_fault file bytes x.0 x.1 x.2)

pub reads_networks : OneNetwork → NoCause → OneCause → NetworkOrCause → (file : ℕ) → IsReading SpellsNetwork (IsNoNetwork file)
reads_networks f g h either file = record {
  one = f;
  one_fault = λ bytes a b x y.
      x.2 ∙ (sym (is_of file x.0 x.1) ∙ (ap (fault_of file) (h bytes (net.error_of x.0 x.1) (net.error_of y.0 y.1) x.3 y.3 (names_rule x.0 x.1) (names_rule y.0 y.1)) ∙ (is_of file y.0 y.1 ∙ sym y.2)));
  not_both = λ bytes n a y x. names_rule x.0 x.1 (g bytes n (net.error_of x.0 x.1) y x.3);
  some = λ bytes. network_or_fault file bytes (either bytes);
}

-- ---- tables

abbrev pub OneTable : Type 0
OneTable = (text : List ℕ) (s t : Table) → SpellsTable text s → SpellsTable text t → s ≡ t

abbrev pub NoTableCause : Type 0
NoTableCause = (text : List ℕ) (t : Table) (e : TableError) → SpellsTable text t → table.IsCause text e → e ≡ table_error.NoMemory

abbrev pub OneTableCause : Type 0
OneTableCause = (text : List ℕ) (e f : TableError) → table.IsCause text e → table.IsCause text f → (e ≡ table_error.NoMemory → ⊥) → (f ≡ table_error.NoMemory → ⊥) → e ≡ f

abbrev pub TableOrCause : Type 0
TableOrCause = (text : List ℕ) → ((t : Table) × SpellsTable text t) ⊎ ((e : TableError) × (e ≢ table_error.NoMemory) × table.IsCause text e)

names_table_rule : (r : TableRule) (k : ℕ) → table.error_of r k ≡ table_error.NoMemory → ⊥
names_table_rule table_rule.Syntax k e = absurd (cc)
names_table_rule table_rule.Count k e = absurd (cc)

abbrev table_fault_of : ℕ → TableError → Fault
table_fault_of file (table_error.Syntax k) = fault.Table file table_rule.Syntax k
table_fault_of file (table_error.Count k) = fault.Table file table_rule.Count k
table_fault_of file table_error.NoMemory = fault.Inputs 0

is_table_fault_of : (file : ℕ) (r : TableRule) (k : ℕ) → table_fault_of file (table.error_of r k) ≡ fault.Table file r k
is_table_fault_of file table_rule.Syntax k = refl
is_table_fault_of file table_rule.Count k = refl

table_fault : (file : ℕ) (bytes : List ℕ) (e : TableError) → e ≢ table_error.NoMemory → table.IsCause bytes e → (f : Fault) × BreaksTable file bytes f
table_fault file bytes (table_error.Syntax k) p h = (fault.Table file table_rule.Syntax k, (table_rule.Syntax, k, refl, h))
table_fault file bytes (table_error.Count k) p h = (fault.Table file table_rule.Count k, (table_rule.Count, k, refl, h))
table_fault file bytes table_error.NoMemory p h = absurd (p refl)

table_or_fault : (file : ℕ) (bytes : List ℕ) → ((t : Table) × SpellsTable bytes t) ⊎ ((e : TableError) × (e ≢ table_error.NoMemory) × table.IsCause bytes e) →
    ((t : Table) × SpellsTable bytes t) ⊎ ((f : Fault) × BreaksTable file bytes f)
table_or_fault file bytes (inl x) = inl x
table_or_fault file bytes (inr x) = inr (table_fault file bytes x.0 x.1 x.2)

reads_table_text : OneTable → NoTableCause → OneTableCause → TableOrCause → (file : ℕ) → IsReading SpellsTable (BreaksTable file)
reads_table_text f g h either file = record {
  one = f;
  one_fault = λ bytes a b x y.
      x.2 ∙ (sym (is_table_fault_of file x.0 x.1) ∙ (ap (table_fault_of file) (h bytes (table.error_of x.0 x.1) (table.error_of y.0 y.1) x.3 y.3 (names_table_rule x.0 x.1) (names_table_rule y.0 y.1)) ∙ (is_table_fault_of file y.0 y.1 ∙ sym y.2)));
  not_both = λ bytes n a y x. names_table_rule x.0 x.1 (g bytes n (table.error_of x.0 x.1) y x.3);
  some = λ bytes. table_or_fault file bytes (either bytes);
}

abbrev pub OneRowFault : Type 0
OneRowFault = (rows : List Row) (f g : RowFault) → IsRowFault rows f → IsRowFault rows g → f ≡ g

abbrev pub NoRowFault : Type 0
NoRowFault = (rows : List Row) (f : RowFault) → AreSound rows → IsRowFault rows f → ⊥

abbrev pub SoundOrFault : Type 0
SoundOrFault = (t : Table) → IsTable t → AreSound t.rows ⊎ ((f : RowFault) × IsRowFault t.rows f)

abbrev pub SpelledIsTable : Type 0
SpelledIsTable = (text : List ℕ) (t : Table) → SpellsTable text t → IsTable t

sound_or_bad : (file : ℕ) (t : Table) → AreSound t.rows ⊎ ((f : RowFault) × IsRowFault t.rows f) → AreSound t.rows ⊎ ((f : Fault) × HasBadRows file t f)
sound_or_bad file t (inl x) = inl x
sound_or_bad file t (inr x) = inr (fault.Rows file x.0, (x.0, refl, x.1))

-- the laws of tables and of their rows
pub record TableLaws : Type 0 where
  pub one : OneTable
  pub none : NoTableCause
  pub one_cause : OneTableCause
  pub either : TableOrCause
  pub is_table : SpelledIsTable
  pub one_fault : OneRowFault
  pub no_fault : NoRowFault
  pub sound_or_fault : SoundOrFault

pub reads_tables : TableLaws → (file : ℕ) → IsReading SpellsSoundTable (IsNoTable file)
reads_tables laws file =
    reads_staged SpellsTable (BreaksTable file) (λ (t : Table). AreSound t.rows) (HasBadRows file)
    (reads_table_text laws.one laws.none laws.one_cause laws.either file)
    (λ t a b x y. x.1 ∙ (ap (fault.Rows file) (laws.one_fault t.rows x.0 y.0 x.2 y.2) ∙ sym y.1))
    (λ t a sound x. laws.no_fault t.rows x.0 sound x.2)
    (λ bytes t is. sound_or_bad file t (laws.sound_or_fault t (laws.is_table bytes t is)))

-- ---- networks or tables

one_source : (file : ℕ) → IsReading SpellsNetwork (IsNoNetwork file) → IsReading SpellsSoundTable (IsNoTable file) → (bytes : List ℕ) (s t : Source) → SpellsSource bytes s → SpellsSource bytes t → s ≡ t
one_source file nets tables bytes (OfNetwork n) (OfNetwork m) x y = ap OfNetwork (nets.one bytes n m x.1 y.1)
one_source file nets tables bytes (OfNetwork n) (OfTable t) x y = absurd (x.0 y.0)
one_source file nets tables bytes (OfTable t) (OfNetwork n) x y = absurd (y.0 x.0)
one_source file nets tables bytes (OfTable t) (OfTable u) x y = ap OfTable (tables.one bytes t u x.1 y.1)

one_source_fault : (file : ℕ) → IsReading SpellsNetwork (IsNoNetwork file) → IsReading SpellsSoundTable (IsNoTable file) → (bytes : List ℕ) (f g : Fault) → IsNoSource file bytes f → IsNoSource file bytes g → f ≡ g
one_source_fault file nets tables bytes f g (inl x) (inl y) = nets.one_fault bytes f g x.1 y.1
one_source_fault file nets tables bytes f g (inl x) (inr y) = absurd (x.0 y.0)
one_source_fault file nets tables bytes f g (inr x) (inl y) = absurd (y.0 x.0)
one_source_fault file nets tables bytes f g (inr x) (inr y) = tables.one_fault bytes f g x.1 y.1

no_source_fault : (file : ℕ) → IsReading SpellsNetwork (IsNoNetwork file) → IsReading SpellsSoundTable (IsNoTable file) → (bytes : List ℕ) (s : Source) (f : Fault) → SpellsSource bytes s → IsNoSource file bytes f → ⊥
no_source_fault file nets tables bytes (OfNetwork n) f x (inl y) = nets.not_both bytes n f x.1 y.1
no_source_fault file nets tables bytes (OfNetwork n) f x (inr y) = x.0 y.0
no_source_fault file nets tables bytes (OfTable t) f x (inl y) = y.0 x.0
no_source_fault file nets tables bytes (OfTable t) f x (inr y) = tables.not_both bytes t f x.1 y.1

abbrev pub OneFirst : Type 0
OneFirst = (s : Style) (text : List ℕ) (v w : Word) → BeginsWith s text v → BeginsWith s text w → v ≡ w

abbrev pub FirstOrNone : Type 0
FirstOrNone = (s : Style) (text : List ℕ) → ((w : Word) × BeginsWith s text w) ⊎ ((w : Word) → BeginsWith s text w → ⊥)

name_or_not : (k : Kind) → (k ≡ kind.Name) ⊎ (k ≢ kind.Name)
name_or_not kind.Name = inl refl
name_or_not kind.Number = inr (λ e. absurd (cc))
name_or_not kind.Bits = inr (λ e. absurd (cc))
name_or_not kind.Symbol = inr (λ e. absurd (cc))
name_or_not kind.EndLine = inr (λ e. absurd (cc))
name_or_not kind.End = inr (λ e. absurd (cc))

bytes_or_not : (a b : List ℕ) (q : Bool) → bytes_eq a b ≡ q → (a ≡ b) ⊎ (a ≢ b)
bytes_or_not a b true e = inl ((bytes_eq-Decides a b).0 e)
bytes_or_not a b false e = inr (λ same. let f : bytes_eq a b ≡ true = (bytes_eq-Decides a b).1 same in cc)

same_word : (v w : Word) → v.kind ≡ w.kind → v.bytes ≡ w.bytes → v ≡ w
same_word v w k b = λ i. record { kind = k i; bytes = b i }

word_or_not : (v w : Word) → (v.kind ≡ w.kind) ⊎ (v.kind ≢ w.kind) → (v.bytes ≡ w.bytes) ⊎ (v.bytes ≢ w.bytes) → (v ≡ w) ⊎ (v ≢ w)
word_or_not v w (inl k) (inl b) = inl (same_word v w k b)
word_or_not v w (inl k) (inr b) = inr (λ e. b (ap (λ (z : Word). z.bytes) e))
word_or_not v w (inr k) b = inr (λ e. k (ap (λ (z : Word). z.kind) e))

is_table_word : (w : Word) → (w ≡ table_word) ⊎ (w ≢ table_word)
is_table_word w = word_or_not w table_word (name_or_not w.kind) (bytes_or_not w.bytes (codes "racetable") (bytes_eq w.bytes (codes "racetable")) refl)

begins_so : OneFirst → (bytes : List ℕ) (w : Word) → BeginsWith style.Race bytes w → (w ≡ table_word) ⊎ (w ≢ table_word) → IsTableText bytes ⊎ (IsTableText bytes → ⊥)
begins_so one bytes w b (inl e) = inl (subst (BeginsWith style.Race bytes) e b)
begins_so one bytes w b (inr n) = inr (λ t. n (one style.Race bytes w table_word b t))

-- a text is a table's, or not
table_text_or_not : OneFirst → (bytes : List ℕ) → ((w : Word) × BeginsWith style.Race bytes w) ⊎ ((w : Word) → BeginsWith style.Race bytes w → ⊥) → IsTableText bytes ⊎ (IsTableText bytes → ⊥)
table_text_or_not one bytes (inl x) = begins_so one bytes x.0 x.1 (is_table_word x.0)
table_text_or_not one bytes (inr none) = inr (none table_word)

of_network : (file : ℕ) (bytes : List ℕ) → (IsTableText bytes → ⊥) → ((n : Net) × SpellsNetwork bytes n) ⊎ ((f : Fault) × IsNoNetwork file bytes f) →
    ((s : Source) × SpellsSource bytes s) ⊎ ((f : Fault) × IsNoSource file bytes f)
of_network file bytes other (inl x) = inl (OfNetwork x.0, (other, x.1))
of_network file bytes other (inr x) = inr (x.0, inl (other, x.1))

of_table : (file : ℕ) (bytes : List ℕ) → IsTableText bytes → ((t : Table) × SpellsSoundTable bytes t) ⊎ ((f : Fault) × IsNoTable file bytes f) →
    ((s : Source) × SpellsSource bytes s) ⊎ ((f : Fault) × IsNoSource file bytes f)
of_table file bytes begins (inl x) = inl (OfTable x.0, (begins, x.1))
of_table file bytes begins (inr x) = inr (x.0, inr (begins, x.1))

source_or_fault : (file : ℕ) → IsReading SpellsNetwork (IsNoNetwork file) → IsReading SpellsSoundTable (IsNoTable file) → (bytes : List ℕ) → IsTableText bytes ⊎ (IsTableText bytes → ⊥) →
    ((s : Source) × SpellsSource bytes s) ⊎ ((f : Fault) × IsNoSource file bytes f)
source_or_fault file nets tables bytes (inl begins) = of_table file bytes begins (tables.some bytes)
source_or_fault file nets tables bytes (inr other) = of_network file bytes other (nets.some bytes)

pub reads_sources : OneFirst → FirstOrNone → ((file : ℕ) → IsReading SpellsNetwork (IsNoNetwork file)) → ((file : ℕ) → IsReading SpellsSoundTable (IsNoTable file)) → (file : ℕ) → IsReading SpellsSource (IsNoSource file)
reads_sources one first nets tables file = record {
  one = one_source file (nets file) (tables file);
  one_fault = one_source_fault file (nets file) (tables file);
  not_both = no_source_fault file (nets file) (tables file);
  some = λ bytes. source_or_fault file (nets file) (tables file) bytes (table_text_or_not one bytes (first style.Race bytes));
}

-- ---- register bits

one_bits_fault : OneEach NeedsManyBits
one_bits_fault (OfNetwork n) f g x y = x.0 ∙ sym y.0
one_bits_fault (OfTable t) f g x y = absurd x

no_bits_fault : (s : Source) (f : Fault) → HasFewBits s → NeedsManyBits s f → ⊥
no_bits_fault (OfNetwork n) f few many = omega (arith, few, many.1)
no_bits_fault (OfTable t) f few many = many

few_or_many_bits : (n : Net) → (65536 < register_bits (network_trees n)) ⊎ (register_bits (network_trees n) ≤ 65536) → HasFewBits (OfNetwork n) ⊎ ((f : Fault) × NeedsManyBits (OfNetwork n) f)
few_or_many_bits n (inl many) = inr (fault.TooManyBits (register_bits (network_trees n)), (refl, many))
few_or_many_bits n (inr few) = inl few

bits_or_fault : (s : Source) → HasFewBits s ⊎ ((f : Fault) × NeedsManyBits s f)
bits_or_fault (OfNetwork n) = few_or_many_bits n (cases_lt 65536 (register_bits (network_trees n)))
bits_or_fault (OfTable t) = inl tt

-- ---- times

inputs_or_fault : (times : List Time) (s : Source) → (length (inputs_of s) ≡ length times) ⊎ (length (inputs_of s) ≢ length times) →
    (length times ≡ length (inputs_of s)) ⊎ ((f : Fault) × HasOtherInputs times s f)
inputs_or_fault times s (inl same) = inl (sym same)
inputs_or_fault times s (inr other) = inr (fault.Inputs (length (inputs_of s)), (refl, other))

-- ---- windows

abbrev pub OneWindowCause : Type 0
OneWindowCause = (f : List Time → Time) (w n : ℕ) (d e : TabError) → IsWindowCause f w n d → IsWindowCause f w n e → (d ≡ tab.NoMemory → ⊥) → (e ≡ tab.NoMemory → ⊥) → d ≡ e

abbrev pub NoWindowCause : Type 0
NoWindowCause = (f : List Time → Time) (w n : ℕ) (e : TabError) → IsInReach f w n → length (window_rows f w n) ≤ 256 → IsWindowCause f w n e → e ≡ tab.NoMemory

abbrev pub WindowOrCause : Type 0
WindowOrCause = (f : List Time → Time) (w n : ℕ) → (IsInReach f w n × (length (window_rows f w n) ≤ 256)) ⊎ ((e : TabError) × (e ≢ tab.NoMemory) × IsWindowCause f w n e)

-- the error that a fault of a window reports
abbrev error_of : Fault → TabError
error_of (fault.TooWide w) = tab.TooWide
error_of (fault.TooLate y) = tab.TooLate y
error_of fault.TooManyRows = tab.TooManyRows
error_of _ = tab.NoMemory

abbrev fault_of_error : ℕ → TabError → Fault
fault_of_error w tab.TooWide = fault.TooWide w
fault_of_error w (tab.TooLate y) = fault.TooLate y
fault_of_error w tab.TooManyRows = fault.TooManyRows
fault_of_error w tab.NoMemory = fault.NoOutput

tells : (f : List Time → Time) (w n : ℕ) (a : Fault) → HasNoTable f w n a → IsWindowCause f w n (error_of a) × (error_of a ≡ tab.NoMemory → ⊥) × (a ≡ fault_of_error w (error_of a))
tells f w n (fault.TooWide v) x = (x.1, λ e. absurd (cc), ap fault.TooWide x.0)
tells f w n (fault.TooLate y) x = (x, λ e. absurd (cc), refl)
tells f w n fault.TooManyRows x = (x, λ e. absurd (cc), refl)
tells f w n (fault.Network k r line) x = absurd x
tells f w n (fault.Table k r line) x = absurd x
tells f w n (fault.Rows k v) x = absurd x
tells f w n (fault.Module k r line) x = absurd x
tells f w n (fault.TooManyBits k) x = absurd x
tells f w n (fault.Inputs k) x = absurd x
tells f w n fault.NoOutput x = absurd x
tells f w n (fault.Trees k r line) x = absurd x
tells f w n (fault.InputNames k) x = absurd x
tells f w n (fault.OutputNames k) x = absurd x
tells f w n fault.TreeNames x = absurd x

one_table_fault : OneWindowCause → (f : List Time → Time) (w n : ℕ) (a b : Fault) → HasNoTable f w n a → HasNoTable f w n b → a ≡ b
one_table_fault one f w n a b x y =
    let p = tells f w n a x in
    let q = tells f w n b y in
    p.2 ∙ (ap (fault_of_error w) (one f w n (error_of a) (error_of b) p.0 q.0 p.1 q.1) ∙ sym q.2)

pub some_place : (j k : ℕ) (o : Option ℕ) → o ≡ Some j → o ≡ Some k → j ≡ k
some_place j k o e f = cc

one_window_fault : OneWindowCause → (name : List ℕ) (window : ℕ) → OneEach (CannotBeWritten name window)
one_window_fault one name window n a b (inl x) (inl y) = x.0 ∙ sym y.0
one_window_fault one name window n a b (inl x) (inr y) = absurd (let e = x.1 in let f = y.1 in cc)
one_window_fault one name window n a b (inr x) (inl y) = absurd (let e = x.1 in let f = y.1 in cc)
one_window_fault one name window n a b (inr x) (inr y) =
    let same = some_place x.0 y.0 (output_place name n) x.1 y.1 in
    one_table_fault one (output_function n y.0) window (length n.inputs) a b
    (subst (λ k. HasNoTable (output_function n k) window (length n.inputs) a) same x.2) y.2

no_window_fault : NoWindowCause → (name : List ℕ) (window : ℕ) (n : Net) (a : Fault) → CanBeWritten name window n → CannotBeWritten name window n a → ⊥
no_window_fault none name window n a can (inl x) = absurd (let e = x.1 in let f = can.1 in cc)
no_window_fault none name window n a can (inr x) =
    let same = some_place x.0 can.0 (output_place name n) x.1 can.1 in
    let p = tells (output_function n can.0) window (length n.inputs) a (subst (λ k. HasNoTable (output_function n k) window (length n.inputs) a) same x.2) in
    p.1 (none (output_function n can.0) window (length n.inputs) (error_of a) can.2 can.3 p.0)

window_fault : (f : List Time → Time) (w n : ℕ) (e : TabError) → e ≢ tab.NoMemory → IsWindowCause f w n e → (a : Fault) × HasNoTable f w n a
window_fault f w n tab.TooWide p h = (fault.TooWide w, (refl, h))
window_fault f w n (tab.TooLate y) p h = (fault.TooLate y, h)
window_fault f w n tab.TooManyRows p h = (fault.TooManyRows, h)
window_fault f w n tab.NoMemory p h = absurd (p refl)

at_place : (name : List ℕ) (window : ℕ) (n : Net) (k : ℕ) → output_place name n ≡ Some k →
    (IsInReach (output_function n k) window (length n.inputs) × (length (window_rows (output_function n k) window (length n.inputs)) ≤ 256))
    ⊎ ((e : TabError) × (e ≢ tab.NoMemory) × IsWindowCause (output_function n k) window (length n.inputs) e) → CanBeWritten name window n ⊎ ((a : Fault) × CannotBeWritten name window n a)
at_place name window n k at (inl x) = inl (k, at, x.0, x.1)
at_place name window n k at (inr x) =
    let w = window_fault (output_function n k) window (length n.inputs) x.0 x.1 x.2 in
    inr (w.0, inr (k, at, w.1))

by_place : WindowOrCause → (name : List ℕ) (window : ℕ) (n : Net) (place : Option ℕ) → output_place name n ≡ place → CanBeWritten name window n ⊎ ((a : Fault) × CannotBeWritten name window n a)
by_place either name window n None at = inr (fault.NoOutput, inl (refl, at))
by_place either name window n (Some k) at = at_place name window n k at (either (output_function n k) window (length n.inputs))

-- ---- jobs

pub compiles : ((file : ℕ) → IsReading SpellsSource (IsNoSource file)) → IsReading (λ bytes s. SpellsSource bytes s × HasFewBits s) IsNotCompiled
compiles h = reads_staged SpellsSource (IsNoSource 1) HasFewBits NeedsManyBits (h 1) one_bits_fault no_bits_fault (λ bytes s is. bits_or_fault s)

pub evaluates : ((file : ℕ) → IsReading SpellsSource (IsNoSource file)) → (times : List Time) →
    IsReading (λ bytes s. SpellsSource bytes s × (length times ≡ length (inputs_of s))) (IsNotValued times)
evaluates h times =
    reads_staged SpellsSource (IsNoSource 1) (λ (s : Source). length times ≡ length (inputs_of s)) (HasOtherInputs times) (h 1)
    (λ s f g x y. x.0 ∙ sym y.0) (λ s f same other. other.1 (sym same))
    (λ bytes s is. inputs_or_fault times s (cases_eq (length (inputs_of s)) (length times)))

pub tabulates : ((file : ℕ) → IsReading SpellsNetwork (IsNoNetwork file)) → OneWindowCause → NoWindowCause → WindowOrCause → (name : List ℕ) (window : ℕ) →
    IsReading (λ bytes n. SpellsNetwork bytes n × CanBeWritten name window n) (IsNotTabulated name window)
tabulates h one none either name window =
    reads_staged SpellsNetwork (IsNoNetwork 1) (CanBeWritten name window) (CannotBeWritten name window) (h 1)
    (one_window_fault one name window) (no_window_fault none name window)
    (λ bytes n is. by_place either name window n (output_place name n) refl)
