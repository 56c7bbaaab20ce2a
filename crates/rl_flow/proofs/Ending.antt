-- How a run ends on known files.
use Rattle.std.proofs.Common.{◌≡◌, ℕ, zero, suc, ◌+◌, ◌<◌, ◌≤◌, List, [], ◌∷◌, length, take, refl, sym, ◌∙◌, ap, subst, arith, inl, inr, Option, Some, None, Result, Ok, Err}
use Rattle.std.specs.Prelude.{◌⊎◌, ◌≢◌, IsSome, IsSomeAnd, IsOkAnd, IsErrAnd, slice_get, Contains}
use Rattle.std.specs.Map.{lookup}
use Rattle.std.specs.Str.{bytes_eq}
use Rattle.rl_io.specs.Causes.{Rose}
use Rattle.rl_io.specs.Files.{Files, OnFile}
use Rattle.func_table.specs.Table.{Row}
use Rattle.term_store.specs.Subterms.{register_bits}
use Rattle.rl_jobs.specs.declared.fault.Fault.{Fault}
use Rattle.rl_jobs.specs.declared.source.Source.{Source}
use Rattle.rl_jobs.specs.declared.source.Source.TheVariants.{OfNetwork, OfTable}
use Rattle.rl_jobs.specs.Sources.{terms_of}
use Rattle.rl_jobs.specs.Checked.{ThreeTexts, three_texts, IsAcceptedText, IsRefusedText, CanBeChecked}
use Rattle.rl_jobs.specs.Compiled.{HasFewBits, IsModuleText, CanBeCompiled}
use Rattle.rl_jobs.specs.Simplification.{IsSimplifiedText, CanBeSimplified}
use Rattle.rl_jobs.specs.Synthesised.{IsSynthesisText, CanBeSynthesised}
use Rattle.rl_jobs.specs.Values.{IsValueText, CanBeValued}
use Rattle.rl_jobs.specs.Windows.{IsWindowText, CanBeTabulated}
use Rattle.rl_flow.specs.Activations.{IsOrderText}
use Rattle.rl_flow.specs.Levels.{IsLevelText, CanBeSimulated}
use Rattle.rl_flow.specs.Counted.{big_text}
use Rattle.rl_flow.specs.Task.{Task, Compile, Eval, Synth, Simplify, Tabulate, Sim, SimInOrder, Check, Compare, Big, Command}
use Rattle.rl_flow.specs.Asked.{Asked, ShelfState, with_limits, asked, IsTextOf, AreTextsOf, IsTooLong}
use Rattle.rl_jobs.specs.Pairs.{TwoTexts, two_texts, CanBeCompared}
use Rattle.rl_flow.specs.Equality.{SayEqual, SayDifferent, SayUndecided, IsSaid}
use Rattle.rl_flow.specs.Answers.{OnNone, OnOne, OnTwo, OnThree, IsText, MayHave, CanBeDone, IsCause}
use Rattle.rl_flow.specs.Message.{line_of}
use Rattle.rl_flow.specs.Status.{status_of}
use Rattle.rl_flow.specs.Outcome.{OnTexts, HasCause, IsRefused, IsOrGivesWay, NoneRose, PutsLine, EndsBy}
use Rattle.rl_flow.specs.declared.status.Status.{Status}
use Rattle.rl_flow.specs.declared.status.Status.TheVariants as end
use Rattle.rl_flow.specs.declared.refusal.Refusal.{Refusal}
use Rattle.rl_flow.specs.declared.refusal.Refusal.TheVariants as why
use Rattle.rl_flow.specs.declared.verdict.Verdict.{Verdict}
use Rattle.rl_flow.specs.declared.verdict.Verdict.TheVariants as verdict

abbrev pub OneFault : Type 0
OneFault = (task : Task) (texts : List (List ℕ)) (f g : Fault) → IsCause task texts f → IsCause task texts g → f ≡ g

abbrev pub NoFault : Type 0
NoFault = (task : Task) (texts : List (List ℕ)) (f : Fault) → CanBeDone task texts → IsCause task texts f → ⊥

-- ---- known files have their texts once

found_once : (found : Option (List ℕ)) (t u : List ℕ) → IsSomeAnd found (λ b. b ≡ t) → IsSomeAnd found (λ b. b ≡ u) → t ≡ u
found_once None t u x y = absurd x
found_once (Some b) t u x y = sym x ∙ y

same_texts : (files : Files) (ws : List Asked) (ts us : List (List ℕ)) → AreTextsOf (Some files) ws ts → AreTextsOf (Some files) ws us → ts ≡ us
same_texts files [] [] [] x y = refl
same_texts files [] [] (u ∷ us) x y = absurd y
same_texts files [] (t ∷ ts) us x y = absurd x
same_texts files (w ∷ ws) [] us x y = absurd x
same_texts files (w ∷ ws) (t ∷ ts) [] x y = absurd y
same_texts files (w ∷ ws) (t ∷ ts) (u ∷ us) x y =
    ap (λ z. z ∷ ts) (found_once (lookup (bytes_eq w.name) files) t u x.0.1 y.0.1) ∙ ap (λ z. u ∷ z) (same_texts files ws ts us x.1 y.1)

-- ---- long files

found_long : (found : Option (List ℕ)) (t : List ℕ) (limit : ℕ) → length t ≤ limit → IsSomeAnd found (λ b. b ≡ t) → IsSomeAnd found (λ b. limit < length b) → ⊥
found_long None t limit short x y = x
found_long (Some b) t limit short x y = let e = ap length x in omega (arith, short, y, e)

-- a file whose text is within its limit isn't longer
not_longer : (files : Files) (w : Asked) (t : List ℕ) (limit : ℕ) → limit ≡ w.limit → IsTextOf (Some files) w t → OnFile (Some files) w.name (λ b. limit < length b) → ⊥
not_longer files w t limit e x y = found_long (lookup (bytes_eq w.name) files) t limit (omega (arith, e, x.0)) x.1 y

-- of the files before a place each has a text
text_before : (known : Option Files) (ws : List Asked) (ts : List (List ℕ)) (p q : ℕ) (w : Asked) → AreTextsOf known (take q ws) ts → slice_get ws p ≡ Some w → p < q → (t : List ℕ) × IsTextOf known w t
text_before known [] ts p q w x e less = absurd (cc)
text_before known (v ∷ ws) ts p zero w x e less = absurd (omega (arith, less))
text_before known (v ∷ ws) [] p (suc q) w x e less = absurd x
text_before known (v ∷ ws) (t ∷ ts) zero (suc q) w x e less =
    let same : v ≡ w = cc in
    (t, subst (λ (z : Asked). IsTextOf known z t) same x.0)
text_before known (v ∷ ws) (t ∷ ts) (suc p) (suc q) w x e less = text_before known ws ts p q w x.1 e (omega (arith, less))

text_at : (known : Option Files) (ws : List Asked) (ts : List (List ℕ)) (p : ℕ) (w : Asked) → AreTextsOf known ws ts → slice_get ws p ≡ Some w → (t : List ℕ) × IsTextOf known w t
text_at known [] ts p w x e = absurd (cc)
text_at known (v ∷ ws) [] p w x e = absurd x
text_at known (v ∷ ws) (t ∷ ts) zero w x e =
    let same : v ≡ w = cc in
    (t, subst (λ (z : Asked). IsTextOf known z t) same x.0)
text_at known (v ∷ ws) (t ∷ ts) (suc p) w x e = text_at known ws ts p w x.1 e

not_long : (files : Files) (ws : List Asked) (ts : List (List ℕ)) (n l : ℕ) → AreTextsOf (Some files) ws ts → IsTooLong (Some files) ws n l → ⊥
not_long files ws ts n l x long =
    let t = text_at (Some files) ws ts long.place long.file x long.reached.at in
    not_longer files long.file t.0 l long.limit_is t.1 long.longer

not_before : (files : Files) (ws : List Asked) (n l m k : ℕ) (x : IsTooLong (Some files) ws n l) (y : IsTooLong (Some files) ws m k) → x.place < y.place → ⊥
not_before files ws n l m k x y less =
    let t = text_before (Some files) ws y.reached.texts x.place y.place x.file y.reached.before x.reached.at less in
    not_longer files x.file t.0 l x.limit_is t.1 x.longer

some_file : (v w : Asked) (o : Option Asked) → o ≡ Some v → o ≡ Some w → v ≡ w
some_file v w o e f = cc

same_long : (files : Files) (ws : List Asked) (n l m k : ℕ) → IsTooLong (Some files) ws n l → IsTooLong (Some files) ws m k → why.TooLong n l ≡ why.TooLong m k
same_long files ws n l m k x y =
    let below = not_before files ws n l m k x y in
    let above = not_before files ws m k n l y x in
    let place : x.place ≡ y.place = apart x.place y.place below above in
    let file : x.file ≡ y.file = some_file x.file y.file (slice_get ws y.place) (subst (λ p. slice_get ws p ≡ Some x.file) place x.reached.at) y.reached.at in
    let number : n ≡ m = x.numbered ∙ (ap (λ p. p + 1) place ∙ sym y.numbered) in
    let limit : l ≡ k = x.limit_is ∙ (ap (λ (w : Asked). w.limit) file ∙ sym y.limit_is) in
    ap (λ z. why.TooLong z l) number ∙ ap (λ z. why.TooLong m z) limit where
      apart : (p q : ℕ) → (p < q → ⊥) → (q < p → ⊥) → p ≡ q
      apart zero zero f g = refl
      apart zero (suc q) f g = absurd (f (omega arith))
      apart (suc p) zero f g = absurd (g (omega arith))
      apart (suc p) (suc q) f g = ap suc (apart p q (λ less. f (omega (arith, less))) (λ less. g (omega (arith, less))))

-- ---- what was answered can be done

-- a source that needs no more register bits than a module may have
has_few : (s : Source) → register_bits (terms_of s) ≤ 65536 → HasFewBits s
has_few (OfNetwork n) few = few
has_few (OfTable t) few = tt

-- the only text has another property
only : (texts : List (List ℕ)) (P Q : List ℕ → Type 0) → ((bytes : List ℕ) → P bytes → Q bytes) → OnOne texts P → OnOne texts Q
only [] P Q f x = absurd x
only (bytes ∷ []) P Q f x = f bytes x
only (bytes ∷ other ∷ texts) P Q f x = absurd x

-- two texts have another property
two : (texts : List (List ℕ)) (P Q : TwoTexts → Type 0) → ((t : TwoTexts) → P t → Q t) → OnTwo texts P → OnTwo texts Q
two [] P Q f x = absurd x
two (a ∷ []) P Q f x = absurd x
two (a ∷ b ∷ []) P Q f x = f (two_texts a b) x
two (a ∷ b ∷ c ∷ texts) P Q f x = absurd x

-- three texts have another property
three : (texts : List (List ℕ)) (P Q : ThreeTexts → Type 0) → ((t : ThreeTexts) → P t → Q t) → OnThree texts P → OnThree texts Q
three [] P Q f x = absurd x
three (a ∷ []) P Q f x = absurd x
three (a ∷ b ∷ []) P Q f x = absurd x
three (a ∷ b ∷ c ∷ []) P Q f x = f (three_texts a b c) x
three (a ∷ b ∷ c ∷ d ∷ texts) P Q f x = absurd x

-- there is no text, and another thing holds too
none : (texts : List (List ℕ)) (P Q : Type 0) → (P → Q) → OnNone texts P → OnNone texts Q
none [] P Q f x = f x
none (bytes ∷ texts) P Q f x = absurd x

can : (task : Task) (v : Verdict) (texts : List (List ℕ)) (answer : List ℕ) → IsText task v texts answer → CanBeDone task texts
can Compile verdict.No texts answer x = absurd x
can (Eval times) verdict.No texts answer x = absurd x
can Synth verdict.No texts answer x = absurd x
can Simplify verdict.No texts answer x = absurd x
can (Tabulate name window) verdict.No texts answer x = absurd x
can (Sim cycles times) verdict.No texts answer x = absurd x
can (SimInOrder cycles times order) verdict.No texts answer x = absurd x
can Check verdict.No texts answer x =
    three texts (λ t. IsRefusedText t answer) CanBeChecked (λ t y. (y.claim, y.read, y.agree)) x
can (Compare budget) verdict.No texts answer x = two texts (λ t. IsSaid SayDifferent t answer) CanBeCompared (λ t y. (y.pair, y.read, y.same)) x
can (Big n) verdict.No texts answer x = absurd x
can Compile verdict.Undecided texts answer x = absurd x
can (Eval times) verdict.Undecided texts answer x = absurd x
can Synth verdict.Undecided texts answer x = absurd x
can Simplify verdict.Undecided texts answer x = absurd x
can (Tabulate name window) verdict.Undecided texts answer x = absurd x
can (Sim cycles times) verdict.Undecided texts answer x = absurd x
can (SimInOrder cycles times order) verdict.Undecided texts answer x = absurd x
can Check verdict.Undecided texts answer x = absurd x
can (Compare budget) verdict.Undecided texts answer x = two texts (λ t. IsSaid (SayUndecided budget) t answer) CanBeCompared (λ t y. (y.pair, y.read, y.same)) x
can (Big n) verdict.Undecided texts answer x = absurd x
can Compile verdict.Done texts answer x =
    only texts (λ b. IsModuleText b answer) CanBeCompiled (λ b y. (y.source, y.read, has_few y.source y.few)) x
can (Eval times) verdict.Done texts answer x =
    only texts (λ b. IsValueText times b answer) (CanBeValued times) (λ b y. (y.source, y.read, y.one_for_each_input)) x
can Synth verdict.Done texts answer x =
    only texts (λ b. IsSynthesisText b answer) CanBeSynthesised (λ b y. (y.table, y.read)) x
can Simplify verdict.Done texts answer x =
    only texts (λ b. IsSimplifiedText b answer) CanBeSimplified (λ b y. (y.network, y.read)) x
can (Tabulate name window) verdict.Done texts answer x =
    only texts (λ b. IsWindowText name window b answer) (CanBeTabulated name window)
    (λ b y.
    let few = subst (λ (rows : List Row). length rows ≤ 256) y.is.rows_are y.is.few in
    (y.network, y.read, (y.is.place, y.is.named, y.is.in_reach, few))) x
can (Sim cycles times) verdict.Done texts answer x =
    only texts (λ b. IsLevelText cycles times b answer) (CanBeSimulated times) (λ b y. (y.circuit, y.read, y.one_for_each_input)) x
can (SimInOrder cycles times order) verdict.Done texts answer x =
    only texts (λ b. IsOrderText cycles times order b answer) (CanBeSimulated times) (λ b y. (y.levels.circuit, y.levels.read, y.levels.one_for_each_input)) x
can Check verdict.Done texts answer x =
    three texts (λ t. IsAcceptedText t answer) CanBeChecked (λ t y. (y.claim, y.read, y.agree)) x
can (Compare budget) verdict.Done texts answer x = two texts (λ t. IsSaid (SayEqual budget) t answer) CanBeCompared (λ t y. (y.pair, y.read, y.same)) x
can (Big n) verdict.Done texts answer x = none texts (answer ≡ big_text n) (Unit {0}) (λ e. tt) x

may : (task : Task) (v : Verdict) (texts : List (List ℕ)) (answer : List ℕ) → IsText task v texts answer → MayHave task v
may Compile verdict.No texts answer x = absurd x
may (Eval times) verdict.No texts answer x = absurd x
may Synth verdict.No texts answer x = absurd x
may Simplify verdict.No texts answer x = absurd x
may (Tabulate name window) verdict.No texts answer x = absurd x
may (Sim cycles times) verdict.No texts answer x = absurd x
may (SimInOrder cycles times order) verdict.No texts answer x = absurd x
may Check verdict.No texts answer x = tt
may (Compare budget) verdict.No texts answer x = tt
may (Big n) verdict.No texts answer x = absurd x
may Compile verdict.Undecided texts answer x = absurd x
may (Eval times) verdict.Undecided texts answer x = absurd x
may Synth verdict.Undecided texts answer x = absurd x
may Simplify verdict.Undecided texts answer x = absurd x
may (Tabulate name window) verdict.Undecided texts answer x = absurd x
may (Sim cycles times) verdict.Undecided texts answer x = absurd x
may (SimInOrder cycles times order) verdict.Undecided texts answer x = absurd x
may Check verdict.Undecided texts answer x = absurd x
may (Compare budget) verdict.Undecided texts answer x = tt
may (Big n) verdict.Undecided texts answer x = absurd x
may task verdict.Done texts answer x = tt

-- ---- commands

named : (command : Option Command) (c : Command) (P : Command → Type 0) → command ≡ Some c → IsSomeAnd command P → P c
named command c P e h = subst (λ (z : Option Command). IsSomeAnd z P) e h

-- the command was answered
abbrev pub IsAnswered : Option Command → Option Files → Verdict → List ℕ → Type 0
IsAnswered command known v answer = IsSomeAnd command (λ c. OnTexts known c (λ texts. IsText c.task v texts answer))

answered : (command : Option Command) (known : Option Files) (v : Verdict) (answer : List ℕ) (files : Files) (c : Command) → known ≡ Some files → command ≡ Some c →
    IsAnswered command known v answer → OnTexts (Some files) c (λ texts. IsText c.task v texts answer)
answered command known v answer files c k e x =
    subst (λ (z : Option Files). OnTexts z c (λ texts. IsText c.task v texts answer)) k
    (named command c (λ c. OnTexts known c (λ texts. IsText c.task v texts answer)) e x)

-- a command with a file that is too long isn't answered
pub answered_short : (command : Option Command) (known : Option Files) (v : Verdict) (answer : List ℕ) → IsAnswered command known v answer →
    (files : Files) (c : Command) (n l : ℕ) → known ≡ Some files → command ≡ Some c → IsTooLong (Some files) (asked c) n l → ⊥
answered_short command known v answer x files c n l k e long =
    let y = answered command known v answer files c k e x in
    not_long files (asked c) y.0 n l y.1 long

-- a command whose files have a fault isn't answered
pub answered_right : NoFault → (command : Option Command) (known : Option Files) (v : Verdict) (answer : List ℕ) → IsAnswered command known v answer →
    (files : Files) (c : Command) (f : Fault) → known ≡ Some files → command ≡ Some c → IsRefused (Some files) c f → ⊥
answered_right none command known v answer x files c f k e bad =
    let y = answered command known v answer files c k e x in
    let same = same_texts files (asked c) y.0 bad.0 y.1 bad.1 in
    none c.task bad.0 f (subst (CanBeDone c.task) same (can c.task v y.0 answer y.2)) bad.2

-- the verdict is one that the task may have
pub answered_as : (command : Option Command) (known : Option Files) (v : Verdict) (answer : List ℕ) → IsAnswered command known v answer →
    (c : Command) → command ≡ Some c → MayHave c.task v
answered_as command known v answer x c e =
    let y = named command c (λ c. OnTexts known c (λ texts. IsText c.task v texts answer)) e x in
    may c.task v y.0 answer y.2

-- ---- refusals

refused_text : (before now : ShelfState) (command : Option Command) (failed failed' : ℕ) (g : Fault) (files : Files) (c : Command) → before.files ≡ Some files → command ≡ Some c →
    HasCause command before now failed failed' (why.Refused g) → IsRefused (Some files) c g
refused_text before now command failed failed' g files c k e h =
    subst (λ (z : Option Files). IsRefused z c g) k (named command c (λ c. IsRefused before.files c g) e h)

refused_long : (before now : ShelfState) (command : Option Command) (failed failed' : ℕ) (n l : ℕ) (files : Files) (c : Command) → before.files ≡ Some files → command ≡ Some c →
    HasCause command before now failed failed' (why.TooLong n l) → IsTooLong (Some files) (asked c) n l
refused_long before now command failed failed' n l files c k e h =
    let x = subst (λ (z : Option Command). HasCause z before now failed failed' (why.TooLong n l)) e h in
    subst (λ (z : Option Files). IsTooLong z (asked c) n l) k x.0

-- why a command with a file that is too long was refused
pub long_by : (before now : ShelfState) (command : Option Command) (failed failed' : ℕ) (a : Refusal) → HasCause command before now failed failed' a → a ≢ why.WriteFault →
    (files : Files) (c : Command) (n l : ℕ) → before.files ≡ Some files → command ≡ Some c → IsTooLong (Some files) (asked c) n l → IsOrGivesWay (why.TooLong n l) a
long_by before now command failed failed' why.Words h w files c n l k e long = absurd (cc)
long_by before now command failed failed' (why.TooLong m j) h w files c n l k e long =
    inl (same_long files (asked c) m j n l (refused_long before now command failed failed' m j files c k e h) long)
long_by before now command failed failed' (why.Refused g) h w files c n l k e long =
    let x = refused_text before now command failed failed' g files c k e h in
    absurd (not_long files (asked c) x.0 n l x.1 long)
long_by before now command failed failed' (why.ReadFault m) h w files c n l k e long = inr (inl refl)
long_by before now command failed failed' why.WriteFault h w files c n l k e long = absurd (w refl)
long_by before now command failed failed' why.NoMemory h w files c n l k e long = inr (inr refl)

-- why a command was refused whose files have a fault
pub refused_by : OneFault → (before now : ShelfState) (command : Option Command) (failed failed' : ℕ) (a : Refusal) → HasCause command before now failed failed' a → a ≢ why.WriteFault →
    (files : Files) (c : Command) (f : Fault) → before.files ≡ Some files → command ≡ Some c → IsRefused (Some files) c f → IsOrGivesWay (why.Refused f) a
refused_by one before now command failed failed' why.Words h w files c f k e bad = absurd (cc)
refused_by one before now command failed failed' (why.TooLong m j) h w files c f k e bad =
    absurd (not_long files (asked c) bad.0 m j bad.1 (refused_long before now command failed failed' m j files c k e h))
refused_by one before now command failed failed' (why.Refused g) h w files c f k e bad =
    let x = refused_text before now command failed failed' g files c k e h in
    let same = same_texts files (asked c) x.0 bad.0 x.1 bad.1 in
    inl (ap why.Refused (one c.task bad.0 g f (subst (λ (z : List (List ℕ)). IsCause c.task z g) same x.2) bad.2))
refused_by one before now command failed failed' (why.ReadFault m) h w files c f k e bad = inr (inl refl)
refused_by one before now command failed failed' why.WriteFault h w files c f k e bad = absurd (w refl)
refused_by one before now command failed failed' why.NoMemory h w files c f k e bad = inr (inr refl)

-- a file of a command has one of its names
has_name : (names : List (List ℕ)) (limits : List ℕ) (p : ℕ) (w : Asked) → slice_get (with_limits names limits) p ≡ Some w → Contains names w.name
has_name [] limits p w e = absurd (cc)
has_name (name ∷ names) [] p w e = absurd (cc)
has_name (name ∷ names) (limit ∷ limits) zero w e = let same : name ≡ w.name = cc in (0, omega arith, same)
has_name (name ∷ names) (limit ∷ limits) (suc p) w e = let x = has_name names limits p w e in (suc x.0, omega (arith, x.1), x.2)

-- a command that can be done, where no faults rose, is refused only where memory ran out
pub memory_alone : NoFault → (before now : ShelfState) (command : Option Command) (failed failed' : ℕ) (a : Refusal) → HasCause command before now failed failed' a →
    (a ≡ why.WriteFault → Rose failed failed') → (files : Files) (c : Command) → before.files ≡ Some files → command ≡ Some c → OnTexts (Some files) c (CanBeDone c.task) →
    NoneRose before.faults now.faults c.files → (Rose failed failed' → ⊥) → a ≡ why.NoMemory
memory_alone none before now command failed failed' why.Words h w files c k e good quiet still = absurd (cc)
memory_alone none before now command failed failed' (why.TooLong m j) h w files c k e good quiet still =
    absurd (not_long files (asked c) good.0 m j good.1 (refused_long before now command failed failed' m j files c k e h))
memory_alone none before now command failed failed' (why.Refused g) h w files c k e good quiet still =
    let x = refused_text before now command failed failed' g files c k e h in
    let same = same_texts files (asked c) x.0 good.0 x.1 good.1 in
    absurd (none c.task good.0 g good.2 (subst (λ (z : List (List ℕ)). IsCause c.task z g) same x.2))
memory_alone none before now command failed failed' (why.ReadFault m) h w files c k e good quiet still =
    let x = subst (λ (z : Option Command). HasCause z before now failed failed' (why.ReadFault m)) e h in
    absurd (quiet x.0.file.name (has_name c.files _ x.0.place x.0.file x.0.reached.at) x.0.rose)
memory_alone none before now command failed failed' why.WriteFault h w files c k e good quiet still = absurd (still (w refl))
memory_alone none before now command failed failed' why.NoMemory h w files c k e good quiet still = refl

-- ---- results that are handed on

pub handed_on : {T : Type 0} (r : Result T Refusal) (a : Refusal) (P : Refusal → Type 0) → IsErrAnd r (λ z. z ≡ a) → P a → IsErrAnd r P
handed_on (Ok x) a P is h = absurd is
handed_on (Err z) a P is h = subst P (sym is) h

pub handed_error : {T : Type 0} (r : Result T Refusal) (a b : Refusal) → IsErrAnd r (λ z. z ≡ a) → a ≡ b → r ≡ Err b
handed_error (Ok x) a b is e = absurd is
handed_error (Err z) a b is e = ap Err (is ∙ e)

no_words : (before now : ShelfState) (command : Option Command) (failed failed' : ℕ) (a : Refusal) → HasCause command before now failed failed' a → command ≡ None → a ≡ why.Words
no_words before now command failed failed' why.Words h e = refl
no_words before now command failed failed' (why.TooLong n l) h e = absurd (subst (λ (z : Option Command). HasCause z before now failed failed' (why.TooLong n l)) e h)
no_words before now command failed failed' (why.Refused f) h e = absurd (subst (λ (z : Option Command). HasCause z before now failed failed' (why.Refused f)) e h)
no_words before now command failed failed' (why.ReadFault n) h e = absurd (subst (λ (z : Option Command). HasCause z before now failed failed' (why.ReadFault n)) e h)
no_words before now command failed failed' why.WriteFault h e = let x : IsSome command = h.0 in absurd (cc)
no_words before now command failed failed' why.NoMemory h e = absurd (cc)

inside : {T : Type 0} (r : Result T Refusal) (a b : Refusal) → IsErrAnd r (λ z. z ≡ a) → r ≡ Err b → a ≡ b
inside (Ok x) a b is e = absurd is
inside (Err z) a b is e = let same : z ≡ b = cc in sym is ∙ same

pub words_alone : {T : Type 0} (r : Result T Refusal) (before now : ShelfState) (command : Option Command) (failed failed' : ℕ) (a : Refusal) → IsErrAnd r (λ z. z ≡ a) → HasCause command before now failed failed' a →
    (r ≡ Err why.Words → command ≡ None) × (command ≡ None → r ≡ Err why.Words)
words_alone r before now command failed failed' a is h = (
  (λ e. subst (λ (z : Refusal). HasCause command before now failed failed' z) (inside r a why.Words is e) h),
  (λ e. handed_error r a why.Words is (no_words before now command failed failed' a h e)),
)

-- ---- statuses

pub ends_by : (status : Status) (err err' : Option (List ℕ)) (faults faults' : ℕ) (a b : Refusal) → status ≡ status_of a → PutsLine err err' faults faults' (line_of a) → IsOrGivesWay b a →
    EndsBy status err err' faults faults' b ⊎ (status ≡ end.ReadFault) ⊎ (status ≡ end.NoMemory)
ends_by status err err' faults faults' a b is line (inl same) =
    inl (is ∙ ap status_of same, subst (λ (z : Refusal). PutsLine err err' faults faults' (line_of z)) same line)
ends_by status err err' faults faults' a b is line (inr (inl fault)) = inr (inl (is ∙ fault))
ends_by status err err' faults faults' a b is line (inr (inr memory)) = inr (inr (is ∙ memory))

pub ends_in_memory : {V : Type 0} (r : Result V Refusal) (status : Status) (a : Refusal) (P : V → Type 0) (Q : Type 0) → r ≡ Err a → status ≡ status_of a → IsOkAnd r P ⊎ (r ≡ Err why.NoMemory) → Q ⊎ (status ≡ end.NoMemory)
ends_in_memory {V} r status a P Q e is (inl ok) = absurd (subst (λ (z : Result V Refusal). IsOkAnd z P) e ok)
ends_in_memory {V} r status a P Q e is (inr f) = let same : a ≡ why.NoMemory = cc in inr (is ∙ ap status_of same)
