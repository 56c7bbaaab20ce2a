-- Files that are loaded in order.
use Rattle.std.proofs.Common.{◌≡◌, ℕ, zero, suc, ◌+◌, ◌<◌, ◌≤◌, List, [], ◌∷◌, ◌++◌, length, take, map, refl, sym, ◌∙◌, ap, subst, arith, Option, Some, Result, Ok, Err}
use Rattle.std.specs.Prelude.{IfErr, IsErrAnd, slice_get, slice_index_or, String, string_bytes}
use Rattle.std.specs.declared.alloc.Global.{Global}
use Rattle.rl_io.specs.Files.{Files, OnFile}
use Rattle.rl_flow.specs.Asked.{Asked, asked, ShelfState, with_limits, IsTextOf, AreTextsOf, AreWithin, most_bytes, GaveAtMost}
use Rattle.rl_jobs.specs.declared.error.JobError.{JobError}
use Rattle.rl_jobs.specs.declared.error.JobError.TheVariants as job
use Rattle.rl_jobs.specs.Sources.{FailsBy}
use Rattle.rl_flow.specs.Task.{Command}
use Rattle.rl_flow.specs.Answers.{IsCause}
use Rattle.rl_flow.specs.Jobs.{refusal_of}
use Rattle.rl_flow.specs.Outcome.{IsUnloaded, AreUnloaded, HasCause}
use Rattle.rl_flow.specs.declared.refusal.Refusal.{Refusal}
use Rattle.rl_flow.specs.declared.refusal.Refusal.TheVariants as why

-- a name and its limit
abbrev pub file : List ℕ → ℕ → Asked
file name limit = record { name = name; limit = limit }

pub file_of : (names : List (String Global)) (limits : List ℕ) (p : ℕ) (d : String Global) (name : List ℕ) → p < length names → length limits ≡ length names → name ≡ string_bytes (slice_index_or names p d) →
    slice_get (with_limits (map string_bytes names) limits) p ≡ Some (file name (slice_index_or limits p 0))
file_of [] limits p d name less f is = absurd (omega (arith, less))
file_of (n ∷ names) [] p d name less f is = absurd (omega (arith, f))
file_of (n ∷ names) (l ∷ limits) zero d name less f is = ap (λ (z : List ℕ). Some (file z l)) (sym is)
file_of (n ∷ names) (l ∷ limits) (suc p) d name less f is = file_of names limits p d name (omega (arith, less)) (omega (arith, f)) is

count : (names : List (String Global)) (limits : List ℕ) → length limits ≡ length names → length (with_limits (map string_bytes names) limits) ≡ length names
count [] limits e = refl
count (n ∷ names) [] e = absurd (omega (arith, e))
count (n ∷ names) (l ∷ limits) e = ap suc (count names limits (omega (arith, e)))

pub one_more : (known : Option Files) (ws : List Asked) (ts : List (List ℕ)) (p : ℕ) (w : Asked) (t : List ℕ) → AreTextsOf known (take p ws) ts → slice_get ws p ≡ Some w → IsTextOf known w t →
    AreTextsOf known (take (suc p) ws) (ts ++ t ∷ [])
one_more known [] ts p w t x e y = absurd (cc)
one_more known (v ∷ ws) [] zero w t x e y = let same : v ≡ w = cc in (subst (λ (z : Asked). IsTextOf known z t) (sym same) y, tt)
one_more known (v ∷ ws) (u ∷ ts) zero w t x e y = absurd x
one_more known (v ∷ ws) [] (suc p) w t x e y = absurd x
one_more known (v ∷ ws) (u ∷ ts) (suc p) w t x e y = (x.0, one_more known ws ts p w t x.1 e y)

pub more_bytes : (ws : List Asked) (p : ℕ) (w : Asked) → slice_get ws p ≡ Some w → most_bytes (take (suc p) ws) ≡ most_bytes (take p ws) + (w.limit + 1)
more_bytes [] p w e = absurd (cc)
more_bytes (v ∷ ws) zero w e = let same : v ≡ w = cc in let l : v.limit ≡ w.limit = ap (λ (z : Asked). z.limit) same in omega (arith, l)
more_bytes (v ∷ ws) (suc p) w e = let h = more_bytes ws p w e in omega (arith, h)

pub some_bytes : (ws : List Asked) (p : ℕ) → most_bytes (take p ws) ≤ most_bytes ws
some_bytes [] zero = omega arith
some_bytes [] (suc p) = omega arith
some_bytes (w ∷ ws) zero = omega arith
some_bytes (w ∷ ws) (suc p) = let h = some_bytes ws p in omega (arith, h)

take_past : (ws : List Asked) (p : ℕ) → length ws ≤ p → take p ws ≡ ws
take_past [] zero le = refl
take_past [] (suc p) le = refl
take_past (w ∷ ws) zero le = absurd (omega (arith, le))
take_past (w ∷ ws) (suc p) le = ap (λ z. w ∷ z) (take_past ws p (omega (arith, le)))

pub map_more : {X Y : Type 0} (f : X → Y) (xs : List X) (x : X) → map f (xs ++ x ∷ []) ≡ map f xs ++ f x ∷ []
map_more f [] x = refl
map_more f (y ∷ xs) x = ap (λ z. f y ∷ z) (map_more f xs x)

-- what is known after so many files
pub record HasLoaded (before now : ShelfState) (ws : List Asked) (place : ℕ) (texts : List (List ℕ)) : Type 0 where
  pub files : now.files ≡ before.files
  pub later : (n : List ℕ) → before.faults n ≤ now.faults n
  pub grows : before.given ≤ now.given
  pub asked : GaveAtMost before now (take place ws)
  pub texts_are : AreTextsOf before.files (take place ws) texts

-- what one call of `load_file` leaves
pub record Steps (before now : ShelfState) (limit : ℕ) : Type 0 where
  pub files : now.files ≡ before.files
  pub later : (n : List ℕ) → before.faults n ≤ now.faults n
  pub grows : before.given ≤ now.given
  pub asked : now.given ≤ before.given + limit + 1

loads_more : (before mid now : ShelfState) (ws : List Asked) (p : ℕ) (ts : List (List ℕ)) (w : Asked) (t : List ℕ) → HasLoaded before mid ws p ts → Steps mid now w.limit → slice_get ws p ≡ Some w →
    IsTextOf mid.files w t → HasLoaded before now ws (suc p) (ts ++ t ∷ [])
loads_more before mid now ws p ts w t h s e x = record {
  files = s.files ∙ h.files;
  later = λ n. let a = h.later n in let b = s.later n in omega (arith, a, b);
  grows = omega (arith, h.grows, s.grows);
  asked = let more = more_bytes ws p w e in omega (arith, h.asked, s.asked, more);
  texts_are = one_more before.files ws ts p w t h.texts_are e (subst (λ (z : Option Files). IsTextOf z w t) h.files x);
}

pub loads : (before mid now : ShelfState) (ws : List Asked) (p : ℕ) (ts : List (List ℕ)) (w : Asked) (t : List ℕ) → HasLoaded before mid ws p ts → Steps mid now w.limit → slice_get ws p ≡ Some w →
    IsTextOf mid.files w t → (q : ℕ) (us : List (List ℕ)) → q ≡ p + 1 → us ≡ ts ++ t ∷ [] → HasLoaded before now ws q us
loads before mid now ws p ts w t h s e x q us f i =
    let g : suc p ≡ q = omega (arith, f) in
    subst (λ k. HasLoaded before now ws k us) g (subst (HasLoaded before now ws (suc p)) (sym i) (loads_more before mid now ws p ts w t h s e x))

pub loaded : (before now : ShelfState) (names : List (String Global)) (limits : List ℕ) (p : ℕ) (ts : List (List ℕ)) → HasLoaded before now (with_limits (map string_bytes names) limits) p ts →
    length limits ≡ length names → length names ≤ p → AreTextsOf before.files (with_limits (map string_bytes names) limits) ts
loaded before now names limits p ts h e le =
    let ws = with_limits (map string_bytes names) limits in
    subst (λ (z : List Asked). AreTextsOf before.files z ts) (take_past ws p (omega (arith, le, count names limits e))) h.texts_are

pub asked_end : (before now : ShelfState) (ws : List Asked) (p : ℕ) (ts : List (List ℕ)) → HasLoaded before now ws p ts → GaveAtMost before now ws
asked_end before now ws p ts h = let all = some_bytes ws p in omega (arith, h.asked, all)

pub asked_all : (before mid now : ShelfState) (ws : List Asked) (p : ℕ) (ts : List (List ℕ)) (w : Asked) → HasLoaded before mid ws p ts → Steps mid now w.limit → slice_get ws p ≡ Some w → GaveAtMost before now ws
asked_all before mid now ws p ts w h s e =
    let more = more_bytes ws p w e in
    let all = some_bytes ws (suc p) in
    omega (arith, h.asked, s.asked, more, all)

next : (p : ℕ) (ws : List Asked) → take (p + 1) ws ≡ take (suc p) ws
next p ws = let e : p + 1 ≡ suc p = omega arith in ap (λ k. take k ws) e

asked_upto : (before mid now : ShelfState) (ws : List Asked) (p n : ℕ) (ts : List (List ℕ)) (w : Asked) → HasLoaded before mid ws p ts → Steps mid now w.limit → slice_get ws p ≡ Some w → n ≡ p + 1 →
    GaveAtMost before now (take n ws)
asked_upto before mid now ws p n ts w h s e num =
    let more = more_bytes ws p w e in
    let same = ap most_bytes (ap (λ k. take k ws) num ∙ next p ws) in
    omega (arith, h.asked, s.asked, more, same)

pub unloaded : (before mid now : ShelfState) (ws : List Asked) (p : ℕ) (ts : List (List ℕ)) (w : Asked) (r : Refusal) → HasLoaded before mid ws p ts → Steps mid now w.limit → slice_get ws p ≡ Some w →
    IsUnloaded mid now (p + 1) w r → AreUnloaded before now ws r
unloaded before mid now ws p ts w (why.TooLong n l) h s e x = (
  (record {
    place = p;
    file = w;
    numbered = x.0;
    reached = record { texts = ts; before = h.texts_are; at = e };
    limit_is = x.1;
    longer = subst (λ (z : Option Files). OnFile z w.name (λ b. l < length b)) h.files x.2;
  }),
  (let rose = x.3 in omega (arith, h.grows, rose)),
  asked_upto before mid now ws p n ts w h s e x.0,
)
unloaded before mid now ws p ts w (why.ReadFault n) h s e x = (
  (record {
    place = p;
    file = w;
    numbered = x.0;
    reached = record { texts = ts; before = h.texts_are; at = e };
    rose = (let a = h.later w.name in let rose = x.1 in omega (arith, a, rose));
  }),
  asked_upto before mid now ws p n ts w h s e x.0,
)
unloaded before mid now ws p ts w why.NoMemory h s e x = tt
unloaded before mid now ws p ts w why.Words h s e x = absurd x
unloaded before mid now ws p ts w (why.Refused f) h s e x = absurd x
unloaded before mid now ws p ts w why.WriteFault h s e x = absurd x

-- ---- errors that are handed on

pub handed_on : {T : Type 0} (r : Result T Refusal) (e : Refusal) (P : Refusal → Type 0) → IsErrAnd r (λ z. z ≡ e) → P e → IfErr r P
handed_on (Ok x) e P is h = tt
handed_on (Err z) e P is h = subst P (sym is) h

-- ---- what was loaded is refused by a job

pub refuses : (before now : ShelfState) (command : Option Command) (c : Command) (failed failed' : ℕ) (texts : List (List ℕ)) (e : JobError) → command ≡ Some c → AreTextsOf before.files (asked c) texts →
    FailsBy (IsCause c.task texts) e → HasCause command before now failed failed' (refusal_of e)
refuses before now command c failed failed' texts (job.Refused f) e x y = subst (λ (z : Option Command). HasCause z before now failed failed' (why.Refused f)) (sym e) (texts, x, y)
refuses before now command c failed failed' texts job.NoMemory e x y = subst (λ (z : Option Command). HasCause z before now failed failed' why.NoMemory) (sym e) refl

-- ---- what was loaded is within the limits

pub within : (known : Option Files) (names : List (List ℕ)) (limits : List ℕ) (ts : List (List ℕ)) → length limits ≡ length names → AreTextsOf known (with_limits names limits) ts → AreWithin limits ts
within known [] [] [] e x = tt
within known [] [] (t ∷ ts) e x = absurd x
within known [] (l ∷ limits) ts e x = absurd (omega arith)
within known (n ∷ names) [] ts e x = absurd (omega arith)
within known (n ∷ names) (l ∷ limits) [] e x = absurd x
within known (n ∷ names) (l ∷ limits) (t ∷ ts) e x = (x.0.0, within known names limits ts (omega (arith, e)) x.1)

pub one_each : (limits : List ℕ) (ts : List (List ℕ)) → AreWithin limits ts → length ts ≡ length limits
one_each [] [] x = refl
one_each [] (t ∷ ts) x = absurd x
one_each (l ∷ limits) [] x = absurd x
one_each (l ∷ limits) (t ∷ ts) x = ap suc (one_each limits ts x.1)
