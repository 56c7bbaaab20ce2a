-- What is read of bytes, or of several texts together.
use Rattle.std.specs.Prelude.{◌≡◌, ◌⊎◌}
use Rattle.std.proofs.Common.{subst, inl, inr}
use Rattle.rl_jobs.specs.declared.fault.Fault.{Fault}

-- a text is read as exactly one thing, or has exactly one fault, and not both; what is read may be several texts together
pub record IsReading {B S : Type 0} (Spells : B → S → Type 0) (IsBad : B → Fault → Type 0) : Type 0 where
  pub one : (bytes : B) (s t : S) → Spells bytes s → Spells bytes t → s ≡ t
  pub one_fault : (bytes : B) (f g : Fault) → IsBad bytes f → IsBad bytes g → f ≡ g
  pub not_both : (bytes : B) (s : S) (f : Fault) → Spells bytes s → IsBad bytes f → ⊥
  pub some : (bytes : B) → ((s : S) × Spells bytes s) ⊎ ((f : Fault) × IsBad bytes f)

-- ---- what was read may have a fault of its own

-- a fault of what was read is one of these
abbrev pub Staged : {B S : Type 0} → (B → S → Type 0) → (B → Fault → Type 0) → (S → Fault → Type 0) → B → Fault → Type 0
Staged {B} {S} Spells IsBad Fails bytes f = IsBad bytes f ⊎ ((s : S) × Spells bytes s × Fails s f)

-- what was read has at most one of these faults
abbrev pub OneEach : {S : Type 0} → (S → Fault → Type 0) → Type 0
OneEach {S} Fails = (s : S) (f g : Fault) → Fails s f → Fails s g → f ≡ g

-- what was read is good, or has one of these faults
abbrev pub SomeEach : {B S : Type 0} → (B → S → Type 0) → (S → Type 0) → (S → Fault → Type 0) → Type 0
SomeEach {B} {S} Spells Good Fails = (bytes : B) (s : S) → Spells bytes s → Good s ⊎ ((f : Fault) × Fails s f)

pub one_staged : {B S : Type 0} (Spells : B → S → Type 0) (IsBad : B → Fault → Type 0) (Fails : S → Fault → Type 0) → IsReading Spells IsBad → OneEach Fails →
    (bytes : B) (f g : Fault) → Staged Spells IsBad Fails bytes f → Staged Spells IsBad Fails bytes g → f ≡ g
one_staged Spells IsBad Fails h each bytes f g (inl x) (inl y) = h.one_fault bytes f g x y
one_staged Spells IsBad Fails h each bytes f g (inl x) (inr y) = absurd (h.not_both bytes y.0 f y.1 x)
one_staged Spells IsBad Fails h each bytes f g (inr x) (inl y) = absurd (h.not_both bytes x.0 g x.1 y)
one_staged {B} {S} Spells IsBad Fails h each bytes f g (inr x) (inr y) =
    each y.0 f g (subst (λ (s : S). Fails s f) (h.one bytes x.0 y.0 x.1 y.1) x.2) y.2

pub no_staged : {B S : Type 0} (Spells : B → S → Type 0) (IsBad : B → Fault → Type 0) (Fails : S → Fault → Type 0) → IsReading Spells IsBad →
    (bytes : B) (s : S) (f : Fault) → Spells bytes s → (Fails s f → ⊥) → Staged Spells IsBad Fails bytes f → ⊥
no_staged Spells IsBad Fails h bytes s f is good (inl x) = h.not_both bytes s f is x
no_staged {B} {S} Spells IsBad Fails h bytes s f is good (inr x) = good (subst (λ (t : S). Fails t f) (h.one bytes x.0 s x.1 is) x.2)

judged : {B S : Type 0} (Spells : B → S → Type 0) (IsBad : B → Fault → Type 0) (Good : S → Type 0) (Fails : S → Fault → Type 0) (bytes : B) (s : S) → Spells bytes s →
    Good s ⊎ ((f : Fault) × Fails s f) → ((t : S) × (Spells bytes t × Good t)) ⊎ ((f : Fault) × Staged Spells IsBad Fails bytes f)
judged Spells IsBad Good Fails bytes s is (inl good) = inl (s, (is, good))
judged Spells IsBad Good Fails bytes s is (inr x) = inr (x.0, inr (s, is, x.1))

pub some_staged : {B S : Type 0} (Spells : B → S → Type 0) (IsBad : B → Fault → Type 0) (Good : S → Type 0) (Fails : S → Fault → Type 0) → SomeEach Spells Good Fails → (bytes : B) →
    ((s : S) × Spells bytes s) ⊎ ((f : Fault) × IsBad bytes f) → ((s : S) × (Spells bytes s × Good s)) ⊎ ((f : Fault) × Staged Spells IsBad Fails bytes f)
some_staged Spells IsBad Good Fails each bytes (inl x) = judged Spells IsBad Good Fails bytes x.0 x.1 (each bytes x.0 x.1)
some_staged Spells IsBad Good Fails each bytes (inr x) = inr (x.0, inl x.1)

-- what was read and has no such fault, or why not
pub reads_staged : {B S : Type 0} (Spells : B → S → Type 0) (IsBad : B → Fault → Type 0) (Good : S → Type 0) (Fails : S → Fault → Type 0) → IsReading Spells IsBad → OneEach Fails →
    ((s : S) (f : Fault) → Good s → Fails s f → ⊥) → SomeEach Spells Good Fails → IsReading (λ bytes s. Spells bytes s × Good s) (Staged Spells IsBad Fails)
reads_staged Spells IsBad Good Fails h each apart either = record {
  one = λ bytes s t x y. h.one bytes s t x.0 y.0;
  one_fault = λ bytes f g x y. one_staged Spells IsBad Fails h each bytes f g x y;
  not_both = λ bytes s f x y. no_staged Spells IsBad Fails h bytes s f x.0 (apart s f x.1) y;
  some = λ bytes. some_staged Spells IsBad Good Fails either bytes (h.some bytes);
}

-- ---- two parts, of which the first is judged first

-- both parts are spelled
abbrev pub Both : {B S T : Type 0} → (B → S → Type 0) → (B → T → Type 0) → B → S × T → Type 0
Both First Second bytes p = First bytes p.0 × Second bytes p.1

-- the first part has this fault, or it is spelled and the second part has it
abbrev pub EitherFault : {B S : Type 0} → (B → S → Type 0) → (B → Fault → Type 0) → (B → Fault → Type 0) → B → Fault → Type 0
EitherFault {B} {S} First IsBad IsLaterBad bytes f = IsBad bytes f ⊎ (((s : S) × First bytes s) × IsLaterBad bytes f)

-- what is read of a part
pub reads_part : {B C S : Type 0} (part : C → B) (Spells : B → S → Type 0) (IsBad : B → Fault → Type 0) → IsReading Spells IsBad → IsReading (λ (c : C) s. Spells (part c) s) (λ c f. IsBad (part c) f)
reads_part part Spells IsBad h = record {
  one = λ c. h.one (part c);
  one_fault = λ c. h.one_fault (part c);
  not_both = λ c. h.not_both (part c);
  some = λ c. h.some (part c);
}

same_pair : {S T : Type 0} (p q : S × T) → p.0 ≡ q.0 → p.1 ≡ q.1 → p ≡ q
same_pair (a, b) (c, d) e f = cc

one_of_either : {B S : Type 0} (First : B → S → Type 0) (IsBad IsLaterBad : B → Fault → Type 0) → IsReading First IsBad → (bytes : B) (f g : Fault) →
    (IsLaterBad bytes f → IsLaterBad bytes g → f ≡ g) → EitherFault First IsBad IsLaterBad bytes f → EitherFault First IsBad IsLaterBad bytes g → f ≡ g
one_of_either First IsBad IsLaterBad h bytes f g later (inl x) (inl y) = h.one_fault bytes f g x y
one_of_either First IsBad IsLaterBad h bytes f g later (inl x) (inr y) = absurd (h.not_both bytes y.0.0 f y.0.1 x)
one_of_either First IsBad IsLaterBad h bytes f g later (inr x) (inl y) = absurd (h.not_both bytes x.0.0 g x.0.1 y)
one_of_either First IsBad IsLaterBad h bytes f g later (inr x) (inr y) = later x.1 y.1

none_of_either : {B S : Type 0} (First : B → S → Type 0) (IsBad IsLaterBad : B → Fault → Type 0) → IsReading First IsBad → (bytes : B) (s : S) (f : Fault) →
    First bytes s → (IsLaterBad bytes f → ⊥) → EitherFault First IsBad IsLaterBad bytes f → ⊥
none_of_either First IsBad IsLaterBad h bytes s f is good (inl x) = h.not_both bytes s f is x
none_of_either First IsBad IsLaterBad h bytes s f is good (inr x) = good x.1

both_or_either : {B S T : Type 0} (First : B → S → Type 0) (Second : B → T → Type 0) (IsBad IsLaterBad : B → Fault → Type 0) (bytes : B) →
    ((s : S) × First bytes s) ⊎ ((f : Fault) × IsBad bytes f) → ((t : T) × Second bytes t) ⊎ ((f : Fault) × IsLaterBad bytes f) →
    ((p : S × T) × Both First Second bytes p) ⊎ ((f : Fault) × EitherFault First IsBad IsLaterBad bytes f)
both_or_either First Second IsBad IsLaterBad bytes (inr x) y = inr (x.0, inl x.1)
both_or_either First Second IsBad IsLaterBad bytes (inl x) (inl y) = inl ((x.0, y.0), (x.1, y.1))
both_or_either First Second IsBad IsLaterBad bytes (inl x) (inr y) = inr (y.0, inr (x, y.1))

-- two parts are read, or the first fault of theirs is found
pub reads_both : {B S T : Type 0} (First : B → S → Type 0) (Second : B → T → Type 0) (IsBad IsLaterBad : B → Fault → Type 0) → IsReading First IsBad → IsReading Second IsLaterBad →
    IsReading (Both First Second) (EitherFault First IsBad IsLaterBad)
reads_both First Second IsBad IsLaterBad h k = record {
  one = λ bytes p q x y. same_pair p q (h.one bytes p.0 q.0 x.0 y.0) (k.one bytes p.1 q.1 x.1 y.1);
  one_fault = λ bytes f g x y. one_of_either First IsBad IsLaterBad h bytes f g (k.one_fault bytes f g) x y;
  not_both = λ bytes p f x y. none_of_either First IsBad IsLaterBad h bytes p.0 f x.0 (k.not_both bytes p.1 f x.1) y;
  some = λ bytes. both_or_either First Second IsBad IsLaterBad bytes (h.some bytes) (k.some bytes);
}
