-- A text has one answer.
use Rattle.std.proofs.Common.{◌≡◌, ℕ, List, refl, sym, ◌∙◌, inl, inr}
use Rattle.std.specs.Prelude.{◌⊎◌}
use Rattle.refutation.specs.declared.reader.rules.Rule.{Rule}
use Rattle.refutation.specs.declared.reader.rules.Rule.TheVariants as rule
use Rattle.refutation.specs.declared.reader.error.TreeError.{TreeError}
use Rattle.refutation.specs.declared.reader.error.TreeError.TheVariants as error
use Rattle.refutation.specs.declared.tree.NamedTree.{NamedTree}
use Rattle.refutation.specs.Spelling.{SpellsTrees, IsBrokenText}
use Rattle.refutation.specs.Outcome.{error_of, IsCause}

-- an error other than running out of memory, which has a cause
record Named (text : List ℕ) (e : TreeError) : Type 0 where
  named_rule : Rule
  named_line : ℕ
  is : e ≡ error_of named_rule named_line
  broken : IsBrokenText text named_rule named_line

named : (text : List ℕ) (e : TreeError) → IsCause text e → (e ≡ error.NoMemory → ⊥) → Named text e
named text (error.Syntax n) b h = record { named_rule = rule.Syntax; named_line = n; is = refl; broken = b }
named text (error.Range n) b h = record { named_rule = rule.Range; named_line = n; is = refl; broken = b }
named text (error.Long n) b h = record { named_rule = rule.Long; named_line = n; is = refl; broken = b }
named text (error.Count n) b h = record { named_rule = rule.Count; named_line = n; is = refl; broken = b }
named text error.NoMemory b h = absurd (h refl)

pub no_cause : ((text : List ℕ) (ts : List NamedTree) (r : Rule) (n : ℕ) → SpellsTrees text ts → IsBrokenText text r n → ⊥) → (text : List ℕ) (ts : List NamedTree) (e : TreeError) → SpellsTrees text ts → IsCause text e → e ≡ error.NoMemory
no_cause never text ts (error.Syntax n) x b = absurd (never text ts rule.Syntax n x b)
no_cause never text ts (error.Range n) x b = absurd (never text ts rule.Range n x b)
no_cause never text ts (error.Long n) x b = absurd (never text ts rule.Long n x b)
no_cause never text ts (error.Count n) x b = absurd (never text ts rule.Count n x b)
no_cause never text ts error.NoMemory x b = refl

pub one_cause : ((text : List ℕ) (r q : Rule) (n m : ℕ) → IsBrokenText text r n → IsBrokenText text q m → (r ≡ q) × (n ≡ m))
    → (text : List ℕ) (e f : TreeError) → IsCause text e → IsCause text f → (e ≡ error.NoMemory → ⊥) → (f ≡ error.NoMemory → ⊥) → e ≡ f
one_cause one text e f x y g h =
    let a = named text e x g in
    let b = named text f y h in
    let same = one text a.named_rule b.named_rule a.named_line b.named_line a.broken b.broken in
    a.is ∙ (λ i. error_of (same.0 i) (same.1 i)) ∙ sym b.is

-- the error of a rule has that rule's cause
pub caused : (text : List ℕ) (r : Rule) (n : ℕ) → IsBrokenText text r n → IsCause text (error_of r n)
caused text rule.Syntax n b = b
caused text rule.Range n b = b
caused text rule.Long n b = b
caused text rule.Count n b = b

not_memory : (r : Rule) (n : ℕ) → error_of r n ≡ error.NoMemory → ⊥
not_memory rule.Syntax n e = cc
not_memory rule.Range n e = cc
not_memory rule.Long n e = cc
not_memory rule.Count n e = cc

pub answer : (text : List ℕ) → ((ts : List NamedTree) × SpellsTrees text ts) ⊎ ((r : Rule) × (n : ℕ) × IsBrokenText text r n) → ((ts : List NamedTree) × SpellsTrees text ts) ⊎ ((e : TreeError) × (e ≡ error.NoMemory → ⊥) × IsCause text e)
answer text (inl x) = inl x
answer text (inr b) = inr (error_of b.0 b.1, not_memory b.0 b.1, caused text b.0 b.1 b.2)
