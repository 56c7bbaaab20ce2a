-- A text has one answer.
use Rattle.std.proofs.Common.{◌≡◌, ℕ, List, refl, sym, ◌∙◌, inl, inr}
use Rattle.std.specs.Prelude.{◌⊎◌}
use Rattle.net_lang.specs.declared.reader.rules.Rule.{Rule}
use Rattle.net_lang.specs.declared.reader.rules.Rule.TheVariants as rule
use Rattle.net_lang.specs.declared.reader.error.NetError.{NetError}
use Rattle.net_lang.specs.declared.reader.error.NetError.TheVariants as error
use Rattle.net_model.specs.Formula.{Net}
use Rattle.net_lang.specs.Spelling.{SpellsNetwork, IsBrokenNetwork}
use Rattle.net_lang.specs.Outcome.{error_of, IsCause}

-- the rule and the line that an error names
record Named (text : List ℕ) (e : NetError) : Type 0 where
  named_rule : Rule
  named_line : ℕ
  is : e ≡ error_of named_rule named_line
  broken : IsBrokenNetwork text named_rule named_line

named : (text : List ℕ) (e : NetError) → IsCause text e → (e ≡ error.NoMemory → ⊥) → Named text e
named text (error.Syntax n) b h = record { named_rule = rule.Syntax; named_line = n; is = refl; broken = b }
named text (error.Name n) b h = record { named_rule = rule.Name; named_line = n; is = refl; broken = b }
named text (error.Span n) b h = record { named_rule = rule.Span; named_line = n; is = refl; broken = b }
named text (error.Doubled n) b h = record { named_rule = rule.Doubled; named_line = n; is = refl; broken = b }
named text (error.Unknown n) b h = record { named_rule = rule.Unknown; named_line = n; is = refl; broken = b }
named text (error.Count n) b h = record { named_rule = rule.Count; named_line = n; is = refl; broken = b }
named text error.NoMemory b h = absurd (h refl)

pub no_cause : ((text : List ℕ) (n : Net) (r : Rule) (k : ℕ) → SpellsNetwork text n → IsBrokenNetwork text r k → ⊥) → (text : List ℕ) (n : Net) (e : NetError) → SpellsNetwork text n → IsCause text e → e ≡ error.NoMemory
no_cause never text n (error.Syntax k) x b = absurd (never text n rule.Syntax k x b)
no_cause never text n (error.Name k) x b = absurd (never text n rule.Name k x b)
no_cause never text n (error.Span k) x b = absurd (never text n rule.Span k x b)
no_cause never text n (error.Doubled k) x b = absurd (never text n rule.Doubled k x b)
no_cause never text n (error.Unknown k) x b = absurd (never text n rule.Unknown k x b)
no_cause never text n (error.Count k) x b = absurd (never text n rule.Count k x b)
no_cause never text n error.NoMemory x b = refl

pub one_cause : ((text : List ℕ) (r q : Rule) (n m : ℕ) → IsBrokenNetwork text r n → IsBrokenNetwork text q m → (r ≡ q) × (n ≡ m))
    → (text : List ℕ) (e f : NetError) → IsCause text e → IsCause text f → (e ≡ error.NoMemory → ⊥) → (f ≡ error.NoMemory → ⊥) → e ≡ f
one_cause one text e f x y g h =
    let a = named text e x g in
    let b = named text f y h in
    let same = one text a.named_rule b.named_rule a.named_line b.named_line a.broken b.broken in
    a.is ∙ (λ i. error_of (same.0 i) (same.1 i)) ∙ sym b.is

-- the error of a rule has that rule's cause
pub caused : (text : List ℕ) (r : Rule) (n : ℕ) → IsBrokenNetwork text r n → IsCause text (error_of r n)
caused text rule.Syntax n b = b
caused text rule.Name n b = b
caused text rule.Doubled n b = b
caused text rule.Unknown n b = b
caused text rule.Count n b = b
caused text rule.Span n b = b

not_memory : (r : Rule) (n : ℕ) → error_of r n ≡ error.NoMemory → ⊥
not_memory rule.Syntax n e = cc
not_memory rule.Name n e = cc
not_memory rule.Doubled n e = cc
not_memory rule.Unknown n e = cc
not_memory rule.Count n e = cc
not_memory rule.Span n e = cc

pub answer : (text : List ℕ) → ((n : Net) × SpellsNetwork text n) ⊎ ((r : Rule) × (k : ℕ) × IsBrokenNetwork text r k) → ((n : Net) × SpellsNetwork text n) ⊎ ((e : NetError) × (e ≡ error.NoMemory → ⊥) × IsCause text e)
answer text (inl x) = inl x
answer text (inr b) = inr (error_of b.0 b.1, not_memory b.0 b.1, caused text b.0 b.1 b.2)
