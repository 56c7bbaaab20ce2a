-- What the derived `==` of nodes answers, and that it is equality.
use Rattle.std.proofs.Common.{◌≡◌, ℕ, true, nat_eq, ◌&&◌, refl, ap, arith, sym, true≢false}
use Rattle.std.proofs.lemmas.Bool.Decides.{nat_tests}
use Rattle.term_store.specs.declared.node.Term.{Term}
use Rattle.term_store.specs.declared.node.Node.{Node}
use Rattle.term_store.specs.declared.node.Node.TheVariants as node
use Rattle.term_store.specs.contracts.node.NodePartialEq.TheImpl.{eq-value}
use Rattle.term_store.specs.Nodes.{same_node}

pub eq_is : (a b : Node) → eq-value.it a b ≡ same_node a b
eq_is (node.Input i) (node.Input j) = refl
eq_is node.Never node.Never = refl
eq_is (node.Min i j) (node.Min k l) = refl
eq_is (node.Max i j) (node.Max k l) = refl
eq_is (node.Lt i j) (node.Lt k l) = refl
eq_is (node.Inc i j) (node.Inc k l) = refl
eq_is a b = refl

-- places with one number are one
pub one_term : (a b : Term) → a.0 ≡ b.0 → a ≡ b
one_term a b e = ap (λ (n : ℕ). record { 0 = n }) e

nat_same : (a b : ℕ) → nat_eq a b ≡ true → a ≡ b
nat_same a b e = grind (arith, nat_tests)

both : (a b c d : ℕ) → (nat_eq a b && nat_eq c d) ≡ true → (a ≡ b) × (c ≡ d)
both a b c d e = grind (arith, nat_tests)

pub same_is : (a b : Node) → same_node a b ≡ true → a ≡ b
same_is (node.Input i) (node.Input j) e = ap node.Input (nat_same i j e)
same_is node.Never node.Never e = refl
same_is (node.Min i j) (node.Min k l) e = let h = both i.0 k.0 j.0 l.0 e in let p : i ≡ k = one_term i k h.0 in let q : j ≡ l = one_term j l h.1 in cc
same_is (node.Max i j) (node.Max k l) e = let h = both i.0 k.0 j.0 l.0 e in let p : i ≡ k = one_term i k h.0 in let q : j ≡ l = one_term j l h.1 in cc
same_is (node.Lt i j) (node.Lt k l) e = let h = both i.0 k.0 j.0 l.0 e in let p : i ≡ k = one_term i k h.0 in let q : j ≡ l = one_term j l h.1 in cc
same_is (node.Inc i j) (node.Inc k l) e = let h = both i.0 k.0 j l e in let p : i ≡ k = one_term i k h.0 in cc
same_is a b e = absurd (true≢false (sym e))

pub same_refl : (a : Node) → same_node a a ≡ true
same_refl (node.Input i) = grind (arith, nat_tests)
same_refl node.Never = refl
same_refl (node.Min i j) = grind (arith, nat_tests)
same_refl (node.Max i j) = grind (arith, nat_tests)
same_refl (node.Lt i j) = grind (arith, nat_tests)
same_refl (node.Inc i j) = grind (arith, nat_tests)
