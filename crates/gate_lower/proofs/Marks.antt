-- What the laws of reached places say of the marks.
use Rattle.std.proofs.Common.{◌≡◌, ℕ, Bool, List, arith}
use Rattle.term_store.specs.declared.node.Term.{Term}
use Rattle.term_store.specs.declared.node.Node.{Node}
use Rattle.term_store.specs.Subterms.{AreNetworkTerms, register_bits}
use Rattle.term_store.specs.Trees.{trees_at}
use Rattle.term_store.specs.Places.{CountsAreRight, MarksAreClosed}
use Rattle.gate_lower.specs.Lowered.{marked_bits}
use Rattle.gate_lower.proofs.Lines.{AreMarks}

pub are_marks : (nodes : List Node) (roots : List Term) (marks : List Bool) (count : ℕ) → AreNetworkTerms count (trees_at nodes roots) → MarksAreClosed nodes roots marks → AreMarks nodes marks count
are_marks nodes roots marks count terms closed = record {
  operands = λ p q lt m o. closed.operands p q lt m o;
  inputs_below = λ p i lt m e. closed.inputs count p i terms lt m e;
}

pub bits_are : (nodes : List Node) (roots : List Term) (marks : List Bool) → CountsAreRight nodes roots marks → marked_bits nodes marks ≡ register_bits (trees_at nodes roots)
bits_are nodes roots marks right = omega (arith, right.lts, right.bits)
