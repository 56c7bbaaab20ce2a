-- The outputs with the lines of their roots.
use Rattle.std.proofs.Common.{◌≡◌, ℕ, zero, suc, Bool, List, [], ◌∷◌, ◌++◌, length, take, refl, ap, sym, ◌∙◌, arith, Some}
use Rattle.std.specs.Prelude.{slice_get}
use Rattle.term_store.specs.declared.node.Term.{Term}
use Rattle.term_store.specs.declared.node.Node.{Node}
use Rattle.gate_lower.specs.declared.gates.Line.{Line}
use Rattle.gate_lower.specs.Netlist.{Output}
use Rattle.gate_lower.specs.Rules.{output_names}
use Rattle.gate_lower.specs.Lowered.{term_line, outputs_of}

abbrev pub output_of : List Node → List Bool → Term → List ℕ → Output
output_of nodes marks r n = record { name = n; line = term_line nodes marks r }

module _ (nodes : List Node) (marks : List Bool) where
  pub outputs_more : (roots : List Term) (names : List (List ℕ)) (i : ℕ) (r : Term) (n : List ℕ) → slice_get roots i ≡ Some r → slice_get names i ≡ Some n →
      outputs_of nodes marks (take (suc i) roots) (take (suc i) names) ≡ outputs_of nodes marks (take i roots) (take i names) ++ output_of nodes marks r n ∷ []
  outputs_more [] names i r n e f = absurd (cc)
  outputs_more (x ∷ roots) [] i r n e f = absurd (cc)
  outputs_more (x ∷ roots) (m ∷ names) zero r n e f =
      let a : x ≡ r = cc in
      let b : m ≡ n = cc in
      ap (λ z. output_of nodes marks z m ∷ []) a ∙ ap (λ z. output_of nodes marks r z ∷ []) b
  outputs_more (x ∷ roots) (m ∷ names) (suc i) r n e f = ap (λ zs. output_of nodes marks x m ∷ zs) (outputs_more roots names i r n e f)

  -- they have the names
  pub names_are : (roots : List Term) (names : List (List ℕ)) → length names ≡ length roots → output_names (outputs_of nodes marks roots names) ≡ names
  names_are [] [] l = refl
  names_are [] (m ∷ names) l = absurd (omega (arith, l))
  names_are (x ∷ roots) [] l = refl
  names_are (x ∷ roots) (m ∷ names) l = ap (λ zs. m ∷ zs) (names_are roots names (omega (arith, l)))

  -- an output's line is that of a root
  pub output_line : (roots : List Term) (names : List (List ℕ)) (o : ℕ) (l : Output) → slice_get (outputs_of nodes marks roots names) o ≡ Some l →
      (r : Term) × (slice_get roots o ≡ Some r) × (l.line ≡ term_line nodes marks r)
  output_line [] [] o l e = absurd (cc)
  output_line [] (m ∷ names) o l e = absurd (cc)
  output_line (x ∷ roots) [] o l e = absurd (cc)
  output_line (x ∷ roots) (m ∷ names) zero l e =
      let same : output_of nodes marks x m ≡ l = cc in
      (x, refl, ap (λ (z : Output). z.line) (sym same))
  output_line (x ∷ roots) (m ∷ names) (suc o) l e = output_line roots names o l e

pub same_output : (m n : List ℕ) (k l : Line) → m ≡ n → k ≡ l → ◌≡◌ {A = Output} (record { name = m; line = k }) (record { name = n; line = l })
same_output m n k l e f = ap (λ z. output z k) e ∙ ap (output n) f
  where
    output : List ℕ → Line → Output
    output z u = record { name = z; line = u }
