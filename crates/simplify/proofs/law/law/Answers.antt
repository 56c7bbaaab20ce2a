use Rattle.std.proofs.Common.{subst, sym, ap, ◌∙◌, inl, inr}
use Rattle.term_store.specs.Trees.{tree}
use Rattle.term_store.specs.Places.{tree_by_places}
use Rattle.simplify.specs.Outcomes.{IsAnswer, stride}
use Rattle.simplify.proofs.Choice.{min_choice, max_choice, lt_choice, inc_choice}
use Rattle.simplify.proofs.Past.{stride_input, stride_never}
use Rattle.simplify.proofs.law.law.Goals as goal

pub returns-in-Input : goal.returns-in-Input
returns-in-Input c = let ns = c.args.store.now.nodes in
    elim c.in-Input.is [
      | inl h ↦ ap (λ n. stride (tree_by_places ns n)) h.1 ∙ stride_input h.0
      | inr h ↦ ap (λ n. stride (tree_by_places ns n)) h ∙ stride_never
    ]

pub returns-in-Min : goal.returns-in-Min
returns-in-Min c = let ns = c.args.store.now.nodes in
    subst (λ o. IsAnswer ns o c.min_law.result) (min_choice (tree ns c.in-Min.a.0) (tree ns c.in-Min.b.0) ∙ ap (λ n. stride (tree_by_places ns n)) (sym c.in-Min.is)) c.min_law.ensures

pub returns-in-Max : goal.returns-in-Max
returns-in-Max c = let ns = c.args.store.now.nodes in
    subst (λ o. IsAnswer ns o c.max_law.result) (max_choice (tree ns c.in-Max.a.0) (tree ns c.in-Max.b.0) ∙ ap (λ n. stride (tree_by_places ns n)) (sym c.in-Max.is)) c.max_law.ensures

pub returns-in-Lt : goal.returns-in-Lt
returns-in-Lt c = let ns = c.args.store.now.nodes in
    subst (λ o. IsAnswer ns o c.lt_law.result) (lt_choice (tree ns c.in-Lt.a.0) (tree ns c.in-Lt.b.0) ∙ ap (λ n. stride (tree_by_places ns n)) (sym c.in-Lt.is)) c.lt_law.ensures

pub returns-in-Inc : goal.returns-in-Inc
returns-in-Inc c = let ns = c.args.store.now.nodes in
    subst (λ o. IsAnswer ns o c.inc_law.result) (inc_choice (tree ns c.in-Inc.a.0) c.in-Inc.cycles ∙ ap (λ n. stride (tree_by_places ns n)) (sym c.in-Inc.is)) c.inc_law.ensures
