use Rattle.std.proofs.Common.{rules, get_or, ap, ◌∙◌, sym, subst}
use Rattle.std.proofs.lemmas.List.{get_or-replicate}
use Rattle.diff_bounds.specs.Search.{IsBounds, IsListed, IsSized}
use Rattle.diff_bounds.proofs.Kept.{no_bounds}
use Rattle.diff_bounds.proofs.bounds.Bounds.new.Goals as goal

pub invariant_of-result : goal.invariant_of-result
invariant_of-result c =
    subst (λ edges. IsBounds c.args.n edges c.in_ok-vec.field-0.items × (IsListed c.args.n edges c.in_ok-new.field-0 × IsSized c.args.n c.in_ok-new-2.field-0)) (sym c.new.ensures.items)
    (no_bounds c.args.n c.in_ok-vec.field-0.items c.requires.some c.requires.few (search rules) (λ k h. ap (λ xs. get_or xs k 0) (c.in_ok-vec.ensures.items_if_clones_equal (search rules)) ∙ get_or-replicate c.args.n k 0 0 h), (c.in_ok-new.ensures, c.in_ok-new-2.ensures))
