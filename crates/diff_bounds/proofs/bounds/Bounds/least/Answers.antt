use Rattle.std.proofs.Common.{◌∙◌, ap, subst}
use Rattle.diff_bounds.specs.Bounds.{IsLeast}
use Rattle.diff_bounds.proofs.bounds.Bounds.least.Goals as goal

pub returns-clause-least : goal.returns-clause-least
returns-clause-least c =
    subst (λ edges. IsLeast edges c.args.i c.args.j c.least.result) (c.deref.ensures.value ∙ ap (λ s. s.assumptions) c.self.view_is) c.least.ensures.least
