use Rattle.std.proofs.Common.{◌≡◌, ◌∙◌, ap, subst, true}
use Rattle.std.specs.Prelude.{IfOk, IfSome, option_map}
use Rattle.refutation.specs.Path.{runs, sum_of}
use Rattle.diff_bounds.specs.Bounds.{IsLeast}
use Rattle.diff_bounds.proofs.bounds.Bounds.chain.Goals as goal

pub returns-clause-least : goal.returns-clause-least
returns-clause-least c =
    subst (λ edges. IfOk c.shortest.result (λ found. IsLeast edges c.args.i c.args.j (option_map (sum_of edges) found))) (c.deref.ensures.value ∙ ap (λ s. s.assumptions) c.self.view_is)
    c.shortest.ensures.least

pub returns-clause-runs : goal.returns-clause-runs
returns-clause-runs c =
    subst (λ edges. IfOk c.shortest.result (λ found. IfSome found (λ chain. runs edges c.args.i c.args.j chain ≡ true))) (c.deref.ensures.value ∙ ap (λ s. s.assumptions) c.self.view_is)
    c.shortest.ensures.runs
