use Rattle.std.proofs.Common.{ap, length, arith}
use Rattle.case_split.specs.Stages.{Stages}
use Rattle.case_split.proofs.Nesting.{begun_long}
use Rattle.case_split.proofs.stages.Stages.pending.Goals as goal

pub returns : goal.returns
returns c =
    let long = begun_long c.self.inside.bounds.assumptions c.self.inside.facts.items c.self.inside.forms.items c.self.inside.later.items in
    let same = ap (λ (s : Stages). length s.later) c.self.view_is in
    omega (arith, long, same)
