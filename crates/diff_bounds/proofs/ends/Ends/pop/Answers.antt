use Rattle.std.proofs.Common.{refl}
use Rattle.diff_bounds.proofs.ends.Ends.pop.Goals as goal

pub returns : goal.returns
returns c = record {
  to = c.pop.ensures c.args.n (λ a. a.to) refl c.requires.listed.to;
  from = c.pop-2.ensures c.args.n (λ a. a.from) refl c.requires.listed.from;
}
