use Rattle.std.proofs.Common.{sym}
use Rattle.simplify.proofs.Simp.{simp_good}
use Rattle.simplify.proofs.laws.simplifying_keeps_times.Goals as goal

pub returns : goal.returns
returns c = record {
  times = λ t d x. sym ((simp_good t).times d x);
  no_later = λ t. (simp_good t).no_longer;
}
