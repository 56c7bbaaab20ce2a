use Rattle.std.proofs.Common.{refl, arith}
use Rattle.std.specs.Prelude.{Result, Ok, Err, OnErr}
use Rattle.diff_bounds.proofs.Least.{length_more}
use Rattle.diff_bounds.proofs.ends.Ends.push.Goals as goal

at_err : {T E P : Type 0} (r : Result T E) → P → OnErr r P
at_err (Ok v) p = tt
at_err (Err e) p = p

pub returns-in_err-push-clause-unchanged : goal.returns-in_err-push-clause-unchanged
returns-in_err-push-clause-unchanged c = at_err c.from_residual.result (record { to = c.in_err-push.ensures.unchanged c.args.n (λ a. a.to) c.requires.listed.to; from = c.requires.listed.from })

pub pop-requires-clause-there : goal.pop-requires-clause-there
pop-requires-clause-there c = let long = (c.in_ok-push.ensures.listed c.args.n (λ a. a.to) refl c.requires.listed.to).inputs in let h = c.requires.to in omega (arith, long, h)

pub pop-requires-clause-some : goal.pop-requires-clause-some
pop-requires-clause-some c =
    let long = (c.in_ok-push.ensures.listed c.args.n (λ a. a.to) refl c.requires.listed.to).numbers in
    let more = length_more c.args.edges.now c.args.edge in omega (arith, long, more)

pub returns-in-Ok-clause-listed : goal.returns-in-Ok-clause-listed
returns-in-Ok-clause-listed c = record {
  to = c.in_ok-push.ensures.listed c.args.n (λ a. a.to) refl c.requires.listed.to;
  from = c.in-Ok.ensures.listed c.args.n (λ a. a.from) refl c.requires.listed.from;
}

pub returns-in-Err-clause-unchanged : goal.returns-in-Err-clause-unchanged
returns-in-Err-clause-unchanged c = record {
  to = c.pop.ensures c.args.n (λ a. a.to) refl (c.in_ok-push.ensures.listed c.args.n (λ a. a.to) refl c.requires.listed.to);
  from = c.in-Err.ensures.unchanged c.args.n (λ a. a.from) c.requires.listed.from;
}
