use Rattle.std.proofs.Common.{◌≡◌, ◌+◌, ◌*◌, ◌-◌, sym, ◌∙◌, arith, get_or}
use Rattle.std.specs.Prelude.{min}
use Rattle.rl_text.proofs.Capped.{step}
use Rattle.rl_text.proofs.number.capped_number.Goals as goal

pub loop-d-preserved : goal.loop-d-preserved
loop-d-preserved c =
    let ds = c.args.digits.now in
    let i = c.loop-d.d-index in
    let e : c.min-n.result ≡ min (c.loop-d.n * 10 + (get_or ds i 0 - 48)) c.args.limit = search (arith, c.min-n.ensures, c.from.ensures, c.saturating_sub.ensures) in
    record {
      small = omega (arith, e);
      so_far = rw e (sym (step c.args.limit ds i c.loop-d.n 0 c.loop-d-test.true) ∙ c.loop-d.invariant.so_far);
    }
