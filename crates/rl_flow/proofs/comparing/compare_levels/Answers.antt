use Rattle.std.proofs.Common.{ℕ, ◌≡◌, ◌∙◌, ◌<◌, false, ◌&&◌, ap, length, arith, get_or}
use Rattle.std.proofs.Math.Bool.{beq}
use Rattle.std.proofs.lemmas.List.{length-set}
use Rattle.rl_time.specs.declared.time.Time.{Time}
use Rattle.rl_time.specs.declared.time.Time.TheVariants.{Never}
use Rattle.rl_time.specs.Time.{has_risen}
use Rattle.net_model.specs.Value.{time_at}
use Rattle.cycle_sim.specs.Standing.{output_level}
use Rattle.rl_flow.proofs.Marks.{marks_done, marks_wait, same_within}
use Rattle.rl_flow.proofs.comparing.compare_levels.Goals as goal

pub loop-out-preserved : goal.loop-out-preserved
loop-out-preserved c =
    let out = c.loop-out.out in
    let now = c.loop-out.marks in
    let old = c.args.marks.now in
    let right = λ (k : ℕ). beq (output_level c.args.sim.now.state k) (has_risen (time_at c.args.expected.now k) c.args.cycle) in
    let within : out < length now = omega (arith, c.loop-out-test.true, c.loop-out.invariant.count, c.requires.one_mark_each) in
    let value : c.stays_right.result ≡ (get_or old out false && right out) =
    c.stays_right.ensures
    ∙ ap (λ (z : Time). get_or now out false && beq (output_level c.args.sim.now.state out) (has_risen z c.args.cycle)) (same_within c.args.expected.now out _ Never c.loop-out-test.true)
    ∙ ap (λ z. z && right out) (c.loop-out.invariant.waits out (omega arith)) in
    record {
      done = marks_done old now right out c.stays_right.result within c.loop-out.invariant.done value;
      waits = marks_wait old now out c.stays_right.result c.loop-out.invariant.waits;
      count = length-set now out c.stays_right.result ∙ c.loop-out.invariant.count;
    }
