use Rattle.std.proofs.Common.{◌≡◌, ◌-◌, ℕ, Some, ◌∙◌, subst, arith}
use Rattle.std.specs.Prelude.{slice_get}
use Rattle.std.proofs.lemmas.Option.{slice_get_read}
use Rattle.cycle_sim.specs.Operations.{Plan, HasTap}
use Rattle.cycle_sim.specs.declared.operation.Tap.{Tap}
use Rattle.cycle_sim.proofs.program.Program.last_tap.Goals as goal
use Rattle.cycle_sim.proofs.program.Program.last_tap.Goals.{Then-tap-bit}

there : (c : Then-tap-bit) → slice_get c.self.inside.taps.items (c.len-count.result - 1) ≡ Some c.index-tap.result.now
there c = slice_get_read c.self.inside.taps.items c.len-count.result (c.len-count.result - 1) c.index-tap.result.now (c.len-count.ensures ∙ c.self.inside.taps.ok.0)
    (omega (arith, c.if-count-eq0.false)) c.index-tap.ensures

pub returns-then-tap-bit-clause-tap : goal.returns-then-tap-bit-clause-tap
returns-then-tap-bit-clause-tap c =
    let s = c.self.inside in
    let k = c.len-count.result - 1 in
    let t : Tap = c.index-tap.result.now in
    let here : slice_get s.taps.items k ≡ Some (record { to = t.to; reg = t.reg; bit = t.bit }) = there c in
    let here' : slice_get s.taps.items k ≡ Some (record { to = t.to; reg = c.args.reg; bit = c.args.bit }) =
    subst (λ (b : ℕ). slice_get s.taps.items k ≡ Some (record { to = t.to; reg = c.args.reg; bit = b })) c.if-tap-bit.true
    (subst (λ (r : ℕ). slice_get s.taps.items k ≡ Some (record { to = t.to; reg = r; bit = t.bit })) c.if-tap-reg.true here) in
    subst (λ (p : Plan). HasTap p c.args.reg c.args.bit t.to) c.self.view_is (record { index = k; tap = here' })

pub returns-then-tap-bit-clause-few : goal.returns-then-tap-bit-clause-few
returns-then-tap-bit-clause-few c =
    let t : Tap = c.index-tap.result.now in
    let lt = (c.self.invariant.taps (c.len-count.result - 1) t (there c)).1 in
    omega (arith, lt, c.self.invariant.few)
