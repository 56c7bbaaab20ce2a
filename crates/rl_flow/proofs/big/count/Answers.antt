use Rattle.std.proofs.Common.{◌≡◌, ◌∙◌, ℕ, List, length, ap, sym, refl}
use Rattle.rl_time.specs.declared.time.Time.{Time}
use Rattle.net_model.specs.Formula.{Net}
use Rattle.net_model.specs.Value.{space_time_function}
use Rattle.big_input.specs.Generated.{big_network, big_times}
use Rattle.rl_flow.specs.Counted.{counts_of, big_counts}
use Rattle.rl_flow.proofs.Counting.{counts_right}
use Rattle.rl_flow.proofs.big.count.Goals as goal

pub returns : goal.returns
unfolding big_counts
returns c =
    let n = c.args.n in
    let net = c.in_ok-network.network in
    let x = c.in_ok-network.times.items in
    let values = c.in_ok-values.values.items in
    let m = c.in_ok-module.module in
    let network_is : net ≡ big_network n = c.in_ok-network.ensures.network in
    let times_are : x ≡ big_times n = c.in_ok-network.ensures.times in
    let one_each : length x ≡ length net.inputs = ap (λ z. length z) times_are ∙ c.big_times_are_early.ensures.count n ∙ ap (λ (z : Net). length z.inputs) (sym network_is) in
    let values_are : values ≡ space_time_function net x = c.in_ok-values.ensures ∙ ap (λ (z : List Time). space_time_function net z) c.deref.ensures.value in
    counts_right n 63 _ _ _ _ _ net x values c.deref-2.result.now c.deref-3.result.now m refl c.in_ok-module.ensures.right one_each values_are c.deref-2.ensures.value c.deref-3.ensures.value
    (ap (λ (z : List (List ℕ)). length z) c.wires.ensures) c.register_bits.ensures (ap (λ (z : List (List ℕ)). length z) c.outputs.ensures) c.in_ok-shown.ensures
    ∙ ap (λ (z : Net). counts_of n z x) network_is
    ∙ ap (λ (z : List Time). counts_of n (big_network n) z) times_are
