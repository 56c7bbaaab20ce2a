use Rattle.std.proofs.Common.{◌∙◌, ◌++◌, ap, codes, decimal}
use Rattle.rl_flow.proofs.Timed.{three_more}
use Rattle.rl_flow.proofs.order.put_activations.Goals as goal

pub returns : goal.returns
returns c =
    let one = c.extend_from_slice.new.self.items in
    three_more c.args.text.now.items one c.extend_from_slice-2.new.self.items c.extend_from_slice-3.new.self.items
    (codes "activations ") (decimal c.args.count) (codes "\n") c.in_ok-extend_from_slice.ensures.items
    (c.in_ok-extend_from_slice-2.ensures.items ∙ ap (λ z. one ++ z) (c.as_bytes.ensures.value ∙ c.format.ensures.text))
    c.in_ok-extend_from_slice-3.ensures.items
