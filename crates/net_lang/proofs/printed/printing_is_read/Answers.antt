use Rattle.net_model.specs.Text.{network_text}
use Rattle.net_lang.proofs.printed.printing_is_read.Goals as goal

pub returns : goal.returns
returns c = record {
  network = λ n m h s. c.one_network.ensures (network_text n) m n s (c.printing_spells.ensures n h);
  cause = λ n e h x. c.no_cause.ensures (network_text n) n e (c.printing_spells.ensures n h) x;
}
