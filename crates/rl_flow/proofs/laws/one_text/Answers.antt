use Rattle.rl_flow.proofs.OneText.{one_text}
use Rattle.rl_flow.proofs.laws.one_text.Goals as goal

pub returns : goal.returns
returns c =
    one_text (record {
      modules = c.one_module_text.ensures;
      values = c.one_value_text.ensures;
      networks = c.one_synthesis_text.ensures;
      simplified = c.one_simplified_text.ensures;
      windows = c.one_window_text.ensures;
      levels = c.one_level_text.ensures;
      orders = c.one_order_text.ensures;
      accepted = c.one_check_text.ensures.accepted;
      refused = c.one_check_text.ensures.refused;
    })
