use Rattle.std.proofs.lemmas.Map.Text.{btree_map_updates_str}
use Rattle.rl_text.proofs.name_map.NameMap.add.Goals as goal

pub returns : goal.returns
returns g c = λ t. btree_map_updates_str c.args.name.now c.args.self.now.map c.insert.new.self _ c.in_ok-insert.ensures.updates t
