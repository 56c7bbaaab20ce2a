use Rattle.std.proofs.Common.{◌∙◌, ◌-◌, ap, sym, length, string_bytes}
use Rattle.std.proofs.lemmas.List.{take-map}
use Rattle.rl_flow.specs.Words.{times_of}
use Rattle.rl_flow.proofs.words.times_before.Goals as goal

pub returns : goal.returns
returns c = c.read_times.ensures ∙ ap (λ z. times_of z) (sym (take-map string_bytes (length c.args.words.now - 2) c.args.words.now))
