use Rattle.std.proofs.Common.{ap, ◌∙◌}
use Rattle.verilog_read.specs.Scope.{Names, find}
use Rattle.verilog_read.proofs.Scopes.{in_map}
use Rattle.verilog_read.proofs.scope.Scope.get.Goals as goal

pub returns-in_default : goal.returns-in_default
returns-in_default c =
    c.copied.ensures ∙ (c.get.ensures.value ∙ (in_map c.self.inside.map c.args.name.now ∙ ap (λ (ns : Names). find ns c.args.name.now) c.self.view_is))
