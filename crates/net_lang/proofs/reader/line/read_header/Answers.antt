use Rattle.std.proofs.Common.{refl}
use Rattle.net_lang.proofs.Verdicts.{header_kept}
use Rattle.net_lang.proofs.reader.line.read_header.Goals as goal

pub returns : goal.returns
returns c = header_kept c.args.draft.now _ c.requires.draft c.requires.allowed refl
