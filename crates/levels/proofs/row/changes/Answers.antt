use Rattle.std.proofs.Common.{subst}
use Rattle.levels.specs.Rows.{IsPulled}
use Rattle.std.proofs.Common.{get_or}
use Rattle.levels.proofs.Words.{changes_none}
use Rattle.levels.proofs.row.changes.Goals as goal

pub returns : goal.returns
returns c = λ i lt z.
    let words = c.args.words.now in
    let p = c.args.place in
    changes_none words c.args.start p i c.pull.result lt (subst (λ b. IsPulled (get_or words p 0) b c.pull.result) c.word_before.ensures c.pull.ensures) z
