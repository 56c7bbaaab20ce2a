use Rattle.std.proofs.Common.{refl, ap, ◌∙◌}
use Rattle.net_model.specs.View.{formula}
use Rattle.net_lang.specs.LineRules.{with_equation}
use Rattle.net_lang.specs.Draft.{net_of}
use Rattle.net_lang.specs.Written.{expression}
use Rattle.net_lang.proofs.Drafts.{small, short, define_kept, made_is}
use Rattle.net_lang.proofs.reader.define.keep.Goals as goal

pub resolve-requires-clause-small : goal.resolve-requires-clause-small
resolve-requires-clause-small c = small c.args.draft.now c.requires.draft c.requires.lets

pub resolve-requires-clause-short : goal.resolve-requires-clause-short
resolve-requires-clause-short c = short c.args.draft.now c.args.target c.args.name.now (expression c.args.body.now) c.args.measured c.requires.draft c.requires.measured c.requires.allowed c.requires.keeps

pub returns : goal.returns
returns c =
    let d = c.args.draft.now in
    let t = expression c.args.body.now in
    let k = c.args.target in
    define_kept d k c.args.name.now t c.args.measured c.requires.draft c.requires.measured c.requires.allowed c.requires.keeps _ c.requires.formed
    (rw (← c.len.ensures, ← c.known_as-known.ensures) c.in_ok-add.ensures) c.stage_after-draft.ensures
    (c.in_ok-push.ensures d.inputs.items
    ∙ ap (with_equation k (net_of d)) (made_is d c.args.name.now _ t (formula c.in_ok-value.value) c.requires.draft c.in_ok-new.ensures c.in_ok-value.ensures _ c.new-binding.ensures))
    refl refl
