use Rattle.std.proofs.Common.{sym, ◌∙◌}
use Rattle.net_lang.specs.Written.{expression}
use Rattle.net_lang.proofs.Drafts.{small, rule_is}
use Rattle.net_lang.proofs.reader.define.read_define.Goals as goal

pub measure-measured-requires : goal.measure-measured-requires
measure-measured-requires c = small c.args.draft.now c.requires.draft c.requires.lets

pub returns-in-Some : goal.returns-in-Some
returns-in-Some c =
    let m = c.measure-measured.ensures in
    sym (rule_is c.args.draft.now c.args.target c.args.name.now (expression c.args.body.now) c.measure-measured.result c.requires.draft (record { known = m.known; joins = m.joins; delays = m.delays; span = m.span })) ∙ sym c.judge.ensures ∙ c.in-Some.is

pub keep-requires-clause-keeps : goal.keep-requires-clause-keeps
keep-requires-clause-keeps c =
    let m = c.measure-measured.ensures in
    sym (rule_is c.args.draft.now c.args.target c.args.name.now (expression c.args.body.now) c.measure-measured.result c.requires.draft (record { known = m.known; joins = m.joins; delays = m.delays; span = m.span })) ∙ sym c.judge.ensures ∙ c.in_default.is

pub returns : goal.returns
returns c =
    let m = c.measure-measured.ensures in (
      sym (rule_is c.args.draft.now c.args.target c.args.name.now (expression c.args.body.now) c.measure-measured.result c.requires.draft (record { known = m.known; joins = m.joins; delays = m.delays; span = m.span })) ∙ sym c.judge.ensures ∙ c.in_default.is,
      c.in_ok-keep.ensures,
    )
