use Rattle.std.proofs.Common.{length, subst}
use Rattle.levels.specs.Recorded.{AreAssignsRecorded, AreRegsRecorded}
use Rattle.levels.proofs.Recording.{readers_from}
use Rattle.levels.proofs.mentions.readers_of.Goals as goal

pub returns-clause-readers : goal.returns-clause-readers
returns-clause-readers c =
    let m = c.args.m.now in
    let starts = c.in_ok-starts.starts.items in
    let a = c.record_assigns.new.tally in
    let b = c.record_regs.new.tally in
    readers_from m starts a b c.in_ok-lists.lists
    (subst (λ z. AreAssignsRecorded m z a (length m.assigns)) c.deref.ensures.value c.in_ok-record_assigns.ensures.assigns)
    c.in_ok-record_regs.ensures.kept
    (subst (λ z. AreRegsRecorded m z b (length m.regs)) c.deref-2.ensures.value c.in_ok-record_regs.ensures.regs)
    c.in_ok-lists.ensures.each
