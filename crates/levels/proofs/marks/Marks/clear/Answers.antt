use Rattle.std.proofs.Common.{◌*◌, ◌/◌, ◌%◌, ◌^◌, ◌-◌, ◌<◌, length, arith, ap, bit_and}
use Rattle.std.proofs.lemmas.List.{get_or_read}
use Rattle.levels.proofs.Bits.{mark_cleared, clear_stays}
use Rattle.levels.proofs.marks.Marks.clear.Goals as goal

pub returns-clause-cleared : goal.returns-clause-cleared
returns-clause-cleared c =
    let room : c.args.k < 64 * length c.self.inside.words.items = rw c.self.view_is c.requires in
    mark_cleared c.self.inside.words.items c.args.k _ room (ap (λ z. bit_and z (2 ^ 64 - 1 - 1 * 2 ^ (c.args.k % 64) % 2 ^ 64))
    (get_or_read c.self.inside.words.items (c.args.k / 64) _ (omega arith) c.index_mut.ensures.value 0))

pub returns-clause-others : goal.returns-clause-others
returns-clause-others c =
    let room : c.args.k < 64 * length c.self.inside.words.items = rw c.self.view_is c.requires in
    rw (← c.self.view_is) (λ i ne. clear_stays c.self.inside.words.items c.args.k _ i room (ap (λ z. bit_and z (2 ^ 64 - 1 - 1 * 2 ^ (c.args.k % 64) % 2 ^ 64))
    (get_or_read c.self.inside.words.items (c.args.k / 64) _ (omega arith) c.index_mut.ensures.value 0)) ne)
