use Rattle.std.proofs.Common.{◌*◌, ◌/◌, ◌%◌, ◌^◌, ◌<◌, length, arith, ap, bit_or}
use Rattle.std.proofs.lemmas.List.{get_or_read}
use Rattle.levels.proofs.Bits.{mark_set, set_stays, more_set}
use Rattle.levels.proofs.marks.Marks.mark.Goals as goal

pub returns-clause-more : goal.returns-clause-more
returns-clause-more c =
    let room : c.args.k < 64 * length c.self.inside.words.items = rw c.self.view_is c.requires in
    rw (← c.self.view_is) (more_set c.self.inside.words.items c.args.k _ room (ap (λ z. bit_or z (1 * 2 ^ (c.args.k % 64) % 2 ^ 64))
    (get_or_read c.self.inside.words.items (c.args.k / 64) _ (omega arith) c.index_mut.ensures.value 0)))

pub returns-clause-marked : goal.returns-clause-marked
returns-clause-marked c =
    let room : c.args.k < 64 * length c.self.inside.words.items = rw c.self.view_is c.requires in
    mark_set c.self.inside.words.items c.args.k _ room (ap (λ z. bit_or z (1 * 2 ^ (c.args.k % 64) % 2 ^ 64))
    (get_or_read c.self.inside.words.items (c.args.k / 64) _ (omega arith) c.index_mut.ensures.value 0))

pub returns-clause-others : goal.returns-clause-others
returns-clause-others c =
    let room : c.args.k < 64 * length c.self.inside.words.items = rw c.self.view_is c.requires in
    rw (← c.self.view_is) (λ i ne. set_stays c.self.inside.words.items c.args.k _ i room (ap (λ z. bit_or z (1 * 2 ^ (c.args.k % 64) % 2 ^ 64))
    (get_or_read c.self.inside.words.items (c.args.k / 64) _ (omega arith) c.index_mut.ensures.value 0)) ne)
