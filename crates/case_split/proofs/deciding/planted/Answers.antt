use Rattle.case_split.proofs.Tasks.{is_part}
use Rattle.case_split.proofs.deciding.planted.Goals as goal

pub returns-clause-part : goal.returns-clause-part
returns-clause-part c =
    is_part c.args.first.now c.args.second.now c.args.out c.build.new.self.nodes c.build-2.new.self.nodes c.in_ok-part.part.nodes c.in_ok-first_places.first_places.items c.in_ok-second_places.second_places.items c.in_ok-part.places.items
    c.index.result.now c.index-2.result.now c.index-3.result.now c.index-4.result.now
    c.in_ok-first_places.ensures.terms c.in_ok-first_places.ensures.within c.index.ensures c.requires.first_has c.in_ok-second_places.ensures.grown
    c.in_ok-second_places.ensures.terms c.index-2.ensures c.requires.second_has
    c.in_ok-part.ensures.nodes c.in_ok-part.ensures.terms c.in_ok-part.ensures.within c.index-3.ensures c.index-4.ensures
