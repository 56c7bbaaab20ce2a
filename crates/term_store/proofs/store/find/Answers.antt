use Rattle.term_store.proofs.Push.{found}
use Rattle.term_store.proofs.store.find.Goals as goal

pub returns-in-Some : goal.returns-in-Some
returns-in-Some c =
    let f = found c.args.nodes.now.keys c.args.node c.in-Some.place c.in-Some.ensures.index in
    record { found = (f.3, f.0, f.1, f.2) }
