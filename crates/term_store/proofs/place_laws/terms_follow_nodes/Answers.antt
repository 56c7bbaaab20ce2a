use Rattle.term_store.proofs.Counted.{follows}
use Rattle.term_store.proofs.place_laws.terms_follow_nodes.Goals as goal

pub returns : goal.returns
returns c = follows
