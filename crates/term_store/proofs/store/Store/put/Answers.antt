use Rattle.term_store.proofs.PutNode.{put_node}
use Rattle.term_store.proofs.store.Store.put.Goals as goal

pub returns-clause-planted : goal.returns-clause-planted
returns-clause-planted c =
    put_node c.args.self.now.nodes c.keep.new.self.nodes c.args.node c.keep.result c.rules.ensures.rules c.requires.over c.requires.places c.keep.ensures.nodes c.keep.ensures.within c.keep.ensures.at
