use Rattle.std.proofs.Common.{◌∙◌, ◌≤◌, ◌+◌, ap, subst}
use Rattle.term_store.specs.Nodes.{with_node}
use Rattle.term_store.specs.Planting.{cost}
use Rattle.term_store.specs.Compacted.{moved_node}
use Rattle.term_store.proofs.Moved.{taken}
use Rattle.term_store.proofs.compact.keep_place.Goals as goal

pub returns : goal.returns
returns c =
    let node = c.moved_node.ensures.node ∙ ap (moved_node c.args.moved.now) c.node.ensures.at in
    record {
      after = taken c.args.store.now.nodes c.args.marks.now c.args.place c.args.kept.now c.keep.new.self c.args.moved.now c.keep.result c.requires.nodes c.requires.within c.requires.operands c.if-not-marks-place.false c.requires.before
          (c.keep.ensures.nodes ∙ ap (with_node c.args.kept.now.nodes) node) c.keep.ensures.within (c.keep.ensures.at ∙ node)
          (subst (λ n. c.args.kept.now.spare ≤ c.keep.new.self.spare + cost c.args.kept.now.nodes n) node c.keep.ensures.spare);
    }
