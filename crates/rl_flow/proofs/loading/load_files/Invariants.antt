use Rattle.std.proofs.Common.{◌≡◌, map}
use Rattle.rl_flow.specs.Words.{texts_of}
use Rattle.rl_flow.specs.Asked.{shelf_state, with_limits}
use Rattle.rl_flow.proofs.Loads.{HasLoaded}
use Rattle.rl_flow.proofs.loading.load_files.Given as goal

abbrev pub invariant-loop-place : goal.invariant-loop-place
invariant-loop-place g l =
    (g.S.Shelf.plan l.shelf ≡ g.S.Shelf.plan l.initial.shelf)
    × HasLoaded (shelf_state (g.S.Shelf.contents l.initial.shelf) (g.S.Shelf.faults l.initial.shelf) (g.S.Shelf.given l.initial.shelf))
    (shelf_state (g.S.Shelf.contents l.shelf) (g.S.Shelf.faults l.shelf) (g.S.Shelf.given l.shelf))
    (with_limits (texts_of l.names) l.limits) l.place (map (λ t. t.items) l.texts.items)
