use Rattle.std.proofs.Common.{◌≡◌, ◌∙◌, ℕ, Vec, Global, map, ap, refl, Some}
use Rattle.std.specs.Prelude.{slice_get, slice_index_or, string_bytes}
use Rattle.rl_flow.specs.Words.{texts_of}
use Rattle.rl_flow.specs.Asked.{shelf_state, with_limits}
use Rattle.rl_flow.specs.Outcome.{AreUnloaded}
use Rattle.rl_flow.proofs.Loads.{file, file_of, Steps, loads, loaded, asked_all, asked_end, unloaded, handed_on, map_more}
use Rattle.rl_flow.proofs.loading.load_files.Goals as goal

pub returns-in_err-text-clause-asked : goal.returns-in_err-text-clause-asked
returns-in_err-text-clause-asked g c =
    let before = shelf_state (g.S.Shelf.contents c.args.shelf.now) (g.S.Shelf.faults c.args.shelf.now) (g.S.Shelf.given c.args.shelf.now) in
    let mid = shelf_state (g.S.Shelf.contents c.loop-place.shelf) (g.S.Shelf.faults c.loop-place.shelf) (g.S.Shelf.given c.loop-place.shelf) in
    let now = shelf_state (g.S.Shelf.contents c.load_file.new.shelf) (g.S.Shelf.faults c.load_file.new.shelf) (g.S.Shelf.given c.load_file.new.shelf) in
    let ws = with_limits (texts_of c.args.names.now) c.args.limits.now in
    let w = file c.as_str.result.now (slice_index_or c.args.limits.now c.loop-place.place 0) in
    let steps : Steps mid now w.limit = record { files = c.load_file.ensures.kept; later = c.load_file.ensures.later; grows = c.load_file.ensures.grows; asked = c.load_file.ensures.asked } in
    let e : slice_get ws c.loop-place.place ≡ Some w =
    file_of c.args.names.now c.args.limits.now c.loop-place.place c.index-names-place.result c.as_str.result.now c.loop-place-test.true c.requires.each
    (c.as_str.ensures.value ∙ ap string_bytes c.index-names-place.is) in
    let texts = map (λ (t : Vec ℕ Global). t.items) c.loop-place.texts.items in
    asked_all before mid now ws c.loop-place.place texts w c.loop-place.invariant.1 steps e

pub returns-in_err-text-clause-cause : goal.returns-in_err-text-clause-cause
returns-in_err-text-clause-cause g c =
    let before = shelf_state (g.S.Shelf.contents c.args.shelf.now) (g.S.Shelf.faults c.args.shelf.now) (g.S.Shelf.given c.args.shelf.now) in
    let mid = shelf_state (g.S.Shelf.contents c.loop-place.shelf) (g.S.Shelf.faults c.loop-place.shelf) (g.S.Shelf.given c.loop-place.shelf) in
    let now = shelf_state (g.S.Shelf.contents c.load_file.new.shelf) (g.S.Shelf.faults c.load_file.new.shelf) (g.S.Shelf.given c.load_file.new.shelf) in
    let ws = with_limits (texts_of c.args.names.now) c.args.limits.now in
    let w = file c.as_str.result.now (slice_index_or c.args.limits.now c.loop-place.place 0) in
    let steps : Steps mid now w.limit = record { files = c.load_file.ensures.kept; later = c.load_file.ensures.later; grows = c.load_file.ensures.grows; asked = c.load_file.ensures.asked } in
    let e : slice_get ws c.loop-place.place ≡ Some w =
    file_of c.args.names.now c.args.limits.now c.loop-place.place c.index-names-place.result c.as_str.result.now c.loop-place-test.true c.requires.each
    (c.as_str.ensures.value ∙ ap string_bytes c.index-names-place.is) in
    let texts = map (λ (t : Vec ℕ Global). t.items) c.loop-place.texts.items in
    handed_on c.from_residual.result c.in_err-text.field-0.0 (AreUnloaded before now ws) c.from_residual.ensures.1
    (unloaded before mid now ws c.loop-place.place texts w c.in_err-text.field-0.0 c.loop-place.invariant.1 steps e c.in_err-text.ensures.cause)

pub returns-in_err-push-clause-asked : goal.returns-in_err-push-clause-asked
returns-in_err-push-clause-asked g c =
    let before = shelf_state (g.S.Shelf.contents c.args.shelf.now) (g.S.Shelf.faults c.args.shelf.now) (g.S.Shelf.given c.args.shelf.now) in
    let mid = shelf_state (g.S.Shelf.contents c.loop-place.shelf) (g.S.Shelf.faults c.loop-place.shelf) (g.S.Shelf.given c.loop-place.shelf) in
    let now = shelf_state (g.S.Shelf.contents c.load_file.new.shelf) (g.S.Shelf.faults c.load_file.new.shelf) (g.S.Shelf.given c.load_file.new.shelf) in
    let ws = with_limits (texts_of c.args.names.now) c.args.limits.now in
    let w = file c.as_str.result.now (slice_index_or c.args.limits.now c.loop-place.place 0) in
    let steps : Steps mid now w.limit = record { files = c.load_file.ensures.kept; later = c.load_file.ensures.later; grows = c.load_file.ensures.grows; asked = c.load_file.ensures.asked } in
    let e : slice_get ws c.loop-place.place ≡ Some w =
    file_of c.args.names.now c.args.limits.now c.loop-place.place c.index-names-place.result c.as_str.result.now c.loop-place-test.true c.requires.each
    (c.as_str.ensures.value ∙ ap string_bytes c.index-names-place.is) in
    let texts = map (λ (t : Vec ℕ Global). t.items) c.loop-place.texts.items in
    asked_all before mid now ws c.loop-place.place texts w c.loop-place.invariant.1 steps e

pub loop-place-preserved : goal.loop-place-preserved
loop-place-preserved g c =
    let before = shelf_state (g.S.Shelf.contents c.args.shelf.now) (g.S.Shelf.faults c.args.shelf.now) (g.S.Shelf.given c.args.shelf.now) in
    let mid = shelf_state (g.S.Shelf.contents c.loop-place.shelf) (g.S.Shelf.faults c.loop-place.shelf) (g.S.Shelf.given c.loop-place.shelf) in
    let now = shelf_state (g.S.Shelf.contents c.load_file.new.shelf) (g.S.Shelf.faults c.load_file.new.shelf) (g.S.Shelf.given c.load_file.new.shelf) in
    let ws = with_limits (texts_of c.args.names.now) c.args.limits.now in
    let w = file c.as_str.result.now (slice_index_or c.args.limits.now c.loop-place.place 0) in
    let steps : Steps mid now w.limit = record { files = c.load_file.ensures.kept; later = c.load_file.ensures.later; grows = c.load_file.ensures.grows; asked = c.load_file.ensures.asked } in
    let e : slice_get ws c.loop-place.place ≡ Some w =
    file_of c.args.names.now c.args.limits.now c.loop-place.place c.index-names-place.result c.as_str.result.now c.loop-place-test.true c.requires.each
    (c.as_str.ensures.value ∙ ap string_bytes c.index-names-place.is) in
    let texts = map (λ (t : Vec ℕ Global). t.items) c.loop-place.texts.items in
    let more = ap (map (λ (t : Vec ℕ Global). t.items)) c.in_ok-push.ensures.items ∙ map_more (λ (t : Vec ℕ Global). t.items) c.loop-place.texts.items c.in_ok-text.text in (
      c.load_file.ensures.planned ∙ c.loop-place.invariant.0,
      loads before mid now ws c.loop-place.place texts w c.in_ok-text.text.items c.loop-place.invariant.1 steps e c.in_ok-text.ensures.text _ _ refl more,
    )

pub returns-clause-asked : goal.returns-clause-asked
returns-clause-asked g c =
    asked_end (shelf_state (g.S.Shelf.contents c.args.shelf.now) (g.S.Shelf.faults c.args.shelf.now) (g.S.Shelf.given c.args.shelf.now))
    (shelf_state (g.S.Shelf.contents c.loop-place.shelf) (g.S.Shelf.faults c.loop-place.shelf) (g.S.Shelf.given c.loop-place.shelf))
    (with_limits (texts_of c.args.names.now) c.args.limits.now) c.loop-place.place (map (λ (t : Vec ℕ Global). t.items) c.loop-place.texts.items) c.loop-place.invariant.1

pub returns-clause-texts : goal.returns-clause-texts
returns-clause-texts g c =
    loaded (shelf_state (g.S.Shelf.contents c.args.shelf.now) (g.S.Shelf.faults c.args.shelf.now) (g.S.Shelf.given c.args.shelf.now))
    (shelf_state (g.S.Shelf.contents c.loop-place.shelf) (g.S.Shelf.faults c.loop-place.shelf) (g.S.Shelf.given c.loop-place.shelf))
    c.args.names.now c.args.limits.now c.loop-place.place (map (λ (t : Vec ℕ Global). t.items) c.loop-place.texts.items) c.loop-place.invariant.1 c.requires.each c.loop-place-test.false
