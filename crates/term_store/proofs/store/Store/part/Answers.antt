use Rattle.std.proofs.Common.{◌≡◌, ◌<◌, ◌↔◌, ℕ, true, false, length, subst, sym, ◌∙◌, ap}
use Rattle.std.specs.List.{slice_index_or}
use Rattle.term_store.specs.Reach.{IsReached}
use Rattle.term_store.specs.Compacted.{AreMoved}
use Rattle.term_store.proofs.Moved.{reached_have_operands, all_moved, roots_same, roots_within}
use Rattle.term_store.proofs.store.Store.part.Goals as goal

pub keep_marked-requires-clause-operands : goal.keep_marked-requires-clause-operands
keep_marked-requires-clause-operands c =
    let ns = c.args.self.now.nodes in
    let marks : (place : ℕ) → place < length ns → (slice_index_or c.deref.result.now place false ≡ true) ↔ IsReached ns c.args.roots.now place =
    subst (λ ms. (place : ℕ) → place < length ns → (slice_index_or ms place false ≡ true) ↔ IsReached ns c.args.roots.now place) (sym c.deref.ensures.value) c.in_ok-marks.ensures.marks in
    reached_have_operands ns c.args.roots.now c.deref.result.now c.rules.ensures.rules (ap length c.deref.ensures.value ∙ c.in_ok-marks.ensures.len) marks

pub returns-clause-nodes : goal.returns-clause-nodes
returns-clause-nodes c =
    let ns = c.args.self.now.nodes in
    let marks : (place : ℕ) → place < length ns → (slice_index_or c.deref.result.now place false ≡ true) ↔ IsReached ns c.args.roots.now place =
    subst (λ ms. (place : ℕ) → place < length ns → (slice_index_or ms place false ≡ true) ↔ IsReached ns c.args.roots.now place) (sym c.deref.ensures.value) c.in_ok-marks.ensures.marks in
    all_moved ns c.args.roots.now c.deref.result.now c.in_ok-kept.kept c.in_ok-kept.moved.items marks c.in_ok-kept.ensures.moved

pub returns-clause-terms : goal.returns-clause-terms
returns-clause-terms c =
    let ns = c.args.self.now.nodes in
    let marks : (place : ℕ) → place < length ns → (slice_index_or c.deref.result.now place false ≡ true) ↔ IsReached ns c.args.roots.now place =
    subst (λ ms. (place : ℕ) → place < length ns → (slice_index_or ms place false ≡ true) ↔ IsReached ns c.args.roots.now place) (sym c.deref.ensures.value) c.in_ok-marks.ensures.marks in
    let moved : AreMoved ns c.deref.result.now (length ns) c.in_ok-kept.kept c.deref-2.result.now =
    subst (AreMoved ns c.deref.result.now (length ns) c.in_ok-kept.kept) (sym c.deref-2.ensures.value) c.in_ok-kept.ensures.moved in
    roots_same ns c.args.roots.now c.deref.result.now c.in_ok-kept.kept c.deref-2.result.now _ c.requires.roots marks moved c.in_ok-places.ensures.places

pub returns-clause-within : goal.returns-clause-within
returns-clause-within c =
    let ns = c.args.self.now.nodes in
    let marks : (place : ℕ) → place < length ns → (slice_index_or c.deref.result.now place false ≡ true) ↔ IsReached ns c.args.roots.now place =
    subst (λ ms. (place : ℕ) → place < length ns → (slice_index_or ms place false ≡ true) ↔ IsReached ns c.args.roots.now place) (sym c.deref.ensures.value) c.in_ok-marks.ensures.marks in
    let moved : AreMoved ns c.deref.result.now (length ns) c.in_ok-kept.kept c.deref-2.result.now =
    subst (AreMoved ns c.deref.result.now (length ns) c.in_ok-kept.kept) (sym c.deref-2.ensures.value) c.in_ok-kept.ensures.moved in
    roots_within ns c.args.roots.now c.deref.result.now c.in_ok-kept.kept c.deref-2.result.now _ c.requires.roots marks moved c.in_ok-places.ensures.places
