use Rattle.std.proofs.Common.{◌≡◌, ◌<◌, ◌↔◌, ◌∙◌, ℕ, true, false, length, map, ap, subst, sym, arith}
use Rattle.std.specs.List.{slice_index_or, AllByRecursion}
use Rattle.term_store.specs.Tree.{value}
use Rattle.term_store.specs.Trees.{IsPrefix, trees_at, plant}
use Rattle.term_store.specs.Places.{is_marked}
use Rattle.term_store.specs.Compacted.{trees_where}
use Rattle.simplify.specs.Simplified.{simplified}
use Rattle.term_store.specs.Reach.{IsReached}
use Rattle.term_store.specs.Subterms.{join_count, delay_count}
use Rattle.simplify.specs.Laws.{IsReduced}
use Rattle.simplify.specs.Passing.{AreMarked}
use Rattle.term_store.specs.Compacted.{new_place}
use Rattle.simplify.proofs.Passed.{reached_marked, roots_within, roots_simplified, values_kept, marked_trees}
use Rattle.simplify.proofs.Reduced.{all_reduced}
use Rattle.simplify.proofs.Fewer.{fewer_joins, fewer_delays}
use Rattle.simplify.proofs.simplifying.simplify.Goals as goal

pub simplify_marked-requires-clause-marked : goal.simplify_marked-requires-clause-marked
simplify_marked-requires-clause-marked c =
    let ns = c.args.store.now.nodes in
    let value = c.deref.ensures.value in
    let marks : (place : ℕ) → place < length ns → (slice_index_or c.deref.result.now place false ≡ true) ↔ IsReached ns c.args.roots.now place =
    subst (λ ms. (place : ℕ) → place < length ns → (slice_index_or ms place false ≡ true) ↔ IsReached ns c.args.roots.now place) (sym value) c.in_ok-marks.ensures.marks in
    let len = ap length value ∙ c.in_ok-marks.ensures.len in
    subst (λ nodes. AreMarked nodes c.deref.result.now) (sym c.reserve.ensures.nodes) (reached_marked ns c.args.roots.now c.deref.result.now c.rules.ensures.rules len c.requires.short marks)

pub returns-clause-nodes : goal.returns-clause-nodes
returns-clause-nodes c =
    let ns = c.args.store.now.nodes in
    let value = c.deref.ensures.value in
    let marks : (place : ℕ) → place < length ns → (slice_index_or c.deref.result.now place false ≡ true) ↔ IsReached ns c.args.roots.now place =
    subst (λ ms. (place : ℕ) → place < length ns → (slice_index_or ms place false ≡ true) ↔ IsReached ns c.args.roots.now place) (sym value) c.in_ok-marks.ensures.marks in
    let len = ap length value ∙ c.in_ok-marks.ensures.len in
    c.simplify_marked.ensures.planted ∙ ap (λ old. plant old (map simplified (trees_where old (is_marked c.deref.result.now) (length c.deref.result.now)))) c.reserve.ensures.nodes
    ∙ ap (λ ts. plant ns (map simplified ts)) (marked_trees ns c.args.roots.now c.deref.result.now len marks)

pub returns-clause-within : goal.returns-clause-within
returns-clause-within c =
    let ns = c.args.store.now.nodes in
    let value = c.deref.ensures.value in
    let marks : (place : ℕ) → place < length ns → (slice_index_or c.deref.result.now place false ≡ true) ↔ IsReached ns c.args.roots.now place =
    subst (λ ms. (place : ℕ) → place < length ns → (slice_index_or ms place false ≡ true) ↔ IsReached ns c.args.roots.now place) (sym value) c.in_ok-marks.ensures.marks in
    let len = ap length value ∙ c.in_ok-marks.ensures.len in
    roots_within ns c.simplify_marked.new.store.nodes c.args.roots.now c.deref.result.now _ _ c.requires.roots len marks c.simplify_marked.ensures.simplified
    (c.note_places.ensures.places ∙ ap (λ xs. map (λ t. new_place xs t.0) c.args.roots.now) c.deref-2.ensures.value)

pub returns-clause-terms : goal.returns-clause-terms
returns-clause-terms c =
    let ns = c.args.store.now.nodes in
    let value = c.deref.ensures.value in
    let marks : (place : ℕ) → place < length ns → (slice_index_or c.deref.result.now place false ≡ true) ↔ IsReached ns c.args.roots.now place =
    subst (λ ms. (place : ℕ) → place < length ns → (slice_index_or ms place false ≡ true) ↔ IsReached ns c.args.roots.now place) (sym value) c.in_ok-marks.ensures.marks in
    let len = ap length value ∙ c.in_ok-marks.ensures.len in
    let grown = subst (λ old. IsPrefix old c.simplify_marked.new.store.nodes) c.reserve.ensures.nodes c.simplify_marked.ensures.grown in
    let done = c.simplify_marked.ensures.simplified in
    let places = c.note_places.ensures.places ∙ ap (λ xs. map (λ t. new_place xs t.0) c.args.roots.now) c.deref-2.ensures.value in
    let is = roots_simplified ns c.simplify_marked.new.store.nodes c.args.roots.now c.deref.result.now _ _ c.requires.roots len grown marks done places in
    is

pub returns-clause-values : goal.returns-clause-values
returns-clause-values c =
    let ns = c.args.store.now.nodes in
    let marks_are = c.deref.ensures.value in
    let marks : (place : ℕ) → place < length ns → (slice_index_or c.deref.result.now place false ≡ true) ↔ IsReached ns c.args.roots.now place =
    subst (λ ms. (place : ℕ) → place < length ns → (slice_index_or ms place false ≡ true) ↔ IsReached ns c.args.roots.now place) (sym marks_are) c.in_ok-marks.ensures.marks in
    let len = ap length marks_are ∙ c.in_ok-marks.ensures.len in
    let grown = subst (λ old. IsPrefix old c.simplify_marked.new.store.nodes) c.reserve.ensures.nodes c.simplify_marked.ensures.grown in
    let done = c.simplify_marked.ensures.simplified in
    let places = c.note_places.ensures.places ∙ ap (λ xs. map (λ t. new_place xs t.0) c.args.roots.now) c.deref-2.ensures.value in
    let is = roots_simplified ns c.simplify_marked.new.store.nodes c.args.roots.now c.deref.result.now _ _ c.requires.roots len grown marks done places in
    λ x. ap (map (value x)) is ∙ values_kept ns c.args.roots.now x c.rules.ensures.rules c.requires.roots

pub returns-clause-reduced : goal.returns-clause-reduced
returns-clause-reduced c =
    let ns = c.args.store.now.nodes in
    let value = c.deref.ensures.value in
    let marks : (place : ℕ) → place < length ns → (slice_index_or c.deref.result.now place false ≡ true) ↔ IsReached ns c.args.roots.now place =
    subst (λ ms. (place : ℕ) → place < length ns → (slice_index_or ms place false ≡ true) ↔ IsReached ns c.args.roots.now place) (sym value) c.in_ok-marks.ensures.marks in
    let len = ap length value ∙ c.in_ok-marks.ensures.len in
    let grown = subst (λ old. IsPrefix old c.simplify_marked.new.store.nodes) c.reserve.ensures.nodes c.simplify_marked.ensures.grown in
    let done = c.simplify_marked.ensures.simplified in
    let places = c.note_places.ensures.places ∙ ap (λ xs. map (λ t. new_place xs t.0) c.args.roots.now) c.deref-2.ensures.value in
    let is = roots_simplified ns c.simplify_marked.new.store.nodes c.args.roots.now c.deref.result.now _ _ c.requires.roots len grown marks done places in
    subst (AllByRecursion IsReduced) (sym is) (all_reduced (trees_at ns c.args.roots.now))

pub returns-clause-fewer_joins : goal.returns-clause-fewer_joins
returns-clause-fewer_joins c =
    let ns = c.args.store.now.nodes in
    let value = c.deref.ensures.value in
    let marks : (place : ℕ) → place < length ns → (slice_index_or c.deref.result.now place false ≡ true) ↔ IsReached ns c.args.roots.now place =
    subst (λ ms. (place : ℕ) → place < length ns → (slice_index_or ms place false ≡ true) ↔ IsReached ns c.args.roots.now place) (sym value) c.in_ok-marks.ensures.marks in
    let len = ap length value ∙ c.in_ok-marks.ensures.len in
    let grown = subst (λ old. IsPrefix old c.simplify_marked.new.store.nodes) c.reserve.ensures.nodes c.simplify_marked.ensures.grown in
    let done = c.simplify_marked.ensures.simplified in
    let places = c.note_places.ensures.places ∙ ap (λ xs. map (λ t. new_place xs t.0) c.args.roots.now) c.deref-2.ensures.value in
    let is = roots_simplified ns c.simplify_marked.new.store.nodes c.args.roots.now c.deref.result.now _ _ c.requires.roots len grown marks done places in
    omega (arith, ap join_count is, fewer_joins (trees_at ns c.args.roots.now))

pub returns-clause-fewer_delays : goal.returns-clause-fewer_delays
returns-clause-fewer_delays c =
    let ns = c.args.store.now.nodes in
    let value = c.deref.ensures.value in
    let marks : (place : ℕ) → place < length ns → (slice_index_or c.deref.result.now place false ≡ true) ↔ IsReached ns c.args.roots.now place =
    subst (λ ms. (place : ℕ) → place < length ns → (slice_index_or ms place false ≡ true) ↔ IsReached ns c.args.roots.now place) (sym value) c.in_ok-marks.ensures.marks in
    let len = ap length value ∙ c.in_ok-marks.ensures.len in
    let grown = subst (λ old. IsPrefix old c.simplify_marked.new.store.nodes) c.reserve.ensures.nodes c.simplify_marked.ensures.grown in
    let done = c.simplify_marked.ensures.simplified in
    let places = c.note_places.ensures.places ∙ ap (λ xs. map (λ t. new_place xs t.0) c.args.roots.now) c.deref-2.ensures.value in
    let is = roots_simplified ns c.simplify_marked.new.store.nodes c.args.roots.now c.deref.result.now _ _ c.requires.roots len grown marks done places in
    omega (arith, ap delay_count is, fewer_delays (trees_at ns c.args.roots.now))
