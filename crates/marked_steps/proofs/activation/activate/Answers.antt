use Rattle.std.proofs.Common.{◌≡◌, ◌<◌, refl, ap, ◌∙◌, sym, subst, inl, inr, arith, Some, length}
use Rattle.std.specs.Prelude.{slice_get}
use Rattle.std.proofs.lemmas.Option.{slice_get_read}
use Rattle.circuit.specs.Circuit.{Assignment}
use Rattle.circuit.specs.Meaning.{level, at, put}
use Rattle.marked_steps.specs.UpToDate.{IsUpToDate}
use Rattle.levels.proofs.Bits.{mark_either}
use Rattle.levels.proofs.Listed.{unmarked_less}
use Rattle.marked_steps.proofs.Activated.{activated, seen_change}
use Rattle.marked_steps.proofs.activation.activate.Goals as goal

pub returns-clause-up_to_date : goal.returns-clause-up_to_date
returns-clause-up_to_date c =
    let m = c.args.m.now in
    let s = c.args.levels.now in
    let k = c.args.k in
    let words' = c.mark_change.new.marks in
    let a : Assignment = c.index-assigns-k.result in
    let lt : k < length c.assigns.result.now = let q = ap (λ z. length z) c.assigns.ensures in omega (arith, c.requires.an_assign) in
    let there : slice_get m.assigns k ≡ Some a = rw (← c.assigns.ensures) (slice_get_read c.assigns.result.now _ k a refl lt c.index-assigns-k.is) in
    let v : c.level-level.result ≡ level s a.bit = c.level-level.ensures ∙ ap (λ b. level s b) c.bit.ensures in
    let e : c.put.new.self ≡ put s a.target (level s a.bit) =
    c.put.ensures ∙ (ap (λ t. put s t c.level-level.result) c.target-target.ensures ∙ ap (λ z. put s a.target z) v) in
    subst (λ z. IsUpToDate m z words') (sym e) (activated m c.rules.ensures.ordered s c.args.marks.now words' k a c.requires.levels
    c.requires.up_to_date there (c.mark_change.ensures.below k (omega arith) c.clear.ensures.cleared)
    (λ i ne u. sym (c.clear.ensures.others i ne) ∙ unmarked_less c.clear.new.self words' i c.mark_change.ensures.more (mark_either c.clear.new.self i) u)
    (seen_change m c.rules.ensures.ordered c.args.readers.now.starts.items c.args.readers.now.lists s words' k a (level s a.bit) there
    c.requires.readers (let q = c.mark_change.ensures.more.room in omega (arith, c.clear.ensures.room, c.requires.room))
    (λ w t. elim (c.mark_change.ensures.seen w (c.target-target.ensures ∙ t)) [
      | inl h ↦ inl (ap (λ z. at s z) (sym c.target-target.ensures) ∙ (sym c.at-before.ensures ∙ (h ∙ v)))
      | inr h ↦ inr h
    ])))
