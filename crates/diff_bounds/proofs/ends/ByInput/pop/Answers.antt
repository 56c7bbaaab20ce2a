use Rattle.std.proofs.Common.{ℕ, length, get_or, inl, inr, ap, sym, ◌∙◌}
use Rattle.std.proofs.lemmas.List.{with_items_is}
use Rattle.diff_bounds.proofs.Listed.{fewer_listed}
use Rattle.diff_bounds.proofs.ends.ByInput.pop.Goals as goal

pub returns-in-Some : goal.returns-in-Some
returns-in-Some c n end is listed =
    let s = c.args.self.now in
    let xs = c.put_number.new.numbers in
    let same = with_items_is s.lasts xs (c.put_number.auto.numbers ∙ c.deref_mut.ensures.len) in
    fewer_listed end c.args.edges.now c.args.edge n c.in-Some.last s _ listed
    (ap length same ∙ c.put_number.auto.numbers ∙ c.deref_mut.ensures.len ∙ s.lasts.ok.0)
    (ap (λ xs. get_or xs (end c.args.edge) 0) same ∙ ap (λ (k : ℕ). get_or xs k 0) is ∙ c.put_number.ensures.here)
    (λ l. elim (c.put_number.ensures.others l) [
      | inl q ↦ inl (q ∙ sym is)
      | inr i ↦ inr (ap (λ xs. get_or xs l 0) same ∙ i ∙ ap (λ xs. get_or xs l 0) c.deref_mut.ensures.value)
    ])
    c.in-Some.ensures.items
