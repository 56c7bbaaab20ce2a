use Rattle.std.proofs.Common.{◌≡◌, ℕ, ◌<◌, ◌∷◌, ◌++◌, [], length, get_or, inl, inr, ap, subst, sym, ◌∙◌, arith}
use Rattle.std.proofs.lemmas.List.{with_items_is}
use Rattle.diff_bounds.proofs.Listed.{more_listed}
use Rattle.diff_bounds.proofs.ends.ByInput.push.Goals as goal

pub returns-clause-listed : goal.returns-clause-listed
returns-clause-listed c n end is listed =
    let s = c.args.self.now in
    let k = c.args.k in
    let xs = c.put_number.new.numbers in
    let same = with_items_is s.lasts xs (c.put_number.auto.numbers ∙ c.deref_mut.ensures.len) in
    let last : get_or c.as_slice.result.now k 0 ≡ get_or s.lasts.items (end c.args.edge) 0 = ap (λ xs. get_or xs k 0) c.as_slice.ensures.value ∙ ap (λ (k : ℕ). get_or s.lasts.items k 0) (sym is) in
    let there : k < n = let h = c.requires.there in let long = listed.inputs in omega (arith, h, long) in
    more_listed end c.args.edges.now c.args.edge n s _ listed (subst (λ (k : ℕ). k < n) (sym is) there) (c.in_ok-push.ensures.items ∙ ap (λ h. s.earlier.items ++ h ∷ []) last)
    (ap length same ∙ c.put_number.auto.numbers ∙ c.deref_mut.ensures.len ∙ s.lasts.ok.0)
    (ap (λ xs. get_or xs (end c.args.edge) 0) same ∙ ap (λ (k : ℕ). get_or xs k 0) is ∙ c.put_number.ensures.here)
    (λ l. elim (c.put_number.ensures.others l) [
      | inl q ↦ inl (q ∙ sym is)
      | inr i ↦ inr (ap (λ xs. get_or xs l 0) same ∙ i ∙ ap (λ xs. get_or xs l 0) c.deref_mut.ensures.value)
    ])
