use Rattle.std.proofs.Common.{◌≡◌, ℕ, ◌<◌, ◌∷◌, ◌++◌, [], get_or, refl, ap, subst, sym, ◌∙◌, arith}
use Rattle.diff_bounds.proofs.Listed.{held_listed}
use Rattle.diff_bounds.proofs.ends.ByInput.push_held.Goals as goal

pub returns-clause-listed : goal.returns-clause-listed
returns-clause-listed c n end is listed =
    let s = c.args.self.now in
    let k = c.args.k in
    let last : get_or c.as_slice.result.now k 0 ≡ get_or s.lasts.items (end c.args.edge) 0 = ap (λ xs. get_or xs k 0) c.as_slice.ensures.value ∙ ap (λ (k : ℕ). get_or s.lasts.items k 0) (sym is) in
    let there : k < n = let h = c.requires.there in let long = listed.inputs in omega (arith, h, long) in
    held_listed end c.args.edges.now c.args.edge n s _ listed (subst (λ (k : ℕ). k < n) (sym is) there) (c.in_ok-push.ensures.items ∙ ap (λ h. s.earlier.items ++ h ∷ []) last) refl c.requires.held
