-- How the lets go on with the stream.
use Rattle.std.proofs.Common.{◌≡◌, ℕ, suc, ◌+◌, ◌*◌, List, [], ◌∷◌, ◌++◌, codes, ap, ◌∙◌, arith, sym, subst, add-one}
use Rattle.net_model.specs.Formula.{Equation}
use Rattle.big_input.specs.Stream.{state}
use Rattle.big_input.specs.Generated.{numbered, equation, drawn_body, let_at, lets_below}

-- three draws more
pub drawn_more : (s d d' k : ℕ) → d ≡ state s (3 * k) → d' ≡ state d 3 → d' ≡ state s (3 * (k + 1))
drawn_more s d d' k e f =
    let three : suc (suc (suc (3 * k))) ≡ 3 * (k + 1) = omega arith in
    f ∙ ap (λ z. state z 3) e ∙ ap (state s) three

-- one let more
pub lets_more : (s d k : ℕ) (old new : List Equation) (e : Equation) → d ≡ state s (3 * k) → old ≡ lets_below s k → e ≡ equation (numbered (codes "n") k) (drawn_body d k) → new ≡ old ++ e ∷ [] → new ≡ lets_below s (k + 1)
lets_more s d k old new e p q r t =
    let here : e ≡ let_at s k = r ∙ ap (λ z. equation (numbered (codes "n") k) (drawn_body z k)) p in
    subst (λ z. new ≡ lets_below s z) (sym (add-one k)) (t ∙ ap (λ xs. xs ++ e ∷ []) q ∙ ap (λ x. lets_below s k ++ x ∷ []) here)
