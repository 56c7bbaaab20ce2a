-- One item of the walk.
use Rattle.std.proofs.Common.{◌≡◌, ℕ, suc, ◌+◌, ◌<◌, List, [], ◌∷◌, ◌++◌, length, drop, get_or, refl, sym, ap, subst, ◌∙◌, add-one, drop-cons}
use Rattle.std.specs.Prelude.{None}
use Rattle.net_model.specs.Formula.{Net}
use Rattle.refutation.specs.declared.item.Item.{Item}
use Rattle.refutation.specs.Cases.{Path, below}
use Rattle.tree_check.specs.Needed.{Asked, asked}
use Rattle.tree_check.specs.Valid.{Pair, outputs}
use Rattle.tree_check.specs.Verdict.{item_flaw, flawed}

pub flaw_of_outputs : (one other : Asked) (n m : Net) (k : ℕ) (path : Path) (i : Item) → one ≡ asked n k → other ≡ asked m k → None ≡ item_flaw (outputs one.network other.network one.place) path i →
    item_flaw (outputs n m k) path i ≡ None
flaw_of_outputs one other n m k path i e d h =
    sym (subst (λ (one : Asked). None ≡ item_flaw (outputs one.network m one.place) path i) e (subst (λ (other : Asked). None ≡ item_flaw (outputs one.network other.network one.place) path i) d h))

module _ (pair : Pair) (stack : List Path) (path : Path) (paths : List Path) (place n : ℕ) (items : List Item) (i : Item)
    (first : stack ≡ path ∷ paths) (lt : n < length items) (is : i ≡ get_or items n i) (none : item_flaw pair path i ≡ None) where
  here : drop n items ≡ i ∷ drop (n + 1) items
  here = rw add-one (drop-cons items n i lt ∙ ap (λ (j : Item). j ∷ drop (suc n) items) (sym is))

  pub past : flawed pair (below path i ++ paths) (place + 1) (drop (n + 1) items) ≡ flawed pair stack place (drop n items)
  past = rw (first, here, none) refl

  pub past_all : below path i ++ paths ≡ [] → None ≡ flawed pair stack place (drop n items)
  past_all e = sym (ap (λ (ps : List Path). flawed pair ps (place + 1) (drop (n + 1) items)) e) ∙ past

  pub past_to : (next : List Path) → next ≡ below path i ++ paths → flawed pair next (place + 1) (drop (n + 1) items) ≡ flawed pair stack place (drop n items)
  past_to next e = ap (λ (ps : List Path). flawed pair ps (place + 1) (drop (n + 1) items)) e ∙ past
