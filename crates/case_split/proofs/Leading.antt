-- Items so far, which lead to the paths that are pending.
use Rattle.std.proofs.Common.{◌≡◌, ◌∙◌, ap, add-one, zero, suc, ◌+◌, ℕ, List, [], ◌∷◌, ◌++◌, length, refl, sym, subst, append_assoc, inr, replicate}
use Rattle.std.proofs.lemmas.List.{append-nil}
use Rattle.refutation.specs.declared.item.Item.{Item}
use Rattle.refutation.specs.declared.item.Item.TheVariants as item
use Rattle.refutation.specs.Cases.{Path, below, EachOnPath, OneOnPath}

-- with items for the pending paths, P holds of each item
abbrev pub LeadsTo : (Path → Item → Type 0) → List Path → List Item → List Path → Type 0
LeadsTo P paths items pending = (rest : List Item) → EachOnPath P pending rest → EachOnPath P paths (items ++ rest)

-- where P holds of one item for the pending paths, it holds of one
abbrev pub FindsIn : (Path → Item → Type 0) → List Path → List Item → List Path → Type 0
FindsIn P paths items pending = (rest : List Item) → OneOnPath P pending rest → OneOnPath P paths (items ++ rest)

pub leads_more : (P : Path → Item → Type 0) (paths : List Path) (items : List Item) (path : Path) (later : List Path) (i : Item) → LeadsTo P paths items (path ∷ later) → P path i
    → LeadsTo P paths (items ++ i ∷ []) (below path i ++ later)
leads_more P paths items path later i leads p rest h = subst (λ (all : List Item). EachOnPath P paths all) (sym (append_assoc items (i ∷ []) rest)) (leads (i ∷ rest) (p, h))

pub finds_more : (P : Path → Item → Type 0) (paths : List Path) (items : List Item) (path : Path) (later : List Path) (i : Item) → FindsIn P paths items (path ∷ later)
    → FindsIn P paths (items ++ i ∷ []) (below path i ++ later)
finds_more P paths items path later i finds rest h = subst (λ (all : List Item). OneOnPath P paths all) (sym (append_assoc items (i ∷ []) rest)) (finds (i ∷ rest) (inr h))

pub leads_end : (P : Path → Item → Type 0) (paths : List Path) (items : List Item) → LeadsTo P paths items [] → EachOnPath P paths items
leads_end P paths items leads = subst (λ (all : List Item). EachOnPath P paths all) (append-nil items) (leads [] tt)

-- open items for all pending paths
pub open_items : (P : Path → Item → Type 0) → ((path : Path) → P path item.Unsettled) → (paths : List Path) → EachOnPath P paths (replicate (length paths) item.Unsettled)
open_items P h [] = tt
open_items P h (path ∷ paths) = (h path, open_items P h paths)

-- one open item more
open_last : (n : ℕ) → replicate n item.Unsettled ++ item.Unsettled ∷ [] ≡ replicate (suc n) item.Unsettled
open_last zero = refl
open_last (suc n) = ap (λ (items : List Item). item.Unsettled ∷ items) (open_last n)

pub one_open_more : (items old new : List Item) (n : ℕ) → new ≡ old ++ item.Unsettled ∷ [] → old ≡ items ++ replicate n item.Unsettled → new ≡ items ++ replicate (n + 1) item.Unsettled
one_open_more items old new n more so_far =
    rw add-one (more ∙ (ap (λ (old : List Item). old ++ item.Unsettled ∷ []) so_far
    ∙ (append_assoc items (replicate n item.Unsettled) (item.Unsettled ∷ []) ∙ ap (λ (open_ones : List Item). items ++ open_ones) (open_last n))))
