-- The lines of a printing, and the words of each.
use Rattle.std.proofs.Common.{◌≢◌, ℕ, ℤ, suc, true, List, [], ◌∷◌, ◌++◌, map, refl, ◌∙◌}
use Rattle.std.specs.Prelude.{◌≡◌, pos, negsuc, codes, decimal, flat_map}
use Rattle.std.specs.List.{list_all}
use Rattle.std.proofs.lemmas.Bool.{and_from}
use Rattle.std.proofs.lemmas.List.Folds.{list_all-append}
use Rattle.rl_text.specs.Lines.{Word}
use Rattle.rl_text.specs.Writing.{name, number, sign}
use Rattle.line_lang.specs.Printing.{stays, IsOneLine}
use Rattle.refutation.specs.declared.item.Fact.{Fact as LeafFact}
use Rattle.refutation.specs.declared.item.Item.{Item}
use Rattle.refutation.specs.declared.item.Item.TheVariants as item
use Rattle.refutation.specs.declared.tree.NamedTree.{NamedTree}
use Rattle.refutation.specs.declared.reader.form.Difference.{Difference}
use Rattle.refutation.specs.Forms.{Form, Header, Begin, Split, Leaf, Fact, Closed, Open, End}

-- ---- the lines

abbrev pub difference : ℕ → ℕ → ℤ → Difference
difference i j w = record { from = i; to = j; bound = w }

abbrev pub fact_form : LeafFact → Form
fact_form f = Fact (difference f.from f.to f.bound) f.chain

abbrev pub item_forms : Item → List Form
item_forms (item.Split i j w) = Split (difference i j w) ∷ []
item_forms (item.Leaf facts) = Leaf ∷ map fact_form facts
item_forms (item.Closed chain) = Closed chain ∷ []
item_forms item.Unsettled = Open ∷ []

abbrev pub tree_forms : NamedTree → List Form
tree_forms t = Begin t.name ∷ flat_map item_forms t.tree ++ End ∷ []

abbrev pub forms : List NamedTree → List Form
forms ts = Header ∷ flat_map tree_forms ts

-- ---- the words of a line

abbrev pub decimal_word : ℕ → Word
decimal_word n = number (decimal n)

abbrev pub bound_words : ℤ → List Word
bound_words (pos n) = decimal_word n ∷ []
bound_words (negsuc n) = sign (codes "-") ∷ decimal_word (suc n) ∷ []

abbrev pub difference_words : Difference → List Word
difference_words d = decimal_word d.from ∷ decimal_word d.to ∷ bound_words d.bound

abbrev pub chain_words : List ℕ → List Word
chain_words chain = map decimal_word chain

abbrev pub spelled_form : Form → List Word
spelled_form Header = name (codes "racetree") ∷ number (codes "1") ∷ []
spelled_form (Begin n) = name (codes "tree") ∷ name n ∷ []
spelled_form (Split d) = name (codes "split") ∷ difference_words d
spelled_form Leaf = name (codes "leaf") ∷ []
spelled_form (Fact d chain) = name (codes "fact") ∷ difference_words d ++ sign (codes ":") ∷ chain_words chain
spelled_form (Closed chain) = name (codes "closed") ∷ chain_words chain
spelled_form Open = name (codes "open") ∷ []
spelled_form End = name (codes "end") ∷ []

-- ---- they are one line

chain_stays : (chain : List ℕ) → list_all stays (chain_words chain) ≡ true
chain_stays [] = refl
chain_stays (k ∷ chain) = chain_stays chain

bound_stays : (w : ℤ) → list_all stays (bound_words w) ≡ true
bound_stays (pos n) = refl
bound_stays (negsuc n) = refl

form_stays : (x : Form) → list_all stays (spelled_form x) ≡ true
form_stays Header = refl
form_stays (Begin n) = refl
form_stays (Split d) = bound_stays d.bound
form_stays Leaf = refl
form_stays (Fact d chain) = list_all-append stays (bound_words d.bound) (sign (codes ":") ∷ chain_words chain) ∙ and_from (list_all stays (bound_words d.bound)) (list_all stays (chain_words chain)) (bound_stays d.bound) (chain_stays chain)
form_stays (Closed chain) = chain_stays chain
form_stays Open = refl
form_stays End = refl

form_is_some : (x : Form) → spelled_form x ≢ []
form_is_some Header = λ e. cc
form_is_some (Begin n) = λ e. cc
form_is_some (Split d) = λ e. cc
form_is_some Leaf = λ e. cc
form_is_some (Fact d chain) = λ e. cc
form_is_some (Closed chain) = λ e. cc
form_is_some Open = λ e. cc
form_is_some End = λ e. cc

pub one_line : (x : Form) → IsOneLine (spelled_form x)
one_line x = record { some = form_is_some x; stay = form_stays x }
