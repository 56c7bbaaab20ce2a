-- The words of a form are one line.
use Rattle.std.proofs.Common.{◌≢◌, ℕ, true, List, [], ◌∷◌, ◌++◌, map, refl, ◌∙◌}
use Rattle.std.specs.Prelude.{◌≡◌, codes}
use Rattle.std.specs.List.{list_all}
use Rattle.std.proofs.lemmas.Bool.{and_from}
use Rattle.std.proofs.lemmas.List.Folds.{list_all-append}
use Rattle.rl_text.specs.Lines.{Word}
use Rattle.line_lang.specs.Printing.{stays, IsOneLine}
use Rattle.rl_text.specs.Writing.{name, number}
use Rattle.net_lang.specs.Grammar.{Expression, Never, Name, Min, Max, Lt, Inc, open_, comma, close, spelled}
use Rattle.net_lang.specs.Forms.{Form, Header, Inputs, Define, spelled_form}

stay_both : (xs ys : List Word) → list_all stays xs ≡ true → list_all stays ys ≡ true → list_all stays (xs ++ ys) ≡ true
stay_both xs ys h k = list_all-append stays xs ys ∙ and_from (list_all stays xs) (list_all stays ys) h k

stay_call : (w : List ℕ) (xs ys : List Word) → list_all stays xs ≡ true → list_all stays ys ≡ true → list_all stays ((name w ∷ open_ ∷ xs ++ comma ∷ ys) ++ close ∷ []) ≡ true
stay_call w xs ys h k = stay_both (name w ∷ open_ ∷ xs ++ comma ∷ ys) (close ∷ []) (stay_both (name w ∷ open_ ∷ xs) (comma ∷ ys) h k) refl

spelled_stays : (t : Expression) → list_all stays (spelled t) ≡ true
spelled_stays Never = refl
spelled_stays (Name t) = refl
spelled_stays (Min a b) = stay_call (codes "min") (spelled a) (spelled b) (spelled_stays a) (spelled_stays b)
spelled_stays (Max a b) = stay_call (codes "max") (spelled a) (spelled b) (spelled_stays a) (spelled_stays b)
spelled_stays (Lt a b) = stay_call (codes "lt") (spelled a) (spelled b) (spelled_stays a) (spelled_stays b)
spelled_stays (Inc a n) = stay_both (name (codes "inc") ∷ open_ ∷ spelled a) (comma ∷ number n ∷ close ∷ []) (spelled_stays a) refl

names_stay : (ns : List (List ℕ)) → list_all stays (map name ns) ≡ true
names_stay [] = refl
names_stay (n ∷ ns) = names_stay ns

form_stays : (x : Form) → list_all stays (spelled_form x) ≡ true
form_stays Header = refl
form_stays (Inputs ns) = names_stay ns
form_stays (Define k n t) = spelled_stays t

form_is_some : (x : Form) → spelled_form x ≢ []
form_is_some Header = λ e. cc
form_is_some (Inputs ns) = λ e. cc
form_is_some (Define k n t) = λ e. cc

pub one_line : (x : Form) → IsOneLine (spelled_form x)
one_line x = record { some = form_is_some x; stay = form_stays x }
