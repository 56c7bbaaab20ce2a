-- What check answers: the first fault of a tree that isn't valid, in its order.
use Rattle.std.specs.Prelude.{◌≡◌, ℕ, zero, suc, ◌+◌, Bool, true, false, not, if◌then◌else◌, List, [], ◌∷◌, ◌++◌, length, Option, Some, None, Result, Ok, Err}
use Rattle.net_model.specs.declared.assume.Assume.{Assume}
use Rattle.refutation.specs.declared.item.Item.{Item}
use Rattle.refutation.specs.declared.item.Item.TheVariants as item
use Rattle.refutation.specs.declared.item.Fact.{Fact}
use Rattle.refutation.specs.Path.{is_negative}
use Rattle.refutation.specs.Cases.{Path, below}
use Rattle.tree_check.specs.declared.fault.Flaw.{Flaw}
use Rattle.tree_check.specs.declared.fault.Flaw.TheVariants as flaw
use Rattle.tree_check.specs.declared.fault.CheckFault.{CheckFault}
use Rattle.tree_check.specs.declared.fault.CheckFault.TheVariants as fault
use Rattle.tree_check.specs.declared.form.Form.{Form}
use Rattle.tree_check.specs.declared.form.Form.TheVariants.{Never, Plus}
use Rattle.tree_check.specs.Forms.{Known, compared, output_form, is_decided}
use Rattle.tree_check.specs.Valid.{Pair, is_right, listed, names_inputs, root}

abbrev pub is_yes : Option Bool → Bool
is_yes (Some answer) = answer
is_yes None = false

-- the test of AreEqualForms
abbrev pub are_equal_forms : Known → Form → Form → Bool
are_equal_forms known Never Never = true
are_equal_forms known (Plus i c) (Plus j d) = if is_yes (compared known i c j d) then is_yes (compared known j d i c) else false
are_equal_forms known f g = false

-- the first fact that isn't right, where the first of them has the number n
abbrev pub bad_fact : Path → ℕ → List Fact → Option ℕ
bad_fact path n [] = None
bad_fact path n (f ∷ facts) = if is_right path f then bad_fact path (n + 1) facts else Some n

-- the flaw, where the test fails
abbrev pub unless : Bool → Flaw → Option Flaw
unless test f = if test then None else Some f

abbrev pub forms_flaw : Known → Form → Form → Option Flaw
forms_flaw known f g =
    if not (is_decided f) then Some (flaw.NotDecided 1)
    else (if not (is_decided g) then Some (flaw.NotDecided 2)
    else unless (are_equal_forms known f g) flaw.Unequal)

abbrev pub or_bad : Option ℕ → Option Flaw → Option Flaw
or_bad (Some n) found = Some (flaw.BadChain n)
or_bad None found = found

-- what is wrong with an item on its path
abbrev pub item_flaw : Pair → Path → Item → Option Flaw
item_flaw pair path (item.Split i j w) = None
item_flaw pair path (item.Leaf facts) =
    or_bad (bad_fact path 0 facts)
    (forms_flaw (listed facts) (output_form (listed facts) pair.first pair.place) (output_form (listed facts) pair.second pair.place))
item_flaw pair path (item.Closed chain) = unless (is_negative path chain) flaw.NotNegative
item_flaw pair path item.Unsettled = Some flaw.StillOpen

-- how many subtrees are below an item
abbrev pub subtrees : Item → ℕ
subtrees (item.Split i j w) = 2
subtrees (item.Leaf facts) = 0
subtrees (item.Closed chain) = 0
subtrees item.Unsettled = 0

-- the place of the first item that can't be there, or that names no input of n, where this many subtrees are pending;
-- where a subtree is missing at the end, the end's place
abbrev pub misshapen : ℕ → ℕ → ℕ → List Item → Option ℕ
misshapen n zero place [] = None
misshapen n (suc more) place [] = Some place
misshapen n zero place (item ∷ items) = Some place
misshapen n (suc more) place (item ∷ items) = if names_inputs n item then misshapen n (subtrees item + more) (place + 1) items else Some place

-- what is wrong, with the item's place
abbrev pub placed : ℕ → Flaw → CheckFault
placed place (flaw.BadChain n) = fault.BadChain place n
placed place flaw.NotNegative = fault.NotNegative place
placed place (flaw.NotDecided side) = fault.NotDecided place side
placed place flaw.Unequal = fault.Unequal place
placed place flaw.StillOpen = fault.StillOpen place

abbrev pub first_fault : ℕ → Option Flaw → Option CheckFault → Option CheckFault
first_fault place (Some f) rest = Some (placed place f)
first_fault place None rest = rest

-- the first item with a flaw, where trees on these paths are pending
abbrev pub flawed : Pair → List Path → ℕ → List Item → Option CheckFault
flawed pair [] place items = None
flawed pair (path ∷ paths) place [] = None
flawed pair (path ∷ paths) place (item ∷ items) = first_fault place (item_flaw pair path item) (flawed pair (below path item ++ paths) (place + 1) items)

abbrev pub or_misshapen : Option ℕ → Option CheckFault → Option CheckFault
or_misshapen (Some place) rest = Some (fault.Shape place)
or_misshapen None rest = rest

-- the first fault of a tree for two outputs under premises: the shape of all items before all else
abbrev pub verdict : List Assume → Pair → List Item → Option CheckFault
verdict premises pair items = or_misshapen (misshapen (length pair.first.inputs) 1 0 items) (flawed pair (root premises ∷ []) 0 items)

-- the answer is this verdict, or out of memory
abbrev pub IsVerdict : Result (Unit {0}) CheckFault → Option CheckFault → Type 0
IsVerdict (Ok u) v = v ≡ None
IsVerdict (Err fault.NoMemory) v = Unit {0}
IsVerdict (Err f) v = v ≡ Some f
