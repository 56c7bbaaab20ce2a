-- What it is to check, by trees, that the outputs of two networks are equal.
use Rattle.std.specs.Prelude.{◌≡◌, ◌≢◌, ◌⊎◌, ℕ, ◌+◌, ◌<◌, List, [], ◌∷◌, ◌++◌, length, take, slice_get, codes, decimal, Some}
use Rattle.rl_time.specs.declared.time.Time.{Time}
use Rattle.net_model.specs.Formula.{Net}
use Rattle.net_model.specs.Rules.{names_of}
use Rattle.net_model.specs.Value.{space_time_function}
use Rattle.net_lang.specs.Spelling.{SpellsNetwork}
use Rattle.refutation.specs.declared.reader.rules.Rule.{Rule as TreeRule}
use Rattle.refutation.specs.declared.tree.NamedTree.{NamedTree}
use Rattle.refutation.specs.Outcome as trees
use Rattle.refutation.specs.Spelling.{SpellsTrees}
use Rattle.refutation.specs.Trees.{names_of as tree_names}
use Rattle.tree_check.specs.declared.fault.CheckFault.{CheckFault}
use Rattle.tree_check.specs.declared.fault.CheckFault.TheVariants as flaw
use Rattle.tree_check.specs.Valid.{Pair, outputs, IsValid}
use Rattle.tree_check.specs.Verdict.{verdict}
use Rattle.rl_jobs.specs.declared.fault.Fault.{Fault}
use Rattle.rl_jobs.specs.declared.fault.Fault.TheVariants as fault
use Rattle.rl_jobs.specs.Readings.{Both, EitherFault, Staged}
use Rattle.rl_jobs.specs.Sources.{IsNoNetwork}

-- ---- what the files spell

-- the texts of the files of two networks and of a file of trees
pub record ThreeTexts : Type 0 where
  pub first : List ℕ
  pub second : List ℕ
  pub trees : List ℕ

abbrev pub three_texts : List ℕ → List ℕ → List ℕ → ThreeTexts
three_texts first second trees = record { first = first; second = second; trees = trees }

-- two networks, and the trees that are to show that their outputs are equal
abbrev pub Claim : Type 0
Claim = (Net × Net) × List NamedTree

abbrev pub first_of : Claim → Net
first_of c = c.0.0

abbrev pub second_of : Claim → Net
second_of c = c.0.1

abbrev pub trees_of : Claim → List NamedTree
trees_of c = c.1

-- The bytes of the file of this number spell no trees: the fault is the rule that they break first, and its line. A bad byte breaks
-- the syntax before all else.
abbrev pub AreNoTrees : ℕ → List ℕ → Fault → Type 0
AreNoTrees file bytes f = (r : TreeRule) × (line : ℕ) × (f ≡ fault.Trees file r line) × trees.IsCause bytes (trees.error_of r line)

-- the first two texts spell these networks
abbrev pub SpellNetworks : ThreeTexts → Net × Net → Type 0
SpellNetworks = Both (λ texts. SpellsNetwork texts.first) (λ texts. SpellsNetwork texts.second)

-- the texts spell these networks and trees
abbrev pub SpellClaim : ThreeTexts → Claim → Type 0
SpellClaim = Both SpellNetworks (λ texts. SpellsTrees texts.trees)

-- one of the first two texts spells no network; where neither does, the fault is that of the first
abbrev pub AreNoNetworks : ThreeTexts → Fault → Type 0
AreNoNetworks = EitherFault (λ texts. SpellsNetwork texts.first) (λ texts. IsNoNetwork 1 texts.first) (λ texts. IsNoNetwork 2 texts.second)

-- one of the texts doesn't spell what it should; of several, the fault is that of the first
abbrev pub AreNoClaim : ThreeTexts → Fault → Type 0
AreNoClaim = EitherFault SpellNetworks AreNoNetworks (λ texts. AreNoTrees 3 texts.trees)

-- ---- what must agree between the files

-- The lists differ at this place, from 1, and at none before it. A place that only one of the lists has is a difference.
pub record DifferAt (a b : List (List ℕ)) (place : ℕ) : Type 0 where
  pub before : ℕ
  pub numbered : place ≡ before + 1
  pub same_before : take before a ≡ take before b
  pub differ : slice_get a before ≢ slice_get b before

-- the networks have the same inputs and the same outputs, in order, and there is a tree for each output, in their order
pub record Agree (c : Claim) : Type 0 where
  pub inputs : (first_of c).inputs ≡ (second_of c).inputs
  pub outputs : names_of (first_of c).outputs ≡ names_of (second_of c).outputs
  pub trees : tree_names (trees_of c) ≡ names_of (first_of c).outputs

-- the names of the inputs differ; or else those of the outputs; or else the trees are not those of the outputs
abbrev pub Disagree : Claim → Fault → Type 0
Disagree c f =
    ((place : ℕ) × (f ≡ fault.InputNames place) × DifferAt (first_of c).inputs (second_of c).inputs place)
    ⊎ (((first_of c).inputs ≡ (second_of c).inputs) × ((place : ℕ) × (f ≡ fault.OutputNames place) × DifferAt (names_of (first_of c).outputs) (names_of (second_of c).outputs) place))
    ⊎ (((first_of c).inputs ≡ (second_of c).inputs) × (names_of (first_of c).outputs ≡ names_of (second_of c).outputs) × (f ≡ fault.TreeNames) × (tree_names (trees_of c) ≢ names_of (first_of c).outputs))

-- ---- what is written

-- the line of an output whose tree is valid
abbrev pub accepted_line : List ℕ → List ℕ
accepted_line name = codes "accepted " ++ name ++ codes "\n"

-- the lines of such outputs, in order
abbrev pub accepted_lines : List (List ℕ) → List ℕ
accepted_lines [] = []
accepted_lines (name ∷ names) = accepted_line name ++ accepted_lines names

-- an item, from 0, and what is wrong with it
abbrev pub at_item : ℕ → List ℕ → List ℕ
at_item item reason = codes " item " ++ decimal item ++ codes " " ++ reason

abbrev pub reason_text : CheckFault → List ℕ
reason_text (flaw.Shape item) = at_item item (codes "shape")
reason_text (flaw.BadChain item fact) = at_item item (codes "bad-chain ") ++ decimal fact
reason_text (flaw.NotNegative item) = at_item item (codes "not-negative")
reason_text (flaw.NotDecided item side) = at_item item (codes "not-decided ") ++ decimal side
reason_text (flaw.Unequal item) = at_item item (codes "unequal")
reason_text (flaw.StillOpen item) = at_item item (codes "open")
reason_text flaw.NoMemory = []

-- the line of an output whose tree isn't valid
abbrev pub refused_line : List ℕ → CheckFault → List ℕ
refused_line name why = codes "refused " ++ name ++ reason_text why ++ codes "\n"

-- what is to be shown of the outputs at this place
abbrev pub claim_at : Claim → ℕ → Pair
claim_at c place = outputs (first_of c) (second_of c) place

-- each tree before this place is valid for the output at its own place
abbrev pub AreValidBefore : Claim → ℕ → Type 0
AreValidBefore c end = (place : ℕ) (t : NamedTree) → place < end → slice_get (trees_of c) place ≡ Some t → IsValid [] (claim_at c place) t.tree

-- All trees are valid, each for the output at its place; the outputs of the networks are equal at all times of the inputs, `never`
-- included; and the text says so of each output.
pub record AreAccepted (c : Claim) (text : List ℕ) : Type 0 where
  pub valid : AreValidBefore c (length (trees_of c))
  pub equal : (x : List Time) → length x ≡ length (first_of c).inputs → space_time_function (first_of c) x ≡ space_time_function (second_of c) x
  pub written : text ≡ accepted_lines (tree_names (trees_of c))

-- The tree at this place is not valid for the output there: this is its first fault. The trees before it are valid, and the text says so.
pub record AreRefused (c : Claim) (text : List ℕ) : Type 0 where
  pub place : ℕ
  pub tree : NamedTree
  pub why : CheckFault
  pub before : AreValidBefore c place
  pub at : slice_get (trees_of c) place ≡ Some tree
  pub fault_is : verdict [] (claim_at c place) tree.tree ≡ Some why
  pub written : text ≡ accepted_lines (tree_names (take place (trees_of c))) ++ refused_line tree.name why

-- the text by which checking these texts ends well
pub record IsAcceptedText (texts : ThreeTexts) (text : List ℕ) : Type 0 where
  pub claim : Claim
  pub read : SpellClaim texts claim
  pub agree : Agree claim
  pub is : AreAccepted claim text

-- the text by which checking these texts ends ill
pub record IsRefusedText (texts : ThreeTexts) (text : List ℕ) : Type 0 where
  pub claim : Claim
  pub read : SpellClaim texts claim
  pub agree : Agree claim
  pub is : AreRefused claim text

-- the texts spell networks and trees, whose names agree
abbrev pub CanBeChecked : ThreeTexts → Type 0
CanBeChecked texts = (c : Claim) × SpellClaim texts c × Agree c

-- the texts spell no networks and trees, or ones whose names disagree
abbrev pub AreNotChecked : ThreeTexts → Fault → Type 0
AreNotChecked = Staged SpellClaim AreNoClaim Disagree
