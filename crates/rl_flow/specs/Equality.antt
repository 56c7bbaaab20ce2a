-- What `compare` says of two networks.
use Rattle.std.specs.Prelude.{◌≡◌, ℕ, ◌+◌, ◌<◌, ◌≤◌, ◌^◌, List, [], ◌∷◌, ◌++◌, length, codes, decimal, slice_index_or}
use Rattle.rl_time.specs.declared.time.Time.{Time}
use Rattle.rl_time.specs.Text.{time_text}
use Rattle.net_model.specs.Formula.{Net}
use Rattle.net_model.specs.Rules.{names_of}
use Rattle.net_model.specs.Value.{space_time_function}
use Rattle.spike_eval.specs.Outputs.{output_function}
use Rattle.refutation.specs.declared.item.Item.{Item}
use Rattle.refutation.specs.declared.tree.NamedTree.{NamedTree}
use Rattle.refutation.specs.Spelling.{SpellsTrees}
use Rattle.refutation.specs.Text.{trees_text}
use Rattle.tree_check.specs.Valid.{outputs}
use Rattle.case_split.specs.Live.{opened}
use Rattle.case_split.specs.Verdicts.{IsDifference, IsUndecidedTree}
use Rattle.case_split.specs.Comparison.{AreEqualBefore, ShowEqual}
use Rattle.rl_jobs.specs.Values.{value_lines, value_line}
use Rattle.rl_jobs.specs.Pairs.{TwoTexts, SpellPair, HaveSameNames}

-- the name at a place of the outputs
abbrev pub output_name : Net → ℕ → List ℕ
output_name n k = slice_index_or (names_of n.outputs) k []

-- the lines of an output that differs: its name, a time for each input, and the two times of the output there
abbrev pub difference_text : Net → Net → ℕ → List Time → List ℕ
difference_text n m k times =
    codes "different " ++ output_name n k ++ codes "\n" ++ value_lines n.inputs times
    ++ value_line (codes "first") (output_function n k times) ++ value_line (codes "second") (output_function m k times)

-- the line of an output that isn't decided: its name, and how many cases were opened for it
abbrev pub undecided_text : Net → ℕ → ℕ → List ℕ
undecided_text n k cases = codes "undecided " ++ output_name n k ++ codes " " ++ decimal cases ++ codes "\n"

-- the text for two networks whose outputs are equal: it spells a tree for each output, in order, which shows it, of at most so many items
pub record SayEqual (budget : ℕ) (p : Net × Net) (text : List ℕ) : Type 0 where
  pub trees : List NamedTree
  pub shown : ShowEqual [] p.0 p.1 budget trees
  pub equal : (x : List Time) → length x ≡ length p.0.inputs → space_time_function p.0 x ≡ space_time_function p.1 x
  pub spelled : SpellsTrees text trees
  pub written : text ≡ trees_text trees

-- the text for two networks of which an output differs: the outputs before it are equal
pub record SayDifferent (p : Net × Net) (text : List ℕ) : Type 0 where
  pub place : ℕ
  pub within : place < length p.0.outputs
  pub before : AreEqualBefore [] p.0 p.1 place
  pub times : List Time
  pub differ : IsDifference [] (outputs p.0 p.1 place) times
  pub written : text ≡ difference_text p.0 p.1 place times

-- the text for two networks of which an output isn't decided, by so many cases: the outputs before it are equal
pub record SayUndecided (budget : ℕ) (p : Net × Net) (text : List ℕ) : Type 0 where
  pub place : ℕ
  pub within : place < length p.0.outputs
  pub before : AreEqualBefore [] p.0 p.1 place
  pub tree : List Item
  pub undecided : IsUndecidedTree [] (outputs p.0 p.1 place) budget tree
  pub written : text ≡ undecided_text p.0 place (opened tree)

-- the texts spell two networks of the same names, and the answer says this of them
pub record IsSaid (Says : Net × Net → List ℕ → Type 0) (texts : TwoTexts) (answer : List ℕ) : Type 0 where
  pub pair : Net × Net
  pub read : SpellPair texts pair
  pub same : HaveSameNames pair
  pub says : Says pair answer
