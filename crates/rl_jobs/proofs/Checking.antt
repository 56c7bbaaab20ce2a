-- Checking trees of two networks.
use Rattle.std.proofs.Common.{◌≡◌, ℕ, zero, suc, ◌+◌, ◌<◌, ◌≤◌, ◌⊎◌, List, [], ◌∷◌, length, take, refl, sym, ◌∙◌, ap, subst, arith, inl, inr, Some, None, Result, Ok, Err, append_assoc, append-nil}
use Rattle.std.specs.Prelude.{◌≢◌, ◌↔◌, ◌++◌, slice_get, IsErrAnd, IfErr}
use Rattle.std.proofs.lemmas.Bool.{cases_lt}
use Rattle.std.proofs.lemmas.List.{length-map}
use Rattle.rl_time.specs.declared.time.Time.{Time}
use Rattle.net_model.specs.declared.assume.Assume.{Assume}
use Rattle.net_model.specs.Value.{time_at, space_time_function}
use Rattle.spike_eval.specs.Outputs.{output_function}
use Rattle.spike_eval.specs.Premises.{NameInputs, AreEqualUnder}
use Rattle.net_model.specs.Formula.{Net}
use Rattle.net_lang.specs.Spelling.{SpellsNetwork}
use Rattle.refutation.specs.declared.reader.rules.Rule.{Rule as TreeRule}
use Rattle.refutation.specs.declared.reader.rules.Rule.TheVariants as rule
use Rattle.refutation.specs.declared.reader.error.TreeError.{TreeError}
use Rattle.refutation.specs.declared.reader.error.TreeError.TheVariants as error
use Rattle.refutation.specs.declared.item.Item.{Item}
use Rattle.refutation.specs.declared.tree.NamedTree.{NamedTree}
use Rattle.refutation.specs.Outcome as trees
use Rattle.refutation.specs.Spelling.{SpellsTrees}
use Rattle.tree_check.specs.Valid.{Pair, IsValid}
use Rattle.tree_check.specs.Verdict.{verdict}
use Rattle.refutation.specs.Trees.{names_of as tree_names}
use Rattle.rl_jobs.specs.declared.fault.Fault.{Fault}
use Rattle.rl_jobs.specs.declared.fault.Fault.TheVariants as fault
use Rattle.rl_jobs.specs.Readings.{IsReading, reads_part, reads_both, reads_staged}
use Rattle.rl_jobs.specs.declared.error.JobError.{JobError}
use Rattle.rl_jobs.specs.declared.error.JobError.TheVariants as job
use Rattle.rl_jobs.specs.Sources.{IsNoNetwork, FailsBy}
use Rattle.rl_jobs.specs.Checked.{ThreeTexts, Claim, first_of, second_of, trees_of, AreNoTrees, SpellNetworks, SpellClaim, AreNoNetworks, AreNoClaim, Agree, Disagree, AreNotChecked, claim_at, AreValidBefore, AreAccepted, AreRefused, IsAcceptedText, IsRefusedText, accepted_line, accepted_lines}
use Rattle.rl_jobs.proofs.Agreement.{agree_or_not, never_both, one_disagreement}

-- ---- what trees are read of

abbrev pub OneTrees : Type 0
OneTrees = (text : List ℕ) (s t : List NamedTree) → SpellsTrees text s → SpellsTrees text t → s ≡ t

abbrev pub NoTreesCause : Type 0
NoTreesCause = (text : List ℕ) (s : List NamedTree) (e : TreeError) → SpellsTrees text s → trees.IsCause text e → e ≡ error.NoMemory

abbrev pub OneTreesCause : Type 0
OneTreesCause = (text : List ℕ) (e f : TreeError) → trees.IsCause text e → trees.IsCause text f → (e ≡ error.NoMemory → ⊥) → (f ≡ error.NoMemory → ⊥) → e ≡ f

abbrev pub TreesOrCause : Type 0
TreesOrCause = (text : List ℕ) → ((s : List NamedTree) × SpellsTrees text s) ⊎ ((e : TreeError) × (e ≢ error.NoMemory) × trees.IsCause text e)

names_rule : (r : TreeRule) (k : ℕ) → trees.error_of r k ≡ error.NoMemory → ⊥
names_rule rule.Syntax k e = absurd (cc)
names_rule rule.Range k e = absurd (cc)
names_rule rule.Long k e = absurd (cc)
names_rule rule.Count k e = absurd (cc)

abbrev fault_of : ℕ → TreeError → Fault
fault_of file (error.Syntax k) = fault.Trees file rule.Syntax k
fault_of file (error.Range k) = fault.Trees file rule.Range k
fault_of file (error.Long k) = fault.Trees file rule.Long k
fault_of file (error.Count k) = fault.Trees file rule.Count k
fault_of file error.NoMemory = fault.TreeNames

is_of : (file : ℕ) (r : TreeRule) (k : ℕ) → fault_of file (trees.error_of r k) ≡ fault.Trees file r k
is_of file rule.Syntax k = refl
is_of file rule.Range k = refl
is_of file rule.Long k = refl
is_of file rule.Count k = refl

trees_fault : (file : ℕ) (bytes : List ℕ) (e : TreeError) → e ≢ error.NoMemory → trees.IsCause bytes e → (f : Fault) × AreNoTrees file bytes f
trees_fault file bytes (error.Syntax k) p h = (fault.Trees file rule.Syntax k, (rule.Syntax, k, refl, h))
trees_fault file bytes (error.Range k) p h = (fault.Trees file rule.Range k, (rule.Range, k, refl, h))
trees_fault file bytes (error.Long k) p h = (fault.Trees file rule.Long k, (rule.Long, k, refl, h))
trees_fault file bytes (error.Count k) p h = (fault.Trees file rule.Count k, (rule.Count, k, refl, h))
trees_fault file bytes error.NoMemory p h = absurd (p refl)

trees_or_fault : (file : ℕ) (bytes : List ℕ) → ((s : List NamedTree) × SpellsTrees bytes s) ⊎ ((e : TreeError) × (e ≢ error.NoMemory) × trees.IsCause bytes e) →
    ((s : List NamedTree) × SpellsTrees bytes s) ⊎ ((f : Fault) × AreNoTrees file bytes f)
trees_or_fault file bytes (inl x) = inl x
trees_or_fault file bytes (inr x) = inr (trees_fault file bytes x.0 x.1 x.2)

pub reads_trees : OneTrees → NoTreesCause → OneTreesCause → TreesOrCause → (file : ℕ) → IsReading SpellsTrees (AreNoTrees file)
reads_trees f g h either file = record {
  one = f;
  one_fault = λ bytes a b x y.
      x.2 ∙ (sym (is_of file x.0 x.1) ∙ (ap (fault_of file) (h bytes (trees.error_of x.0 x.1) (trees.error_of y.0 y.1) x.3 y.3 (names_rule x.0 x.1) (names_rule y.0 y.1)) ∙ (is_of file y.0 y.1 ∙ sym y.2)));
  not_both = λ bytes n a y x. names_rule x.0 x.1 (g bytes n (trees.error_of x.0 x.1) y x.3);
  some = λ bytes. trees_or_fault file bytes (either bytes);
}

-- ---- what three files are read as

reads_networks_of : ((file : ℕ) → IsReading SpellsNetwork (IsNoNetwork file)) → IsReading SpellNetworks AreNoNetworks
reads_networks_of h =
    reads_both (λ (texts : ThreeTexts) n. SpellsNetwork texts.first n) (λ (texts : ThreeTexts) n. SpellsNetwork texts.second n)
    (λ (texts : ThreeTexts) f. IsNoNetwork 1 texts.first f) (λ (texts : ThreeTexts) f. IsNoNetwork 2 texts.second f)
    (reads_part (λ (texts : ThreeTexts). texts.first) SpellsNetwork (IsNoNetwork 1) (h 1)) (reads_part (λ (texts : ThreeTexts). texts.second) SpellsNetwork (IsNoNetwork 2) (h 2))

reads_claims : ((file : ℕ) → IsReading SpellsNetwork (IsNoNetwork file)) → ((file : ℕ) → IsReading SpellsTrees (AreNoTrees file)) → IsReading SpellClaim AreNoClaim
reads_claims h k =
    reads_both SpellNetworks (λ (texts : ThreeTexts) t. SpellsTrees texts.trees t) AreNoNetworks (λ (texts : ThreeTexts) f. AreNoTrees 3 texts.trees f)
    (reads_networks_of h) (reads_part (λ (texts : ThreeTexts). texts.trees) SpellsTrees (AreNoTrees 3) (k 3))

pub checks : ((file : ℕ) → IsReading SpellsNetwork (IsNoNetwork file)) → ((file : ℕ) → IsReading SpellsTrees (AreNoTrees file)) →
    IsReading (λ texts c. SpellClaim texts c × Agree c) AreNotChecked
checks h k = reads_staged SpellClaim AreNoClaim Agree Disagree (reads_claims h k) one_disagreement never_both (λ texts c is. agree_or_not c)

-- ---- one text

abbrev pub Reads : Type 0
Reads = IsReading (λ texts c. SpellClaim texts c × Agree c) AreNotChecked

abbrev pub ValidOrFault : Type 0
ValidOrFault = (pair : Pair) (items : List Item) → (verdict [] pair items ≡ None) ↔ IsValid [] pair items

pub one_accepted_text : Reads → (texts : ThreeTexts) (a b : List ℕ) → IsAcceptedText texts a → IsAcceptedText texts b → a ≡ b
one_accepted_text h texts a b x y =
    let same : x.claim ≡ y.claim = h.one texts x.claim y.claim (x.read, x.agree) (y.read, y.agree) in
    x.is.written ∙ (ap (λ (c : Claim). accepted_lines (tree_names (trees_of c))) same ∙ sym y.is.written)

-- the tree at the place of a refusal isn't valid
not_valid : ValidOrFault → (c : Claim) (a : List ℕ) (x : AreRefused c a) (end : ℕ) → x.place < end → AreValidBefore c end → ⊥
not_valid law c a x end less valid =
    let none = (law (claim_at c x.place) x.tree.tree).1 (valid x.place x.tree less x.at) in
    let some = x.fault_is in cc

refused_alike : ValidOrFault → (c : Claim) (a b : List ℕ) (x : AreRefused c a) (y : AreRefused c b) → (x.place < y.place) ⊎ (y.place ≤ x.place) → a ≡ b
refused_alike law c a b x y (inl less) = absurd (not_valid law c a x y.place less y.before)
refused_alike law c a b x y (inr le) = or_equal (cases_lt y.place x.place) where
  or_equal : (y.place < x.place) ⊎ (x.place ≤ y.place) → a ≡ b
  or_equal (inl less) = absurd (not_valid law c b y x.place less x.before)
  or_equal (inr ge) =
      let places : x.place ≡ y.place = omega (arith, le, ge) in
      let at_x = x.at in
      let at_y = y.at in
      let trees : x.tree ≡ y.tree = cc in
      let fault_x = x.fault_is in
      let fault_y = y.fault_is in
      let whys : x.why ≡ y.why = cc in
      let written_x = x.written in
      let written_y = y.written in
      cc

pub one_refused_text : Reads → ValidOrFault → (texts : ThreeTexts) (a b : List ℕ) → IsRefusedText texts a → IsRefusedText texts b → a ≡ b
one_refused_text h law texts a b x y =
    let same : x.claim ≡ y.claim = h.one texts x.claim y.claim (x.read, x.agree) (y.read, y.agree) in
    let is = subst (λ (c : Claim). AreRefused c a) same x.is in
    refused_alike law y.claim a b is y.is (cases_lt is.place y.is.place)

-- not both accepted and refused
pub never_accepted_and_refused : Reads → ValidOrFault → (texts : ThreeTexts) (a b : List ℕ) → IsAcceptedText texts a → IsRefusedText texts b → ⊥
never_accepted_and_refused h law texts a b x y =
    let same : x.claim ≡ y.claim = h.one texts x.claim y.claim (x.read, x.agree) (y.read, y.agree) in
    let is = subst (λ (c : Claim). AreAccepted c a) same x.is in
    not_valid law y.claim b y.is (length (trees_of y.claim)) (in_list (trees_of y.claim) y.is.place y.is.tree y.is.at) is.valid where
      in_list : (ts : List NamedTree) (k : ℕ) (t : NamedTree) → slice_get ts k ≡ Some t → k < length ts
      in_list [] k t e = absurd (cc)
      in_list (u ∷ ts) zero t e = omega arith
      in_list (u ∷ ts) (suc k) t e = let h = in_list ts k t e in omega (arith, h)

-- ---- tree after tree

more_lines : (names : List (List ℕ)) (k : ℕ) (x : List ℕ) → slice_get names k ≡ Some x → accepted_lines (take (suc k) names) ≡ accepted_lines (take k names) ++ accepted_line x
more_lines [] k x e = absurd (cc)
more_lines (y ∷ names) zero x e =
    let same : y ≡ x = cc in ap (λ (z : List ℕ). accepted_line z ++ []) same ∙ append-nil (accepted_line x)
more_lines (y ∷ names) (suc k) x e =
    ap (λ (z : List ℕ). accepted_line y ++ z) (more_lines names k x e) ∙ sym (append_assoc (accepted_line y) (accepted_lines (take k names)) (accepted_line x))

name_of : (ts : List NamedTree) (k : ℕ) (t : NamedTree) → slice_get ts k ≡ Some t → slice_get (tree_names ts) k ≡ Some t.name
name_of [] k t e = absurd (cc)
name_of (u ∷ ts) zero t e = let same : u ≡ t = cc in ap (λ (z : NamedTree). Some z.name) same
name_of (u ∷ ts) (suc k) t e = name_of ts k t e

names_taken : (ts : List NamedTree) (k : ℕ) → tree_names (take k ts) ≡ take k (tree_names ts)
names_taken [] zero = refl
names_taken [] (suc k) = refl
names_taken (t ∷ ts) zero = refl
names_taken (t ∷ ts) (suc k) = ap (λ (z : List (List ℕ)). t.name ∷ z) (names_taken ts k)

written : (ts : List NamedTree) (k : ℕ) (t : NamedTree) → slice_get ts k ≡ Some t → accepted_lines (tree_names (take (suc k) ts)) ≡ accepted_lines (tree_names (take k ts)) ++ accepted_line t.name
written ts k t e =
    ap accepted_lines (names_taken ts (suc k))
    ∙ (more_lines (tree_names ts) k t.name (name_of ts k t e) ∙ ap (λ (z : List (List ℕ)). accepted_lines z ++ accepted_line t.name) (sym (names_taken ts k)))

valid_more : (c : Claim) (k : ℕ) (t : NamedTree) → AreValidBefore c k → slice_get (trees_of c) k ≡ Some t → IsValid [] (claim_at c k) t.tree → AreValidBefore c (suc k)
valid_more c k t before at valid place u less is = by_place (cases_lt place k) where
  by_place : (place < k) ⊎ (k ≤ place) → IsValid [] (claim_at c place) u.tree
  by_place (inl lt) = before place u lt is
  by_place (inr ge) =
      let same : k ≡ place = omega (arith, less, ge) in
      let e : slice_get (trees_of c) place ≡ Some t = subst (λ p. slice_get (trees_of c) p ≡ Some t) same at in
      let trees : t ≡ u = cc in
      subst (λ (z : NamedTree). IsValid [] (claim_at c place) z.tree) trees (subst (λ p. IsValid [] (claim_at c p) t.tree) same valid)

-- the text and the trees of the first k outputs
pub record HaveAccepted (c : Claim) (k : ℕ) (text : List ℕ) : Type 0 where
  pub written : text ≡ accepted_lines (tree_names (take k (trees_of c)))
  pub valid : AreValidBefore c k

pub accepts_more : (c : Claim) (k : ℕ) (t : NamedTree) (text more : List ℕ) → HaveAccepted c k text → slice_get (trees_of c) k ≡ Some t → IsValid [] (claim_at c k) t.tree → more ≡ text ++ accepted_line t.name →
    HaveAccepted c (k + 1) more
accepts_more c k t text more h at valid e =
    let n : suc k ≡ k + 1 = omega arith in
    subst (λ j. HaveAccepted c j more) n (record {
      written = e ∙ (ap (λ (z : List ℕ). z ++ accepted_line t.name) h.written ∙ sym (written (trees_of c) k t at));
      valid = valid_more c k t h.valid at valid;
    })

-- ---- equal outputs

same_times : (s t : List Time) → length s ≡ length t → ((k : ℕ) → k < length s → time_at s k ≡ time_at t k) → s ≡ t
same_times [] [] e each = refl
same_times [] (u ∷ t) e each = absurd (omega (arith, e))
same_times (v ∷ s) [] e each = absurd (omega (arith, e))
same_times (v ∷ s) (u ∷ t) e each =
    let first : v ≡ u = each zero (omega arith) in
    let rest : s ≡ t = same_times s t (omega (arith, e)) (λ k less. each (suc k) (omega (arith, less))) in cc

tree_at : (ts : List NamedTree) (k : ℕ) → k < length ts → (t : NamedTree) × (slice_get ts k ≡ Some t)
tree_at [] k less = absurd (omega (arith, less))
tree_at (t ∷ ts) zero less = (t, refl)
tree_at (t ∷ ts) (suc k) less = tree_at ts k (omega (arith, less))

abbrev pub Decide : Type 0
Decide = (premises : List Assume) (pair : Pair) (items : List Item) → NameInputs (length pair.first.inputs) premises → IsValid premises pair items →
    AreEqualUnder premises (length pair.first.inputs) (output_function pair.first pair.place) (output_function pair.second pair.place)

-- valid trees for all outputs show that all outputs are equal
pub all_equal : Decide → (c : Claim) → Agree c → AreValidBefore c (length (trees_of c)) → (x : List Time) → length x ≡ length (first_of c).inputs →
    space_time_function (first_of c) x ≡ space_time_function (second_of c) x
all_equal decide c agree valid x e =
    let outputs : length (first_of c).outputs ≡ length (second_of c).outputs =
    sym (length-map (first_of c).outputs (λ o. o.name)) ∙ (ap length agree.outputs ∙ length-map (second_of c).outputs (λ o. o.name)) in
    let trees : length (trees_of c) ≡ length (first_of c).outputs =
    sym (length-map (trees_of c) (λ t. t.name)) ∙ (ap length agree.trees ∙ length-map (first_of c).outputs (λ o. o.name)) in
    let values : length (space_time_function (first_of c) x) ≡ length (first_of c).outputs = length-map (first_of c).outputs _ in
    let others : length (space_time_function (second_of c) x) ≡ length (second_of c).outputs = length-map (second_of c).outputs _ in
    same_times (space_time_function (first_of c) x) (space_time_function (second_of c) x) (values ∙ (outputs ∙ sym others))
    (λ k less.
    let t = tree_at (trees_of c) k (omega (arith, less, values, trees)) in
    decide [] (claim_at c k) t.0.tree tt (valid k t.0 (omega (arith, less, values, trees)) t.1) x e tt)

pub all_accepted : Decide → (c : Claim) (k : ℕ) (text : List ℕ) → Agree c → HaveAccepted c k text → length (trees_of c) ≤ k → k ≤ length (trees_of c) → AreAccepted c text
all_accepted decide c k text agree h low high =
    let e : k ≡ length (trees_of c) = omega (arith, low, high) in
    let valid = subst (λ j. AreValidBefore c j) e h.valid in
    record {
      valid = valid;
      equal = all_equal decide c agree valid;
      written = h.written ∙ ap (λ (ts : List NamedTree). accepted_lines (tree_names ts)) (take_all (trees_of c) k low);
    } where
      take_all : (ts : List NamedTree) (p : ℕ) → length ts ≤ p → take p ts ≡ ts
      take_all [] zero le = refl
      take_all [] (suc p) le = refl
      take_all (x ∷ ts) zero le = absurd (omega (arith, le))
      take_all (x ∷ ts) (suc p) le = ap (λ z. x ∷ z) (take_all ts p (omega (arith, le)))

-- ---- a third file that spells no trees

no_trees : (texts : ThreeTexts) (n : Net × Net) (e : JobError) → SpellNetworks texts n → FailsBy (AreNoTrees 3 texts.trees) e → FailsBy (AreNotChecked texts) e
no_trees texts n (job.Refused f) networks bad = inl (inr ((n, networks), bad))
no_trees texts n job.NoMemory networks bad = tt

pub handed_on : {T : Type 0} (r : Result T JobError) (texts : ThreeTexts) (n : Net × Net) (e : JobError) → IsErrAnd r (λ z. z ≡ e) → SpellNetworks texts n → FailsBy (AreNoTrees 3 texts.trees) e →
    IfErr r (FailsBy (AreNotChecked texts))
handed_on (Ok x) texts n e is networks bad = tt
handed_on (Err z) texts n e is networks bad = subst (FailsBy (AreNotChecked texts)) (sym is) (no_trees texts n e networks bad)
