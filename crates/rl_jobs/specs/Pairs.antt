-- What it is to compare two networks of the same names.
use Rattle.std.specs.Prelude.{◌≡◌, ◌⊎◌, ℕ, List}
use Rattle.net_model.specs.Formula.{Net}
use Rattle.net_model.specs.Rules.{names_of}
use Rattle.net_lang.specs.Spelling.{SpellsNetwork}
use Rattle.rl_jobs.specs.declared.fault.Fault.{Fault}
use Rattle.rl_jobs.specs.declared.fault.Fault.TheVariants as fault
use Rattle.rl_jobs.specs.Readings.{Both, EitherFault, Staged}
use Rattle.rl_jobs.specs.Sources.{IsNoNetwork}
use Rattle.rl_jobs.specs.Checked.{DifferAt}

-- the texts of the files of two networks
pub record TwoTexts : Type 0 where
  pub first : List ℕ
  pub second : List ℕ

abbrev pub two_texts : List ℕ → List ℕ → TwoTexts
two_texts first second = record { first = first; second = second }

-- the texts spell these networks
abbrev pub SpellPair : TwoTexts → Net × Net → Type 0
SpellPair = Both (λ texts. SpellsNetwork texts.first) (λ texts. SpellsNetwork texts.second)

-- one of the texts spells no network; where neither does, the fault is that of the first
abbrev pub AreNoPair : TwoTexts → Fault → Type 0
AreNoPair = EitherFault (λ texts. SpellsNetwork texts.first) (λ texts. IsNoNetwork 1 texts.first) (λ texts. IsNoNetwork 2 texts.second)

-- the networks have the same inputs and the same outputs, by name and order
pub record HaveSameNames (p : Net × Net) : Type 0 where
  pub inputs : p.0.inputs ≡ p.1.inputs
  pub outputs : names_of p.0.outputs ≡ names_of p.1.outputs

-- the names of the inputs differ, or else those of the outputs
abbrev pub HaveOtherNames : Net × Net → Fault → Type 0
HaveOtherNames p f =
    ((place : ℕ) × (f ≡ fault.InputNames place) × DifferAt p.0.inputs p.1.inputs place)
    ⊎ ((p.0.inputs ≡ p.1.inputs) × ((place : ℕ) × (f ≡ fault.OutputNames place) × DifferAt (names_of p.0.outputs) (names_of p.1.outputs) place))

-- the texts spell two networks of the same names
abbrev pub CanBeCompared : TwoTexts → Type 0
CanBeCompared texts = (p : Net × Net) × SpellPair texts p × HaveSameNames p

-- one of the texts spells no network, or the networks have other names
abbrev pub AreNotCompared : TwoTexts → Fault → Type 0
AreNotCompared = Staged SpellPair AreNoPair HaveOtherNames
