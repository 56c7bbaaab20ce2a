-- A network as a value, without where its parts lie in memory.
use Rattle.std.specs.Prelude.{ℕ, List}

-- an expression over the inputs and the earlier lets, each named by its place
pub data Formula : Type 0 where
  Never : Formula
  Input : ℕ → Formula
  Named : ℕ → Formula
  Min : Formula → Formula → Formula
  Max : Formula → Formula → Formula
  Lt : Formula → Formula → Formula
  Inc : Formula → ℕ → Formula

-- a let or an output: a name and its formula
pub record Equation : Type 0 where
  pub name : List ℕ
  pub body : Formula

-- a network: the names of its inputs, its lets and its outputs, each list in its order
pub record Net : Type 0 where
  pub inputs : List (List ℕ)
  pub lets : List Equation
  pub outputs : List Equation

abbrev pub net : List (List ℕ) → List Equation → List Equation → Net
net inputs lets outputs = record { inputs = inputs; lets = lets; outputs = outputs }
