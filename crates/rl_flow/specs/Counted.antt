-- What is counted of a network that is compiled and simulated, and how it is written.
use Rattle.std.specs.Prelude.{ℕ, List, ◌++◌, length, codes, decimal}
use Rattle.std.specs.List.{count_by}
use Rattle.rl_time.specs.declared.time.Time.{Time}
use Rattle.rl_time.specs.Time.{has_risen}
use Rattle.net_model.specs.Formula.{Net}
use Rattle.net_model.specs.Value.{space_time_function}
use Rattle.term_store.specs.Subterms.{join_count, register_bits}
use Rattle.term_store.specs.Terms.{network_trees}
use Rattle.big_input.specs.Generated.{big_network, big_times}
use Rattle.rl_flow.specs.declared.counts.Counts.{Counts}

-- The counts of a network of so many operators, at these times of its inputs: a gate for each distinct min, max and lt, the register
-- bits of its terms, the outputs, those of them that have risen by cycle 63, and those whose levels are right, which are all.
abbrev pub counts_of : ℕ → Net → List Time → Counts
counts_of operators n x = record {
  operators = operators;
  gates = join_count (network_trees n);
  bits = register_bits (network_trees n);
  outputs = length n.outputs;
  risen = count_by (λ t. has_risen t 63) (space_time_function n x);
  agree = length n.outputs;
}

-- a line of a label and a number
abbrev pub count_line : List ℕ → ℕ → List ℕ
count_line label n = label ++ decimal n ++ codes "\n"

-- the six lines
unfoldable pub counts_text : Counts → List ℕ
counts_text c =
    count_line (codes "operators ") c.operators ++ count_line (codes "gates ") c.gates ++ count_line (codes "bits ") c.bits
    ++ count_line (codes "outputs ") c.outputs ++ count_line (codes "risen ") c.risen ++ count_line (codes "agree ") c.agree

-- the counts of the network that is made from n
unfoldable pub big_counts : ℕ → Counts
big_counts n = counts_of n (big_network n) (big_times n)

-- what `big n` writes
abbrev pub big_text : ℕ → List ℕ
big_text n = counts_text (big_counts n)
