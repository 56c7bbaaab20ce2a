-- What a plan knows of the places of a store.
use Rattle.std.specs.Prelude.{◌≡◌, ℕ, max, Bool, nat_lt, List, length, map, filter, slice_index_or, slice_set}
use Rattle.term_store.specs.declared.node.Node.{Node}
use Rattle.term_store.specs.declared.node.Node.TheVariants.{Inc}
use Rattle.term_store.specs.Places.{places, longest_at}
use Rattle.gate_lower.specs.declared.plan.Plan as source
use Rattle.gate_lower.specs.Lowered.{gate_number, delay_number}

-- the delay of the node's operand is at least the node's own
abbrev pub raised : Node → List ℕ → List ℕ
raised (Inc a c) longest = slice_set longest a.0 (max (slice_index_or longest a.0 0) c)
raised _ longest = longest

abbrev pub is_positive : List ℕ → ℕ → Bool
is_positive numbers place = nat_lt 0 (slice_index_or numbers place 0)

-- how many of the numbers before the place are positive
abbrev pub count_positive : List ℕ → ℕ → ℕ
count_positive numbers place = length (filter (is_positive numbers) (places place))

-- the plan has for each place what its marks give
pub record IsPlan (nodes : List Node) (p : source.Plan) : Type 0 where
  pub marks : length p.marks.items ≡ length nodes
  pub longest : p.longest.items ≡ map (longest_at nodes p.marks.items) (places (length nodes))
  pub gate_numbers : p.gate_numbers.items ≡ map (gate_number nodes p.marks.items) (places (length nodes))
  pub delay_numbers : p.delay_numbers.items ≡ map (delay_number nodes p.marks.items) (places (length nodes))
