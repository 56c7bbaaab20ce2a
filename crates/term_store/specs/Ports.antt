-- The names that the inputs and outputs of a network may have.
use Rattle.std.specs.Prelude.{ℕ, ◌≤◌, IsTrue, List, ◌++◌, length}
use Rattle.std.specs.List.{list_all}
use Rattle.net_model.specs.Rules.{is_port_name, are_distinct}

-- 1 to 64 inputs and 1 to 64 outputs, each named as a network may name it, and no two alike
pub record ArePorts (inputs outputs : List (List ℕ)) : Type 0 where
  pub some_input : 1 ≤ length inputs
  pub few_inputs : length inputs ≤ 64
  pub some_output : 1 ≤ length outputs
  pub few_outputs : length outputs ≤ 64
  pub input_names : IsTrue (list_all is_port_name inputs)
  pub output_names : IsTrue (list_all is_port_name outputs)
  pub distinct : IsTrue (are_distinct (inputs ++ outputs))
