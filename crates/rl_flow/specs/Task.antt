-- What words ask for.
use Rattle.std.specs.Prelude.{ℕ, ◌-◌, ◌&&◌, if◌then◌else◌, List, [], ◌∷◌, length, take, codes, Option, Some, None}
use Rattle.std.specs.Option.{option_map}
use Rattle.std.specs.Str.{bytes_eq}
use Rattle.std.specs.Str.Parse.{digits_value}
use Rattle.rl_time.specs.declared.time.Time.{Time}
use Rattle.rl_flow.specs.Words.{is_file_word, is_number_word, is_cycles_word, is_big_word, is_budget_word, is_name_word, times_of, names_order, order_word}

-- What is to be done with files: compile its source; evaluate its source at times; write the network of its table; write its
-- network simplified; write the table of its network's output of this name, on times up to a number; simulate its module for
-- some cycles, with inputs that rise at times; the same by activations in a numbered order; check by the trees of the third file
-- that the networks of the first two have equal outputs; decide whether the networks of two files have equal outputs, by trees of at
-- most so many items; make a large network from a number, and compile, simulate and compare
-- it, without a file
pub data Task : Type 0 where
  Compile : Task
  Eval : List Time → Task
  Synth : Task
  Simplify : Task
  Tabulate : List ℕ → ℕ → Task
  Sim : ℕ → List Time → Task
  SimInOrder : ℕ → List Time → ℕ → Task
  Check : Task
  Compare : ℕ → Task
  Big : ℕ → Task

-- the names of the files, in order, and what is to be done with them
pub record Command : Type 0 where
  pub files : List (List ℕ)
  pub task : Task

-- the task, where no words are left
abbrev pub alone : Task → List (List ℕ) → Option Task
alone task [] = Some task
alone task (w ∷ words) = None

-- TIME..
abbrev pub eval_task : List (List ℕ) → Option Task
eval_task words = option_map Eval (times_of words)

-- NAME WINDOW
abbrev pub tabulate_task : List (List ℕ) → Option Task
tabulate_task (name ∷ window ∷ []) =
    if is_name_word name && is_number_word 1000000 window then Some (Tabulate name (digits_value 10 window)) else None
tabulate_task (a ∷ b ∷ c ∷ words) = None
tabulate_task (a ∷ []) = None
tabulate_task [] = None

abbrev pub in_order : ℕ → Option (List Time) → Option ℕ → Option Task
in_order cycles None order = None
in_order cycles (Some times) None = None
in_order cycles (Some times) (Some order) = Some (SimInOrder cycles times order)

-- TIME.. [--order N]
abbrev pub timed_task : ℕ → List (List ℕ) → Option Task
timed_task cycles words =
    if names_order words then in_order cycles (times_of (take (length words - 2) words)) (order_word words) else option_map (Sim cycles) (times_of words)

-- CYCLES TIME.. [--order N]
abbrev pub sim_task : List (List ℕ) → Option Task
sim_task (cycles ∷ words) = if is_cycles_word cycles then timed_task (digits_value 10 cycles) words else None
sim_task [] = None

-- the task of the first word of a command with one file, and of the words after the file
abbrev pub task_of : List ℕ → List (List ℕ) → Option Task
task_of command words =
    if bytes_eq command (codes "compile") then alone Compile words
    else if bytes_eq command (codes "eval") then eval_task words
    else if bytes_eq command (codes "synth") then alone Synth words
    else if bytes_eq command (codes "simplify") then alone Simplify words
    else if bytes_eq command (codes "tabulate") then tabulate_task words
    else if bytes_eq command (codes "sim") then sim_task words
    else None

-- FILE FILE FILE
unfoldable pub check_command : List (List ℕ) → Option Command
check_command (first ∷ second ∷ trees ∷ []) =
    if is_file_word first && is_file_word second && is_file_word trees then Some (record { files = first ∷ second ∷ trees ∷ []; task = Check }) else None
check_command (a ∷ b ∷ c ∷ d ∷ words) = None
check_command (a ∷ b ∷ []) = None
check_command (a ∷ []) = None
check_command [] = None

-- nothing, or `--nodes N`: the most items of an output's tree, which are 100,000 where no number is given
abbrev pub budget_of : List (List ℕ) → Option ℕ
budget_of [] = Some 100000
budget_of (flag ∷ n ∷ []) = if bytes_eq flag (codes "--nodes") && is_budget_word n then Some (digits_value 10 n) else None
budget_of (flag ∷ []) = None
budget_of (a ∷ b ∷ c ∷ words) = None

-- FILE FILE [--nodes N]
unfoldable pub compare_command : List (List ℕ) → Option Command
compare_command (first ∷ second ∷ words) =
    if is_file_word first && is_file_word second then option_map (λ budget. record { files = first ∷ second ∷ []; task = Compare budget }) (budget_of words) else None
compare_command (a ∷ []) = None
compare_command [] = None

-- N
unfoldable pub big_command : List (List ℕ) → Option Command
big_command (n ∷ []) = if is_big_word n then Some (record { files = []; task = Big (digits_value 10 n) }) else None
big_command (a ∷ b ∷ words) = None
big_command [] = None

-- a first word, FILE, and the words after it
unfoldable pub of_one_file : List ℕ → List (List ℕ) → Option Command
of_one_file command (file ∷ words) =
    if is_file_word file then option_map (λ task. record { files = file ∷ []; task = task }) (task_of command words) else None
of_one_file command [] = None

-- The command of the words, if they are one: `compile FILE`, `eval FILE TIME..`, `synth FILE`, `simplify FILE`,
-- `tabulate FILE NAME WINDOW`, `sim FILE CYCLES TIME.. [--order N]`, `check FILE FILE FILE`,
-- `compare FILE FILE [--nodes N]` or `big N`.
unfoldable pub command_of : List (List ℕ) → Option Command
command_of (command ∷ words) =
    if bytes_eq command (codes "check") then check_command words
    else if bytes_eq command (codes "compare") then compare_command words
    else if bytes_eq command (codes "big") then big_command words
    else of_one_file command words
command_of [] = None
