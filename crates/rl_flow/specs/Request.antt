-- What a parsed command line asks for.
use Rattle.std.specs.Prelude.{◌≤◌}
use Rattle.rl_flow.specs.declared.request.Request.{Request}
use Rattle.rl_flow.specs.declared.request.Request.TheVariants as request
use Rattle.rl_flow.specs.Task.{Task, Compile, Eval, Synth, Simplify, Tabulate, Sim, SimInOrder, Check, Compare, Big}

abbrev pub task : Request → Task
task request.Compile = Compile
task (request.Eval times) = Eval times
task request.Synth = Synth
task request.Simplify = Simplify
task (request.Tabulate name window) = Tabulate name.now window
task (request.Sim cycles times) = Sim cycles times
task (request.SimInOrder cycles times order) = SimInOrder cycles times order
task request.Check = Check
task (request.Compare budget) = Compare budget
task (request.Big n) = Big n

-- its window, if it has one, is at most 1,000,000; its cycles, if it has some, are 1 to 100,000; its budget, if it has one, is 1 to
-- 1,000,000; the number of its network, if it has one, is 1 to 16,384
abbrev pub IsSmall : Request → Type 0
IsSmall request.Compile = Unit {0}
IsSmall (request.Eval times) = Unit {0}
IsSmall request.Synth = Unit {0}
IsSmall request.Simplify = Unit {0}
IsSmall (request.Tabulate name window) = window ≤ 1000000
IsSmall (request.Sim cycles times) = (1 ≤ cycles) × (cycles ≤ 100000)
IsSmall (request.SimInOrder cycles times order) = (1 ≤ cycles) × (cycles ≤ 100000)
IsSmall request.Check = Unit {0}
IsSmall (request.Compare budget) = (1 ≤ budget) × (budget ≤ 1000000)
IsSmall (request.Big n) = (1 ≤ n) × (n ≤ 16384)
