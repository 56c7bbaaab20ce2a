use Rattle.std.proofs.Common.{◌≡◌, ◌++◌, ◌≤◌, drop, length}
use Rattle.std.specs.Option.{option_map}
use Rattle.rl_flow.specs.Words.{written_times, texts_of}
use Rattle.rl_flow.proofs.words.read_times.Given as goal

abbrev pub invariant-loop-word : goal.invariant-loop-word
invariant-loop-word l =
    (length l.times ≤ l.word-index) × (option_map (λ rest. l.times ++ rest) (written_times (texts_of (drop l.word-index l.words))) ≡ written_times (texts_of l.words))
