-- The network and the times of its inputs that are made from a number, by draws from the stream that begins with it.
use Rattle.std.specs.Prelude.{ℕ, zero, suc, ◌+◌, ◌-◌, ◌*◌, min, nat_lt, nat_eq, if◌then◌else◌, List, [], ◌∷◌, ◌++◌, codes, decimal}
use Rattle.rl_time.specs.declared.time.Time.{Time}
use Rattle.rl_time.specs.declared.time.Time.TheVariants.{At}
use Rattle.net_model.specs.Formula.{Formula, Input, Named, Min, Max, Lt, Inc, Equation, Net, net}
use Rattle.big_input.specs.Stream.{state, draw}

-- a prefix and a number in decimal
abbrev pub numbered : List ℕ → ℕ → List ℕ
numbered prefix k = prefix ++ decimal k

-- the prefix with the numbers 0 to n - 1
abbrev pub names_below : List ℕ → ℕ → List (List ℕ)
names_below prefix zero = []
names_below prefix (suc n) = names_below prefix n ++ numbered prefix n ∷ []

abbrev pub equation : List ℕ → Formula → Equation
equation name body = record { name = name; body = body }

-- ---- lets

-- the first eight numbers are the inputs, and the others the lets
abbrev pub operand : ℕ → Formula
operand number = if nat_lt number 8 then Input number else Named (number - 8)

-- draw k of an input or an earlier let of let `place`
abbrev pub drawn_operand : ℕ → ℕ → ℕ → Formula
drawn_operand s k place = operand (draw s k (8 + place))

-- The formula of let `place`, by three draws after state s: the operator, the first operand, and the second operand or the number of
-- cycles.
abbrev pub drawn_body : ℕ → ℕ → Formula
drawn_body s place =
    if nat_eq (draw s 0 4) 0 then Min (drawn_operand s 1 place) (drawn_operand s 2 place)
    else if nat_eq (draw s 0 4) 1 then Max (drawn_operand s 1 place) (drawn_operand s 2 place)
    else if nat_eq (draw s 0 4) 2 then Lt (drawn_operand s 1 place) (drawn_operand s 2 place)
    else Inc (drawn_operand s 1 place) (1 + draw s 2 3)

-- let k of the network made from n: each let before it took three draws
abbrev pub let_at : ℕ → ℕ → Equation
let_at n k = equation (numbered (codes "n") k) (drawn_body (state n (3 * k)) k)

-- the first lets, in order
abbrev pub lets_below : ℕ → ℕ → List Equation
lets_below n zero = []
lets_below n (suc k) = lets_below n k ++ let_at n k ∷ []

-- ---- outputs

-- how many lets are outputs: the last 64, or all where there are fewer
abbrev pub output_count : ℕ → ℕ
output_count n = min n 64

-- output j is the let so many places before the end
abbrev pub output_at : ℕ → ℕ → Equation
output_at n j = equation (numbered (codes "y") j) (Named (n - output_count n + j))

-- the first outputs, in order
abbrev pub outputs_below : ℕ → ℕ → List Equation
outputs_below n zero = []
outputs_below n (suc j) = outputs_below n j ++ output_at n j ∷ []

-- ---- the network and the times

-- eight inputs, n lets, and the last 64 of these as outputs
abbrev pub big_network : ℕ → Net
big_network n = net (names_below (codes "i") 8) (lets_below n n) (outputs_below n (output_count n))

-- the first times that are drawn after a state, each below 16
abbrev pub times_below : ℕ → ℕ → List Time
times_below s zero = []
times_below s (suc i) = times_below s i ++ At (draw s i 16) ∷ []

-- the times of the eight inputs, drawn after all lets
abbrev pub big_times : ℕ → List Time
big_times n = times_below (state n (3 * n)) 8
