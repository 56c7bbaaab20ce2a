-- The limits of networks.
use Rattle.std.specs.Prelude.{ℕ}

-- the most inputs, and the most outputs
abbrev pub most_ports : ℕ
most_ports = 64

-- the most bytes of a name
abbrev pub most_name_bytes : ℕ
most_name_bytes = 32

-- the most of min, max and lt together
abbrev pub most_joins : ℕ
most_joins = 16384

-- the most incs
abbrev pub most_delays : ℕ
most_delays = 16384

-- the most nested operators
abbrev pub most_nesting : ℕ
most_nesting = 64

-- the greatest span of a let or an output, in cycles
abbrev pub most_span : ℕ
most_span = 1000000
