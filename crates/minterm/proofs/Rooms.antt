-- Room, one planting after the other.
use Rattle.std.proofs.Common.{ℕ, ◌≤◌, ◌+◌, arith, length}
use Rattle.term_store.specs.Nodes.{Contents}
use Rattle.term_store.specs.Room.{HasRoom, TakesRoom}

pub no_room : (s : Contents) → TakesRoom s s 0
no_room s = record { places = omega arith; memory = omega arith }

pub room_then : (a b c : Contents) (j k m : ℕ) → j + k ≤ m → TakesRoom a b j → TakesRoom b c k → TakesRoom a c m
room_then a b c j k m le p q = record { places = omega (arith, le, p.places, q.places); memory = omega (arith, le, p.memory, q.memory) }

-- what is left
pub room_after : (a b : Contents) (j k m : ℕ) → j + k ≤ m → HasRoom a m → TakesRoom a b j → HasRoom b k
room_after a b j k m le r t = record { places = omega (arith, le, r.places, t.places); memory = omega (arith, le, r.memory, t.memory) }

pub one_node : (a b : Contents) → length b.nodes ≤ length a.nodes + 1 → a.spare ≤ b.spare + 1 → TakesRoom a b 1
one_node a b h g = record { places = h; memory = g }
