use Rattle.std.proofs.Common.{◌≡◌, ℕ, vec_len}
use Rattle.bus_edges.specs.Seen.{count_at}
use Rattle.bus_edges.proofs.counts.make_room.Given as goal

abbrev pub invariant-loop : goal.invariant-loop
invariant-loop l = (l.counter ≡ vec_len l.counts) × ((w : ℕ) → count_at l.counts.items w ≡ count_at l.initial.counts.items w)
