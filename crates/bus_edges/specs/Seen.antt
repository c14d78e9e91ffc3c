-- What contracts see of the outside: the clock's last reading, and how often each part has failed.
use Rattle.std.specs.Prelude.{◌<◌, ◌-◌, ◌^◌, ℕ, List, [], None, false, min, slice_index_or}
use Rattle.std.proofs.Common.{arith}
use Rattle.react_core.specs.Outer.{Outer, CountsFit}
use Rattle.bus_edges.specs.declared.counts.Counts.{Counts}

-- the count at a place, which is 0 past the end
abbrev pub count_at : List ℕ → ℕ → ℕ
count_at counts place = slice_index_or counts place 0

pub record Seen : Type 0 where
  pub moment : ℕ
  pub poller : ℕ
  -- by wire number
  pub wires : ℕ → ℕ
  pub dials : ℕ → ℕ

abbrev pub seen_of : Counts → Seen
seen_of c = record {
  moment = c.moment;
  poller = c.poller;
  wires = count_at c.wires.items;
  dials = count_at c.dials.items;
}

-- a count that fits its type
abbrev pub capped : ℕ → ℕ
capped count = min count (2 ^ 64 - 1)

-- the outside tells nothing, and has no listening sockets of its own accord
abbrev pub outer_seen : Seen → Outer (Unit {0})
outer_seen s = record {
  origin = tt;
  events = None;
  moment = s.moment;
  poller_faults = capped s.poller;
  rooms = None;
  wire_faults = λ wire. capped (s.wires wire);
  dial_faults = λ wire. capped (s.dials wire);
  doors = record { faults = 0; arrivals = [] };
  ample = false;
}

abbrev pub outer_of : Counts → Outer (Unit {0})
outer_of c = outer_seen (seen_of c)

is_capped : (count : ℕ) → capped count < 2 ^ 64
is_capped count = omega arith

pub seen_counts_fit : (c : Counts) → CountsFit (outer_of c)
seen_counts_fit c = record {
  poller = is_capped c.poller;
  wires = λ wire. is_capped (count_at c.wires.items wire);
  dials = λ wire. is_capped (count_at c.dials.items wire);
  doors = omega arith;
}
