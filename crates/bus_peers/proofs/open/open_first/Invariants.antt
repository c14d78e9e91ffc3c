use Rattle.std.proofs.Common.{◌≡◌, ◌≤◌, ◌+◌, ◌-◌, ℕ, [], length, vec_capacity}
use Rattle.react_core.specs.Outer.{Keeps}
use Rattle.react_core.specs.Outer as part
use Rattle.bus_peers.specs.inside.SlotFaults.{AllCounted}
use Rattle.bus_peers.specs.inside.Closing.{counting}
use Rattle.bus_visit.specs.Shown.{tags}
use Rattle.bus_peers.specs.inside.Slots.{Owned, AllOpen, CallStandsAfter}
use Rattle.bus_peers.specs.inside.Alarms.{Alarmed}
use Rattle.bus_peers.specs.Headline.{MadeTold}
use Rattle.bus_peers.proofs.open.open_first.Given as goal

abbrev pub invariant-loop-session : goal.invariant-loop-session
invariant-loop-session g l = record {
  same : l.session-items ≡ l.fn.sessions.items;
  wire : l.wire ≡ l.session-index;
  len : length l.slots.items ≡ l.session-index;
  room : length l.session-items ≤ vec_capacity l.slots;
  went : (rounds : ℕ) →
      CallStandsAfter l.session-items rounds (counting (length l.session-items - l.session-index) l.session-index) 0
      l.fn.reactor.core ((g.O.Tells.outer l.fn.outside).events) ((g.O.Tells.outer l.outside).events)
      l.reactor.core l.slots.items;
  stands : AllOpen l.slots.items;
  owned : Owned l.slots.items (tags l.reactor.core.sources);
  poller : (g.O.Tells.outer l.outside).poller_faults ≡ (g.O.Tells.outer l.fn.outside).poller_faults;
  timers : MadeTold l.fn.reactor.core l.reactor.core ((g.O.Tells.outer l.fn.outside).events)
      ((g.O.Tells.outer l.outside).events);
  alarmed : Alarmed (g.O.Tells.outer l.outside).moment l.reactor.core [] l.slots.items;
  -- each visit makes one timer at most
  few : l.reactor.core.made ≤ l.fn.reactor.core.made + l.wire;
  keeps : (room : ℕ) → Keeps (part.All room) (g.O.Tells.outer l.fn.outside) (g.O.Tells.outer l.outside);
  counted : AllCounted 0 l.slots.items (g.O.Tells.outer l.fn.outside) (g.O.Tells.outer l.outside);
  reports : l.reactor.events ≡ l.fn.reactor.events;
}
