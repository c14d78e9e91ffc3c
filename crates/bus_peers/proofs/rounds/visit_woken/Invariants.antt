use Rattle.std.proofs.Common.{◌≡◌, ℕ, List, length, drop}
use Rattle.react_core.specs.declared.outside.Event.{Event}
use Rattle.react_core.specs.Outer.{Keeps}
use Rattle.react_core.specs.Outer as part
use Rattle.bus_peers.specs.inside.SlotFaults.{CountsOn}
use Rattle.bus_peers.specs.inside.Rounds.{HaveWires}
use Rattle.bus_peers.specs.inside.Due.{RisesFrom}
use Rattle.bus_visit.specs.Shown.{IsBetweenCalls, tags}
use Rattle.bus_peers.specs.inside.Slots.{Owned, AllOpen, VisitsKeepCall, Told}
use Rattle.bus_peers.specs.inside.Alarms.{Alarmed}
use Rattle.bus_peers.specs.Headline.{MadeTold}
use Rattle.bus_peers.proofs.rounds.visit_woken.Given as goal

abbrev pub invariant-loop-wire : goal.invariant-loop-wire
invariant-loop-wire g l = record {
  went : VisitsKeepCall l.woken (drop l.wire-index l.woken) ((g.O.Tells.outer l.fn.outside).events)
      ((g.O.Tells.outer l.outside).events) l.fn.reactor.core l.reactor.core l.fn.slots.items l.slots.items;
  rests : IsBetweenCalls l.reactor.core;
  stands : AllOpen l.slots.items;
  owned : Owned l.slots.items (tags l.reactor.core.sources);
  len : length l.slots.items ≡ length l.fn.slots.items;
  rise : (low : ℕ) × RisesFrom low (drop l.wire-index l.woken);
  registered : HaveWires (drop l.wire-index l.woken) (tags l.reactor.core.sources);
  told : (more : List Event) × Told ((g.O.Tells.outer l.fn.outside).events) ((g.O.Tells.outer l.outside).events) l.fn.reactor.core l.reactor.core more;
  poller : (g.O.Tells.outer l.outside).poller_faults ≡ (g.O.Tells.outer l.fn.outside).poller_faults;
  timers : MadeTold l.fn.reactor.core l.reactor.core ((g.O.Tells.outer l.fn.outside).events)
      ((g.O.Tells.outer l.outside).events);
  alarmed : Alarmed (g.O.Tells.outer l.outside).moment l.reactor.core (drop l.wire-index l.woken) l.slots.items;
  keeps : (room : ℕ) → Keeps (part.All room) (g.O.Tells.outer l.fn.outside) (g.O.Tells.outer l.outside);
  counted : CountsOn l.fn.slots.items l.slots.items (g.O.Tells.outer l.fn.outside) (g.O.Tells.outer l.outside);
  reports : l.reactor.events ≡ l.fn.reactor.events;
}
