use Rattle.std.proofs.Common.{◌≡◌, ◌≤◌, ◌-◌, List, [], length}
use Rattle.react_core.specs.declared.outside.Event.{Event}
use Rattle.react_core.specs.Outer.{Keeps}
use Rattle.react_core.specs.Outer as part
use Rattle.bus_peers.specs.inside.SlotFaults.{CountsOn}
use Rattle.bus_visit.specs.Shown.{IsBetweenCalls, tags}
use Rattle.bus_peers.specs.inside.Slots.{Owned, AllOpen, Told}
use Rattle.bus_peers.proofs.CallRounds.{RoundsKeepCall}
use Rattle.bus_peers.specs.inside.Alarms.{Alarmed}
use Rattle.bus_peers.specs.Headline.{MadeTold}
use Rattle.bus_peers.proofs.rounds.go_rounds.Given as goal

abbrev pub invariant-loop-done : goal.invariant-loop-done
invariant-loop-done g l = record {
  few : l.done ≤ l.rounds;
  went : RoundsKeepCall l.rounds l.done ((g.O.Tells.outer l.fn.outside).events) ((g.O.Tells.outer l.outside).events) l.fn.reactor.core l.reactor.core l.fn.slots.items l.slots.items;
  rests : IsBetweenCalls l.reactor.core;
  stands : AllOpen l.slots.items;
  owned : Owned l.slots.items (tags l.reactor.core.sources);
  len : length l.slots.items ≡ length l.fn.slots.items;
  told : (more : List Event) × Told ((g.O.Tells.outer l.fn.outside).events) ((g.O.Tells.outer l.outside).events) l.fn.reactor.core l.reactor.core more;
  poller : (g.O.Tells.outer l.outside).poller_faults ≡ (g.O.Tells.outer l.fn.outside).poller_faults;
  timers : MadeTold l.fn.reactor.core l.reactor.core ((g.O.Tells.outer l.fn.outside).events)
      ((g.O.Tells.outer l.outside).events);
  alarmed : Alarmed (g.O.Tells.outer l.outside).moment l.reactor.core [] l.slots.items;
  keeps : Keeps (part.All l.fn.reactor.events) (g.O.Tells.outer l.fn.outside) (g.O.Tells.outer l.outside);
  counted : CountsOn l.fn.slots.items l.slots.items (g.O.Tells.outer l.fn.outside) (g.O.Tells.outer l.outside);
  reports : l.reactor.events ≡ l.fn.reactor.events;
}

abbrev pub decreases-loop-done : goal.decreases-loop-done
decreases-loop-done g l = l.rounds - l.done
