use Rattle.std.proofs.Common.{◌≡◌, map}
use Rattle.react_core.specs.Outer.{Keeps}
use Rattle.react_core.specs.Outer as part
use Rattle.bus_visit.specs.Registry.{held_at}
use Rattle.bus_visit.specs.Shown.{shown}
use Rattle.bus_visit.specs.Visited.{may_ask}
use Rattle.bus_visit.proofs.TurnLemmas.{Turning}
use Rattle.bus_visit.proofs.visiting.resume.Given as goal

abbrev pub invariant-loop-ending : goal.invariant-loop-ending
invariant-loop-ending g l = record {
  turning : Turning l.wire l.key ((g.O.Tells.outer l.fn.outside).events) ((g.O.Tells.outer l.outside).events) l.fn.reactor.core l.reactor.core l.fn.client l.client;
  poller : (g.O.Tells.outer l.outside).poller_faults ≡ (g.O.Tells.outer l.fn.outside).poller_faults;
  keeps : Keeps (part.Visit l.wire) (g.O.Tells.outer l.fn.outside) (g.O.Tells.outer l.outside);
  unread : (g.O.Tells.outer l.outside).moment ≡ (g.O.Tells.outer l.fn.outside).moment;
  reports : l.reactor.events ≡ l.fn.reactor.events;
}

abbrev pub decreases-loop-ending : goal.decreases-loop-ending
decreases-loop-ending g l = may_ask (held_at (map shown l.reactor.core.sources) l.key)
