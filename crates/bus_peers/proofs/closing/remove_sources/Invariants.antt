use Rattle.std.proofs.Common.{◌≡◌, length, map, OnOk}
use Rattle.react_core.specs.Outer.{Keeps}
use Rattle.react_core.specs.Outer as part
use Rattle.react_core.specs.Told.{told}
use Rattle.bus_peers.specs.inside.Failures.{Removes}
use Rattle.bus_peers.specs.inside.Closing.{closing}
use Rattle.bus_visit.specs.Shown.{shown, tags}
use Rattle.bus_peers.specs.inside.SlotFaults.{VisitsCounted}
use Rattle.bus_peers.proofs.ClosingLemmas.{Left, with_sources}
use Rattle.bus_peers.proofs.closing.remove_sources.Given as goal

abbrev pub invariant-loop-slot : goal.invariant-loop-slot
invariant-loop-slot g l = record {
  same : l.slot-items ≡ l.fn.slots.items;
  reactor : l.reactor ≡ with_sources l.fn.reactor l.reactor.core.sources;
  left : Left l.slot-index (length l.fn.slots.items) (tags l.fn.reactor.core.sources) (tags l.reactor.core.sources);
  told_so : OnOk l.answer ((g.R.Tells.outer l.registrar).events ≡ told ((g.R.Tells.outer l.fn.registrar).events) (closing l.slot-index 0 (map shown l.fn.reactor.core.sources)));
  removals : Removes (g.R.Tells.outer l.fn.registrar).ample (closing l.slot-index 0 (map shown l.fn.reactor.core.sources)) l.answer
      ((g.R.Tells.outer l.fn.registrar).events) ((g.R.Tells.outer l.registrar).events);
  cause : VisitsCounted l.answer ((g.R.Tells.outer l.fn.registrar).poller_faults) ((g.R.Tells.outer l.registrar).poller_faults);
  keeps : Keeps part.Poller (g.R.Tells.outer l.fn.registrar) (g.R.Tells.outer l.registrar);
}
