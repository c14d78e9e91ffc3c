use Rattle.std.proofs.Common.{◌≡◌, ◌+◌, ◌≤◌, ◌++◌, false, drop, vec_len, vec_capacity}
use Rattle.slab.specs.Slab.{entries}
use Rattle.react_core.specs.Outer.{Keeps, Poller}
use Rattle.react_core.specs.Causes.{ReactCounted, OnReactLack}
use Rattle.react_core.specs.Sources.{AllDated}
use Rattle.react_core.specs.Reports.{after_reports, taken_by_all, armings_by_all}
use Rattle.react_core.proofs.Taking.{waiting}
use Rattle.react_core.proofs.Tries.{TriedSoFar}
use Rattle.react_core.proofs.rounds.take_reports.Given as goal

-- what is done so far and what is left give the whole, and there is room for each task that waits
abbrev pub invariant-loop-report : goal.invariant-loop-report
invariant-loop-report g l = record {
  sources : after_reports l.ticker (entries l.sources) (drop l.report-index l.reports) ≡ after_reports l.ticker (entries l.fn.sources) l.reports;
  hands : l.hands.items ++ taken_by_all l.ticker (entries l.sources) (drop l.report-index l.reports) ≡ l.fn.hands.items ++ taken_by_all l.ticker (entries l.fn.sources) l.reports;
  room : vec_len l.hands + waiting (entries l.sources) ≤ vec_capacity l.hands;
  held : vec_len l.hands + waiting (entries l.sources) ≤ vec_len l.fn.hands + waiting (entries l.fn.sources);
  dated : AllDated l.ticker (entries l.sources);
  capacity : vec_capacity l.hands ≡ vec_capacity l.fn.hands;
  armed : TriedSoFar (armings_by_all l.ticker (entries l.fn.sources) l.reports) (armings_by_all l.ticker (entries l.sources) (drop l.report-index l.reports))
      l.answer (g.R.Tells.outer l.fn.registrar).ample (g.R.Tells.outer l.fn.registrar).events (g.R.Tells.outer l.registrar).events;
  cause : ReactCounted l.answer (g.R.Tells.outer l.fn.registrar).poller_faults (g.R.Tells.outer l.registrar).poller_faults;
  memory : OnReactLack l.answer ((g.R.Tells.outer l.fn.registrar).ample ≡ false);
  keeps : Keeps Poller (g.R.Tells.outer l.fn.registrar) (g.R.Tells.outer l.registrar);
}
