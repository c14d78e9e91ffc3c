use Rattle.std.proofs.Common.{◌≡◌, ◌++◌, drop}
use Rattle.std.specs.Prelude.{◌||◌}
use Rattle.react_core.specs.Keyed.{KeysRiseFrom}
use Rattle.react_core.specs.Reports.{after_reports, taken_by_all, armings_by_all}
use Rattle.react_steps.specs.World.{with_armings, made_of, fails_of}
use Rattle.react_steps.proofs.machine.take_reports.Given as goal

-- what is done so far and what is left give the whole
abbrev pub invariant-loop-report : goal.invariant-loop-report
invariant-loop-report l = record {
  sources : after_reports l.ticker l.sources.items (drop l.report-index l.reports) ≡ after_reports l.ticker l.fn.sources.items l.reports;
  hands : l.hands.items ++ taken_by_all l.ticker l.sources.items (drop l.report-index l.reports) ≡ l.fn.hands.items ++ taken_by_all l.ticker l.fn.sources.items l.reports;
  armed : with_armings l.armed.items (made_of l.fails (armings_by_all l.ticker l.sources.items (drop l.report-index l.reports)))
      ≡ with_armings l.fn.armed.items (made_of l.fault (armings_by_all l.ticker l.fn.sources.items l.reports));
  failed : (l.failed || fails_of l.fails (armings_by_all l.ticker l.sources.items (drop l.report-index l.reports)))
      ≡ fails_of l.fault (armings_by_all l.ticker l.fn.sources.items l.reports);
  rises : KeysRiseFrom 0 l.sources.items;
  armed_rises : KeysRiseFrom 0 l.armed.items;
}
