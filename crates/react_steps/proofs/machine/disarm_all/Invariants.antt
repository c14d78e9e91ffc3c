use Rattle.std.proofs.Common.{◌≡◌, drop}
use Rattle.react_core.specs.Keyed.{KeysRiseFrom}
use Rattle.react_steps.specs.World.{without_reports}
use Rattle.react_steps.proofs.machine.disarm_all.Given as goal

abbrev pub invariant-loop-report : goal.invariant-loop-report
invariant-loop-report l = record {
  armed : without_reports l.armed.items (drop l.report-index l.reports) ≡ without_reports l.fn.armed.items l.reports;
  rises : KeysRiseFrom 0 l.armed.items;
}
