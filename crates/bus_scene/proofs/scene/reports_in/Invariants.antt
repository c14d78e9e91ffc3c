use Rattle.std.proofs.Common.{◌≡◌, take}
use Rattle.std.specs.List.{filter_map}
use Rattle.bus_scene.specs.Cursors.{report_in}
use Rattle.bus_scene.proofs.scene.reports_in.Given as goal

abbrev pub invariant-loop-ready : goal.invariant-loop-ready
invariant-loop-ready l = l.named.items ≡ filter_map (report_in l.keys) (take l.ready-index l.readies)
