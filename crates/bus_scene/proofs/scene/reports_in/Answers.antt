use Rattle.std.proofs.Common.{◌++◌, take, ap, ◌∙◌}
use Rattle.std.specs.List.{filter_map}
use Rattle.std.specs.Option.{option_to_list}
use Rattle.bus_scene.specs.Cursors.{report_in}
use Rattle.bus_scene.proofs.WaitLemmas.{filter_map_more}
use Rattle.bus_scene.proofs.scene.reports_in.Goals as goal

pub loop-ready-preserved : goal.loop-ready-preserved
loop-ready-preserved c =
    c.in_ok-push_some.ensures
    ∙ ap (λ xs. xs ++ option_to_list c.report_in.result) c.loop-ready.invariant
    ∙ ap (λ r. filter_map (report_in c.args.keys.now) (take c.loop-ready.ready-index c.args.readies.now)
    ++ option_to_list r) c.report_in.ensures
    ∙ filter_map_more (report_in c.args.keys.now) c.args.readies.now c.loop-ready.ready-index _ c.loop-ready-test.true
