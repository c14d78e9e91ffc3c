use Rattle.std.proofs.Common.{true, false, ◌≡◌, ◌+◌, ◌++◌, ◌∙◌, sym, ap, drop, get_or}
use Rattle.std.specs.Prelude.{◌||◌}
use Rattle.react_core.specs.declared.outside.Report.{Report}
use Rattle.react_core.specs.Reports.{armings_by, armings_by_all}
use Rattle.react_core.proofs.Taking.{length-armings_by, sources_step, hands_step, armings_step}
use Rattle.react_steps.specs.World.{with_armings, made_of, fails_of}
use Rattle.react_steps.proofs.Reporting.{failing-armed, failing-failed, going-armed, going-failed, rises-report}
use Rattle.react_core.specs.Keyed.{KeysRiseFrom}
use Rattle.react_steps.proofs.machine.take_reports.Goals.{then-branch, else-branch}
use Rattle.react_steps.proofs.machine.take_reports.Goals as goal

pub loop-report-preserved : goal.loop-report-preserved
loop-report-preserved c =
    let t = c.args.ticker in
    let s = c.loop-report.sources.items in
    let s' = c.take_report.new.sources.items in
    let rs = c.args.reports.now in
    let i = c.loop-report.report-index in
    let d : Report = record { key = 0; read = false; write = false } in
    let was = c.loop-report.invariant in
    let now = c.in_ok-take_report.ensures in
    let lt = c.loop-report-test.true in
    let a = armings_by t s (get_or rs i d) in
    let rest = armings_by_all t s' (drop (i + 1) rs) in
    let one = length-armings_by t s (get_or rs i d) in
    let all = armings_step t s s' rs i d lt now.sources in
    let sources = sources_step t s s' rs i d lt now.sources ∙ was.sources in
    let hands = hands_step t s s' rs i d lt now.sources c.loop-report.hands.items c.take_report.new.hands.items now.hands ∙ was.hands in
    let rises : KeysRiseFrom 0 s' = rw now.sources (rises-report t s (get_or rs i d) was.rises) in
    let armed_was : with_armings c.loop-report.armed.items (made_of c.loop-report.fails (a ++ rest))
    ≡ with_armings c.args.armed.now.items (made_of c.args.fault (armings_by_all t c.args.sources.now.items rs)) =
    ap (λ l. with_armings c.loop-report.armed.items (made_of c.loop-report.fails l)) (sym all) ∙ was.armed in
    let failed_was : (c.loop-report.failed || fails_of c.loop-report.fails (a ++ rest)) ≡ fails_of c.args.fault (armings_by_all t c.args.sources.now.items rs) =
    ap (λ l. c.loop-report.failed || fails_of c.loop-report.fails l) (sym all) ∙ was.failed in
    elim c.if-branch.branch [
      | then-branch w ↦
          let fails : fails_of c.loop-report.fails a ≡ true = sym now.failed ∙ w.if-branch.true in
          rw (w.failed-is, w.fails-is) (record {
            sources = sources;
            hands = hands;
            armed = ap (λ l. with_armings l (made_of false rest)) now.armed ∙ failing-armed c.loop-report.fails a rest c.loop-report.armed.items one fails ∙ armed_was;
            failed = failing-failed c.loop-report.fails a rest c.loop-report.failed fails ∙ failed_was;
            rises = rises;
            armed_rises = c.take_report.ensures.rises;
          })
      | else-branch w ↦
          let fails : fails_of c.loop-report.fails a ≡ false = sym now.failed ∙ w.if-branch.false in
          rw (w.failed-is, w.fails-is) (record {
            sources = sources;
            hands = hands;
            armed = ap (λ l. with_armings l (made_of c.loop-report.fails rest)) now.armed ∙ going-armed c.loop-report.fails a rest c.loop-report.armed.items one fails ∙ armed_was;
            failed = going-failed c.loop-report.fails a rest c.loop-report.failed fails ∙ failed_was;
            rises = rises;
            armed_rises = c.take_report.ensures.rises;
          })
    ]
