use Rattle.std.proofs.Common.{◌∙◌, sym, refl, false, ap, length, drop, get_or, arith}
use Rattle.std.proofs.lemmas.List.{drop_all}
use Rattle.slab.specs.Slab.{entries}
use Rattle.react_core.specs.declared.outside.Report.{Report}
use Rattle.react_core.specs.Outer.{Poller, keeps-then}
use Rattle.react_core.specs.Reports.{armings_by, armings_by_all}
use Rattle.react_core.proofs.Dated.{dated-report}
use Rattle.react_core.proofs.Taking.{waiting, waiting-bound, waiting-report, length-reports, length-armings_by, sources_step, hands_step, armings_step}
use Rattle.react_core.proofs.Tries.{TriedSoFar-none, TriedSoFar-more, TriedSoFar-all, ReactCounted-worse, OnReactLack-worse, OnLack-same}
use Rattle.react_core.proofs.rounds.take_reports.Goals as goal

pub loop-report-init : goal.loop-report-init
loop-report-init g c = record {
  sources = refl;
  hands = refl;
  room = omega (arith, c.requires.room, waiting-bound (entries c.args.sources.now));
  held = omega arith;
  dated = c.requires.dated;
  capacity = refl;
  armed = TriedSoFar-none _ _ _;
  cause = refl;
  keeps = record { origin = refl; moment = refl; poller = tt; rooms = refl; wires = refl; dials = refl; doors = refl; ample = refl };
  memory = tt;
}

pub take_report-armed-requires : goal.take_report-armed-requires
take_report-armed-requires g c =
    let taken = waiting-report c.args.ticker (entries c.loop-report.sources) (get_or c.args.reports.now c.loop-report.report-index (record { key = 0; read = false; write = false })) in
    record { begun = c.requires.begun; dated = c.loop-report.invariant.dated; room = omega (arith, taken, c.loop-report.invariant.room) }

pub loop-report-preserved : goal.loop-report-preserved
loop-report-preserved g c =
    let t = c.args.ticker in
    let s = entries c.loop-report.sources in
    let s' = entries c.take_report-armed.new.sources in
    let rs = c.args.reports.now in
    let i = c.loop-report.report-index in
    let d : Report = record { key = 0; read = false; write = false } in
    let lt = c.loop-report-test.true in
    let before = c.loop-report.invariant in
    let now = c.take_report-armed.ensures in
    let taken = waiting-report t s (get_or rs i d) in
    let left = ap waiting now.sources in
    rw c.worse_of-answer.ensures (record {
      sources = sources_step t s s' rs i d lt now.sources ∙ before.sources;
      hands = hands_step t s s' rs i d lt now.sources c.loop-report.hands.items c.take_report-armed.new.hands.items now.hands ∙ before.hands;
      room = omega (arith, taken, left, before.room, now.len, now.capacity);
      held = omega (arith, taken, left, before.held, now.len);
      dated = rw now.sources (dated-report t s (get_or rs i d) before.dated);
      capacity = now.capacity ∙ before.capacity;
      armed = TriedSoFar-more _ _ _ (armings_by t s (get_or rs i d)) c.loop-report.answer _ _ _ _
          c.take_report-armed.result (length-armings_by t s (get_or rs i d)) before.armed (armings_step t s s' rs i d lt now.sources) now.answers
          (OnLack-same c.take_report-armed.result _ _ before.keeps.ample now.memory) now.told;
      cause = ReactCounted-worse c.loop-report.answer c.take_report-armed.result _ _ _ before.cause now.cause;
      memory = OnReactLack-worse c.loop-report.answer c.take_report-armed.result _ before.memory (OnLack-same c.take_report-armed.result _ _ before.keeps.ample now.memory);
      keeps = keeps-then Poller _ _ _ before.keeps now.keeps;
    })

pub returns-clause-tried : goal.returns-clause-tried
returns-clause-tried g c =
    TriedSoFar-all _ _ _ _ _ _ c.loop-report.invariant.armed
    (ap (λ rs. armings_by_all c.args.ticker (entries c.loop-report.sources) rs) (drop_all c.loop-report.report-index c.args.reports.now c.loop-report-test.false))

pub returns-clause-len : goal.returns-clause-len
returns-clause-len g c =
    sym (length-reports c.args.ticker (entries c.loop-report.sources) (drop c.loop-report.report-index c.args.reports.now))
    ∙ ap length c.loop-report.invariant.sources
    ∙ length-reports c.args.ticker (entries c.args.sources.now) c.args.reports.now

pub returns-clause-room : goal.returns-clause-room
returns-clause-room g c = omega (arith, waiting-bound (entries c.args.sources.now), c.loop-report.invariant.held)
