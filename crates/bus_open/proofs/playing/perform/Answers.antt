use Rattle.std.proofs.Common.{ap, sym, ◌∙◌}
use Rattle.react_core.specs.Core.{ReactorState}
use Rattle.bus_open.proofs.Cuts.{keeps_same}
use Rattle.bus_open.proofs.OverScene.{comes, follows-answers, exhausted-alone, fails, one-of, poller-alone, runs-out}
use Rattle.bus_open.proofs.playing.perform.Goals as goal

pub returns-in-Ok-opened-clause-opened : goal.returns-in-Ok-opened-clause-opened
returns-in-Ok-opened-clause-opened g c = λ zero.
    let all = rw c.as_slice.ensures.value at (c.write_report.ensures.all_open zero) in (
      c.in-Ok-opened.endeds.items,
      c.events-events.result.now,
      comes c.args.played.scene.script c.args.played.sessions.items c.args.played.rounds _ _ c.in-Ok-opened.endeds.items _ _ c.events-events.result.now
          c.requires.new c.events-events.ensures.told
          (follows-answers c.args.played.scene.script _ c.args.played.scene.rooms _ _ _ c.events-events.result.now c.open_all-opened.ensures.keeps.origin
          c.events-events.ensures.told c.requires.unwaited (ap (λ (r : ReactorState). r.events) c.in-Ok.ensures)
          c.open_all-opened.ensures.keeps.rooms c.events-events.ensures.follows) c.in-Ok-opened.ensures.cause
          c.in-Ok-opened.ensures.opened (rw c.as_slice.ensures.value at c.write_report.ensures.named),
      all.0,
      all.1,
    )

pub returns-in-Ok-opened-clause-other : goal.returns-in-Ok-opened-clause-other
returns-in-Ok-opened-clause-other g c = λ one.
    let other = rw c.as_slice.ensures.value at (c.write_report.ensures.other one) in (
      c.in-Ok-opened.endeds.items,
      c.events-events.result.now,
      comes c.args.played.scene.script c.args.played.sessions.items c.args.played.rounds _ _ c.in-Ok-opened.endeds.items _ _ c.events-events.result.now
          c.requires.new c.events-events.ensures.told
          (follows-answers c.args.played.scene.script _ c.args.played.scene.rooms _ _ _ c.events-events.result.now c.open_all-opened.ensures.keeps.origin
          c.events-events.ensures.told c.requires.unwaited (ap (λ (r : ReactorState). r.events) c.in-Ok.ensures)
          c.open_all-opened.ensures.keeps.rooms c.events-events.ensures.follows) c.in-Ok-opened.ensures.cause
          c.in-Ok-opened.ensures.opened (rw c.as_slice.ensures.value at c.write_report.ensures.named),
      other.0,
      other.1,
    )

pub returns-in-Ok-opened-clause-failed : goal.returns-in-Ok-opened-clause-failed
returns-in-Ok-opened-clause-failed g c = λ four.
    let failed = rw c.as_slice.ensures.value at (c.write_report.ensures.failed four) in (
      c.in-Ok-opened.endeds.items,
      c.events-events.result.now,
      comes c.args.played.scene.script c.args.played.sessions.items c.args.played.rounds _ _ c.in-Ok-opened.endeds.items _ _ c.events-events.result.now
          c.requires.new c.events-events.ensures.told
          (follows-answers c.args.played.scene.script _ c.args.played.scene.rooms _ _ _ c.events-events.result.now c.open_all-opened.ensures.keeps.origin
          c.events-events.ensures.told c.requires.unwaited (ap (λ (r : ReactorState). r.events) c.in-Ok.ensures)
          c.open_all-opened.ensures.keeps.rooms c.events-events.ensures.follows) c.in-Ok-opened.ensures.cause
          c.in-Ok-opened.ensures.opened (rw c.as_slice.ensures.value at c.write_report.ensures.named),
      failed.0,
      failed.1,
    )

pub returns-clause-status : goal.returns-clause-status
returns-clause-status g c = rw c.status_of.ensures (one-of c.in-Err.refusal)

pub returns-clause-poller : goal.returns-clause-poller
returns-clause-poller g c = λ six. (
  fails c.args.played.scene.script c.args.played.sessions.items c.args.played.rounds _ _ c.events-events.result.now c.requires.new c.events-events.ensures.told
      (follows-answers c.args.played.scene.script _ c.args.played.scene.rooms _ _ _ c.events-events.result.now c.open_all-opened.ensures.keeps.origin
      c.events-events.ensures.told c.requires.unwaited (ap (λ (r : ReactorState). r.events) c.in-Ok.ensures) c.open_all-opened.ensures.keeps.rooms c.events-events.ensures.follows)
      (rw (poller-alone c.in-Err.refusal (sym c.status_of.ensures ∙ six)) at c.in-Err.ensures.cause)
      (let refused = rw (poller-alone c.in-Err.refusal (sym c.status_of.ensures ∙ six)) at (c.in-Err.ensures.opened).3 in
      ((c.in-Err.ensures.opened).0, (c.in-Err.ensures.opened).1, refused.1)),
  keeps_same _,
)

pub returns-clause-exhausted : goal.returns-clause-exhausted
returns-clause-exhausted g c = λ seven.
    let alone = exhausted-alone c.in-Err.refusal (sym c.status_of.ensures ∙ seven) in
    let refused = rw alone.2 at (c.in-Err.ensures.opened).3 in (
      runs-out alone.0 c.args.played.scene.script c.args.played.sessions.items c.args.played.rounds c.args.played.tick
          c.args.played.timer
          c.in-Ok.reactor.core _ _ c.events-events.result.now c.requires.new c.events-events.ensures.told
          (follows-answers c.args.played.scene.script _ c.args.played.scene.rooms _ _ _ c.events-events.result.now
          c.open_all-opened.ensures.keeps.origin c.events-events.ensures.told c.requires.unwaited
          (ap (λ (r : ReactorState). r.events) c.in-Ok.ensures) c.open_all-opened.ensures.keeps.rooms
          c.events-events.ensures.follows) (ap (λ r. r.core.ticker) c.in-Ok.ensures)
          (ap (λ (r : ReactorState). r.core.made) c.in-Ok.ensures)
          ((c.in-Err.ensures.opened).0, (c.in-Err.ensures.opened).1, refused.2),
      keeps_same _,
    )
