use Rattle.std.proofs.Common.{◌≡◌, ◌∙◌, ap, sym, true, false}
use Rattle.std.specs.Prelude.{if◌then◌else◌}
use Rattle.react_core.specs.Futures as futures
use Rattle.react_core.specs.Futures.{asks}
use Rattle.react_core.specs.Keyed.{at_key}
use Rattle.react_core.specs.Places.{Source}
use Rattle.react_core.specs.Reports.{arming_of}
use Rattle.react_core.specs.Sources.{side, with_source}
use Rattle.react_core.proofs.Keyed.{KeysRiseFrom-with_at}
use Rattle.react_steps.specs.World.{with_armings, polled}
use Rattle.react_steps.proofs.Machines.{row-found, row-written, sound-keys, future-made}
use Rattle.react_steps.proofs.machine.Machine.poll_future.Goals.{else-fault-via-then-fault+else-arms, else-fault-via-else-fault}
use Rattle.react_steps.proofs.machine.Machine.poll_future.Goals as goal

pub returns-clause-makes : goal.returns-clause-makes
returns-clause-makes c =
    let m = c.args.self.now in
    let key = c.args.key in
    let row = c.index_mut-row.result.now in
    let s : Source = row.1 in
    let d = side c.args.dir s in
    let stands = rw c.deref.ensures.value at c.in-Some.ensures in
    let written = row-written key m.sources.items c.in-Some.at row stands c.index_mut-row.ensures.value in
    let b = asks d (at_key d.futures c.args.place) in
    let free : c.args.fault ≡ true → b ≡ false = λ f. sym c.future_arms-arms.ensures ∙ elim c.else-fault.branch [
      | else-fault-via-then-fault+else-arms w ↦ w.if-arms.false
      | else-fault-via-else-fault w ↦ absurd (let e = w.if-fault.false in cc)
    ] in
    future-made m key c.args.dir s (row-found key m.sources.items c.in-Some.at row stands c.index_mut-row.ensures.value) c.args.place c.args.task c.args.fault _ _ _ _
    (written c.poll_future.new.self ∙ ap (λ x. with_source m.sources.items key x) c.in_ok-ready.ensures.source)
    (c.arm_waiting.ensures.armed ∙ ap (λ b. if b then with_armings m.armed.items (arming_of key c.poll_future.new.self) else m.armed.items) c.future_arms-arms.ensures
    ∙ ap (λ x. if b then with_armings m.armed.items (arming_of key x) else m.armed.items) c.in_ok-ready.ensures.source)
    free
    (c.quiet-2.ensures.answer ∙ c.future_answer.ensures ∙ ap (λ r. polled (futures.future_answer r)) c.in_ok-ready.ensures.ready)
    c.quiet-2.ensures.woken

pub returns-clause-sound : goal.returns-clause-sound
returns-clause-sound c =
    let m = c.args.self.now in
    let key = c.args.key in
    let row = c.index_mut-row.result.now in
    let stands = rw c.deref.ensures.value at c.in-Some.ensures in
    let written = row-written key m.sources.items c.in-Some.at row stands c.index_mut-row.ensures.value c.poll_future.new.self in
    record {
      sources = rw written (KeysRiseFrom-with_at 0 m.sources.items key c.poll_future.new.self c.requires.sources);
      armed = c.arm_waiting.ensures.rises;
      keys = sound-keys m.sources.items _ m.armed.items c.arm_waiting.new.armed.items key c.poll_future.new.self c.future_arms-arms.result (arming_of key c.poll_future.new.self)
          c.requires.keys written c.arm_waiting.ensures.armed;
      returned = c.requires.returned;
    }
