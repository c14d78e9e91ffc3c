use Rattle.std.proofs.Common.{◌≡◌, ◌∙◌, ◌++◌, ap, sym, ℕ, List, true, false}
use Rattle.std.specs.Option.{option_to_list}
use Rattle.std.specs.Prelude.{if◌then◌else◌}
use Rattle.react_core.specs.Places.{Source}
use Rattle.react_core.specs.Readiness.{direction_outcome, arms}
use Rattle.react_core.specs.Reports.{arming_of}
use Rattle.react_core.specs.Sources.{side, with_source}
use Rattle.react_core.proofs.Keyed.{KeysRiseFrom-with_at}
use Rattle.react_steps.specs.World.{with_armings}
use Rattle.react_steps.proofs.Machines.{row-found, row-written, sound-keys, poll-made}
use Rattle.react_steps.proofs.machine.Machine.poll.Goals.{else-fault-via-then-fault+else-arms, else-fault-via-else-fault}
use Rattle.react_steps.proofs.machine.Machine.poll.Goals as goal

pub returns-clause-makes : goal.returns-clause-makes
returns-clause-makes c =
    let m = c.args.self.now in
    let key = c.args.key in
    let row = c.index_mut-row.result.now in
    let s : Source = row.1 in
    let d = side c.args.dir s in
    let o = direction_outcome c.args.task d in
    let stands = rw c.deref.ensures.value at c.in-Some.ensures in
    let asked = c.poll-asked.ensures.asked in
    let written = row-written key m.sources.items c.in-Some.at row stands c.index_mut-row.ensures.value in
    let free : c.args.fault ≡ true → arms o ≡ false = λ f. sym c.poll_arms-arms.ensures ∙ elim c.else-fault.branch [
      | else-fault-via-then-fault+else-arms w ↦ w.if-arms.false
      | else-fault-via-else-fault w ↦ absurd (let e = w.if-fault.false in cc)
    ] in
    poll-made m key c.args.dir s (row-found key m.sources.items c.in-Some.at row stands c.index_mut-row.ensures.value) c.args.task c.args.fault _ _ _ _ _
    (written c.poll-asked.new.self ∙ ap (λ x. with_source m.sources.items key x) c.poll-asked.ensures.source)
    (c.count_of-self.ensures o asked)
    (c.arm_waiting.ensures.armed ∙ ap (λ b. if b then with_armings m.armed.items (arming_of key c.poll-asked.new.self) else m.armed.items) c.poll_arms-arms.ensures
    ∙ ap (λ x. if arms o then with_armings m.armed.items (arming_of key x) else m.armed.items) c.poll-asked.ensures.source)
    free
    (c.answer_of.ensures o asked)
    (c.from_vec.ensures.items ∙ c.in_ok-take_task.ensures ∙ ap (λ (l : List ℕ). l ++ option_to_list c.displaced.result) c.new-woken.ensures.items ∙ ap option_to_list (c.displaced.ensures o asked))

pub returns-clause-sound : goal.returns-clause-sound
returns-clause-sound c =
    let m = c.args.self.now in
    let key = c.args.key in
    let row = c.index_mut-row.result.now in
    let stands = rw c.deref.ensures.value at c.in-Some.ensures in
    let written = row-written key m.sources.items c.in-Some.at row stands c.index_mut-row.ensures.value c.poll-asked.new.self in
    record {
      sources = rw written (KeysRiseFrom-with_at 0 m.sources.items key c.poll-asked.new.self c.requires.sources);
      armed = c.arm_waiting.ensures.rises;
      keys = sound-keys m.sources.items _ m.armed.items c.arm_waiting.new.armed.items key c.poll-asked.new.self c.poll_arms-arms.result (arming_of key c.poll-asked.new.self)
          c.requires.keys written c.arm_waiting.ensures.armed;
      returned = c.requires.returned;
    }
