use Rattle.std.proofs.Common.{◌∙◌, ap}
use Rattle.react_core.specs.Sources.{with_source}
use Rattle.react_core.proofs.Keyed.{KeysRiseFrom-with_at}
use Rattle.react_steps.proofs.Machines.{row-found, row-written, sound-keys, cancel-made}
use Rattle.std.proofs.Common.{false, [], refl}
use Rattle.react_steps.proofs.machine.Machine.cancel.Goals as goal

pub returns-clause-makes : goal.returns-clause-makes
returns-clause-makes c =
    let m = c.args.self.now in
    let key = c.args.key in
    let row = c.index_mut-row.result.now in
    let stands = rw c.deref.ensures.value at c.in-Some.ensures in
    let written = row-written key m.sources.items c.in-Some.at row stands c.index_mut-row.ensures.value in
    cancel-made m key c.args.dir row.1 (row-found key m.sources.items c.in-Some.at row stands c.index_mut-row.ensures.value) c.args.place _ _ _
    (written c.cancel.new.self ∙ ap (λ x. with_source m.sources.items key x) c.cancel.ensures) c.quiet-2.ensures.answer c.quiet-2.ensures.woken

pub returns-clause-sound : goal.returns-clause-sound
returns-clause-sound c =
    let m = c.args.self.now in
    let key = c.args.key in
    let row = c.index_mut-row.result.now in
    let stands = rw c.deref.ensures.value at c.in-Some.ensures in
    let written = row-written key m.sources.items c.in-Some.at row stands c.index_mut-row.ensures.value c.cancel.new.self in
    record {
      sources = rw written (KeysRiseFrom-with_at 0 m.sources.items key c.cancel.new.self c.requires.sources);
      armed = c.requires.armed;
      keys = sound-keys m.sources.items _ m.armed.items m.armed.items key c.cancel.new.self false [] c.requires.keys written refl;
      returned = c.requires.returned;
    }
