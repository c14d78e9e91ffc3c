use Rattle.react_core.proofs.Keyed.{KeysRiseFrom-without_at}
use Rattle.react_steps.proofs.Machines.{keys-removed}
use Rattle.react_steps.proofs.machine.Machine.remove.Goals as goal

pub returns-clause-sound : goal.returns-clause-sound
returns-clause-sound c =
    let m = c.args.self.now in
    let key = c.args.key in
    record {
      sources = rw c.take_row.ensures (KeysRiseFrom-without_at 0 m.sources.items key c.requires.sources);
      armed = rw c.take_row-2.ensures (KeysRiseFrom-without_at 0 m.armed.items key c.requires.armed);
      keys = rw (c.take_row.ensures, c.take_row-2.ensures) (keys-removed m.armed.items m.sources.items c.requires.keys key c.requires.armed c.requires.sources);
      returned = c.requires.returned;
    }
