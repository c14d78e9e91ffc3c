use Rattle.std.proofs.Common.{◌≡◌, sym, ◌∙◌, arith, None}
use Rattle.react_core.specs.Keyed.{at_key}
use Rattle.react_core.proofs.Keyed.{KeysRiseFrom-with_new_at}
use Rattle.react_steps.proofs.Machines.{no-value, free-too, keys-inserted}
use Rattle.react_steps.proofs.machine.Machine.insert.Goals as goal

pub returns-clause-sound : goal.returns-clause-sound
returns-clause-sound c =
    let m = c.args.self.now in
    let key = c.args.key in
    let free : at_key m.sources.items key ≡ None = rw c.deref.ensures.value at (no-value _ (sym c.has.ensures ∙ c.if-has.false)) in
    record {
      sources = rw c.in_ok-put_row.ensures (KeysRiseFrom-with_new_at 0 m.sources.items key _ c.requires.sources free (omega arith));
      armed = rw c.in_ok-put_row-2.ensures (KeysRiseFrom-with_new_at 0 m.armed.items key _ c.requires.armed (free-too m.armed.items m.sources.items c.requires.keys key free) (omega arith));
      keys = rw (c.in_ok-put_row.ensures, c.in_ok-put_row-2.ensures) (keys-inserted m.armed.items m.sources.items c.requires.keys key _ _ free);
      returned = c.requires.returned;
    }
