use Rattle.std.proofs.Common.{◌∙◌}
use Rattle.react_steps.proofs.Reporting.{keys-without}
use Rattle.react_steps.proofs.machine.Machine.returned.Goals as goal

pub returns-clause-sound : goal.returns-clause-sound
returns-clause-sound c =
    let m = c.args.self.now in
    record {
      sources = c.requires.sources;
      armed = c.disarm_all.ensures.rises;
      keys = λ key. rw c.disarm_all.ensures.armed (keys-without m.armed.items c.as_slice-2.result.now key ∙ c.requires.keys key);
      returned = λ u. c.if-not-self.false;
    }
