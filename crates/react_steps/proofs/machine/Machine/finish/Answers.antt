use Rattle.std.proofs.Common.{◌∙◌, sym}
use Rattle.react_core.specs.Reports.{armings_by_all}
use Rattle.react_steps.specs.World.{made_of}
use Rattle.react_steps.proofs.Machines.{keys-armings}
use Rattle.react_steps.proofs.Reporting.{keys-reports, rises-reports, not-none}
use Rattle.react_steps.proofs.machine.Machine.finish.Goals as goal

pub returns-clause-sound : goal.returns-clause-sound
returns-clause-sound c =
    let m = c.args.self.now in
    let done = c.in_ok-failed.ensures in
    record {
      sources = rw done.sources (rises-reports m.ticker m.sources.items c.as_slice.result.now c.requires.sources);
      armed = c.take_reports.ensures.rises;
      keys = λ key. rw (done.sources, done.armed) (keys-armings m.armed.items (made_of c.args.fault (armings_by_all m.ticker m.sources.items c.as_slice.result.now)) key ∙ c.requires.keys key
          ∙ sym (keys-reports m.ticker m.sources.items c.as_slice.result.now key));
      returned = λ u. absurd (not-none _ c.take.ensures.after u);
    }
