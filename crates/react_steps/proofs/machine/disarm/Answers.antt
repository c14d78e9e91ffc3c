use Rattle.std.proofs.Common.{refl}
use Rattle.react_steps.proofs.Rows.{rises-written}
use Rattle.react_steps.proofs.machine.disarm.Goals as goal

pub returns-after-before-2-clause-rises : goal.returns-after-before-2-clause-rises
returns-after-before-2-clause-rises c = rises-written c.args.report.key c.args.armed.now.items _ _ (rw c.deref.ensures.value at c.in-Some.ensures) c.requires refl
