use Rattle.std.proofs.Common.{sym, refl}
use Rattle.react_steps.proofs.Rows.{with_at-absent, rises-written}
use Rattle.react_steps.proofs.machine.arm.Goals as goal

pub returns-in_default-clause-armed : goal.returns-in_default-clause-armed
returns-in_default-clause-armed c = sym (with_at-absent c.args.armed.now.items c.args.key c.args.directions (rw c.deref.ensures.value at c.in_default.ensures))

pub returns-in-Some-clause-rises : goal.returns-in-Some-clause-rises
returns-in-Some-clause-rises c = rises-written c.args.key c.args.armed.now.items _ _ (rw c.deref.ensures.value at c.in-Some.ensures) c.requires refl
