use Rattle.bus_opening.proofs.OpeningMoves.{runs_on, polls_on}
use Rattle.bus_opening.proofs.exchange.Exchange.converse.Goals as goal

pub returns-in-Some : goal.returns-in-Some
returns-in-Some g c = record { run = polls_on _ c.args.wire c.args.self.now c.loop-step.self c.flush.new.self _ _ _ c.in-Some.step c.loop-step.invariant c.in-Some.ensures.run }

pub returns-in-Some-proceed : goal.returns-in-Some-proceed
returns-in-Some-proceed g c = record {
  run = polls_on _ c.args.wire c.args.self.now c.flush.new.self c.proceed.new.self _ _ _ c.in-Some-proceed.step
      (runs_on _ c.args.wire c.args.self.now c.loop-step.self c.flush.new.self _ _ _ c.loop-step.invariant c.in_default.ensures.run.0) c.in-Some-proceed.ensures.run;
}

pub loop-step-preserved : goal.loop-step-preserved
loop-step-preserved g c = runs_on _ c.args.wire c.args.self.now c.flush.new.self c.proceed.new.self _ _ _
    (runs_on _ c.args.wire c.args.self.now c.loop-step.self c.flush.new.self _ _ _ c.loop-step.invariant c.in_default.ensures.run.0) c.in_default-proceed.ensures.run.0
