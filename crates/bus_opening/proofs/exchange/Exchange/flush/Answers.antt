use Rattle.std.proofs.Common.{Ok, Err}
use Rattle.react_core.specs.declared.outside.Sent.TheVariants as sent
use Rattle.react_core.specs.declared.outside.Fault.TheVariants as fault
use Rattle.bus_opening.proofs.OpeningMoves.{sent_on, same_then}
use Rattle.bus_opening.proofs.exchange.Exchange.flush.Goals as goal

pub loop-self-preserved : goal.loop-self-preserved
loop-self-preserved g c = (
  sent_on _ c.args.wire c.args.self.now c.loop-self.self c.send_rest.new.self _ _ _ _ (Ok (sent.Took c.in-Ok-Took.field-0-0)) c.loop-self.invariant.0
      c.send_rest.ensures.some (rw c.in-Ok-Took.field-0-is at c.in-Ok-Took.ensures.amount)
      (rw c.in-Ok-Took.field-0-is at c.in-Ok-Took.ensures.moves)
      (rw c.in-Ok-Took.field-0-is at c.in-Ok-Took.ensures.less) c.in-Ok-Took.ensures.cause
      c.send_rest.ensures.keeps,
  same_then c.args.self.now c.loop-self.self c.send_rest.new.self c.loop-self.invariant.1 c.send_rest.ensures.same,
)

pub returns-in-Ok-NotReady-clause-run : goal.returns-in-Ok-NotReady-clause-run
returns-in-Ok-NotReady-clause-run g c = sent_on _ c.args.wire c.args.self.now c.loop-self.self c.send_rest.new.self _ _ _ _ (Ok sent.NotReady) c.loop-self.invariant.0
    c.send_rest.ensures.some tt (rw c.in-Ok-NotReady.field-0-is at c.in-Ok-NotReady.ensures.moves)
    (rw c.in-Ok-NotReady.field-0-is at c.in-Ok-NotReady.ensures.less) c.in-Ok-NotReady.ensures.cause
    c.send_rest.ensures.keeps

pub returns-in-Err-Failed-clause-run : goal.returns-in-Err-Failed-clause-run
returns-in-Err-Failed-clause-run g c = sent_on _ c.args.wire c.args.self.now c.loop-self.self c.send_rest.new.self _ _ _ _ (Err fault.Failed) c.loop-self.invariant.0
    c.send_rest.ensures.some tt (rw c.in-Err-Failed.field-0-is at c.in-Err-Failed.ensures.moves)
    c.in-Err-Failed.ensures.less (rw c.in-Err-Failed.field-0-is at c.in-Err-Failed.ensures.cause)
    c.send_rest.ensures.keeps

pub returns-in-Err-OutOfMemory-clause-run : goal.returns-in-Err-OutOfMemory-clause-run
returns-in-Err-OutOfMemory-clause-run g c = sent_on _ c.args.wire c.args.self.now c.loop-self.self c.send_rest.new.self _ _ _ _ (Err fault.OutOfMemory) c.loop-self.invariant.0
    c.send_rest.ensures.some tt (rw c.in-Err-OutOfMemory.field-0-is at c.in-Err-OutOfMemory.ensures.moves)
    c.in-Err-OutOfMemory.ensures.less (rw c.in-Err-OutOfMemory.field-0-is at c.in-Err-OutOfMemory.ensures.cause)
    c.send_rest.ensures.keeps
