use Rattle.std.proofs.Common.{Ok, Err}
use Rattle.react_core.specs.declared.outside.Received.TheVariants as received
use Rattle.react_core.specs.declared.outside.Fault.TheVariants as fault
use Rattle.bus_opening.proofs.OpeningMoves.{read_told}
use Rattle.bus_opening.proofs.exchange.Exchange.read.Goals as goal

pub returns-in-Ok-Got : goal.returns-in-Ok-Got
returns-in-Ok-Got g c = record {
  run = read_told _ c.args.wire c.args.self.now c.recv.new.self _ _
      (Ok (received.Got c.in-Ok-Got.field-0-0)) c.requires.few (rw c.in-Ok-Got.field-0-is at c.in-Ok-Got.ensures.amount)
      c.requires.asked (rw c.in-Ok-Got.field-0-is at c.in-Ok-Got.ensures.told) c.in-Ok-Got.ensures.cause
      c.recv.ensures.keeps;
}

pub returns-in-Ok-End : goal.returns-in-Ok-End
returns-in-Ok-End g c = record {
  run = read_told _ c.args.wire c.args.self.now c.recv.new.self _ _ (Ok received.End)
      c.requires.few tt c.requires.asked (rw c.in-Ok-End.field-0-is at c.in-Ok-End.ensures.told) c.in-Ok-End.ensures.cause
      c.recv.ensures.keeps;
}

pub returns-in-Ok-NotReady : goal.returns-in-Ok-NotReady
returns-in-Ok-NotReady g c = record {
  run = read_told _ c.args.wire c.args.self.now c.recv.new.self _ _
      (Ok received.NotReady) c.requires.few tt c.requires.asked
      (rw c.in-Ok-NotReady.field-0-is at c.in-Ok-NotReady.ensures.told) c.in-Ok-NotReady.ensures.cause
      c.recv.ensures.keeps;
}

pub returns-in-Err-Failed : goal.returns-in-Err-Failed
returns-in-Err-Failed g c = record {
  run = read_told _ c.args.wire c.args.self.now c.recv.new.self _ _
      (Err fault.Failed) c.requires.few tt c.requires.asked
      (rw c.in-Err-Failed.field-0-is at c.in-Err-Failed.ensures.told)
      (rw c.in-Err-Failed.field-0-is at c.in-Err-Failed.ensures.cause) c.recv.ensures.keeps;
}

pub returns-in-Err-OutOfMemory : goal.returns-in-Err-OutOfMemory
returns-in-Err-OutOfMemory g c = record {
  run = read_told _ c.args.wire c.args.self.now c.recv.new.self _ _
      (Err fault.OutOfMemory) c.requires.few tt c.requires.asked
      (rw c.in-Err-OutOfMemory.field-0-is at c.in-Err-OutOfMemory.ensures.told)
      (rw c.in-Err-OutOfMemory.field-0-is at c.in-Err-OutOfMemory.ensures.cause) c.recv.ensures.keeps;
}
