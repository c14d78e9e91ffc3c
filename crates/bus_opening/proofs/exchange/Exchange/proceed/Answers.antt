use Rattle.bus_opening.proofs.Looking.{ends_so, no_memory, looks_on}
use Rattle.bus_opening.proofs.exchange.Exchange.proceed.Goals as goal

pub returns-in-Ends : goal.returns-in-Ends
returns-in-Ends g c = record { run = ends_so _ c.args.wire c.args.self.now c.next.new.self _ c.in-Ends.verdict c.next.ensures.same c.in-Ends.ensures.next }

pub returns-in-Ok : goal.returns-in-Ok
returns-in-Ok g c = record { run = looks_on _ c.args.wire c.args.self.now c.next.new.self c.look.new.self c.in-Look.feed _ c.next.ensures.same c.in-Look.ensures.next c.in-Ok.ensures.ok }

pub returns-in-Err : goal.returns-in-Err
returns-in-Err g c = record { run = no_memory _ c.args.wire c.args.self.now c.next.new.self c.look.new.self _ c.next.ensures.same c.in-Err.ensures.err }
