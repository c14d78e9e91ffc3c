use Rattle.std.proofs.Common.{ℕ, ap}
use Rattle.bus_visit.proofs.TurnLemmas.{on-err}
use Rattle.bus_visit.proofs.TimedVisits.{insertion-keeps}
use Rattle.bus_visit.proofs.timing.look_at_clock.Goals as goal

pub returns-in_err-number-in-None-clause-refused :
    goal.returns-in_err-number-in-None-clause-refused
returns-in_err-number-in-None-clause-refused g c =
    on-err c.from_residual-in_err-number-in-None.result
    (insertion-keeps ℕ c.in_err-number-in-None.field-0.0 _ _ _ c.in_ok-moment.moment c.args.reactor.now.core
    c.insert_timer.new.self.core c.requires.rests c.in_ok-moment.ensures.told c.in_err-number-in-None.ensures.told
    (ap (λ r. r.core) c.in_err-number-in-None.ensures.err))
