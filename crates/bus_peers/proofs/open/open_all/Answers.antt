use Rattle.bus_peers.proofs.OpenLemmas.{completes}
use Rattle.bus_peers.proofs.open.open_all.Goals as goal

pub returns-clause-complete : goal.returns-clause-complete
returns-clause-complete g c =
    λ calm low few. completes c.open_over.result c.args.sessions.items c.args.rounds _ c.args.reactor.now.core
    c.open_over.new.reactor.core (c.open_over.ensures.opened).0 _ _ c.open_over.ensures.cause
    (c.open_over.ensures.opened).3 calm low few
