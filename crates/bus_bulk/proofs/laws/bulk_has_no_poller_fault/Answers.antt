use Rattle.bus_bulk.proofs.Whole.{no_poller_fault}
use Rattle.bus_bulk.proofs.laws.bulk_has_no_poller_fault.Goals as goal

pub returns : goal.returns
returns c = no_poller_fault c.args.n
