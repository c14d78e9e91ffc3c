use Rattle.bus_record.proofs.Unique.{one_cutting}
use Rattle.bus_record.proofs.laws.cutting_is_unique.Goals as goal

pub returns : goal.returns
returns c = one_cutting c.args.sessions.now
