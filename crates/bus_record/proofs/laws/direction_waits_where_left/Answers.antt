use Rattle.bus_record.proofs.Waiting.{waits_where_left}
use Rattle.bus_record.proofs.laws.direction_waits_where_left.Goals as goal

pub returns : goal.returns
returns c = waits_where_left c.args.sessions.now
