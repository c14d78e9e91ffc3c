use Rattle.bus_record.proofs.Alike.{ends-alike}
use Rattle.bus_record.proofs.laws.session_ends_alike.Goals as goal

pub returns : goal.returns
returns c = ends-alike c.args.session.now c.session_is_isolated.ensures
