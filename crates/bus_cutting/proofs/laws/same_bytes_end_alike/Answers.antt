use Rattle.bus_cutting.proofs.Parts.{alike}
use Rattle.bus_cutting.proofs.laws.same_bytes_end_alike.Goals as goal

pub returns : goal.returns
returns c = alike c.args.session.now
