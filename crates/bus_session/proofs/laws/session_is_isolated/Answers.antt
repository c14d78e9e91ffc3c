use Rattle.bus_session.proofs.Isolated.{isolated}
use Rattle.bus_session.proofs.laws.session_is_isolated.Goals as goal

pub returns : goal.returns
returns c = isolated c.args.session.now
