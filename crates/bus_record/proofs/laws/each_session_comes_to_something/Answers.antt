use Rattle.bus_record.proofs.Comes.{each_comes}
use Rattle.bus_record.proofs.laws.each_session_comes_to_something.Goals as goal

pub returns : goal.returns
returns c = each_comes c.args.sessions.now
