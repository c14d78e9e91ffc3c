use Rattle.bus_record.proofs.Alike.{ran-alone}
use Rattle.bus_record.proofs.laws.session_comes_to_its_part.Goals as goal

pub returns : goal.returns
returns c = ran-alone c.args.session.now
