use Rattle.bus_record.proofs.Pauses.{pauses_little}
use Rattle.bus_record.proofs.laws.visit_pauses_little.Goals as goal

pub returns : goal.returns
returns c = pauses_little c.args.session.now
