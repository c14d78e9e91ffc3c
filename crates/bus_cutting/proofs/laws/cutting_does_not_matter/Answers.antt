use Rattle.bus_cutting.proofs.Parts.{no-matter}
use Rattle.bus_cutting.proofs.laws.cutting_does_not_matter.Goals as goal

pub returns : goal.returns
returns c = no-matter c.args.session.now
