use Rattle.bus_printed.proofs.Runs.{named}
use Rattle.bus_printed.proofs.fits.names_alone.Goals as goal

pub returns : goal.returns
returns c = named c.args.endeds.now c.args.events.now c.values_fit.ensures
