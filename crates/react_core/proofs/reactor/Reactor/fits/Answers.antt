use Rattle.std.proofs.Common.{rules}
use Rattle.react_core.proofs.Tables.{KeysRiseFrom-entries_from}
use Rattle.react_core.proofs.reactor.Reactor.fits.Goals as goal

pub returns : goal.returns
returns c = rw (← c.self.view_is) (record { ticker = search rules; made = search rules; begun = search rules; timers = search rules; rises = KeysRiseFrom-entries_from 0 c.self.inside.sources.slots })
