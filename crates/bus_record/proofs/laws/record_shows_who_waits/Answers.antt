use Rattle.bus_record.proofs.Flat.{waits_in_record}
use Rattle.bus_record.proofs.LeftPlaces.{waits_at_places}
use Rattle.bus_record.proofs.laws.record_shows_who_waits.Goals as goal

pub returns-clause-test : goal.returns-clause-test
returns-clause-test c = waits_in_record c.args.sessions.now

pub returns-clause-places : goal.returns-clause-places
returns-clause-places c = waits_at_places c.args.sessions.now
