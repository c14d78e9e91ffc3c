use Rattle.std.proofs.Output.{has_written_of_eq}
use Rattle.bus_address.proofs.TextLemmas.{guid_pieces}
use Rattle.bus_address.proofs.address.AddressDisplay.fmt.Goals as goal

pub returns-in-Some-clause-writes : goal.returns-in-Some-clause-writes
returns-in-Some-clause-writes g c = λ p ok.
    has_written_of_eq _ _ _ _ _
    (guid_pieces c.self.inside.transport c.self.inside.guid c.in-Some.guid c.guid_front.result.now c.args.self.now
    c.self.view_is c.in-Some.is c.guid_front.ensures)
    (c.write.ensures.writes p ok)
