-- How far a dialling has come, as it is defined.
use Rattle.bus_session.specs.Dialling.{the_wire, the_peers, a_peer, the_nonce, the_address, asks, fails, opens}
use Rattle.bus_session.specs.Dialling as diallings
use Rattle.bus_reference.specs.declared.dialling.Opened.{Opened}
use Rattle.bus_reference.specs.declared.dialling.Purpose.{Purpose}
use Rattle.bus_reference.specs.declared.dialling.Purpose.TheVariants as purpose
use Rattle.bus_reference.specs.declared.dialling.Dialling.{Dialling}
use Rattle.bus_reference.specs.declared.dialling.Dialling.TheVariants as dialling

abbrev pub as_opened : Opened → diallings.Opened
as_opened o = record { passes = o.passes; tcp = o.tcp; nonce = o.nonce }

abbrev pub as_purpose : Purpose → diallings.Purpose
as_purpose purpose.TheWire = the_wire
as_purpose (purpose.ThePeers wanted file) = the_peers wanted file
as_purpose (purpose.APeer left file) = a_peer left file
as_purpose (purpose.TheNonce passes) = the_nonce passes
as_purpose purpose.TheAddress = the_address

abbrev pub as_dialling : Dialling → diallings.Dialling
as_dialling (dialling.Asks question p) = asks question (as_purpose p)
as_dialling (dialling.Fails ending) = fails ending
as_dialling (dialling.Opens o) = opens (as_opened o)
