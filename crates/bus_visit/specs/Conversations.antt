-- Where the conversation of a session stands, on whichever side it is.
use Rattle.bus_opening.specs.Openings.{Opening}
use Rattle.bus_visit.specs.declared.conversation.Side.{Side}
use Rattle.bus_visit.specs.declared.conversation.Side.TheVariants.{Client, Server}

abbrev pub opening_of : Side → Opening
opening_of (Client c) = c
opening_of (Server s) = s
