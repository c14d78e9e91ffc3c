-- The wire that a session's first events open (D-Bus specification, Server Addresses).
use Rattle.std.specs.Prelude.{List, ◌∷◌, Option, Some, None}
use Rattle.std.specs.Option.{option_and_then}
use Rattle.react_core.specs.declared.outside.Event.{Event}
use Rattle.react_core.specs.declared.outside.Event.TheVariants as event
use Rattle.bus_session.specs.declared.session.Session.{Session}
use Rattle.bus_session.specs.Dialling.{Opened, Dialling, asks, opens, begins, dialled}

-- the wire that these events open, where the dialling has come so far; none where they open none
abbrev pub opened_from : Dialling → List Event → Option Opened
opened_from (opens o) events = Some o
opened_from (asks wanted purpose) (event.Dial wire question answer ∷ events) =
    option_and_then (λ d. opened_from d events) (dialled (asks wanted purpose) question answer)
opened_from d events = None

-- the wire that a session opened by these events of its own
abbrev pub opened : Session → List Event → Option Opened
opened s events = opened_from (begins s.party) events
