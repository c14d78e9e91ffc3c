use Rattle.std.proofs.Common.{◌≡◌, drop}
use Rattle.std.specs.Option.{option_map}
use Rattle.bus_session.specs.Alone.{goes_through}
use Rattle.bus_reference.specs.Goings.{as_course}
use Rattle.bus_reference.proofs.going.goes_through.Given as goal

abbrev pub invariant-loop-event : goal.invariant-loop-event
invariant-loop-event l =
    goes_through (option_map as_course l.fn.course) l.events
    ≡ goes_through (option_map as_course l.course) (drop l.event-index l.events)
