-- A law of sessions: what is said of one holds of whatever wire it has.
use Rattle.std.specs.Prelude.{◌≡◌, ℕ, List, map, Option}
use Rattle.react_core.specs.declared.outside.Event.{Event}
use Rattle.react_core.specs.declared.outside.Event.TheVariants as event
use Rattle.bus_session.specs.declared.session.Session.{Session}
use Rattle.bus_session.specs.Alone.{alone}

-- the event on another wire
abbrev pub on_wire : ℕ → Event → Event
on_wire wire (event.Dial w question answer) = event.Dial wire question answer
on_wire wire (event.Recv w asked answer) = event.Recv wire asked answer
on_wire wire (event.Send w offered answer) = event.Send wire offered answer
on_wire wire (event.Close w) = event.Close wire
on_wire wire (event.Add w key ok) = event.Add wire key ok
on_wire wire (event.Modify w key read write ok) = event.Modify wire key read write ok
on_wire wire (event.Delete w key ok) = event.Delete wire key ok
on_wire wire e = e

-- A session comes to the same by the same part, on whatever wire, and the same last reading.
abbrev pub IsIsolated : Session → Type 0
IsIsolated s =
    (wire : ℕ) (one two : List Event) (moment : Option ℕ) → map (on_wire wire) one ≡ map (on_wire wire) two →
    alone s one moment ≡ alone s two moment
