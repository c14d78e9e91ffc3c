-- What becomes of a session in two runs of many.
use Rattle.std.specs.Prelude.{◌≡◌, ℕ, List, map, Some, slice_get}
use Rattle.react_core.specs.declared.outside.Event.{Event}
use Rattle.bus_session.specs.declared.session.Session.{Session}
use Rattle.bus_session.specs.declared.ended.Ended.{Ended}
use Rattle.bus_session.specs.Alone.{alone}
use Rattle.bus_session.specs.Laws.{on_wire}
use Rattle.bus_session.specs.Outcomes.{outcome}
use Rattle.bus_session.specs.Parts.{part}
use Rattle.bus_record.specs.Pieces.{Pieces}
use Rattle.bus_record.specs.Headline.{Headline}

-- a run of some sessions, one of which is this one, under this wire, with this ending
pub record Ran (s : Session) (wire : ℕ) (e : Ended) (events : List Event) : Type 0 where
  pub sessions : List Session
  pub rounds : ℕ
  pub pieces : Pieces
  pub endeds : List Ended
  pub headline : Headline sessions rounds pieces endeds events
  pub session : slice_get sessions wire ≡ Some s
  pub ending : slice_get endeds wire ≡ Some e

-- In a run the session comes to what its own part of the whole record and its own last reading decide alone.
abbrev pub ComesToItsPart : Session → Type 0
ComesToItsPart s =
    (wire : ℕ) (e : Ended) (events : List Event) → Ran s wire e events →
    alone s (part wire events) e.moment ≡ Some (outcome e)

-- Of two runs in which the session had the same part, but for its wire's number, and the same last reading, it comes to
-- the same.
abbrev pub EndsAlike : Session → Type 0
EndsAlike s =
    (wire one two : ℕ) (e e' : Ended) (events events' : List Event) → Ran s one e events → Ran s two e' events' →
    map (on_wire wire) (part one events) ≡ map (on_wire wire) (part two events') → e.moment ≡ e'.moment →
    outcome e ≡ outcome e'
