-- Laws of conversations that are cut in one way or another.
use Rattle.std.specs.Prelude.{◌≡◌, ◌≢◌, ℕ, List, Option, Some}
use Rattle.react_core.specs.declared.outside.Event.{Event}
use Rattle.bus_session.specs.declared.ended.Ending.TheVariants as ending
use Rattle.bus_session.specs.declared.session.Session.{Session}
use Rattle.bus_session.specs.Dialling.{Opened}
use Rattle.bus_session.specs.declared.ended.Ended.{Ended}
use Rattle.bus_session.specs.Outcomes.{Outcome, outcome}
use Rattle.bus_session.specs.Parts.{part}
use Rattle.bus_session.specs.Alone.{alone}
use Rattle.bus_record.specs.Isolation.{Ran}
use Rattle.bus_cutting.specs.Opens.{opened}
use Rattle.bus_cutting.specs.Converse.{Final, Conversed, converse}
use Rattle.bus_cutting.specs.Draws.{DrawsFrom}

-- By these events of its own and its last reading the session opened this wire and then came to this, by an answer or
-- by what it was told and by no deadline. The events draw from these bytes.
pub record Concludes (s : Session) (o : Opened) (inbound : List ℕ) (fin : Final) (room : Option ℕ)
    (events : List Event) (moment : Option ℕ) (came : Outcome) : Type 0 where
  pub opens : opened s events ≡ Some o
  pub draws : DrawsFrom inbound fin room events
  pub comes : alone s events moment ≡ Some came
  pub in_time : came.ending ≢ ending.TimedOut
  pub over : came.ending ≢ ending.Waiting

-- an outcome but for what was left over
abbrev pub conversed_of : Outcome → Conversed
conversed_of came = record { ending = came.ending; written = came.written }

-- The session comes to what the whole inbound bytes come to, however both directions are cut and wherever it pauses.
abbrev pub CuttingIsNoMatter : Session → Type 0
CuttingIsNoMatter s =
    (o : Opened) (inbound : List ℕ) (fin : Final) (room : Option ℕ) (events : List Event) (moment : Option ℕ)
    (came : Outcome) → Concludes s o inbound fin room events moment came →
    converse s.party o inbound fin room ≡ Some (conversed_of came)

-- Two courses of a session over the same wire that draw from the same bytes end alike, and wrote the same.
abbrev pub EndsAlike : Session → Type 0
EndsAlike s =
    (o : Opened) (inbound : List ℕ) (fin : Final) (room : Option ℕ) (one two : List Event) (moment later : Option ℕ)
    (a b : Outcome) → Concludes s o inbound fin room one moment a → Concludes s o inbound fin room two later b →
    (a.ending ≡ b.ending) × (a.written ≡ b.written)

-- In a run of any sessions, of which this is one, it opened this wire by its own events, which draw from these bytes,
-- and neither its deadline nor the last round stopped it.
pub record Drew (s : Session) (wire : ℕ) (e : Ended) (events : List Event) (o : Opened) (inbound : List ℕ) (fin : Final)
    (room : Option ℕ) : Type 0 where
  pub run : Ran s wire e events
  pub opens : opened s (part wire events) ≡ Some o
  pub draws : DrawsFrom inbound fin room (part wire events)
  pub in_time : e.ending ≢ ending.TimedOut
  pub over : e.ending ≢ ending.Waiting

-- There its ending and what it wrote are those of the whole inbound bytes.
abbrev pub CuttingIsNoMatterInRuns : Session → Type 0
CuttingIsNoMatterInRuns s =
    (wire : ℕ) (e : Ended) (events : List Event) (o : Opened) (inbound : List ℕ) (fin : Final) (room : Option ℕ) →
    Drew s wire e events o inbound fin room →
    converse s.party o inbound fin room ≡ Some (conversed_of (outcome e))
