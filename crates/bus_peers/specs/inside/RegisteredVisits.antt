-- The parts of a visit: its first dialling, its calls over a registered wire, and how these leave the source.
use Rattle.std.specs.Prelude.{◌≡◌, ℕ, Bool, true, false, List, [], Option, Some}
use Rattle.react_core.specs.declared.outside.Event.{Event}
use Rattle.react_core.specs.declared.reactor.Dir.{Dir}
use Rattle.bus_session.specs.declared.session.Session.{Session}
use Rattle.bus_session.specs.Parts.{part}
use Rattle.bus_session.specs.Outcomes.{is_ended}
use Rattle.bus_session.specs.Dialling.{Dialling, Opened, conversation}
use Rattle.bus_session.specs.Dialling as dialling
use Rattle.bus_session.specs.Alone.{converses, silence, Course, goes_through, outcome_in}
use Rattle.bus_record.specs.Pieces.{Pieces, told}
use Rattle.bus_record.specs.Places.{waits_through, reported_through, armed_through, last_stop}
use Rattle.bus_record.specs.Visits.{Here, was_visited}
use Rattle.bus_visit.specs.Registry.{Held, waits, side_held}
use Rattle.bus_visit.specs.Asking.{asks, begins}
use Rattle.bus_visit.specs.Calls.{AreCalls}
use Rattle.bus_visit.specs.Dialled.{Answered, dials_through}
use Rattle.bus_peers.specs.inside.Shows.{IsSide}

-- The Dials of a session that had no visit: its dialling asks them, one after another, and they come to this.
pub record FirstDials (s : Session) (wire : ℕ) (past : Pieces) (dials : List Answered) (to : Dialling) : Type 0 where
  pub comes : dials_through (dialling.begins s.party) dials ≡ Some to
  pub unvisited : was_visited wire past ≡ false
  pub unheard : part wire (told past) ≡ []

-- a session whose conversation begins over an open wire
abbrev pub opened_course : Session → Opened → Course
opened_course s o = record { party = s.party; progress = converses (conversation s.party o) silence }

-- Calls of a visit over a registered wire: they lead its source and its session from here to there, and the visit is
-- over with this arming, or goes on.
pub record Converses (wire : ℕ) (from : Held) (begin : Course) (calls : List Event) (to : Held)
    (over : Option (List Event)) (end : Course) : Type 0 where
  pub called : AreCalls wire calls
  pub asked : asks (Some (begins from)) calls ≡ Some (record { held = to; over = over })
  pub through : goes_through (Some begin) calls ≡ Some end

-- in these calls the session ends, as it had not before
pub record Concludes (begin end : Course) : Type 0 where
  pub was_open : is_ended (outcome_in false begin.progress) ≡ false
  pub ended : is_ended (outcome_in false end.progress) ≡ true

-- Behind these events of a visit the directions stand as the source has them. Each that waits is armed, if it was so
-- where it waited before, and the direction that the last call paused waits.
pub record LeavesAsleep (h : Here) (held : Held) (events : List Event) : Type 0 where
  pub sides : (x : Dir) →
      IsSide (waits_through x (h.is_waiting x) events) (reported_through x (h.was_reported x) events) (side_held x held)
  pub armed : (x : Dir) (was : Bool) → (h.is_waiting x ≡ true → was ≡ true) → waits (side_held x held) ≡ true →
      armed_through x was events ≡ true
  pub dir : Dir
  pub stop : (last : Option Dir) → last_stop last events ≡ Some dir
  pub waits : waits (side_held dir held) ≡ true
