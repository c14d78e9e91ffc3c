-- A record that ends where a number was needed and the last one of its counter stood at its type's end.
use Rattle.std.specs.Prelude.{◌≡◌, ◌≢◌, ◌<◌, ◌≤◌, ◌+◌, ◌-◌, ◌^◌, ℕ, Bool, List, [], ◌∷◌, ◌++◌, length, Some, slice_get}
use Rattle.react_core.specs.declared.outside.Event.{Event}
use Rattle.react_core.specs.declared.reactor.Counter.{Counter}
use Rattle.react_core.specs.declared.reactor.Counter.TheVariants as counter
use Rattle.react_core.specs.Core.{Core}
use Rattle.bus_session.specs.declared.session.Session.{Session}
use Rattle.bus_session.specs.Counts.{notices_in}
use Rattle.bus_record.specs.Pieces.{Pieces, rounds_in, told}
use Rattle.bus_record.specs.Places.{key_of, key_through}
use Rattle.bus_record.specs.Visits.{here, starts, goes_on, notifying}
use Rattle.bus_record.specs.Settled.{AllRest, Run, sleepers, removal, closing}
use Rattle.bus_record.specs.Failing.{Made, other_removals}

-- The round's number was needed, and the last one stood at its type's end: all visits due were made, a session
-- slept, and a round was left. The removals follow, each with an answer of its own.
pub record NoRoundLeft (sessions : List Session) (rounds : ℕ) (ample : Bool) (old : Core)
    (events : List Event) : Type 0 where
  pub pieces : Pieces
  pub removals : List Event
  pub run : Run sessions rounds pieces []
  pub rest : AllRest sessions pieces
  pub sleeper : sleepers sessions pieces ≢ []
  pub left : rounds_in pieces < rounds
  pub last : old.ticker + rounds_in pieces ≡ 2 ^ 64 - 1
  pub made : Made ample (closing sessions pieces) removals
  pub whole : events ≡ told pieces ++ removals

-- A visit that was due came to the notice of its first timer, for which there was no number. Its own source is taken
-- out.
pub record RunsOutInVisit (sessions : List Session) (rounds : ℕ) (ample : Bool) (past : Pieces) (wire : ℕ)
    (cut : List Event) : Type 0 where
  pub wires : List ℕ
  pub session : Session
  pub front : List Event
  pub own : List Event
  pub run : Run sessions rounds past (wire ∷ wires)
  pub at : slice_get sessions wire ≡ Some session
  pub comes : goes_on session wire (here wire past) (starts session wire past) front ≡ Some notifying
  pub removed : Made ample (removal wire (key_through (key_of wire past) front)) own
  pub whole : cut ≡ front ++ own

-- The timer's number was needed, and the last one stood at its type's end: fewer numbers were left than there are
-- sessions. The removals of the other sources follow, each with an answer of its own.
pub record NoTimerLeft (sessions : List Session) (rounds : ℕ) (ample : Bool) (old : Core)
    (events : List Event) : Type 0 where
  pub pieces : Pieces
  pub wire : ℕ
  pub cut : List Event
  pub removals : List Event
  pub visit : RunsOutInVisit sessions rounds ample pieces wire cut
  pub last : old.made + notices_in (told pieces) ≡ 2 ^ 64 - 1
  pub needed : 2 ^ 64 ≤ old.made + length sessions
  pub made : Made ample (other_removals wire sessions pieces) removals
  pub whole : events ≡ told pieces ++ (cut ++ removals)

-- no number of this counter was left
abbrev pub NoneLeft : Counter → List Session → ℕ → Bool → Core → List Event → Type 0
NoneLeft counter.Round = NoRoundLeft
NoneLeft counter.Timer = NoTimerLeft
