-- A record that a call of the poller cuts off by failing: what came before it could have gone on, then comes that call,
-- and behind it the removals of the sources that are left, each with an answer of its own.
use Rattle.std.specs.Prelude.{◌≡◌, ◌≢◌, ◌<◌, ◌⊎◌, ℕ, Bool, true, false, not, ◌==◌, if◌then◌else◌, List, [], ◌∷◌, ◌++◌}
use Rattle.std.specs.Prelude.{flat_map, Option, Some, None, is_some, slice_get}
use Rattle.std.specs.List.{list_any}
use Rattle.react_core.specs.declared.outside.Event.{Event}
use Rattle.react_core.specs.declared.outside.Event.TheVariants as event
use Rattle.react_core.specs.declared.outside.WaitAnswer.{WaitAnswer}
use Rattle.react_core.specs.declared.outside.WaitAnswer.TheVariants as wait_answer
use Rattle.react_core.specs.Round.{reports_of, is_quiet}
use Rattle.bus_session.specs.declared.session.Session.{Session}
use Rattle.bus_record.specs.Pieces.{Round, round, Pieces, ◌▸◌, events_of, told, rounds_in}
use Rattle.bus_record.specs.Places.{key_of, key_through}
use Rattle.bus_record.specs.Visits.{here, starts, goes_on}
use Rattle.bus_record.specs.Settled.{numbered, sleepers, AllRest, Run, timeout_at, rearming, removal, closing}

-- ---- calls of the poller and their answers

-- the same call of the poller, answered well
abbrev pub mended : Event → Event
mended (event.Add wire key ok) = event.Add wire key true
mended (event.Modify wire key read write ok) = event.Modify wire key read write true
mended (event.Delete wire key ok) = event.Delete wire key true
mended (event.Notify ok) = event.Notify true
mended e = e

-- the wait failed
abbrev pub is_failure : WaitAnswer → Bool
is_failure (wait_answer.Reported reports) = false
is_failure wait_answer.Interrupted = false
is_failure wait_answer.Failed = true

-- a call of the poller that failed
abbrev pub is_failed : Event → Bool
is_failed (event.Add wire key ok) = not ok
is_failed (event.Modify wire key read write ok) = not ok
is_failed (event.Delete wire key ok) = not ok
is_failed (event.Notify ok) = not ok
is_failed (event.Wait timeout answer) = is_failure answer
is_failed e = false

-- These calls of the poller were made, in order, each with an answer of its own. Over an outside that may lack memory
-- some may not have been told.
abbrev pub Made : Bool → List Event → List Event → Type 0
Made ample [] events = events ≡ []
Made ample (call ∷ calls) events =
    ((e : Event) × (more : List Event) × (events ≡ e ∷ more) × (mended e ≡ call) × Made ample calls more)
    ⊎ ((ample ≡ false) × Made ample calls events)

-- ---- the sources that are left

-- the removals of the sources that the sessions have, in order
abbrev pub removals : List Session → Pieces → List Event
removals sessions past = flat_map (λ n. removal n.wire (key_of n.wire past)) (numbered 0 sessions)

-- the same without the source of one wire
abbrev pub other_removals : ℕ → List Session → Pieces → List Event
other_removals wire sessions past =
    flat_map (λ n. if n.wire == wire then [] else removal n.wire (key_of n.wire past)) (numbered 0 sessions)

-- the key of a visit's source behind a call that failed: a removal takes it out all the same
abbrev pub key_left : Option ℕ → Event → Option ℕ
key_left key (event.Delete wire k ok) = None
key_left key e = key

-- ---- where the call failed

-- A visit that was due is cut off: had its last call been answered well, it would have gone on. Its own source is taken
-- out, if it has one.
pub record FailsInVisit (sessions : List Session) (rounds : ℕ) (ample : Bool) (past : Pieces) (wire : ℕ)
    (cut : List Event) : Type 0 where
  pub wires : List ℕ
  pub session : Session
  pub front : List Event
  pub call : Event
  pub own : List Event
  pub run : Run sessions rounds past (wire ∷ wires)
  pub at : slice_get sessions wire ≡ Some session
  pub goes : is_some (goes_on session wire (here wire past) (starts session wire past)
      (front ++ mended call ∷ [])) ≡ true
  pub failed : is_failed call ≡ true
  pub removed : Made ample (removal wire (key_left (key_through (key_of wire past) front) call)) own
  pub whole : cut ≡ front ++ call ∷ own

-- A round that was due has a wait or an arming that failed. It is done to its end all the same.
pub record FailsInRound (sessions : List Session) (rounds : ℕ) (ample : Bool) (past : Pieces) (r : Round) : Type 0 where
  pub run : Run sessions rounds past []
  pub rest : AllRest sessions past
  pub sleeper : sleepers sessions past ≢ []
  pub left : rounds_in past < rounds
  pub waited : r.timeout ≡ timeout_at sessions past r.first
  pub read : is_some r.second ≡ is_quiet r.timeout r.answer
  pub rearmed : Made ample (rearming past [] (reports_of r.answer)) r.rearmed
  pub failed : list_any is_failed (events_of (round r)) ≡ true

-- All was done that was due, and a removal failed.
pub record FailsAtEnd (sessions : List Session) (rounds : ℕ) (ample : Bool) (past : Pieces)
    (removed : List Event) : Type 0 where
  pub run : Run sessions rounds past []
  pub rest : AllRest sessions past
  pub spent : (sleepers sessions past ≡ []) ⊎ (rounds_in past ≡ rounds)
  pub made : Made ample (closing sessions past) removed
  pub failed : list_any is_failed removed ≡ true

-- these events are a record that a call of the poller cut off
pub data PollerFailed (sessions : List Session) (rounds : ℕ) (ample : Bool) (events : List Event) : Type 0 where
  in_visit : (past : Pieces) (wire : ℕ) (cut removed : List Event) →
      FailsInVisit sessions rounds ample past wire cut → Made ample (other_removals wire sessions past) removed →
      events ≡ told past ++ (cut ++ removed) → PollerFailed sessions rounds ample events
  in_round : (past : Pieces) (r : Round) (removed : List Event) → FailsInRound sessions rounds ample past r →
      Made ample (removals sessions past) removed → events ≡ told (past ▸ round r) ++ removed →
      PollerFailed sessions rounds ample events
  at_end : (past : Pieces) (removed : List Event) → FailsAtEnd sessions rounds ample past removed →
      events ≡ told past ++ removed → PollerFailed sessions rounds ample events
