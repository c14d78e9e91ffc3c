-- A settled record: each session is visited, in order, and then round after round those that a round makes due; before
-- each round and at the end every session has ended or sleeps.
use Rattle.std.specs.Prelude.{◌≡◌, ◌≢◌, ◌<◌, ◌⊎◌, ℕ, ◌+◌, ◌-◌, min, Bool, true, false, not, nat_le, ◌&&◌, ◌||◌}
use Rattle.std.specs.Prelude.{if◌then◌else◌, List, [], ◌∷◌, ◌++◌, map, filter, filter_map, flat_map}
use Rattle.std.specs.Prelude.{Option, Some, None, is_some, slice_get}
use Rattle.std.specs.List.{list_all}
use Rattle.react_core.specs.declared.outside.Event.{Event}
use Rattle.react_core.specs.declared.outside.Event.TheVariants as event
use Rattle.react_core.specs.declared.outside.Report.{Report}
use Rattle.react_core.specs.declared.outside.WaitAnswer.TheVariants as wait_answer
use Rattle.react_core.specs.declared.reactor.Dir.TheVariants.{Read, Write}
use Rattle.react_core.specs.Round.{reports_of, is_quiet}
use Rattle.bus_session.specs.declared.session.Session.{Session}
use Rattle.bus_session.specs.Parts.{part}
use Rattle.bus_session.specs.Outcomes.{Outcome}
use Rattle.bus_session.specs.Alone.{alone, has_reached}
use Rattle.bus_record.specs.Pieces.{Round, visit, round, Pieces, nothing, ◌▸◌, told, rounds_in}
use Rattle.bus_record.specs.Places.{key_of, holder, waits, reports, named, moment, deadline_at, sleeps, has_ended}
use Rattle.bus_record.specs.Visits.{Visit}

-- ---- all sessions

-- a session with its wire
pub record Numbered : Type 0 where
  pub wire : ℕ
  pub session : Session

-- the sessions with their wires, the first of which has this number
abbrev pub numbered : ℕ → List Session → List Numbered
numbered wire [] = []
numbered wire (s ∷ sessions) = record { wire = wire; session = s } ∷ numbered (wire + 1) sessions

-- those that sleep, in order
abbrev pub sleepers : List Session → Pieces → List Numbered
sleepers sessions past = filter (λ n. sleeps n.session n.wire past) (numbered 0 sessions)

-- every session has ended or sleeps
abbrev pub AllRest : List Session → Pieces → Type 0
AllRest sessions past =
    list_all (λ n. has_ended n.session n.wire past || sleeps n.session n.wire past) (numbered 0 sessions) ≡ true

-- ---- a round

-- from a reading to a deadline; zero where it has reached it
abbrev pub distance : ℕ → ℕ → ℕ
distance moment deadline = if nat_le deadline moment then 0 else deadline - moment

-- the less of two distances
abbrev pub nearer : ℕ → Option ℕ → Option ℕ
nearer d None = Some d
nearer d (Some least) = Some (min d least)

-- the least distance to a deadline
abbrev pub nearest : ℕ → List ℕ → Option ℕ
nearest moment [] = None
nearest moment (deadline ∷ deadlines) = nearer (distance moment deadline) (nearest moment deadlines)

-- how long a round waits that begins at this reading: up to the next deadline of a sleeper
abbrev pub timeout_at : List Session → Pieces → ℕ → Option ℕ
timeout_at sessions past moment =
    nearest moment (filter_map (λ n. deadline_at n.session n.wire past) (sleepers sessions past))

-- one Modify with these directions, and none without
abbrev pub arming_of : ℕ → ℕ → Bool → Bool → List Event
arming_of wire key false false = []
arming_of wire key true false = event.Modify wire key true false true ∷ []
arming_of wire key false true = event.Modify wire key false true true ∷ []
arming_of wire key true true = event.Modify wire key true true true ∷ []

-- what is armed anew for a report of a key, after the reports so far: what its holder waits for and none of them named
abbrev pub rearming_of : Pieces → List Report → ℕ → Option ℕ → List Event
rearming_of past seen key None = []
rearming_of past seen key (Some wire) =
    arming_of wire key (waits Read wire past && not (named Read key seen))
    (waits Write wire past && not (named Write key seen))

-- the re-arming, report by report
abbrev pub rearming : Pieces → List Report → List Report → List Event
rearming past seen [] = []
rearming past seen (t ∷ reported) =
    rearming_of past (t ∷ seen) t.key (holder t.key past) ++ rearming past (t ∷ seen) reported

-- a round after these pieces
pub record IsRound (sessions : List Session) (past : Pieces) (r : Round) : Type 0 where
  pub waited : r.timeout ≡ timeout_at sessions past r.first
  pub answered : r.answer ≢ wait_answer.Failed
  -- the clock is read again exactly where the wait ended with no report and its timeout wasn't zero
  pub read : is_some r.second ≡ is_quiet r.timeout r.answer
  pub rearmed : r.rearmed ≡ rearming past [] (reports_of r.answer)

-- the round has reported a direction of the wire that waited
abbrev pub is_woken : Pieces → Round → ℕ → Bool
is_woken past r wire =
    (waits Read wire past && reports Read wire past r) || (waits Write wire past && reports Write wire past r)

-- a reading of the round has reached the deadline
abbrev pub is_late : Round → Option ℕ → Bool
is_late r deadline = has_reached deadline (Some r.first) || has_reached deadline r.second

-- the wires of the sleepers that a round makes due, in order
abbrev pub due : List Session → Pieces → Round → List ℕ
due sessions past r =
    map (λ n. n.wire)
    (filter (λ n. is_woken past r n.wire || is_late r (deadline_at n.session n.wire past)) (sleepers sessions past))

-- ---- the whole record

-- the pieces so far, and the wires that are still to be visited
pub data Run (sessions : List Session) (rounds : ℕ) : Pieces → List ℕ → Type 0 where
  -- first each session is to be visited, in order
  start : Run sessions rounds nothing (map (λ n. n.wire) (numbered 0 sessions))
  -- the next of them is visited
  visited : (past : Pieces) (wire : ℕ) (wires : List ℕ) (s : Session) (events : List Event) →
      Run sessions rounds past (wire ∷ wires) → slice_get sessions wire ≡ Some s → Visit s wire past events →
      Run sessions rounds (past ▸ visit wire events) wires
  -- where all visits were made and a session sleeps, a round may come, while fewer than `rounds` came
  turned : (past : Pieces) (r : Round) (wires : List ℕ) → Run sessions rounds past [] → AllRest sessions past →
      sleepers sessions past ≢ [] → rounds_in past < rounds → IsRound sessions past r → wires ≡ due sessions past r →
      Run sessions rounds (past ▸ round r) wires

-- the Delete of a source that is there
abbrev pub removal : ℕ → Option ℕ → List Event
removal wire None = []
removal wire (Some key) = event.Delete wire key true ∷ []

-- at the end the source of each sleeper is taken out, in order
abbrev pub closing : List Session → Pieces → List Event
closing sessions past = flat_map (λ n. removal n.wire (key_of n.wire past)) (sleepers sessions past)

-- these events are a settled record, cut into these pieces and the closing
pub record Settled (sessions : List Session) (rounds : ℕ) (pieces : Pieces) (events : List Event) : Type 0 where
  pub run : Run sessions rounds pieces []
  pub rest : AllRest sessions pieces
  -- a session is left asleep only where all rounds were run
  pub spent : (sleepers sessions pieces ≡ []) ⊎ (rounds_in pieces ≡ rounds)
  pub whole : events ≡ told pieces ++ closing sessions pieces

-- what a session comes to in a record of these pieces
abbrev pub comes_to : Session → ℕ → Pieces → Option Outcome
comes_to s wire pieces = alone s (part wire (told pieces)) (moment wire pieces)
