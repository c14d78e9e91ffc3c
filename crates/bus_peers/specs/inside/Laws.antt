-- Laws of the engine over a record in pieces.
use Rattle.std.specs.Prelude.{◌≡◌, ◌≢◌, ◌⊎◌, ◌&&◌, ℕ, true, false, List, [], ◌∷◌, ◌++◌, Some, None, is_some, slice_get}
use Rattle.react_core.specs.declared.outside.Event.{Event}
use Rattle.react_core.specs.declared.outside.Event.TheVariants as event
use Rattle.react_core.specs.declared.outside.Report.{Report}
use Rattle.react_core.specs.declared.outside.WaitAnswer.TheVariants as wait_answer
use Rattle.react_core.specs.Round.{reports_of, is_quiet}
use Rattle.bus_session.specs.declared.session.Session.{Session}
use Rattle.bus_session.specs.declared.ended.Ending.{Ending}
use Rattle.bus_session.specs.Parts.{part}
use Rattle.bus_session.specs.Dialling.{Opened, opens, fails}
use Rattle.bus_session.specs.Alone.{Course, course}
use Rattle.bus_record.specs.Pieces.{Round, visit, round, Pieces, ◌▸◌, told}
use Rattle.bus_record.specs.Places.{key_of, holder, is_early, sleeps}
use Rattle.bus_record.specs.Visits.{Here, here, Stage, conversing, finished, goes_on, starts, then_reads, was_visited, Visit}
use Rattle.bus_record.specs.Settled.{timeout_at, IsRound, is_woken, is_late, due}
use Rattle.bus_record.specs.Settled as settled
use Rattle.react_timers.specs.declared.timer.LiveTimer.{LiveTimer}
use Rattle.bus_peers.specs.inside.Due.{due_at, late_at, AreDue}
use Rattle.bus_visit.specs.Dialled.{Answered, dials_of, opening}
use Rattle.bus_visit.specs.Registry.{after_reports_held, Held, idle, held_at, registry}
use Rattle.bus_peers.specs.inside.RoundEvents.{rearming}
use Rattle.bus_peers.specs.inside.Shows.{StandsAt, Shows, ShowsAsleep, StandsStill}
use Rattle.bus_peers.specs.inside.RegisteredVisits.{FirstDials, opened_course, Converses, Concludes, LeavesAsleep}

-- ---- a visit

-- these events of a visit after the pieces so far lead to that stage
abbrev pub ComesTo : Session → ℕ → Pieces → List Event → Stage → Type 0
ComesTo s wire past events stage = goes_on s wire (here wire past) (starts s wire past) events ≡ Some stage

-- Calls that end with an arming end the visit, where the session has no deadline; else the clock is read.
abbrev pub StaysEndAsleep : Session → Type 0
StaysEndAsleep s =
    (wire key : ℕ) (h : Here) (from to : Held) (calls arm : List Event) (begin end : Course) →
    StandsAt h from → from.key ≡ key → from.wire ≡ wire → Converses wire from begin calls to (Some arm) end →
    goes_on s wire h (Some (conversing key begin)) (calls ++ arm) ≡ Some (then_reads s h key end)

-- Calls in which the session ends, and the removal of its source, end the visit.
abbrev pub StaysEndOver : Session → Type 0
StaysEndOver s =
    (wire key : ℕ) (h : Here) (from to : Held) (calls : List Event) (begin end : Course) →
    StandsAt h from → Converses wire from begin calls to None end → Concludes begin end →
    goes_on s wire h (Some (conversing key begin)) (calls ++ event.Delete wire key true ∷ []) ≡ Some finished

-- Behind calls that end with an arming the directions stand as the source has them.
abbrev pub StaysLeavePlaces : Type 0
StaysLeavePlaces =
    (wire : ℕ) (h : Here) (from to : Held) (calls arm : List Event) (begin end : Course) → StandsAt h from →
    Converses wire from begin calls to (Some arm) end → LeavesAsleep h to (calls ++ arm)

-- A first visit whose dialling fails is its Dials alone.
abbrev pub FirstVisitsFail : Session → Type 0
FirstVisitsFail s =
    (wire : ℕ) (past : Pieces) (dials : List Answered) (e : Ending) →
    FirstDials s wire past dials (fails e) → Visit s wire past (dials_of wire dials)

-- A first visit whose dialling opened a wire: the source is added under a free key, and the calls follow.
abbrev pub FirstVisitsSleep : Session → Type 0
FirstVisitsSleep s =
    (wire key : ℕ) (past : Pieces) (dials : List Answered) (o : Opened) (to : Held)
    (calls arm : List Event) (end : Course) → FirstDials s wire past dials (opens o) →
    holder key past ≡ None → Converses wire (idle wire key) (opened_course s o) calls to (Some arm) end →
    ComesTo s wire past (opening wire key dials ++ (calls ++ arm)) (then_reads s (here wire past) key end)

abbrev pub FirstVisitsEnd : Session → Type 0
FirstVisitsEnd s =
    (wire key : ℕ) (past : Pieces) (dials : List Answered) (o : Opened) (to : Held)
    (calls : List Event) (end : Course) → FirstDials s wire past dials (opens o) →
    holder key past ≡ None → Converses wire (idle wire key) (opened_course s o) calls to None end →
    Concludes (opened_course s o) end →
    Visit s wire past
    (opening wire key dials ++ (calls ++ event.Delete wire key true ∷ []))

-- A later visit goes on with the conversation as far as it has come.
abbrev pub LaterVisitsSleep : Session → Type 0
LaterVisitsSleep s =
    (wire : ℕ) (past : Pieces) (from to : Held) (calls arm : List Event) (begin end : Course) →
    key_of wire past ≡ Some from.key → from.wire ≡ wire → StandsAt (here wire past) from →
    course s (part wire (told past)) ≡ Some begin → Converses wire from begin calls to (Some arm) end →
    ComesTo s wire past (calls ++ arm) (then_reads s (here wire past) from.key end)

abbrev pub LaterVisitsEnd : Session → Type 0
LaterVisitsEnd s =
    (wire : ℕ) (past : Pieces) (from to : Held) (calls : List Event) (begin end : Course) →
    key_of wire past ≡ Some from.key → StandsAt (here wire past) from →
    course s (part wire (told past)) ≡ Some begin → Converses wire from begin calls to None end →
    Concludes begin end → Visit s wire past (calls ++ event.Delete wire from.key true ∷ [])

-- ---- the sources behind a visit

-- Behind Dials alone the sources are those that were there.
abbrev pub FailedDialShows : Type 0
FailedDialShows =
    (wire : ℕ) (past : Pieces) (sources : List Held) (dials : List Answered) →
    Shows past sources → key_of wire past ≡ None → Shows (past ▸ visit wire (dials_of wire dials)) sources

-- Behind each other visit the sources are those of the registry, folded over its events.
abbrev pub FirstAsleepShows : Type 0
FirstAsleepShows =
    (wire key : ℕ) (past : Pieces) (sources : List Held) (dials : List Answered) (to : Held)
    (calls arm : List Event) (begin end : Course) → Shows past sources → was_visited wire past ≡ false →
    held_at sources key ≡ None → Converses wire (idle wire key) begin calls to (Some arm) end →
    ShowsAsleep
    (past ▸ visit wire (opening wire key dials ++ (calls ++ arm)))
    (registry sources (opening wire key dials ++ (calls ++ arm))) wire key to

abbrev pub FirstOverShows : Type 0
FirstOverShows =
    (wire key : ℕ) (past : Pieces) (sources : List Held) (dials : List Answered) (to : Held)
    (calls : List Event) (begin end : Course) → Shows past sources → was_visited wire past ≡ false →
    held_at sources key ≡ None → Converses wire (idle wire key) begin calls to None end →
    Shows
    (past ▸ visit wire (opening wire key dials ++ (calls ++ event.Delete wire key true ∷ [])))
    (registry sources (opening wire key dials ++ (calls ++ event.Delete wire key true ∷ [])))

abbrev pub LaterAsleepShows : Type 0
LaterAsleepShows =
    (past : Pieces) (sources : List Held) (from to : Held) (calls arm : List Event) (begin end : Course) →
    Shows past sources → held_at sources from.key ≡ Some from →
    Converses from.wire from begin calls to (Some arm) end →
    ShowsAsleep (past ▸ visit from.wire (calls ++ arm)) (registry sources (calls ++ arm)) from.wire from.key to

abbrev pub LaterOverShows : Type 0
LaterOverShows =
    (past : Pieces) (sources : List Held) (from to : Held) (calls : List Event) (begin end : Course) →
    Shows past sources → held_at sources from.key ≡ Some from → Converses from.wire from begin calls to None end →
    Shows (past ▸ visit from.wire (calls ++ event.Delete from.wire from.key true ∷ []))
    (registry sources (calls ++ event.Delete from.wire from.key true ∷ []))

-- A visit leaves the other wires where they stood.
abbrev pub OthersStandStill : Type 0
OthersStandStill =
    (visited wire : ℕ) (past : Pieces) (events : List Event) → visited ≢ wire →
    StandsStill wire past (past ▸ visit visited events)

-- ---- a round

-- The re-arming of a round is the same of the pieces and of the sources.
abbrev pub RearmingsAreSame : Type 0
RearmingsAreSame =
    (past : Pieces) (sources : List Held) (reports : List Report) → Shows past sources →
    settled.rearming past [] reports ≡ rearming sources reports

-- Behind a round the sources are those after its reports.
abbrev pub RoundShows : Type 0
RoundShows =
    (past : Pieces) (sources : List Held) (r : Round) → Shows past sources →
    r.rearmed ≡ settled.rearming past [] (reports_of r.answer) →
    Shows (past ▸ round r) (after_reports_held sources (reports_of r.answer))

-- A round wakes the wires that are due by the sources.
abbrev pub WokenAreDue : Type 0
WokenAreDue =
    (past : Pieces) (sources : List Held) (r : Round) (wire : ℕ) → Shows past sources →
    is_woken past r wire ≡ due_at sources (reports_of r.answer) wire

-- Where each wire that is due sleeps, and the timers are those of the sleepers, the list of those wires is the one that
-- the pieces have.
abbrev pub DueWiresAreSame : List Session → Type 0
DueWiresAreSame sessions =
    (past : Pieces) (sources : List Held) (r : Round) (timers : List LiveTimer) (wires : List ℕ) → Shows past sources →
    ((wire : ℕ) → due_at sources (reports_of r.answer) wire ≡ true →
    (s : Session) × (slice_get sessions wire ≡ Some s) × (sleeps s wire past ≡ true)) →
    ((wire : ℕ) (s : Session) → slice_get sessions wire ≡ Some s →
    late_at timers r.first r.second wire ≡ (sleeps s wire past && is_late r s.deadline)) →
    ((wire : ℕ) → slice_get sessions wire ≡ None → late_at timers r.first r.second wire ≡ false) →
    AreDue sources (reports_of r.answer) timers r.first r.second wires → wires ≡ due sessions past r

-- This is a round, where it waits up to the nearest deadline.
abbrev pub RoundsAreRounds : List Session → Type 0
RoundsAreRounds sessions =
    (past : Pieces) (sources : List Held) (r : Round) → Shows past sources →
    r.timeout ≡ timeout_at sessions past r.first → r.answer ≢ wait_answer.Failed →
    is_some r.second ≡ is_quiet r.timeout r.answer →
    r.rearmed ≡ rearming sources (reports_of r.answer) → IsRound sessions past r

-- A session sleeps where its last call paused a direction that waits, and no reading since reached its deadline.
abbrev pub PausedSleeps : Session → Type 0
PausedSleeps s =
    (past : Pieces) (sources : List Held) (wire key : ℕ) (h : Held) → is_early s.deadline wire past ≡ true →
    ShowsAsleep past sources wire key h → sleeps s wire past ≡ true

-- Behind a round such a session sleeps on, or its wire is due.
abbrev pub RoundLeavesAsleep : Type 0
RoundLeavesAsleep =
    (past : Pieces) (sources : List Held) (r : Round) (wire key : ℕ) (h : Held) →
    r.rearmed ≡ settled.rearming past [] (reports_of r.answer) → ShowsAsleep past sources wire key h →
    ((g : Held) × ShowsAsleep (past ▸ round r) (after_reports_held sources (reports_of r.answer)) wire key g)
    ⊎ (due_at sources (reports_of r.answer) wire ≡ true)
