-- A visit of a session: what comes next in it, at each of its stages.
use Rattle.std.specs.Prelude.{◌≡◌, ℕ, Bool, true, false, not, ◌&&◌, ◌||◌, ◌==◌, if◌then◌else◌, List, [], ◌∷◌}
use Rattle.std.specs.Prelude.{Option, Some, None, is_none}
use Rattle.std.specs.Option.{option_map, option_and_then}
use Rattle.react_core.specs.declared.outside.Event.{Event}
use Rattle.react_core.specs.declared.outside.Event.TheVariants as event
use Rattle.react_core.specs.declared.reactor.Dir.{Dir}
use Rattle.react_core.specs.declared.reactor.Dir.TheVariants.{Read, Write}
use Rattle.bus_session.specs.declared.session.Session.{Session}
use Rattle.bus_session.specs.Parts.{part}
use Rattle.bus_session.specs.Outcomes.{is_ended}
use Rattle.bus_session.specs.Alone.{Progress, dials, converses, over, Course, after, course, outcome_in, has_reached}
use Rattle.bus_record.specs.Pieces.{Pieces, nothing, ◌▸◌, visit, round, told}
use Rattle.bus_record.specs.Places.{key_of, holder, holder_by, waits, waits_by, reported, reported_by}
use Rattle.bus_record.specs.Places.{is_dir, stop_of, notified, notified_by}

-- ---- a place in a visit

-- what holds at a place in a visit, of the session and of the keys
pub record Here : Type 0 where
  pub is_waiting : Dir → Bool
  pub was_reported : Dir → Bool
  pub was_notified : Bool
  pub holder_of : ℕ → Option ℕ

-- before the visit's first event
abbrev pub here : ℕ → Pieces → Here
here wire past = record {
  is_waiting = λ x. waits x wire past;
  was_reported = λ x. reported x wire past;
  was_notified = notified wire past;
  holder_of = λ key. holder key past;
}

-- behind one more event
abbrev pub here_by : Here → Event → Here
here_by h e = record {
  is_waiting = λ x. waits_by x (h.is_waiting x) e;
  was_reported = λ x. reported_by x (h.was_reported x) e;
  was_notified = notified_by h.was_notified e;
  holder_of = λ key. holder_by key (h.holder_of key) e;
}

-- ---- its stages

-- Where a visit stands. The number is the key of the session's source.
pub data Stage : Type 0 where
  -- the session dials
  dialling : Course → Stage
  -- its wire is open, and a source is to be added
  registering : Course → Stage
  -- it converses
  conversing : ℕ → Course → Stage
  -- the direction is to be armed
  arming : ℕ → Course → Dir → Stage
  -- the clock is to be read
  reading : ℕ → Course → Stage
  -- the first timer was made, which is to be notified
  notifying : Stage
  -- the source is to be taken out
  leaving : ℕ → Course → Stage
  -- the visit is over
  finished : Stage

-- a Dial of the wire
abbrev pub is_dial : ℕ → Event → Bool
is_dial wire (event.Dial w question answer) = w == wire
is_dial wire e = false

-- a read or a write of the wire
abbrev pub is_call : ℕ → Event → Bool
is_call wire (event.Recv w asked answer) = w == wire
is_call wire (event.Send w offered answer) = w == wire
is_call wire e = false

-- the session after this event, if that is one of these and the one that it asks
abbrev pub asked : Bool → Course → Event → Option Course
asked own c e = if own then after c e else None

-- a session that has ended is left: the visit is over
abbrev pub ended_so : Course → Stage
ended_so c = finished

-- the deadline that a visit looks at
abbrev pub limit : Session → Here → Course → Option ℕ
limit s h c = s.deadline

-- only a wire that opened is registered; a dialling that fails ends the session
abbrev pub after_dial_to : Course → Progress → Stage
after_dial_to c (dials d) = dialling c
after_dial_to c (converses talk t) = registering c
after_dial_to c (over o) = ended_so c

-- the stage after a Dial
abbrev pub after_dial : Course → Stage
after_dial c = after_dial_to c c.progress

-- with a deadline the clock is read
abbrev pub then_reads : Session → Here → ℕ → Course → Stage
then_reads s h key c = if is_none (limit s h c) then finished else reading key c

-- After a NotReady the visit asks again exactly where the direction was reported. Else the direction is armed, where it
-- doesn't wait already.
abbrev pub after_stop : Session → Here → ℕ → Course → Dir → Stage
after_stop s h key c x =
    if h.was_reported x then conversing key c
    else if h.is_waiting x then then_reads s h key c
    else arming key c x

-- after another answer a session that has ended leaves
abbrev pub after_call : Session → Here → ℕ → Option Dir → Course → Stage
after_call s h key None c = if is_ended (outcome_in false c.progress) then leaving key c else conversing key c
after_call s h key (Some x) c = after_stop s h key c x

-- the directions that are armed with x: those that wait, and x
abbrev pub is_armed_with : Here → Dir → Dir → Bool
is_armed_with h x y = is_dir y (Some x) || h.is_waiting y

-- the two are the same
abbrev pub is_bool : Bool → Bool → Bool
is_bool true b = b
is_bool false b = not b

-- a reading that has reached the deadline ends the session; the first other one makes its timer
abbrev pub after_reading : Session → Here → ℕ → Course → ℕ → Stage
after_reading s h key c moment =
    if has_reached (limit s h c) (Some moment) then leaving key c
    else if h.was_notified then finished
    else notifying

-- the visit's stage after one more event, if that is one that may come next
abbrev pub next : Session → ℕ → Here → Stage → Event → Option Stage
next s wire h (dialling c) e = option_map after_dial (asked (is_dial wire e) c e)
next s wire h (registering c) (event.Add w key true) =
    if (w == wire) && is_none (h.holder_of key) then Some (conversing key c) else None
next s wire h (conversing key c) e = option_map (after_call s h key (stop_of e)) (asked (is_call wire e) c e)
next s wire h (arming key c x) (event.Modify w k read write true) =
    if (w == wire) && ((k == key) && (is_bool read (is_armed_with h x Read) && is_bool write (is_armed_with h x Write)))
    then Some (then_reads s h key c) else None
next s wire h (reading key c) (event.Now moment) = Some (after_reading s h key c moment)
next s wire h notifying (event.Notify true) = Some finished
next s wire h (leaving key c) (event.Delete w k true) = if (w == wire) && (k == key) then Some (ended_so c) else None
next s wire h stage e = None

-- the same after all of these
abbrev pub goes_on : Session → ℕ → Here → Option Stage → List Event → Option Stage
goes_on s wire h stage [] = stage
goes_on s wire h stage (e ∷ events) =
    goes_on s wire (here_by h e) (option_and_then (λ reached. next s wire h reached e) stage) events

-- the wire had a visit
abbrev pub was_visited : ℕ → Pieces → Bool
was_visited wire nothing = false
was_visited wire (past ▸ visit w events) = (w == wire) || was_visited wire past
was_visited wire (past ▸ round r) = was_visited wire past

-- a later visit goes on over the session's source
abbrev pub resumes : Option ℕ → Course → Option Stage
resumes None c = None
resumes (Some key) c = Some (conversing key c)

-- a first visit, or a later one
abbrev pub starts_at : Bool → Option ℕ → Course → Option Stage
starts_at false key c = Some (after_dial c)
starts_at true key c = resumes key c

-- where a visit begins: the first with the dialling, a later one with the conversation as far as it has come
abbrev pub starts : Session → ℕ → Pieces → Option Stage
starts s wire past =
    option_and_then (starts_at (was_visited wire past) (key_of wire past)) (course s (part wire (told past)))

-- these events are one visit of the session with this wire, after the pieces so far
abbrev pub Visit : Session → ℕ → Pieces → List Event → Type 0
Visit s wire past events = goes_on s wire (here wire past) (starts s wire past) events ≡ Some finished
