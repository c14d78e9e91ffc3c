-- The calls of a conversation's wire: what each makes of it, and how many there are (D-Bus specification, Authentication
-- Protocol).
use Rattle.std.specs.Prelude.{◌≡◌, ℕ, ◌+◌, ◌*◌, ◌≤◌, ◌<◌, Bool, true, false, List, [], ◌∷◌, ◌++◌, length, Some, None}
use Rattle.std.specs.Prelude.{if◌then◌else◌}
use Rattle.react_core.specs.declared.outside.Event.{Event}
use Rattle.react_core.specs.declared.outside.Event.TheVariants as event
use Rattle.react_core.specs.declared.outside.RecvAnswer.TheVariants as recv_answer
use Rattle.react_core.specs.declared.outside.SendAnswer.TheVariants as send_answer
use Rattle.react_core.specs.declared.reactor.Dir.{Dir}
use Rattle.bus_opening.specs.Limits.{line_limit, command_limit}
use Rattle.bus_opening.specs.Talk.{Said, recv}
use Rattle.bus_session.specs.declared.session.Session.{Session}
use Rattle.bus_session.specs.Outcomes.{Outcome}
use Rattle.bus_session.specs.Alone.{Talked, Progress, converses, over, asked_next, after_in, course}

-- what one call makes of a conversation: it moves at least one byte, pauses it, or ends it
pub data Goes (talk : List (List ℕ) → Said) (t : Talked) : Progress → Type 0 where
  reads : (bytes : List ℕ) → 1 ≤ length bytes →
      Goes talk t (converses talk (record t { got = t.got ++ bytes; paused = None }))
  sends : (bytes : List ℕ) → 1 ≤ length bytes →
      Goes talk t (converses talk (record t { written = t.written ++ bytes; paused = None }))
  pauses : (dir : Dir) → Goes talk t (converses talk (record t { paused = Some dir }))
  ends : (came : Outcome) → Goes talk t (over came)

-- a read or a send
abbrev pub is_call : Event → Bool
is_call (event.Recv wire asked answer) = true
is_call (event.Send wire offered answer) = true
is_call e = false

-- one that finds the wire not ready
abbrev pub is_pause : Event → Bool
is_pause (event.Recv wire asked recv_answer.NotReady) = true
is_pause (event.Send wire offered send_answer.NotReady) = true
is_pause e = false

abbrev pub one_if : Bool → ℕ
one_if b = if b then 1 else 0

-- so many events pass a test
abbrev pub counted : (Event → Bool) → List Event → ℕ
counted test [] = 0
counted test (e ∷ events) = one_if (test e) + counted test events

-- A conversation asks its wire only so often.
pub record CallsLittle (s : Session) : Type 0 where
  -- each call moves a byte, pauses the conversation or ends it
  pub goes : (talk : List (List ℕ) → Said) (t : Talked) (e : Event) (next : Progress) →
      after_in s.party (converses talk t) e ≡ Some next → Goes talk t next
  -- a read is asked for only while what came is shorter than as many lines as may come
  pub short : (talk : List (List ℕ) → Said) (t : Talked) → asked_next talk t ≡ recv →
      length t.got < command_limit * (line_limit + 1)
  -- there were no more calls than bytes came, bytes were taken and calls paused
  pub few : (events : List Event) (talk : List (List ℕ) → Said) (t : Talked) →
      course s events ≡ Some (record { party = s.party; progress = converses talk t }) →
      counted is_call events ≤ length t.got + length t.written + counted is_pause events
