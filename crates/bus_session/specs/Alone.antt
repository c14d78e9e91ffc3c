-- What a session comes to by its own events and its last reading alone.
use Rattle.std.specs.Prelude.{ℕ, Bool, false, nat_le, ◌==◌, ◌&&◌, if◌then◌else◌, Option, Some, None}
use Rattle.std.specs.Prelude.{List, [], ◌∷◌, ◌++◌, take, length}
use Rattle.std.specs.Option.{option_map, option_and_then}
use Rattle.std.specs.Str.{bytes_eq}
use Rattle.react_core.specs.declared.outside.Event.{Event}
use Rattle.react_core.specs.declared.outside.Event.TheVariants as event
use Rattle.react_core.specs.declared.outside.RecvAnswer.{RecvAnswer}
use Rattle.react_core.specs.declared.outside.RecvAnswer.TheVariants as recv_answer
use Rattle.react_core.specs.declared.outside.SendAnswer.{SendAnswer}
use Rattle.react_core.specs.declared.outside.SendAnswer.TheVariants as send_answer
use Rattle.react_core.specs.declared.reactor.Dir.{Dir}
use Rattle.react_core.specs.declared.reactor.Dir.TheVariants.{Read, Write}
use Rattle.bus_opening.specs.Talk.{Said, Ask, ask, left, send, recv, handshake, too_many_commands, line_too_long}
use Rattle.bus_opening.specs.Talk as talks
use Rattle.bus_session.specs.declared.ended.Ending.{Ending}
use Rattle.bus_session.specs.declared.ended.Ending.TheVariants as ending
use Rattle.bus_session.specs.declared.session.Party.{Party}
use Rattle.bus_session.specs.declared.session.Session.{Session}
use Rattle.bus_session.specs.Outcomes.{Outcome}
use Rattle.bus_session.specs.Dialling.{Dialling, asks, fails, opens, begins, dialled, conversation}

-- ---- how far a session has come

-- how far a conversation has come: the bytes that came, those that were taken, and the direction that the last answer
-- paused
pub record Talked : Type 0 where
  pub got : List ℕ
  pub written : List ℕ
  pub paused : Option Dir

-- a conversation that begins
abbrev pub silence : Talked
silence = record { got = []; written = []; paused = None }

-- dialling, conversing, or ended
pub data Progress : Type 0 where
  dials : Dialling → Progress
  converses : (List (List ℕ) → Said) → Talked → Progress
  -- an answer ended it
  over : Outcome → Progress

-- what a conversation asks next
abbrev pub asked_next : (List (List ℕ) → Said) → Talked → Ask
asked_next talk t = ask talk t.got (length t.written)

-- the conversation ends so
abbrev pub concluded : (List (List ℕ) → Said) → Talked → Ending → Outcome
concluded talk t e = record { ending = e; written = t.written; leftover = left talk t.got (length t.written) }

-- a dialling that fails has nothing written and nothing left over
abbrev pub came_to : Party → Dialling → Progress
came_to p (asks question purpose) = dials (asks question purpose)
came_to p (fails e) = over (record { ending = e; written = []; leftover = [] })
came_to p (opens o) = converses (conversation p o) silence

-- ---- one event after the other

-- a read gives 1 to 1024 bytes; its end is a failed handshake
abbrev pub after_recv : (List (List ℕ) → Said) → Talked → RecvAnswer → Option Progress
after_recv talk t (recv_answer.Got bytes) =
    if nat_le 1 (length bytes) && nat_le (length bytes) 1024
    then Some (converses talk (record t { got = t.got ++ bytes; paused = None })) else None
after_recv talk t recv_answer.End = Some (over (concluded talk t ending.Handshake))
after_recv talk t recv_answer.NotReady = Some (converses talk (record t { paused = Some Read }))
after_recv talk t recv_answer.Failed = Some (over (concluded talk t ending.Io))

-- a send takes at least one byte and at most the piece
abbrev pub after_send : (List (List ℕ) → Said) → Talked → List ℕ → SendAnswer → Option Progress
after_send talk t piece (send_answer.Took n) =
    if nat_le 1 n && nat_le n (length piece)
    then Some (converses talk (record t { written = t.written ++ take n piece; paused = None })) else None
after_send talk t piece send_answer.NotReady = Some (converses talk (record t { paused = Some Write }))
after_send talk t piece send_answer.Failed = Some (over (concluded talk t ending.Io))

-- an event is the one that is asked: a read of 1024 bytes, or a send of the rest of the piece
abbrev pub after_asked : (List (List ℕ) → Said) → Talked → Ask → Event → Option Progress
after_asked talk t recv (event.Recv wire size answer) = if size == 1024 then after_recv talk t answer else None
after_asked talk t (send piece) (event.Send wire offered answer) =
    if bytes_eq offered piece then after_send talk t piece answer else None
after_asked talk t asked e = None

-- the progress after one more event of its own, if that is the one that comes next
abbrev pub after_in : Party → Progress → Event → Option Progress
after_in p (dials d) (event.Dial wire question answer) = option_map (came_to p) (dialled d question answer)
after_in p (converses talk t) e = after_asked talk t (asked_next talk t) e
after_in p progress e = None

-- how far a session has come: whose part it takes, and how far that has come
pub record Course : Type 0 where
  pub party : Party
  pub progress : Progress

-- where a session begins
abbrev pub first_course : Session → Course
first_course s = record { party = s.party; progress = came_to s.party (begins s.party) }

-- the session after one more event of its own
abbrev pub after : Course → Event → Option Course
after c e = option_map (λ p. record c { progress = p }) (after_in c.party c.progress e)

-- the same after all of these
abbrev pub goes_through : Option Course → List Event → Option Course
goes_through c [] = c
goes_through c (e ∷ events) = goes_through (option_and_then (λ reached. after reached e) c) events

-- how far a session has come by these events of its own; none where they are not those that it asks
unfoldable pub course : Session → List Event → Option Course
course s events = goes_through (Some (first_course s)) events

-- ---- what it comes to

-- a reading has reached a deadline
abbrev pub has_reached : Option ℕ → Option ℕ → Bool
has_reached (Some deadline) (Some moment) = nat_le deadline moment
has_reached deadline moment = false

-- how a pause ends, before or after the deadline
abbrev pub pause_ends : Bool → Ending
pause_ends late = if late then ending.TimedOut else ending.Waiting

-- where a conversation stands that is asked nothing more, or that stopped at NotReady before or after its deadline
abbrev pub rests : Bool → (List (List ℕ) → Said) → Talked → Ask → Option Outcome
rests late talk t (talks.opens guid flag) = Some (concluded talk t (ending.Open guid flag))
rests late talk t handshake = Some (concluded talk t ending.Handshake)
rests late talk t too_many_commands = Some (concluded talk t ending.TooManyCommands)
rests late talk t line_too_long = Some (concluded talk t ending.LineTooLong)
rests late talk t asked = option_map (λ dir. concluded talk t (pause_ends late)) t.paused

-- what the progress has come to, before or after the deadline
abbrev pub outcome_in : Bool → Progress → Option Outcome
outcome_in late (dials d) = None
outcome_in late (converses talk t) = rests late talk t (asked_next talk t)
outcome_in late (over o) = Some o

-- what a session has come to, before or after its deadline
abbrev pub outcome_of : Bool → Course → Option Outcome
outcome_of late c = outcome_in late c.progress

-- what a session comes to by the events of its own part and its last reading; none where they are not those that it
-- asks
abbrev pub alone : Session → List Event → Option ℕ → Option Outcome
alone s events moment = option_and_then (outcome_of (has_reached s.deadline moment)) (course s events)
