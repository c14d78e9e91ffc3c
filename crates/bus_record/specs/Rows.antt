-- Small records, by hand.
use Rattle.std.specs.Prelude.{◌≡◌, ℕ, Bool, true, false, List, [], ◌∷◌, ◌++◌, take, drop, codes, Option, Some, None}
use Rattle.react_core.specs.declared.outside.Event.{Event}
use Rattle.react_core.specs.declared.outside.Event.TheVariants as event
use Rattle.react_core.specs.declared.outside.Question.TheVariants as question
use Rattle.react_core.specs.declared.outside.DialAnswer.TheVariants as dial_answer
use Rattle.react_core.specs.declared.outside.RecvAnswer.TheVariants as recv_answer
use Rattle.react_core.specs.declared.outside.SendAnswer.TheVariants as send_answer
use Rattle.react_core.specs.declared.outside.WaitAnswer.TheVariants as wait_answer
use Rattle.react_core.specs.declared.outside.Report.{Report}
use Rattle.bus_opening.specs.declared.mechanism.AuthMechanism.TheVariants.{External}
use Rattle.bus_session.specs.declared.session.Party.TheVariants as party
use Rattle.bus_session.specs.declared.session.Session.{Session}
use Rattle.bus_session.specs.declared.ended.Ended.{Ended}
use Rattle.bus_session.specs.declared.ended.Ending.{Ending}
use Rattle.bus_session.specs.declared.ended.Ending.TheVariants as ending
use Rattle.bus_record.specs.Pieces.{Piece, visit, round, Pieces, nothing, ◌▸◌, told}
use Rattle.bus_session.specs.Outcomes.{Outcome}
use Rattle.bus_record.specs.Places.{moment}
use Rattle.bus_record.specs.Settled.{Settled, rearming, comes_to}
use Rattle.bus_record.specs.Headline.{Headline}

-- a client of user 1000 under EXTERNAL at a plain path
abbrev pub client_at : List ℕ → Option ℕ → Session
client_at path deadline = record {
  party = party.Client (codes "unix:path=" ++ path)
      (record { mechanism = Some External; user = 1000; hello = None; flatpak = false });
  deadline = deadline;
}

-- the paths of two sockets
abbrev pub path_a : List ℕ
path_a = codes "/run/a"

abbrev pub path_b : List ℕ
path_b = codes "/run/b"

-- the first piece that such a client sends
abbrev pub hello : List ℕ
hello = 0 ∷ (codes "AUTH EXTERNAL 31303030" ++ (13 ∷ (10 ∷ [])))

-- the server's answer
abbrev pub accepted : List ℕ
accepted = codes "OK 1234deadbeef1234deadbeef12345678" ++ (13 ∷ (10 ∷ []))

-- the second piece
abbrev pub begin : List ℕ
begin = codes "BEGIN" ++ (13 ∷ (10 ∷ []))

-- a first visit up to the first piece
abbrev pub opened : ℕ → List ℕ → ℕ → List Event → List Event
opened wire path key more =
    event.Dial wire (question.Unix path) (dial_answer.Opened false)
    ∷ (event.Add wire key true ∷ (event.Send wire hello (send_answer.Took 25) ∷ more))

-- the client waits for the answer at once
abbrev pub asleep : ℕ → List ℕ → ℕ → List Event → List Event
asleep wire path key more =
    opened wire path key (event.Recv wire 1024 recv_answer.NotReady ∷ (event.Modify wire key true false true ∷ more))

-- the client opens in one visit
abbrev pub opens : ℕ → List ℕ → ℕ → List Event
opens wire path key = opened wire path key
    (event.Recv wire 1024 (recv_answer.Got accepted)
    ∷ (event.Send wire begin (send_answer.Took 7) ∷ (event.Delete wire key true ∷ [])))

-- ---- the rounds

-- a report of key 0
abbrev pub some_report : Bool → Bool → Report
some_report read write = record { key = 0; read = read; write = write }

-- a round at this reading, with this timeout, these reports, perhaps a second reading, and this re-arming
abbrev pub a_round : ℕ → Option ℕ → List Report → Option ℕ → List Event → Piece
a_round first timeout reports second rearmed =
    round (record {
      first = first;
      timeout = timeout;
      answer = wait_answer.Reported reports;
      second = second;
      rearmed = rearmed;
    })

-- the Delete of the source of session 0
abbrev pub removed : List Event
removed = event.Delete 0 0 true ∷ []

-- ---- the records

-- two clients open, one after the other
abbrev pub both_open : Pieces
both_open = (nothing ▸ visit 0 (opens 0 path_a 0)) ▸ visit 1 (opens 1 path_b 0)

-- one client opens
abbrev pub one_opens : Pieces
one_opens = nothing ▸ visit 0 (opens 0 path_a 0)

-- one client waits
abbrev pub one_waits : Pieces
one_waits = nothing ▸ visit 0 (asleep 0 path_a 0 [])

-- one client has reached its deadline in its first visit
abbrev pub one_is_late : Pieces
one_is_late = nothing ▸ visit 0 (asleep 0 path_a 0 (event.Now 0 ∷ removed))

-- one client waits for its deadline, from moment 10 on
abbrev pub has_timer : Pieces
has_timer = nothing ▸ visit 0 (asleep 0 path_a 0 (event.Now 10 ∷ (event.Notify true ∷ [])))

-- a visit in which the answer isn't ready once more, and the clock reads 50
abbrev pub late_visit : List Event
late_visit = event.Recv 0 1024 recv_answer.NotReady ∷ (event.Now 50 ∷ removed)

-- a round ends at the deadline, and the client is visited
abbrev pub reached_in_round : Pieces
reached_in_round = (has_timer ▸ a_round 10 (Some 40) [] (Some 50) []) ▸ visit 0 late_visit

-- a round ends before the deadline
abbrev pub missed_in_round : Pieces
missed_in_round = has_timer ▸ a_round 10 (Some 40) [] (Some 49) []

-- a round reports the direction that doesn't wait, and the other is armed anew
abbrev pub wrong_direction : Pieces
wrong_direction = one_waits ▸ a_round 0 None (some_report false true ∷ []) None (event.Modify 0 0 true false true ∷ [])

-- ---- that they are settled, and what each session comes to

-- the server's GUID
abbrev pub guid : List ℕ
guid = codes "1234deadbeef1234deadbeef12345678"

-- a client that opened
abbrev pub opened_so : Option Outcome
opened_so = Some (record { ending = ending.Open guid false; written = hello ++ begin; leftover = [] })

-- a client that ended so after its first piece
abbrev pub ended_so : Ending → Option Outcome
ended_so e = Some (record { ending = e; written = hello; leftover = [] })

-- both clients open, whatever rounds are left
abbrev pub BothOpen : Type 0
BothOpen =
    Settled (client_at path_a None ∷ (client_at path_b None ∷ [])) 5 both_open (told both_open)
    × (comes_to (client_at path_a None) 0 both_open ≡ opened_so)
    × (comes_to (client_at path_b None) 1 both_open ≡ opened_so)

-- what comes of a client that opens on this wire
abbrev pub opened_on : ℕ → Ended
opened_on wire =
    record { ending = ending.Open guid false; written = hello ++ begin; leftover = []; wire = wire; moment = None }

-- the same, as the headline says it of two endings
abbrev pub BothPromised : Type 0
BothPromised =
    Headline (client_at path_a None ∷ (client_at path_b None ∷ [])) 5 both_open (opened_on 0 ∷ (opened_on 1 ∷ []))
    (told both_open)

-- a client waits where no round may come
abbrev pub OneWaits : Type 0
OneWaits =
    Settled (client_at path_a None ∷ []) 0 one_waits (told one_waits ++ removed)
    × (comes_to (client_at path_a None) 0 one_waits ≡ ended_so ending.Waiting)

-- a deadline that was reached from the start is never looked at where the wire answers
abbrev pub WireComesFirst : Type 0
WireComesFirst =
    Settled (client_at path_a (Some 0) ∷ []) 5 one_opens (told one_opens)
    × (comes_to (client_at path_a (Some 0)) 0 one_opens ≡ opened_so)
    × (moment 0 one_opens ≡ None)

-- a deadline that was reached from the start ends a client at its first NotReady
abbrev pub LateAtOnce : Type 0
LateAtOnce =
    Settled (client_at path_a (Some 0) ∷ []) 0 one_is_late (told one_is_late)
    × (comes_to (client_at path_a (Some 0)) 0 one_is_late ≡ ended_so ending.TimedOut)
    × (moment 0 one_is_late ≡ Some 0)

-- a deadline that a round reaches ends a client
abbrev pub ReachedInRound : Type 0
ReachedInRound =
    Settled (client_at path_a (Some 50) ∷ []) 1 reached_in_round (told reached_in_round)
    × (comes_to (client_at path_a (Some 50)) 0 reached_in_round ≡ ended_so ending.TimedOut)
    × (moment 0 reached_in_round ≡ Some 50)

-- a deadline that no round reaches leaves it waiting, and its moment is that of its visit
abbrev pub MissedInRound : Type 0
MissedInRound =
    Settled (client_at path_a (Some 50) ∷ []) 1 missed_in_round (told missed_in_round ++ removed)
    × (comes_to (client_at path_a (Some 50)) 0 missed_in_round ≡ ended_so ending.Waiting)
    × (moment 0 missed_in_round ≡ Some 10)

-- a report of the other direction wakes nobody
abbrev pub WrongDirection : Type 0
WrongDirection =
    Settled (client_at path_a None ∷ []) 1 wrong_direction (told wrong_direction ++ removed)
    × (comes_to (client_at path_a None) 0 wrong_direction ≡ ended_so ending.Waiting)

-- ---- cases that are easily missed

-- bytes that are there at the deadline's visit win, and the last visit has no reading
abbrev pub bytes_win : Pieces
bytes_win =
    (has_timer ▸ a_round 10 (Some 40) [] (Some 50) [])
    ▸ visit 0 (event.Recv 0 1024 (recv_answer.Got accepted) ∷ (event.Send 0 begin (send_answer.Took 7) ∷ removed))

-- a deadline that a round's first reading has reached makes its timeout zero, and the clock is not read again
abbrev pub due_at_first : Pieces
due_at_first = (has_timer ▸ a_round 50 (Some 0) [] None []) ▸ visit 0 late_visit

-- each report arms anew what still waits: two of the other direction arm twice, two of its own not at all
abbrev pub twice_rearmed : Pieces
twice_rearmed =
    one_waits
    ▸ a_round 0 None (some_report false true ∷ (some_report false true ∷ [])) None
    (event.Modify 0 0 true false true ∷ (event.Modify 0 0 true false true ∷ []))

-- A client that asks for descriptors. A report of reading comes while it stops at a send: rounds later, a read that
-- isn't ready is asked once more, and then reading is armed anew.
abbrev pub asks_for_descriptors : Session
asks_for_descriptors = record {
  party = party.Client (codes "unix:path=" ++ path_a)
      (record { mechanism = Some External; user = 1000; hello = None; flatpak = true });
  deadline = None;
}

-- its second piece
abbrev pub negotiate : List ℕ
negotiate = codes "NEGOTIATE_UNIX_FD" ++ (13 ∷ (10 ∷ []))

-- it waits to read, then to write, and then to read again
abbrev pub report_stays : Pieces
report_stays =
    ((((nothing
    ▸ visit 0 (event.Dial 0 (question.Unix path_a) (dial_answer.Opened true)
    ∷ (event.Add 0 0 true
    ∷ (event.Send 0 hello (send_answer.Took 25)
    ∷ (event.Recv 0 1024 recv_answer.NotReady ∷ (event.Modify 0 0 true false true ∷ []))))))
    ▸ a_round 0 None (some_report true false ∷ []) None [])
    ▸ visit 0 (event.Recv 0 1024 (recv_answer.Got accepted)
    ∷ (event.Send 0 negotiate send_answer.NotReady ∷ (event.Modify 0 0 false true true ∷ []))))
    ▸ a_round 0 None (some_report false true ∷ []) None [])
    ▸ visit 0 (event.Send 0 negotiate (send_answer.Took 19)
    ∷ (event.Recv 0 1024 recv_answer.NotReady
    ∷ (event.Recv 0 1024 recv_answer.NotReady ∷ (event.Modify 0 0 true false true ∷ []))))

-- these are settled, and come to that
abbrev pub EasilyMissed : Type 0
EasilyMissed = record {
  wins : Settled (client_at path_a (Some 50) ∷ []) 1 bytes_win (told bytes_win);
  wins_open : comes_to (client_at path_a (Some 50)) 0 bytes_win ≡ opened_so;
  unread : moment 0 bytes_win ≡ None;
  first : Settled (client_at path_a (Some 50) ∷ []) 1 due_at_first (told due_at_first);
  first_late : comes_to (client_at path_a (Some 50)) 0 due_at_first ≡ ended_so ending.TimedOut;
  twice : Settled (client_at path_a None ∷ []) 1 twice_rearmed (told twice_rearmed ++ removed);
  never : rearming one_waits [] (some_report true false ∷ (some_report true false ∷ [])) ≡ [];
  stays : Settled (asks_for_descriptors ∷ []) 2 report_stays (told report_stays ++ removed);
  stays_waiting : comes_to asks_for_descriptors 0 report_stays
      ≡ Some (record { ending = ending.Waiting; written = hello ++ negotiate; leftover = [] });
}

-- ---- a server

-- a server for user 1000 under EXTERNAL
abbrev pub a_server : Session
a_server = record {
  party = party.Server (record { guid = guid; mechanism = External; permitted = Some 1000 });
  deadline = None;
}

-- a server takes a connection, and refuses a line that is a line feed alone
abbrev pub server_refuses : Pieces
server_refuses =
    nothing
    ▸ visit 0 (event.Dial 0 question.Accept (dial_answer.Opened false)
    ∷ (event.Add 0 7 true ∷ (event.Recv 0 1024 (recv_answer.Got (10 ∷ [])) ∷ (event.Delete 0 7 true ∷ []))))

-- a server finds no connection
abbrev pub server_fails : Pieces
server_fails = nothing ▸ visit 0 (event.Dial 0 question.Accept dial_answer.Failed ∷ [])

-- both are settled
abbrev pub Servers : Type 0
Servers = record {
  refuses : Settled (a_server ∷ []) 0 server_refuses (told server_refuses);
  handshake : comes_to a_server 0 server_refuses
      ≡ Some (record { ending = ending.Handshake; written = []; leftover = [] });
  fails : Settled (a_server ∷ []) 0 server_fails (told server_fails);
  connection : comes_to a_server 0 server_fails
      ≡ Some (record { ending = ending.Connection; written = []; leftover = [] });
}

-- ---- further rounds

-- a round whose wait was interrupted
abbrev pub interrupted_round : Option ℕ → Piece
interrupted_round second =
    round (record { first = 0; timeout = None; answer = wait_answer.Interrupted; second = second; rearmed = [] })

-- a report of a key that nobody holds
abbrev pub unknown_report : Report
unknown_report = record { key = 9; read = true; write = true }

-- a wait is interrupted, and the clock is not read again
abbrev pub interrupted : Pieces
interrupted = one_waits ▸ interrupted_round None

-- a report of a key without a holder wakes nobody, and is a report: the clock is not read again
abbrev pub unknown_key : Pieces
unknown_key = one_waits ▸ a_round 0 None (unknown_report ∷ []) None []

-- two clients whose deadlines are 50 and 30
abbrev pub two_deadlines : List Session
two_deadlines = client_at path_a (Some 50) ∷ (client_at path_b (Some 30) ∷ [])

-- they wait from moment 10 on
abbrev pub two_wait : Pieces
two_wait =
    (nothing ▸ visit 0 (asleep 0 path_a 0 (event.Now 10 ∷ (event.Notify true ∷ []))))
    ▸ visit 1 (asleep 1 path_b 1 (event.Now 10 ∷ (event.Notify true ∷ [])))

-- a visit of the second in which its answer isn't ready, at its deadline
abbrev pub second_late : List Event
second_late = event.Recv 1 1024 recv_answer.NotReady ∷ (event.Now 30 ∷ (event.Delete 1 1 true ∷ []))

-- a round ends at the nearer deadline, and only that client is visited
abbrev pub nearer_reached : Pieces
nearer_reached = (two_wait ▸ a_round 10 (Some 20) [] (Some 30) []) ▸ visit 1 second_late

-- a wire fails after three bytes
abbrev pub wire_fails : Pieces
wire_fails =
    nothing
    ▸ visit 0 (event.Dial 0 (question.Unix path_a) (dial_answer.Opened false)
    ∷ (event.Add 0 0 true
    ∷ (event.Send 0 hello (send_answer.Took 3) ∷ (event.Send 0 (drop 3 hello) send_answer.Failed ∷ removed))))

-- these are settled, and come to that
abbrev pub FurtherRounds : Type 0
FurtherRounds = record {
  no_session : Settled [] 5 nothing [];
  interrupted_once : Settled (client_at path_a None ∷ []) 1 interrupted (told interrupted ++ removed);
  unknown : Settled (client_at path_a None ∷ []) 1 unknown_key (told unknown_key ++ removed);
  both_closed : Settled two_deadlines 0 two_wait
      (told two_wait ++ (event.Delete 0 0 true ∷ (event.Delete 1 1 true ∷ [])));
  nearer : Settled two_deadlines 1 nearer_reached (told nearer_reached ++ removed);
  nearer_late : comes_to (client_at path_b (Some 30)) 1 nearer_reached ≡ ended_so ending.TimedOut;
  other_waits : comes_to (client_at path_a (Some 50)) 0 nearer_reached ≡ ended_so ending.Waiting;
  fails : Settled (client_at path_a None ∷ []) 0 wire_fails (told wire_fails);
  fails_so : comes_to (client_at path_a None) 0 wire_fails
      ≡ Some (record { ending = ending.Io; written = take 3 hello; leftover = [] });
}
