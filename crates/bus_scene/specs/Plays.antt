-- What a scene answers from its queues, and which records follow a script.
use Rattle.std.specs.Prelude.{◌≡◌, ◌<◌, ◌-◌, ◌^◌, ℕ, ◌==◌, nat_lt, Bool, true, false, not, ◌&&◌, if◌then◌else◌, List}
use Rattle.std.specs.Prelude.{[], ◌∷◌, ◌++◌, Option, Some, None, Result, Ok, Err, is_some, length, take, drop, min}
use Rattle.std.specs.Prelude.{max, fold, count_by, slice_set}
use Rattle.std.specs.List.{filter_map, list_all, starts_with}
use Rattle.std.specs.Str.{bytes_eq}
use Rattle.std.proofs.Common.{arith}
use Rattle.react_core.specs.Outer.{Outer, CountsFit}
use Rattle.react_core.specs.declared.outside.Rooms.{Rooms}
use Rattle.react_core.specs.declared.outside.Rooms.TheVariants as rooms
use Rattle.react_core.specs.declared.outside.Event.{Event}
use Rattle.react_core.specs.declared.outside.Event.TheVariants as event
use Rattle.react_core.specs.declared.outside.Fault.{Fault}
use Rattle.react_core.specs.declared.outside.Fault.TheVariants as fault
use Rattle.react_core.specs.declared.outside.Peer.{Peer}
use Rattle.react_core.specs.declared.outside.Peer.TheVariants as peer
use Rattle.react_core.specs.declared.outside.Report.{Report}
use Rattle.react_core.specs.declared.outside.Question.{Question}
use Rattle.react_core.specs.declared.outside.Question.TheVariants as question
use Rattle.react_core.specs.declared.outside.DialAnswer.{DialAnswer}
use Rattle.react_core.specs.declared.outside.DialAnswer.TheVariants as dial_answer
use Rattle.react_core.specs.declared.outside.RecvAnswer.{RecvAnswer}
use Rattle.react_core.specs.declared.outside.RecvAnswer.TheVariants as recv_answer
use Rattle.react_core.specs.declared.outside.SendAnswer.{SendAnswer}
use Rattle.react_core.specs.declared.outside.SendAnswer.TheVariants as send_answer
use Rattle.react_core.specs.declared.outside.WaitAnswer.{WaitAnswer}
use Rattle.react_core.specs.declared.outside.WaitAnswer.TheVariants as wait_answer
use Rattle.bus_script.specs.declared.line.ScriptWait.{ScriptWait}
use Rattle.bus_script.specs.declared.line.ScriptWait.TheVariants as script_wait
use Rattle.bus_script.specs.declared.line.Ready.{Ready}
use Rattle.bus_script.specs.declared.line.ReadySource.{ReadySource}
use Rattle.bus_script.specs.declared.line.ReadySource.TheVariants as source
use Rattle.bus_scene.specs.Queues.{Queues, queue_at, next_answer, without_next}

-- Dialling.

-- whether an answer is of the kind that the question asks for
abbrev pub fits : Question → DialAnswer → Bool
fits (question.Unix path) (dial_answer.Opened passes) = true
fits (question.Abstract name) (dial_answer.Opened passes) = true
fits (question.Lookup host port) (dial_answer.Found peers) = true
fits (question.Tcp peer) (dial_answer.Opened passes) = true
fits (question.Nonce path) (dial_answer.Nonce bytes) = true
fits (question.Start program arg0 args) (dial_answer.Opened passes) = true
fits question.Ibus (dial_answer.Output success text) = true
fits question.Accept (dial_answer.Opened passes) = true
fits asked a = false

-- whether the question asks for a connection
abbrev pub asks_for_wire : Question → Bool
asks_for_wire (question.Unix path) = true
asks_for_wire (question.Abstract name) = true
asks_for_wire (question.Tcp peer) = true
asks_for_wire (question.Start program arg0 args) = true
asks_for_wire question.Accept = true
asks_for_wire asked = false

-- the answer to a question: a fault where the next answer is none, or of another kind
abbrev pub dial_given : Question → Option DialAnswer → DialAnswer
dial_given asked None = dial_answer.Failed
dial_given asked (Some a) = if fits asked a then a else dial_answer.Failed

-- Reads.

-- the answer to a read: at most as many bytes as were asked for, and none yet where the queue is empty
abbrev pub recv_given : ℕ → Option RecvAnswer → RecvAnswer
recv_given asked None = recv_answer.NotReady
recv_given asked (Some (recv_answer.Got bytes)) =
    if length bytes == 0 then recv_answer.NotReady else recv_answer.Got (take asked bytes)
recv_given asked (Some a) = a

-- what is left of a queue after a read: bytes that were not asked for are the next answer
abbrev pub recv_left : ℕ → Option RecvAnswer → List RecvAnswer → List RecvAnswer
recv_left asked (Some (recv_answer.Got bytes)) more =
    if nat_lt asked (length bytes) then recv_answer.Got (drop asked bytes) ∷ more else more
recv_left asked a more = more

-- the queues after a session's read
abbrev pub after_recv : ℕ → List (List RecvAnswer) → ℕ → List (List RecvAnswer)
after_recv asked queues session =
    slice_set queues session
    (recv_left asked (next_answer (queue_at queues session)) (drop 1 (queue_at queues session)))

-- Sends.

-- the answer to a send: at most the piece, and a fault where a piece with bytes is taken none of; all where the queue
-- is empty
abbrev pub send_given : ℕ → Option SendAnswer → SendAnswer
send_given offered None = send_answer.Took offered
send_given offered (Some (send_answer.Took n)) =
    if n == 0 && not (offered == 0) then send_answer.Failed else send_answer.Took (min n offered)
send_given offered (Some a) = a

-- The clock.

abbrev pub later : ℕ → Event → ℕ
later before (event.Now t) = t
later before e = before

-- the last reading of a record, or 0 before any
abbrev pub last_reading : List Event → ℕ
last_reading told = fold later 0 told

-- a reading: the next one, and the last one again where the queue is empty or its next reading is below the last
abbrev pub reading_given : ℕ → Option ℕ → ℕ
reading_given last None = last
reading_given last (Some t) = max last t

-- The poller.

-- a call succeeds where its queue is empty
abbrev pub outcome_given : Option Bool → Bool
outcome_given None = true
outcome_given (Some ok) = ok

abbrev pub after_call : ℕ → Option ℕ → Event → Option ℕ
after_call session key (event.Add wire k ok) = if wire == session then Some k else key
after_call session key (event.Delete wire k ok) = if wire == session then None else key
after_call session key e = key

-- the key of a session's source: that of the last Add of its wire with no Delete of that wire since
abbrev pub source_key : List Event → ℕ → Option ℕ
source_key told session = fold (after_call session) None told

-- the key that a report names: that of a session's source, or the key itself
abbrev pub key_named : ℕ → List Event → ReadySource → Option ℕ
key_named sessions told (source.Session i) = if nat_lt i sessions then source_key told i else None
key_named sessions told (source.Key key) = Some key

abbrev pub report_with : Option ℕ → Ready → Option Report
report_with None r = None
report_with (Some key) r = Some (record { key = key; read = r.read; write = r.write })

abbrev pub report_of : ℕ → List Event → Ready → Option Report
report_of sessions told r = report_with (key_named sessions told r.source) r

-- the reports that an answer names; those of sessions without a source are left out
abbrev pub reports_of : ℕ → List Event → List Ready → List Report
reports_of sessions told readies = filter_map (report_of sessions told) readies

-- Whether two answers are the same.

abbrev pub bool_eq : Bool → Bool → Bool
bool_eq true b = b
bool_eq false b = not b

abbrev pub peer_eq : Peer → Peer → Bool
peer_eq (peer.V4 ip port) (peer.V4 ip' port') = ip == ip' && port == port'
peer_eq (peer.V6 ip port) (peer.V6 ip' port') = ip == ip' && port == port'
peer_eq p p' = false

abbrev pub peers_eq : List Peer → List Peer → Bool
peers_eq [] [] = true
peers_eq (p ∷ ps) (p' ∷ ps') = peer_eq p p' && peers_eq ps ps'
peers_eq ps ps' = false

abbrev pub dial_eq : DialAnswer → DialAnswer → Bool
dial_eq (dial_answer.Opened passes) (dial_answer.Opened passes') = bool_eq passes passes'
dial_eq (dial_answer.Found ps) (dial_answer.Found ps') = peers_eq ps ps'
dial_eq (dial_answer.Nonce bytes) (dial_answer.Nonce bytes') = bytes_eq bytes bytes'
dial_eq (dial_answer.Output success text) (dial_answer.Output success' text') =
    bool_eq success success' && bytes_eq text text'
dial_eq dial_answer.Failed dial_answer.Failed = true
dial_eq a a' = false

abbrev pub recv_eq : RecvAnswer → RecvAnswer → Bool
recv_eq (recv_answer.Got bytes) (recv_answer.Got bytes') = bytes_eq bytes bytes'
recv_eq recv_answer.End recv_answer.End = true
recv_eq recv_answer.NotReady recv_answer.NotReady = true
recv_eq recv_answer.Failed recv_answer.Failed = true
recv_eq a a' = false

abbrev pub send_eq : SendAnswer → SendAnswer → Bool
send_eq (send_answer.Took n) (send_answer.Took n') = n == n'
send_eq send_answer.NotReady send_answer.NotReady = true
send_eq send_answer.Failed send_answer.Failed = true
send_eq a a' = false

abbrev pub report_eq : Report → Report → Bool
report_eq r r' = r.key == r'.key && (bool_eq r.read r'.read && bool_eq r.write r'.write)

-- Whether so many reports fill the room of the waits so far, where so many are named. Where rooms differed, any front
-- does.
abbrev pub fills : Rooms → ℕ → ℕ → Bool
fills rooms.Unwaited count named = false
fills (rooms.Each room) count named = count == min room named
fills rooms.Differ count named = true

-- the same of an answer
abbrev pub is_filled : Rooms → ℕ → List Event → Option ScriptWait → WaitAnswer → Bool
is_filled rooms.Unwaited sessions told given answer = false
is_filled r sessions told (Some (script_wait.Reported readies)) (wait_answer.Reported reports) =
    fills r (length reports) (length (reports_of sessions told readies))
is_filled r sessions told given answer = true

-- Whether a wait answers what its queue says, but for the room: its reports are a front of those that the answer names.
abbrev pub is_wait_given : ℕ → List Event → Option ScriptWait → WaitAnswer → Bool
is_wait_given sessions told None (wait_answer.Reported reports) = length reports == 0
is_wait_given sessions told (Some (script_wait.Reported readies)) (wait_answer.Reported reports) =
    starts_with report_eq (reports_of sessions told readies) reports
is_wait_given sessions told (Some script_wait.Interrupted) wait_answer.Interrupted = true
is_wait_given sessions told (Some script_wait.Failed) wait_answer.Failed = true
is_wait_given sessions told asked a = false

-- a wait of this room is among those that were lent these rooms
abbrev pub IsLent : Rooms → ℕ → Type 0
IsLent rooms.Unwaited room = ⊥
IsLent (rooms.Each each) room = each ≡ room
IsLent rooms.Differ room = Unit {0}

-- The answer to a wait that is lent so much room, exactly: of the reports that name a source, the first ones up to the
-- room.
abbrev pub wait_given : ℕ → ℕ → List Event → Option ScriptWait → WaitAnswer
wait_given room sessions told None = wait_answer.Reported []
wait_given room sessions told (Some (script_wait.Reported readies)) =
    wait_answer.Reported (take room (reports_of sessions told readies))
wait_given room sessions told (Some script_wait.Interrupted) = wait_answer.Interrupted
wait_given room sessions told (Some script_wait.Failed) = wait_answer.Failed

-- Records.

abbrev pub only_if : {X : Type 0} → Bool → X → Option X
only_if true x = Some x
only_if false x = None

-- The queues after an event, if it has the next answer of its queue. The waits were lent these rooms; `told` is the
-- record before the event.
abbrev pub next : Rooms → List Event → Queues → Event → Option Queues
next r told q (event.Dial wire asked a) =
    only_if (dial_eq (dial_given asked (next_answer (queue_at q.dials wire))) a) (record q {
      dials = without_next q.dials wire;
    })
next r told q (event.Recv wire asked a) =
    only_if (recv_eq (recv_given asked (next_answer (queue_at q.recvs wire))) a) (record q {
      recvs = after_recv asked q.recvs wire;
    })
next r told q (event.Send wire offered a) =
    only_if (send_eq (send_given (length offered) (next_answer (queue_at q.sends wire))) a) (record q {
      sends = without_next q.sends wire;
    })
next r told q (event.Close wire) = Some q
next r told q (event.Now t) =
    only_if (reading_given (last_reading told) (next_answer q.nows) == t)
    (record q { nows = drop 1 q.nows })
next r told q (event.Add wire key ok) =
    only_if (bool_eq (outcome_given (next_answer q.adds)) ok)
    (record q { adds = drop 1 q.adds })
next r told q (event.Modify wire key read write ok) =
    only_if (bool_eq (outcome_given (next_answer q.modifies)) ok)
    (record q { modifies = drop 1 q.modifies })
next r told q (event.Delete wire key ok) =
    only_if (bool_eq (outcome_given (next_answer q.deletes)) ok)
    (record q { deletes = drop 1 q.deletes })
next r told q (event.Notify ok) =
    only_if (bool_eq (outcome_given (next_answer q.notifies)) ok)
    (record q { notifies = drop 1 q.notifies })
next r told q (event.Wait timeout a) =
    only_if
    (is_wait_given (length q.dials) told (next_answer q.waits) a
    && is_filled r (length q.dials) told (next_answer q.waits) a)
    (record q { waits = drop 1 q.waits })

abbrev pub next_of : Rooms → List Event → Option Queues → Event → Option Queues
next_of r told None e = None
next_of r told (Some q) e = next r told q e

-- the queues after these events, which come behind the record `told`
abbrev pub played_from : Rooms → List Event → Option Queues → List Event → Option Queues
played_from r told q [] = q
played_from r told q (e ∷ events) = played_from r (told ++ e ∷ []) (next_of r told q e) events

-- what is left of a script's queues after a whole record, if each event has the next answer of its queue
abbrev pub played : Rooms → Queues → List Event → Option Queues
played r script told = played_from r [] (Some script) told

-- The record follows from the script, its waits being lent these rooms.
abbrev pub Follows : Rooms → Queues → List Event → Type 0
Follows r script told = is_some (played r script told) ≡ true

-- a script, and the play so far: the rooms that its waits were lent, and the record
pub record Play : Type 0 where
  pub script : Queues
  pub rooms : Rooms
  pub told : List Event

-- what holds where the answer is not want of memory
abbrev pub OnAnswer : {T : Type 0} → Result T Fault → Type 0 → Type 0
OnAnswer (Ok v) P = P
OnAnswer (Err fault.Failed) P = P
OnAnswer (Err fault.OutOfMemory) P = Unit {0}

abbrev pub GainsWait : ℕ → Option ℕ → Play → Play → Type 0
GainsWait room timeout before after =
    (left : Queues) × (played before.rooms before.script before.told ≡ Some left)
    × (after.told ≡ before.told
    ++ event.Wait timeout (wait_given room (length left.dials) before.told (next_answer left.waits)) ∷ [])

-- A wait that is lent so much room: what the script has left is due, and the record gains the event with its next
-- answer. For want of memory nothing is told.
abbrev pub AnswersWait : {T : Type 0} → ℕ → Option ℕ → Play → Play → Result T Fault → Type 0
AnswersWait room timeout before after (Err fault.OutOfMemory) = after.told ≡ before.told
AnswersWait room timeout before after (Err fault.Failed) = GainsWait room timeout before after
AnswersWait room timeout before after (Ok v) = GainsWait room timeout before after

-- What a record tells of faults.

abbrev pub is_poller_fault : Event → Bool
is_poller_fault (event.Add wire key ok) = not ok
is_poller_fault (event.Modify wire key read write ok) = not ok
is_poller_fault (event.Delete wire key ok) = not ok
is_poller_fault (event.Notify ok) = not ok
is_poller_fault (event.Wait timeout wait_answer.Failed) = true
is_poller_fault e = false

abbrev pub is_wire_fault : ℕ → Event → Bool
is_wire_fault wire (event.Recv w asked recv_answer.Failed) = w == wire
is_wire_fault wire (event.Send w offered send_answer.Failed) = w == wire
is_wire_fault wire e = false

abbrev pub is_dial_fault : ℕ → Event → Bool
is_dial_fault wire (event.Dial w asked dial_answer.Failed) = w == wire
is_dial_fault wire e = false

abbrev pub faults_of_poller : List Event → ℕ
faults_of_poller told = count_by is_poller_fault told

abbrev pub faults_of_wire : List Event → ℕ → ℕ
faults_of_wire told wire = count_by (is_wire_fault wire) told

abbrev pub faults_of_dials : List Event → ℕ → ℕ
faults_of_dials told wire = count_by (is_dial_fault wire) told

-- a count of faults, which stands still at its type's end
abbrev pub counted : ℕ → ℕ
counted faults = min faults (2 ^ 64 - 1)

-- what contracts see of a scene
abbrev pub outer_of : Play → Outer Queues
outer_of p = record {
  origin = p.script;
  events = Some p.told;
  moment = last_reading p.told;
  poller_faults = counted (faults_of_poller p.told);
  rooms = Some p.rooms;
  wire_faults = λ wire. counted (faults_of_wire p.told wire);
  dial_faults = λ wire. counted (faults_of_dials p.told wire);
  doors = record { faults = 0; arrivals = [] };
  ample = false;
}

is_counted : (faults : ℕ) → counted faults < 2 ^ 64
is_counted faults = omega arith

pub scene_counts_fit : (p : Play) → CountsFit (outer_of p)
scene_counts_fit p = record {
  poller = is_counted (faults_of_poller p.told);
  wires = λ wire. is_counted (faults_of_wire p.told wire);
  dials = λ wire. is_counted (faults_of_dials p.told wire);
  doors = omega arith;
}

-- Scripts without faults.

abbrev pub is_wait_fault : ScriptWait → Bool
is_wait_fault script_wait.Failed = true
is_wait_fault a = false

-- no answer to a call of the poller is a fault
pub record HasNoPollerFault (script : Queues) : Type 0 where
  pub adds : list_all (λ ok. ok) script.adds ≡ true
  pub modifies : list_all (λ ok. ok) script.modifies ≡ true
  pub deletes : list_all (λ ok. ok) script.deletes ≡ true
  pub notifies : list_all (λ ok. ok) script.notifies ≡ true
  pub waits : list_all (λ a. not (is_wait_fault a)) script.waits ≡ true
