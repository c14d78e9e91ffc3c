-- Where a session stands after the pieces so far: its key, the directions that wait, its last reading, and whether it
-- sleeps.
use Rattle.std.specs.Prelude.{ℕ, Bool, true, false, not, ◌&&◌, ◌||◌, ◌==◌, if◌then◌else◌, List}
use Rattle.std.specs.Prelude.{Option, Some, None, is_some}
use Rattle.std.specs.List.{fold, list_any, list_all}
use Rattle.react_core.specs.declared.outside.Event.{Event}
use Rattle.react_core.specs.declared.outside.Event.TheVariants as event
use Rattle.react_core.specs.declared.outside.RecvAnswer.TheVariants as recv_answer
use Rattle.react_core.specs.declared.outside.SendAnswer.TheVariants as send_answer
use Rattle.react_core.specs.declared.outside.Report.{Report}
use Rattle.react_core.specs.declared.reactor.Dir.{Dir}
use Rattle.react_core.specs.declared.reactor.Dir.TheVariants.{Read, Write}
use Rattle.react_core.specs.Round.{reports_of}
use Rattle.bus_session.specs.declared.session.Session.{Session}
use Rattle.bus_session.specs.Parts.{part}
use Rattle.bus_session.specs.Outcomes.{is_ended}
use Rattle.bus_session.specs.Alone.{alone, has_reached}
use Rattle.bus_record.specs.Pieces.{Round, visit, round, Pieces, nothing, ◌▸◌, events_of, told}

-- ---- keys

-- the key of a source after one more event of its wire
abbrev pub key_by : Option ℕ → Event → Option ℕ
key_by key (event.Add wire k ok) = Some k
key_by key (event.Delete wire k ok) = None
key_by key e = key

-- the same after all of these
abbrev pub key_through : Option ℕ → List Event → Option ℕ
key_through key events = fold key_by key events

-- the key of the wire's source: the one that its visits added last and did not delete
abbrev pub key_of : ℕ → Pieces → Option ℕ
key_of wire nothing = None
key_of wire (past ▸ visit w events) = if w == wire then key_through (key_of wire past) events else key_of wire past
key_of wire (past ▸ round r) = key_of wire past

-- who holds a key after one more event
abbrev pub holder_by : ℕ → Option ℕ → Event → Option ℕ
holder_by key h (event.Add wire k ok) = if k == key then Some wire else h
holder_by key h (event.Delete wire k ok) = if k == key then None else h
holder_by key h e = h

-- the same after all of these
abbrev pub holder_through : ℕ → Option ℕ → List Event → Option ℕ
holder_through key h events = fold (holder_by key) h events

-- the wire that holds a key: the one of the last Add of the key, where no Delete of it has come since
abbrev pub holder : ℕ → Pieces → Option ℕ
holder key nothing = None
holder key (past ▸ piece) = holder_through key (holder key past) (events_of piece)

-- ---- directions

-- the flag of the direction
abbrev pub names : Dir → Bool → Bool → Bool
names Read read write = read
names Write read write = write

-- these reports name the direction under the key
abbrev pub named : Dir → ℕ → List Report → Bool
named x key reports = list_any (λ t. (t.key == key) && names x t.read t.write) reports

-- the same of a key that is there
abbrev pub named_of : Dir → Option ℕ → List Report → Bool
named_of x None reports = false
named_of x (Some key) reports = named x key reports

-- the round's Wait reports the direction of the wire's key
abbrev pub reports : Dir → ℕ → Pieces → Round → Bool
reports x wire past r = named_of x (key_of wire past) (reports_of r.answer)

-- whether a direction waits after one more event of its session's visits
abbrev pub waits_by : Dir → Bool → Event → Bool
waits_by x was (event.Modify wire key read write ok) = was || names x read write
waits_by x was (event.Delete wire key ok) = false
waits_by x was e = was

-- the same after all of these
abbrev pub waits_through : Dir → Bool → List Event → Bool
waits_through x was events = fold (waits_by x) was events

-- The direction waits: a visit of the wire armed it, its source is still there, and no Wait has reported it since.
abbrev pub waits : Dir → ℕ → Pieces → Bool
waits x wire nothing = false
waits x wire (past ▸ visit w events) =
    if w == wire then waits_through x (waits x wire past) events else waits x wire past
waits x wire (past ▸ round r) = waits x wire past && not (reports x wire past r)

-- the direction in which a wire was not ready for this call
abbrev pub stop_of : Event → Option Dir
stop_of (event.Recv wire asked recv_answer.NotReady) = Some Read
stop_of (event.Send wire offered send_answer.NotReady) = Some Write
stop_of e = None

-- it is the direction
abbrev pub is_dir : Dir → Option Dir → Bool
is_dir x None = false
is_dir Read (Some Read) = true
is_dir Read (Some Write) = false
is_dir Write (Some Read) = false
is_dir Write (Some Write) = true

-- the event is a NotReady of the direction
abbrev pub stops : Dir → Event → Bool
stops x e = is_dir x (stop_of e)

-- whether a direction counts as reported after one more event of its session's visits
abbrev pub reported_by : Dir → Bool → Event → Bool
reported_by x was (event.Delete wire key ok) = false
reported_by x was e = was && not (stops x e)

-- the same after all of these
abbrev pub reported_through : Dir → Bool → List Event → Bool
reported_through x was events = fold (reported_by x) was events

-- The direction was reported: a Wait has reported it while it waited, and no NotReady of it has come since.
abbrev pub reported : Dir → ℕ → Pieces → Bool
reported x wire nothing = false
reported x wire (past ▸ visit w events) =
    if w == wire then reported_through x (reported x wire past) events else reported x wire past
reported x wire (past ▸ round r) = reported x wire past || (waits x wire past && reports x wire past r)

-- the direction that the last call paused, after one more event
abbrev pub last_stop_by : Option Dir → Event → Option Dir
last_stop_by last (event.Recv wire asked answer) = stop_of (event.Recv wire asked answer)
last_stop_by last (event.Send wire offered answer) = stop_of (event.Send wire offered answer)
last_stop_by last e = last

-- the direction that the last call among these events paused
abbrev pub last_stop : Option Dir → List Event → Option Dir
last_stop last events = fold last_stop_by last events

-- the direction that the wire's last answer paused
abbrev pub paused : ℕ → Pieces → Option Dir
paused wire nothing = None
paused wire (past ▸ visit w events) = if w == wire then last_stop (paused wire past) events else paused wire past
paused wire (past ▸ round r) = paused wire past

-- ---- readings

-- the last reading after one more event
abbrev pub last_reading_by : Option ℕ → Event → Option ℕ
last_reading_by last (event.Now moment) = Some moment
last_reading_by last e = last

-- the last reading among these events
abbrev pub last_reading : Option ℕ → List Event → Option ℕ
last_reading last events = fold last_reading_by last events

-- the session's moment: the reading of its last visit, if that made one
abbrev pub moment : ℕ → Pieces → Option ℕ
moment wire nothing = None
moment wire (past ▸ visit w events) = if w == wire then last_reading None events else moment wire past
moment wire (past ▸ round r) = moment wire past

-- before this deadline
abbrev pub is_before : Option ℕ → Option ℕ → Bool
is_before deadline reading = not (has_reached deadline reading)

-- the reading of the session's last visit, and those of each round since, are below the deadline
abbrev pub is_early : Option ℕ → ℕ → Pieces → Bool
is_early deadline wire nothing = true
is_early deadline wire (past ▸ visit w events) =
    if w == wire then is_before deadline (last_reading None events) else is_early deadline wire past
is_early deadline wire (past ▸ round r) =
    is_before deadline (Some r.first) && (is_before deadline r.second && is_early deadline wire past)

-- whether the source's timer was notified, after one more event of its session's visits
abbrev pub notified_by : Bool → Event → Bool
notified_by was (event.Notify ok) = true
notified_by was (event.Delete wire key ok) = false
notified_by was e = was

-- the same after all of these
abbrev pub notified_through : Bool → List Event → Bool
notified_through was events = fold notified_by was events

-- a visit of the wire has had the Notify of its source's timer
abbrev pub notified : ℕ → Pieces → Bool
notified wire nothing = false
notified wire (past ▸ visit w events) =
    if w == wire then notified_through (notified wire past) events else notified wire past
notified wire (past ▸ round r) = notified wire past

-- ---- sleeping

-- whether the last arming in a visit names the direction, after one more event
abbrev pub armed_by : Dir → Bool → Event → Bool
armed_by x was (event.Modify wire key read write ok) = names x read write
armed_by x was e = was

-- the same after all of these
abbrev pub armed_through : Dir → Bool → List Event → Bool
armed_through x was events = fold (armed_by x) was events

-- the event is no Modify of the wire, or one that names the direction
abbrev pub keeps_armed : Dir → ℕ → Event → Bool
keeps_armed x wire (event.Modify w key read write ok) = not (w == wire) || names x read write
keeps_armed x wire e = true

-- the last Modify in a visit of the wire named the direction, and so did each of a round since
abbrev pub stays_armed : Dir → ℕ → Pieces → Bool
stays_armed x wire nothing = false
stays_armed x wire (past ▸ visit w events) =
    if w == wire then armed_through x (stays_armed x wire past) events else stays_armed x wire past
stays_armed x wire (past ▸ round r) = stays_armed x wire past && list_all (keeps_armed x wire) r.rearmed

-- the deadline that the session has after these pieces
abbrev pub deadline_at : Session → ℕ → Pieces → Option ℕ
deadline_at s wire past = s.deadline

-- it sleeps, where its wire's last answer paused this direction
abbrev pub sleeps_in : Session → ℕ → Pieces → Option Dir → Bool
sleeps_in s wire past None = false
sleeps_in s wire past (Some x) =
    waits x wire past
    && (stays_armed x wire past && (is_some (key_of wire past) && is_early (deadline_at s wire past) wire past))

-- The session sleeps: the wire's last answer is NotReady of a direction that waits and stayed armed, its source is
-- there, and no reading since has reached its deadline.
abbrev pub sleeps : Session → ℕ → Pieces → Bool
sleeps s wire past = sleeps_in s wire past (paused wire past)

-- the session has ended: alone it comes to an ending other than Waiting
abbrev pub has_ended : Session → ℕ → Pieces → Bool
has_ended s wire past = is_ended (alone s (part wire (told past)) (moment wire past))
