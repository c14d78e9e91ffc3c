-- What a run of the program does.
use Rattle.std.specs.Prelude.{◌≡◌, ℕ, ◌≤◌, ◌<◌, ◌+◌, ◌-◌, ◌^◌, ◌⊎◌, Bool, true, false, List, length, Option, Some, Ok}
use Rattle.std.specs.Prelude.{Err, []}
use Rattle.std.specs.List.{list_all}
use Rattle.std.specs.Io.KnownBytes.{Consumes, IsAtEnd, Keeps}
use Rattle.react_core.specs.declared.outside.Event.{Event}
use Rattle.react_core.specs.declared.outside.Rooms.TheVariants as rooms
use Rattle.react_core.specs.Outer.{Outer, Keeps as outside_keeps, All}
use Rattle.react_core.specs.Told.{Rose, told}
use Rattle.bus_script.specs.Script.{Script, Refused, script, start_of}
use Rattle.bus_script.specs.declared.reading.ScriptForm.{ScriptForm}
use Rattle.bus_script.specs.declared.reading.ScriptForm.TheVariants as forms
use Rattle.bus_session.specs.declared.ended.Ending.{Ending}
use Rattle.bus_session.specs.declared.ended.Ending.TheVariants as ending
use Rattle.bus_session.specs.declared.ended.Ended.{Ended}
use Rattle.bus_scene.specs.Queues.{Queues, queues}
use Rattle.bus_scene.specs.Plays.{Follows, HasNoPollerFault, faults_of_poller}
use Rattle.bus_peers.specs.declared.open.OpenError.{OpenError}
use Rattle.bus_peers.specs.declared.open.OpenError.TheVariants as open_err
use Rattle.bus_session.specs.declared.session.Session.{Session}
use Rattle.bus_record.specs.Pieces.{Pieces}
use Rattle.bus_record.specs.Headline.{Headline}
use Rattle.bus_record.specs.Failing.{PollerFailed}
use Rattle.bus_peers.specs.Exhausted.{NoRoundLeft, NoTimerLeft}
use Rattle.bus_peers.specs.Faults.{EndedsCounted}
use Rattle.react_core.specs.Core.{Core}
use Rattle.bus_script.specs.Printed.{printed, session_lines}
use Rattle.bus_printed.specs.Names.{Names}
use Rattle.bus_check.specs.declared.kind.Kind.{Kind}
use Rattle.bus_check.specs.Says.{Says}
use Rattle.bus_open.specs.Commands.{asked, checked_text}
use Rattle.bus_open.specs.declared.command.Command.{Command}
use Rattle.bus_open.specs.declared.command.Command.TheVariants.{Play, Open, Bulk, Check}
use Rattle.bus_open.specs.declared.playing.Report.{Report}
use Rattle.bus_open.specs.declared.playing.Report.TheVariants.{Whole, Summary}
use Rattle.bus_bulk.specs.Bulk.{bulk}
use Rattle.bus_bulk.specs.Summary.{summary_text}

-- The text came from the source: to its end, or more than a script may have.
pub record WasRead (old new : Option (List ℕ)) (text : List ℕ) : Type 0 where
  pub taken : Consumes old new text
  pub whole : length text ≤ 16777216 → IsAtEnd new

-- the command that reads a script of this form
abbrev pub command_of : ScriptForm → Command
command_of forms.Play = Play
command_of forms.Open = Open

-- how many reports a wait gives at most
abbrev pub most_reports : ℕ
most_reports = 64

-- The record follows from these answers: each event has the next one, and each wait gives as many reports as it may.
abbrev pub FollowsAnswers : Queues → List Event → Type 0
FollowsAnswers answers events = Follows (rooms.Each most_reports) answers events

-- What opening these sessions over a new scene of these answers comes to: the record is the scene's, from its first
-- event on,
-- it follows from the answers, no call of the poller failed, and endings and record are what `open_all` promises.
pub record ComesTo (answers : Queues) (sessions : List Session) (rounds : ℕ) (endeds : List Ended) (events : List
    Event) : Type 0 where
  pub follows : FollowsAnswers answers events
  pub faultless : faults_of_poller events ≡ 0
  -- how the record is cut into visits and rounds
  pub pieces : Pieces
  pub headline : Headline sessions rounds pieces endeds events
  -- no others are printed so
  pub named : Names (printed endeds events) endeds events

-- what is written of endings and a record
abbrev pub reported : Report → List Ended → List Event → List ℕ
reported Whole endeds events = printed endeds events
reported (Summary sessions) endeds events = summary_text sessions endeds

-- Endings and a record follow from a script.
pub record FollowFrom (s : Script) (endeds : List Ended) (events : List Event) : Type 0 where
  pub rounds : ℕ
  pub given : s.rounds ≡ Some rounds
  pub comes : ComesTo (queues (length s.sessions) s.answers) s.sessions rounds endeds events

abbrev pub is_open : Ending → Bool
is_open (ending.Open guid passes) = true
is_open other = false

-- every session is open
abbrev pub all_open : List Ended → Bool
all_open endeds = list_all (λ e. is_open e.ending) endeds

-- The source gave this script of that form, and was read to its end.
pub record Reads (form : ScriptForm) (old new : Option (List ℕ)) (s : Script) : Type 0 where
  pub text : List ℕ
  pub taken : Consumes old new text
  pub end : IsAtEnd new
  pub is_script : script form text ≡ Ok s

-- A script was read, and these endings and this record follow from it.
pub record Plays (old new : Option (List ℕ)) (endeds : List Ended) (events : List Event) : Type 0 where
  pub read : Script
  pub reads : Reads forms.Play old new read
  pub follow : FollowFrom read endeds events

-- What opening these sessions over an outside comes to, of which contracts see this before and after it: the endings
-- and the events that its record gained, where it tells one, are what `open_all` promises. Whether it tells one or not,
-- no call of its poller failed, and an ending shows a fault only where its wire's count of such faults rose.
pub record OpensTo {Origin : Type 0} (before after : Outer Origin) (sessions : List Session) (rounds : ℕ)
    (endeds : List Ended) : Type 0 where
  pub events : List Event
  pub gained : after.events ≡ told before.events events
  -- how the record is cut into visits and rounds
  pub pieces : Pieces
  pub headline : Headline sessions rounds pieces endeds events
  pub faultless : after.poller_faults ≡ before.poller_faults
  pub counted : EndedsCounted 0 endeds before after

-- A script of sessions was read, and opening them over the outside comes to these endings.
pub record Opens {Origin : Type 0} (old new : Option (List ℕ)) (before after : Outer Origin)
    (endeds : List Ended) : Type 0 where
  pub read : Script
  pub reads : Reads forms.Open old new read
  pub rounds : ℕ
  pub given : read.rounds ≡ Some rounds
  pub opens : OpensTo before after read.sessions rounds endeds

-- The results of a run, as a text, and whether all is well: what the source had left before and after it, and what
-- contracts see of the real outside.
pub data Results {Origin : Type 0} (words : List (List ℕ)) (old new : Option (List ℕ)) (before after : Outer Origin) :
    Bool → List ℕ → Type 0 where
  -- of a script that is played: every session is open; the text names its endings and its record
  played : (endeds : List Ended) (events : List Event) (well : Bool) (text : List ℕ) → asked words ≡ Ok Play → Plays
      old new endeds events → well ≡ all_open endeds → text ≡ printed endeds events → Names text endeds events →
      Results words old new before after well text
  -- of sessions that are opened over the real outside: every one is open; the text names their endings
  opened : (endeds : List Ended) (well : Bool) (text : List ℕ) → asked words ≡ Ok Open →
      Opens old new before after endeds → well ≡ all_open endeds → text ≡ session_lines endeds →
      Names text endeds [] → Results words old new before after well text
  -- of so many sessions of the kinds of a bulk run: every one is open; the text sums up endings that follow from the
  -- script of that run; nothing is read
  bulked : (sessions : ℕ) (endeds : List Ended) (events : List Event) (well : Bool) (text : List ℕ) →
      asked words ≡ Ok (Bulk sessions) → Keeps old new → FollowFrom (bulk sessions) endeds events →
      well ≡ all_open endeds → text ≡ summary_text sessions endeds → Results words old new before after well text
  -- of a text that is checked: it is one of its kind; nothing is read
  checked : (kind : Kind) (well : Bool) (text : List ℕ) → asked words ≡ Ok (Check kind) → Keeps old new →
      Says kind (checked_text words) well text → Results words old new before after well text

-- A call of the poller failed, as an answer has it: the record of these sessions over a new scene follows from the
-- answers up to that call, which cut it off, and the removals behind it. A scene may lack memory.
pub record PollerFails (answers : Queues) (sessions : List Session) (rounds : ℕ) : Type 0 where
  pub events : List Event
  pub follows : FollowsAnswers answers events
  pub failed : 0 < faults_of_poller events
  pub cut : PollerFailed sessions rounds false events
  pub faulty : ¬ HasNoPollerFault answers

-- the same of a script
pub record ScriptFails (s : Script) : Type 0 where
  pub rounds : ℕ
  pub given : s.rounds ≡ Some rounds
  pub fails : PollerFails (queues (length s.sessions) s.answers) s.sessions rounds

-- A call of the real poller failed: its count rose, and the events that the record gained, where there is one, are
-- those of these sessions up to that call, which cut it off, and the removals behind it.
pub record OpeningFails {Origin : Type 0} (before after : Outer Origin) (sessions : List Session)
    (rounds : ℕ) : Type 0 where
  pub events : List Event
  pub gained : after.events ≡ told before.events events
  pub rose : Rose before.poller_faults after.poller_faults
  pub cut : PollerFailed sessions rounds before.ample events

-- the same of a script of sessions that was read
pub record OpeningScriptFails {Origin : Type 0} (old new : Option (List ℕ)) (before after : Outer Origin) : Type 0 where
  pub read : Script
  pub reads : Reads forms.Open old new read
  pub rounds : ℕ
  pub given : read.rounds ≡ Some rounds
  pub fails : OpeningFails before after read.sessions rounds

-- A call of the poller failed: of a script that is played as one of its answers has it, else of the real outside.
abbrev pub HasPollerFailed : {Origin : Type 0} → List (List ℕ) → Option (List ℕ) → Option (List ℕ) → Outer Origin →
    Outer Origin → Type 0
HasPollerFailed words old new before after =
    ((asked words ≡ Ok Play) × ((s : Script) × Reads forms.Play old new s × ScriptFails s))
    ⊎ ((asked words ≡ Ok Open) × OpeningScriptFails old new before after)

-- all that a run leaves of the real outside as it was: the counts of no wire fall, and each wait is lent 64 places
abbrev pub KeepsOutside : {Origin : Type 0} → Outer Origin → Outer Origin → Type 0
KeepsOutside before after = outside_keeps (All most_reports) before after

-- The numbers of the rounds or of the timers run out, the last of which is 2 ^ 64 - 1: the next round that was left, or
-- the timer of a session that had to sleep, had no number. The record up to there follows from the answers.
pub record RunsOut (answers : Queues) (sessions : List Session) (tick timer rounds : ℕ) : Type 0 where
  pub events : List Event
  pub follows : FollowsAnswers answers events
  pub start : Core
  pub begins : start.ticker ≡ tick
  pub made : start.made ≡ timer
  pub exhausts : (NoRoundLeft sessions rounds false start events × (2 ^ 64 - 1 < tick + rounds))
      ⊎ (NoTimerLeft sessions rounds false start events × (2 ^ 64 - 1 < timer + length sessions))

-- the same of a script, whose rounds are begun behind its tick, and whose timers are made behind its timer
pub record ScriptRunsOut (s : Script) : Type 0 where
  pub rounds : ℕ
  pub given : s.rounds ≡ Some rounds
  pub out : RunsOut (queues (length s.sessions) s.answers) s.sessions (start_of s.start).tick (start_of s.start).timer
      rounds

-- the status of a refusal of `open_all`
abbrev pub status_of : OpenError → ℕ
status_of open_err.OutOfMemory = 5
status_of open_err.Poller = 6
status_of (open_err.Exhausted counter value) = 7

-- The script of that form that was read is refused.
abbrev pub RefusesScript : ScriptForm → Option (List ℕ) → Option (List ℕ) → Refused → Type 0
RefusesScript form old new r = (text : List ℕ) × WasRead old new text × (script form text ≡ Err r)

-- The words are refused, or the script that was read.
abbrev pub IsRefused : List (List ℕ) → Option (List ℕ) → Option (List ℕ) → Refused → Type 0
IsRefused words old new r =
    (Keeps old new × (r.line ≡ 0) × (asked words ≡ Err r.reason))
    ⊎ ((form : ScriptForm) × (asked words ≡ Ok (command_of form)) × RefusesScript form old new r)
