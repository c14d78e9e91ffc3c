-- What a record shows of the sources: which wires are registered under which keys, and how each of their directions
-- stands.
use Rattle.std.specs.Prelude.{◌≢◌, ℕ, Bool, true, false, ◌||◌, nat_lt, ◌==◌, if◌then◌else◌, List, [], ◌∷◌, Option}
use Rattle.std.specs.Prelude.{Some, None}
use Rattle.react_core.specs.declared.outside.Event.{Event}
use Rattle.react_core.specs.declared.outside.Event.TheVariants as event
use Rattle.react_core.specs.declared.outside.RecvAnswer.TheVariants as recv_answer
use Rattle.react_core.specs.declared.outside.SendAnswer.TheVariants as send_answer
use Rattle.react_core.specs.declared.outside.Report.{Report}
use Rattle.react_core.specs.declared.outside.WaitAnswer.{WaitAnswer}
use Rattle.react_core.specs.declared.outside.WaitAnswer.TheVariants as wait_answer
use Rattle.react_core.specs.declared.reactor.Dir.{Dir}
use Rattle.react_core.specs.declared.reactor.Dir.TheVariants.{Read, Write}

-- how a direction of a session stands
pub data Side : Type 0 where
  -- its last NotReady ended no visit, or there was none
  Idle : Side
  -- its last NotReady ended a visit, and no Wait since has reported it
  Waits : Side
  -- its last NotReady ended a visit, and a Wait since has reported it: the next NotReady asks again
  Reported : Side

-- after a NotReady
abbrev pub stopped : Side → Side
stopped Idle = Waits
stopped Waits = Waits
stopped Reported = Idle

-- after a report that names the direction, or not
abbrev pub told_of : Bool → Side → Side
told_of false s = s
told_of true Idle = Idle
told_of true Waits = Reported
told_of true Reported = Reported

abbrev pub waits : Side → Bool
waits Idle = false
waits Waits = true
waits Reported = false

-- a key, the wire that holds it, and its directions
pub record Held : Type 0 where
  pub key : ℕ
  pub wire : ℕ
  pub read : Side
  pub write : Side

abbrev pub side_held : Dir → Held → Side
side_held Read h = h.read
side_held Write h = h.write

-- by rising key
abbrev pub with_held : List Held → Held → List Held
with_held [] new = new ∷ []
with_held (h ∷ held) new = if nat_lt new.key h.key then new ∷ h ∷ held else h ∷ with_held held new

abbrev pub without_held : List Held → ℕ → List Held
without_held [] key = []
without_held (h ∷ held) key = if h.key == key then held else h ∷ without_held held key

abbrev pub held_at : List Held → ℕ → Option Held
held_at [] key = None
held_at (h ∷ held) key = if h.key == key then Some h else held_at held key

-- after a NotReady of this direction
abbrev pub stopped_held : Dir → Held → Held
stopped_held Read h = record h { read = stopped h.read }
stopped_held Write h = record h { write = stopped h.write }

-- after a NotReady of this wire
abbrev pub noted : ℕ → Dir → List Held → List Held
noted wire dir [] = []
noted wire dir (h ∷ held) = (if h.wire == wire then stopped_held dir h else h) ∷ noted wire dir held

-- a report ends the waiting of the directions that it names
abbrev pub reported_held : Held → Report → Held
reported_held h r = record h { read = told_of r.read h.read; write = told_of r.write h.write }

abbrev pub after_report_held : List Held → Report → List Held
after_report_held [] r = []
after_report_held (h ∷ held) r = if h.key == r.key then reported_held h r ∷ held else h ∷ after_report_held held r

abbrev pub after_reports_held : List Held → List Report → List Held
after_reports_held held [] = held
after_reports_held held (r ∷ reports) = after_reports_held (after_report_held held r) reports

abbrev pub after_wait : List Held → WaitAnswer → List Held
after_wait held (wait_answer.Reported reports) = after_reports_held held reports
after_wait held wait_answer.Interrupted = held
after_wait held wait_answer.Failed = held

-- a new source
abbrev pub idle : ℕ → ℕ → Held
idle wire key = record { key = key; wire = wire; read = Idle; write = Idle }

-- who is registered after one more event; an arming changes no side
abbrev pub held_after : List Held → Event → List Held
held_after held (event.Add wire key true) = with_held held (idle wire key)
held_after held (event.Delete wire key ok) = without_held held key
held_after held (event.Wait timeout answer) = after_wait held answer
held_after held (event.Recv wire asked recv_answer.NotReady) = noted wire Read held
held_after held (event.Send wire offered send_answer.NotReady) = noted wire Write held
held_after held e = held

-- the same after all of these events
abbrev pub registry : List Held → List Event → List Held
registry held [] = held
registry held (e ∷ events) = registry (held_after held e) events

-- the arming of what waits, and no event where nothing does
abbrev pub arming : Held → List Event
arming h =
    if waits h.read || waits h.write then event.Modify h.wire h.key (waits h.read) (waits h.write) true ∷ [] else []

-- the wire has no key
abbrev pub Apart : ℕ → List Held → Type 0
Apart wire [] = Unit {0}
Apart wire (h ∷ held) = (h.wire ≢ wire) × Apart wire held

-- no two keys have one wire
abbrev pub Distinct : List Held → Type 0
Distinct [] = Unit {0}
Distinct (h ∷ held) = Apart h.wire held × Distinct held
