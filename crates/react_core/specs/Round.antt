-- A round over an outside: what was answered in it, what was told, and its steps.
use Rattle.std.specs.Prelude.{◌≡◌, ◌≢◌, ◌+◌, ◌^◌, ◌-◌, ◌≤◌, ℕ, Bool, true, false, nat_lt, List, [], ◌∷◌, ◌++◌, map}
use Rattle.std.specs.Prelude.{Option, Some, None, length, Result, Ok, Err}
use Rattle.react_core.specs.declared.outside.Event.{Event}
use Rattle.react_core.specs.declared.outside.Event.TheVariants as event
use Rattle.react_core.specs.declared.outside.Report.{Report}
use Rattle.react_core.specs.declared.outside.WaitAnswer.{WaitAnswer}
use Rattle.react_core.specs.declared.outside.WaitAnswer.TheVariants as wait_answer
use Rattle.react_core.specs.declared.reactor.Counter.{Counter}
use Rattle.react_core.specs.declared.reactor.ReactError.{ReactError}
use Rattle.react_core.specs.declared.reactor.ReactError.TheVariants.{Poller, OutOfMemory, Exhausted}
use Rattle.react_core.specs.Core.{Core, ReactorState}
use Rattle.react_core.specs.Reports.{armings_by_all, Try, tries_told, worst, LackSo}
use Rattle.react_core.specs.Step.{RoundSteps, WokeAll}
use Rattle.react_core.specs.Timing.{wait_limit}
use Rattle.react_core.specs.Told.{Rose, told}

abbrev pub reports_of : WaitAnswer → List Report
reports_of (wait_answer.Reported reports) = reports
reports_of wait_answer.Interrupted = []
reports_of wait_answer.Failed = []

-- a wait that doesn't end at once
abbrev pub not_zero : Option ℕ → Bool
not_zero None = true
not_zero (Some d) = nat_lt 0 d

-- the timeout has passed, and nothing was reported
abbrev pub is_quiet : Option ℕ → WaitAnswer → Bool
is_quiet timeout (wait_answer.Reported []) = not_zero timeout
is_quiet timeout (wait_answer.Reported (r ∷ reports)) = false
is_quiet timeout wait_answer.Interrupted = false
is_quiet timeout wait_answer.Failed = false

-- the wait and the reading after it
pub data Pause : Type 0 where
  -- the wait found no memory
  Unwaited : Pause
  -- no second reading
  Waited : WaitAnswer → Pause
  -- a second reading, and its moment
  Reread : WaitAnswer → ℕ → Pause
  -- a second reading that found no memory
  Unreread : WaitAnswer → Pause

-- the outside's answers in a round, up to its reports
pub data Course : Type 0 where
  -- the first reading found no memory
  Unread : Course
  -- the first reading, and what came then
  Read : ℕ → Pause → Course

-- the clock is read again exactly where the timeout has passed and nothing was reported
abbrev pub IsPause : Option ℕ → Pause → Type 0
IsPause timeout Unwaited = Unit {0}
IsPause timeout (Waited answer) = is_quiet timeout answer ≡ false
IsPause timeout (Reread answer moment) = is_quiet timeout answer ≡ true
IsPause timeout (Unreread answer) = is_quiet timeout answer ≡ true

-- the wait's timeout is a function of the first reading
abbrev pub IsCourse : (ℕ → Option ℕ) → Course → Type 0
IsCourse limit Unread = Unit {0}
IsCourse limit (Read first pause) = IsPause (limit first) pause

abbrev pub pause_told : Option ℕ → Pause → List Event
pause_told timeout Unwaited = []
pause_told timeout (Waited answer) = event.Wait timeout answer ∷ []
pause_told timeout (Reread answer moment) = event.Wait timeout answer ∷ event.Now moment ∷ []
pause_told timeout (Unreread answer) = event.Wait timeout answer ∷ []

abbrev pub course_told : (ℕ → Option ℕ) → Course → List Event
course_told limit Unread = []
course_told limit (Read first pause) = event.Now first ∷ pause_told (limit first) pause

abbrev pub pause_reports : Pause → List Report
pause_reports Unwaited = []
pause_reports (Waited answer) = reports_of answer
pause_reports (Reread answer moment) = reports_of answer
pause_reports (Unreread answer) = reports_of answer

-- the second reading, where there was one
abbrev pub pause_again : Pause → Option ℕ
pause_again Unwaited = None
pause_again (Waited answer) = None
pause_again (Reread answer moment) = Some moment
pause_again (Unreread answer) = None

abbrev pub course_reports : Course → List Report
course_reports Unread = []
course_reports (Read first pause) = pause_reports pause

abbrev pub wait_refusal : WaitAnswer → Result (Unit {0}) ReactError
wait_refusal (wait_answer.Reported reports) = Ok tt
wait_refusal wait_answer.Interrupted = Ok tt
wait_refusal wait_answer.Failed = Err Poller

abbrev pub pause_answer : Pause → Result (Unit {0}) ReactError
pause_answer Unwaited = Err OutOfMemory
pause_answer (Waited answer) = wait_refusal answer
pause_answer (Reread answer moment) = wait_refusal answer
pause_answer (Unreread answer) = Err OutOfMemory

abbrev pub course_answer : Course → Result (Unit {0}) ReactError
course_answer Unread = Err OutOfMemory
course_answer (Read first pause) = pause_answer pause

-- the clock's last reading after the round
abbrev pub PauseClock : ℕ → Pause → ℕ → Type 0
PauseClock first Unwaited now = now ≡ first
PauseClock first (Waited answer) now = now ≡ first
PauseClock first (Reread answer moment) now = (first ≤ moment) × (now ≡ moment)
PauseClock first (Unreread answer) now = now ≡ first

abbrev pub CourseClock : ℕ → Course → ℕ → Type 0
CourseClock before Unread now = now ≡ before
CourseClock before (Read first pause) now = (before ≤ first) × PauseClock first pause now

-- what a course does to the core, and the tasks that it wakes: nothing where the clock could not be read, else a round
-- with the reports of its wait
abbrev pub CourseSteps : Core → Option ℕ → Course → List ℕ → Core → Type 0
CourseSteps old timeout Unread woken new = record { wakes : woken ≡ []; core : new ≡ old }
CourseSteps old timeout (Read first pause) woken new =
    RoundSteps old first timeout (pause_reports pause) (pause_again pause) woken new

-- the first refusal of two answers
abbrev pub then_answer : Result (Unit {0}) ReactError → Result (Unit {0}) ReactError → Result (Unit {0}) ReactError
then_answer (Ok u) second = second
then_answer (Err e) second = Err e

-- a round of this course, in which the armings after its reports were tried so: a wait that was refused or failed is
-- finished with no reports
pub record Ran {W : Type 0} (woke : W → ℕ → W → Type 0) (timeout : Option ℕ) (ample : Bool)
    (before after : Option (List Event)) (moment now : ℕ) (old new : ReactorState) (wakes wakes' : W)
    (answer : Result (Unit {0}) ReactError) (course : Course) (tries : List Try) : Type 0 where
  pub form : IsCourse (λ first. wait_limit old.core first timeout) course
  -- a wait gives no more reports than the reactor has room for
  pub within : length (course_reports course) ≤ old.events
  pub each : map (λ t. t.0) tries ≡ armings_by_all (old.core.ticker + 1) old.core.sources (course_reports course)
  pub answers : answer ≡ then_answer (course_answer course) (worst tries)
  pub gained : after ≡ told before (course_told (λ first. wait_limit old.core first timeout) course ++ tries_told tries)
  pub lack : LackSo ample tries
  pub clock : CourseClock moment course now
  -- the tasks that the round's end wakes
  pub tasks : List ℕ
  pub steps : CourseSteps old.core timeout course tasks new.core
  pub woken : WokeAll woke wakes tasks wakes'

-- ---- the next number of a counter

-- Exhausted exactly where the next number of this counter was needed and the last one stood at its type's end
abbrev pub NumberedBy : {T : Type 0} → Counter → Result T ReactError → ℕ → Type 0
NumberedBy counter (Ok v) last = last ≢ 2 ^ 64 - 1
NumberedBy counter (Err Poller) last = last ≢ 2 ^ 64 - 1
NumberedBy counter (Err OutOfMemory) last = last ≢ 2 ^ 64 - 1
NumberedBy counter (Err (Exhausted c value)) last = (c ≡ counter) × (value ≡ 2 ^ 64 - 1) × (last ≡ 2 ^ 64 - 1)

-- what holds where a number was exhausted
abbrev pub OnExhausted : {T : Type 0} → Result T ReactError → Type 0 → Type 0
OnExhausted (Ok v) P = Unit {0}
OnExhausted (Err Poller) P = Unit {0}
OnExhausted (Err OutOfMemory) P = Unit {0}
OnExhausted (Err (Exhausted c value)) P = P

-- what holds where none was
abbrev pub UnlessExhausted : {T : Type 0} → Result T ReactError → Type 0 → Type 0
UnlessExhausted (Ok v) P = P
UnlessExhausted (Err Poller) P = P
UnlessExhausted (Err OutOfMemory) P = P
UnlessExhausted (Err (Exhausted c value)) P = Unit {0}

-- the answer is Poller exactly where this count rose
abbrev pub RoundCounted : {T : Type 0} → Result T ReactError → ℕ → ℕ → Type 0
RoundCounted (Ok v) before now = now ≡ before
RoundCounted (Err Poller) before now = Rose before now
RoundCounted (Err OutOfMemory) before now = now ≡ before
RoundCounted (Err (Exhausted c value)) before now = now ≡ before

-- the answer alone, without its value
abbrev pub answer_of : {T : Type 0} → Result T ReactError → Result (Unit {0}) ReactError
answer_of (Ok v) = Ok tt
answer_of (Err e) = Err e

-- a pause of this form, after the clock's first reading, with this second one
pub record Paused {T : Type 0} (timeout : Option ℕ) (before after : Option (List Event)) (first now : ℕ)
    (reports : List Report) (again : Option ℕ) (answer : Result T ReactError) (p : Pause) : Type 0 where
  pub form : IsPause timeout p
  pub gained : after ≡ told before (pause_told timeout p)
  pub clock : PauseClock first p now
  pub reported : reports ≡ pause_reports p
  pub reread : again ≡ pause_again p
  pub answers : answer_of answer ≡ pause_answer p
