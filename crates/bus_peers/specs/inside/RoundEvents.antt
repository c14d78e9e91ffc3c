-- A round, as a record shows it: the clock, the wait, and the clock again where nothing came in time.
use Rattle.react_timers.specs.declared.timer.LiveTimer.{LiveTimer}
use Rattle.react_timers.specs.Live.{later}
use Rattle.std.specs.Prelude.{◌++◌, ◌≡◌, ◌≢◌, ◌≤◌, ℕ, is_some, List, [], ◌∷◌, Option, Some, None}
use Rattle.react_core.specs.declared.outside.Event.{Event}
use Rattle.react_core.specs.declared.outside.Event.TheVariants as event
use Rattle.react_core.specs.declared.outside.WaitAnswer.{WaitAnswer}
use Rattle.react_core.specs.declared.outside.WaitAnswer.TheVariants as wait_answer
use Rattle.react_core.specs.Round.{is_quiet}
use Rattle.react_core.specs.declared.outside.Report.{Report}
use Rattle.bus_visit.specs.Registry.{Held, held_at, arming, reported_held, after_report_held}

-- the first reading of the clock, the wait and its answer, and the second reading where one was made
pub record Round : Type 0 where
  pub first : ℕ
  pub timeout : Option ℕ
  pub answer : WaitAnswer
  pub second : Option ℕ

abbrev pub reading_told : Option ℕ → List Event
reading_told None = []
reading_told (Some moment) = event.Now moment ∷ []

abbrev pub round_told : Round → List Event
round_told r = event.Now r.first ∷ event.Wait r.timeout r.answer ∷ reading_told r.second

-- a second reading is made exactly where the timeout has passed and nothing was reported; no wait has failed
abbrev pub IsRound : Round → Type 0
IsRound r = (is_some r.second ≡ is_quiet r.timeout r.answer) × (r.answer ≢ wait_answer.Failed)

-- the clock's last reading after a first one
abbrev pub ReadTo : ℕ → Option ℕ → ℕ → Type 0
ReadTo first None now = now ≡ first
ReadTo first (Some moment) now = (first ≤ moment) × (now ≡ moment)

-- the clock went from the first moment to the second, and never fell
abbrev pub RoundClock : ℕ → Round → ℕ → Type 0
RoundClock before r now = (before ≤ r.first) × ReadTo r.first r.second now

-- the timers that a second reading leaves
abbrev pub left_after : Option ℕ → List LiveTimer → List LiveTimer
left_after None timers = timers
left_after (Some moment) timers = later moment timers

-- the re-arming after reports, in their order: for each whose key has a holder, what of it still waits then
abbrev pub rearming_of : Option Held → Report → List Event
rearming_of None r = []
rearming_of (Some h) r = arming (reported_held h r)

abbrev pub rearming : List Held → List Report → List Event
rearming held [] = []
rearming held (r ∷ reports) = rearming_of (held_at held r.key) r ++ rearming (after_report_held held r) reports
