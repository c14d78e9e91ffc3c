-- What a conversation comes to while its wire is asked.
use Rattle.std.specs.Prelude.{◌≡◌, ℕ, Bool, true, false, List, Option, Some, Result, Ok, Err}
use Rattle.std.specs.Option.{option_and_then}
use Rattle.react_core.specs.declared.outside.Event.{Event}
use Rattle.react_core.specs.declared.reactor.Dir.{Dir}
use Rattle.bus_opening.specs.Talk.{Said}
use Rattle.bus_opening.specs.Openings.{Opening, StandsIn}
use Rattle.bus_opening.specs.declared.verdict.Verdict.{Verdict}
use Rattle.bus_opening.specs.declared.verdict.Verdict.TheVariants as verdict
use Rattle.bus_session.specs.declared.ended.Ending.{Ending}
use Rattle.bus_session.specs.declared.ended.Ending.TheVariants as ending
use Rattle.bus_session.specs.declared.session.Party.{Party}
use Rattle.bus_visit.specs.declared.conversing.Conversed.{Conversed}
use Rattle.bus_visit.specs.declared.conversing.Conversed.TheVariants as conversed
use Rattle.bus_visit.specs.Calls.{AreCalls, AllAnswered, StopsAt}
use Rattle.react_core.specs.Told.{told, Rose}
use Rattle.react_core.specs.declared.outside.OutOfMemory.{OutOfMemory}
use Rattle.bus_session.specs.Alone.{Course, converses, goes_through, outcome_of}

abbrev pub is_awake : Ending → Bool
is_awake ending.Waiting = false
is_awake e = true

-- the ending that a verdict is
abbrev pub ending_of : Verdict → Ending
ending_of (verdict.Authenticated settled) = ending.Open settled.guid settled.cap_unix_fd
ending_of verdict.Handshake = ending.Handshake
ending_of verdict.Io = ending.Io
ending_of verdict.LineTooLong = ending.LineTooLong
ending_of verdict.TooManyCommands = ending.TooManyCommands

-- a session to whose conversation these bytes came, and whose opening stands here, paused in this direction or not
abbrev pub stands_at : Party → (List (List ℕ) → Said) → List ℕ → Opening → Option Dir → Course
stands_at p talk b c paused =
    record { party = p; progress = converses talk (record { got = b; written = c.written; paused = paused }) }

-- it has ended so by these calls, for the session alone
abbrev pub EndsAs : Opening → Ending → List ℕ → List ℕ → List Event → Type 0
EndsAs c e written leftover calls =
    (talk : List (List ℕ) → Said) (b : List ℕ) (paused : Option Dir) (p : Party) (late : Bool) → StandsIn talk b c →
    option_and_then (outcome_of late) (goes_through (Some (stands_at p talk b c paused)) calls) ≡
    Some (record { ending = e; written = written; leftover = leftover })

-- it goes on so, paused by the last of these calls
pub record Pauses (talk : List (List ℕ) → Said) (b : List ℕ) (c c' : Opening) (calls : List Event)
    (b' : List ℕ) : Type 0 where
  pub stands : StandsIn talk b' c'
  pub dir : Dir
  pub through : (paused : Option Dir) (p : Party) →
      goes_through (Some (stands_at p talk b c paused)) calls ≡ Some (stands_at p talk b' c' (Some dir))
  pub waiting : (p : Party) →
      outcome_of false (stands_at p talk b' c' (Some dir)) ≡
      Some (record { ending = ending.Waiting; written = c'.written; leftover = c'.rest })

abbrev pub GoesOn : Opening → Opening → List Event → Type 0
GoesOn c c' calls =
    (talk : List (List ℕ) → Said) (b : List ℕ) → StandsIn talk b c → (b' : List ℕ) × Pauses talk b c c' calls b'

-- the same, paused in this direction
abbrev pub PausesAt : Dir → Opening → Opening → List Event → Type 0
PausesAt dir c c' calls =
    (talk : List (List ℕ) → Said) (b : List ℕ) → StandsIn talk b c →
    (b' : List ℕ) × (x : Pauses talk b c c' calls b') × (x.dir ≡ dir)

-- ---- the wire asked until the conversation ends or the wire isn't ready

-- over each history at which the opening stood, these are calls of its wire
abbrev pub CallsOf : ℕ → Opening → List Event → Type 0
CallsOf wire c calls = (talk : List (List ℕ) → Said) (b : List ℕ) → StandsIn talk b c → AreCalls wire calls

-- the session has ended so
pub record Ends (wire : ℕ) (before after : Option (List Event)) (c c' : Opening) (e : Ending) (calls : List Event)
    : Type 0 where
  pub gained : after ≡ told before calls
  pub own : CallsOf wire c calls
  pub answered : AllAnswered calls
  pub awake : is_awake e ≡ true
  pub ends : EndsAs c e c'.written c'.rest calls

-- the wire wasn't ready in this direction, and the conversation goes on when it is
pub record Stops (wire : ℕ) (before after : Option (List Event)) (c c' : Opening) (dir : Dir) (calls : List Event)
    : Type 0 where
  pub gained : after ≡ told before calls
  pub own : CallsOf wire c calls
  pub stops : StopsAt wire dir calls
  pub unended : c'.ended ≡ false
  pub pauses : PausesAt dir c c' calls

abbrev pub ConversesTo : ℕ → Option (List Event) → Option (List Event) → Opening → Opening → Conversed → Type 0
ConversesTo wire before after c c' (conversed.Over e) = (calls : List Event) × Ends wire before after c c' e calls
ConversesTo wire before after c c' (conversed.Paused dir) =
    (calls : List Event) × Stops wire before after c c' dir calls

-- Memory ran out behind these calls; the conversation has not ended, and stands there over what came.
pub record Interrupted (wire : ℕ) (before after : Option (List Event)) (c c' : Opening) (calls : List Event)
    : Type 0 where
  pub gained : after ≡ told before calls
  pub own : CallsOf wire c calls
  pub answered : AllAnswered calls
  pub unended : c'.ended ≡ false
  pub stands : (talk : List (List ℕ) → Said) (b : List ℕ) → StandsIn talk b c → (b' : List ℕ) × StandsIn talk b' c'

abbrev pub IsInterrupted : ℕ → Option (List Event) → Option (List Event) → Opening → Opening → Type 0
IsInterrupted wire before after c c' = (calls : List Event) × Interrupted wire before after c c' calls

-- Io comes where the wire's count of faults rose, and at every other answer that count stood. No conversation ends as
-- a dialling or a deadline does.
abbrev pub ConversedCounted : Result Conversed OutOfMemory → ℕ → ℕ → Type 0
ConversedCounted (Ok (conversed.Over (ending.Open guid cap_unix_fd))) before now = now ≡ before
ConversedCounted (Ok (conversed.Over (ending.Address reason))) before now = ⊥
ConversedCounted (Ok (conversed.Over ending.Unsupported)) before now = ⊥
ConversedCounted (Ok (conversed.Over ending.Connection)) before now = ⊥
ConversedCounted (Ok (conversed.Over ending.Io)) before now = Rose before now
ConversedCounted (Ok (conversed.Over ending.Handshake)) before now = now ≡ before
ConversedCounted (Ok (conversed.Over ending.LineTooLong)) before now = now ≡ before
ConversedCounted (Ok (conversed.Over ending.TooManyCommands)) before now = now ≡ before
ConversedCounted (Ok (conversed.Over ending.TimedOut)) before now = ⊥
ConversedCounted (Ok (conversed.Over ending.Waiting)) before now = ⊥
ConversedCounted (Ok (conversed.Paused dir)) before now = now ≡ before
ConversedCounted (Err e) before now = now ≡ before
