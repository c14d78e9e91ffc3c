-- What `open_all` promises of its answer and of the record.
use Rattle.std.specs.Prelude.{◌≡◌, ◌≤◌, ◌^◌, ◌-◌, ℕ, ◌+◌, Bool, List, Option, Result, Ok, Err}
use Rattle.react_core.specs.declared.outside.Event.{Event}
use Rattle.react_core.specs.declared.reactor.ReactError.{ReactError}
use Rattle.react_core.specs.declared.reactor.ReactError.TheVariants as react_error
use Rattle.react_core.specs.Core.{Core}
use Rattle.react_core.specs.Told.{told, Rose}
use Rattle.bus_session.specs.declared.ended.Ended.{Ended}
use Rattle.bus_session.specs.declared.session.Session.{Session}
use Rattle.bus_record.specs.Pieces.{Pieces, rounds_in, armings_in}
use Rattle.bus_record.specs.Failing.{PollerFailed}
use Rattle.bus_record.specs.Headline.{Headline}
use Rattle.bus_peers.specs.declared.open.OpenError.{OpenError}
use Rattle.bus_peers.specs.declared.open.OpenError.TheVariants as open_err
use Rattle.bus_session.specs.Counts.{waits_in, notices_in}
use Rattle.bus_peers.specs.Exhausted.{NoneLeft}
use Rattle.bus_visit.specs.Counts.{after_begun}

-- The events that a call told, at Ok: cut into pieces they have the headline, each interest that a visit armed was
-- begun in the reactor, and so was each round; each timer that was made was notified.
pub record Opened (sessions : List Session) (rounds : ℕ) (old new : Core) (endeds : List Ended)
    (events : List Event) : Type 0 where
  pub pieces : Pieces
  pub headline : Headline sessions rounds pieces endeds events
  pub interests : new.begun ≡ after_begun old.begun (armings_in pieces)
  pub rounds_begun : new.ticker ≡ old.ticker + rounds_in pieces
  pub timers_made : new.made ≡ old.made + notices_in events

abbrev pub open_error : ReactError → OpenError
open_error react_error.OutOfMemory = open_err.OutOfMemory
open_error react_error.Poller = open_err.Poller
open_error (react_error.Exhausted c value) = open_err.Exhausted c value

-- What the events that a refused call told are: each round that they show was begun, and they are a record which a
-- failing call of the poller cut off, or one whose next round or timer had no number. The outside may be known never to
-- lack memory (`ample`).
abbrev pub RefusedWith : {T : Type 0} → List Session → ℕ → Bool → Core → Core → Result T OpenError → List Event → Type 0
RefusedWith sessions rounds ample old new (Ok v) events = Unit {0}
RefusedWith sessions rounds ample old new (Err open_err.OutOfMemory) events = Unit {0}
RefusedWith sessions rounds ample old new (Err open_err.Poller) events =
    (new.ticker ≡ old.ticker + waits_in events) × PollerFailed sessions rounds ample events
RefusedWith sessions rounds ample old new (Err (open_err.Exhausted c value)) events =
    (value ≡ 2 ^ 64 - 1) × (new.ticker ≡ old.ticker + waits_in events) × NoneLeft c sessions rounds ample old events

-- Each timer that was made was notified: what was told, whatever was answered, counts them.
abbrev pub MadeTold : Core → Core → Option (List Event) → Option (List Event) → Type 0
MadeTold old new before after =
    (more : List Event) × (after ≡ told before more) × (new.made ≡ old.made + notices_in more)

-- The answer is Poller only where the poller's count rose, and Ok only where it stood.
abbrev pub OpenCounted : {T : Type 0} → Result T OpenError → ℕ → ℕ → Type 0
OpenCounted (Ok v) before now = now ≡ before
OpenCounted (Err open_err.Poller) before now = Rose before now
OpenCounted (Err open_err.OutOfMemory) before now = before ≤ now
OpenCounted (Err (open_err.Exhausted c value)) before now = before ≤ now

-- the call was not refused, but perhaps for want of memory
abbrev pub Completes : {T : Type 0} → Result T OpenError → Type 0
Completes (Ok v) = Unit {0}
Completes (Err open_err.OutOfMemory) = Unit {0}
Completes (Err open_err.Poller) = ⊥
Completes (Err (open_err.Exhausted c value)) = ⊥
