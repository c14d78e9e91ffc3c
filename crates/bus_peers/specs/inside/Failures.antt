-- Where a call of the poller failed, before the sources that are left are taken out.
use Rattle.std.specs.Prelude.{◌≡◌, ◌≢◌, ◌<◌, ◌≤◌, ◌+◌, ◌-◌, ◌^◌, ℕ, Bool, true, ◌==◌, if◌then◌else◌, List, [], ◌++◌, length}
use Rattle.std.specs.Prelude.{map, is_some}
use Rattle.std.specs.Prelude.{Option, None, Result, Ok, Err}
use Rattle.std.specs.List.{list_any}
use Rattle.react_core.specs.declared.outside.Event.{Event}
use Rattle.react_core.specs.declared.reactor.Counter.{Counter}
use Rattle.react_core.specs.declared.reactor.Counter.TheVariants as counter
use Rattle.react_core.specs.Core.{Core}
use Rattle.react_core.specs.Timing.{wait_limit}
use Rattle.react_core.specs.Round.{reports_of, is_quiet}
use Rattle.react_core.specs.Told.{told}
use Rattle.bus_session.specs.declared.session.Session.{Session}
use Rattle.bus_record.specs.Pieces as pieces
use Rattle.bus_record.specs.Pieces.{Pieces, ◌▸◌, round}
use Rattle.bus_record.specs.Places.{key_of}
use Rattle.bus_record.specs.Settled.{removal}
use Rattle.bus_record.specs.Failing.{Made, is_failed, FailsInVisit, FailsInRound}
use Rattle.bus_visit.specs.declared.visiting.Slot.{Slot}
use Rattle.bus_session.specs.Counts.{waits_in, notices_in}
use Rattle.bus_visit.specs.Shown.{shown}
use Rattle.bus_peers.specs.declared.open.OpenError.{OpenError}
use Rattle.bus_peers.specs.declared.open.OpenError.TheVariants as open_err
use Rattle.bus_peers.specs.inside.Closing.{removals_of}
use Rattle.bus_peers.specs.inside.RoundEvents.{Round, round_told, rearming}
use Rattle.bus_peers.specs.inside.Slots.{CallStandsAfter, CallHalted}
use Rattle.bus_peers.specs.Exhausted.{RunsOutInVisit}

-- what holds where a refusal is Poller
abbrev pub IfPoller : OpenError → Type 0 → Type 0
IfPoller open_err.Poller P = P
IfPoller open_err.OutOfMemory P = Unit {0}
IfPoller (open_err.Exhausted c value) P = Unit {0}

-- the same of an answer
abbrev pub OnPoller : {T : Type 0} → Result T OpenError → Type 0 → Type 0
OnPoller (Ok v) P = Unit {0}
OnPoller (Err e) P = IfPoller e P

-- ---- removals

-- These removals were made, each with an answer of its own, and at Poller one of them failed.
abbrev pub Removes : {T : Type 0} → Bool → List Event → Result T OpenError → Option (List Event) →
    Option (List Event) → Type 0
Removes ample calls answer before after =
    (more : List Event) × (after ≡ told before more) × Made ample calls more ×
    OnPoller answer (list_any is_failed more ≡ true)

-- ---- a round

-- a round whose wait or arming failed, and what was armed in it
pub record RoundFailed (ample : Bool) (before after : Option (List Event)) (old new : Core) (r : Round)
    (rearmed : List Event) : Type 0 where
  pub waited : r.timeout ≡ wait_limit old r.first None
  pub read : is_some r.second ≡ is_quiet r.timeout r.answer
  pub gained : after ≡ told before (round_told r ++ rearmed)
  pub made : Made ample (rearming (map shown old.sources) (reports_of r.answer)) rearmed
  pub failed : list_any is_failed (round_told r ++ rearmed) ≡ true
  pub ticker : new.ticker ≡ old.ticker + 1

-- ---- the call

-- the sources that are left are those that the pieces show, in each session's place
abbrev pub LeftAll : Pieces → Core → Type 0
LeftAll past core = (w : ℕ) → removals_of (map shown core.sources) w ≡ removal w (key_of w past)

-- the same, but that this wire has none
abbrev pub LeftBut : ℕ → Pieces → Core → Type 0
LeftBut wire past core =
    (w : ℕ) → removals_of (map shown core.sources) w ≡ (if w == wire then [] else removal w (key_of w past))

-- Since its start the call told these events, each of whose rounds was begun.
pub record ToldSince (start : Core) (before after : Option (List Event)) (core : Core)
    (events : List Event) : Type 0 where
  pub gained : after ≡ told before events
  pub ticker : core.ticker ≡ start.ticker + waits_in events

-- Since its start the call was told up to a failing call of the poller, and what goes with that.
pub data CallFails (sessions : List Session) (rounds : ℕ) (ample : Bool) (start : Core)
    (before after : Option (List Event)) (core : Core) : Type 0 where
  in_visit : (past : Pieces) (wire : ℕ) (cut : List Event) → FailsInVisit sessions rounds ample past wire cut →
      LeftBut wire past core → ToldSince start before after core (pieces.told past ++ cut) →
      CallFails sessions rounds ample start before after core
  in_round : (past : Pieces) (r : pieces.Round) → FailsInRound sessions rounds ample past r → LeftAll past core →
      ToldSince start before after core (pieces.told (past ▸ round r)) →
      CallFails sessions rounds ample start before after core

-- visits that were due fail, from where these sessions are to be visited, whatever the call began with
abbrev pub VisitsFailCall : Bool → List ℕ → Option (List Event) → Option (List Event) → Core → Core → List Slot →
    Type 0
VisitsFailCall ample pending r0 r1 old new slots =
    (sessions : List Session) (rounds n : ℕ) (start : Core) (before : Option (List Event)) →
    CallStandsAfter sessions rounds pending n start before r0 old slots →
    CallFails sessions rounds ample start before r1 new

-- a round, or a visit that it makes due, fails, where one is left and a session sleeps
abbrev pub RoundFailsCall : Bool → Option (List Event) → Option (List Event) → Core → Core → List Slot → Type 0
RoundFailsCall ample r0 r1 old new slots =
    (sessions : List Session) (rounds n : ℕ) (start : Core) (before : Option (List Event)) →
    length slots ≡ length sessions → n < rounds → old.sources ≢ [] →
    CallStandsAfter sessions rounds [] n start before r0 old slots →
    CallFails sessions rounds ample start before r1 new

-- one of the rounds that are left fails
abbrev pub RoundsFailCall : Bool → ℕ → Option (List Event) → Option (List Event) → Core → Core → List Slot → Type 0
RoundsFailCall ample rounds r0 r1 old new slots =
    (sessions : List Session) (start : Core) (before : Option (List Event)) →
    length slots ≡ length sessions → CallStandsAfter sessions rounds [] 0 start before r0 old slots →
    CallFails sessions rounds ample start before r1 new

-- ---- where a number ran out

-- Since its start the call was told up to a visit whose timer had no number.
pub record CallRunsOut (sessions : List Session) (rounds : ℕ) (ample : Bool) (start : Core)
    (before after : Option (List Event)) (core : Core) : Type 0 where
  pub past : Pieces
  pub wire : ℕ
  pub cut : List Event
  pub visit : RunsOutInVisit sessions rounds ample past wire cut
  pub last : start.made + notices_in (pieces.told past) ≡ 2 ^ 64 - 1
  pub needed : 2 ^ 64 ≤ start.made + length sessions
  pub left : LeftBut wire past core
  pub since : ToldSince start before after core (pieces.told past ++ cut)

-- what holds of first visits where a timer's number was exhausted
abbrev pub OnTimerExhausted : {T : Type 0} → Result T OpenError → Type 0 → Type 0
OnTimerExhausted (Ok v) P = Unit {0}
OnTimerExhausted (Err open_err.OutOfMemory) P = Unit {0}
OnTimerExhausted (Err open_err.Poller) P = Unit {0}
OnTimerExhausted (Err (open_err.Exhausted c value)) P = (c ≡ counter.Timer) × P

-- where the call stood when a number of this counter ran out
abbrev pub HaltsAt : Counter → List Session → ℕ → Bool → Core → Option (List Event) → Option (List Event) → Core →
    List Slot → Type 0
HaltsAt counter.Round sessions rounds ample start before after core slots =
    (past : Pieces) × CallHalted sessions rounds start before after core slots past
HaltsAt counter.Timer sessions rounds ample start before after core slots =
    CallRunsOut sessions rounds ample start before after core

abbrev pub Halts : {T : Type 0} → Result T OpenError → List Session → ℕ → Bool → Core → Option (List Event) →
    Option (List Event) → Core → List Slot → Type 0
Halts (Ok v) sessions rounds ample start before after core slots = Unit {0}
Halts (Err open_err.OutOfMemory) sessions rounds ample start before after core slots = Unit {0}
Halts (Err open_err.Poller) sessions rounds ample start before after core slots = Unit {0}
Halts (Err (open_err.Exhausted c value)) sessions rounds ample start before after core slots =
    HaltsAt c sessions rounds ample start before after core slots
