-- What one round does, whatever the record was before it, and how a call ends.
use Rattle.std.specs.Prelude.{◌≡◌, ℕ, ◌+◌, Bool, true, false, List, [], ◌∷◌, ◌++◌, map, Option, Some, None, Result}
use Rattle.std.specs.Prelude.{Ok, Err}
use Rattle.std.specs.List.{list_all}
use Rattle.react_core.specs.declared.outside.Event.{Event}
use Rattle.react_core.specs.declared.outside.Event.TheVariants as event
use Rattle.react_core.specs.Places.{Source}
use Rattle.react_core.specs.declared.reactor.Counter.TheVariants as counter
use Rattle.react_core.specs.Core.{Core, HasSource, removed, timers_applied}
use Rattle.react_core.specs.Timing.{wait_limit}
use Rattle.react_timers.specs.Live.{later}
use Rattle.bus_visit.specs.Timed.{moment_after}
use Rattle.react_core.specs.Sources.{source_of}
use Rattle.react_core.specs.Round.{reports_of}
use Rattle.react_core.specs.Told.{told}
use Rattle.bus_session.specs.declared.ended.Ending.TheVariants as ending
use Rattle.bus_session.specs.declared.ended.Ended.{Ended}
use Rattle.bus_peers.specs.declared.rounds.Woken.{Woken}
use Rattle.bus_visit.specs.declared.visiting.Slot.{Slot}
use Rattle.bus_visit.specs.declared.visiting.Slot.TheVariants as slot
use Rattle.bus_peers.specs.declared.open.OpenError.{OpenError}
use Rattle.bus_peers.specs.declared.open.OpenError.TheVariants as open_err
use Rattle.bus_peers.specs.inside.RoundEvents.{Round, IsRound, RoundClock, round_told, rearming, left_after}
use Rattle.bus_visit.specs.Registry.{Held, registry}
use Rattle.bus_peers.specs.inside.Due.{AreDue}
use Rattle.bus_visit.specs.Shown.{IsBetweenCalls, shown, Tags, has_wire}

-- a task stands behind those that were woken before, unless memory ran out
abbrev pub WokenBy : Woken → ℕ → Woken → Type 0
WokenBy old task new = new.lost ≡ false → (old.lost ≡ false) × (new.tasks.items ≡ old.tasks.items ++ task ∷ [])

-- a round: the clock, the wait, the clock again where nothing came in time, and the re-arming of what still waits
abbrev pub round_events : List Held → Round → List Event
round_events held r = round_told r ++ rearming held (reports_of r.answer)

-- A round, and the wires that it makes due. It waits up to the nearest timer, and takes those that its readings reach.
pub record Rounded (before after : Option (List Event)) (moment now : ℕ) (old new : Core) (woken : List ℕ)
    (r : Round) : Type 0 where
  pub form : IsRound r
  pub waited : r.timeout ≡ wait_limit old r.first None
  pub gained : after ≡ told before (round_events (map shown old.sources) r)
  pub clock : RoundClock moment r now
  pub shows : registry (map shown old.sources) (round_events (map shown old.sources) r) ≡ map shown new.sources
  pub timers : timers_applied new ≡ left_after r.second (later r.first (timers_applied old))
  pub due : AreDue (map shown old.sources) (reports_of r.answer) (timers_applied old) r.first r.second woken
  pub rests : IsBetweenCalls new
  pub ticker : new.ticker ≡ old.ticker + 1
  pub made : new.made ≡ old.made
  pub begun : new.begun ≡ old.begun

-- each of these wires is registered
abbrev pub HaveWires : List ℕ → Tags → Type 0
HaveWires wires ts = list_all (λ w. has_wire w ts) wires ≡ true

-- a round's number was exhausted, and this holds where one was
abbrev pub OnExhausted : {T : Type 0} → Result T OpenError → Type 0 → Type 0
OnExhausted (Ok v) P = Unit {0}
OnExhausted (Err open_err.OutOfMemory) P = Unit {0}
OnExhausted (Err open_err.Poller) P = Unit {0}
OnExhausted (Err (open_err.Exhausted c value)) P = (c ≡ counter.Round) × P

-- ---- the sources at the end

-- the reactor has the source of a session that sleeps
abbrev pub IsHeld : Slot → Core → Type 0
IsHeld (slot.Ended e) core = Unit {0}
IsHeld (slot.Asleep s) core = HasSource core s.key
IsHeld slot.Refused core = Unit {0}

abbrev pub without_slot : Slot → Core → Core
without_slot (slot.Ended e) core = core
without_slot (slot.Asleep s) core = removed core s.key
without_slot slot.Refused core = core

abbrev pub removal_of : Option Source → ℕ → List Event
removal_of None key = []
removal_of (Some s) key = event.Delete s.wire key true ∷ []

-- what the removal of its source tells
abbrev pub removal_told : Slot → Core → List Event
removal_told (slot.Ended e) core = []
removal_told (slot.Asleep s) core = removal_of (source_of core.sources s.key) s.key
removal_told slot.Refused core = []

-- no source is left, and no timer
abbrev pub cleared : Core → Core
cleared core = record core { sources = []; queue = []; timers = [] }

-- ---- the endings

abbrev pub is_kept : Slot → Bool
is_kept (slot.Ended e) = true
is_kept (slot.Asleep s) = true
is_kept slot.Refused = false

-- what the session of a slot has come to
abbrev pub EndsIn : ℕ → Slot → Ended → Type 0
EndsIn wire (slot.Ended e) ended = ended ≡ e
EndsIn wire (slot.Asleep s) ended =
    ended ≡ record {
      ending = ending.Waiting;
      written = s.client.written;
      leftover = s.client.rest;
      wire = wire;
      moment = moment_after s.alarm;
    }
EndsIn wire slot.Refused ended = ⊥

-- the first of these slots is that of this wire
abbrev pub AllEnd : ℕ → List Slot → List Ended → Type 0
AllEnd wire [] [] = Unit {0}
AllEnd wire (c ∷ slots) (e ∷ endeds) = EndsIn wire c e × AllEnd (wire + 1) slots endeds
AllEnd wire [] (e ∷ endeds) = ⊥
AllEnd wire (c ∷ slots) [] = ⊥
