-- A future that waits for a direction of a source: what contracts see of it, and what its polls and its end do.
use Rattle.std.specs.Prelude.{◌≡◌, ℕ, List, [], Option, Some, None, Result, Ok, Err, unwrap_or}
use Rattle.futures.specs.declared.task.Poll.{Poll}
use Rattle.react_core.specs.declared.outside.Event.{Event}
use Rattle.react_core.specs.declared.reactor.Dir.{Dir}
use Rattle.react_core.specs.declared.reactor.ReactError.{ReactError}
use Rattle.react_core.specs.Core.{Core, HasSource}
use Rattle.react_core.specs.Futures.{cancelled, futures_at, future_told, held_place, entry_given, IsPolledAt}
use Rattle.react_core.specs.Places.{Entry}
use Rattle.react_core.specs.Step.{Step, Cancel, Done}

-- what contracts see of a future
pub record Waits : Type 0 where
  -- the key of its source
  pub key : ℕ
  -- the place that it keeps from its first poll on
  pub place : Option ℕ

-- the future of the source under this key that keeps this place
abbrev pub waits : ℕ → Option ℕ → Waits
waits key place = record { key = key; place = place }

-- the place that a future keeps, once it has been polled
abbrev pub place_of : Waits → ℕ
place_of future = unwrap_or future.place 0

-- the future's place, where its source holds it
abbrev pub held : Core → Dir → Waits → Option ℕ
held core dir future = held_place (futures_at core future.key dir) future.place

-- what stands at the future's place
abbrev pub entry : Core → Dir → Waits → Option Entry
entry core dir future = entry_given (futures_at core future.key dir) future.place

-- after a poll a future keeps the place that it had, where its source held it, else one that was free
abbrev pub KeepsPlace : Core → Dir → Waits → Waits → Type 0
KeepsPlace core dir before after = record {
  kept : after ≡ record before { place = Some (place_of after) };
  at : IsPolledAt (futures_at core before.key dir) (held core dir before) (place_of after);
}

-- what a poll tells that leaves the future so
abbrev pub waiting_told : Core → Dir → Waits → Result (Poll (Unit {0})) ReactError → List Event
waiting_told core dir after (Ok answer) = future_told core after.key dir (Ok (place_of after, answer))
waiting_told core dir after (Err error) = future_told core after.key dir (Err error)

-- ---- the end of a future

abbrev pub given_up_at : Core → Dir → ℕ → Option ℕ → Core
given_up_at core dir key None = core
given_up_at core dir key (Some place) = cancelled core key dir place

-- the core after the future's end: one that was never polled leaves it as it was
abbrev pub given_up : Core → Dir → Waits → Core
given_up core dir future = given_up_at core dir future.key future.place

abbrev pub EndsAt : Core → Dir → ℕ → Option ℕ → Core → Type 0
EndsAt old dir key None new = new ≡ old
EndsAt old dir key (Some place) new = HasSource old key → Step old (Cancel key dir place) Done [] new

-- the end of the future is a step; that of one that was never polled is none
abbrev pub Ends : Core → Dir → Waits → Core → Type 0
Ends old dir future new = EndsAt old dir future.key future.place new
