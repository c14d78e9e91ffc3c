-- What a poll of a future's place does, and what its end does.
use Rattle.std.specs.Prelude.{◌≡◌, ℕ, Bool, true, false, is_some, if◌then◌else◌, IsTrue, List, [], Option, Some, None}
use Rattle.std.specs.Prelude.{Result, Ok, Err}
use Rattle.futures.specs.declared.task.Poll.{Poll}
use Rattle.futures.specs.declared.task.Poll.TheVariants.{Ready, Pending}
use Rattle.react_core.specs.declared.outside.Event.{Event}
use Rattle.react_core.specs.declared.reactor.Dir.{Dir}
use Rattle.react_core.specs.declared.reactor.ReactError.{ReactError}
use Rattle.react_core.specs.declared.reactor.ReactError.TheVariants.{Poller, OutOfMemory, Exhausted}
use Rattle.react_core.specs.Keyed.{at_key, with_at, with_new_at, without_at}
use Rattle.react_core.specs.Places.{Entry, Direction, Source}
use Rattle.react_core.specs.Core.{Core}
use Rattle.react_core.specs.Sources.{source_of, with_source, idle, side, with_side, waits}
use Rattle.react_core.specs.Readiness.{fresh_at, armed}

-- ---- one direction

-- a round that was begun after the first poll at this place has reported the direction
abbrev pub is_fired : Direction → ℕ → Bool
is_fired d place = fresh_at d.reported (at_key d.futures place)

-- a poll of a future that has this entry, or none yet, asks the poller for the direction
abbrev pub asks : Direction → Option Entry → Bool
asks d entry = if fresh_at d.reported entry then false else if waits d then false else true

-- the futures after a poll at this place, by what stood there: an interest begins once, and the task is the last poll's
abbrev pub polled_futures : ℕ → ℕ → List (ℕ × Entry) → ℕ → Option Entry → List (ℕ × Entry)
polled_futures ticker task futures place None = with_new_at futures place (record { since = ticker; task = Some task })
polled_futures ticker task futures place (Some e) = with_at futures place (record e { task = Some task })

-- the direction after a poll at this place that is pending
abbrev pub with_future : ℕ → ℕ → Direction → ℕ → Direction
with_future ticker task d place =
    record d { futures = polled_futures ticker task d.futures place (at_key d.futures place) }

-- the direction after a poll at this place that was not refused; one that is ready changes nothing
abbrev pub after_future : ℕ → ℕ → Direction → ℕ → Direction
after_future ticker task d place = if is_fired d place then d else with_future ticker task d place

abbrev pub without_future : Direction → ℕ → Direction
without_future d place = record d { futures = without_at d.futures place }

abbrev pub future_answer : Bool → Poll (Unit {0})
future_answer true = Ready tt
future_answer false = Pending

-- the place that is given, where a future holds it
abbrev pub held_place : List (ℕ × Entry) → Option ℕ → Option ℕ
held_place futures None = None
held_place futures (Some place) = if is_some (at_key futures place) then Some place else None

-- what stands at the place that is given
abbrev pub entry_given : List (ℕ × Entry) → Option ℕ → Option Entry
entry_given futures None = None
entry_given futures (Some place) = at_key futures place

-- a poll is at the place that is given, where a future holds it, else at a free one
abbrev pub IsPolledAt : List (ℕ × Entry) → Option ℕ → ℕ → Type 0
IsPolledAt futures None at = at_key futures at ≡ None
IsPolledAt futures (Some place) at = at ≡ place

-- ---- the direction of a key

abbrev pub direction_of : Option Source → Dir → Direction
direction_of None dir = idle
direction_of (Some s) dir = side dir s

abbrev pub direction_at : Core → ℕ → Dir → Direction
direction_at core key dir = direction_of (source_of core.sources key) dir

-- the futures that wait for the key's direction, by rising place
abbrev pub futures_at : Core → ℕ → Dir → List (ℕ × Entry)
futures_at core key dir = (direction_at core key dir).futures

abbrev pub future_fresh : Core → ℕ → Dir → ℕ → Bool
future_fresh core key dir place = is_fired (direction_at core key dir) place

-- this direction of the source under the key is this
abbrev pub with_direction : Core → ℕ → Dir → Source → Direction → Core
with_direction core key dir s d = record core { sources = with_source core.sources key (with_side dir s d) }

abbrev pub after_source_future : Core → ℕ → Option Source → Dir → ℕ → ℕ → Core
after_source_future core key None dir place task = core
after_source_future core key (Some s) dir place task =
    if is_fired (side dir s) place then core
    else with_direction core key dir s (with_future core.ticker task (side dir s) place)

-- the core after a poll at a future's place that was not refused
abbrev pub after_future_poll : Core → ℕ → Dir → ℕ → ℕ → Core
after_future_poll core key dir place task =
    after_source_future core key (source_of core.sources key) dir place task

abbrev pub after_source_cancel : Core → ℕ → Option Source → Dir → ℕ → Core
after_source_cancel core key None dir place = core
after_source_cancel core key (Some s) dir place = with_direction core key dir s (without_future (side dir s) place)

-- the future at the place is gone, where there is one
abbrev pub cancelled : Core → ℕ → Dir → ℕ → Core
cancelled core key dir place = after_source_cancel core key (source_of core.sources key) dir place

-- ---- what is told, and when a poll is refused

-- one arming where the direction had no task and the future isn't fresh, else nothing
abbrev pub future_told : Core → ℕ → Dir → Result (ℕ × Poll (Unit {0})) ReactError → List Event
future_told core key dir (Ok answer) =
    if asks (direction_at core key dir) (at_key (futures_at core key dir) answer.0)
    then armed (source_of core.sources key) key dir true
    else []
future_told core key dir (Err Poller) = armed (source_of core.sources key) key dir false
future_told core key dir (Err OutOfMemory) = []
future_told core key dir (Err (Exhausted counter value)) = []

-- a refusal comes of the arming that the poll asks for; a first poll, which has no entry, can lack memory by itself
abbrev pub IsFutureRefusal : {T : Type 0} → Result T ReactError → Direction → Option Entry → Type 0
IsFutureRefusal (Ok v) d entry = Unit {0}
IsFutureRefusal (Err Poller) d entry = IsTrue (asks d entry)
IsFutureRefusal (Err OutOfMemory) d None = Unit {0}
IsFutureRefusal (Err OutOfMemory) d (Some e) = IsTrue (asks d (Some e))
IsFutureRefusal (Err (Exhausted counter value)) d entry = ⊥
