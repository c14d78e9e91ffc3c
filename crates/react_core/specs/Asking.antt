-- What a poll asks the poller for, and what is told of it.
use Rattle.std.specs.Prelude.{ℕ, Bool, ◌||◌, false, if◌then◌else◌, List, [], ◌∷◌, Option, Some, None, Result, Ok, Err}
use Rattle.react_core.specs.declared.interest.Asked.{Asked}
use Rattle.react_core.specs.declared.interest.Asked.TheVariants as asked
use Rattle.react_core.specs.declared.outside.Event.{Event}
use Rattle.react_core.specs.declared.outside.Event.TheVariants as event
use Rattle.react_core.specs.declared.reactor.Dir.{Dir}
use Rattle.react_core.specs.declared.reactor.ReactError.{ReactError}
use Rattle.react_core.specs.declared.reactor.ReactError.TheVariants.{Poller, OutOfMemory, Exhausted}
use Rattle.react_core.specs.Places.{Direction, Source}
use Rattle.react_core.specs.Readiness.{Outcome, Fires, Stays, Begins, direction_outcome, is_read, is_write}
use Rattle.react_core.specs.Reports.{Arming, armed_told}
use Rattle.react_core.specs.Sources.{waits}

-- the arming of this direction and of all others that a task waits for
abbrev pub arming_for : ℕ → Dir → Source → Arming
arming_for key dir s =
    record { wire = s.wire; key = key; read = is_read dir || waits s.read; write = is_write dir || waits s.write }

-- what is told of an arming, by whether it was asked for and by the answer
abbrev pub ask_told : {T : Type 0} → Bool → Arming → Result T ReactError → List Event
ask_told asked a (Ok v) = if asked then armed_told a ∷ [] else []
ask_told asked a (Err Poller) = event.Modify a.wire a.key a.read a.write false ∷ []
ask_told asked a (Err OutOfMemory) = []
ask_told asked a (Err (Exhausted counter value)) = []

abbrev pub first_task : List ℕ → Option ℕ
first_task [] = None
first_task (task ∷ tasks) = Some task

-- the outcome of a poll, as the code has it
abbrev pub asked_of : Outcome → Asked
asked_of Fires = asked.Fires
asked_of Stays = asked.Stays
asked_of (Begins tasks arms) = asked.Begins (first_task tasks)

-- a direction after a poll of this outcome
abbrev pub after_outcome : ℕ → ℕ → Direction → Outcome → Direction
after_outcome ticker task d Fires = record d { polled = None }
after_outcome ticker task d Stays = d
after_outcome ticker task d (Begins tasks arms) =
    record d { polled = Some (record { since = ticker; task = Some task }) }

-- a direction after a poll for the task
abbrev pub after_direction : ℕ → ℕ → Direction → Direction
after_direction ticker task d = after_outcome ticker task d (direction_outcome task d)
