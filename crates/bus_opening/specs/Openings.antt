-- Where an opening stands.
use Rattle.std.specs.Prelude.{◌≡◌, Bool, ℕ, ◌+◌, ◌-◌, ◌*◌, List, length, take, drop, sum_by, Option, Some}
use Rattle.bus_opening.specs.Limits.{command_limit, buffer_limit}
use Rattle.bus_opening.specs.Lines.{feed_at}
use Rattle.bus_opening.specs.Talk.{Said, Side, talk}
use Rattle.bus_opening.specs.Parts.{Place, step_at, turn_of, place_of}
use Rattle.bus_opening.specs.declared.exchange.Stage.{Stage}
use Rattle.bus_opening.specs.declared.part.Part.{Part}
use Rattle.react_core.specs.declared.outside.Event.{Event}
use Rattle.bus_opening.specs.declared.verdict.Step.{Step}
use Rattle.bus_opening.specs.Standing.{cut, Standing, Stands}
use Rattle.react_core.specs.Outer.{Outer, Keeps}
use Rattle.react_core.specs.Outer as part
use Rattle.bus_opening.specs.Polling.{Moves, Runs, Polls, Leaves, IoCounted}

-- what its answers rest on, the phase or the end, the pieces that wait, how many lines were looked at, what came behind
-- them, what was taken, and whether a poll has answered the end
pub record Opening : Type 0 where
  pub part : Part
  pub stage : Stage
  pub waiting : List (List ℕ)
  pub count : ℕ
  pub rest : List ℕ
  pub written : List ℕ
  pub ended : Bool

abbrev pub standing : Opening → Standing Place
standing o = record { turn = turn_of o.stage o.waiting; count = o.count; rest = o.rest; written = o.written }

-- Over the bytes b a side with this part stands there in this conversation.
pub record StandsWith (talks : List (List ℕ) → Said) (b : List ℕ) (part : Part) (o : Standing Place) : Type 0 where
  pub side : Side Place
  pub talks_so : talks ≡ talk side
  pub steps_so : side.step ≡ step_at part
  pub stands : Stands Place side b o

-- Over the bytes b the opening stands in this conversation.
abbrev pub StandsIn : (List (List ℕ) → Said) → List ℕ → Opening → Type 0
StandsIn talks b o = StandsWith talks b o.part (standing o)

abbrev pub written_of : Opening → List ℕ
written_of o = o.written

abbrev pub rest_of : Opening → List ℕ
rest_of o = o.rest

abbrev pub ended_of : Opening → Bool
ended_of o = o.ended

abbrev pub MovesOpening : ℕ → Opening → Opening → Option (List Event) → Option (List Event) → List Event → Type 0
MovesOpening wire old new before after events = Moves Opening StandsIn written_of wire old new before after events

-- some events that moved bytes, with no fault
pub record RunsOpening (Origin : Type 0) (wire : ℕ) (old new : Opening) (before after : Outer Origin) : Type 0 where
  pub runs : Runs Opening StandsIn written_of wire old new before.events after.events
  pub count_stays : after.wire_faults wire ≡ before.wire_faults wire
  pub keeps : Keeps (part.Wire wire) before after

-- some events, and an answer
pub record PollsOpening (Origin : Type 0) (wire : ℕ) (old new : Opening) (before after : Outer Origin)
    (answer : Step) : Type 0 where
  pub polls : Polls Opening StandsIn written_of wire old new before.events after.events answer
  pub leaves : Leaves Opening StandsIn written_of rest_of new answer
  pub cause : IoCounted answer (before.wire_faults wire) (after.wire_faults wire)
  pub keeps : Keeps (part.Wire wire) before after

-- how much is to be sent
abbrev pub pending : Opening → ℕ
pending o = sum_by length o.waiting

-- a line of so many bytes before its line feed was looked at
pub record Looked (place : Place) (old new : Opening) : Type 0 where
  pub turn : turn_of new.stage new.waiting ≡ cut 0 (step_at old.part place (take (feed_at old.rest + 1) old.rest))
  pub part : new.part ≡ old.part
  pub count : new.count ≡ old.count + 1
  pub rest : new.rest ≡ drop (feed_at old.rest + 1) old.rest
  pub written : new.written ≡ old.written

-- how many lines and bytes may still be looked at
abbrev pub left_over : Opening → ℕ
left_over o = (command_limit - o.count) * (buffer_limit + 1) + (buffer_limit - length o.rest)

abbrev pub Looks : Opening → Opening → Type 0
Looks old new = (place : Place) × (place_of old.stage ≡ Some place) × Looked place old new
