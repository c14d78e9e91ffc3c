-- A record in pieces: visits of sessions, and rounds.
use Rattle.std.specs.Prelude.{ℕ, ◌+◌, Bool, true, false, List, [], ◌∷◌, ◌++◌, count_by, Option, Some, None}
use Rattle.react_core.specs.declared.outside.Event.{Event}
use Rattle.react_core.specs.declared.outside.Event.TheVariants as event
use Rattle.react_core.specs.declared.outside.WaitAnswer.{WaitAnswer}

infixl 20 ◌▸◌
-- a round: the clock, a wait, the clock again where that is due, and the re-arming
pub record Round : Type 0 where
  pub first : ℕ
  pub timeout : Option ℕ
  pub answer : WaitAnswer
  pub second : Option ℕ
  pub rearmed : List Event

-- a part of a record
pub data Piece : Type 0 where
  -- a visit of the session with this wire
  visit : ℕ → List Event → Piece
  round : Round → Piece

-- pieces in their order, the latest of them at the right end
pub data Pieces : Type 0 where
  nothing : Pieces
  ◌▸◌ : Pieces → Piece → Pieces

-- a reading that was made
abbrev pub reading_told : Option ℕ → List Event
reading_told None = []
reading_told (Some moment) = event.Now moment ∷ []

-- what a piece tells
abbrev pub events_of : Piece → List Event
events_of (visit wire events) = events
events_of (round r) = event.Now r.first ∷ (event.Wait r.timeout r.answer ∷ (reading_told r.second ++ r.rearmed))

-- the record that the pieces are cut from
abbrev pub told : Pieces → List Event
told nothing = []
told (past ▸ piece) = told past ++ events_of piece

-- how many rounds the pieces have
abbrev pub rounds_in : Pieces → ℕ
rounds_in nothing = 0
rounds_in (past ▸ visit wire events) = rounds_in past
rounds_in (past ▸ round r) = rounds_in past + 1

-- an arming
abbrev pub is_modify : Event → Bool
is_modify (event.Modify wire key read write ok) = true
is_modify e = false

-- the armings that visits made; those of a round begin no interest
abbrev pub armings_in : Pieces → ℕ
armings_in nothing = 0
armings_in (past ▸ visit wire events) = armings_in past + count_by is_modify events
armings_in (past ▸ round r) = armings_in past
