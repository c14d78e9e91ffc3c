-- What is promised of the endings of many sessions, and of the record.
use Rattle.std.specs.Prelude.{◌≡◌, ℕ, ◌+◌, List, [], ◌∷◌, Some}
use Rattle.react_core.specs.declared.outside.Event.{Event}
use Rattle.bus_session.specs.declared.session.Session.{Session}
use Rattle.bus_session.specs.declared.ended.Ended.{Ended}
use Rattle.bus_session.specs.Outcomes.{outcome}
use Rattle.bus_record.specs.Pieces.{Pieces}
use Rattle.bus_record.specs.Places.{moment}
use Rattle.bus_record.specs.Settled.{Settled, comes_to}

-- what came of the session of a wire: that wire, the reading of its last visit, and what its part and that reading
-- decide
pub record IsEnding (s : Session) (wire : ℕ) (pieces : Pieces) (e : Ended) : Type 0 where
  pub on : e.wire ≡ wire
  pub at : e.moment ≡ moment wire pieces
  pub comes : comes_to s wire pieces ≡ Some (outcome e)

-- one ending for each session, in order, the first of which has this wire
abbrev pub Each : ℕ → List Session → List Ended → Pieces → Type 0
Each wire [] [] pieces = Unit {0}
Each wire (s ∷ sessions) (e ∷ endeds) pieces = IsEnding s wire pieces e × Each (wire + 1) sessions endeds pieces
Each wire [] (e ∷ endeds) pieces = ⊥
Each wire (s ∷ sessions) [] pieces = ⊥

-- Each session gets what its own part of the record and its last reading alone decide, and the record is settled.
pub record Headline (sessions : List Session) (rounds : ℕ) (pieces : Pieces) (endeds : List Ended)
    (events : List Event) : Type 0 where
  pub each : Each 0 sessions endeds pieces
  pub settled : Settled sessions rounds pieces events
