-- What the last piece of a run says.
use Rattle.std.proofs.Common.{◌≡◌, ◌≢◌, ◌<◌, ℕ, List, [], ◌∷◌, Some}
use Rattle.std.specs.Prelude.{slice_get}
use Rattle.react_core.specs.declared.outside.Event.{Event}
use Rattle.bus_session.specs.declared.session.Session.{Session}
use Rattle.bus_record.specs.Pieces.{Round, visit, round, Pieces, ◌▸◌, rounds_in}
use Rattle.bus_record.specs.Visits.{Visit}
use Rattle.bus_record.specs.Settled.{Run, visited, turned, AllRest, sleepers, IsRound, due}

pub record Visited (sessions : List Session) (rounds : ℕ) (past : Pieces) (wire : ℕ) (events : List Event)
    (wires : List ℕ) : Type 0 where
  pub session : Session
  pub run : Run sessions rounds past (wire ∷ wires)
  pub is_there : slice_get sessions wire ≡ Some session
  pub visits : Visit session wire past events

pub record Turned (sessions : List Session) (rounds : ℕ) (past : Pieces) (r : Round) (wires : List ℕ) : Type 0 where
  pub run : Run sessions rounds past []
  pub rest : AllRest sessions past
  pub some : sleepers sessions past ≢ []
  pub fewer : rounds_in past < rounds
  pub is_round : IsRound sessions past r
  pub left : wires ≡ due sessions past r

pub was_visited : {sessions : List Session} {rounds : ℕ} {past : Pieces} {wire : ℕ} {events : List Event}
    {wires : List ℕ} →
    Run sessions rounds (past ▸ visit wire events) wires → Visited sessions rounds past wire events wires
was_visited (visited past wire wires s events run at v) = record { session = s; run = run; is_there = at; visits = v }

pub was_turned : {sessions : List Session} {rounds : ℕ} {past : Pieces} {r : Round} {wires : List ℕ} →
    Run sessions rounds (past ▸ round r) wires → Turned sessions rounds past r wires
was_turned (turned past r wires run rest some fewer is left) =
    record { run = run; rest = rest; some = some; fewer = fewer; is_round = is; left = left }
