-- What comes of a session: an ending, and what was written and left over.
use Rattle.std.specs.Prelude.{ℕ, Bool, true, false, not, List, Option, Some, None}
use Rattle.bus_session.specs.declared.ended.Ending.{Ending}
use Rattle.bus_session.specs.declared.ended.Ending.TheVariants as ending
use Rattle.bus_session.specs.declared.ended.Ended.{Ended}

-- an ending, the bytes that the wire took, and those that came and were not looked at
pub record Outcome : Type 0 where
  pub ending : Ending
  pub written : List ℕ
  pub leftover : List ℕ

-- what came of a session, but for its wire and its moment
abbrev pub outcome : Ended → Outcome
outcome e = record { ending = e.ending; written = e.written; leftover = e.leftover }

-- the ending is Waiting
abbrev pub is_waiting : Ending → Bool
is_waiting ending.Waiting = true
is_waiting e = false

-- an outcome other than Waiting
abbrev pub is_ended : Option Outcome → Bool
is_ended None = false
is_ended (Some o) = not (is_waiting o.ending)
