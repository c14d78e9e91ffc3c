-- A visit goes on where it stands: what its first events lead to, the others go on from.
use Rattle.std.specs.Prelude.{◌≡◌, ℕ, List, [], ◌∷◌, ◌++◌, Option, refl}
use Rattle.std.specs.Option.{option_and_then}
use Rattle.react_core.specs.declared.outside.Event.{Event}
use Rattle.bus_session.specs.declared.session.Session.{Session}
use Rattle.bus_record.specs.Visits.{Here, here_by, Stage, next, goes_on}

-- behind all of these events
abbrev pub here_through : Here → List Event → Here
here_through h [] = h
here_through h (e ∷ events) = here_through (here_by h e) events

-- a visit of these events and those is a visit of those, from where these lead
pub goes_on-append : (s : Session) (wire : ℕ) (h : Here) (stage : Option Stage) (v w : List Event) →
    goes_on s wire h stage (v ++ w) ≡ goes_on s wire (here_through h v) (goes_on s wire h stage v) w
goes_on-append s wire h stage [] w = refl
goes_on-append s wire h stage (e ∷ v) w =
    goes_on-append s wire (here_by h e) (option_and_then (λ reached. next s wire h reached e) stage) v w
