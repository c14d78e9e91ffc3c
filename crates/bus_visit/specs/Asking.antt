-- When a visit asks again, and what it arms.
use Rattle.std.specs.Prelude.{if◌then◌else◌, List, [], ◌∷◌, Option, Some, None, is_some}
use Rattle.react_core.specs.declared.outside.Event.{Event}
use Rattle.react_core.specs.declared.outside.Event.TheVariants as event
use Rattle.react_core.specs.declared.outside.RecvAnswer.TheVariants as recv_answer
use Rattle.react_core.specs.declared.outside.SendAnswer.TheVariants as send_answer
use Rattle.react_core.specs.declared.reactor.Dir.{Dir}
use Rattle.react_core.specs.declared.reactor.Dir.TheVariants.{Read, Write}
use Rattle.bus_visit.specs.Registry.{Held, Side, Idle, Waits, Reported, stopped_held, side_held, arming}

-- a visit under way: how its directions stand; once a NotReady has ended it, the arming that follows
pub record Asking : Type 0 where
  pub held : Held
  pub over : Option (List Event)

-- After a NotReady the visit asks again exactly where the direction was reported. Else it is over, and arms its
-- directions that wait where this one did not.
abbrev pub arms_at : Dir → Held → Side → Option (List Event)
arms_at dir h Idle = Some (arming (stopped_held dir h))
arms_at dir h Waits = Some []
arms_at dir h Reported = None

abbrev pub after_stop : Dir → Asking → Asking
after_stop dir a = record { held = stopped_held dir a.held; over = arms_at dir a.held (side_held dir a.held) }

abbrev pub asking_at : Asking → Event → Asking
asking_at a (event.Recv w asked recv_answer.NotReady) = after_stop Read a
asking_at a (event.Send w offered send_answer.NotReady) = after_stop Write a
asking_at a e = a

-- nothing is asked once a visit is over
abbrev pub asking_next : Option Asking → Event → Option Asking
asking_next None e = None
asking_next (Some a) e = if is_some a.over then None else Some (asking_at a e)

abbrev pub asks : Option Asking → List Event → Option Asking
asks a [] = a
asks a (e ∷ events) = asks (asking_next a e) events

-- a visit that begins
abbrev pub begins : Held → Asking
begins h = record { held = h; over = None }
