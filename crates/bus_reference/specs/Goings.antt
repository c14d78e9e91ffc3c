-- How far a session has come, as it is defined.
use Rattle.std.specs.Prelude.{Bool, Option, Some}
use Rattle.std.specs.Option.{option_map}
use Rattle.react_core.specs.declared.reactor.Dir.{Dir}
use Rattle.bus_opening.specs.Talk.{Ask, opens, handshake, too_many_commands, line_too_long}
use Rattle.bus_session.specs.declared.ended.Ending.{Ending}
use Rattle.bus_session.specs.declared.ended.Ending.TheVariants as ending
use Rattle.bus_session.specs.declared.session.Party.{Party}
use Rattle.bus_session.specs.Outcomes as outcomes
use Rattle.bus_session.specs.Dialling.{conversation}
use Rattle.bus_session.specs.Alone.{dials, converses, over, pause_ends}
use Rattle.bus_session.specs.Alone as alones
use Rattle.bus_reference.specs.declared.going.Outcome.{Outcome}
use Rattle.bus_reference.specs.declared.going.Talked.{Talked}
use Rattle.bus_reference.specs.declared.going.Progress.{Progress}
use Rattle.bus_reference.specs.declared.going.Progress.TheVariants as progress
use Rattle.bus_reference.specs.declared.going.Course.{Course}
use Rattle.bus_reference.specs.Diallings.{as_opened, as_dialling}

abbrev pub as_outcome : Outcome → outcomes.Outcome
as_outcome o = record { ending = o.ending; written = o.written; leftover = o.leftover }

abbrev pub as_talked : Talked → alones.Talked
as_talked t = record { got = t.got; written = t.written; paused = t.paused }

-- the progress of this party
abbrev pub as_progress : Party → Progress → alones.Progress
as_progress p (progress.Dials d) = dials (as_dialling d)
as_progress p (progress.Converses o t) = converses (conversation p (as_opened o)) (as_talked t)
as_progress p (progress.Over o) = over (as_outcome o)

abbrev pub as_course : Course → alones.Course
as_course c = record { party = c.party.now; progress = as_progress c.party.now c.progress }

-- the ending of a conversation that is asked this, or that stopped at an answer that the wire is not ready, before or
-- after the deadline
abbrev pub ending_of : Bool → Ask → Option Dir → Option Ending
ending_of late (opens guid flag) paused = Some (ending.Open guid flag)
ending_of late handshake paused = Some ending.Handshake
ending_of late too_many_commands paused = Some ending.TooManyCommands
ending_of late line_too_long paused = Some ending.LineTooLong
ending_of late asked paused = option_map (λ dir. pause_ends late) paused
