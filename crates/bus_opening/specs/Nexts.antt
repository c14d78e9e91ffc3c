-- What is to be done where nothing waits.
use Rattle.std.specs.Prelude.{◌≡◌, ℕ, ◌<◌, ◌≤◌, length, Some, IsSome}
use Rattle.bus_opening.specs.Limits.{command_limit, line_limit}
use Rattle.bus_opening.specs.Lines.{feed_at}
use Rattle.bus_opening.specs.Talk.{opens, handshake, line_too_long, too_many_commands, recv}
use Rattle.bus_opening.specs.declared.verdict.Verdict.TheVariants as verdict
use Rattle.bus_opening.specs.declared.exchange.Next.{Next}
use Rattle.bus_opening.specs.declared.exchange.Next.TheVariants as next
use Rattle.bus_opening.specs.Standing.{asks}
use Rattle.bus_opening.specs.Parts.{place_of}
use Rattle.bus_opening.specs.Openings.{Opening, standing}

-- a line is to be looked at
pub record MayLook (o : Opening) (feed : ℕ) : Type 0 where
  pub open_yet : IsSome (place_of o.stage)
  pub quiet : length o.waiting ≡ 0
  pub few : o.count < command_limit
  pub at_feed : feed ≡ feed_at o.rest
  pub short : feed ≤ line_limit
  pub whole : feed < length o.rest

abbrev pub NextIs : Opening → Next → Type 0
NextIs o (next.Ends (verdict.Authenticated settled)) = asks (standing o) ≡ Some (opens settled.guid settled.cap_unix_fd)
NextIs o (next.Ends verdict.Handshake) = asks (standing o) ≡ Some handshake
NextIs o (next.Ends verdict.Io) = ⊥
NextIs o (next.Ends verdict.LineTooLong) = asks (standing o) ≡ Some line_too_long
NextIs o (next.Ends verdict.TooManyCommands) = asks (standing o) ≡ Some too_many_commands
NextIs o (next.Look feed) = MayLook o feed
NextIs o next.Read = (asks (standing o) ≡ Some recv) × (length o.rest ≤ line_limit)
