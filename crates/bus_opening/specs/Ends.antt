use Rattle.std.specs.Prelude.{Option, Some, None}
use Rattle.bus_opening.specs.declared.exchange.Stage.{Stage}
use Rattle.bus_opening.specs.declared.exchange.Stage.TheVariants as stage
use Rattle.bus_opening.specs.declared.verdict.Verdict.{Verdict}
use Rattle.bus_opening.specs.declared.verdict.Verdict.TheVariants as verdict

abbrev pub end_of : Stage → Option Verdict
end_of (stage.Done guid flag) = Some (verdict.Authenticated (record { guid = guid; cap_unix_fd = flag }))
end_of stage.Refused = Some verdict.Handshake
end_of _ = None
