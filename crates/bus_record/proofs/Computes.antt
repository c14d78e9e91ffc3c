-- What a small record computes with, named once.
use Rattle.std.proofs.Common.{ℕ}
use Rattle.std.specs.Fmt.{digits}
use Rattle.std.specs.Str.{is_utf8, chars}
use lib.Utf8.{encode}
use Rattle.hex.specs.Hex.{encode_with}
use Rattle.bus_opening.specs.Talk.{ask, ask_from, looked_from, left, talk}
use Rattle.bus_opening.specs.Client.{client}
use Rattle.bus_opening.specs.Server.{server}
use Rattle.bus_session.specs.Alone.{course}

unfoldable pub computes : ℕ
unfolding course ask ask_from looked_from left talk client server encode_with digits is_utf8 chars encode
computes = 0
