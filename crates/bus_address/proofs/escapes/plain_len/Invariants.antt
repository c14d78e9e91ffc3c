use Rattle.std.proofs.Common.{◌≡◌, true, take}
use Rattle.std.specs.List.{list_all}
use Rattle.bus_address.specs.Escapes.{is_plain}
use Rattle.bus_address.proofs.escapes.plain_len.Given as goal

abbrev pub invariant-loop-index : goal.invariant-loop-index
invariant-loop-index l = list_all is_plain (take l.index l.bytes) ≡ true
