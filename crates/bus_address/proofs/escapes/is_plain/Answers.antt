use Rattle.std.proofs.Common.{arith}
use Rattle.bus_address.proofs.EscapeTables.{plain_entry}
use Rattle.bus_address.proofs.escapes.is_plain.Goals as goal

pub returns : goal.returns
returns c = rw c.from.ensures (plain_entry c.args.byte (omega arith))
